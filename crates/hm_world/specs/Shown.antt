-- The storage of a journal, as far as it is built.
use Rattle.std.specs.Prelude.{◌≡◌, ℕ, List, None, Bool, true, false, ◌==◌, ◌&&◌, ◌||◌}
use Rattle.std.specs.List.{list_any}
use Rattle.hm_names.specs.Server.{Server}
use Rattle.hm_names.specs.declared.pid.Pid.{Pid}
use Rattle.hm_model.specs.Storages.{Storage, fence_in}
use Rattle.hm_model.specs.Fleet.{is_fenced, same_server}
use Rattle.hm_model.specs.Journal.{Past}
use Rattle.hm_model.specs.declared.standing.Standing.{Standing}
use Rattle.hm_world_model.specs.Layouts.{laid_below}

-- a server is fenced, if that is wanted
abbrev pub fence_if : Bool → Server → Storage → Storage
fence_if false server storage = storage
fence_if true server storage = fence_in server storage

-- the storage with the fences of a journal, and with these layouts
abbrev pub with_laid : Past → (Pid → Bool) → Storage
with_laid J laid = record { answer = λ id. None; fenced = is_fenced J; laid = laid; refusals = 0 }

-- the storage with the fences of a journal, and the layouts that the base and the reports of the procedures with a number below n show
abbrev pub shown_below : Past → ℕ → Storage
shown_below J n = with_laid J (λ root. laid_below J n root.0)

-- a server is fenced, as some rows say
abbrev pub fenced_among : List (Server × Standing) → Server → Bool
fenced_among rows server = list_any (λ row. same_server row.0 server && row.1.fenced) rows

-- a storage with these fences alone
abbrev pub with_fences : (Server → Bool) → Storage
with_fences fenced = record { answer = λ id. None; fenced = fenced; laid = λ root. false; refusals = 0 }

-- a storage with the fences of a journal alone, but for those that some rows say
abbrev pub IsFencedBut : Past → List (Server × Standing) → Storage → Type 0
IsFencedBut J rows storage =
    (storage ≡ with_fences storage.fenced) × ((server : Server) → (fenced_among rows server || storage.fenced server) ≡ is_fenced J server)

-- the layout of a root is among these
abbrev pub laid_among : List Pid → Pid → Bool
laid_among roots root = list_any (λ own. own.0 == root.0) roots
