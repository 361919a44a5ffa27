-- What the stages of tasks tell.
use Rattle.std.specs.Prelude.{◌≡◌, ℕ, suc, ◌+◌, ◌*◌, ◌^◌, ◌<◌, List, [], ◌∷◌, Option, Some, None, slice_get}
use Rattle.hm_data.specs.declared.sheet.Sheet.{Sheet}
use Rattle.hm_data.specs.declared.entry.Entry.{Entry}
use Rattle.hm_data.specs.declared.entry.Entry.TheVariants as entry_is
use Rattle.hm_gate.specs.Total.{same}
use Rattle.hm_lend.specs.Hall.{Editions, HallView}
use Rattle.hm_model.specs.Locks.{IsIn}
use Rattle.hm_rows_workers.specs.declared.stage.Stage.{Stage}
use Rattle.hm_rows_workers.specs.declared.stage.Stage.TheVariants as stage_is

-- the numbers of the tasks that are out, where the first has the number k
abbrev pub outs_from : ℕ → List Stage → List ℕ
outs_from k [] = []
outs_from k (stage_is.Out ∷ stages) = k ∷ outs_from (suc k) stages
outs_from k (stage_is.Waits ∷ stages) = outs_from (suc k) stages
outs_from k (stage_is.Done ∷ stages) = outs_from (suc k) stages

-- the number by which the log is out, if it is, with so many entries
abbrev pub log_number : ℕ → Option ℕ → Option ℕ
log_number durable None = None
log_number durable (Some count) = Some (2 ^ 64 * (durable + 1) + count)

-- a list of this number, or of none
abbrev pub as_list : Option ℕ → List ℕ
as_list None = []
as_list (Some n) = n ∷ []

-- 1 for an entry with an answer of this task, else 0
abbrev pub of_task : ℕ → Entry → ℕ
of_task p (entry_is.Step pid pick out) = same p pid.0
of_task p entry = 0

-- how many answers of this task are recorded
abbrev pub answers_to : ℕ → List Entry → ℕ
answers_to p [] = 0
answers_to p (entry ∷ entries) = of_task p entry + answers_to p entries

-- a task may be taken: it is one of so many, nobody has it, and no answer of it is recorded
abbrev pub CanGo : ℕ → List Entry → List ℕ → ℕ → Type 0
CanGo wanted items claimed p = (p < wanted) × (IsIn p claimed → ⊥) × (answers_to p items ≡ 0)

-- one answer of each task is recorded
abbrev pub AllDone : ℕ → List Entry → Type 0
AllDone wanted items = (p : ℕ) → p < wanted → answers_to p items ≡ 1

-- 1 for a task that is done, else 0
abbrev pub has_done : Option Stage → ℕ
has_done None = 0
has_done (Some stage_is.Waits) = 0
has_done (Some stage_is.Out) = 0
has_done (Some stage_is.Done) = 1

-- one answer is recorded of each task whose stage is Done, and none of the others
abbrev pub AreSo : List Stage → List Entry → Type 0
AreSo stages items = (p : ℕ) → answers_to p items ≡ has_done (slice_get stages p)

-- each edition has these sheets
abbrev pub in_each : List Sheet → Editions
in_each sheets edition = Some sheets

-- what is seen of a hall of these tasks
abbrev pub view_of : List Entry → ℕ → Option ℕ → List Stage → List Sheet → HallView
view_of items durable lent stages sheets =
    record { items = items; durable = durable; claimed = outs_from 0 stages; lent = log_number durable lent; stopped = None; editions = in_each sheets }
