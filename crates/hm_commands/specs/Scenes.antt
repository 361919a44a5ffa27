-- How a run stands: what its world has.
use Rattle.std.specs.Prelude.{◌≡◌, ◌↔◌, ℕ, List, [], Option}
use Rattle.hm_data.specs.declared.entry.Entry.{Entry}
use Rattle.hm_hall.specs.Recording.{Recording}
use Rattle.hm_hall.specs.declared.fault.Halt.{Halt}
use Rattle.hm_model.specs.Journal.{back}
use Rattle.hm_model.specs.Locks.{IsIn}
use Rattle.hm_world_model.specs.Outside.{nobody}
use Rattle.hm_world_model.specs.World.{shown_storage}
use Rattle.hm_journal.specs.Since.{with_tail}
use Rattle.hm_world.specs.Carrying.{OnlyExec}
use Rattle.hm_world.specs.Scene.{Scene}

-- what is recorded there
abbrev pub kept_at : Scene → Recording
kept_at at = let exec = at.exec in exec.kept

-- the journal, from its oldest entry on: the parts of a base first
abbrev pub journal_at : Scene → List Entry
journal_at at = let kept = kept_at at in kept.entries

-- what halted it
abbrev pub halt_at : Scene → Option Halt
halt_at at = let kept = kept_at at in kept.halted

-- who is claimed
abbrev pub claimed_at : Scene → List ℕ
claimed_at at = let exec = at.exec in exec.claimed

-- the journal, and the entry whose recording failed
abbrev pub whole : Scene → List Entry
whole at = let kept = kept_at at in with_tail kept.entries kept.tail

-- what is recorded where a journal was just opened: nobody runs but the storage, as the journal shows it, and nothing is under way
abbrev pub new_scene : Recording → Scene
new_scene kept = record {
  exec = record { kept = kept; claimed = [] };
  outside = nobody (shown_storage (back kept.entries));
  wire = [];
  waiting = [];
}

-- this one alone is among them
abbrev pub IsOnly : ℕ → List ℕ → Type 0
IsOnly p claimed = (q : ℕ) → IsIn q claimed ↔ (q ≡ p)

-- nothing was recorded, and nothing outside changed
abbrev pub IsUnrecorded : Scene → Scene → Type 0
IsUnrecorded old new = (kept_at new ≡ kept_at old) × OnlyExec old new
