-- How a run stands with a cluster, and what is left of one.
use Rattle.std.specs.Prelude.{◌≡◌, ℕ, List, []}
use Rattle.hm_disk.specs.declared.disk.Disk as Disk
use Rattle.hm_model.specs.Base.{IsBegun}
use Rattle.hm_model.specs.Journal.{back}
use Rattle.hm_model.specs.Rules.{IsLegal}
use Rattle.hm_journal.specs.Opened.{Opened}
use Rattle.hm_journal.specs.Since.{Since}
use Rattle.hm_journal.specs.Stored.{AllStored}
use Rattle.hm_journal.specs.View.{JournalView}
use Rattle.hm_world.specs.Scene.{Scene, WorldView, scene_of}
use Rattle.hm_commands.specs.Scenes.{kept_at, whole}

-- how a run stands with a world over a journal
abbrev pub scene_in : {D : Type 0} → WorldView (JournalView D) → Scene
scene_in world = scene_of (λ journal. journal.kept) world

-- nobody is claimed
abbrev pub IsIdle : List ℕ → Type 0
IsIdle claimed = claimed ≡ []

-- the disk that such a run left: what it holds, what was done to it since its journal was opened, and that its journal is
-- legal and has begun
pub record IsLeftBy {D Setting : Type 0} (disk : Disk.Ghosts D Setting) (opened : Opened D) (at : Scene) (new : D) : Type 0 where
  pub stored : disk.tells → AllStored (disk.image new) (kept_at at)
  pub since : (let kept = kept_at at in Since disk opened new kept.entries kept.tail kept.halted)
  pub legal : IsLegal (back (whole at))
  pub begun : IsBegun (back (whole at))
