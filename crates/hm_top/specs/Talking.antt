-- What answering commands over a journal that was opened says and leaves.
use Rattle.std.specs.Prelude.{◌≡◌, ◌⊎◌, ℕ, List, [], length, Err}
use Rattle.hm_disk.specs.Called.{IsCalled}
use Rattle.hm_disk.specs.Disk.{LeavesThen}
use Rattle.hm_disk.specs.declared.disk.Disk as Disk
use Rattle.hm_log.specs.Format.{IsClean, Reads}
use Rattle.hm_log.specs.Opening.{IsInPlace, IsMaking, IsUsed}
use Rattle.hm_data.specs.declared.entry.Entry.{Entry}
use Rattle.hm_data.specs.declared.sheet.Sheet.{Sheet}
use Rattle.hm_journal.specs.Stored.{IsJournal, IsOnDisk, frames_of, opened}
use Rattle.hm_journal.specs.declared.limits.Limits.{Limits}
use Rattle.hm_script.specs.declared.command.Command.{Command}
use Rattle.hm_world.specs.Scene.{Scene}
use Rattle.hm_top.specs.declared.talking.Stop.{Stop}
use Rattle.hm_top.specs.declared.talking.Stop.TheVariants as stop_is
use Rattle.hm_top.specs.Answering.{IsAnswering}
use Rattle.hm_top.specs.Opening.{IsEndOf}
use Rattle.hm_top.specs.Standing.{fresh}
use Rattle.hm_top.specs.View.{StoreView}

-- what a stop may leave of a disk before its log was opened
abbrev pub early : {D Setting : Type 0} → Disk.Ghosts D Setting → D → List ℕ → Type 0
early d disk bytes = d.image disk bytes ⊎ IsMaking (d.seen disk) bytes

-- the disk's log was opened as a journal of these sheets
abbrev pub IsOpened : {D Setting : Type 0} → Disk.Ghosts D Setting → List Sheet → Limits → D → StoreView D → Type 0
IsOpened d sheets limits disk store =
    (old : List Entry) × IsJournal sheets old × (store.kept ≡ fresh limits (opened sheets old)) × (store.opened.count ≡ length old)
    × (d.tells → IsOnDisk sheets (d.seen disk) old × LeavesThen d.moment d.left_since disk store.opened.disk (early d disk) (λ c. Reads c (frames_of old)))

-- an opening let no count fall; it changed the disk once at most where its log needn't be moved, and not at all where it was clean
pub record IsCalledToOpen {D Setting : Type 0} (d : Disk.Ghosts D Setting) (old new : D) : Type 0 where
  pub used : IsUsed d old new
  pub once : d.tells → IsInPlace (d.seen old) → IsCalled d 1 old new
  pub clean : d.tells → IsClean (d.seen old) → IsCalled d 0 old new

-- no line was said, and nothing was done; or it was an early end
abbrev pub StopsBy : (tells : Type 0) (before after : List ℕ) → Stop → List Command → Scene → List ℕ → Scene → Type 0
StopsBy tells before after stop_is.NoRoom commands old marks new = (marks ≡ []) × (new ≡ old) × (tells → after ≡ before)
StopsBy tells before after (stop_is.Early end) commands old marks new = IsAnswering tells before after (Err end) commands old marks new × IsEndOf end new
