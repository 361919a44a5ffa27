-- What a flush leaves on the way.
use Rattle.std.specs.Prelude.{◌≡◌, ℕ, ◌+◌, ◌*◌, ◌-◌, ◌^◌, ◌≤◌, min, List, ◌∷◌, ◌++◌, length, take}
use Rattle.hm_disk.specs.declared.disk.Disk as Disk
use Rattle.hm_log.specs.Format.{Reads}
use Rattle.hm_log.specs.Run.{BeforeOrAll}
use Rattle.hm_log.specs.View.{LogView}
use Rattle.hm_batch.specs.Pieces.{in_order}

-- it reads as these frames and those of the first of the pieces, none of them in part
abbrev pub ReadsWithFirst : List (List ℕ) → List (List (List ℕ)) → List ℕ → Type 0
ReadsWithFirst frames pieces bytes = (k : ℕ) × (k ≤ length pieces) × Reads bytes (frames ++ in_order (take k pieces))

-- The first pieces were written, with two changes of the disk for each, and the next one failed, with two at most: of that one a stop
-- leaves no frame or all.
pub record BreaksOff {D Setting : Type 0} (disk : Disk.Ghosts D Setting) (pieces : List (List (List ℕ))) (old new : LogView D) : Type 0 where
  pub written : List (List (List ℕ))
  pub failed : List (List ℕ)
  pub others : List (List (List ℕ))
  pub split : pieces ≡ written ++ failed ∷ others
  pub least : min (disk.changes old.disk + 2 * length written) (2 ^ 64 - 1) ≤ disk.changes new.disk
  pub most : disk.changes new.disk ≤ disk.changes old.disk + 2 * length written + 2
  pub leaves : disk.tells → (c : List ℕ) → disk.image new.disk c → BeforeOrAll (old.frames ++ in_order written) failed c
