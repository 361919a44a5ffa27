-- What callers see of a log, and what is kept of its fields.
use Rattle.std.specs.Prelude.{◌≡◌, ℕ, ◌+◌, ◌^◌, ◌<◌, ◌≤◌, Bool, false, List, length}
use Rattle.hm_disk.specs.Disk.{Only}
use Rattle.hm_log.specs.Format.{Reads, IsWhole, frames_of}

-- a log: its disk, the frames that it reads as, its size, whether it is stalled, and the room that was made for appends
pub record LogView (D : Type 0) : Type 0 where
  pub disk : D
  pub frames : List (List ℕ)
  pub bytes : ℕ
  pub stalled : Bool
  pub room : ℕ

-- It reads as its frames. While it isn't stalled, the closed gate stands after them, and all is on the disk.
pub record IsLog (tells : Type 0) (seen : List ℕ) (image : List ℕ → Type 0) (gate count : ℕ) (stalled : Bool) (room : ℕ) : Type 0 where
  pub has_room : 65542 ≤ room
  pub fits : gate + 1 < 2 ^ 64
  pub fewer : count ≤ gate
  pub reads : tells → Reads seen (frames_of seen)
  pub only : stalled ≡ false → Only seen image
  pub whole : tells → stalled ≡ false → IsWhole seen gate (frames_of seen)
  pub counted : tells → stalled ≡ false → count ≡ length (frames_of seen)
