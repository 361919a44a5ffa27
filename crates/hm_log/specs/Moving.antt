-- What is known of a run of writes, and of a log while an image is moved into it.
use Rattle.std.specs.Prelude.{◌≡◌, ℕ, ◌+◌, ◌≤◌, List, [], ◌++◌, length}
use Rattle.hm_disk.specs.declared.disk.Disk as Disk
use Rattle.hm_disk.specs.Disk.{Torn, LeavesOnly}
use Rattle.hm_log.specs.Format.{image_of, place_bytes, IsFirst, IsMoved, RunsTo}

-- since `start` only bytes of one range were written: each image differs from the base there alone, as does what a stop left
pub record WritesWithin {D Setting : Type 0} (disk : Disk.Ghosts D Setting) (at n : ℕ) (base : List ℕ) (start now : D) : Type 0 where
  pub images : (c : List ℕ) → disk.image now c → Torn at n base c
  pub leaves : LeavesOnly disk.moment disk.left_since start now (λ c. Torn at n base c)

-- a run of writes within a range that holds these places goes on
abbrev pub KeepsWithin : {D Setting : Type 0} → Disk.Ghosts D Setting → (low high : ℕ) (old new : D) → Type 0
KeepsWithin {D} disk low high old new = (at n : ℕ) (base : List ℕ) (start : D) → at ≤ low → high ≤ at + n → WritesWithin disk at n base start old → WritesWithin disk at n base start new

-- an image of these frames and its place stand after a log, with bytes between that fill up to the place
abbrev pub IsStaged : List ℕ → List (List ℕ) → ℕ → List ℕ → Type 0
IsStaged log frames place bytes = (fill : List ℕ) × (length log + length fill ≡ place) × (bytes ≡ log ++ (fill ++ (image_of frames ++ place_bytes place)))

-- a moved log of these frames
abbrev pub IsMovedLog : List ℕ → List (List ℕ) → Type 0
IsMovedLog bytes frames = (front : List ℕ) × (body : List ℕ) × IsMoved bytes front body × RunsTo body frames []

-- a log of version 1 with these frames, whose closed gate is at this place, and nothing follows
pub record IsWholeFirst (bytes : List ℕ) (gate : ℕ) (frames : List (List ℕ)) : Type 0 where
  pub front : List ℕ
  pub body : List ℕ
  pub first : IsFirst bytes front body
  pub runs : RunsTo body frames []
  pub place : gate + 1 ≡ length bytes
