-- What contracts see of a disk over a file.
use Rattle.std.specs.Prelude.{ℕ, pos, ◌≤ℤ◌}
use Rattle.std.specs.Fd.{file_raw_fd}
use Rattle.std.specs.declared.fs.File.{File}

-- how often a call has failed, and how many calls of `write_at` and `cut` there were
pub record FileView : Type 0 where
  pub faults : ℕ
  pub changes : ℕ

-- its descriptor is none of the three that the standard streams have
abbrev pub IsOwn : File → Type 0
IsOwn file = pos 3 ≤ℤ file_raw_fd file
