-- What contracts see of a source over a reader and of a sink over a writer.
use Rattle.std.specs.Prelude.{ℕ}

-- the reader or writer, and how often a call of it has failed
pub record StdView (T : Type 0) : Type 0 where
  pub inner : T
  pub faults : ℕ
