-- How a journal was opened.
use Rattle.std.specs.Prelude.{ℕ}

-- a journal as it was opened: its disk then, and how many entries that had, the parts of a base among them
pub record Opened (D : Type 0) : Type 0 where
  pub disk : D
  pub count : ℕ
