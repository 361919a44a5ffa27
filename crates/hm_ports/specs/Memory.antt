-- What contracts see of a source and of a sink in memory.
use Rattle.std.specs.Prelude.{ℕ, List}

-- what is left, the numbers of the calls that are to fail, the calls so far, and the faults
pub record SourceView : Type 0 where
  pub left : List ℕ
  pub fails : List ℕ
  pub calls : ℕ
  pub faults : ℕ

-- what it has got, how many bytes it has room for, and those numbers
pub record SinkView : Type 0 where
  pub got : List ℕ
  pub room : ℕ
  pub fails : List ℕ
  pub calls : ℕ
  pub faults : ℕ
