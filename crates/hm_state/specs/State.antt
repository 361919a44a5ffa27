-- The state of a journal, and what it tells.
use Rattle.std.specs.Prelude.{◌≡◌, ℕ, ◌^◌, ◌<◌}
use Rattle.hm_model.specs.Base.{IsBegun}
use Rattle.hm_model.specs.Image.{counted}
use Rattle.hm_model.specs.Journal.{Past}
use Rattle.hm_model.specs.Rules.{IsLegal}

-- the journal, back from its newest entry, for how much more there is room, and how much memory there is
pub record StateView : Type 0 where
  pub past : Past
  pub spare : ℕ
  pub room : ℕ

-- the journal is legal and has begun, and its entries are counted, with those that its base stands for
pub record IsState (past : Past) (count : ℕ) : Type 0 where
  pub legal : IsLegal past
  pub begun : IsBegun past
  pub count_is : count ≡ counted past
  pub small : count < 2 ^ 63
