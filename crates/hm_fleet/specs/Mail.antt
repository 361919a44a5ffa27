-- What was ever sent, as it is kept.
use Rattle.std.specs.Prelude.{ℕ, List}

-- all that was ever sent, from the oldest on; what of it travels, the oldest first; for how many more there is room; and how
-- many more may travel
pub record MailView (T : Type 0) : Type 0 where
  pub all : List T
  pub travels : List T
  pub spare : ℕ
  pub room : ℕ
