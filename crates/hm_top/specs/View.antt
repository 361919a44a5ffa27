-- What callers see of a journal that was opened.
use Rattle.std.specs.Prelude.{◌≡◌, None}
use Rattle.hm_hall.specs.Recording.{Recording, past_in}
use Rattle.hm_journal.specs.Opened.{Opened}
use Rattle.hm_model.specs.Journal.{Past}

-- the disk, how its journal was opened, and what is recorded
pub record StoreView (D : Type 0) : Type 0 where
  pub disk : D
  pub opened : Opened D
  pub kept : Recording

-- the state is that of the journal that is recorded, nothing halted their recorder, and no recording failed
pub record IsStore (past : Past) (kept : Recording) : Type 0 where
  pub same : past ≡ past_in kept
  pub going : kept.halted ≡ None
  pub tailless : kept.tail ≡ None
