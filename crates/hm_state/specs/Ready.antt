-- An entry for which there is room, as callers see it.
use Rattle.hm_data.specs.declared.entry.Entry.{Entry}
use Rattle.hm_model.specs.Journal.{Past}

-- the entry, and the journal that it was made ready for, back from its newest entry
pub record ReadyView : Type 0 where
  pub entry : Entry
  pub past : Past
