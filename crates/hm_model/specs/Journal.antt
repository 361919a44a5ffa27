-- A journal, back from its newest entry.
use Rattle.std.specs.Prelude.{List, reverse}
use Rattle.hm_data.specs.declared.entry.Entry.{Entry}

-- entries back from the newest
abbrev pub Past : Type 0
Past = List Entry

-- a journal, which is kept from the oldest entry on, read back from its newest
abbrev pub back : List Entry → Past
back journal = reverse journal
