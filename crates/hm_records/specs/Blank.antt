-- What stands beside the procedures after the first entry.
use Rattle.std.specs.Prelude.{◌≡◌, [], ◌∷◌}
use Rattle.hm_data.specs.declared.entry.Entry.{Entry}
use Rattle.hm_catalog.specs.Rows.{rows_in}
use Rattle.hm_records.specs.declared.blank.Blank.{Blank}
use Rattle.hm_records.specs.declared.blank.BlankCount.{BlankCount}
use Rattle.hm_records.specs.declared.blank.BlankFleet.{BlankFleet}
use Rattle.hm_records.specs.declared.blank.BlankRows.{BlankRows}

-- the catalog has the rows that it begins with, and there is no step to undo
pub record AreBlankRows (entry : Entry) (blank : BlankRows) : Type 0 where
  pub rows : (let catalog = blank.catalog in catalog.rows) ≡ rows_in (entry ∷ [])
  pub stacks : (let stack = blank.stack in stack.stacks) ≡ []

-- there is no place and no server
pub record IsBlankFleet (blank : BlankFleet) : Type 0 where
  pub places : (let places = blank.places in places.places) ≡ []
  pub servers : (let servers = blank.servers in servers.servers) ≡ []

-- there is no nonce, and no number of drawn ids
pub record IsBlankCount (blank : BlankCount) : Type 0 where
  pub nonces : (let nonces = blank.nonces in nonces.pairs) ≡ []
  pub drawn : (let drawn = blank.drawn in drawn.pairs) ≡ []

-- nothing else stands yet
pub record IsBlank (entry : Entry) (blank : Blank) : Type 0 where
  pub rows : AreBlankRows entry blank.rows
  pub fleet : IsBlankFleet blank.fleet
  pub count : IsBlankCount blank.count
  pub book : (let book = blank.book in book.rows) ≡ []
