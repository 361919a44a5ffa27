use Rattle.std.proofs.Common.{subst, sym}
use Rattle.hm_data.specs.declared.entry.Entry.{Entry}
use Rattle.hm_model.specs.Journal.{Past}
use Rattle.hm_records.specs.Records.{AreRecords, Beside}
use Rattle.hm_records.proofs.Begins.{begins}
use Rattle.hm_records.proofs.records.Records.begin.Goals as goal

pub invariant_of-result : goal.invariant_of-result
invariant_of-result c =
    let entry : Entry = c.args.entry.now in
    let beside : Beside = record {
      rows = c.in_ok-blank.blank.rows.catalog.rows;
      stacks = c.in_ok-blank.blank.rows.stack.stacks;
      places = c.in_ok-blank.blank.fleet.places.places;
      servers = c.in_ok-blank.blank.fleet.servers.servers;
      nonces = c.in_ok-blank.blank.count.nonces.pairs;
      drawn_ids = c.in_ok-blank.blank.count.drawn.pairs;
      sheets = c.in_ok-lists.lists.sheets;
      layouts = c.in_ok-lists.lists.layouts;
      root_nonces = c.in_ok-lists.lists.root_nonces;
      book = c.in_ok-blank.blank.book.rows;
    } in
    let made = c.in_ok-blank.ensures in
    subst (λ (l : Past). AreRecords l beside) (sym c.in_ok-procedures.ensures)
    (begins beside made.rows.stacks made.fleet.places made.fleet.servers made.count.nonces made.count.drawn made.book entry c.requires.legal made.rows.rows c.in_ok-lists.ensures.sheets c.in_ok-lists.ensures.layouts c.in_ok-lists.ensures.root_nonces)
