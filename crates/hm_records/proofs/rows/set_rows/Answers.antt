use Rattle.std.proofs.Common.{ap, ◌∙◌}
use Rattle.hm_data.specs.declared.entry.Entry.{Entry}
use Rattle.hm_model.specs.Journal.{Past}
use Rattle.hm_catalog.specs.Rows.{with_edits, with_entry}
use Rattle.hm_records.proofs.Edits.{edited}
use Rattle.hm_records.proofs.rows.set_rows.Goals as goal

pub returns-clause-rows : goal.returns-clause-rows
returns-clause-rows c =
    let J : Past = c.args.past.now.past in
    let entry : Entry = c.args.entry.now in
    c.set_all.ensures.rows
    ∙ ap (λ edits. with_edits edits c.args.catalog.now.rows) c.requires.edits
    ∙ edited entry J c.requires.legal c.requires.begun c.args.catalog.now.rows
    ∙ ap (with_entry entry) c.requires.rows
    ∙ c.edits_lead.ensures.entries entry J
