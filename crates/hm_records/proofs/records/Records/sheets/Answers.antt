use Rattle.std.proofs.Common.{◌≡◌, ap, ◌∙◌}
use Rattle.hm_model.specs.Journal.{Past}
use Rattle.hm_model.specs.Sheets.{sheets_of}
use Rattle.hm_records.specs.Records.{RecordsView}
use Rattle.hm_records.proofs.Editions.{last_sheets}
use Rattle.hm_records.proofs.records.Records.sheets.Goals as goal

pub returns : goal.returns
returns c =
    let J : Past = c.self.inside.procedures.past in
    let same : J ≡ c.args.self.now.past = ap (λ (v : RecordsView). v.past) c.self.view_is in
    last_sheets J c.self.inside.lists.sheets c.self.invariant.sheets_are c.editions.result c.editions.ensures c.sheets_of.result.now c.sheets_of.ensures ∙ ap sheets_of same
