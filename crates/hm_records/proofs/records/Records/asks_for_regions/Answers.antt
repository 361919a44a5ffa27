use Rattle.std.proofs.Common.{◌≡◌, ◌∷◌, ap, subst, sym}
use Rattle.hm_data.specs.declared.entry.Entry.{Entry}
use Rattle.hm_model.specs.Journal.{Past}
use Rattle.hm_model.specs.Rules.{IsLegal}
use Rattle.hm_records.specs.Records.{RecordsView}
use Rattle.hm_records.proofs.Whole.{named_more}
use Rattle.hm_records.proofs.records.Records.asks_for_regions.Goals as goal

pub returns : goal.returns
returns c legal asks =
    let J : Past = c.self.inside.procedures.past in
    let entry : Entry = c.args.entry.now in
    let same : J ≡ c.args.self.now.past = ap (λ (v : RecordsView). v.past) c.self.view_is in
    c.ids_are_named.ensures.none entry J (subst (λ (l : Past). IsLegal (entry ∷ l)) (sym same) legal) (named_more entry J c.entry_names.ensures c.self.invariant.named) asks
