use Rattle.std.proofs.Common.{◌≡◌, Some, ap, subst, sym}
use Rattle.hm_model.specs.Journal.{Past}
use Rattle.hm_model.specs.Tree.{node_of}
use Rattle.hm_records.specs.Records.{RecordsView}
use Rattle.hm_records.proofs.records.Records.procedures_name_regions.Goals as goal

pub returns : goal.returns
returns c p node is =
    let J : Past = c.self.inside.procedures.past in
    let same : J ≡ c.args.self.now.past = ap (λ (v : RecordsView). v.past) c.self.view_is in
    c.ids_are_named.ensures.procedures J c.last_pid-legal.ensures.legal c.self.invariant.named p node (subst (λ (l : Past). node_of l p ≡ Some node) (sym same) is)
