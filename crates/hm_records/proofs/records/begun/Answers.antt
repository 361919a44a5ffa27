use Rattle.std.proofs.Common.{◌∷◌, subst, sym}
use Rattle.hm_model.specs.Journal.{Past}
use Rattle.hm_model.specs.Rules.{IsLegal}
use Rattle.hm_records.proofs.Begins.{few_first, leaves_none, makes_none}
use Rattle.hm_records.proofs.records.begun.Goals as goal

pub enter-requires-clause-legal : goal.enter-requires-clause-legal
enter-requires-clause-legal c = subst (λ (l : Past). IsLegal (c.args.entry.now ∷ l)) (sym c.in_ok-procedures.ensures) c.requires

pub enter-requires-clause-few : goal.enter-requires-clause-few
enter-requires-clause-few c = few_first c.args.entry.now c.in_ok-procedures.procedures.past c.requires c.in_ok-procedures.ensures

pub enter-requires-clause-made : goal.enter-requires-clause-made
enter-requires-clause-made c =
    let none = makes_none c.args.entry.now c.in_ok-procedures.procedures.past c.requires c.in_ok-procedures.ensures in
    cc

pub enter-requires-clause-left : goal.enter-requires-clause-left
enter-requires-clause-left c = leaves_none c.args.entry.now c.in_ok-procedures.procedures.past c.requires c.in_ok-procedures.ensures
