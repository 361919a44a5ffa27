use Rattle.std.proofs.Common.{◌∷◌, subst}
use Rattle.hm_model.specs.Journal.{Past}
use Rattle.hm_roster.specs.Roster.{IsEnlistedFor}
use Rattle.hm_exec.proofs.Makes.{makes}
use Rattle.hm_exec.proofs.making.enlist_and_enter.Goals as goal

pub enlist-requires-clause-next : goal.enlist-requires-clause-next
enlist-requires-clause-next g c =
    let ready = c.args.ready in
    (ready.entry, makes c.args.state.now.past c.records.result.now.past ready.past ready.entry c.made.result.now c.args.parent c.records.ensures c.requires.past c.requires.allowed c.requires.other c.made.ensures c.requires.parent)

pub enter-requires-clause-enlisted : goal.enter-requires-clause-enlisted
enter-requires-clause-enlisted g c =
    let ready = c.args.ready in
    subst (λ (J : Past). IsEnlistedFor (ready.entry ∷ J) ready.entry c.enlist.new.desk) c.records.ensures
    (c.in-Ok.ensures.ok ready.entry (makes c.args.state.now.past c.records.result.now.past ready.past ready.entry c.made.result.now c.args.parent c.records.ensures c.requires.past c.requires.allowed c.requires.other c.made.ensures c.requires.parent))
