use Rattle.std.proofs.Common.{◌∙◌, ap, sym, subst}
use Rattle.hm_index.specs.Index.{IsRising}
use Rattle.hm_names.specs.Order.{region_cmp}
use Rattle.hm_server.specs.Actors.{ActorView, AreHeldBy, actor_of, held_in}
use Rattle.hm_server.proofs.Holds.{held_rises, held_exact}
use Rattle.hm_server.proofs.actor.Actor.held.Goals as goal

pub returns-clause-list : goal.returns-clause-list
returns-clause-list c = c.new.ensures ∙ ap held_in (c.each_of.ensures.pairs ∙ ap (λ (t : ActorView). t.duties) c.self.view_is)

pub returns-clause-held : goal.returns-clause-held
returns-clause-held c =
    let duties = ap (λ (t : ActorView). t.duties) c.self.view_is in
    let rising = subst (IsRising region_cmp) duties c.each_of.ensures.rising in
    subst (AreHeldBy (actor_of c.args.self.now)) (sym (c.new.ensures ∙ ap held_in (c.each_of.ensures.pairs ∙ duties)))
    (held_rises c.args.self.now.duties rising, held_exact c.args.self.now.duties rising)
