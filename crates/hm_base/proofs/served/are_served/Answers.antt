use Rattle.std.proofs.Common.{refl, sym, ◌∙◌}
use Rattle.std.proofs.lemmas.Bool.{false≢true}
use Rattle.hm_model.specs.Standings.{is_live_in}
use Rattle.hm_base.specs.Whole.{IsServed}
use Rattle.hm_base.proofs.Each.{each_done, each_not, each_on}
use Rattle.hm_base.proofs.served.are_served.Goals as goal

pub loop-region-preserved : goal.loop-region-preserved
loop-region-preserved c =
    each_on (λ row. IsServed (is_live_in c.args.servers.now.servers) row.1) c.in-Some.field-0.now c.next.new.self c.loop-region._region-iterator c.args.places.now.places c.in-Some.ensures.steps
    (c.is_served.ensures.0 c.if-not-is_served.false) c.loop-region.invariant

pub returns-then-not-is_served : goal.returns-then-not-is_served
returns-then-not-is_served c =
    let not = each_not (λ row. IsServed (is_live_in c.args.servers.now.servers) row.1) c.in-Some.field-0.now c.next.new.self c.loop-region._region-iterator c.args.places.now.places c.in-Some.ensures.steps
    (λ here. false≢true (sym c.if-not-is_served.true ∙ c.is_served.ensures.1 here)) c.loop-region.invariant in
    (λ e. absurd (false≢true e), λ all. absurd (not all))

pub returns : goal.returns
returns c = (λ e. each_done (λ row. IsServed (is_live_in c.args.servers.now.servers) row.1) c.loop-region._region-iterator c.args.places.now.places c.in-None.ensures.steps.0 c.loop-region.invariant, λ all. refl)
