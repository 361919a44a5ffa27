use Rattle.std.proofs.Common.{◌∙◌, ap, sym, arith}
use Rattle.hm_world_model.specs.Outside.{answer_of_actor, behind_call}
use Rattle.hm_fleet.specs.Crew.{address_of}
use Rattle.hm_fleet.proofs.Running.{at_place, becomes_at}
use Rattle.hm_fleet.proofs.crew.Crew.serve.Goals as goal

pub index_mut-requires : goal.index_mut-requires
index_mut-requires c =
    let lt = c.self.invariant.within (address_of c.args.server.now) c.in-Some.place (sym c.get.ensures ∙ sym c.in-Some.ensures) in
    omega (arith, lt, c.self.inside.slots.ok.0)

pub returns-in_ok-report-in-Some-clause-report : goal.returns-in_ok-report-in-Some-clause-report
returns-in_ok-report-in-Some-clause-report c =
    let f = c.self.inside in
    let found = sym c.get.ensures ∙ sym c.in-Some.ensures in
    let lt = c.self.invariant.within (address_of c.args.server.now) c.in-Some.place found in
    rw (← c.self.view_is) (c.in_ok-report-in-Some.ensures.report ∙ ap (λ a. answer_of_actor a c.args.call.now) (at_place f.places.pairs f.slots.items c.args.server.now c.in-Some.place c.index_mut.result.now found lt c.index_mut.ensures.value))

pub returns-in_ok-report-in-Some-clause-actors : goal.returns-in_ok-report-in-Some-clause-actors
returns-in_ok-report-in-Some-clause-actors c =
    let f = c.self.inside in
    let found = sym c.get.ensures ∙ sym c.in-Some.ensures in
    let lt = c.self.invariant.within (address_of c.args.server.now) c.in-Some.place found in
    rw (← c.self.view_is) (becomes_at f.places.pairs f.slots.items c.args.server.now c.in-Some.place c.index_mut.result.now c.serve_at.new.slot (λ a. behind_call a c.args.call.now) found lt c.index_mut.ensures.value c.in_ok-report-in-Some.ensures.slot)
