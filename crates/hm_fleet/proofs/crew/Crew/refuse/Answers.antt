use Rattle.std.proofs.Common.{◌∙◌, sym, arith}
use Rattle.std.specs.Option.{option_map}
use Rattle.hm_world_model.specs.Outside.{refusing}
use Rattle.hm_fleet.specs.Crew.{address_of}
use Rattle.hm_fleet.proofs.Running.{becomes_at}
use Rattle.hm_fleet.proofs.crew.Crew.refuse.Goals as goal

pub index_mut-requires : goal.index_mut-requires
index_mut-requires c =
    let lt = c.self.invariant.within (address_of c.args.server.now) c.in-Some.place (sym c.get.ensures ∙ sym c.in-Some.ensures) in
    omega (arith, lt, c.self.inside.slots.ok.0)

pub returns-in-Some-clause-actors : goal.returns-in-Some-clause-actors
returns-in-Some-clause-actors c =
    let f = c.self.inside in
    let found = sym c.get.ensures ∙ sym c.in-Some.ensures in
    let lt = c.self.invariant.within (address_of c.args.server.now) c.in-Some.place found in
    rw (← c.self.view_is) (becomes_at f.places.pairs f.slots.items c.args.server.now c.in-Some.place c.index_mut.result.now c.refuse_at.new.slot (option_map (refusing c.args.count)) found lt c.index_mut.ensures.value c.refuse_at.ensures)
