use Rattle.std.proofs.Common.{sym, arith}
use Rattle.hm_fleet.specs.Crew.{address_of}
use Rattle.hm_fleet.proofs.crew.Crew.get.Goals as goal

pub index-requires : goal.index-requires
index-requires c =
    let f = c.self.inside in
    let lt = c.self.invariant.within (address_of c.args.server.now) c.in-Some.place.now (sym c.in-Some.ensures) in
    omega (arith, lt, f.slots.ok.0)
