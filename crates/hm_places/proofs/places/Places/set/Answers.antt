use Rattle.std.proofs.Common.{ap}
use Rattle.hm_places.specs.Places.{PlacesView}
use Rattle.hm_places.proofs.AtServers.{set_held}
use Rattle.hm_places.proofs.Told.{told_set}
use Rattle.hm_places.proofs.places.Places.set.Goals as goal

pub invariant_of-self : goal.invariant_of-self
invariant_of-self c =
    let f = c.self.inside in
    record {
      rising = c.put-number.ensures.rising;
      held = rw c.add_at.ensures.items (set_held f.rows.came f.rows.pairs c.let_go.new.held.items c.args.region c.args.place c.put-number.result c.put-number.new.self.came c.put-number.new.self.pairs c.let_go.ensures.held
          c.put-number.ensures.came c.put-number.ensures.same c.put-number.ensures.pairs c.spot_for-spot.result (rw c.deref.ensures.value at c.spot_for-spot.ensures));
      offline = c.self.invariant.offline;
    }

pub returns-clause-places : goal.returns-clause-places
returns-clause-places c =
    let f = c.self.inside in
    let same = ap (λ (t : PlacesView). t.places) c.self.view_is in
    rw (← same) (told_set f.rows.pairs c.put-number.new.self.pairs c.args.region c.args.place c.put-number.ensures.pairs)
