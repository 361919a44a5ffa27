use Rattle.std.proofs.Common.{rules, ◌∙◌}
use Rattle.hm_gate.proofs.Chairs.{out-in}
use Rattle.hm_gate.proofs.Ends.{glues, joined-seen, joined-seen-else, joined-hand, joined-parts}
use Rattle.hm_gate.proofs.Keeps.{hand-out}
use Rattle.hm_gate.proofs.gate.Gate.join_seat.Goals as goal

pub join_seat-requires : goal.join_seat-requires
join_seat-requires g c =
    let k = g.V.Kept in
    let out = out-in _ _ c.seat.view_is c.requires.out.0 in
    let other_out = out-in _ _ c.other.view_is c.requires.out.1 in (
      search rules,
      search rules,
      c.other.invariant.handed ∙ hand-out c.other.inside.place.me.0 other_out,
      search rules,
      glues k.shown _ _ _ _ _ _ out other_out c.seat.invariant.unspent,
    )

pub invariant_of-seat : goal.invariant_of-seat
invariant_of-seat g c = let v = c.seat.inside.place.me.0 in let w = c.other.inside.place.me.0 in let l = c.seat.inside.place.me.1 in let e = c.join_seat.ensures.2 in record {
  counted = joined-seen c.join_seat.new.seat.me v w l _ _ c.seat.invariant.counted c.other.invariant.counted e c.if-seat-seen.true;
  handed = joined-hand c.join_seat.new.seat.me v w l c.seat.invariant.handed e;
  unspent = joined-parts c.join_seat.new.seat.me v w l c.seat.invariant.unspent e;
}

pub invariant_of-seat-else-seat-seen : goal.invariant_of-seat-else-seat-seen
invariant_of-seat-else-seat-seen g c = let v = c.seat.inside.place.me.0 in let w = c.other.inside.place.me.0 in let l = c.seat.inside.place.me.1 in let e = c.join_seat.ensures.2 in record {
  counted = joined-seen-else c.join_seat.new.seat.me v w l _ _ c.seat.invariant.counted c.other.invariant.counted e c.if-seat-seen.false;
  handed = joined-hand c.join_seat.new.seat.me v w l c.seat.invariant.handed e;
  unspent = joined-parts c.join_seat.new.seat.me v w l c.seat.invariant.unspent e;
}
