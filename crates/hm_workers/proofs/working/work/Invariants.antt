use Rattle.std.proofs.Common.{◌≡◌, true}
use Rattle.hm_gate.specs.Ready.{IsReady}
use Rattle.hm_workers.specs.Ends.{IsFree, IsSamePart}
use Rattle.hm_workers.specs.Ran.{RanFor}
use Rattle.hm_workers.proofs.working.work.Given as goal

abbrev pub invariant-loop : goal.invariant-loop
invariant-loop g l = record {
  ready : IsReady (g.G.Door.table l.gate) l.seat;
  free : IsFree l.seat.view;
  part : IsSamePart l.initial.seat.view l.seat.view;
  editions : g.S.Serves.editions l.hands ≡ g.S.Serves.editions l.initial.hands;
  ran : RanFor (g.S.Serves.editions l.initial.hands) l.initial.seat.view.mine l.seat.view.mine (g.S.Serves.runs l.initial.hands) (g.S.Serves.runs l.hands);
  stopped : l.initial.seat.view.stopped ≡ true → l.seat.view.stopped ≡ true;
}
