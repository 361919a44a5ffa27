use Rattle.std.proofs.Common.{refl, rules, ◌∙◌}
use Rattle.hm_workers.proofs.Running.{knows_still, part_on, ran_first, ran_on}
use Rattle.hm_workers.proofs.working.work.Goals as goal

pub turn-requires-clause-knows : goal.turn-requires-clause-knows
turn-requires-clause-knows g c =
    let k = knows_still g.H.Hall.editions_in c.args.seat.now.view c.loop.seat.view (g.S.Serves.editions c.args.hands.now) (g.S.Serves.editions c.loop.hands) c.loop.invariant.editions c.loop.invariant.part c.requires.knows in search (rules, k)

pub loop-init : goal.loop-init
loop-init g c = record {
  ready = c.requires.ready;
  free = c.requires.free;
  part = record { parts = refl; seats = refl; opening = refl; terms = refl };
  editions = refl;
  ran = ran_first (g.S.Serves.editions c.args.hands.now) c.args.seat.now.view.mine (g.S.Serves.runs c.args.hands.now);
  stopped = λ was. was;
}

pub loop-preserved : goal.loop-preserved
loop-preserved g c = record {
  ready = c.turn.ensures.ready;
  free = c.turn.ensures.free;
  part = part_on c.args.seat.now.view c.loop.seat.view c.turn.new.seat.view c.loop.invariant.part c.turn.ensures.part;
  editions = c.turn.ensures.editions ∙ c.loop.invariant.editions;
  ran = ran_on (g.S.Serves.editions c.args.hands.now) (g.S.Serves.editions c.loop.hands) c.args.seat.now.view.mine c.loop.seat.view.mine c.turn.new.seat.view.mine _ _ _ c.loop.invariant.editions c.loop.invariant.ran c.turn.ensures.ran;
  stopped = λ was. absurd (let e = c.in-Ok.ensures.shut (c.loop.invariant.stopped was) in cc);
}

pub returns-in-Err-clause-ran : goal.returns-in-Err-clause-ran
returns-in-Err-clause-ran g c =
    ran_on (g.S.Serves.editions c.args.hands.now) (g.S.Serves.editions c.loop.hands) c.args.seat.now.view.mine c.loop.seat.view.mine c.turn.new.seat.view.mine _ _ _ c.loop.invariant.editions c.loop.invariant.ran c.turn.ensures.ran

pub returns-in-Err-clause-shut : goal.returns-in-Err-clause-shut
returns-in-Err-clause-shut g c = λ was. let e = c.in-Err.ensures.shut (c.loop.invariant.stopped was) in cc
