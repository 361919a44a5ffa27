use Rattle.std.proofs.Common.{rules, ◌∙◌, refl, arith, ap, length, set, ◌+◌, ◌%◌, []}
use Rattle.hm_timer.proofs.Turning.{ticked, turned}
use Rattle.hm_timer.proofs.Arrival.{comes_to, tick_length}
use Rattle.hm_timer.proofs.Counted.{both_counted}
use Rattle.hm_timer.proofs.Wheels.{place_known}
use Rattle.hm_timer.proofs.wheel.Wheel.advance.Goals as goal

pub wake-requires-clause-room : goal.wake-requires-clause-room
wake-requires-clause-room g c =
    let long = tick_length c.loop.self-inside.tick c.loop.self-inside.dues.items c.loop.self-inside.lists (set c.loop.self-inside.lists.lists ((c.loop.self-inside.tick + 1) % 512) []) c.loop.invariant.wheel refl in
    let room = c.loop.invariant.room in omega (arith, long, room)

pub loop-preserved : goal.loop-preserved
loop-preserved g c = record {
  wheel = ticked _ _ _ _ c.loop.invariant.wheel c.wake.ensures.lists c.wake.ensures.spare;
  now_is = (let e = c.loop.invariant.now_is in omega (arith, e));
  dues_are = c.loop.invariant.dues_are;
  memory_is = c.wake.ensures.memory ∙ c.loop.invariant.memory_is;
  count_is = c.loop.invariant.count_is;
  capacity_is = c.wake.ensures.capacity ∙ c.loop.invariant.capacity_is;
  turns = turned _ _ _ _ c.loop.self-inside.dues.items _ _ _ _ c.loop.invariant.wheel c.loop.invariant.turns c.wake.ensures.lists c.wake.ensures.woken;
  room = (
      let long = tick_length c.loop.self-inside.tick c.loop.self-inside.dues.items c.loop.self-inside.lists c.wake.new.lists.lists c.loop.invariant.wheel c.wake.ensures.lists in
      let room = c.loop.invariant.room in
      let more = c.wake.ensures.len in
      let wider = c.wake.ensures.capacity in
      omega (arith, long, room, more, wider));
  steps_are = (
      let was = c.loop.invariant.steps_are in
      let more = c.wake.ensures.len in
      let steps = c.wake.ensures.steps in
      omega (arith, was, more, steps));
}

pub overflow_sub-self : goal.overflow_sub-self
overflow_sub-self g c =
    let most = c.loop.auto.counter-end in
    let least = c.loop-test.false in
    let turns = c.min-turns.ensures in
    let there = comes_to _ _ _ c.args.to c.loop.counter _ _ _ _ _ _ _ c.self.view_is c.self.invariant.wheel c.loop.invariant.wheel c.loop.invariant.turns c.loop.invariant.now_is (omega (arith, most, least, turns)) (omega (arith, most, least, turns)) c.requires.later in
    let longer = there.longer in
    let both = both_counted c.args.to _ _ _ _ _ c.self.view_is in
    let was = c.self.invariant.all in
    let same = c.loop.invariant.count_is in
    omega (arith, longer, both, was, same)

pub invariant_of-self : goal.invariant_of-self
invariant_of-self g c =
    let most = c.loop.auto.counter-end in
    let least = c.loop-test.false in
    let turns = c.min-turns.ensures in
    let there = comes_to _ _ _ c.args.to c.loop.counter _ _ _ _ _ _ _ c.self.view_is c.self.invariant.wheel c.loop.invariant.wheel c.loop.invariant.turns c.loop.invariant.now_is (omega (arith, most, least, turns)) (omega (arith, most, least, turns)) c.requires.later in record {
      wheel = there.wheel;
      all = (
          let longer = there.longer in
          let left = ap length there.set_is in
          let both = both_counted c.args.to _ _ _ _ _ c.self.view_is in
          let was = c.self.invariant.all in
          let same = c.loop.invariant.count_is in
          omega (arith, longer, left, both, was, same));
    }

pub returns : goal.returns
returns g c =
    let most = c.loop.auto.counter-end in
    let least = c.loop-test.false in
    let turns = c.min-turns.ensures in
    let there = comes_to _ _ _ c.args.to c.loop.counter _ _ _ _ _ _ _ c.self.view_is c.self.invariant.wheel c.loop.invariant.wheel c.loop.invariant.turns c.loop.invariant.now_is (omega (arith, most, least, turns)) (omega (arith, most, least, turns)) c.requires.later in
    let longer = there.longer in
    let steps = c.loop.invariant.steps_are in record {
      now = refl;
      set = there.set_is;
      woken = there.woken_is;
      capacity = c.loop.invariant.capacity_is;
      steps = omega (arith, longer, steps, most, turns);
      known = place_known _ _ _ _ _ c.self.view_is c.self.invariant.wheel;
      spare = search rules;
      memory = search rules;
    }
