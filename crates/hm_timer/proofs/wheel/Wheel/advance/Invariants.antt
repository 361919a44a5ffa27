use Rattle.std.proofs.Common.{◌≡◌, ◌+◌, ◌≤◌, length, vec_len}
use Rattle.std.specs.Vec.{vec_capacity}
use Rattle.hm_timer.specs.Timers.{timers, IsWheel}
use Rattle.hm_timer.proofs.Turning.{Turns}
use Rattle.hm_timer.proofs.wheel.Wheel.advance.Given as goal

abbrev pub invariant-loop : goal.invariant-loop
invariant-loop g l = record {
  wheel : IsWheel l.self-inside.tick l.self-inside.dues.items l.self-inside.lists;
  now_is : l.self-inside.tick ≡ l.initial.self-inside.tick + l.counter;
  dues_are : l.self-inside.dues ≡ l.initial.self-inside.dues;
  memory_is : l.self-inside.lists.room ≡ l.initial.self-inside.lists.room;
  count_is : l.self-inside.count ≡ l.initial.self-inside.count;
  capacity_is : vec_capacity l.woken ≡ vec_capacity l.initial.woken;
  turns : Turns l.initial.self-inside.tick (timers l.initial.self-inside.tick l.initial.self-inside.lists.lists) l.initial.woken.items l.self-inside.tick l.self-inside.lists.lists l.woken.items;
  room : vec_len l.woken + length (timers l.self-inside.tick l.self-inside.lists.lists) ≤ vec_capacity l.woken;
  steps_are : l.steps + vec_len l.initial.woken ≡ l.initial.steps + l.counter + vec_len l.woken;
}
