use Rattle.std.proofs.Common.{◌≡◌, ◌+◌, ◌≤◌, length}
use Rattle.hm_undo.specs.Stacks.{AreWith, held, steps_of}
use Rattle.hm_undo.proofs.stack.Stack.forget.Given as goal

abbrev pub invariant-loop-root : goal.invariant-loop-root
invariant-loop-root l = record {
  steps : AreWith l.fn.self.stacks l.root (steps_of l.self.stacks l.root) l.self.stacks;
  held : held l.self.stacks + length (steps_of l.fn.self.stacks l.root) ≡ held l.fn.self.stacks + length (steps_of l.self.stacks l.root);
  idle : l.self.idle + length (steps_of l.self.stacks l.root) ≡ l.fn.self.idle + length (steps_of l.fn.self.stacks l.root);
  spare : l.fn.self.spare ≤ l.self.spare;
  room : l.self.room ≡ l.fn.self.room;
}

abbrev pub decreases-loop-root : goal.decreases-loop-root
decreases-loop-root l = length (steps_of l.self.stacks l.root)
