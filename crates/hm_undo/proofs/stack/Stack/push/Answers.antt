use Rattle.std.proofs.Common.{◌≡◌, ◌==◌, ◌∷◌, if◌then◌else◌, [], length, sym, ap, ◌∙◌, arith}
use Rattle.std.proofs.Math.ListN.{length-drop}
use Rattle.std.proofs.lemmas.List.Elements.{All-drop}
use Rattle.hm_undo.specs.Kept.{stacks_of}
use Rattle.hm_undo.specs.Stacks.{StackView, held, steps_of}
use Rattle.hm_undo.specs.declared.slot.Step.{Step}
use Rattle.hm_undo.proofs.Slots.{bound, over}
use Rattle.hm_undo.proofs.stack.Stack.push.Goals as goal

pub index_mut-slot-requires : goal.index_mut-slot-requires
index_mut-slot-requires c =
    let n = c.place_for-place.new in
    let within = bound n.slots.items c.args.root c.place_for-place.result c.place_for-place.ensures.place in
    omega (arith, within, n.slots.ok.0)

pub move_first-requires-clause-fits : goal.move_first-requires-clause-fits
move_first-requires-clause-fits c =
    let slot = over c.place_for-place.new.slots.items c.args.root c.place_for-place.result c.index_mut-slot.result.now [] c.place_for-place.ensures.place c.index_mut-slot.ensures.value in
    omega (arith, slot.most, c.place_for-place.ensures.held, c.self.invariant.count, c.self.invariant.few)

pub invariant_of-self : goal.invariant_of-self
invariant_of-self c =
    let slot = over c.place_for-place.new.slots.items c.args.root c.place_for-place.result c.index_mut-slot.result.now c.move_first.new.to c.place_for-place.ensures.place c.index_mut-slot.ensures.value in
    let less = ap length c.move_first.ensures.from ∙ length-drop 1 c.self.inside.pool in
    let more = ap length c.move_first.ensures.to in
    let room = ap (λ (v : StackView). v.spare) c.self.view_is in
    record {
      found = λ other. c.place_for-place.ensures.found other ∙ sym (slot.found other);
      count = omega (arith, slot.total, less, more, room, c.requires, c.place_for-place.ensures.held, c.self.invariant.count);
      few = c.self.invariant.few;
      blank = rw c.move_first.ensures.from (All-drop (λ (step : Step). step.edits ≡ []) 1 c.self.inside.pool c.self.invariant.blank);
    }

pub returns-clause-steps : goal.returns-clause-steps
returns-clause-steps c = λ other.
    let n = c.place_for-place.new.slots.items in
    let slot = over n c.args.root c.place_for-place.result c.index_mut-slot.result.now c.move_first.new.to c.place_for-place.ensures.place c.index_mut-slot.ensures.value in
    let step : Step = record { pid = c.args.pid; row = c.args.row; edits = c.args.edits } in
    rw (← c.self.view_is)
    (slot.with_it other
    ∙ ap (λ s. if c.args.root.0 == other.0 then s else steps_of (stacks_of n) other) (c.move_first.ensures.to ∙ ap (λ s. step ∷ s) (slot.before ∙ c.place_for-place.ensures.steps c.args.root))
    ∙ ap (λ s. if c.args.root.0 == other.0 then (step ∷ steps_of (stacks_of c.self.inside.slots.items) c.args.root) else s) (c.place_for-place.ensures.steps other))

pub returns-clause-held : goal.returns-clause-held
returns-clause-held c =
    let slot = over c.place_for-place.new.slots.items c.args.root c.place_for-place.result c.index_mut-slot.result.now c.move_first.new.to c.place_for-place.ensures.place c.index_mut-slot.ensures.value in
    let more = ap length c.move_first.ensures.to in
    let was = ap (λ (v : StackView). held v.stacks) c.self.view_is in
    omega (arith, slot.total, more, was, c.place_for-place.ensures.held)

pub returns-clause-idle : goal.returns-clause-idle
returns-clause-idle c =
    let less = ap length c.move_first.ensures.from ∙ length-drop 1 c.self.inside.pool in
    let was = ap (λ (v : StackView). v.idle) c.self.view_is in
    let room = ap (λ (v : StackView). v.spare) c.self.view_is in
    omega (arith, less, was, room, c.requires)
