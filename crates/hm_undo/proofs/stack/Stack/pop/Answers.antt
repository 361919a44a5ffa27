use Rattle.std.proofs.Common.{◌≡◌, ◌==◌, if◌then◌else◌, [], length, drop, sym, ap, ◌∙◌, arith}
use Rattle.std.proofs.Math.ListN.{length-drop}
use Rattle.std.proofs.lemmas.List.Elements.{All-cons}
use Rattle.hm_undo.specs.declared.slot.Step.{Step}
use Rattle.hm_undo.specs.Kept.{stacks_of}
use Rattle.hm_undo.specs.Stacks.{StackView, held, steps_of}
use Rattle.hm_undo.proofs.Slots.{bound, none_at, over, some_length}
use Rattle.hm_undo.proofs.stack.Stack.pop.Goals as goal

pub unreachable-requires : goal.unreachable-requires
unreachable-requires c =
    c.requires (rw (← c.self.view_is) (none_at c.self.inside.slots.items c.args.root (sym (c.self.invariant.found c.args.root) ∙ sym c.in_default.ensures)))

pub index_mut-slot-requires : goal.index_mut-slot-requires
index_mut-slot-requires c =
    let f = c.self.inside in
    let within = bound f.slots.items c.args.root c.in-Some.place (sym (c.self.invariant.found c.args.root) ∙ sym c.in-Some.ensures) in
    omega (arith, within, f.slots.ok.0)

pub move_first-requires-clause-some : goal.move_first-requires-clause-some
move_first-requires-clause-some c =
    let f = c.self.inside in
    let slot = over f.slots.items c.args.root c.in-Some.place c.index_mut-slot.result.now [] (sym (c.self.invariant.found c.args.root) ∙ sym c.in-Some.ensures) c.index_mut-slot.ensures.value in
    some_length c.index_mut-slot.result.now.steps (λ none. c.requires (ap (λ (v : StackView). steps_of v.stacks c.args.root) (sym c.self.view_is) ∙ sym slot.before ∙ none))

pub invariant_of-self : goal.invariant_of-self
invariant_of-self c =
    let f = c.self.inside in
    let slot = over f.slots.items c.args.root c.in-Some.place c.index_mut-slot.result.now c.move_first.new.from (sym (c.self.invariant.found c.args.root) ∙ sym c.in-Some.ensures) c.index_mut-slot.ensures.value in
    let some = some_length c.index_mut-slot.result.now.steps (λ none. c.requires (ap (λ (v : StackView). steps_of v.stacks c.args.root) (sym c.self.view_is) ∙ sym slot.before ∙ none)) in
    let less = ap length c.move_first.ensures.from ∙ length-drop 1 c.index_mut-slot.result.now.steps in
    let more = ap length c.move_first.ensures.to in
    record {
      found = λ other. c.self.invariant.found other ∙ sym (slot.found other);
      count = omega (arith, slot.total, some, less, more, c.self.invariant.count);
      few = c.self.invariant.few;
      blank = rw c.move_first.ensures.to (All-cons (λ (step : Step). step.edits ≡ []) c.blank-blank.result c.self.inside.pool c.blank-blank.ensures c.self.invariant.blank);
    }

pub returns-clause-steps : goal.returns-clause-steps
returns-clause-steps c = λ other.
    let f = c.self.inside in
    let slot = over f.slots.items c.args.root c.in-Some.place c.index_mut-slot.result.now c.move_first.new.from (sym (c.self.invariant.found c.args.root) ∙ sym c.in-Some.ensures) c.index_mut-slot.ensures.value in
    rw (← c.self.view_is)
    (slot.with_it other ∙ ap (λ s. if c.args.root.0 == other.0 then s else steps_of (stacks_of f.slots.items) other) (c.move_first.ensures.from ∙ ap (drop 1) slot.before))

pub returns-clause-held : goal.returns-clause-held
returns-clause-held c =
    let f = c.self.inside in
    let slot = over f.slots.items c.args.root c.in-Some.place c.index_mut-slot.result.now c.move_first.new.from (sym (c.self.invariant.found c.args.root) ∙ sym c.in-Some.ensures) c.index_mut-slot.ensures.value in
    let some = some_length c.index_mut-slot.result.now.steps (λ none. c.requires (ap (λ (v : StackView). steps_of v.stacks c.args.root) (sym c.self.view_is) ∙ sym slot.before ∙ none)) in
    let less = ap length c.move_first.ensures.from ∙ length-drop 1 c.index_mut-slot.result.now.steps in
    let was = ap (λ (v : StackView). held v.stacks) c.self.view_is in
    omega (arith, slot.total, some, less, was)

pub returns-clause-idle : goal.returns-clause-idle
returns-clause-idle c =
    let more = ap length c.move_first.ensures.to in
    let was = ap (λ (v : StackView). v.idle) c.self.view_is in
    omega (arith, more, was)
