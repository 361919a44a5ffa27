use Rattle.std.proofs.Common.{◌≡◌, length, sym, ◌∙◌, None, arith}
use Rattle.hm_undo.specs.Kept.{find_place, stacks_of}
use Rattle.hm_undo.proofs.Slots.{steps_behind, held_behind, found_behind, placed_behind}
use Rattle.hm_undo.proofs.stack.place_for.Goals as goal

pub returns-clause-found : goal.returns-clause-found
returns-clause-found c =
    let none : find_place (stacks_of c.args.slots.now.items) c.args.root ≡ None = sym (c.requires.found c.args.root) ∙ sym c.place_of.ensures ∙ c.in_default.is in
    let count : c.len-place.result ≡ length c.args.slots.now.items = omega (arith, c.len-place.ensures, c.args.slots.now.ok.0) in
    rw c.push_reserved.ensures.items (found_behind c.args.places.now.pairs c.set.new.self.pairs c.args.slots.now.items _ none c.requires.found (λ other. rw count at (c.set.ensures.pairs other)))

pub returns-clause-place : goal.returns-clause-place
returns-clause-place c =
    let none : find_place (stacks_of c.args.slots.now.items) c.args.root ≡ None = sym (c.requires.found c.args.root) ∙ sym c.place_of.ensures ∙ c.in_default.is in
    let count : c.len-place.result ≡ length c.args.slots.now.items = omega (arith, c.len-place.ensures, c.args.slots.now.ok.0) in
    rw (c.push_reserved.ensures.items, count) (placed_behind c.args.slots.now.items _ none)

pub returns-clause-steps : goal.returns-clause-steps
returns-clause-steps c = λ other. rw c.push_reserved.ensures.items (steps_behind c.args.slots.now.items _ c.new.ensures other)

pub returns-clause-held : goal.returns-clause-held
returns-clause-held c = rw c.push_reserved.ensures.items (held_behind c.args.slots.now.items _ c.new.ensures)
