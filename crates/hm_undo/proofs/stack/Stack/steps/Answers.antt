use Rattle.std.proofs.Common.{sym, ap, ◌∙◌, arith}
use Rattle.hm_undo.specs.Stacks.{StackView, steps_of}
use Rattle.hm_undo.proofs.Slots.{bound, none_at, steps_at}
use Rattle.hm_undo.proofs.stack.Stack.steps.Goals as goal

pub returns-in_err-place : goal.returns-in_err-place
returns-in_err-place c =
    rw (c.from_residual.ensures, ← c.self.view_is) (none_at c.self.inside.slots.items c.args.root (sym (c.self.invariant.found c.args.root) ∙ sym c.in_err-place.ensures))

pub index-requires : goal.index-requires
index-requires c =
    let f = c.self.inside in
    let within = bound f.slots.items c.args.root c.in_ok-place.place (sym (c.self.invariant.found c.args.root) ∙ sym c.in_ok-place.ensures) in
    omega (arith, within, f.slots.ok.0)

pub returns : goal.returns
returns c =
    let f = c.self.inside in
    ap (λ s. s.steps) c.index.ensures
    ∙ sym (steps_at f.slots.items c.args.root c.in_ok-place.place c.index.result.now (sym (c.self.invariant.found c.args.root) ∙ sym c.in_ok-place.ensures))
    ∙ ap (λ (v : StackView). steps_of v.stacks c.args.root) c.self.view_is
