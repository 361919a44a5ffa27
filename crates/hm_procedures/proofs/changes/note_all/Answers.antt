use Rattle.std.proofs.Common.{◌+◌, ◌-◌, ◌&&◌, ◌==◌, slice_get, ap, sym, ◌∙◌, arith, refl}
use Rattle.std.specs.Option.{option_map}
use Rattle.hm_procedures.specs.Changes.{child_ended, is_this, stepped, tree_stepped}
use Rattle.hm_procedures.specs.declared.kept.Tracked.{Tracked}
use Rattle.hm_procedures.proofs.Enters.{same_length}
use Rattle.hm_procedures.proofs.Places.{from_map, three_maps}
use Rattle.hm_procedures.proofs.changes.note_all.Goals as goal

pub note_end_if-requires-clause-high : goal.note_end_if-requires-clause-high
note_end_if-requires-clause-high c = λ stops up is.
    let long = same_length (λ q. stepped (c.args.from + q + 1 == c.args.pid.0) c.args.out.now c.args.made c.args.count) c.note_step.new.kept c.args.kept.now c.note_step.ensures in
    let high = c.requires.parent_high up is in
    omega (arith, long, high)

pub note_end_if-requires-clause-some : goal.note_end_if-requires-clause-some
note_end_if-requires-clause-some c = λ ends up is one here.
    let m = from_map (stepped (c.args.from + (up.0 - c.args.from - 1) + 1 == c.args.pid.0) c.args.out.now c.args.made c.args.count) (slice_get c.args.kept.now (up.0 - c.args.from - 1)) one (sym (c.note_step.ensures (up.0 - c.args.from - 1)) ∙ here) in
    let was = c.requires.child (sym c.is_stop-ended.ensures ∙ ends) up is m.0 m.1 in
    let value = ap (λ (k : Tracked). k.open_children) m.2 in
    omega (arith, was, value)

pub returns : goal.returns
returns c = λ p.
    c.note_tree.ensures p
    ∙ ap (option_map (tree_stepped (c.args.root.0 == c.args.from + p + 1) c.args.count c.ends_below-ends.result c.failing.result)) (c.note_end_if.ensures p ∙ ap (option_map (child_ended (is_this c.args.parent (c.args.from + p + 1) && c.is_stop-ended.result))) (c.note_step.ensures p))
    ∙ three_maps (stepped (c.args.from + p + 1 == c.args.pid.0) c.args.out.now c.args.made c.args.count) (child_ended (is_this c.args.parent (c.args.from + p + 1) && c.is_stop-ended.result)) (tree_stepped (c.args.root.0 == c.args.from + p + 1) c.args.count c.ends_below-ends.result c.failing.result) (slice_get c.args.kept.now p)
    ∙ rw (c.ends_below-ends.ensures, c.is_stop-ended.ensures, c.failing.ensures) refl
