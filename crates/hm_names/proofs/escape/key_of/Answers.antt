use Rattle.std.proofs.Common.{◌<◌, length, drop, sym, ap, ◌∙◌, arith}
use Rattle.std.proofs.lemmas.Grind.{common_steps}
use Rattle.hm_names.specs.KeyLength.{sized}
use Rattle.hm_names.proofs.Keys.{with_front, none_at, spelled_step, front_step}
use Rattle.hm_names.proofs.escape.key_of.Goals as goal

pub loop-at-preserved : goal.loop-at-preserved
loop-at-preserved c =
    let at = c.loop-at.at in
    let further = c.in-Some.ensures.within in
    let within : c.in-Some.more < length (drop at c.args.text.now) = grind (arith, common_steps) in
    let step = spelled_step c.args.text.now at _ c.in-Some.more within (sym c.in-Some.ensures.byte) in
    (omega arith, rw c.in_ok-push.ensures.items (front_step c.loop-at.key.items _ _ _ _ step c.loop-at.invariant.1))

pub unreachable-requires : goal.unreachable-requires
unreachable-requires c =
    let at = c.loop-at.at in
    let more : 0 < length (drop at c.args.text.now) = grind (arith, common_steps) in
    let none = none_at at (drop at c.args.text.now) more (sym c.in_default.ensures.byte) in
    let all = sym (ap (with_front c.loop-at.key.items) none) ∙ c.loop-at.invariant.1 in
    let sizes = ap sized all ∙ c.requires in cc
