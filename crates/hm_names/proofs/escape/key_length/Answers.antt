use Rattle.std.proofs.Common.{◌<◌, length, drop, sym, ap, ◌∙◌, arith}
use Rattle.std.proofs.lemmas.Grind.{common_steps}
use Rattle.hm_names.specs.KeyLength.{sized}
use Rattle.hm_names.proofs.Keys.{added, none_at, spelled_step, count_step}
use Rattle.hm_names.proofs.escape.key_length.Goals as goal

pub loop-at-preserved : goal.loop-at-preserved
loop-at-preserved c =
    let at = c.loop-at.at in
    let further = c.in-Some.ensures.within in
    let within : c.in-Some.more < length (drop at c.args.text.now) = grind (arith, common_steps) in
    let step = spelled_step c.args.text.now at _ c.in-Some.more within (sym c.in-Some.ensures.byte) in
    (omega arith, omega arith, count_step c.loop-at.length _ _ _ _ step c.loop-at.invariant.2)

pub returns-in_default : goal.returns-in_default
returns-in_default c =
    let at = c.loop-at.at in
    let more : 0 < length (drop at c.args.text.now) = grind (arith, common_steps) in
    let none = none_at at (drop at c.args.text.now) more (sym c.in_default.ensures.byte) in
    sym (ap (λ r. added c.loop-at.length (sized r)) none) ∙ c.loop-at.invariant.2
