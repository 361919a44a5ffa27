use Rattle.std.proofs.Common.{◌≡◌, ◌+◌, ◌-◌, [], arith, ◌∙◌}
use Rattle.hm_gen.proofs.Parts.{made_more}
use Rattle.hm_gen.specs.Generated.{split_key}
use Rattle.hm_gen.proofs.names.split_keys.Goals as goal

pub loop-number-preserved : goal.loop-number-preserved
loop-number-preserved c = made_more split_key [] _ _ 1 (c.loop-number.number - 1) (c.loop-number.number + 1 - 1) c.loop-number.number _ c.loop-number.invariant (omega arith) (omega arith) c.in_ok-split_key.ensures c.in_ok-push.ensures.items

pub returns : goal.returns
returns c =
    let all : c.loop-number.number - 1 ≡ c.args.regions - 1 = omega arith in
    c.of.ensures ∙ rw all at c.loop-number.invariant
