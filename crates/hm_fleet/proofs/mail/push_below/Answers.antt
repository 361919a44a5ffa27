use Rattle.std.proofs.Common.{◌∙◌, ap, sym, ◌++◌, ◌∷◌, [], append_assoc, arith}
use Rattle.std.specs.List.{range_with_len}
use Rattle.hm_fleet.proofs.Travelling.{range_more}
use Rattle.hm_fleet.proofs.mail.push_below.Goals as goal

pub loop-number-preserved : goal.loop-number-preserved
loop-number-preserved c =
    let l = c.loop-number in
    let before = c.args.numbers.now.items in
    record {
      items = c.push_back_reserved.ensures.items ∙ ap (λ i. i ++ l.number ∷ []) l.invariant.items ∙ append_assoc before (range_with_len 0 l.number) (l.number ∷ [])
          ∙ ap (λ r. before ++ r) (sym (range_more 0 l.number l.number (omega arith)));
      len = omega (arith, c.push_back_reserved.ensures.len, l.invariant.len);
      capacity = c.push_back_reserved.ensures.capacity ∙ l.invariant.capacity;
    }
