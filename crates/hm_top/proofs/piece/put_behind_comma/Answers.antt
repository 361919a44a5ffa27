use Rattle.std.proofs.Common.{codes, ◌∙◌, subst}
use Rattle.std.specs.Fmt.{decimal}
use Rattle.hm_top.specs.Got.{IsPartOf}
use Rattle.hm_top.proofs.Pieces.{on_err_so, part_last}
use Rattle.hm_top.proofs.piece.put_behind_comma.Goals as goal

pub returns-clause-part : goal.returns-clause-part
returns-clause-part g c told =
    let k = g.K.Sink in
    let old = k.got c.args.out.now in
    let mid = k.got c.write.new.out in
    let new = k.got c.write-2.new.out in
    let text = c.as_bytes.ensures.value ∙ c.format.ensures.text in
    on_err_so c.write-2.result
    (λ part. part_last old mid new (codes ",") (decimal c.args.number) (c.in_ok-write.ensures.all told) (subst (IsPartOf mid new) text part))
    (c.write-2.ensures.part told)
