use Rattle.std.proofs.Common.{subst, sym}
use Rattle.hm_hbck.specs.Found.{Adds}
use Rattle.hm_hbck.specs.Holes.{IsHoleAmong, IsHoleAt}
use Rattle.hm_hbck.proofs.Least.{adds_both}
use Rattle.hm_hbck.proofs.holes.add_holes.Goals as goal

pub loop-key-preserved : goal.loop-key-preserved
loop-key-preserved c = λ last adds.
    c.loop-key.invariant last
    (subst (λ rows. Adds (IsHoleAmong c.args.catalog.now.rows rows) c.loop-key.found.items last) (sym c.in-Some.ensures.steps)
    (adds_both (IsHoleAt c.args.catalog.now.rows c.in-Some.key.now c.in-Some.row.now) (IsHoleAmong c.args.catalog.now.rows c.next.new.self) _ _ last c.in_ok-add_row.ensures adds))
