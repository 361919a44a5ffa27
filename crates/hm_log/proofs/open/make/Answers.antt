use Rattle.std.proofs.Common.{List, ℕ, ◌∙◌, ap, subst}
use Rattle.hm_disk.specs.Disk.{written, Torn, LeavesOnly}
use Rattle.hm_log.proofs.Settling.{empty, new_log}
use Rattle.hm_log.proofs.Ways.{if_ok}
use Rattle.hm_log.proofs.open.make.Goals as goal

pub returns-clause-made : goal.returns-clause-made
returns-clause-made g c tells =
    if_ok c.write_through.result (λ wrote. wrote ∙ ap (λ (f : List ℕ). written 0 new_log f) (empty _ (c.requires.empty tells))) (c.write_through.ensures.written tells)

pub returns-clause-any_moment : goal.returns-clause-any_moment
returns-clause-any_moment g c tells =
    subst (λ (f : List ℕ). LeavesOnly g.D.Disk.moment g.D.Disk.left_since c.args.disk.now c.write_through.new.disk (Torn 0 11 f)) (empty _ (c.requires.empty tells)) c.write_through.ensures.any_moment
