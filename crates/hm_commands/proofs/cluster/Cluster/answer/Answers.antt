use Rattle.std.proofs.Common.{subst}
use Rattle.hm_journal.specs.Opened.{Opened}
use Rattle.hm_commands.specs.View.{IsLeftBy, scene_in}
use Rattle.hm_commands.proofs.cluster.Cluster.answer.Goals as goal

pub returns-in-Err-clause-early : goal.returns-in-Err-clause-early
returns-in-Err-clause-early g c =
    let new = scene_in c.answer_here.new.self in
    (new, c.in-Err.ensures.comes, subst (λ (at : Opened _). IsLeftBy g.D.Disk at new c.into_disk.result) c.answer_here.ensures.opened c.into_disk.ensures.left, c.answer_here.ensures.ran)
