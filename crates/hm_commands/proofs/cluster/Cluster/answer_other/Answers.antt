use Rattle.std.proofs.Common.{Some, refl}
use Rattle.std.specs.Result.{result_ok}
use Rattle.hm_script.specs.declared.command.Command.TheVariants as command_is
use Rattle.hm_commands.specs.Scenes.{journal_at}
use Rattle.hm_commands.specs.View.{scene_in}
use Rattle.hm_commands.proofs.Clusters.{other_ran}
use Rattle.hm_commands.proofs.Ran.{ran_idle, run_none}
use Rattle.hm_commands.proofs.cluster.Cluster.answer_other.Goals as goal

pub returns-in-Abort-clause-ran : goal.returns-in-Abort-clause-ran
returns-in-Abort-clause-ran g c =
    other_ran _ (command_is.Abort c.in-Abort.pid) tt (scene_in c.args.self.now) (result_ok c.abort.result) (scene_in c.abort.new.self) c.abort.ensures.comes (run_none _ _)

pub returns-in-RefuseStorage-clause-ran : goal.returns-in-RefuseStorage-clause-ran
returns-in-RefuseStorage-clause-ran g c =
    other_ran _ (command_is.RefuseStorage c.in-RefuseStorage.count) tt (scene_in c.args.self.now) (Some c.arm-in-RefuseStorage.result) (scene_in c.arm-in-RefuseStorage.new.self) c.arm-in-RefuseStorage.ensures.comes (run_none _ _)

pub returns-in-Lose-clause-ran : goal.returns-in-Lose-clause-ran
returns-in-Lose-clause-ran g c = other_ran _ command_is.Lose tt (scene_in c.args.self.now) (Some c.lose.result) (scene_in c.lose.new.self) c.lose.ensures.comes (run_none _ _)

pub returns-in-Repeat-clause-ran : goal.returns-in-Repeat-clause-ran
returns-in-Repeat-clause-ran g c = other_ran _ command_is.Repeat tt (scene_in c.args.self.now) (result_ok c.repeat.result) (scene_in c.repeat.new.self) c.repeat.ensures.comes (run_none _ _)

pub returns-in-Procs-clause-ran : goal.returns-in-Procs-clause-ran
returns-in-Procs-clause-ran g c = ran_idle _ (journal_at (scene_in c.args.self.now)) (journal_at (scene_in c.args.self.now)) refl (run_none _ _)

pub returns-in-ProcsJson-clause-ran : goal.returns-in-ProcsJson-clause-ran
returns-in-ProcsJson-clause-ran g c = ran_idle _ (journal_at (scene_in c.args.self.now)) (journal_at (scene_in c.args.self.now)) refl (run_none _ _)

pub returns-in-Regions-clause-ran : goal.returns-in-Regions-clause-ran
returns-in-Regions-clause-ran g c = ran_idle _ (journal_at (scene_in c.args.self.now)) (journal_at (scene_in c.args.self.now)) refl (run_none _ _)

pub returns-in-Locks-clause-ran : goal.returns-in-Locks-clause-ran
returns-in-Locks-clause-ran g c = ran_idle _ (journal_at (scene_in c.args.self.now)) (journal_at (scene_in c.args.self.now)) refl (run_none _ _)

pub returns-in-Servers-clause-ran : goal.returns-in-Servers-clause-ran
returns-in-Servers-clause-ran g c = ran_idle _ (journal_at (scene_in c.args.self.now)) (journal_at (scene_in c.args.self.now)) refl (run_none _ _)

pub returns-in-Server-clause-ran : goal.returns-in-Server-clause-ran
returns-in-Server-clause-ran g c =
    other_ran _ (command_is.Server c.in-Server.server) tt (scene_in c.args.self.now) (result_ok c.start.result) (scene_in c.start.new.self) c.start.ensures.comes (run_none _ _)

pub returns-in-Die-clause-ran : goal.returns-in-Die-clause-ran
returns-in-Die-clause-ran g c = other_ran _ (command_is.Die c.in-Die.server) tt (scene_in c.args.self.now) (Some c.die.result) (scene_in c.die.new.self) c.die.ensures.comes (run_none _ _)

pub returns-in-Expire-clause-ran : goal.returns-in-Expire-clause-ran
returns-in-Expire-clause-ran g c =
    other_ran _ (command_is.Expire c.in-Expire.server) tt (scene_in c.args.self.now) (result_ok c.expire.result) (scene_in c.expire.new.self) c.expire.ensures.comes (run_none _ _)

pub returns-in-Refuse-clause-ran : goal.returns-in-Refuse-clause-ran
returns-in-Refuse-clause-ran g c =
    other_ran _ (command_is.Refuse c.in-Refuse.server c.in-Refuse.count) tt (scene_in c.args.self.now) (Some c.arm.result) (scene_in c.arm.new.self) c.arm.ensures.comes (run_none _ _)

pub returns-in-Balance-clause-ran : goal.returns-in-Balance-clause-ran
returns-in-Balance-clause-ran g c = other_ran _ command_is.Balance tt (scene_in c.args.self.now) (result_ok c.balance.result) (scene_in c.balance.new.self) c.balance.ensures.comes (run_none _ _)
