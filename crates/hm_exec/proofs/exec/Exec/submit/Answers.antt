use Rattle.std.proofs.Common.{Option, subst}
use Rattle.std.specs.Option.{IfNone}
use Rattle.hm_names.specs.declared.pid.Pid.{Pid}
use Rattle.hm_data.specs.declared.entry.Entry.TheVariants as entry_is
use Rattle.hm_model.specs.Rules.{Allowed}
use Rattle.hm_exec.specs.Moment.{past_of}
use Rattle.hm_exec.specs.View.{moment_of}
use Rattle.hm_exec.proofs.exec.Exec.submit.Goals as goal

pub make_root-requires-clause-allowed : goal.make_root-requires-clause-allowed
make_root-requires-clause-allowed g c =
    subst
    (λ (o : Option Pid). IfNone o (Allowed (past_of (moment_of g.R.Recorder.kept c.args.self.now)) (entry_is.Submit c.args.nonce c.args.request)))
    c.in-Ok-None.field-0-is c.in-Ok-None.ensures.allowed
