use Rattle.std.proofs.Common.{Option, subst, sym}
use Rattle.std.specs.Option.{IfNone}
use Rattle.hm_names.specs.declared.pid.Pid.{Pid}
use Rattle.hm_data.specs.declared.entry.Entry.{Entry}
use Rattle.hm_data.specs.declared.entry.Entry.TheVariants as entry_is
use Rattle.hm_model.specs.Journal.{Past}
use Rattle.hm_model.specs.Rules.{Allowed}
use Rattle.hm_exec.specs.Moment.{past_of}
use Rattle.hm_exec.specs.View.{ExecView, moment_of}
use Rattle.hm_exec.proofs.exec.Exec.examine.Goals as goal

pub returns-in-None-clause-allowed : goal.returns-in-None-clause-allowed
returns-in-None-clause-allowed g c =
    let entry : Entry = entry_is.Submit c.args.nonce.now c.args.request.now in
    let told =
    subst (λ (o : Option Pid). IfNone o (Allowed c.records.result.now.past entry)) c.in_default-2.is c.in_ok-pid.ensures.allowed in
    subst (λ (e : ExecView _). Allowed (past_of (moment_of g.R.Recorder.kept e)) entry) c.self.view_is
    (subst (λ (J : Past). Allowed J entry) (sym c.self.invariant.same) (subst (λ (J : Past). Allowed J entry) c.records.ensures told))
