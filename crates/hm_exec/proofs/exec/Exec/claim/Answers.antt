use Rattle.std.proofs.Common.{◌⊎◌, ℕ, List, Err, None, Ok, Some, ap, subst, sym, ◌∙◌}
use Rattle.hm_hall.specs.declared.fault.HallFault.TheVariants as fault_is
use Rattle.hm_names.specs.declared.pid.Pid.{Pid}
use Rattle.hm_model.specs.Journal.{Past}
use Rattle.hm_model.specs.Rest.{MayStepPicked, MayUndo}
use Rattle.hm_roster.specs.Looks.{Looks}
use Rattle.hm_roster.specs.Roster.{Follows, IsGiven, claims_on, is_of_crash}
use Rattle.hm_tied.specs.Tied.{CanGo}
use Rattle.hm_exec.specs.Claiming.{AnswersClaim}
use Rattle.hm_exec.specs.Moment.{past_of}
use Rattle.hm_exec.specs.View.{ExecView, moment_of}
use Rattle.hm_exec.proofs.Claimed.{claims_more, claims_same, goes, let_go, none_left, one_more}
use Rattle.hm_exec.proofs.exec.Exec.claim.Goals as goal

pub invariant_of-self : goal.invariant_of-self
invariant_of-self g c =
    claims_same _ _ c.self.inside.desk c.next.new.self c.self.invariant (subst (λ (J : Past). Follows J c.next.new.self) c.records.ensures c.in_default-next.ensures.follows)
    (ap (λ v. v.items) c.next.ensures.same.claimed)

pub returns-in_default-next-clause-answers : goal.returns-in_default-next-clause-answers
returns-in_default-next-clause-answers g c =
    let kept = g.R.Recorder.kept c.self.inside.recorder in
    subst (λ (e : ExecView _). AnswersClaim (moment_of g.R.Recorder.kept e) (Ok None) (record { kept = kept; claimed = claims_on c.next.new.self })) c.self.view_is
    (none_left kept c.self.inside.state.past c.records.result.now.past (claims_on c.self.inside.desk) (sym c.in_default.ensures.halted) c.self.invariant.same c.records.ensures (claims_on c.next.new.self)
    (ap (λ v. v.items) c.next.ensures.same.claimed) c.in_default-next.ensures.none)

pub hand_over-requires-clause-given : goal.hand_over-requires-clause-given
hand_over-requires-clause-given g c =
    subst (λ (J : Past). IsGiven J c.next.new.self c.in-Some-next.pid.0) c.records.ensures c.in-Some-next.ensures.given

pub hand_over-requires-clause-go : goal.hand_over-requires-clause-go
hand_over-requires-clause-go g c =
    subst (λ (J : Past). MayStepPicked J c.in-Some-next.pid.0 ⊎ MayUndo J c.in-Some-next.pid.0) c.records.ensures c.in-Some-next.ensures.available.2

pub claim-requires-clause-given : goal.claim-requires-clause-given
claim-requires-clause-given g c =
    subst (λ (J : Past). IsGiven J c.hand_over.new.desk c.in-Some-next.pid.0) (sym c.records-in-Ok.ensures) c.hand_over.ensures.given

pub claim-requires-clause-go : goal.claim-requires-clause-go
claim-requires-clause-go g c =
    subst (λ (J : Past). CanGo J c.in-Some-next.pid.0) (c.records.ensures ∙ sym c.records-in-Ok.ensures) (goes c.records.result.now.past c.in-Some-next.pid.0 c.in-Some-next.ensures.available.2)

pub let_be-requires : goal.let_be-requires
let_be-requires g c =
    subst (λ (J : Past). IsGiven J c.hand_over.new.desk c.in-Some-next.pid.0) (sym c.records-in-Err.ensures) c.hand_over.ensures.given

pub invariant_of-self-in-Ok : goal.invariant_of-self-in-Ok
invariant_of-self-in-Ok g c =
    claims_more _ _ c.self.inside.desk c.claim.new.self c.self.invariant (subst (λ (J : Past). Follows J c.claim.new.self) c.records-in-Ok.ensures c.claim.ensures.follows) (claims_on c.hand_over.new.desk) c.in-Some-next.pid.0
    (c.hand_over.ensures.claimed ∙ ap (λ v. v.items) c.next.ensures.same.claimed)
    (subst (λ (J : Past). CanGo J c.in-Some-next.pid.0) c.records.ensures (goes c.records.result.now.past c.in-Some-next.pid.0 c.in-Some-next.ensures.available.2))
    c.claim.ensures.claimed

pub invariant_of-self-in-Err : goal.invariant_of-self-in-Err
invariant_of-self-in-Err g c =
    claims_same _ _ c.self.inside.desk c.let_be.new.self c.self.invariant (subst (λ (J : Past). Follows J c.let_be.new.self) c.records-in-Err.ensures c.let_be.ensures.follows)
    (ap (λ v. v.items) c.let_be.ensures.same.claimed ∙ c.hand_over.ensures.claimed ∙ ap (λ v. v.items) c.next.ensures.same.claimed)

pub returns-in-Ok-clause-answers : goal.returns-in-Ok-clause-answers
returns-in-Ok-clause-answers g c =
    let kept = g.R.Recorder.kept c.self.inside.recorder in
    subst (λ (e : ExecView _). AnswersClaim (moment_of g.R.Recorder.kept e) (Ok (Some c.in-Ok.taken)) (record { kept = kept; claimed = claims_on c.claim.new.self })) c.self.view_is
    (one_more kept c.self.inside.state.past c.records.result.now.past (claims_on c.self.inside.desk) (sym c.in_default.ensures.halted) c.self.invariant.same c.records.ensures (claims_on c.hand_over.new.desk) (claims_on c.claim.new.self) c.in-Some-next.pid c.in-Ok.taken
    (c.hand_over.ensures.claimed ∙ ap (λ v. v.items) c.next.ensures.same.claimed) c.in-Ok.ensures.pid c.in-Some-next.ensures.available c.in-Ok.ensures.handed c.claim.ensures.claimed)

pub returns-in-Err-clause-answers : goal.returns-in-Err-clause-answers
returns-in-Err-clause-answers g c =
    let kept = g.R.Recorder.kept c.self.inside.recorder in
    subst (λ (e : ExecView _). AnswersClaim (moment_of g.R.Recorder.kept e) (Err fault_is.Memory) (record { kept = kept; claimed = claims_on c.let_be.new.self })) c.self.view_is
    (let_go kept c.self.inside.state.past c.records.result.now.past (claims_on c.self.inside.desk) (sym c.in_default.ensures.halted) c.self.invariant.same c.records.ensures (claims_on c.let_be.new.self) c.in-Some-next.pid.0
    (ap (λ v. v.items) c.let_be.ensures.same.claimed ∙ c.hand_over.ensures.claimed ∙ ap (λ v. v.items) c.next.ensures.same.claimed) c.in-Some-next.ensures.available)

pub returns-in_default-next-clause-steps : goal.returns-in_default-next-clause-steps
returns-in_default-next-clause-steps g c =
    let here = c.records.ensures ∙ sym c.self.invariant.same in
    subst (λ (e : ExecView _). Looks (past_of (moment_of g.R.Recorder.kept e)) e.rows e.lists c.next.new.self.sched.lists None c.args.steps.now c.next.new.steps) c.self.view_is
    (subst (λ (J : Past). Looks J c.self.inside.desk.book.rows c.self.inside.desk.sched.lists c.next.new.self.sched.lists None c.args.steps.now c.next.new.steps) here c.in_default-next.ensures.looks)

pub returns-in-Ok-clause-steps : goal.returns-in-Ok-clause-steps
returns-in-Ok-clause-steps g c =
    let here = c.records.ensures ∙ sym c.self.invariant.same in
    let given = c.in-Some-next.pid.0 in
    let stood = ap (λ s. s.lists) (c.claim.ensures.sched ∙ c.hand_over.ensures.sched) in
    subst (λ (q : ℕ). Looks (past_of (moment_of g.R.Recorder.kept c.args.self.now)) c.args.self.now.rows c.args.self.now.lists c.claim.new.self.sched.lists (Some q) c.args.steps.now c.next.new.steps)
    (ap (λ (q : Pid). q.0) (sym c.in-Ok.ensures.pid))
    (subst (λ (l : List (List ℕ)). Looks (past_of (moment_of g.R.Recorder.kept c.args.self.now)) c.args.self.now.rows c.args.self.now.lists l (Some given) c.args.steps.now c.next.new.steps) (sym stood)
    (subst (λ (e : ExecView _). Looks (past_of (moment_of g.R.Recorder.kept e)) e.rows e.lists c.next.new.self.sched.lists (Some given) c.args.steps.now c.next.new.steps) c.self.view_is
    (subst (λ (J : Past). Looks J c.self.inside.desk.book.rows c.self.inside.desk.sched.lists c.next.new.self.sched.lists (Some given) c.args.steps.now c.next.new.steps) here c.in-Some-next.ensures.looks)))

pub returns-in-Err-clause-steps : goal.returns-in-Err-clause-steps
returns-in-Err-clause-steps g c =
    let here = c.records.ensures ∙ sym c.self.invariant.same in
    let given = c.in-Some-next.pid.0 in
    let stood = ap (λ s. s.lists) c.hand_over.ensures.sched in (
      c.hand_over.new.desk.sched.lists,
      given,
      subst (λ (l : List (List ℕ)). Looks (past_of (moment_of g.R.Recorder.kept c.args.self.now)) c.args.self.now.rows c.args.self.now.lists l (Some given) c.args.steps.now c.next.new.steps) (sym stood)
          (subst (λ (e : ExecView _). Looks (past_of (moment_of g.R.Recorder.kept e)) e.rows e.lists c.next.new.self.sched.lists (Some given) c.args.steps.now c.next.new.steps) c.self.view_is
          (subst (λ (J : Past). Looks J c.self.inside.desk.book.rows c.self.inside.desk.sched.lists c.next.new.self.sched.lists (Some given) c.args.steps.now c.next.new.steps) here c.in-Some-next.ensures.looks)),
      (is_of_crash c.records-in-Err.result.now.past given, c.let_be.ensures.back),
    )
