-- What stopped a hall is answered first.
use Rattle.std.proofs.Common.{◌≡◌, Bool, true, false, Result, Ok, Err, Some, ap, sym, ◌∙◌}
use Rattle.std.proofs.lemmas.Option.{none-some}
use Rattle.hm_data.specs.declared.step.StepOut.{StepOut}
use Rattle.hm_hall.specs.declared.fault.HallFault.{HallFault}
use Rattle.hm_hall.specs.declared.fault.HallFault.TheVariants as fault_is
use Rattle.hm_hall.specs.declared.fault.Halt.{Halt}
use Rattle.hm_hall.specs.declared.hall.Task.{Task}
use Rattle.hm_hall.specs.declared.hall.Task.TheVariants as task_is
use Rattle.hm_hall.specs.declared.taken.Given.{Given}
use Rattle.hm_hall.specs.declared.taken.Given.TheVariants as given_is
use Rattle.hm_hall.specs.declared.taken.Taken.{Taken}
use Rattle.hm_lend.specs.Hall.{AnswersCarry, AnswersGive, AnswersTake, Fails, Going, HallView, IsOpen}

same_halt : (why other : Halt) → Some why ≡ Some other → why ≡ other
same_halt why other e = cc

module _ (old new : HallView) where
  module _ (why : Halt) (shut : old.stopped ≡ Some why) where
    not_open : IsOpen old → ⊥
    not_open going = none-some why (sym going ∙ shut)

    fails_first : (fault : HallFault) → Fails old fault new → (fault ≡ fault_is.Halted why) × (new ≡ old)
    fails_first (fault_is.Halted other) fails = (ap (λ (h : Halt). fault_is.Halted h) (same_halt other why (sym fails.0 ∙ shut)), fails.1)
    fails_first fault_is.Memory fails = absurd (not_open fails.0)
    fails_first fault_is.LogFault fails = absurd fails
    fails_first (fault_is.JournalFull bytes) fails = absurd (not_open fails.0)

    pub take_first : (can : Going) (answer : Result Task HallFault) → AnswersTake can old answer new → (answer ≡ Err (fault_is.Halted why)) × (new ≡ old)
    take_first can (Ok (task_is.Run taken)) is = absurd (not_open is.0)
    take_first can (Ok task_is.Carry) is = absurd (not_open is.0)
    take_first can (Ok task_is.Flush) is = absurd (not_open is.0)
    take_first can (Ok task_is.Busy) is = absurd (not_open is.0)
    take_first can (Ok task_is.Idle) is = absurd (not_open is.0)
    take_first can (Err (fault_is.Halted other)) is = (ap (λ (h : Halt). Err (fault_is.Halted h)) (same_halt other why (sym is.0 ∙ shut)), is.1)
    take_first can (Err fault_is.Memory) is = absurd (not_open is.0)
    take_first can (Err fault_is.LogFault) is = absurd is
    take_first can (Err (fault_is.JournalFull bytes)) is = absurd is

    pub give_first : (taken : Taken) (out : StepOut) (answer : Result Given (Taken × HallFault)) → AnswersGive old taken out answer new
        → (answer ≡ Err (taken, fault_is.Halted why)) × (new ≡ old)
    give_first taken out (Ok (given_is.Kept number)) is = absurd (not_open is.0)
    give_first taken out (Ok (given_is.Stale was now)) is = absurd (not_open is.0)
    give_first taken out (Err (back, fault)) is =
        let first = fails_first fault is.1 in
        (ap (λ (t : Taken). Err (t, fault)) is.0 ∙ ap (λ (f : HallFault). Err (taken, f)) first.0, first.1)

    pub carry_first : (answer : Result Bool HallFault) → AnswersCarry old answer new → (answer ≡ Err (fault_is.Halted why)) × (new ≡ old)
    carry_first (Ok true) is = absurd (not_open is.0)
    carry_first (Ok false) is = absurd (not_open is.0)
    carry_first (Err fault) is = let first = fails_first fault is in (ap (λ (f : HallFault). Err f) first.0, first.1)
