-- What each call of a hall does to what the gate sees: how the list grows, and what goes out and comes back.
use Rattle.std.proofs.Common.{◌≡◌, ◌≢◌, ◌⊎◌, inl, inr, ⊎_elim, ℕ, ◌≤◌, [], ◌∷◌, ◌++◌, Bool, true, false, Option, Some, None, Result, Ok, Err, refl, ap, sym, subst, ◌∙◌, arith, append-nil}
use Rattle.std.specs.Prelude.{is_some, MatchResult, MatchOption}
use Rattle.std.proofs.lemmas.Option.{none-some, same_Some}
use Rattle.hm_data.specs.declared.entry.Entry.{Entry}
use Rattle.hm_data.specs.declared.entry.Entry.TheVariants as entry_is
use Rattle.hm_data.specs.declared.step.StepOut.{StepOut}
use Rattle.hm_gate.specs.Whole.{Whole}
use Rattle.hm_hall.specs.Hall.{ComesBack, GoesOut}
use Rattle.hm_hall.specs.declared.fault.Halt.{Halt}
use Rattle.hm_hall.specs.declared.fault.HallFault.{HallFault}
use Rattle.hm_hall.specs.declared.fault.HallFault.TheVariants as fault_is
use Rattle.hm_hall.specs.declared.hall.Task.{Task}
use Rattle.hm_hall.specs.declared.hall.Task.TheVariants as task_is
use Rattle.hm_hall.specs.declared.taken.Given.{Given}
use Rattle.hm_hall.specs.declared.taken.Given.TheVariants as given_is
use Rattle.hm_hall.specs.declared.taken.Taken.{Taken}
use Rattle.hm_lend.specs.Hall.{Answers, AnswersBack, AnswersCarry, AnswersGive, AnswersLend, AnswersTake, CanBeServed, Editions, Fails, GetsBack, Going, HallView, IsOut, MayAddReport}
use Rattle.hm_lend.specs.Outs.{OutView, number_of}
use Rattle.hm_lend.specs.Stays.{Grows, IsOwn, SameOuts, Takes, one_step}
use Rattle.hm_lend.specs.Ties.{Ties}
use Rattle.hm_lend.proofs.Tied as tied_by
use Rattle.hm_model.specs.Locks.{IsIn}

-- what an answer to `take` tells of what went out
abbrev pub Took : {S T : Type 0} → (S → Whole Entry T) → S → S → HallView → Task → Type 0
Took shown x y at (task_is.Run taken) = let pid = taken.pid in Takes shown x y pid.0 × CanBeServed at.editions taken.was
Took shown x y at task_is.Carry = SameOuts shown x y
Took shown x y at task_is.Flush = SameOuts shown x y
Took shown x y at task_is.Busy = SameOuts shown x y
Took shown x y at task_is.Idle = SameOuts shown x y

-- what stops a value, but where memory ran out
abbrev pub Stops : {S T : Type 0} → (S → Whole Entry T) → S → HallFault → Type 0
Stops shown y fault_is.Memory = Unit {0}
Stops shown y fault_is.LogFault = (shown y).stopped ≡ true
Stops shown y (fault_is.JournalFull bytes) = (shown y).stopped ≡ true
Stops shown y (fault_is.Halted why) = (shown y).stopped ≡ true

-- where it isn't another than None, it is None
no_other : (o : Option ℕ) → ((o ≢ None) → ⊥) → o ≡ None
no_other None h = refl
no_other (Some n) h = absurd (h (λ e. none-some n (sym e)))

module _ {S T : Type 0} (shown : S → Whole Entry T) (editions_in : T → Editions) (x y : S) (at at' : HallView) (tied : Ties editions_in (shown x) at) (tied' : Ties editions_in (shown y) at') where
  same_all : at' ≡ at → SameOuts shown x y
  same_all e = tied_by.same_outs shown editions_in x y at at' tied tied' (λ n is. subst (IsOut n) (sym e) is) (λ n is. subst (IsOut n) e is)

  -- the same are claimed and lent
  same_parts : at'.claimed ≡ at.claimed → at'.lent ≡ at.lent → SameOuts shown x y
  same_parts c l = tied_by.same_outs shown editions_in x y at at' tied tied'
      (λ n is. ⊎_elim (λ (i : IsIn n at.claimed). inl (subst (IsIn n) (sym c) i)) (λ (i : at.lent ≡ Some n). inr (l ∙ i)) is)
      (λ n is. ⊎_elim (λ (i : IsIn n at'.claimed). inl (subst (IsIn n) c i)) (λ (i : at'.lent ≡ Some n). inr (sym l ∙ i)) is)

  goes : (p : ℕ) → (IsOut p at → ⊥) → GoesOut p at.claimed at'.claimed → at'.lent ≡ at.lent → Takes shown x y p
  goes p none out lent = tied_by.takes shown editions_in x y at at' tied tied' p none
      (λ n is. ⊎_elim (λ (i : IsIn n at.claimed). inl ((out n).1 (inr i))) (λ (i : at.lent ≡ Some n). inr (lent ∙ i)) is)
      (λ n apart is. ⊎_elim (λ (i : IsIn n at'.claimed). ⊎_elim (λ (e : n ≡ p). absurd (apart e)) (λ (j : IsIn n at.claimed). inl j) ((out n).0 i)) (λ (i : at'.lent ≡ Some n). inr (sym lent ∙ i)) is)
      (inl ((out p).1 (inl refl)))

  comes : (p : ℕ) → (IsOut p at' → ⊥) → IsOut p at → ComesBack p at.claimed at'.claimed → at'.lent ≡ at.lent → Takes shown y x p
  comes p none was back lent = tied_by.takes shown editions_in y x at' at tied' tied p none
      (λ n is. ⊎_elim (λ (i : IsIn n at'.claimed). inl (((back n).0 i).0)) (λ (i : at'.lent ≡ Some n). inr (sym lent ∙ i)) is)
      (λ n apart is. ⊎_elim (λ (i : IsIn n at.claimed). inl ((back n).1 (i, apart))) (λ (i : at.lent ≡ Some n). inr (lent ∙ i)) is)
      was

  lends : (p : ℕ) → (IsOut p at → ⊥) → at.lent ≡ None → at'.claimed ≡ at.claimed → at'.lent ≡ Some p → Takes shown x y p
  lends p none inside c out = tied_by.takes shown editions_in x y at at' tied tied' p none
      (λ n is. ⊎_elim (λ (i : IsIn n at.claimed). inl (subst (IsIn n) (sym c) i)) (λ (i : at.lent ≡ Some n). absurd (none-some n (sym inside ∙ i))) is)
      (λ n apart is. ⊎_elim (λ (i : IsIn n at'.claimed). inl (subst (IsIn n) c i)) (λ (i : at'.lent ≡ Some n). absurd (apart (same_Some n p (sym i ∙ out)))) is)
      (inr out)

  returns : (p : ℕ) → (IsOut p at' → ⊥) → at.lent ≡ Some p → at'.claimed ≡ at.claimed → at'.lent ≡ None → Takes shown y x p
  returns p none out c inside = tied_by.takes shown editions_in y x at' at tied' tied p none
      (λ n is. ⊎_elim (λ (i : IsIn n at'.claimed). inl (subst (IsIn n) c i)) (λ (i : at'.lent ≡ Some n). absurd (none-some n (sym inside ∙ i))) is)
      (λ n apart is. ⊎_elim (λ (i : IsIn n at.claimed). inl (subst (IsIn n) (sym c) i)) (λ (i : at.lent ≡ Some n). absurd (apart (same_Some n p (sym i ∙ out)))) is)
      (inr out)

  -- a stop is seen
  stops : (why : Option Halt) → is_some why ≡ true → at'.stopped ≡ why → (shown y).stopped ≡ true
  stops why some is = tied'.stopped ∙ ap is_some is ∙ some

  module _ (terms : (shown y).terms ≡ (shown x).terms) where
    -- nothing is added
    nothing : at'.items ≡ at.items → (at'.stopped ≡ at.stopped) ⊎ (is_some at'.stopped ≡ true) → Grows shown at.editions 0 x y
    nothing is how = tied_by.grows shown editions_in x y at at' tied tied' 0 [] (is ∙ sym (append-nil at.items)) tt (omega arith) how terms

    unchanged : at' ≡ at → Grows shown at.editions 0 x y
    unchanged e = nothing (ap (λ (h : HallView). h.items) e) (inl (ap (λ (h : HallView). h.stopped) e))

    one : (entry : Entry) → at'.items ≡ at.items ++ entry ∷ [] → IsOwn at.editions entry → (most : ℕ) → one_step entry ≤ most → at'.stopped ≡ at.stopped → Grows shown at.editions most x y
    one entry is own most few stopped = tied_by.grows shown editions_in x y at at' tied tied' most (entry ∷ []) is (own, tt) (omega arith) (inl stopped) terms

    pub take_grows : (can : Going) (r : Result Task HallFault) → AnswersTake can at r at' → Grows shown at.editions 0 x y
    take_grows can (Ok (task_is.Run taken)) is = nothing (ap (λ (h : HallView). h.items) is.1.4) (inl (ap (λ (h : HallView). h.stopped) is.1.4))
    take_grows can (Ok task_is.Flush) is = unchanged is.3
    take_grows can (Ok task_is.Carry) is = unchanged is.3
    take_grows can (Ok task_is.Busy) is = unchanged is.4
    take_grows can (Ok task_is.Idle) is = unchanged is.3
    take_grows can (Err (fault_is.Halted why)) is = unchanged is.1
    take_grows can (Err fault_is.Memory) is = unchanged is.2
    take_grows can (Err fault_is.LogFault) is = absurd is
    take_grows can (Err (fault_is.JournalFull bytes)) is = absurd is

    fails_grows : (fault : HallFault) → Fails at fault at' → Grows shown at.editions 0 x y
    fails_grows (fault_is.Halted why) is = unchanged is.1
    fails_grows fault_is.Memory is = unchanged is.1
    fails_grows (fault_is.JournalFull bytes) is = nothing (ap (λ (h : HallView). h.items) is.1) (inr (ap (λ (h : HallView). is_some h.stopped) is.1))
    fails_grows fault_is.LogFault is = absurd is

    more_grows : Grows shown at.editions 0 x y → Grows shown at.editions 1 x y
    more_grows g = record { more = g.more; items_are = g.items_are; own = g.own; few = let f = g.few in omega arith; stopped_is = g.stopped_is; terms_is = g.terms_is }

    pub give_grows : (taken : Taken) (out : StepOut) → Answers at.editions taken.was out → (r : Result Given (Taken × HallFault)) → AnswersGive at taken out r at' → Grows shown at.editions 1 x y
    give_grows taken out answer (Ok (given_is.Kept number)) is =
        let entry = is.1.3.0 in let own = tied_by.step_own at.editions taken out entry answer is.1.3.1 in
        one entry (ap (λ (h : HallView). h.items) is.1.3.2) own.0 1 own.1 (ap (λ (h : HallView). h.stopped) is.1.3.2)
    give_grows taken out answer (Ok (given_is.Stale was now)) is =
        more_grows (nothing (ap (λ (h : HallView). h.items) is.3.2) (inl (ap (λ (h : HallView). h.stopped) is.3.2)))
    give_grows taken out answer (Err (back, fault)) is = more_grows (fails_grows fault is.1)

    pub back_grows : (taken : Taken) → GetsBack at taken at' → Grows shown at.editions 0 x y
    back_grows taken is = nothing (ap (λ (h : HallView). h.items) is.2) (inl (ap (λ (h : HallView). h.stopped) is.2))

    report_grows : MayAddReport at at' → Grows shown at.editions 0 x y
    report_grows (inl is) = unchanged is
    report_grows (inr is) = one (entry_is.Report is.0 is.1) (ap (λ (h : HallView). h.items) is.2) tt 0 (omega arith) (ap (λ (h : HallView). h.stopped) is.2)

    pub carry_grows : (r : Result Bool HallFault) → AnswersCarry at r at' → Grows shown at.editions 0 x y
    carry_grows (Ok true) is = report_grows is.1
    carry_grows (Ok false) is = unchanged is.1
    carry_grows (Err fault) is = fails_grows fault is

    pub lend_grows : (r : Option (OutView T)) → AnswersLend at r at' → Grows shown at.editions 0 x y
    lend_grows None is = unchanged is.1
    lend_grows (Some out) is = nothing (ap (λ (h : HallView). h.items) is.5) (inl (ap (λ (h : HallView). h.stopped) is.5))

    pub return_grows : (out : OutView T) (r : Result ℕ HallFault) → AnswersBack at out r at' → Grows shown at.editions 0 x y
    return_grows out (Ok number) is = nothing (ap (λ (h : HallView). h.items) is.3) (inl (ap (λ (h : HallView). h.stopped) is.3))
    return_grows out (Err fault_is.LogFault) is = nothing (ap (λ (h : HallView). h.items) is.2) (inr (ap (λ (h : HallView). is_some h.stopped) is.2))
    return_grows out (Err fault_is.Memory) is = absurd is
    return_grows out (Err (fault_is.JournalFull bytes)) is = absurd is
    return_grows out (Err (fault_is.Halted why)) is = absurd is

  -- nothing is recorded by taking
  pub take_items : (can : Going) (r : Result Task HallFault) → AnswersTake can at r at' → at'.items ≡ at.items
  take_items can (Ok (task_is.Run taken)) is = ap (λ (h : HallView). h.items) is.1.4
  take_items can (Ok task_is.Flush) is = ap (λ (h : HallView). h.items) is.3
  take_items can (Ok task_is.Carry) is = ap (λ (h : HallView). h.items) is.3
  take_items can (Ok task_is.Busy) is = ap (λ (h : HallView). h.items) is.4
  take_items can (Ok task_is.Idle) is = ap (λ (h : HallView). h.items) is.3
  take_items can (Err (fault_is.Halted why)) is = ap (λ (h : HallView). h.items) is.1
  take_items can (Err fault_is.Memory) is = ap (λ (h : HallView). h.items) is.2
  take_items can (Err fault_is.LogFault) is = absurd is
  take_items can (Err (fault_is.JournalFull bytes)) is = absurd is

  pub took : (can : Going) (r : Result Task HallFault) → AnswersTake can at r at' → MatchResult r (Took shown x y at) (λ _. SameOuts shown x y)
  took can (Ok (task_is.Run taken)) is = (goes taken.pid.0 is.1.2 is.1.3 (ap (λ (h : HallView). h.lent) is.1.4), is.1.1)
  took can (Ok task_is.Flush) is = same_all is.3
  took can (Ok task_is.Carry) is = same_all is.3
  took can (Ok task_is.Busy) is = same_all is.4
  took can (Ok task_is.Idle) is = same_all is.3
  took can (Err (fault_is.Halted why)) is = same_all is.1
  took can (Err fault_is.Memory) is = same_all is.2
  took can (Err fault_is.LogFault) is = absurd is
  took can (Err (fault_is.JournalFull bytes)) is = absurd is

  pub take_stops : (can : Going) (fault : HallFault) → AnswersTake can at (Err fault) at' → Stops shown y fault
  take_stops can (fault_is.Halted why) is = stops (Some why) refl (ap (λ (h : HallView). h.stopped) is.1 ∙ is.0)
  take_stops can fault_is.Memory is = tt
  take_stops can fault_is.LogFault is = absurd is
  take_stops can (fault_is.JournalFull bytes) is = absurd is

  pub fails_stops : (fault : HallFault) → Fails at fault at' → Stops shown y fault
  fails_stops (fault_is.Halted why) is = stops (Some why) refl (ap (λ (h : HallView). h.stopped) is.1 ∙ is.0)
  fails_stops fault_is.Memory is = tt
  fails_stops (fault_is.JournalFull bytes) is = tied'.stopped ∙ ap (λ (h : HallView). is_some h.stopped) is.1
  fails_stops fault_is.LogFault is = absurd is

  fails_outs : (fault : HallFault) → Fails at fault at' → SameOuts shown x y
  fails_outs (fault_is.Halted why) is = same_all is.1
  fails_outs fault_is.Memory is = same_all is.1
  fails_outs (fault_is.JournalFull bytes) is = same_parts (ap (λ (h : HallView). h.claimed) is.1) (ap (λ (h : HallView). h.lent) is.1)
  fails_outs fault_is.LogFault is = absurd is

  -- what was taken comes back, or the seat keeps it and why
  pub gave : (taken : Taken) (out : StepOut) → IsOut taken.pid.0 at → (r : Result Given (Taken × HallFault)) → AnswersGive at taken out r at'
      → MatchResult r (λ _. Takes shown y x taken.pid.0) (λ e. SameOuts shown x y × ((e.0 ≡ taken) × Stops shown y e.1))
  gave taken out was (Ok (given_is.Kept number)) is = comes taken.pid.0 is.1.2 was is.1.1 (ap (λ (h : HallView). h.lent) is.1.3.2)
  gave taken out was (Ok (given_is.Stale old now)) is = comes taken.pid.0 is.3.1 was is.3.0 (ap (λ (h : HallView). h.lent) is.3.2)
  gave taken out was (Err (back, fault)) is = (fails_outs fault is.1, (is.0, fails_stops fault is.1))

  pub got_back : (taken : Taken) → IsOut taken.pid.0 at → GetsBack at taken at' → Takes shown y x taken.pid.0
  got_back taken was is = comes taken.pid.0 is.1 was is.0 (ap (λ (h : HallView). h.lent) is.2)

  report_outs : MayAddReport at at' → SameOuts shown x y
  report_outs (inl is) = same_all is
  report_outs (inr is) = same_parts (ap (λ (h : HallView). h.claimed) is.2) (ap (λ (h : HallView). h.lent) is.2)

  pub carried : (r : Result Bool HallFault) → AnswersCarry at r at' → SameOuts shown x y × MatchResult r (λ _. Unit {0}) (Stops shown y)
  carried (Ok true) is = (report_outs is.1, tt)
  carried (Ok false) is = (same_all is.1, tt)
  carried (Err fault) is = (fails_outs fault is, fails_stops fault is)

  pub lent : (r : Option (OutView T)) → AnswersLend at r at' → MatchOption r (SameOuts shown x y) (λ out. Takes shown x y (number_of out) × (out.list ≡ (shown y).items))
  lent None is = same_all is.1
  lent (Some out) is = (
    lends (number_of out) is.4 (no_other at.lent (λ h. is.0 (inr (inl h)))) (ap (λ (h : HallView). h.claimed) is.5) (ap (λ (h : HallView). h.lent) is.5),
    is.1 ∙ sym (ap (λ (h : HallView). h.items) is.5) ∙ sym tied'.items,
  )

  pub returned : (out : OutView T) (r : Result ℕ HallFault) → AnswersBack at out r at' → Takes shown y x (number_of out) × MatchResult r (λ _. Unit {0}) (Stops shown y)
  returned out (Ok number) is = (returns (number_of out) is.2 is.0 (ap (λ (h : HallView). h.claimed) is.3) (ap (λ (h : HallView). h.lent) is.3), tt)
  returned out (Err fault_is.LogFault) is = (
    returns (number_of out) is.1 is.0 (ap (λ (h : HallView). h.claimed) is.2) (ap (λ (h : HallView). h.lent) is.2),
    tied'.stopped ∙ ap (λ (h : HallView). is_some h.stopped) is.2,
  )
  returned out (Err fault_is.Memory) is = absurd is
  returned out (Err (fault_is.JournalFull bytes)) is = absurd is
  returned out (Err (fault_is.Halted why)) is = absurd is
