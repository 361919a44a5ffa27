-- What a stay of one call leaves, by what the call answered.
use Rattle.std.proofs.Common.{◌≡◌, inl, inr, ⊎_elim, ℕ, ◌≤◌, List, ◌++◌, length, Bool, Some, None, ap, append_assoc, arith, length-append, refl, subst, sym, ◌∙◌, true}
use Rattle.std.specs.Prelude.{Option, Result, Ok, Err, MatchResult, MatchOption, IfNone, IfSome, OnOk, is_some, option_map}
use Rattle.hm_data.specs.declared.entry.Entry.{Entry}
use Rattle.hm_data.specs.declared.step.StepOut.{StepOut}
use Rattle.hm_gate.specs.declared.view.View.{View}
use Rattle.hm_gate.specs.Gate.{Begins}
use Rattle.hm_gate.specs.Whole.{Whole}
use Rattle.hm_gate.specs.Plays.{entered, left, Found, May}
use Rattle.hm_hall.specs.declared.fault.HallFault.{HallFault}
use Rattle.hm_hall.specs.declared.fault.Halt.{Halt}
use Rattle.hm_hall.specs.declared.hall.Task.{Task}
use Rattle.hm_hall.specs.declared.hall.Task.TheVariants as task_is
use Rattle.hm_hall.specs.declared.taken.Given.{Given}
use Rattle.hm_hall.specs.declared.taken.Taken.{Taken}
use Rattle.hm_lend.specs.Hall.{Answers, AnswersBack, AnswersCarry, AnswersGive, AnswersLend, AnswersTake, Editions, GetsBack, Going, HallView, HasNone, IsOut, MayComeBack}
use Rattle.hm_lend.specs.Outs.{OutView, number_of}
use Rattle.hm_lend.specs.Stays.{Grows}
use Rattle.hm_lend.specs.Ties.{Ties}
use Rattle.hm_lend.proofs.Calls as calls
use Rattle.hm_lend.proofs.Stopping.{take_first}
use Rattle.hm_lend.proofs.Tied.{told_is}
use Rattle.hm_workers.specs.Ends.{HasLog, IsFlushed, IsFree, IsServed, IsShut, Owes, StopsBy, TaskIs}
use Rattle.hm_workers.specs.Ran.{Adds}
use Rattle.hm_workers.proofs.Owing as owing

-- what is there
the_halt : (o : Option Halt) → is_some o ≡ true → (why : Halt) × (o ≡ Some why)
the_halt None is = absurd cc
the_halt (Some why) is = (why, refl)

module _ {T S : Type 0} (shown : S → Whole Entry T) (editions_in : T → Editions) where
  module _ (v : View Entry T) (x : S) (at : HallView) (tied : Ties editions_in (shown x) at) (found : Found shown v x) where
    -- what the seat owes is out
    pub is_out : (p : ℕ) → Owes v p → IsOut p at
    is_out p owes = told_is p ((shown x).outs) at (tied.outs p) (owing.is_told shown v x found p owes)

    -- what it has to give was served by the hall's own sheets
    pub is_answer : (taken : Taken) (out : StepOut) → IsServed editions_in v taken.was out → Answers at.editions taken.was out
    is_answer taken out answer = owing.served editions_in v ((shown x).terms) at.editions found.terms_is tied.editions taken.was out answer

    -- the log that it brings may come back
    pub may_return : (out : OutView T) → HasLog v out → out.written ≡ true → MayComeBack at out
    may_return out log written = owing.comes shown v x found at out log written tied.items (is_out (number_of out) log.owes)

  module _ (v u : View Entry T) (t : ℕ) (x y : S) (at at' : HallView) (tied : Ties editions_in (shown x) at) (tied' : Ties editions_in (shown y) at') (e : u ≡ entered shown v t x) (found : Found shown v x) (terms : (shown y).terms ≡ (shown x).terms) where
    -- taking leaves what may be left
    pub take_may : (can : Going) (r : Result Task HallFault) → AnswersTake can at r at' → May shown u y
    take_may can r answers =
        let took = calls.took shown editions_in x y at at' tied tied' can r answers in
        owing.may_leave shown at.editions 0 v u t x y e found (calls.take_grows shown editions_in x y at at' tied tied' terms can r answers) (owing.took_gone shown v x y found at r took) (owing.took_apart shown v x y found at r took)

    -- a stopped hall hands out nothing
    pub take_shut : (can : Going) (r : Result Task HallFault) → AnswersTake can at r at' → v.stopped ≡ true → IsShut r
    take_shut can r answers was =
        let why = the_halt at.stopped (sym tied.stopped ∙ found.stopped_is was) in
        subst IsShut (sym (take_first at at' why.0 why.1 can r answers).0) refl

    -- so does giving
    pub give_may : (taken : Taken) (out : StepOut) → Owes v taken.pid.0 → IsServed editions_in v taken.was out → (r : Result Given (Taken × HallFault)) → AnswersGive at taken out r at' → May shown u y
    give_may taken out owes answer r answers =
        let gave = calls.gave shown editions_in x y at at' tied tied' taken out (is_out v x at tied found taken.pid.0 owes) r answers in
        owing.may_leave shown at.editions 1 v u t x y e found (calls.give_grows shown editions_in x y at at' tied tied' terms taken out (is_answer v x at tied found taken out answer) r answers) (owing.gave_gone shown v x y found taken.pid.0 owes r (λ b. (b.0 ≡ taken) × calls.Stops shown y b.1) gave) (owing.gave_apart shown v x y found taken.pid.0 r (λ b. (b.0 ≡ taken) × calls.Stops shown y b.1) gave)

    -- so does putting back
    pub back_may : (taken : Taken) → Owes v taken.pid.0 → GetsBack at taken at' → May shown u y
    back_may taken owes back =
        let got = calls.got_back shown editions_in x y at at' tied tied' taken (is_out v x at tied found taken.pid.0 owes) back in
        owing.may_leave shown at.editions 0 v u t x y e found (calls.back_grows shown editions_in x y at at' tied tied' terms taken back) (owing.back_gone shown v x y found taken.pid.0 owes got) (owing.back_apart shown v x y found taken.pid.0 got)

    -- so does carrying
    pub carry_may : (r : Result Bool HallFault) → AnswersCarry at r at' → May shown u y
    carry_may r answers =
        let carried = calls.carried shown editions_in x y at at' tied tied' r answers in
        owing.may_leave shown at.editions 0 v u t x y e found (calls.carry_grows shown editions_in x y at at' tied tied' terms r answers) (owing.same_none_gone shown v x y found carried.0) (owing.same_apart shown v x y found carried.0)

    -- so does lending
    pub lend_may : (r : Option (OutView T)) → AnswersLend at r at' → May shown u y
    lend_may r answers =
        let lent = calls.lent shown editions_in x y at at' tied tied' r answers in
        owing.may_leave shown at.editions 0 v u t x y e found (calls.lend_grows shown editions_in x y at at' tied tied' terms r answers) (owing.lent_gone shown v x y found r number_of (λ o. o.list ≡ (shown y).items) lent) (owing.lent_apart shown v x y found r number_of (λ o. o.list ≡ (shown y).items) lent)

    -- so does bringing the log back
    pub return_may : (out : OutView T) → Owes v (number_of out) → (r : Result ℕ HallFault) → AnswersBack at out r at' → May shown u y
    return_may out owes r answers =
        let returned = calls.returned shown editions_in x y at at' tied tied' out r answers in
        owing.may_leave shown at.editions 0 v u t x y e found (calls.return_grows shown editions_in x y at at' tied tied' terms out r answers) (owing.back_gone shown v x y found (number_of out) owes returned.0) (owing.back_apart shown v x y found (number_of out) returned.0)

    module _ (w : View Entry T) (l : w ≡ left shown u y) where
      is_left : w ≡ left shown (entered shown v t x) y
      is_left = owing.whole_stay shown u v w t x y e l

      -- what the seat added, by each call
      pub take_adds : (can : Going) (r : Result Task HallFault) → AnswersTake can at r at' → Adds editions_in 0 v w
      take_adds can r answers = owing.adds shown v w t x y is_left found editions_in at.editions tied.editions 0 (calls.take_grows shown editions_in x y at at' tied tied' terms can r answers)

      pub give_adds : (taken : Taken) (out : StepOut) → IsServed editions_in v taken.was out → (r : Result Given (Taken × HallFault)) → AnswersGive at taken out r at' → Adds editions_in 1 v w
      give_adds taken out answer r answers = owing.adds shown v w t x y is_left found editions_in at.editions tied.editions 1 (calls.give_grows shown editions_in x y at at' tied tied' terms taken out (is_answer v x at tied found taken out answer) r answers)

      pub back_adds : (taken : Taken) → GetsBack at taken at' → Adds editions_in 0 v w
      back_adds taken back = owing.adds shown v w t x y is_left found editions_in at.editions tied.editions 0 (calls.back_grows shown editions_in x y at at' tied tied' terms taken back)

      pub carry_adds : (r : Result Bool HallFault) → AnswersCarry at r at' → Adds editions_in 0 v w
      carry_adds r answers = owing.adds shown v w t x y is_left found editions_in at.editions tied.editions 0 (calls.carry_grows shown editions_in x y at at' tied tied' terms r answers)

      pub lend_adds : (r : Option (OutView T)) → AnswersLend at r at' → Adds editions_in 0 v w
      lend_adds r answers = owing.adds shown v w t x y is_left found editions_in at.editions tied.editions 0 (calls.lend_grows shown editions_in x y at at' tied tied' terms r answers)

      pub return_adds : (out : OutView T) (r : Result ℕ HallFault) → AnswersBack at out r at' → Adds editions_in 0 v w
      return_adds out r answers = owing.adds shown v w t x y is_left found editions_in at.editions tied.editions 0 (calls.return_grows shown editions_in x y at at' tied tied' terms out r answers)

      -- how it stands then, by each call
      pub take_task : (can : Going) (rests : T → List Entry → Type 0) → IsFree v → (r : Result Task HallFault) → (r ≡ Ok task_is.Idle → rests ((shown x).terms) at.items) → AnswersTake can at r at'
          → MatchResult r (TaskIs editions_in rests w) (λ fault. IsFree w × StopsBy w fault)
      take_task can rests free r idle answers =
          let took = calls.took shown editions_in x y at at' tied tied' can r answers in
          owing.took_so shown v w t x y is_left found editions_in at tied.editions rests free (owing.took_apart shown v x y found at r took) (tied'.items ∙ calls.take_items shown editions_in x y at at' tied tied' can r answers) r idle
          (λ fault failed. calls.take_stops shown editions_in x y at at' tied tied' can fault (subst (λ (q : Result Task HallFault). AnswersTake can at q at') failed answers)) took

      pub give_free : (taken : Taken) (out : StepOut) → Owes v taken.pid.0 → (r : Result Given (Taken × HallFault)) → AnswersGive at taken out r at'
          → MatchResult r (λ _. IsFree w) (λ b. Owes w taken.pid.0 × (b.0 ≡ taken) × StopsBy w b.1)
      give_free taken out owes r answers = owing.gave_so shown v w t x y is_left found taken owes r (calls.gave shown editions_in x y at at' tied tied' taken out (is_out v x at tied found taken.pid.0 owes) r answers)

      pub back_free : (taken : Taken) → Owes v taken.pid.0 → GetsBack at taken at' → IsFree w
      back_free taken owes back = owing.finishes shown v w t x y is_left found taken.pid.0 owes (calls.got_back shown editions_in x y at at' tied tied' taken (is_out v x at tied found taken.pid.0 owes) back)

      pub back_stopped : (taken : Taken) → GetsBack at taken at' → v.stopped ≡ true → w.stopped ≡ true
      back_stopped taken back = let grows = calls.back_grows shown editions_in x y at at' tied tied' terms taken back in owing.stays_stopped shown v w t x y is_left found grows.stopped_is

      pub carry_free : IsFree v → (r : Result Bool HallFault) → AnswersCarry at r at' → IsFree w
      carry_free free r answers = let carried = calls.carried shown editions_in x y at at' tied tied' r answers in owing.looks_in shown v w t x y is_left found free carried.0

      pub carry_fault : (r : Result Bool HallFault) → AnswersCarry at r at' → MatchResult r (λ _. Unit {0}) (λ fault. StopsBy w fault)
      carry_fault r answers = let carried = calls.carried shown editions_in x y at at' tied tied' r answers in owing.failed_so shown v w t x y is_left found r carried.1

      pub lend_goes : {O : Type 0} (view : O → OutView T) (Q : O → Type 0) (r : Option O) → IsFree v → AnswersLend at (option_map view r) at' → IfSome r (λ o. ((view o).terms ≡ (shown x).terms) × Q o) → MatchOption r (IsFree w) (λ o. HasLog w (view o))
      lend_goes view Q r free answers told =
          let lent = calls.lent shown editions_in x y at at' tied tied' (option_map view r) answers in
          owing.lent_so shown v w t x y is_left found view Q r free (owing.lent_apart shown v x y found (option_map view r) number_of (λ o. o.list ≡ (shown y).items) lent) lent told

      pub return_free : (out : OutView T) → Owes v (number_of out) → (r : Result ℕ HallFault) → AnswersBack at out r at' → IsFree w
      return_free out owes r answers = let returned = calls.returned shown editions_in x y at at' tied tied' out r answers in owing.finishes shown v w t x y is_left found (number_of out) owes returned.0

      pub return_fault : (out : OutView T) (r : Result ℕ HallFault) → AnswersBack at out r at' → MatchResult r (λ _. Unit {0}) (λ fault. StopsBy w fault)
      return_fault out r answers = let returned = calls.returned shown editions_in x y at at' tied tied' out r answers in owing.failed_so shown v w t x y is_left found r returned.1

module _ {T S : Type 0} (shown : S → Whole Entry T) (hall : S → HallView) where
  -- a longer list was flushed
  pub flushed_before : (old mid : List Entry) (v : View Entry T) → Begins mid old → IsFlushed shown hall mid v → IsFlushed shown hall old v
  flushed_before old mid v begins is = (
    is.0,
    is.1,
    ⊎_elim
        (λ (none : HasNone (hall is.0)). inl none)
        (λ (few : length mid ≤ (hall is.0).durable). inr (let l = ap (λ (m : List Entry). length m) begins.1 in omega (arith, length-append old begins.0)))
        is.2,
  )

  module _ (v u w : View Entry T) (t : ℕ) (x y : S) (l : w ≡ left shown u y) where
    now_front : (shown y).items ≡ w.front
    now_front = sym (ap (λ (z : View Entry T). z.front) l)

    -- the list that the seat saw goes on
    pub front_on : (editions : Editions) (most : ℕ) → Found shown v x → Grows shown editions most x y → Begins w.front v.front
    front_on editions most found grows =
        let rest = found.items_begin in
        (rest.0 ++ grows.more, sym now_front ∙ grows.items_are ∙ ap (λ (z : List Entry). z ++ grows.more) rest.1 ∙ append_assoc v.front rest.0 grows.more)

    -- where nothing was lent, and where a log came back
    pub lend_flushed : {O : Type 0} (view : O → OutView T) (r : Option O) (list : List Entry) → AnswersLend (hall x) (option_map view r) (hall y) → IfNone r (IsFlushed shown hall list w)
    lend_flushed view None list answers = (y, now_front, inl (subst HasNone (sym answers.1) answers.0))
    lend_flushed view (Some out) list answers = tt

    pub return_flushed : (out : OutView T) (r : Result ℕ HallFault) → HasLog v out → AnswersBack (hall x) out r (hall y) → OnOk r (IsFlushed shown hall v.front w)
    return_flushed out (Ok number) log answers =
        (y, now_front, inr (let d = ap (λ (h : HallView). h.durable) answers.3 in let n = answers.1 in let e = ap (λ (z : List Entry). length z) log.list in omega arith))
    return_flushed out (Err fault) log answers = tt
