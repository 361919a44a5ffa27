-- What a seat owes and added after a stay.
use Rattle.std.proofs.Common.{◌≡◌, inl, inr, ℕ, suc, ◌+◌, ◌≤◌, true, List, [], ◌∷◌, ◌++◌, length, drop, sym, refl, ap, subst, ◌∙◌, arith}
use Rattle.std.proofs.Math.Seq.{drop-append_seam}
use Rattle.std.specs.Prelude.{Some, None, Option, Result, Ok, Err, MatchResult, MatchOption, IfSome, option_map}
use Rattle.std.proofs.lemmas.Option.{same_Some}
use Rattle.hm_data.specs.declared.entry.Entry.{Entry}
use Rattle.hm_data.specs.declared.step.StepIn.{StepIn}
use Rattle.hm_data.specs.declared.step.StepOut.{StepOut}
use Rattle.hm_gate.specs.Gate.{Begins}
use Rattle.hm_gate.specs.declared.view.View.{View}
use Rattle.hm_gate.specs.declared.view.Position.TheVariants.{Out}
use Rattle.hm_gate.specs.Whole.{Whole}
use Rattle.hm_gate.specs.Total.{times, same, among, beyond, numbered}
use Rattle.hm_gate.specs.Plays.{entered, left, Found, May}
use Rattle.hm_gate.specs.Weights.{weigh, weigh_pairs}
use Rattle.hm_gate.proofs.Owed.{owes-after, nothing-owed, same-self}
use Rattle.hm_gate.proofs.Totals.{same-cases}
use Rattle.hm_hall.specs.declared.fault.HallFault.{HallFault}
use Rattle.hm_hall.specs.declared.fault.HallFault.TheVariants as fault_is
use Rattle.hm_hall.specs.declared.hall.Task.{Task}
use Rattle.hm_hall.specs.declared.hall.Task.TheVariants as task_is
use Rattle.hm_hall.specs.declared.taken.Taken.{Taken}
use Rattle.hm_lend.specs.Hall.{Answers, CanBeServed, Editions, HallView, IsOut, MayComeBack}
use Rattle.hm_lend.specs.Outs.{OutView, number_of}
use Rattle.hm_lend.specs.Stays.{AreOwn, Grows, SameOuts, Takes, one_step}
use Rattle.hm_lend.proofs.Calls.{Stops, Took}
use Rattle.hm_workers.specs.Ends.{HasLog, IsFree, IsServed, Owes, StopsBy, TaskIs}
use Rattle.hm_workers.specs.Ran.{Adds, OwnItems}

weigh_numbered : (k : ℕ) (xs : List Entry) → weigh_pairs one_step (numbered k xs) ≡ weigh one_step xs
weigh_numbered k [] = refl
weigh_numbered k (x ∷ xs) = ap (λ (n : ℕ). one_step x + n) (weigh_numbered (suc k) xs)

own_numbered : (editions : Editions) (k : ℕ) (xs : List Entry) → AreOwn editions xs → OwnItems editions (numbered k xs)
own_numbered editions k [] own = tt
own_numbered editions k (x ∷ xs) own = (own.0, own_numbered editions (suc k) xs own.1)

pub match : {A B : Type 0} (r : Result A B) (P Q : A → Type 0) (P' Q' : B → Type 0) → ((a : A) → P a → Q a) → ((b : B) → P' b → Q' b) → MatchResult r P P' → MatchResult r Q Q'
match (Ok a) P Q P' Q' f h p = f a p
match (Err b) P Q P' Q' f h p = h b p

apart : (n p a b : ℕ) → a ≤ 1 → b ≡ a + same n p → (n ≡ p → a ≡ 0) → b ≤ 1
apart n p a b most is fresh = elim (same-cases n p) [
  | inl e ↦ let z = fresh e.0 in let o = e.1 in omega arith
  | inr e ↦ let o = e.1 in omega arith
]

module _ {T S : Type 0} (shown : S → Whole Entry T) where
  pub whole_stay : (u v w : View Entry T) (t : ℕ) (x y : S) → u ≡ entered shown v t x → w ≡ left shown u y → w ≡ left shown (entered shown v t x) y
  whole_stay u v w t x y e f = f ∙ ap (λ (z : View Entry T). left shown z y) e

  module _ (v w : View Entry T) (t : ℕ) (x y : S) (is : w ≡ left shown (entered shown v t x) y) (found : Found shown v x) where
    -- what it owes, by what was entered and what was left
    balance : ((n : ℕ) → times n ((shown y).outs) ≤ 1)
        → ((n : ℕ) → times n ((shown x).outs) ≡ 1 → times n ((shown y).outs) ≡ 0 → times n v.owes ≡ 1) → (n : ℕ) → times n w.owes + times n ((shown x).outs) ≡ times n v.owes + times n ((shown y).outs)
    balance most gone n =
        let r = owes-after n v.owes ((shown x).outs) ((shown y).outs) (found.distinct n) (most n) (found.owed n) (gone n) in
        let q : times n w.owes ≡ times n (among ((shown y).outs) v.owes ++ beyond ((shown x).outs) ((shown y).outs)) = ap (λ (u : View Entry T). times n u.owes) is in omega arith

    outside : w.position ≡ Out
    outside = ap (λ (u : View Entry T). u.position) is

    pub finishes : (p : ℕ) → Owes v p → Takes shown y x p → IsFree w
    finishes p owes takes = (
      outside,
      nothing-owed w.owes (λ n.
          let o = owes.1 n in let a = takes.outs_are n in let d = found.distinct n in
          let r = balance (λ m. let a' = takes.outs_are m in let d' = found.distinct m in omega arith) (λ m one none. let a' = takes.outs_are m in let o' = owes.1 m in omega arith) n in omega arith),
    )

    pub starts : (p : ℕ) → IsFree v → Takes shown x y p → ((n : ℕ) → times n ((shown y).outs) ≤ 1) → Owes w p
    starts p free takes most = (
      outside,
      λ n.
          let o : times n v.owes ≡ 0 = ap (times n) free.1 in let a = takes.outs_are n in
          let r = balance most (λ m one none. absurd (let a' = takes.outs_are m in omega arith)) n in omega arith,
    )

    pub owes_on : (p : ℕ) → Owes v p → SameOuts shown x y → Owes w p
    owes_on p owes same_outs = (
      outside,
      λ n.
          let o = owes.1 n in let a = same_outs n in
          let r = balance (λ m. let a' = same_outs m in let d = found.distinct m in omega arith) (λ m one none. absurd (let a' = same_outs m in omega arith)) n in omega arith,
    )

    pub looks_in : IsFree v → SameOuts shown x y → IsFree w
    looks_in free same_outs = (
      outside,
      nothing-owed w.owes (λ n.
          let o : times n v.owes ≡ 0 = ap (times n) free.1 in let a = same_outs n in
          let r = balance (λ m. let a' = same_outs m in let d = found.distinct m in omega arith) (λ m one none. absurd (let a' = same_outs m in omega arith)) n in omega arith),
    )

    -- the seat has the terms, and what it added grew by what the list gained
    pub adds : (editions_in : T → Editions) (editions : Editions) → editions_in ((shown x).terms) ≡ editions → (most : ℕ) → Grows shown editions most x y → Adds editions_in most v w
    adds editions_in editions are most grows =
        let k = length ((shown x).items) in
        let added : w.mine ≡ v.mine ++ numbered k grows.more =
        ap (λ (u : View Entry T). u.mine) is ∙ ap (λ (l : List Entry). v.mine ++ numbered k l) (ap (λ (l : List Entry). drop k l) grows.items_are ∙ drop-append_seam ((shown x).items) grows.more) in (
          (shown x).terms,
          found.terms_is,
          record {
            more = numbered k grows.more;
            mine_is = added;
            own = own_numbered (editions_in ((shown x).terms)) k grows.more (subst (λ (e : Editions). AreOwn e grows.more) (sym are) grows.own);
            few = let f = grows.few in let s = weigh_numbered k grows.more in omega arith;
          },
        )

    -- the seat is stopped where the value was left so
    pub stopped_by : (fault : HallFault) → Stops shown y fault → StopsBy w fault
    stopped_by fault_is.Memory by = tt
    stopped_by fault_is.LogFault by = ap (λ (u : View Entry T). u.stopped) is ∙ by
    stopped_by (fault_is.JournalFull bytes) by = ap (λ (u : View Entry T). u.stopped) is ∙ by
    stopped_by (fault_is.Halted why) by = ap (λ (u : View Entry T). u.stopped) is ∙ by

    pub stays_stopped : ((shown x).stopped ≡ true → (shown y).stopped ≡ true) → v.stopped ≡ true → w.stopped ≡ true
    stays_stopped keeps was = ap (λ (u : View Entry T). u.stopped) is ∙ keeps (found.stopped_is was)

    -- how the seat stands with what was taken
    pub task_is_so : (editions_in : T → Editions) (at : HallView) → editions_in ((shown x).terms) ≡ at.editions → (rests : T → List Entry → Type 0) (task : Task) → IsFree v → ((n : ℕ) → times n ((shown y).outs) ≤ 1)
        → (shown y).items ≡ at.items
        → (task ≡ task_is.Idle → rests ((shown x).terms) at.items) → Took shown x y at task → TaskIs editions_in rests w task
    task_is_so editions_in at are rests (task_is.Run taken) free most same_y idle by = (
      starts taken.pid.0 free by.0 most,
      ((shown x).terms, ap (λ (u : View Entry T). u.terms) is ∙ found.terms_is, subst (λ (e : Editions). CanBeServed e taken.was) (sym are) by.1),
    )
    task_is_so editions_in at are rests task_is.Carry free most same_y idle by = looks_in free by
    task_is_so editions_in at are rests task_is.Flush free most same_y idle by = looks_in free by
    task_is_so editions_in at are rests task_is.Busy free most same_y idle by = looks_in free by
    task_is_so editions_in at are rests task_is.Idle free most same_y idle by = (
      looks_in free by,
      ((shown x).terms, ap (λ (u : View Entry T). u.terms) is ∙ found.terms_is, subst (λ (l : List Entry). rests ((shown x).terms) l) (sym (ap (λ (u : View Entry T). u.front) is ∙ same_y)) (idle refl)),
    )

    -- the same by the answer
    pub took_so : (editions_in : T → Editions) (at : HallView) → editions_in ((shown x).terms) ≡ at.editions → (rests : T → List Entry → Type 0) → IsFree v → ((n : ℕ) → times n ((shown y).outs) ≤ 1)
        → (shown y).items ≡ at.items → (r : Result Task HallFault)
        → (r ≡ Ok task_is.Idle → rests ((shown x).terms) at.items) → ((fault : HallFault) → r ≡ Err fault → Stops shown y fault) → MatchResult r (Took shown x y at) (λ _. SameOuts shown x y)
        → MatchResult r (TaskIs editions_in rests w) (λ fault. IsFree w × StopsBy w fault)
    took_so editions_in at are rests free most same_y (Ok task) idle stop by = task_is_so editions_in at are rests task free most same_y (λ e. idle (ap (λ (k : Task). Ok k) e)) by
    took_so editions_in at are rests free most same_y (Err fault) idle stop by = (looks_in free by, stopped_by fault (stop fault refl))

    -- how it stands with what was given
    pub gave_so : {A : Type 0} (taken : Taken) → Owes v taken.pid.0 → (r : Result A (Taken × HallFault)) → MatchResult r (λ _. Takes shown y x taken.pid.0) (λ e. SameOuts shown x y × ((e.0 ≡ taken) × Stops shown y e.1))
        → MatchResult r (λ _. IsFree w) (λ e. Owes w taken.pid.0 × (e.0 ≡ taken) × StopsBy w e.1)
    gave_so taken owes (Ok a) by = finishes taken.pid.0 owes by
    gave_so taken owes (Err e) by = (owes_on taken.pid.0 owes by.0, by.1.0, stopped_by e.1 by.1.1)

    -- where something failed
    pub failed_so : {A : Type 0} (r : Result A HallFault) → MatchResult r (λ _. Unit {0}) (Stops shown y) → MatchResult r (λ _. Unit {0}) (λ fault. StopsBy w fault)
    failed_so (Ok a) by = tt
    failed_so (Err fault) by = stopped_by fault by

    -- how it stands with a log that went out
    pub lent_so : {O : Type 0} (out : O → OutView T) (Q : O → Type 0) (r : Option O) → IsFree v → ((n : ℕ) → times n ((shown y).outs) ≤ 1)
        → MatchOption (option_map out r) (SameOuts shown x y) (λ o. Takes shown x y (number_of o) × (o.list ≡ (shown y).items)) → IfSome r (λ o. ((out o).terms ≡ (shown x).terms) × Q o)
        → MatchOption r (IsFree w) (λ o. HasLog w (out o))
    lent_so out Q None free most by told = looks_in free by
    lent_so out Q (Some o) free most by told = record {
      owes = starts (number_of (out o)) free by.0 most;
      list = by.1 ∙ sym (ap (λ (u : View Entry T). u.front) is);
      terms = ap (λ (u : View Entry T). u.terms) is ∙ found.terms_is ∙ ap (λ (z : T). Some z) (sym told.0);
    }

  -- a value may be left where nothing went but what the seat owes
  pub may_leave : (editions : Editions) (most : ℕ) (v u : View Entry T) (t : ℕ) (x y : S) → u ≡ entered shown v t x → Found shown v x → Grows shown editions most x y
      → ((n : ℕ) → times n ((shown x).outs) ≡ 1 → times n ((shown y).outs) ≡ 0 → times n v.owes ≡ 1) → ((n : ℕ) → times n ((shown y).outs) ≤ 1) → May shown u y
  may_leave editions most v u t x y e found grows gone distinct = subst (λ (z : View Entry T). May shown z y) (sym e) (record {
    items_begin = (grows.more, grows.items_are);
    gone = gone;
    distinct = distinct;
    stopped_is = grows.stopped_is;
    terms_is = found.terms_is ∙ ap (λ (z : T). Some z) (sym grows.terms_is);
  })

  module _ (v : View Entry T) (x : S) (found : Found shown v x) where
    -- what the seat owes is out
    pub is_told : (p : ℕ) → Owes v p → times p ((shown x).outs) ≡ 1
    is_told p owes = let a = found.owed p in let b = found.distinct p in let o = owes.1 p in let s = same-self p in omega arith

    -- a log that the seat brings back may come back
    pub comes : (at : HallView) (out : OutView T) → HasLog v out → out.written ≡ true → (shown x).items ≡ at.items → IsOut (number_of out) at → MayComeBack at out
    comes at out log written items is_out = record {
      is_out = is_out;
      begins = subst (λ (z : List Entry × List Entry). Begins z.0 z.1) (λ i. (items i, sym log.list i)) found.items_begin;
      written = written;
    }

    -- and has the value's terms
    pub same_terms : (out : OutView T) → HasLog v out → out.terms ≡ (shown x).terms
    same_terms out log = same_Some out.terms ((shown x).terms) (sym log.terms ∙ found.terms_is)

  module _ (v : View Entry T) (x y : S) (found : Found shown v x) where
    -- one went out
    pub out_none_gone : (p : ℕ) → Takes shown x y p → (n : ℕ) → times n ((shown x).outs) ≡ 1 → times n ((shown y).outs) ≡ 0 → times n v.owes ≡ 1
    out_none_gone p takes n one none = absurd (let a = takes.outs_are n in omega arith)

    pub out_apart : (p : ℕ) → Takes shown x y p → (n : ℕ) → times n ((shown y).outs) ≤ 1
    out_apart p takes n = apart n p (times n ((shown x).outs)) (times n ((shown y).outs)) (found.distinct n) (takes.outs_are n) (λ e. ap (λ (m : ℕ). times m ((shown x).outs)) e ∙ takes.fresh)

    -- none did
    pub same_none_gone : SameOuts shown x y → (n : ℕ) → times n ((shown x).outs) ≡ 1 → times n ((shown y).outs) ≡ 0 → times n v.owes ≡ 1
    same_none_gone outs n one none = absurd (let a = outs n in omega arith)

    pub same_apart : SameOuts shown x y → (n : ℕ) → times n ((shown y).outs) ≤ 1
    same_apart outs n = let a = outs n in let d = found.distinct n in omega arith

    -- one came back, which the seat owes
    pub back_gone : (p : ℕ) → Owes v p → Takes shown y x p → (n : ℕ) → times n ((shown x).outs) ≡ 1 → times n ((shown y).outs) ≡ 0 → times n v.owes ≡ 1
    back_gone p owes takes n one none = let a = takes.outs_are n in let o = owes.1 n in omega arith

    pub back_apart : (p : ℕ) → Takes shown y x p → (n : ℕ) → times n ((shown y).outs) ≤ 1
    back_apart p takes n = let a = takes.outs_are n in let d = found.distinct n in omega arith

    task_gone : (at : HallView) (task : Task) → Took shown x y at task → (n : ℕ) → times n ((shown x).outs) ≡ 1 → times n ((shown y).outs) ≡ 0 → times n v.owes ≡ 1
    task_gone at (task_is.Run taken) by = out_none_gone taken.pid.0 by.0
    task_gone at task_is.Carry by = same_none_gone by
    task_gone at task_is.Flush by = same_none_gone by
    task_gone at task_is.Busy by = same_none_gone by
    task_gone at task_is.Idle by = same_none_gone by

    task_apart : (at : HallView) (task : Task) → Took shown x y at task → (n : ℕ) → times n ((shown y).outs) ≤ 1
    task_apart at (task_is.Run taken) by = out_apart taken.pid.0 by.0
    task_apart at task_is.Carry by = same_apart by
    task_apart at task_is.Flush by = same_apart by
    task_apart at task_is.Busy by = same_apart by
    task_apart at task_is.Idle by = same_apart by

    pub took_gone : (at : HallView) (r : Result Task HallFault) → MatchResult r (Took shown x y at) (λ _. SameOuts shown x y) → (n : ℕ) → times n ((shown x).outs) ≡ 1 → times n ((shown y).outs) ≡ 0 → times n v.owes ≡ 1
    took_gone at (Ok task) by = task_gone at task by
    took_gone at (Err fault) by = same_none_gone by

    pub took_apart : (at : HallView) (r : Result Task HallFault) → MatchResult r (Took shown x y at) (λ _. SameOuts shown x y) → (n : ℕ) → times n ((shown y).outs) ≤ 1
    took_apart at (Ok task) by = task_apart at task by
    took_apart at (Err fault) by = same_apart by

    pub gave_gone : {A B : Type 0} (p : ℕ) → Owes v p → (r : Result A B) (Q : B → Type 0) → MatchResult r (λ _. Takes shown y x p) (λ e. SameOuts shown x y × Q e) → (n : ℕ) → times n ((shown x).outs) ≡ 1 → times n ((shown y).outs) ≡ 0 → times n v.owes ≡ 1
    gave_gone p owes (Ok a) Q by = back_gone p owes by
    gave_gone p owes (Err b) Q by = same_none_gone by.0

    pub gave_apart : {A B : Type 0} (p : ℕ) (r : Result A B) (Q : B → Type 0) → MatchResult r (λ _. Takes shown y x p) (λ e. SameOuts shown x y × Q e) → (n : ℕ) → times n ((shown y).outs) ≤ 1
    gave_apart p (Ok a) Q by = back_apart p by
    gave_apart p (Err b) Q by = same_apart by.0

    pub lent_gone : {O : Type 0} (r : Option O) (p : O → ℕ) (Q : O → Type 0) → MatchOption r (SameOuts shown x y) (λ o. Takes shown x y (p o) × Q o) → (n : ℕ) → times n ((shown x).outs) ≡ 1 → times n ((shown y).outs) ≡ 0 → times n v.owes ≡ 1
    lent_gone None p Q by = same_none_gone by
    lent_gone (Some o) p Q by = out_none_gone (p o) by.0

    pub lent_apart : {O : Type 0} (r : Option O) (p : O → ℕ) (Q : O → Type 0) → MatchOption r (SameOuts shown x y) (λ o. Takes shown x y (p o) × Q o) → (n : ℕ) → times n ((shown y).outs) ≤ 1
    lent_apart None p Q by = same_apart by
    lent_apart (Some o) p Q by = out_apart (p o) by.0

-- what was served by the terms that the seat knows was served by the editions
pub served : {T : Type 0} (editions_in : T → Editions) (v : View Entry T) (terms : T) (editions : Editions) → v.terms ≡ Some terms → editions_in terms ≡ editions → (was : StepIn) (out : StepOut) → IsServed editions_in v was out
    → Answers editions was out
served editions_in v terms editions is are was out by =
    subst (λ (e : Editions). Answers e was out) (ap editions_in (same_Some by.0 terms (sym by.1 ∙ is)) ∙ are) by.2

-- what holds of an answer holds of what is left of it
pub left_so : {A B U : Type 0} (P : Type 0) (Q : B → Type 0) (given : Result A B) (left : Result U B) → MatchResult given (λ _. MatchResult left (λ _. Unit {0}) (λ _. ⊥)) (λ b. left ≡ Err b)
    → MatchResult given (λ _. P) Q → MatchResult left (λ _. P) Q
left_so P Q (Ok a) (Ok u) is p = p
left_so P Q (Ok a) (Err b) is p = absurd is
left_so {A} {B} {U} P Q (Err b) left is q = subst (λ (r : Result U B). MatchResult r (λ _. P) Q) (sym is) q
