-- Those that are passed at the front of the ready lists, and the one that comes next: who stands where, and in how many steps.
use Rattle.std.proofs.Common.{◌≡◌, ◌≢◌, ℕ, ◌+◌, ◌*◌, ◌<◌, true, false, List, [], ◌∷◌, ◌++◌, length, cond, Option, Some, None, refl, sym, ap, ◌∙◌, subst, inl, inr, ◌⊎◌, arith, append_assoc, length-append}
use Rattle.std.specs.Prelude.{option_to_list, IfSome, IfNone}
use Rattle.std.proofs.lemmas.Bool.{cases_Bool}
use Rattle.std.proofs.lemmas.Option.{none-some, same_Some}
use Rattle.hm_lists.specs.Chains.{IsIn}
use Rattle.hm_locks.specs.Book.{IsBlockedBy, IsFirst, IsFree, Row, asks_in, row_of}
use Rattle.hm_sched.specs.declared.queue.Queue.{Queue}
use Rattle.hm_sched.specs.declared.queue.Queue.TheVariants.{Servers, Tables, Waits}
use Rattle.hm_sched.specs.Effects.{Passes}
use Rattle.hm_sched.specs.Moves.{AllWait, IsNext, IsNextOf, Moves, PassesOne, Pops, ask_count, comers, movers}
use Rattle.hm_sched.specs.Queues.{IsWith, Stands, StandsIn, StandsNowhere, is_ready, is_same, members, ready_count}
use Rattle.hm_sched.proofs.Members.{in_left, in_parts, in_right}
use Rattle.hm_sched.proofs.Moving.{append_none, ask_count-append, came, lands, movers-append, moves_begin, moves_pop, moves_push, none_come, wait-append, wait_away, wait_for, waits_first}
use Rattle.hm_sched.proofs.Numbers.{apart_unready, same_is}

-- on the way through one list
pub record IsPassing (rows : List Row) (old now : List (List ℕ)) (queue : Queue) (before after : ℕ) : Type 0 where
  pub moves : List (ℕ × Queue)
  pub moved : Moves old now queue moves None
  pub wait : AllWait rows moves
  pub steps : after ≡ before + 2 * length moves + ask_count rows (movers moves)

pub passing_begin : (rows : List Row) (lists : List (List ℕ)) (queue : Queue) (before : ℕ) → IsPassing rows lists lists queue before before
passing_begin rows lists queue before = record { moves = []; moved = moves_begin lists queue; wait = tt; steps = omega arith }

pub passing_next : (rows : List Row) (old now popped new : List (List ℕ)) (queue : Queue) (before after done p h : ℕ) → is_ready queue ≡ true
    → IsPassing rows old now queue before after → Pops now popped queue (Some p) → IsFirst rows p h → IsWith popped (Waits h) (members popped (Waits h) ++ p ∷ []) new
    → done ≡ after + 2 + length (asks_in (row_of rows p)) → IsPassing rows old new queue before done
passing_next rows old now popped new queue before after done p h on was pop first with steps = record {
  moves = was.moves ++ (p, Waits h) ∷ [];
  moved = moves_push old popped new queue (Waits h) was.moves p (apart_unready (Waits h) queue refl on) (moves_pop old now popped queue was.moves (Some p) was.moved pop) with;
  wait = wait-append rows was.moves ((p, Waits h) ∷ []) was.wait ((h, refl, first), tt);
  steps = (
      let long : length (was.moves ++ (p, Waits h) ∷ []) ≡ length was.moves + 1 = length-append was.moves ((p, Waits h) ∷ []) in
      let asks : ask_count rows (movers (was.moves ++ (p, Waits h) ∷ [])) ≡ ask_count rows (movers was.moves) + (length (asks_in (row_of rows p)) + 0) = ap (ask_count rows) (movers-append was.moves ((p, Waits h) ∷ [])) ∙ ask_count-append rows (movers was.moves) (p ∷ []) in
      let so = was.steps in omega (arith, long, asks, so, steps));
}

pub next_none : (rows : List Row) (old now new : List (List ℕ)) (queue : Queue) (before after done : ℕ)
    → IsPassing rows old now queue before after → Pops now new queue None → done ≡ after + 1 → IsNextOf rows old new queue None before done
next_none rows old now new queue before after done was pop steps = record {
  moves = was.moves;
  passes = record { moved = moves_pop old now new queue was.moves None was.moved pop; wait = was.wait; free = tt; rest = pop.none };
  steps = (
      let asks : ask_count rows (movers was.moves ++ []) ≡ ask_count rows (movers was.moves) = ap (ask_count rows) (append_none (movers was.moves)) in
      let so = was.steps in omega (arith, asks, so, steps));
}

pub next_some : (rows : List Row) (old now new : List (List ℕ)) (queue : Queue) (before after done p : ℕ)
    → IsPassing rows old now queue before after → Pops now new queue (Some p) → IsFree rows p → done ≡ after + 1 + length (asks_in (row_of rows p))
    → IsNextOf rows old new queue (Some p) before done
next_some rows old now new queue before after done p was pop free steps = record {
  moves = was.moves;
  passes = record { moved = moves_pop old now new queue was.moves (Some p) was.moved pop; wait = was.wait; free = free; rest = tt };
  steps = (
      let asks : ask_count rows (movers was.moves ++ p ∷ []) ≡ ask_count rows (movers was.moves) + (length (asks_in (row_of rows p)) + 0) = ask_count-append rows (movers was.moves) (p ∷ []) in
      let so = was.steps in omega (arith, asks, so, steps));
}

-- one that is at the front stood in the list
pub popped_was : (rows : List Row) (old now new : List (List ℕ)) (queue : Queue) (before after p : ℕ)
    → IsPassing rows old now queue before after → Pops now new queue (Some p) → StandsIn old queue p
popped_was rows old now new queue before after p was pop =
    subst (IsIn p) (sym was.moved.front) (in_right p (movers was.moves) (members now queue) (subst (IsIn p) (sym pop.front) (inl refl)))

-- what is left is shorter
pub shorter : (now popped new : List (List ℕ)) (queue dest : Queue) (p : ℕ) (xs : List ℕ) → Pops now popped queue (Some p) → IsWith popped dest xs new → is_same dest queue ≡ false
    → length (members new queue) < length (members now queue)
shorter now popped new queue dest p xs pop with away =
    let same : length (members new queue) ≡ length (members popped queue) = ap (λ (l : List ℕ). length l) (with queue ∙ ap (λ b. cond b xs (members popped queue)) away) in
    let front = ap (λ (l : List ℕ). length l) pop.front in omega (arith, same, front)

-- what passing one list does
pub record PassesList (rows : List Row) (old new : List (List ℕ)) (queue : Queue) (given : Option ℕ) : Type 0 where
  pub kept : (q : ℕ) → given ≢ Some q → Stands old q → Stands new q
  pub only : (k : Queue) (q : ℕ) → StandsIn new k q → StandsIn old k q ⊎ (StandsIn old queue q × ((h : ℕ) × (k ≡ Waits h) × IsBlockedBy rows q h))
  pub some : (q : ℕ) → given ≡ Some q → StandsIn old queue q × IsFree rows q
  pub ready : (k : Queue) → is_ready k ≡ true → is_same queue k ≡ false → members new k ≡ members old k
  pub all : given ≡ None → (q : ℕ) → StandsIn old queue q → (h : ℕ) × IsBlockedBy rows q h

passes_list : (rows : List Row) (old new : List (List ℕ)) (queue : Queue) (moves : List (ℕ × Queue)) (given : Option ℕ) → is_ready queue ≡ true
    → PassesOne rows old new queue moves given → PassesList rows old new queue given
passes_list rows old new queue moves given on is = record {
  kept = λ q other stands. elim (cases_Bool (is_same queue stands.0)) [
    | inl same ↦ elim (in_parts q (movers moves) (option_to_list given ++ members new queue) (subst (IsIn q) is.moved.front (subst (λ (j : Queue). StandsIn old j q) (sym (same_is queue stands.0 same)) stands.1))) [
      | inl a ↦
          let to = lands queue moves q (wait_away rows queue moves on is.wait) a in
          (to.0, subst (IsIn q) (sym (is.moved.others to.0 to.1.0)) (in_right q (members old to.0) (comers to.0 moves) to.1.1))
      | inr b ↦ (queue, rest q given other b)
    ]
    | inr off ↦ (stands.0, subst (IsIn q) (sym (is.moved.others stands.0 off)) (in_left q (members old stands.0) (comers stands.0 moves) stands.1))
  ];
  only = λ k q here. elim (cases_Bool (is_same queue k)) [
    | inl same ↦ inl (subst (λ (j : Queue). StandsIn old j q) (same_is queue k same) (subst (IsIn q) (sym is.moved.front) (in_right q (movers moves) (option_to_list given ++ members new queue)
        (in_right q (option_to_list given) (members new queue) (subst (λ (j : Queue). StandsIn new j q) (sym (same_is queue k same)) here)))))
    | inr off ↦ elim (in_parts q (members old k) (comers k moves) (subst (IsIn q) (is.moved.others k off) here)) [
      | inl a ↦ inl a
      | inr b ↦
          let for = wait_for rows k moves q is.wait b in
          inr (moved q (came k moves q b), (for.0, for.1.0, for.1.1.0))
    ]
  ];
  some = λ q e. (first q given e is.moved.front, free q given e is.free);
  ready = λ k ready off. is.moved.others k off ∙ ap (λ l. members old k ++ l) (none_come rows k moves is.wait ready) ∙ append_none (members old k);
  all = λ e q here. elim (in_parts q (movers moves) (option_to_list given ++ members new queue) (subst (IsIn q) is.moved.front here)) [
    | inl a ↦ let first = waits_first rows moves q is.wait a in (first.0, first.1.0)
    | inr b ↦ absurd (none q given e is.rest b)
  ];
}
  where
    moved : (q : ℕ) → IsIn q (movers moves) → StandsIn old queue q
    moved q a = subst (IsIn q) (sym is.moved.front) (in_left q (movers moves) (option_to_list given ++ members new queue) a)

    none : (q : ℕ) (o : Option ℕ) → o ≡ None → IfNone o (members new queue ≡ []) → IsIn q (option_to_list o ++ members new queue) → ⊥
    none q None e empty b = subst (IsIn q) empty b
    none q (Some p) e empty b = absurd (none-some p (sym e))

    rest : (q : ℕ) (o : Option ℕ) → o ≢ Some q → IsIn q (option_to_list o ++ members new queue) → IsIn q (members new queue)
    rest q None other b = b
    rest q (Some p) other (inl e) = absurd (other (ap Some (sym e)))
    rest q (Some p) other (inr r) = r

    first : (q : ℕ) (o : Option ℕ) → o ≡ Some q → members old queue ≡ movers moves ++ (option_to_list o ++ members new queue) → StandsIn old queue q
    first q None e front = absurd (none-some q e)
    first q (Some p) e front = subst (IsIn q) (sym front) (in_right q (movers moves) (p ∷ members new queue) (inl (sym (same_Some p q e))))

    free : (q : ℕ) (o : Option ℕ) → o ≡ Some q → IfSome o (IsFree rows) → IsFree rows q
    free q None e f = absurd (none-some q e)
    free q (Some p) e f = subst (IsFree rows) (same_Some p q e) f

gone_of : (lists : List (List ℕ)) (given : Option ℕ) → IfSome given (λ p. StandsNowhere lists p) → (q : ℕ) → given ≡ Some q → StandsNowhere lists q
gone_of lists None out q e = absurd (none-some q e)
gone_of lists (Some p) out q e = subst (StandsNowhere lists) (same_Some p q e) out

none_there : (o : Option ℕ) (P : Type 0) → o ≡ None → IfNone o P → P
none_there None P e is = is
none_there (Some p) P e is = absurd (cc)

-- in one list alone
pub passes_first : (rows : List Row) (old new : List (List ℕ)) (moves : List (ℕ × Queue)) (p : ℕ) → PassesOne rows old new Servers moves (Some p)
    → StandsNowhere new p → Passes rows old new (Some p) × (ready_count new < ready_count old)
passes_first rows old new moves p is out =
    let one = passes_list rows old new Servers moves (Some p) refl is in
    let tables = ap (λ (l : List ℕ). length l) (one.ready Tables refl refl) in
    let front = ap (λ (l : List ℕ). length l) is.moved.front in
    let long = length-append (movers moves) (p ∷ members new Servers) in (
      record {
        gone = gone_of new (Some p) out;
        kept = one.kept;
        only = λ k q here. elim (one.only k q here) [ inl a ↦ inl a | inr b ↦ inr (inl b.0, b.1) ];
        none = λ e. absurd (none-some p (sym e));
        all = λ e. absurd (none-some p (sym e));
        some = λ q e. let s = one.some q e in (inl s.0, s.1);
      },
      omega (arith, tables, front, long),
    )

-- through both lists
pub passes_both : (rows : List Row) (old between new : List (List ℕ)) (servers tables : List (ℕ × Queue)) (given : Option ℕ)
    → PassesOne rows old between Servers servers None → PassesOne rows between new Tables tables given
    → IfSome given (λ p. StandsNowhere new p) → Passes rows old new given × IfSome given (λ _. ready_count new < ready_count old)
passes_both rows old between new servers tables given first second out =
    let one = passes_list rows old between Servers servers None refl first in
    let two = passes_list rows between new Tables tables given refl second in
    let left : members new Servers ≡ [] = two.ready Servers refl refl ∙ first.rest in
    let same = one.ready Tables refl refl in (
      record {
        gone = gone_of new given out;
        kept = λ q other stands. two.kept q other (one.kept q (none-some q) stands);
        only = λ k q here. elim (two.only k q here) [
          | inl a ↦ elim (one.only k q a) [ inl b ↦ inl b | inr b ↦ inr (inl b.0, b.1) ]
          | inr a ↦ inr (inr (subst (IsIn q) same a.0), a.1)
        ];
        none = λ e q ready. elim ready [
          | inl a ↦ subst (IsIn q) left a
          | inr a ↦ subst (IsIn q) (none_there given (members new Tables ≡ []) e second.rest) a
        ];
        all = λ e q ready. elim ready [ inl a ↦ one.all refl q a | inr a ↦ two.all e q (subst (IsIn q) (sym same) a) ];
        some = λ q e. let s = two.some q e in (inr (subst (IsIn q) same s.0), s.1);
      },
      fewer given second.moved.front left same,
    )
  where
    fewer : (o : Option ℕ) → members between Tables ≡ movers tables ++ (option_to_list o ++ members new Tables) → members new Servers ≡ [] → members between Tables ≡ members old Tables
        → IfSome o (λ _. ready_count new < ready_count old)
    fewer None front left same = tt
    fewer (Some p) front left same =
        let f = ap (λ (l : List ℕ). length l) front in
        let e = ap (λ (l : List ℕ). length l) left in
        let s = ap (λ (l : List ℕ). length l) same in
        let long = length-append (movers tables) (p ∷ members new Tables) in
        omega (arith, f, e, s, long)

-- the steps of both
pub next_first : (rows : List Row) (old new : List (List ℕ)) (p before after : ℕ) → IsNextOf rows old new Servers (Some p) before after → IsNext rows old new (Some p) before after
next_first rows old new p before after is = record { moves = is.moves; passes = inl (is.passes, refl); steps = (let s = is.steps in omega (arith, s)) }

pub next_both : (rows : List Row) (old between new : List (List ℕ)) (given : Option ℕ) (before middle after : ℕ)
    → IsNextOf rows old between Servers None before middle → IsNextOf rows between new Tables given middle after → IsNext rows old new given before after
next_both rows old between new given before middle after one two = record {
  moves = one.moves ++ two.moves;
  passes = inr (record { between = between; servers = one.moves; tables = two.moves; parts = refl; first = one.passes; second = two.passes });
  steps = (
      let long = length-append one.moves two.moves in
      let first : ask_count rows (movers one.moves ++ []) ≡ ask_count rows (movers one.moves) = ap (ask_count rows) (append_none (movers one.moves)) in
      let all : ask_count rows (movers (one.moves ++ two.moves) ++ option_to_list given) ≡ ask_count rows (movers one.moves) + ask_count rows (movers two.moves ++ option_to_list given) =
      ap (λ l. ask_count rows (l ++ option_to_list given)) (movers-append one.moves two.moves)
      ∙ ap (ask_count rows) (append_assoc (movers one.moves) (movers two.moves) (option_to_list given))
      ∙ ask_count-append rows (movers one.moves) (movers two.moves ++ option_to_list given) in
      let s = one.steps in
      let t = two.steps in omega (arith, long, first, all, s, t));
}

-- the tables' list is as it was after the servers'
pub tables_kept : (rows : List Row) (old new : List (List ℕ)) (given : Option ℕ) (before after : ℕ) → IsNextOf rows old new Servers given before after → members new Tables ≡ members old Tables
tables_kept rows old new given before after is = (passes_list rows old new Servers is.moves given refl is.passes).ready Tables refl refl
