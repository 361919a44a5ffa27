-- Procedures go from the front of a list to the back of others.
use Rattle.std.proofs.Common.{◌≡◌, ℕ, ◌+◌, Bool, true, false, List, [], ◌∷◌, ◌++◌, cond, Option, Some, None, refl, sym, ap, ◌∙◌, subst, inl, inr, arith, append_assoc}
use Rattle.std.proofs.lemmas.Bool.{true≢false, cases_Bool}
use Rattle.hm_lists.specs.Chains.{IsIn}
use Rattle.hm_locks.specs.Book.{IsFirst, Row}
use Rattle.hm_sched.specs.declared.queue.Queue.{Queue}
use Rattle.hm_sched.specs.declared.queue.Queue.TheVariants.{Waits}
use Rattle.hm_sched.specs.Moves.{AllWait, Moves, Pops, ask_count, comers, homeward, movers}
use Rattle.hm_sched.specs.Queues.{IsWith, home, home_of, said_of, is_ready, is_same, members}
use Rattle.hm_sched.proofs.Numbers.{apart_ready, apart_unready, same_is, same_self}

pub append_none : (xs : List ℕ) → xs ++ [] ≡ xs
append_none [] = refl
append_none (x ∷ xs) = ap (λ l. x ∷ l) (append_none xs)

pub movers-append : (moves more : List (ℕ × Queue)) → movers (moves ++ more) ≡ movers moves ++ movers more
movers-append [] more = refl
movers-append (move ∷ moves) more = ap (λ l. move.0 ∷ l) (movers-append moves more)

pub comers-append : (k : Queue) (moves more : List (ℕ × Queue)) → comers k (moves ++ more) ≡ comers k moves ++ comers k more
comers-append k [] more = refl
comers-append k (move ∷ moves) more = by (is_same move.1 k) (comers-append k moves more)
  where
    by : (b : Bool) → comers k (moves ++ more) ≡ comers k moves ++ comers k more
        → cond b (move.0 ∷ comers k (moves ++ more)) (comers k (moves ++ more)) ≡ cond b (move.0 ∷ comers k moves) (comers k moves) ++ comers k more
    by true e = ap (λ l. move.0 ∷ l) e
    by false e = e

pub moves_begin : (lists : List (List ℕ)) (queue : Queue) → Moves lists lists queue [] None
moves_begin lists queue = record { front = refl; others = λ k off. sym (append_none (members lists k)) }

-- the first of the rest is taken out
pub moves_pop : (old now new : List (List ℕ)) (queue : Queue) (moves : List (ℕ × Queue)) (taken : Option ℕ)
    → Moves old now queue moves None → Pops now new queue taken → Moves old new queue moves taken
moves_pop old now new queue moves taken was pop = record {
  front = was.front ∙ ap (λ l. movers moves ++ l) pop.front;
  others = λ k off. pop.others k off ∙ was.others k off;
}

-- and goes to the back of another list
pub moves_push : (old now new : List (List ℕ)) (queue dest : Queue) (moves : List (ℕ × Queue)) (p : ℕ) → is_same dest queue ≡ false
    → Moves old now queue moves (Some p) → IsWith now dest (members now dest ++ p ∷ []) new → Moves old new queue (moves ++ (p, dest) ∷ []) None
moves_push old now new queue dest moves p away was with = record {
  front = was.front ∙ ap (λ l. movers moves ++ p ∷ l) (sym (with queue ∙ ap (λ b. cond b (members now dest ++ p ∷ []) (members now queue)) away))
      ∙ sym (append_assoc (movers moves) (p ∷ []) (members new queue)) ∙ ap (λ l. l ++ members new queue) (sym (movers-append moves ((p, dest) ∷ [])));
  others = λ k off. with k ∙ by k (is_same dest k) refl (was.others k off) ∙ ap (λ l. members old k ++ l) (sym (comers-append k moves ((p, dest) ∷ [])));
}
  where
    by : (k : Queue) (b : Bool) → is_same dest k ≡ b → members now k ≡ members old k ++ comers k moves
        → cond b (members now dest ++ p ∷ []) (members now k) ≡ members old k ++ (comers k moves ++ cond b (p ∷ []) [])
    by k true is e = ap (λ (q : Queue). members now q ++ p ∷ []) (same_is dest k is) ∙ ap (λ l. l ++ p ∷ []) e ∙ append_assoc (members old k) (comers k moves) (p ∷ [])
    by k false is e = e ∙ ap (λ l. members old k ++ l) (sym (append_none (comers k moves)))

-- who comes to a list moves, and each that moves comes to some list
pub came : (k : Queue) (moves : List (ℕ × Queue)) (q : ℕ) → IsIn q (comers k moves) → IsIn q (movers moves)
came k [] q is = is
came k (move ∷ moves) q is = by (is_same move.1 k) (came k moves q) is
  where
    by : (b : Bool) → (IsIn q (comers k moves) → IsIn q (movers moves)) → IsIn q (cond b (move.0 ∷ comers k moves) (comers k moves)) → IsIn q (movers (move ∷ moves))
    by true again (inl e) = inl e
    by true again (inr r) = inr (again r)
    by false again r = inr (again r)

-- none of them goes to the list that it comes from
abbrev pub AllAway : Queue → List (ℕ × Queue) → Type 0
AllAway queue [] = Unit {0}
AllAway queue (move ∷ moves) = (is_same move.1 queue ≡ false) × AllAway queue moves

pub lands : (queue : Queue) (moves : List (ℕ × Queue)) (q : ℕ) → AllAway queue moves → IsIn q (movers moves)
    → (k : Queue) × ((is_same queue k ≡ false) × IsIn q (comers k moves))
lands queue [] q away is = absurd is
lands queue (move ∷ moves) q away (inl e) =
    (move.1, (turned (is_same move.1 queue) refl away.0, subst (λ b. IsIn q (cond b (move.0 ∷ comers move.1 moves) (comers move.1 moves))) (sym (same_self move.1)) (inl e)))
  where
    turned : (b : Bool) → is_same move.1 queue ≡ b → b ≡ false → is_same queue move.1 ≡ false
    turned b is off = elim (cases_Bool (is_same queue move.1)) [
      | inl on ↦ absurd (true≢false (sym (same_self queue) ∙ ap (λ (k : Queue). is_same k queue) (same_is queue move.1 on) ∙ is ∙ off))
      | inr f ↦ f
    ]
lands queue (move ∷ moves) q away (inr r) =
    let rest = lands queue moves q away.1 r in (rest.0, (rest.1.0, more rest.0 (is_same move.1 rest.0) rest.1.1))
  where
    more : (k : Queue) (b : Bool) → IsIn q (comers k moves) → IsIn q (cond b (move.0 ∷ comers k moves) (comers k moves))
    more k true is = inr is
    more k false is = is

-- those that go home
pub homeward-append : (said : List (Option Bool)) (xs ys : List ℕ) → homeward said (xs ++ ys) ≡ homeward said xs ++ homeward said ys
homeward-append said [] ys = refl
homeward-append said (x ∷ xs) ys = ap (λ l. (x, home said x) ∷ l) (homeward-append said xs ys)

pub movers-homeward : (said : List (Option Bool)) (xs : List ℕ) → movers (homeward said xs) ≡ xs
movers-homeward said [] = refl
movers-homeward said (x ∷ xs) = ap (λ l. x ∷ l) (movers-homeward said xs)

home_ready : (o : Option Bool) → is_ready (home_of o) ≡ true
home_ready None = refl
home_ready (Some true) = refl
home_ready (Some false) = refl

pub home-ready : (said : List (Option Bool)) (p : ℕ) → is_ready (home said p) ≡ true
home-ready said p = home_ready (said_of said p)

pub homeward_away : (said : List (Option Bool)) (queue : Queue) (xs : List ℕ) → is_ready queue ≡ false → AllAway queue (homeward said xs)
homeward_away said queue [] off = tt
homeward_away said queue (x ∷ xs) off = (apart_ready (home said x) queue (home-ready said x) off, homeward_away said queue xs off)

pub homeward_ready : (said : List (Option Bool)) (k : Queue) (xs : List ℕ) (q : ℕ) → IsIn q (comers k (homeward said xs)) → is_ready k ≡ true
homeward_ready said k [] q is = absurd is
homeward_ready said k (x ∷ xs) q is = by (is_same (home said x) k) refl (homeward_ready said k xs q) is
  where
    by : (b : Bool) → is_same (home said x) k ≡ b → (IsIn q (comers k (homeward said xs)) → is_ready k ≡ true)
        → IsIn q (cond b (x ∷ comers k (homeward said xs)) (comers k (homeward said xs))) → is_ready k ≡ true
    by true e again h = sym (ap is_ready (same_is (home said x) k e)) ∙ home-ready said x
    by false e again h = again h

-- those that wait
pub wait_away : (rows : List Row) (queue : Queue) (moves : List (ℕ × Queue)) → is_ready queue ≡ true → AllWait rows moves → AllAway queue moves
wait_away rows queue [] on wait = tt
wait_away rows queue (move ∷ moves) on wait =
    (apart_unready move.1 queue (ap is_ready wait.0.1) on, wait_away rows queue moves on wait.1)

pub wait_for : (rows : List Row) (k : Queue) (moves : List (ℕ × Queue)) (q : ℕ) → AllWait rows moves → IsIn q (comers k moves) → (h : ℕ) × ((k ≡ Waits h) × IsFirst rows q h)
wait_for rows k [] q wait is = absurd is
wait_for rows k (move ∷ moves) q wait is = by (is_same move.1 k) refl (wait_for rows k moves q wait.1) is
  where
    by : (b : Bool) → is_same move.1 k ≡ b → (IsIn q (comers k moves) → (h : ℕ) × ((k ≡ Waits h) × IsFirst rows q h))
        → IsIn q (cond b (move.0 ∷ comers k moves) (comers k moves)) → (h : ℕ) × ((k ≡ Waits h) × IsFirst rows q h)
    by true e again (inl f) = (wait.0.0, (sym (same_is move.1 k e) ∙ wait.0.1, subst (λ p. IsFirst rows p wait.0.0) (sym f) wait.0.2))
    by true e again (inr r) = again r
    by false e again r = again r

pub waits_first : (rows : List Row) (moves : List (ℕ × Queue)) (q : ℕ) → AllWait rows moves → IsIn q (movers moves) → (h : ℕ) × IsFirst rows q h
waits_first rows [] q wait is = absurd is
waits_first rows (move ∷ moves) q wait (inl e) = (wait.0.0, subst (λ p. IsFirst rows p wait.0.0) (sym e) wait.0.2)
waits_first rows (move ∷ moves) q wait (inr r) = waits_first rows moves q wait.1 r

pub none_come : (rows : List Row) (k : Queue) (moves : List (ℕ × Queue)) → AllWait rows moves → is_ready k ≡ true → comers k moves ≡ []
none_come rows k [] wait on = refl
none_come rows k (move ∷ moves) wait on =
    ap (λ b. cond b (move.0 ∷ comers k moves) (comers k moves)) (apart_unready move.1 k (ap is_ready wait.0.1) on) ∙ none_come rows k moves wait.1 on

pub wait-append : (rows : List Row) (moves more : List (ℕ × Queue)) → AllWait rows moves → AllWait rows more → AllWait rows (moves ++ more)
wait-append rows [] more wait rest = rest
wait-append rows (move ∷ moves) more wait rest = (wait.0, wait-append rows moves more wait.1 rest)

pub ask_count-append : (rows : List Row) (xs ys : List ℕ) → ask_count rows (xs ++ ys) ≡ ask_count rows xs + ask_count rows ys
ask_count-append rows [] ys = omega arith
ask_count-append rows (x ∷ xs) ys = let rest = ask_count-append rows xs ys in omega (arith, rest)
