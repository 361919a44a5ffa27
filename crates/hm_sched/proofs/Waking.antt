-- A list that is woken, one that is woken, and one that joins or leaves: who stands where.
use Rattle.std.proofs.Common.{◌≡◌, ℕ, ◌+◌, ◌*◌, Bool, true, false, List, [], ◌∷◌, ◌++◌, length, cond, Option, Some, None, refl, sym, ap, ◌∙◌, subst, inl, inr, arith, length-append}
use Rattle.std.specs.Prelude.{◌↔◌}
use Rattle.std.proofs.lemmas.Bool.{true≢false, false≢true, cases_Bool, cases_eq}
use Rattle.hm_lists.specs.Chains.{IsIn}
use Rattle.hm_lists.specs.Map.{without}
use Rattle.hm_sched.specs.declared.queue.Queue.{Queue}
use Rattle.hm_sched.specs.declared.queue.Queue.TheVariants.{Servers, Tables, Held, Waits, Suspended}
use Rattle.hm_sched.specs.Effects.{Joins, Leaves, Wakes, WakesOne}
use Rattle.hm_sched.specs.Moves.{AreWoken, IsWoken, Moves, Pops, comers, homeward, movers}
use Rattle.hm_sched.specs.Queues.{IsWith, StandsIn, StandsNowhere, home, is_ready, is_same, is_suspended, members}
use Rattle.hm_sched.proofs.Members.{in_left, in_parts, in_right, in_without, without_in, without_none}
use Rattle.hm_sched.proofs.Moving.{append_none, came, home-ready, homeward-append, homeward_away, homeward_ready, lands, movers-homeward, moves_pop, moves_push, moves_begin}
use Rattle.hm_sched.proofs.Numbers.{apart_ready, same_is, same_self}

-- what a list with one more says
with_is : (old new : List (List ℕ)) (queue k : Queue) (xs : List ℕ) (b : Bool) → IsWith old queue xs new → is_same queue k ≡ b → members new k ≡ cond b xs (members old k)
with_is old new queue k xs b with is = with k ∙ ap (λ b. cond b xs (members old k)) is

pub joins : (old new : List (List ℕ)) (queue : Queue) (p : ℕ) → IsWith old queue (members old queue ++ p ∷ []) new → Joins old new queue p
joins old new queue p with = record {
  there = subst (IsIn p) (sym (with_is old new queue queue _ true with (same_self queue))) (in_right p (members old queue) (p ∷ []) (inl refl));
  kept = λ k q is. elim (cases_Bool (is_same queue k)) [
    | inl same ↦ subst (IsIn q) (sym (with_is old new queue k _ true with same)) (in_left q (members old queue) (p ∷ []) (subst (λ (j : Queue). StandsIn old j q) (sym (same_is queue k same)) is))
    | inr other ↦ subst (IsIn q) (sym (with_is old new queue k _ false with other)) is
  ];
  only = λ k q is. elim (cases_Bool (is_same queue k)) [
    | inl same ↦ elim (in_parts q (members old queue) (p ∷ []) (subst (IsIn q) (with_is old new queue k _ true with same) is)) [
      | inl a ↦ inl (subst (λ (j : Queue). StandsIn old j q) (same_is queue k same) a)
      | inr b ↦ elim b [ inl e ↦ inr (sym (same_is queue k same), e) | inr never ↦ absurd never ]
    ]
    | inr other ↦ inl (subst (IsIn q) (with_is old new queue k _ false with other) is)
  ];
}

pub leaves : (old new : List (List ℕ)) (p : ℕ) → ((k : Queue) → members new k ≡ without p (members old k)) → Leaves old new p
leaves old new p are = record {
  gone = λ k is. (in_without p p (members old k) (subst (IsIn p) (are k) is)).1 refl;
  kept = λ k q differs is. subst (IsIn q) (sym (are k)) (without_in p q (members old k) differs is);
  only = λ k q is. (in_without p q (members old k) (subst (IsIn q) (are k) is)).0;
}

pub leaves_none : (lists : List (List ℕ)) (p : ℕ) → StandsNowhere lists p → Leaves lists lists p
leaves_none lists p nowhere = record { gone = nowhere; kept = λ k q differs is. is; only = λ k q is. is }

pub same_without : (lists : List (List ℕ)) (p : ℕ) → StandsNowhere lists p → (k : Queue) → members lists k ≡ without p (members lists k)
same_without lists p nowhere k = sym (without_none p (members lists k) (nowhere k))

-- on the way through a list that is woken
pub record IsWaking (said : List (Option Bool)) (old now : List (List ℕ)) (queue : Queue) (before after : ℕ) : Type 0 where
  pub gone : List ℕ
  pub moved : Moves old now queue (homeward said gone) None
  pub steps : after ≡ before + 2 * length gone

pub waking_begin : (said : List (Option Bool)) (lists : List (List ℕ)) (queue : Queue) (before : ℕ) → IsWaking said lists lists queue before before
waking_begin said lists queue before = record { gone = []; moved = moves_begin lists queue; steps = omega arith }

pub waking_next : (said : List (Option Bool)) (old now popped new : List (List ℕ)) (queue : Queue) (before after done p : ℕ) → is_ready queue ≡ false
    → IsWaking said old now queue before after → Pops now popped queue (Some p) → IsWith popped (home said p) (members popped (home said p) ++ p ∷ []) new
    → done ≡ after + 2 → IsWaking said old new queue before done
waking_next said old now popped new queue before after done p off was pop with steps = record {
  gone = was.gone ++ p ∷ [];
  moved = subst (λ moves. Moves old new queue moves None) (sym (homeward-append said was.gone (p ∷ [])))
      (moves_push old popped new queue (home said p) (homeward said was.gone) p (apart_ready (home said p) queue (home-ready said p) off) (moves_pop old now popped queue (homeward said was.gone) (Some p) was.moved pop) with);
  steps = (let long = length-append was.gone (p ∷ []) in let so = was.steps in omega (arith, long, so, steps));
}

pub all_woken : (said : List (Option Bool)) (old now new : List (List ℕ)) (queue : Queue) (before after : ℕ)
    → IsWaking said old now queue before after → Pops now new queue None → AreWoken said old new queue × (after ≡ before + 2 * length (members old queue))
all_woken said old now new queue before after was pop =
    let done = moves_pop old now new queue (homeward said was.gone) None was.moved pop in
    let all : members old queue ≡ was.gone = done.front ∙ ap (λ l. movers (homeward said was.gone) ++ l) pop.none ∙ append_none (movers (homeward said was.gone)) ∙ movers-homeward said was.gone in (
      record { moves = subst (λ xs. Moves old new queue (homeward said xs) None) (sym all) done; rest = pop.none },
      (
          let long = ap (λ (l : List ℕ). length l) all in
          let so = was.steps in omega (arith, long, so)),
    )

pub wakes : (said : List (Option Bool)) (old new : List (List ℕ)) (queue : Queue) → is_ready queue ≡ false → AreWoken said old new queue → Wakes old new queue
wakes said old new queue off woken =
    let moves = homeward said (members old queue) in record {
      gone = λ q is. subst (IsIn q) woken.rest is;
      kept = λ q stands. elim (cases_Bool (is_same queue stands.0)) [
        | inl same ↦
            let moved : IsIn q (movers moves) = subst (IsIn q) (sym (movers-homeward said (members old queue))) (subst (λ (j : Queue). StandsIn old j q) (sym (same_is queue stands.0 same)) stands.1) in
            let to = lands queue moves q (homeward_away said queue (members old queue) off) moved in
            (to.0, subst (IsIn q) (sym (woken.moves.others to.0 to.1.0)) (in_right q (members old to.0) (comers to.0 moves) to.1.1))
        | inr other ↦ (stands.0, subst (IsIn q) (sym (woken.moves.others stands.0 other)) (in_left q (members old stands.0) (comers stands.0 moves) stands.1))
      ];
      only = λ k q is. elim (cases_Bool (is_same queue k)) [
        | inl same ↦ absurd (subst (IsIn q) woken.rest (subst (λ (j : Queue). StandsIn new j q) (sym (same_is queue k same)) is))
        | inr other ↦ elim (in_parts q (members old k) (comers k moves) (subst (IsIn q) (woken.moves.others k other) is)) [
          | inl a ↦ inl a
          | inr b ↦ inr (homeward_ready said k (members old queue) q b, subst (IsIn q) (movers-homeward said (members old queue)) (came k moves q b))
        ]
      ];
    }

-- one whose call is out
pub one_woken : (said : List (Option Bool)) (old between new : List (List ℕ)) (p s : ℕ) → StandsIn old (Suspended s) p
    → ((k other : Queue) → StandsIn old k p → StandsIn old other p → k ≡ other)
    → ((k : Queue) → members between k ≡ without p (members old k)) → IsWith between (home said p) (members between (home said p) ++ p ∷ []) new
    → IsWoken said old new p
one_woken said old between new p s stands one are with = record {
  moved = λ t is k. by k (is_same (home said p) k) refl;
  stayed = λ never. absurd (never s stands);
}
  where
    by : (k : Queue) (b : Bool) → is_same (home said p) k ≡ b → members new k ≡ cond (is_same (home said p) k) (members old k ++ p ∷ []) (without p (members old k))
    by k true e =
        let on : is_ready k ≡ true = sym (ap is_ready (same_is (home said p) k e)) ∙ home-ready said p in
        let out : IsIn p (members old k) → ⊥ = λ is. true≢false (sym on ∙ ap is_ready (one k (Suspended s) is stands)) in
        with_is between new (home said p) k _ true with e
        ∙ ap (λ (j : Queue). members between j ++ p ∷ []) (same_is (home said p) k e)
        ∙ ap (λ l. l ++ p ∷ []) (are k ∙ without_none p (members old k) out)
        ∙ sym (ap (λ b. cond b (members old k ++ p ∷ []) (without p (members old k))) e)
    by k false e = with_is between new (home said p) k _ false with e ∙ are k ∙ sym (ap (λ b. cond b (members old k ++ p ∷ []) (without p (members old k))) e)

pub wakes_one : (said : List (Option Bool)) (old between new : List (List ℕ)) (p s : ℕ) → StandsIn old (Suspended s) p
    → ((k : Queue) → members between k ≡ without p (members old k)) → IsWith between (home said p) (members between (home said p) ++ p ∷ []) new
    → WakesOne old new p
wakes_one said old between new p s stands are with =
    let join = joins between new (home said p) p with in
    let left = leaves old between p are in record {
      gone = λ t is. elim (join.only (Suspended t) p is) [
        | inl a ↦ left.gone (Suspended t) a
        | inr b ↦ true≢false (sym (home-ready said p) ∙ sym (ap is_ready b.0))
      ];
      kept = λ q is. elim (cases_eq q p) [
        | inl same ↦ (home said p, subst (λ r. StandsIn new (home said p) r) (sym same) join.there)
        | inr differs ↦ (is.0, join.kept is.0 q (left.kept is.0 q differs is.1))
      ];
      only = λ k q is. elim (join.only k q is) [
        | inl a ↦ inl (left.only k q a)
        | inr b ↦ inr (ap is_ready b.0 ∙ home-ready said p, (Suspended s, subst (λ r. StandsIn old (Suspended s) r) (sym b.1) stands))
      ];
    }

pub none_woken : (said : List (Option Bool)) (lists : List (List ℕ)) (p : ℕ) → ((s : ℕ) → StandsIn lists (Suspended s) p → ⊥) → WakesOne lists lists p × IsWoken said lists lists p
none_woken said lists p none = (
  record { gone = none; kept = λ q is. is; only = λ k q is. inl is },
  record { moved = λ s is. absurd (none s is); stayed = λ never. refl },
)

suspended_is : (k : Queue) → is_suspended k ≡ true → (s : ℕ) × (k ≡ Suspended s)
suspended_is Servers e = absurd (false≢true e)
suspended_is Tables e = absurd (false≢true e)
suspended_is Held e = absurd (false≢true e)
suspended_is (Waits p) e = absurd (false≢true e)
suspended_is (Suspended s) e = (s, refl)

pub call_is_out : (lists : List (List ℕ)) (k : Queue) (p : ℕ) (b : Bool) → b ≡ is_suspended k → StandsIn lists k p
    → ((one other : Queue) → StandsIn lists one p → StandsIn lists other p → one ≡ other) → (b ≡ true) ↔ ((s : ℕ) × StandsIn lists (Suspended s) p)
call_is_out lists k p b is stands one = (
  (λ e. let at = suspended_is k (sym is ∙ e) in (at.0, subst (λ (j : Queue). StandsIn lists j p) at.1 stands)),
  (λ out. is ∙ ap is_suspended (one k (Suspended out.0) stands out.1)),
)
