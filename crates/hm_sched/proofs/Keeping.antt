-- How a scheduler is kept when one comes into a list or leaves one, and when there is more room.
use Rattle.std.proofs.Common.{◌≡◌, ℕ, zero, suc, ◌+◌, ◌<◌, ◌≤◌, ◌^◌, Bool, true, false, List, [], ◌∷◌, ◌++◌, length, map, set, drop, replicate, eqb, cond, Some, slice_get, refl, sym, ap, ◌∙◌, subst, inl, inr, arith, length-append}
use Rattle.std.proofs.Math.ListN.{length-set}
use Rattle.std.proofs.lemmas.List.{length-map, length-replicate}
use Rattle.hm_lists.specs.Chains.{IsIn, Differ, list_at}
use Rattle.hm_lists.specs.Map.{AreApart, IsOut, Map, without}
use Rattle.hm_sched.specs.declared.queue.Queue.{Queue}
use Rattle.hm_sched.specs.declared.queue.Queue.TheVariants.{Servers, Tables, Held, Waits, Suspended}
use Rattle.hm_sched.specs.Queues.{HasRoom, IsKept, IsSameRoom, Stations, StandsNowhere, members, number}
use Rattle.hm_sched.proofs.Members.{apart_pop, apart_push, apart_without, drop_in, in_parts, in_without, list_at-map, list_at-set, out_pop}
use Rattle.hm_sched.proofs.Numbers.{out_nowhere}

-- a list for which there is room is there
pub there : (s : Stations) (was : Map) (pids servers : ℕ) (queue : Queue) → IsKept was pids servers → s.pids ≡ pids → s.servers ≡ servers → HasRoom s queue
    → number queue < length was.lists
there s was pids servers Servers kept e f room = let n = kept.waits in omega (arith, n)
there s was pids servers Tables kept e f room = let n = kept.waits in omega (arith, n)
there s was pids servers Held kept e f room = let n = kept.waits in omega (arith, n)
there s was pids servers (Waits p) kept e f room = let n = kept.waits in omega (arith, n, e, room)
there s was pids servers (Suspended t) kept e f room = let n = kept.suspended in omega (arith, n, f, room)

-- one list is another now
kept_set : (was new : Map) (pids servers l : ℕ) (xs : List ℕ) → IsKept was pids servers → l < length was.lists → ((q : ℕ) → IsIn q xs → q < pids)
    → AreApart (set was.lists l xs) → new.lists ≡ set was.lists l xs → new.spare ≡ was.spare → IsKept new pids servers
kept_set was new pids servers l xs kept lt low apart is spare =
    let long : length new.lists ≡ length was.lists = ap (λ (ls : List (List ℕ)). length ls) is ∙ length-set was.lists l xs in
    let waits = kept.waits in
    let suspended = kept.suspended in
    let small = kept.small in
    let nodes = kept.nodes in record {
      waits = omega (arith, waits, long);
      suspended = omega (arith, suspended, long);
      small = omega (arith, small, long);
      nodes = omega (arith, nodes, spare);
      known = λ m q here. from m q (eqb l m) (subst (IsIn q) (list_at-set was.lists l m xs lt) (subst (λ ls. IsIn q (list_at ls m)) is here));
      apart = subst (λ ls. AreApart ls) (sym is) apart;
    }
  where
    from : (m q : ℕ) (b : Bool) → IsIn q (cond b xs (list_at was.lists m)) → q < pids
    from m q true h = low q h
    from m q false h = kept.known m q h

pub kept_push : (was new : Map) (pids servers l p : ℕ) → IsKept was pids servers → l < length was.lists → p < pids → IsOut was.lists p
    → new.lists ≡ set was.lists l (list_at was.lists l ++ p ∷ []) → new.spare ≡ was.spare → IsKept new pids servers
kept_push was new pids servers l p kept lt low out is spare =
    kept_set was new pids servers l (list_at was.lists l ++ p ∷ []) kept lt (λ q h. elim (in_parts q (list_at was.lists l) (p ∷ []) h) [
      | inl a ↦ kept.known l q a
      | inr b ↦ elim b [ inl e ↦ omega (arith, e, low) | inr never ↦ absurd never ]
    ]) (apart_push was.lists l p lt kept.apart out) is spare

pub kept_pop : (was new : Map) (pids servers l : ℕ) → IsKept was pids servers → l < length was.lists
    → new.lists ≡ set was.lists l (drop 1 (list_at was.lists l)) → new.spare ≡ was.spare → IsKept new pids servers
kept_pop was new pids servers l kept lt is spare =
    kept_set was new pids servers l (drop 1 (list_at was.lists l)) kept lt (λ q h. kept.known l q (drop_in q (list_at was.lists l) h)) (apart_pop was.lists l lt kept.apart) is spare

pub kept_without : (was new : Map) (pids servers p : ℕ) → IsKept was pids servers → new.lists ≡ map (without p) was.lists → new.spare ≡ was.spare → IsKept new pids servers
kept_without was new pids servers p kept is spare =
    let long : length new.lists ≡ length was.lists = ap (λ (ls : List (List ℕ)). length ls) is ∙ length-map was.lists (without p) in
    let waits = kept.waits in
    let suspended = kept.suspended in
    let small = kept.small in
    let nodes = kept.nodes in record {
      waits = omega (arith, waits, long);
      suspended = omega (arith, suspended, long);
      small = omega (arith, small, long);
      nodes = omega (arith, nodes, spare);
      known = λ m q here. kept.known m q (in_without p q (list_at was.lists m) (subst (IsIn q) (list_at-map (without p) refl was.lists m) (subst (λ ls. IsIn q (list_at ls m)) is here))).0;
      apart = subst (λ ls. AreApart ls) (sym is) (apart_without was.lists p kept.apart);
    }

pub without_members : (lists new : List (List ℕ)) (p : ℕ) → new ≡ map (without p) lists → (k : Queue) → members new k ≡ without p (members lists k)
without_members lists new p is k = ap (λ ls. list_at ls (number k)) is ∙ list_at-map (without p) refl lists (number k)

-- the first of a list is taken out of it
pub popped : (was new : Map) (pids servers l p : ℕ) → IsKept was pids servers → l < length was.lists → Some p ≡ slice_get (list_at was.lists l) 0
    → new.lists ≡ set was.lists l (drop 1 (list_at was.lists l)) → StandsNowhere new.lists p × (p < pids)
popped was new pids servers l p kept lt e is =
    let out = out_pop was.lists l p lt kept.apart (sym e) in
    (subst (λ ls. StandsNowhere ls p) (sym is) (out_nowhere _ p out.1), kept.known l p out.0)

-- more lists
more_lists : (lists : List (List ℕ)) (n l : ℕ) → list_at (lists ++ replicate n []) l ≡ list_at lists l
more_lists [] zero l = refl
more_lists [] (suc n) zero = refl
more_lists [] (suc n) (suc l) = more_lists [] n l
more_lists (xs ∷ lists) n zero = refl
more_lists (xs ∷ lists) n (suc l) = more_lists lists n l

pub kept_more : (was new : Map) (pids more servers others n : ℕ) → IsKept was pids servers → new.lists ≡ was.lists ++ replicate n [] → pids ≤ more → more ≤ new.spare
    → more + more + 3 ≤ length was.lists + n → others + others + 3 ≤ length was.lists + n → length was.lists + n < 2 ^ 32 → IsKept new more others
kept_more was new pids more servers others n kept is least nodes waits suspended small =
    let long : length new.lists ≡ length was.lists + n = ap (λ (ls : List (List ℕ)). length ls) is ∙ length-append was.lists (replicate n []) ∙ ap (λ k. length was.lists + k) (length-replicate {A = List ℕ} n []) in record {
      waits = omega (arith, waits, long);
      suspended = omega (arith, suspended, long);
      small = omega (arith, small, long);
      nodes = nodes;
      known = λ l p here. let low = kept.known l p (from l p here) in omega (arith, low, least);
      apart = record {
        once = λ l. subst (λ ys. Differ ys) (sym (same l)) (kept.apart.once l);
        in_one = λ l m p one other. kept.apart.in_one l m p (from l p one) (from m p other);
      };
    }
  where
    same : (l : ℕ) → list_at new.lists l ≡ list_at was.lists l
    same l = ap (λ ls. list_at ls l) is ∙ more_lists was.lists n l

    from : (l p : ℕ) → IsIn p (list_at new.lists l) → IsIn p (list_at was.lists l)
    from l p here = subst (IsIn p) (same l) here

-- nothing was added
pub kept_same : (was new : Map) (pids servers : ℕ) → IsKept was pids servers → new.lists ≡ was.lists → was.spare ≤ new.spare → IsKept new pids servers
kept_same was new pids servers kept is spare = record {
  waits = subst (λ (ls : List (List ℕ)). pids + pids + 3 ≤ length ls) (sym is) kept.waits;
  suspended = subst (λ (ls : List (List ℕ)). servers + servers + 3 ≤ length ls) (sym is) kept.suspended;
  small = subst (λ (ls : List (List ℕ)). length ls < 2 ^ 32) (sym is) kept.small;
  nodes = (let n = kept.nodes in omega (arith, n, spare));
  known = λ l p here. kept.known l p (subst (λ ls. IsIn p (list_at ls l)) is here);
  apart = subst (λ ls. AreApart ls) (sym is) kept.apart;
}

pub more_members : (lists new : List (List ℕ)) (n : ℕ) → new ≡ lists ++ replicate n [] → (k : Queue) → members new k ≡ members lists k
more_members lists new n is k = ap (λ ls. list_at ls (number k)) is ∙ more_lists lists n (number k)

-- what stayed twice
pub same_room : (one two three : Stations) → IsSameRoom one two → IsSameRoom two three → IsSameRoom one three
same_room one two three a b = record { said = b.said ∙ a.said; pids = b.pids ∙ a.pids; servers = b.servers ∙ a.servers; room = b.room ∙ a.room }
