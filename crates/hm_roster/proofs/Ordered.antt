-- At an opening those that are ready stand in the order of their numbers.
use Rattle.std.proofs.Common.{◌≡◌, ℕ, zero, suc, ◌+◌, ◌≤◌, List, [], ◌∷◌, ◌++◌, Bool, true, false, not, cond, ◌&&◌, is_some, append-nil, refl, ap, sym, ◌∙◌, subst, arith}
use Rattle.std.proofs.lemmas.Bool.{false≢true, true≢false}
use Rattle.hm_model.specs.Journal.{Past}
use Rattle.hm_model.specs.Phase.{ended}
use Rattle.hm_model.specs.Procedures.{offset}
use Rattle.hm_model.specs.Rules.{IsLegal}
use Rattle.hm_procedures.specs.Procedures.{is_unfinished}
use Rattle.hm_sched.specs.Queues.{IsWith, is_same, members, ready_list}
use Rattle.hm_roster.specs.Opening.{is_home, open_among, own_open}
use Rattle.hm_roster.specs.Roster.{is_of_crash}
use Rattle.hm_roster.proofs.Numbers.{nobody_low}

-- of the numbers up to the last of a base none is listed
pub none_among : (J : Past) → IsLegal J → (servers : Bool) (k : ℕ) → k ≤ offset J → open_among J servers k ≡ []
none_among J legal servers zero le = refl
none_among J legal servers (suc k) le =
    ap (λ o. open_among J servers k ++ cond ((is_some o && not (ended J (suc k))) && is_home servers (is_of_crash J (suc k))) (suc k ∷ []) []) (nobody_low J legal (suc k) le)
    ∙ append-nil (open_among J servers k)
    ∙ none_among J legal servers k (omega (arith, le))

-- the members of a ready list are those below a number, in order
abbrev pub InOrder : Past → List (List ℕ) → ℕ → Type 0
InOrder J lists n = (servers : Bool) (k : ℕ) → n ≡ suc k → members lists (ready_list servers) ≡ open_among J servers k

-- one joins its own list, at the back
own_joins : (l : List ℕ) (n : ℕ) (s servers opens crash : Bool) → opens ≡ true → servers ≡ crash → cond (is_same (ready_list servers) (ready_list s)) (l ++ n ∷ []) l ≡ l ++ cond (opens && is_home s crash) (n ∷ []) []
own_joins l n s servers false crash runs is = absurd (false≢true runs)
own_joins l n true true true true runs is = refl
own_joins l n true true true false runs is = absurd (true≢false is)
own_joins l n true false true true runs is = absurd (false≢true is)
own_joins l n true false true false runs is = sym (append-nil l)
own_joins l n false true true true runs is = sym (append-nil l)
own_joins l n false true true false runs is = absurd (true≢false is)
own_joins l n false false true true runs is = absurd (false≢true is)
own_joins l n false false true false runs is = refl

module _ (J : Past) (old : List (List ℕ)) where
  next_place : (m k : ℕ) → suc m + 1 ≡ suc k → suc m ≡ k
  next_place m k is = omega (arith, is)

  -- one that isn't there, or has ended, joins none
  pub order_passed : (n : ℕ) → 1 ≤ n → is_unfinished J n ≡ false → InOrder J old n → InOrder J old (n + 1)
  order_passed zero low over was servers k is = absurd (omega (arith, low))
  order_passed (suc m) low over was servers k is =
      subst (λ j. members old (ready_list servers) ≡ open_among J servers j) (next_place m k is)
      (was servers m refl ∙ sym (append-nil (open_among J servers m)) ∙ sym (ap (λ b. open_among J servers m ++ cond (b && is_home servers (is_of_crash J (suc m))) (suc m ∷ []) []) over))

  -- another joins its own
  pub order_next : (new : List (List ℕ)) (n : ℕ) (own : Bool) → 1 ≤ n → is_unfinished J n ≡ true → own ≡ is_of_crash J n → IsWith old (ready_list own) (members old (ready_list own) ++ n ∷ []) new → InOrder J old n → InOrder J new (n + 1)
  order_next new zero own low runs home with_it was servers k is = absurd (omega (arith, low))
  order_next new (suc m) own low runs home with_it was servers k is =
      subst (λ j. members new (ready_list servers) ≡ open_among J servers j) (next_place m k is) (with_it (ready_list servers) ∙ own_list own servers ∙ own_joins (members old (ready_list servers)) (suc m) servers own (is_unfinished J (suc m)) (is_of_crash J (suc m)) runs home ∙ ap (λ l. l ++ own_open J servers (suc m)) (was servers m refl))
    where
      -- the list that it joins, told by the one that is looked at
      own_list : (a b : Bool) → cond (is_same (ready_list a) (ready_list b)) (members old (ready_list a) ++ suc m ∷ []) (members old (ready_list b)) ≡ cond (is_same (ready_list a) (ready_list b)) (members old (ready_list b) ++ suc m ∷ []) (members old (ready_list b))
      own_list true true = refl
      own_list true false = refl
      own_list false true = refl
      own_list false false = refl
