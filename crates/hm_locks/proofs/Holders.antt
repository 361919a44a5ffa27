-- The list of the places of those that hold.
use Rattle.std.proofs.Common.{◌≡◌, ◌≢◌, ℕ, zero, suc, ◌+◌, ◌<◌, ◌≤◌, ◌^◌, Bool, true, false, List, [], ◌∷◌, ◌++◌, length, set, eqb, cond, Option, Some, None, refl, sym, ap, ◌∙◌, subst, inl, inr, ◌⊎◌, arith, length-append}
use Rattle.std.specs.Prelude.{◌↔◌, AllPairs, Contains}
use Rattle.std.specs.List.{All, cons_option, filter_map}
use Rattle.std.specs.Option.{option_and_then, option_map}
use Rattle.std.specs.Ordering.{nat_cmp}
use Rattle.std.proofs.lemmas.Bool.{cases_eq, eq-eqb, ne_eqb, false≢true}
use Rattle.std.proofs.lemmas.List.{length-set}
use Rattle.std.proofs.lemmas.List.Elements.{All-contains_itself}
use Rattle.std.proofs.lemmas.List.Kept.{AllPairs-cons}
use Rattle.std.proofs.lemmas.Option.{same_Some, none-some}
use Rattle.hm_index.specs.Index.{find}
use Rattle.hm_lists.specs.Chains.{Differ, IsIn, list_at}
use Rattle.hm_lists.specs.Map.{IsHeld, IsOut}
use Rattle.hm_names.specs.declared.pid.Pid.{Pid}
use Rattle.hm_model.specs.Tree.{pid_of}
use Rattle.hm_locks.specs.declared.entry.Entry.{Entry}
use Rattle.hm_locks.specs.declared.entry.Standing.{Standing}
use Rattle.hm_locks.specs.Book.{AreHolders, is_holding, row_of}
use Rattle.hm_locks.specs.Entries.{with_holds}
use Rattle.hm_locks.specs.Kept.{AreListed, IsFound, entry_at, entry_of, holds_in, row_for, rows_in, standing_of}
use Rattle.hm_locks.proofs.Found.{row_is}
use Rattle.hm_locks.proofs.Places.{entry_at-push, entry_at-set, entry_within}
use Rattle.hm_locks.proofs.Turns.{Stands, stands}

module _ (es : List (Option Entry)) (lists : List (List ℕ)) (spare : ℕ) (kept : AreListed es lists spare) where
  -- there is a node for each place, and maybe more
  pub listed_room : (spare' : ℕ) → spare ≤ spare' → AreListed es lists spare'
  listed_room spare' le = record { one = kept.one; nodes = (let nodes = kept.nodes in omega (arith, nodes, le)); small = kept.small; listed = kept.listed }

  pub listed_push : (e : Entry) → e.holds ≡ false → length es + 1 ≤ spare → length es + 1 < 2 ^ 32 → AreListed (es ++ Some e ∷ []) lists spare
  listed_push e free room few =
      let long = length-append es (Some e ∷ []) in
      let at = entry_at-push es (Some e) in
      let none : holds_in (entry_at es (length es)) ≡ true → ⊥ = λ h. past (entry_at es (length es)) refl h in
      record {
        one = kept.one;
        nodes = omega (arith, room, long);
        small = omega (arith, few, long);
        listed = λ l i. elim (cases_eq (length es) i) [
          | inl here ↦
              let new : holds_in (entry_at (es ++ Some e ∷ []) i) ≡ false = ap holds_in (at i ∙ ap (λ b. cond b (Some e) (entry_at es i)) (eq-eqb (length es) i here)) ∙ free in (
                (λ is. absurd (none (ap (λ j. holds_in (entry_at es j)) here ∙ ((kept.listed l i).0 is).1))),
                (λ is. absurd (false≢true (sym new ∙ is.1))),
              )
          | inr there ↦
              let same : holds_in (entry_at (es ++ Some e ∷ []) i) ≡ holds_in (entry_at es i) = ap holds_in (at i ∙ ap (λ b. cond b (Some e) (entry_at es i)) (ne_eqb (length es) i there)) in (
                (λ is. (((kept.listed l i).0 is).0, same ∙ ((kept.listed l i).0 is).1)),
                (λ is. (kept.listed l i).1 (is.0, sym same ∙ is.1)),
              )
        ];
      }
    where
      past : (o : Option Entry) → entry_at es (length es) ≡ o → holds_in o ≡ true → ⊥
      past None at h = false≢true h
      past (Some d) at h = let lt = entry_within es (length es) d at in omega (arith, lt)

  module _ (i : ℕ) (e : Entry) (is : entry_at es i ≡ Some e) where
    within : i < length es
    within = entry_within es i e is

    pub seat_within : i < spare × i < 2 ^ 32
    seat_within = let lt = within in let nodes = kept.nodes in let small = kept.small in (omega (arith, lt, nodes), omega (arith, lt, small))

    pub seat_out : e.holds ≡ false → IsOut lists i
    seat_out free l here = false≢true (sym free ∙ sym (ap holds_in is) ∙ ((kept.listed l i).0 here).1)

    pub seat_held : e.holds ≡ true → IsHeld lists i
    seat_held holds = (0, (kept.listed 0 i).1 (refl, ap holds_in is ∙ holds))

    -- the entry changes
    listed_set : (o : Option Entry) (lists' : List (List ℕ)) → length lists' ≡ length lists
        → ((l : ℕ) → IsIn i (list_at lists' l) ↔ ((l ≡ 0) × (holds_in o ≡ true)))
        → ((l j : ℕ) → i ≢ j → IsIn j (list_at lists' l) ↔ IsIn j (list_at lists l)) → AreListed (set es i o) lists' spare
    listed_set o lists' count own other =
        let long = length-set es i o in
        let nodes = kept.nodes in
        let small = kept.small in
        let some = kept.one in
        record {
          one = omega (arith, count, some);
          nodes = omega (arith, long, nodes);
          small = omega (arith, long, small);
          listed = λ l j. elim (cases_eq i j) [
            | inl here ↦
                let at : holds_in (entry_at (set es i o) j) ≡ holds_in o = ap holds_in (entry_at-set es i j o within ∙ ap (λ b. cond b o (entry_at es j)) (eq-eqb i j here)) in (
                  (λ f. let a = (own l).0 (subst (λ n. IsIn n (list_at lists' l)) (sym here) f) in (a.0, at ∙ a.1)),
                  (λ f. subst (λ n. IsIn n (list_at lists' l)) here ((own l).1 (f.0, sym at ∙ f.1))),
                )
            | inr there ↦
                let at : holds_in (entry_at (set es i o) j) ≡ holds_in (entry_at es j) = ap holds_in (entry_at-set es i j o within ∙ ap (λ b. cond b o (entry_at es j)) (ne_eqb i j there)) in (
                  (λ f. let a = (kept.listed l j).0 ((other l j there).0 f) in (a.0, at ∙ a.1)),
                  (λ f. (other l j there).1 ((kept.listed l j).1 (f.0, sym at ∙ f.1))),
                )
          ];
        }

    pub listed_take : e.holds ≡ false → (lists' : List (List ℕ)) → length lists' ≡ length lists
        → ((l n : ℕ) → IsIn n (list_at lists' l) ↔ (IsIn n (list_at lists l) ⊎ ((l ≡ 0) × (n ≡ i))))
        → AreListed (set es i (option_map (with_holds true) (entry_at es i))) lists' spare
    listed_take free lists' count each = subst (λ o. AreListed (set es i (option_map (with_holds true) o)) lists' spare) (sym is)
        (listed_set (Some (with_holds true e)) lists' count
        (λ l. (
          (λ f. elim ((each l i).0 f) [ inl was ↦ absurd (seat_out free l was) | inr new ↦ (new.0, refl) ]),
          (λ f. (each l i).1 (inr (f.0, refl))),
        ))
        (λ l j differs. (
          (λ f. elim ((each l j).0 f) [ inl was ↦ was | inr new ↦ absurd (differs (sym new.1)) ]),
          (λ f. (each l j).1 (inl f)),
        )))

    pub listed_give : (lists' : List (List ℕ)) → length lists' ≡ length lists
        → ((l n : ℕ) → IsIn n (list_at lists' l) ↔ (IsIn n (list_at lists l) × (n ≢ i)))
        → AreListed (set es i (option_map (with_holds false) (entry_at es i))) lists' spare
    listed_give lists' count each = subst (λ o. AreListed (set es i (option_map (with_holds false) o)) lists' spare) (sym is)
        (listed_set (Some (with_holds false e)) lists' count
        (λ l. (
          (λ f. absurd (((each l i).0 f).1 refl)),
          (λ f. absurd (false≢true f.1)),
        ))
        (λ l j differs. (
          (λ f. ((each l j).0 f).0),
          (λ f. (each l j).1 (f, λ e. differs (sym e))),
        )))

    pub listed_leave : e.holds ≡ false → AreListed (set es i None) lists spare
    listed_leave free = listed_set None lists refl
        (λ l. (
          (λ f. absurd (seat_out free l f)),
          (λ f. absurd (false≢true f.1)),
        ))
        (λ l j differs. ((λ f. f), (λ f. f)))

-- the procedure of the entry at a place
abbrev pub pid_at : List (Option Entry) → ℕ → Option Pid
pid_at es i = option_map (λ (e : Entry). pid_of e.pid) (entry_at es i)

-- those of the nodes that are left, with one more
pub pids_next : (es : List (Option Entry)) (sofar all : List Pid) (n : ℕ) (before rest : List ℕ) (o : Option Entry) → entry_at es n ≡ o → before ≡ n ∷ rest
    → sofar ++ filter_map (pid_at es) before ≡ all → sofar ++ cons_option (option_map (λ (e : Entry). pid_of e.pid) o) (filter_map (pid_at es) rest) ≡ all
pids_next es sofar all n before rest o is next was =
    ap (λ x. sofar ++ cons_option (option_map (λ (e : Entry). pid_of e.pid) x) (filter_map (pid_at es) rest)) (sym is) ∙ sym (ap (λ ns. sofar ++ filter_map (pid_at es) ns) next) ∙ was

-- one of a list with one in front
in_front : {X : Type 0} (x q : X) (xs : List X) → Contains (x ∷ xs) q → (x ≡ q) ⊎ Contains xs q
in_front x q xs (zero, lt, e) = inl e
in_front x q xs (suc k, lt, e) = inr (k, omega (arith, lt), e)

front_in : {X : Type 0} (x q : X) (xs : List X) → x ≡ q → Contains (x ∷ xs) q
front_in x q xs e = (0, omega arith, e)

behind_in : {X : Type 0} (x q : X) (xs : List X) → Contains xs q → Contains (x ∷ xs) q
behind_in x q xs h = let lt = h.1 in (suc h.0, omega (arith, lt), h.2)

-- what a function makes of the nodes of a list
picked_in : {X : Type 0} (f : ℕ → Option X) (q : X) (ns : List ℕ) → Contains (filter_map f ns) q → (n : ℕ) × IsIn n ns × (f n ≡ Some q)
picked_in f q [] h = absurd (let lt = h.1 in omega (arith, lt))
picked_in {X} f q (n ∷ ns) h = by (f n) refl h (λ g. let rest = picked_in f q ns g in (rest.0, inr rest.1, rest.2))
  where
    by : (o : Option X) → f n ≡ o → Contains (cons_option o (filter_map f ns)) q → (Contains (filter_map f ns) q → (m : ℕ) × IsIn m (n ∷ ns) × (f m ≡ Some q))
        → (m : ℕ) × IsIn m (n ∷ ns) × (f m ≡ Some q)
    by None is g more = more g
    by (Some x) is g more = elim (in_front x q (filter_map f ns) g) [ inl e ↦ (n, inl refl, is ∙ ap Some e) | inr rest ↦ more rest ]

in_picked : {X : Type 0} (f : ℕ → Option X) (q : X) (ns : List ℕ) (n : ℕ) → IsIn n ns → f n ≡ Some q → Contains (filter_map f ns) q
in_picked f q [] n h is = absurd h
in_picked {X} f q (m ∷ ns) n h is = elim h [
  | inl e ↦ subst (λ o. Contains (cons_option o (filter_map f ns)) q) (sym (ap f (sym e) ∙ is)) (front_in q q (filter_map f ns) refl)
  | inr rest ↦ by (f m) (in_picked f q ns n rest is)
]
  where
    by : (o : Option X) → Contains (filter_map f ns) q → Contains (cons_option o (filter_map f ns)) q
    by None g = g
    by (Some x) g = behind_in x q (filter_map f ns) g

-- no two nodes give one
all_differ : {X : Type 0} (f : ℕ → Option X) → ((n m : ℕ) (x : X) → f n ≡ Some x → f m ≡ Some x → n ≡ m) → (ns : List ℕ) → Differ ns → AllPairs (λ p q. p ≢ q) (filter_map f ns)
all_differ f one [] differ = λ i j d lt few. absurd (omega (arith, few))
all_differ {X} f one (n ∷ ns) differ = by (f n) refl (all_differ f one ns differ.1)
  where
    by : (o : Option X) → f n ≡ o → AllPairs (λ p q. p ≢ q) (filter_map f ns) → AllPairs (λ p q. p ≢ q) (cons_option o (filter_map f ns))
    by None is more = more
    by (Some x) is more = AllPairs-cons (λ p q. p ≢ q) x (filter_map f ns)
        (λ k d lt e.
        let at = picked_in f x ns (subst (Contains (filter_map f ns)) (sym e) (All-contains_itself (filter_map f ns) k d lt)) in
        differ.0 (subst (λ m. IsIn m ns) (one at.0 n x at.2 is) at.1))
        more

module _ (places : List (ℕ × ℕ)) (es : List (Option Entry)) (index : IsFound places es) where
  pid_entry : (o : Option Entry) (q : Pid) → option_map (λ (e : Entry). pid_of e.pid) o ≡ Some q → (e : Entry) × (o ≡ Some e) × (e.pid ≡ q.0)
  pid_entry None q is = absurd (none-some q is)
  pid_entry (Some e) q is = (e, refl, ap (λ (x : Pid). x.0) (same_Some (pid_of e.pid) q is))

  one_place : (n m : ℕ) (q : Pid) → pid_at es n ≡ Some q → pid_at es m ≡ Some q → n ≡ m
  one_place n m q a b =
      let d = pid_entry (entry_at es n) q a in
      let e = pid_entry (entry_at es m) q b in
      same_Some n m (sym (index.found n d.0 d.1) ∙ ap (find nat_cmp places) (d.2 ∙ sym e.2) ∙ index.found m e.0 e.1)

  -- the entry of a procedure that holds
  place_of : (p : ℕ) → is_holding (row_of (rows_in es) p) ≡ true → (n : ℕ) × (e : Entry) × (find nat_cmp places p ≡ Some n) × (entry_at es n ≡ Some e) × (e.holds ≡ true)
  place_of p h = by (find nat_cmp places p) refl (sym (ap is_holding (row_is places es index p)) ∙ h)
    where
      there : (n : ℕ) → find nat_cmp places p ≡ Some n → (o : Option Entry) → entry_at es n ≡ o → is_holding (option_map row_for o) ≡ true
          → (m : ℕ) × (e : Entry) × (find nat_cmp places p ≡ Some m) × (entry_at es m ≡ Some e) × (e.holds ≡ true)
      there n f None is g = absurd (false≢true g)
      there n f (Some e) is g = (n, e, f, is, g)

      by : (o : Option ℕ) → find nat_cmp places p ≡ o → is_holding (option_map row_for (option_and_then (entry_at es) o)) ≡ true
          → (m : ℕ) × (e : Entry) × (find nat_cmp places p ≡ Some m) × (entry_at es m ≡ Some e) × (e.holds ≡ true)
      by None f g = absurd (false≢true g)
      by (Some n) f g = there n f (entry_at es n) refl g

  -- the procedures of the places that are listed are those that hold
  pub holders_are : (lists : List (List ℕ)) (spare : ℕ) → AreListed es lists spare → Differ (list_at lists 0) → AreHolders (rows_in es) (filter_map (pid_at es) (list_at lists 0))
  holders_are lists spare kept differ = record {
    once = all_differ (pid_at es) one_place (list_at lists 0) differ;
    hold = λ q. (
      (λ h.
          let at = picked_in (pid_at es) q (list_at lists 0) h in
          let d = pid_entry (entry_at es at.0) q at.2 in
          let holds : d.0.holds ≡ true = sym (ap holds_in d.1) ∙ ((kept.listed 0 at.0).0 at.1).1 in
          ap is_holding (row_is places es index q.0) ∙ ap (λ o. is_holding (option_map row_for (option_and_then (entry_at es) o))) (ap (find nat_cmp places) (sym d.2) ∙ index.found at.0 d.0 d.1)
          ∙ ap (λ o. is_holding (option_map row_for o)) d.1 ∙ holds),
      (λ h.
          let at = place_of q.0 h in
          in_picked (pid_at es) q (list_at lists 0) at.0 ((kept.listed 0 at.0).1 (refl, ap holds_in at.3 ∙ at.4))
          (ap (option_map (λ (e : Entry). pid_of e.pid)) at.3 ∙ ap (λ n. Some (pid_of n)) (index.mine q.0 at.0 at.1 at.2 at.3))),
    );
  }
