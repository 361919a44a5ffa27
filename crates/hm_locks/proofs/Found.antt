-- The rows that entries make, where each is found by its pid.
use Rattle.std.proofs.Common.{◌≡◌, ◌≢◌, ℕ, Bor, zero, suc, ◌<◌, Bool, true, false, List, [], ◌∷◌, ◌++◌, length, set, eqb, cond, Option, Some, None, is_some, refl, sym, ap, ◌∙◌, inl, inr, ◌⊎◌, arith, length-append}
use Rattle.std.proofs.lemmas.Bool.{cases_eq, eq-eqb, ne_eqb}
use Rattle.std.proofs.lemmas.Cmp.{ranked, tied_itself, nat_cmp_total}
use Rattle.std.proofs.lemmas.List.{length-set}
use Rattle.std.proofs.lemmas.Option.{same_Some, none-some}
use Rattle.std.specs.Option.{option_and_then, option_copied, option_map}
use Rattle.std.specs.Ordering.{is_eq, nat_cmp}
use Rattle.std.specs.declared.cmp.Ordering.{Ordering}
use Rattle.std.specs.declared.cmp.Ordering.TheVariants.{Less, Equal, Greater}
use Rattle.hm_index.specs.Index.{find}
use Rattle.hm_locks.specs.declared.entry.Entry.{Entry}
use Rattle.hm_locks.specs.Book.{row_of, AreChanged}
use Rattle.hm_locks.specs.Kept.{entry_at, entry_of, row_for, rows_in, IsFound}
use Rattle.hm_locks.proofs.Places.{entry_at-set, entry_at-push, entry_within}

row_none : (es : List (Option Entry)) (q : ℕ) → ((i : ℕ) (e : Entry) → entry_at es i ≡ Some e → e.pid ≢ q) → row_of (rows_in es) q ≡ None
row_none [] q out = refl
row_none (None ∷ es) q out = row_none es q (λ i e is. out (suc i) e is)
row_none (Some f ∷ es) q out =
    ap (λ b. cond b (Some (row_for f)) (row_of (rows_in es) q)) (ne_eqb f.pid q (out 0 f refl)) ∙ row_none es q (λ i e is. out (suc i) e is)

row_some : (es : List (Option Entry)) (q i : ℕ) (e : Entry) → entry_at es i ≡ Some e → e.pid ≡ q
    → ((j : ℕ) (d : Entry) → entry_at es j ≡ Some d → d.pid ≡ q → j ≡ i) → row_of (rows_in es) q ≡ Some (row_for e)
row_some [] q i e is mine one = absurd (none-some e is)
row_some (None ∷ es) q zero e is mine one = absurd (none-some e is)
row_some (None ∷ es) q (suc i) e is mine one = row_some es q i e is mine (λ j d at same. let s = one (suc j) d at same in omega (arith, s))
row_some (Some f ∷ es) q zero e is mine one =
    let same = same_Some f e is in
    ap (λ b. cond b (Some (row_for f)) (row_of (rows_in es) q)) (eq-eqb f.pid q (ap (λ (x : Entry). x.pid) same ∙ mine)) ∙ ap (λ x. Some (row_for x)) same
row_some (Some f ∷ es) q (suc i) e is mine one =
    ap (λ b. cond b (Some (row_for f)) (row_of (rows_in es) q)) (ne_eqb f.pid q (λ same. let s = one 0 f refl same in absurd (omega (arith, s))))
    ∙ row_some es q i e is mine (λ j d at same. let s = one (suc j) d at same in omega (arith, s))

module _ (places : List (ℕ × ℕ)) (es : List (Option Entry)) (index : IsFound places es) where
  -- the row of a procedure is that of its entry
  pub row_is : (q : ℕ) → row_of (rows_in es) q ≡ option_map row_for (entry_of places es q)
  row_is q = by (find nat_cmp places q) refl
    where
      none : (o : Option ℕ) → find nat_cmp places q ≡ o → option_and_then (entry_at es) o ≡ None → row_of (rows_in es) q ≡ None
      none o at empty = row_none es q (λ i e is same.
          none-some e (sym empty ∙ ap (option_and_then (entry_at es)) (sym at ∙ ap (find nat_cmp places) (sym same) ∙ index.found i e is) ∙ is))

      there : (i : ℕ) → find nat_cmp places q ≡ Some i → (o : Option Entry) → entry_at es i ≡ o → row_of (rows_in es) q ≡ option_map row_for o
      there i at None is = none (Some i) at is
      there i at (Some e) is = row_some es q i e is (index.mine q i e at is) (λ j d has same.
          same_Some j i (sym (index.found j d has) ∙ ap (find nat_cmp places) same ∙ at))

      by : (o : Option ℕ) → find nat_cmp places q ≡ o → row_of (rows_in es) q ≡ option_map row_for (option_and_then (entry_at es) o)
      by None at = none None at refl
      by (Some i) at = there i at (entry_at es i) refl

  -- an entry changes, and keeps its pid
  module _ (p i : ℕ) (e : Entry) (at : find nat_cmp places p ≡ Some i) (is : entry_at es i ≡ Some e) (o : Option Entry) (same : (d : Entry) → o ≡ Some d → d.pid ≡ e.pid) where
    mine : e.pid ≡ p
    mine = index.mine p i e at is

    within : i < length es
    within = entry_within es i e is

    at_set : (j : ℕ) → entry_at (set es i o) j ≡ cond (eqb i j) o (entry_at es j)
    at_set j = entry_at-set es i j o within

    -- what is there now is the new one, or was there before
    pub which : (j : ℕ) → ((i ≡ j) × (entry_at (set es i o) j ≡ o)) ⊎ ((i ≢ j) × (entry_at (set es i o) j ≡ entry_at es j))
    which j = elim (cases_eq i j) [
      | inl here ↦ inl (here, at_set j ∙ ap (λ b. cond b o (entry_at es j)) (eq-eqb i j here))
      | inr there ↦ inr (there, at_set j ∙ ap (λ b. cond b o (entry_at es j)) (ne_eqb i j there))
    ]

    pub found_set : IsFound places (set es i o)
    found_set = record {
      placed = λ q j f. (let lt = index.placed q j f in let long = length-set es i o in omega (arith, lt, long));
      mine = λ q j d f here. elim (which j) [
        | inl new ↦ same d (sym new.1 ∙ here) ∙ index.mine q j e f (ap (entry_at es) (sym new.0) ∙ is)
        | inr old ↦ index.mine q j d f (sym old.1 ∙ here)
      ];
      found = λ j d here. elim (which j) [
        | inl new ↦ ap (find nat_cmp places) (same d (sym new.1 ∙ here) ∙ mine) ∙ at ∙ ap Some new.0
        | inr old ↦ index.found j d (sym old.1 ∙ here)
      ];
    }

    entry_set : (q : ℕ) → entry_of places (set es i o) q ≡ cond (eqb p q) o (entry_of places es q)
    entry_set q = elim (cases_eq p q) [
      | inl here ↦
          ap (option_and_then (entry_at (set es i o))) (ap (find nat_cmp places) (sym here) ∙ at)
          ∙ at_set i ∙ ap (λ b. cond b o (entry_at es i)) (eq-eqb i i refl)
          ∙ sym (ap (λ b. cond b o (entry_of places es q)) (eq-eqb p q here))
      | inr there ↦ by (find nat_cmp places q) refl there ∙ sym (ap (λ b. cond b o (entry_of places es q)) (ne_eqb p q there))
    ]
      where
        by : (f : Option ℕ) → find nat_cmp places q ≡ f → p ≢ q → option_and_then (entry_at (set es i o)) f ≡ option_and_then (entry_at es) f
        by None f differs = refl
        by (Some j) f differs = elim (which j) [
          | inl new ↦ absurd (differs (sym mine ∙ index.mine q j e f (ap (entry_at es) (sym new.0) ∙ is)))
          | inr old ↦ old.1
        ]

  pub entry_is : (p i : ℕ) (e : Entry) → find nat_cmp places p ≡ Some i → entry_at es i ≡ Some e → entry_of places es p ≡ Some e
  entry_is p i e at is = ap (option_and_then (entry_at es)) at ∙ is

mapped : (b : Bool) (o f : Option Entry) → option_map row_for (cond b o f) ≡ cond b (option_map row_for o) (option_map row_for f)
mapped true o f = refl
mapped false o f = refl

-- the rows after a change of an entry
pub rows_set : (places : List (ℕ × ℕ)) (es : List (Option Entry)) → IsFound places es → (p i : ℕ) (e : Entry) → find nat_cmp places p ≡ Some i → entry_at es i ≡ Some e
    → (o : Option Entry) → ((d : Entry) → o ≡ Some d → d.pid ≡ e.pid) → AreChanged (rows_in es) p (option_map row_for o) (rows_in (set es i o))
rows_set places es index p i e at is o same q =
    row_is places (set es i o) (found_set places es index p i e at is o same) q
    ∙ ap (option_map row_for) (entry_set places es index p i e at is o same q)
    ∙ mapped (eqb p q) o (entry_of places es q)
    ∙ ap (λ r. cond (eqb p q) (option_map row_for o) r) (sym (row_is places es index q))

tied : (p q : ℕ) → ((p ≡ q) × (is_eq (nat_cmp p q) ≡ true)) ⊎ ((p ≢ q) × (is_eq (nat_cmp p q) ≡ false))
tied p q = by (nat_cmp p q) refl
  where
    apart : (o : Ordering) → nat_cmp p q ≡ o → o ≢ Equal → p ≢ q
    apart o e differs same = differs (sym e ∙ ap (λ k. nat_cmp k q) same ∙ tied_itself nat_cmp_total q)

    by : (o : Ordering) → nat_cmp p q ≡ o → ((p ≡ q) × (is_eq o ≡ true)) ⊎ ((p ≢ q) × (is_eq o ≡ false))
    by Less e = inr (apart Less e (λ f. cc), refl)
    by Equal e = inl (ranked p q Equal (sym e), refl)
    by Greater e = inr (apart Greater e (λ f. cc), refl)

-- an entry more
module _ (places more : List (ℕ × ℕ)) (es : List (Option Entry)) (index : IsFound places es) (e : Entry) (fresh : row_of (rows_in es) e.pid ≡ None)
    (each : (q : ℕ) → find nat_cmp more q ≡ cond (is_eq (nat_cmp e.pid q)) (Some (length es)) (find nat_cmp places q)) where
  abbrev pub new : List (Option Entry)
  new = es ++ Some e ∷ []

  pub which_push : (j : ℕ) → ((length es ≡ j) × (entry_at new j ≡ Some e)) ⊎ ((length es ≢ j) × (entry_at new j ≡ entry_at es j))
  which_push j = elim (cases_eq (length es) j) [
    | inl here ↦ inl (here, entry_at-push es (Some e) j ∙ ap (λ b. cond b (Some e) (entry_at es j)) (eq-eqb (length es) j here))
    | inr there ↦ inr (there, entry_at-push es (Some e) j ∙ ap (λ b. cond b (Some e) (entry_at es j)) (ne_eqb (length es) j there))
  ]

  which_find : (q : ℕ) → ((e.pid ≡ q) × (find nat_cmp more q ≡ Some (length es))) ⊎ ((e.pid ≢ q) × (find nat_cmp more q ≡ find nat_cmp places q))
  which_find q = elim (tied e.pid q) [
    | inl same ↦ inl (same.0, each q ∙ ap (λ b. cond b (Some (length es)) (find nat_cmp places q)) same.1)
    | inr differs ↦ inr (differs.0, each q ∙ ap (λ b. cond b (Some (length es)) (find nat_cmp places q)) differs.1)
  ]

  other : (j : ℕ) (d : Entry) → entry_at es j ≡ Some d → e.pid ≢ d.pid
  other j d is same =
      none-some (row_for d) (sym fresh ∙ row_is places es index e.pid ∙ ap (option_map row_for) (entry_is places es index e.pid j d (ap (find nat_cmp places) same ∙ index.found j d is) is))

  pub found_push : IsFound more new
  found_push = record {
    placed = λ q j f. (let long = length-append es (Some e ∷ []) in elim (which_find q) [
      | inl here ↦ (let at = same_Some (length es) j (sym here.1 ∙ f) in omega (arith, at, long))
      | inr there ↦ (let lt = index.placed q j (sym there.1 ∙ f) in omega (arith, lt, long))
    ]);
    mine = λ q j d f here. elim (which_find q) [
      | inl one ↦
          let at = same_Some (length es) j (sym one.1 ∙ f) in
          elim (which_push j) [
            | inl last ↦ ap (λ (x : Entry). x.pid) (sym (same_Some e d (sym last.1 ∙ here))) ∙ one.0
            | inr apart ↦ absurd (apart.0 at)
          ]
      | inr there ↦
          let lt = index.placed q j (sym there.1 ∙ f) in
          elim (which_push j) [
            | inl last ↦ absurd (let at = last.0 in omega (arith, at, lt))
            | inr old ↦ index.mine q j d (sym there.1 ∙ f) (sym old.1 ∙ here)
          ]
    ];
    found = λ j d here. elim (which_push j) [
      | inl last ↦
          let same : e ≡ d = same_Some e d (sym last.1 ∙ here) in
          elim (which_find d.pid) [
            | inl one ↦ one.1 ∙ ap Some last.0
            | inr apart ↦ absurd (apart.0 (ap (λ (x : Entry). x.pid) same))
          ]
      | inr old ↦ elim (which_find d.pid) [
        | inl one ↦ absurd (other j d (sym old.1 ∙ here) one.0)
        | inr there ↦ there.1 ∙ index.found j d (sym old.1 ∙ here)
      ]
    ];
  }

  entry_push : (q : ℕ) → entry_of more new q ≡ cond (eqb e.pid q) (Some e) (entry_of places es q)
  entry_push q = elim (which_find q) [
    | inl here ↦
        ap (option_and_then (entry_at new)) here.1
        ∙ entry_at-push es (Some e) (length es) ∙ ap (λ b. cond b (Some e) (entry_at es (length es))) (eq-eqb (length es) (length es) refl)
        ∙ sym (ap (λ b. cond b (Some e) (entry_of places es q)) (eq-eqb e.pid q here.0))
    | inr there ↦
        ap (option_and_then (entry_at new)) there.1 ∙ by (find nat_cmp places q) refl
        ∙ sym (ap (λ b. cond b (Some e) (entry_of places es q)) (ne_eqb e.pid q there.0))
  ]
    where
      by : (f : Option ℕ) → find nat_cmp places q ≡ f → option_and_then (entry_at new) f ≡ option_and_then (entry_at es) f
      by None f = refl
      by (Some j) f = elim (which_push j) [
        | inl last ↦ absurd (let lt = index.placed q j f in let at = last.0 in omega (arith, at, lt))
        | inr old ↦ old.1
      ]

  pub rows_push : AreChanged (rows_in es) e.pid (Some (row_for e)) (rows_in new)
  rows_push q =
      row_is more new found_push q ∙ ap (option_map row_for) (entry_push q) ∙ mapped (eqb e.pid q) (Some e) (entry_of places es q)
      ∙ ap (λ r. cond (eqb e.pid q) (Some (row_for e)) r) (sym (row_is places es index q))

-- what is copied is there where what it is copied from is
pub copied : {X : Type 0} (o : Option (Bor X)) → is_some (option_copied o) ≡ is_some o
copied None = refl
copied (Some r) = refl

-- a row is there where an entry is
pub row_there : (o : Option Entry) → is_some (option_map row_for o) ≡ is_some o
row_there None = refl
row_there (Some e) = refl

-- nobody is enlisted
pub found_nothing : IsFound [] []
found_nothing = record { placed = λ q i f. absurd (none-some i f); mine = λ q i e f is. absurd (none-some i f); found = λ i e is. absurd (none-some e is) }
