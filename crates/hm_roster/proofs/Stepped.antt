-- After an entry that goes on with one procedure nobody is left who isn't looked at.
use Rattle.std.proofs.Common.{◌≡◌, ◌≢◌, ◌⊎◌, ℕ, ◌+◌, ◌<◌, ◌≤◌, List, [], ◌∷◌, Option, Some, None, Bool, true, false, not, ◌==◌, ◌||◌, nat_lt, nat_le, refl, inl, inr, ap, sym, ◌∙◌, subst, arith}
use Rattle.std.proofs.lemmas.Bool.{and_parts, cases_Bool, eq-eqb, eqb-true, false≢true, leb-true, ltb-true, not-true, or_cases, true≢false}
use Rattle.hm_names.specs.Server.{Server}
use Rattle.hm_data.specs.declared.entry.Entry.{Entry}
use Rattle.hm_model.specs.Journal.{Past}
use Rattle.hm_model.specs.Phase.{is_parent}
use Rattle.hm_model.specs.Rules.{IsLegal}
use Rattle.hm_model.specs.Tree.{Node, made, node_of, parent_in}
use Rattle.hm_tied.specs.Calls.{without}
use Rattle.hm_tied.specs.Entries.{is_new, touched}
use Rattle.hm_tied.specs.Tied.{Debts, IsTied, IsTiedBut, Roster, no_debts}
use Rattle.hm_tied.proofs.Going.{busy_open}
use Rattle.hm_tied.proofs.Paid.{owed_told}
use Rattle.hm_tied.proofs.Uses.{debts_rise}
use Rattle.hm_roster.specs.Behind.{entry_debts}
use Rattle.hm_roster.specs.Roster.{finished, outside, paid, paid_from, paid_if}
use Rattle.hm_roster.proofs.Following.{new_below}

-- without one that may be there
abbrev pub without_if : (ℕ → Bool) → Option ℕ → ℕ → Bool
without_if test None = test
without_if test (Some p) = without test p

-- what is left to do after all calls
abbrev pub chain : Debts → ℕ → Option ℕ → ℕ → ℕ → ℕ → Debts
chain debts p parent root low high = record (paid (paid_if (paid (paid_from (finished (finished debts p) root) low high) p) parent) root) { late = false }

-- who passes a test without one isn't that one
kept : (test : ℕ → Bool) (p q : ℕ) → without test p q ≡ true → (test q ≡ true) × (q ≢ p)
kept test p q on = let parts = and_parts (test q) (not (q == p)) on in (parts.0, λ same. true≢false (sym (eq-eqb q p same) ∙ not-true (q == p) parts.1))

-- the same without one that may be there
kept_if : (test : ℕ → Bool) (o : Option ℕ) (q : ℕ) → without_if test o q ≡ true → (test q ≡ true) × (o ≢ Some q)
kept_if test None q on = (on, λ e. cc)
kept_if test (Some p) q on = let k = kept test p q on in (k.0, λ e. k.1 (own e))
  where
    own : Some p ≡ Some q → q ≡ p
    own e = cc

-- of a parent that is the nearest ancestor
nearest : (above : List ℕ) (q : ℕ) → is_parent q above ≡ true → parent_in above ≡ Some q
nearest [] q e = absurd (false≢true e)
nearest (up ∷ above) q e = ap (λ p. Some p) (eqb-true up q e)

module _ (entry : Entry) (J : Past) (legal : IsLegal (entry ∷ J)) (p : ℕ) (node : Node) (late : Bool) (parent : Option ℕ) (up : parent ≡ parent_in node.above) (root : ℕ) (top : root ≡ node.root) (low high : ℕ) (from : low ≡ made J + 1) (to : high ≡ made (entry ∷ J) + 1) where
  -- who is left of a test
  abbrev pub rest : (ℕ → Bool) → ℕ → Bool
  rest test = without (without_if (without (outside test low high) p) parent) root

  -- who is left passes the test, is none of those that were looked at, and is old
  rest_is : (test : ℕ → Bool) (q : ℕ) → rest test q ≡ true → (test q ≡ true) × (q ≢ p) × (parent ≢ Some q) × (q ≢ root) × ((q < low) ⊎ (high ≤ q))
  rest_is test q on =
      let a = kept (without_if (without (outside test low high) p) parent) root q on in
      let b = kept_if (without (outside test low high) p) parent q a.0 in
      let c = kept (outside test low high) p q b.0 in
      let d = and_parts (test q) (nat_lt q low || nat_le high q) c.0 in
      (d.0, c.1, b.1, a.1, elim (or_cases (nat_lt q low) (nat_le high q) d.1) [ inl e ↦ inl (ltb-true q low e) | inr e ↦ inr (leb-true high q e) ])

  -- nobody else is touched
  none_touched : (q : ℕ) → touched p node q ≡ true → (q ≢ p) × (parent ≢ Some q) × (q ≢ root) → ⊥
  none_touched q on others = elim (or_cases (q == p) (is_parent q node.above || (q == node.root)) on) [
    | inl own ↦ others.0 (eqb-true q p own)
    | inr more ↦ elim (or_cases (is_parent q node.above) (q == node.root) more) [
      | inl above ↦ others.1 (up ∙ nearest node.above q above)
      | inr e ↦ others.2 (eqb-true q node.root e ∙ sym top)
    ]
  ]

  -- so nobody is left who may have to be taken from the calls
  none_slack : (q : ℕ) → rest (touched p node) q ≡ true → ⊥
  none_slack q on = let r = rest_is (touched p node) q on in none_touched q r.0 (r.1, r.2, r.3)

  -- nor who may have to be put into a list
  none_owed : (q : ℕ) → rest (λ n. is_new J n || touched p node n) q ≡ true → node_of (entry ∷ J) q ≢ None → ⊥
  none_owed q on there =
      let r = rest_is (λ n. is_new J n || touched p node n) q on in
      elim (or_cases (is_new J q) (touched p node q) r.0) [
        | inl new ↦
            let at = new_below J entry legal q new there in
            elim r.4 [ inl e ↦ omega (arith, e, at, from) | inr e ↦ omega (arith, e, at, to) ]
        | inr on_it ↦ none_touched q on_it (r.1, r.2, r.3)
      ]

  -- nor who may have ended
  over_out : (q : ℕ) → without (without (λ n. (n == p) || (n == node.root)) p) root q ≡ false
  over_out q = elim (cases_Bool (without (without (λ n. (n == p) || (n == node.root)) p) root q)) [
    | inr off ↦ off
    | inl on ↦
        let a = kept (without (λ n. (n == p) || (n == node.root)) p) root q on in
        let b = kept (λ n. (n == p) || (n == node.root)) p q a.0 in
        elim (or_cases (q == p) (q == node.root) b.0) [
          | inl own ↦ absurd (b.1 (eqb-true q p own))
          | inr e ↦ absurd (a.1 (eqb-true q node.root e ∙ sym top))
        ]
  ]

  -- the same, test by test
  abbrev pub last : Debts
  last = record {
    owed = rest (λ n. is_new J n || touched p node n);
    slack = rest (touched p node);
    over = without (without (λ n. (n == p) || (n == node.root)) p) root;
    late = false;
  }

  -- so nothing is left to do
  all_looked_at : (n : Option Server → ℕ) (roster : Roster) → IsTiedBut (entry ∷ J) n roster last → IsTied (entry ∷ J) n roster
  all_looked_at n roster tied =
      let told = owed_told (entry ∷ J) n roster last (λ q. false) tied (λ q on free busy. absurd (none_owed q on (busy_open (entry ∷ J) legal q busy).0)) in
      debts_rise (entry ∷ J) n roster (record last { owed = λ q. false }) no_debts told (record {
        owed = λ q e. e;
        slack = λ q e. absurd (none_slack q e);
        over = over_out;
        late = λ e. e;
      })

  -- what comes out of the calls, by the parent, if there is one
  came : Option ℕ → Debts
  came o = record {
    owed = without (without_if (without (outside (λ n. is_new J n || touched p node n) low high) p) o) root;
    slack = without (without_if (without (outside (touched p node) low high) p) o) root;
    over = without (without (λ n. (n == p) || (n == node.root)) p) root;
    late = false;
  }

  -- that is what is left to do
  alike : (o : Option ℕ) → chain (entry_debts J p node late) p o root low high ≡ came o
  unfolding came
  alike None = refl
  alike (Some q) = refl

  -- after all calls nothing is left to do
  pub chained : (n : Option Server → ℕ) (roster : Roster) → IsTiedBut (entry ∷ J) n roster (chain (entry_debts J p node late) p parent root low high) → IsTied (entry ∷ J) n roster
  unfolding came
  chained n roster tied = all_looked_at n roster (subst (λ d. IsTiedBut (entry ∷ J) n roster d) (alike parent) tied)
