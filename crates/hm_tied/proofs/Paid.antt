-- That nothing is left to do.
use Rattle.std.proofs.Common.{Bool, Some, ap, inl, inr, not, refl, sym, true, ℕ, ◌&&◌, ◌==◌, ◌||◌, ◌∙◌, ◌∷◌, ◌≡◌}
use Rattle.std.proofs.lemmas.Bool.{and_parts, eq-eqb, not-true, or_cases, true≢false}
use Rattle.std.proofs.lemmas.Option.{same_Some}
use Rattle.hm_names.specs.Server.{Server}
use Rattle.hm_data.specs.declared.args.Args.{Args}
use Rattle.hm_data.specs.declared.args.Args.TheVariants as args_are
use Rattle.hm_data.specs.declared.entry.Entry.TheVariants as entry_is
use Rattle.hm_model.specs.Tree.{Node, node_of}
use Rattle.hm_tied.specs.Tied.{called_in, no_debts}
use Rattle.hm_tied.specs.Calls.{without}
use Rattle.hm_tied.specs.Entries.{is_fenced_by}
use Rattle.hm_tied.specs.Paid.{FencePays, OnePays, OwedIsTold, ReportPays}
use Rattle.hm_tied.proofs.Uses.{debts_rise, fences_one}

pub owed_told : OwedIsTold
owed_told J number_of roster debts owed tied told = record {
  listed = tied.listed;
  claims = tied.claims;
  waits = tied.waits;
  calls = tied.calls;
  aside = tied.aside;
  must = λ q free busy. elim (tied.must q free busy) [ inl stands ↦ inl stands | inr on ↦ told q on free busy ];
  book = tied.book;
}

-- one isn't among those without it
pub out : (test : ℕ → Bool) (p q : ℕ) → (q == p) ≡ true → without test p q ≡ true → ⊥
out test p q same e = true≢false (sym same ∙ not-true (q == p) (and_parts (test q) (not (q == p)) e).1)

pub one_pays : OnePays
one_pays J number_of roster p tied = debts_rise J number_of roster (record no_debts { owed = without (λ q. q == p) p }) no_debts tied (record {
  owed = λ q e. absurd (out (λ q. q == p) p q (and_parts (q == p) (not (q == p)) e).0 e);
  slack = λ q e. e;
  over = λ q. refl;
  late = λ e. e;
})

pub report_pays : ReportPays
report_pays call told J number_of roster none tied =
    debts_rise (entry_is.Report call told ∷ J) number_of roster
    (record no_debts { slack = without (λ q. (q == call.0) || is_fenced_by J (entry_is.Report call told ∷ J) (node_of J q)) call.0 }) no_debts tied (record {
      owed = λ q e. e;
      slack = λ q e. absurd (left q e);
      over = λ q. refl;
      late = λ e. e;
    })
  where
    left : (q : ℕ) → without (λ n. (n == call.0) || is_fenced_by J (entry_is.Report call told ∷ J) (node_of J n)) call.0 q ≡ true → ⊥
    left q e = elim (or_cases (q == call.0) (is_fenced_by J (entry_is.Report call told ∷ J) (node_of J q)) (and_parts _ (not (q == call.0)) e).0) [
      | inl own ↦ out (λ n. (n == call.0) || is_fenced_by J (entry_is.Report call told ∷ J) (node_of J n)) call.0 q own e
      | inr fenced ↦ true≢false (sym fenced ∙ none q)
    ]

pub fence_pays : FencePays
fence_pays call told J number_of roster node server is named tied =
    debts_rise (entry_is.Report call told ∷ J) number_of roster
    (record no_debts { slack = λ q. without (λ n. (n == call.0) || is_fenced_by J (entry_is.Report call told ∷ J) (node_of J n)) call.0 q && not (number_of (called_in (node_of J q)) == number_of (Some server)) }) no_debts tied (record {
      owed = λ q e. e;
      slack = λ q e. absurd (left q (and_parts _ (not (number_of (called_in (node_of J q)) == number_of (Some server))) e));
      over = λ q. refl;
      late = λ e. e;
    })
  where
    one : (args : Args) (s : Server) → args ≡ args_are.FenceCall s → args ≡ args_are.FenceCall server → s ≡ server
    one args s a b = same (sym a ∙ b)
      where
        same : args_are.FenceCall s ≡ args_are.FenceCall server → s ≡ server
        same e = cc

    left : (q : ℕ) → (without (λ n. (n == call.0) || is_fenced_by J (entry_is.Report call told ∷ J) (node_of J n)) call.0 q ≡ true) × (not (number_of (called_in (node_of J q)) == number_of (Some server)) ≡ true) → ⊥
    left q e = elim (or_cases (q == call.0) (is_fenced_by J (entry_is.Report call told ∷ J) (node_of J q)) (and_parts _ (not (q == call.0)) e.0).0) [
      | inl own ↦ out (λ n. (n == call.0) || is_fenced_by J (entry_is.Report call told ∷ J) (node_of J n)) call.0 q own e.0
      | inr fenced ↦
          let found = fences_one call told J q fenced in
          let same_node = same_Some found.0 node (sym found.2 ∙ is) in
          let same = one node.args found.1 (ap (λ (n : Node). n.args) (sym same_node) ∙ found.3) named in
          true≢false (sym (eq-eqb (number_of (called_in (node_of J q))) (number_of (Some server)) (ap number_of (found.4 ∙ ap (λ s. Some s) same))) ∙ not-true (number_of (called_in (node_of J q)) == number_of (Some server)) e.1)
    ]
