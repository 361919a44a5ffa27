-- Whether a root holds, and whether one that does covers a row.
use Rattle.std.proofs.Common.{◌≡◌, ◌≢◌, ℕ, zero, suc, ◌<◌, List, [], ◌∷◌, true, false, Option, Some, None, refl, ap, sym, ◌∙◌, subst, inl, inr, ◌⊎◌, arith}
use Rattle.std.proofs.lemmas.Bool.{cases_Bool, cases_eq, true≢false}
use Rattle.std.proofs.lemmas.Option.{none-some, same_Some}
use Rattle.hm_data.specs.declared.answer.Answer.{Answer}
use Rattle.hm_data.specs.declared.catalog.CatKey.{CatKey}
use Rattle.hm_model.specs.Answers.{last_answer}
use Rattle.hm_model.specs.Journal.{Past}
use Rattle.hm_model.specs.Phase.{root_ended}
use Rattle.hm_model.specs.Reads.{covers}
use Rattle.hm_model.specs.Tree.{Node, node_of}
use Rattle.hm_serial.proofs.Fallen.{some_cons}
use Rattle.hm_model.proofs.Tops.{TopHolds}

none_or : (o : Option Answer) → (o ≡ None) ⊎ (o ≢ None)
none_or None = inl refl
none_or (Some a) = inr (λ e. none-some a (sym e))

pub holds_or : (J : Past) (r : ℕ) → ((node : Node) × TopHolds J r node) ⊎ ((node : Node) → TopHolds J r node → ⊥)
holds_or J r = by_node (node_of J r) refl
  where
    by_node : (o : Option Node) → node_of J r ≡ o → ((node : Node) × TopHolds J r node) ⊎ ((node : Node) → TopHolds J r node → ⊥)
    by_node None e = inr (λ node h. none-some node (sym e ∙ h.0.0))
    by_node (Some x) e = by_above x.above refl
      where
        by_above : (above : List ℕ) → x.above ≡ above → ((node : Node) × TopHolds J r node) ⊎ ((node : Node) → TopHolds J r node → ⊥)
        by_above (first ∷ rest) a = inr (λ node h. some_cons first rest (sym a ∙ ap (λ (y : Node). y.above) (same_Some x node (sym e ∙ h.0.0)) ∙ h.0.1))
        by_above [] a = elim (none_or (last_answer J r)) [
          | inl none ↦ inr (λ node h. h.1 none)
          | inr some ↦ elim (cases_Bool (root_ended J r)) [
            | inl over ↦ inr (λ node h. true≢false (sym over ∙ h.2))
            | inr open_still ↦ inl (x, ((e, a), some, open_still))
          ]
        ]

-- a root that holds covers the row
abbrev pub Covered : Past → CatKey → Type 0
Covered J key = (r : ℕ) × (node : Node) × TopHolds J r node × (covers node.args key ≡ true)

-- none among the first ones does
abbrev pub NoneCovers : Past → CatKey → ℕ → Type 0
NoneCovers J key k = (r : ℕ) (node : Node) → r < k → TopHolds J r node → covers node.args key ≡ false

pub covered_or : (J : Past) (key : CatKey) (k : ℕ) → Covered J key ⊎ NoneCovers J key k
covered_or J key zero = inr none
  where
    none : NoneCovers J key 0
    none r node lt h = absurd (omega (arith, lt))
covered_or J key (suc k) = elim (covered_or J key k) [
  | inl is ↦ inl is
  | inr before ↦ elim (holds_or J k) [
    | inr nobody ↦ inr (λ r node lt h. elim (cases_eq r k) [ inl same ↦ absurd (nobody node (subst (λ s. TopHolds J s node) same h)) | inr differs ↦ before r node (omega (arith, lt, differs)) h ])
    | inl is ↦ elim (cases_Bool (covers is.0.args key)) [
      | inl on ↦ inl (k, is.0, is.1, on)
      | inr off ↦ inr (λ r node lt h. elim (cases_eq r k) [
        | inl same ↦ ap (λ (y : Node). covers y.args key) (same_Some node is.0 (sym h.0.0 ∙ ap (node_of J) same ∙ is.1.0.0)) ∙ off
        | inr differs ↦ before r node (omega (arith, lt, differs)) h
      ])
    ]
  ]
]
