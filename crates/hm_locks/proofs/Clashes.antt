-- No two that hold clash, whatever changes.
use Rattle.std.proofs.Common.{◌≡◌, ◌≢◌, ℕ, Bool, true, false, ◌||◌, List, Option, Some, None, eqb, cond, refl, sym, ap, ◌∙◌, subst, inl, inr, ◌⊎◌}
use Rattle.std.proofs.lemmas.Bool.{cases_eq, eq-eqb, ne_eqb, false≢true}
use Rattle.std.specs.Option.{option_map}
use Rattle.hm_locks.specs.Book.{AreChanged, Blocks, IsBlockedBy, IsFree, NoneClash, Row, RowsClash, holding, is_holding, row_of}

either_way : (a b : Bool) → (a || b) ≡ true → (b || a) ≡ true
either_way true true e = refl
either_way true false e = refl
either_way false true e = refl
either_way false false e = e

-- two that clash do so both ways round
turned : (one other : Row) → RowsClash one other → RowsClash other one
turned one other clash =
    let both = clash.3 in (
      (λ e. clash.0 (sym e)),
      clash.2,
      clash.1,
      (both.1, both.0, both.3, both.2, sym both.4, either_way both.0.exclusive both.1.exclusive both.5),
    )

-- who blocks holds
blocker_holds : (a b : Option Row) → Blocks a b → is_holding b ≡ true
blocker_holds None b blocks = absurd blocks
blocker_holds (Some own) None blocks = absurd blocks
blocker_holds (Some own) (Some other) blocks = blocks.0

-- the rows of one that changes, and of others
which : (rows rows' : List Row) (p : ℕ) (o : Option Row) → AreChanged rows p o rows' → (q : ℕ) → ((p ≡ q) × (row_of rows' q ≡ o)) ⊎ ((p ≢ q) × (row_of rows' q ≡ row_of rows q))
which rows rows' p o changed q = elim (cases_eq p q) [
  | inl same ↦ inl (same, changed q ∙ ap (λ b. cond b o (row_of rows q)) (eq-eqb p q same))
  | inr differs ↦ inr (differs, changed q ∙ ap (λ b. cond b o (row_of rows q)) (ne_eqb p q differs))
]

still : (rows rows' : List Row) → NoneClash rows → (q r : ℕ) → row_of rows' q ≡ row_of rows q → row_of rows' r ≡ row_of rows r → is_holding (row_of rows' q) ≡ true → IsBlockedBy rows' q r → ⊥
still rows rows' clear q r at there holds blocks =
    clear q r (ap is_holding (sym at) ∙ holds) (subst (λ b. Blocks (row_of rows q) b) there (subst (λ a. Blocks a (row_of rows' r)) at blocks))

-- one that doesn't hold comes, or one leaves
pub clear_off : (rows rows' : List Row) (p : ℕ) (o : Option Row) → AreChanged rows p o rows' → is_holding o ≡ false → NoneClash rows → NoneClash rows'
clear_off rows rows' p o changed free clear q r holds blocks = elim (which rows rows' p o changed q) [
  | inl here ↦ false≢true (sym free ∙ ap is_holding (sym here.1) ∙ holds)
  | inr there ↦ elim (which rows rows' p o changed r) [
    | inl other ↦ false≢true (sym free ∙ ap is_holding (sym other.1) ∙ blocker_holds (row_of rows' q) (row_of rows' r) blocks)
    | inr other ↦ still rows rows' clear q r there.1 other.1 holds blocks
  ]
]

-- the row of one that takes clashes as before
took_own : (a b : Option Row) → Blocks (option_map (holding true) a) b → Blocks a b
took_own None b blocks = blocks
took_own (Some own) None blocks = blocks
took_own (Some own) (Some other) blocks = blocks

took_other : (a b : Option Row) → is_holding a ≡ true → Blocks a (option_map (holding true) b) → Blocks b a
took_other None b holds blocks = absurd blocks
took_other (Some own) None holds blocks = absurd blocks
took_other (Some own) (Some other) holds blocks = (holds, turned own other blocks.1)

not_itself : (o : Option Row) → Blocks o o → ⊥
not_itself None blocks = blocks
not_itself (Some row) blocks = blocks.1.0 refl

-- one that nobody blocks takes
pub clear_on : (rows rows' : List Row) (p : ℕ) → AreChanged rows p (option_map (holding true) (row_of rows p)) rows' → IsFree rows p → NoneClash rows → NoneClash rows'
clear_on rows rows' p changed free clear q r holds blocks =
    let o : Option Row = option_map (holding true) (row_of rows p) in
    elim (which rows rows' p o changed q) [
      | inl here ↦
          let own = subst (λ a. Blocks a (row_of rows' r)) here.1 blocks in
          elim (which rows rows' p o changed r) [
            | inl other ↦ not_itself o (subst (Blocks o) other.1 own)
            | inr other ↦ free r (subst (Blocks (row_of rows p)) other.1 (took_own (row_of rows p) (row_of rows' r) own))
          ]
      | inr there ↦ elim (which rows rows' p o changed r) [
        | inl other ↦
            free q (took_other (row_of rows q) (row_of rows p) (ap is_holding (sym there.1) ∙ holds)
            (subst (Blocks (row_of rows q)) other.1 (subst (λ a. Blocks a (row_of rows' r)) there.1 blocks)))
        | inr other ↦ still rows rows' clear q r there.1 other.1 holds blocks
      ]
    ]

-- what gives back holds nothing
pub given : (o : Option Row) → is_holding (option_map (holding false) o) ≡ false
given None = refl
given (Some row) = refl

-- the row of one that was changed
pub row_changed : (rows rows' : List Row) (p : ℕ) (o : Option Row) → AreChanged rows p o rows' → row_of rows' p ≡ o
row_changed rows rows' p o changed = changed p ∙ ap (λ b. cond b o (row_of rows p)) (eq-eqb p p refl)

-- two changes of one row
pub changed_twice : (rows mid rows' : List Row) (p : ℕ) (m o : Option Row) → AreChanged rows p m mid → AreChanged mid p o rows' → AreChanged rows p o rows'
changed_twice rows mid rows' p m o first second q = second q ∙ by (cases_eq p q)
  where
    by : (p ≡ q) ⊎ (p ≢ q) → cond (eqb p q) o (row_of mid q) ≡ cond (eqb p q) o (row_of rows q)
    by (inl same) = ap (λ b. cond b o (row_of mid q)) (eq-eqb p q same) ∙ sym (ap (λ b. cond b o (row_of rows q)) (eq-eqb p q same))
    by (inr differs) = ap (λ r. cond (eqb p q) o r) (first q ∙ ap (λ b. cond b m (row_of rows q)) (ne_eqb p q differs))
