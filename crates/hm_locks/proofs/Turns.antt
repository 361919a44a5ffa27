-- What a procedure's standing says of its entry and its row, and what each change makes of the rows.
use Rattle.std.proofs.Common.{◌≡◌, ℕ, ◌+◌, ◌<◌, ◌≤◌, Bool, true, false, not, List, length, set, cond, Option, Some, None, refl, sym, ap, ◌∙◌, subst, inl, inr, ◌⊎◌, arith}
use Rattle.std.proofs.lemmas.Bool.{cases_eq, eq-eqb, ne_eqb}
use Rattle.std.proofs.lemmas.Option.{same_Some, none-some}
use Rattle.std.specs.Option.{option_and_then, option_map}
use Rattle.std.specs.Ordering.{nat_cmp}
use Rattle.std.specs.Prelude.{◌↔◌}
use Rattle.hm_index.specs.Index.{find}
use Rattle.hm_lists.specs.Chains.{IsIn, list_at}
use Rattle.hm_lists.specs.Map.{IsHeld, IsOut}
use Rattle.hm_locks.specs.declared.entry.Entry.{Entry}
use Rattle.hm_locks.specs.declared.entry.Standing.{Standing}
use Rattle.hm_locks.specs.declared.entry.Want.{Want}
use Rattle.hm_locks.specs.declared.key.Key.{Key}
use Rattle.hm_locks.specs.Book.{Row, row_of, holding, is_holding, AreChanged}
use Rattle.hm_locks.specs.Entries.{with_holds}
use Rattle.hm_locks.specs.Kept.{entry_at, row_for, rows_in, standing_at, standing_of, IsAmong, IsFound, IsKept}
use Rattle.hm_locks.proofs.Found.{row_is, rows_set, entry_is}
use Rattle.hm_locks.proofs.Keeping.{out, held, kept_take, kept_give, kept_leave}
use Rattle.hm_locks.proofs.Places.{entry_within}

pub off : (b : Bool) → not b ≡ true → b ≡ false
off true e = sym e
off false e = refl

pub on : (b : Bool) → not b ≡ false → b ≡ true
on true e = refl
on false e = sym e

-- how the entry of a procedure stands
pub record Stands (places : List (ℕ × ℕ)) (es : List (Option Entry)) (p : ℕ) (at : Standing) : Type 0 where
  pub entry : Entry
  pub placed : find nat_cmp places p ≡ Some at.place
  pub is : entry_at es at.place ≡ Some entry
  pub first : at.first ≡ entry.first
  pub count : at.count ≡ length entry.asked
  pub holds : at.holds ≡ entry.holds

pub stands : (places : List (ℕ × ℕ)) (es : List (Option Entry)) (p : ℕ) (at : Standing) → Some at ≡ standing_of places es p → Stands places es p at
stands places es p at e = by (find nat_cmp places p) refl e
  where
    there : (i : ℕ) → find nat_cmp places p ≡ Some i → (o : Option Entry) → entry_at es i ≡ o → Some at ≡ option_map (standing_at i) o → Stands places es p at
    there i f None is e = absurd (none-some at (sym e))
    there i f (Some d) is e =
        let same : at ≡ standing_at i d = same_Some at (standing_at i d) e in
        let place : at.place ≡ i = ap (λ (x : Standing). x.place) same in record {
          entry = d;
          placed = f ∙ ap Some (sym place);
          is = ap (entry_at es) place ∙ is;
          first = ap (λ (x : Standing). x.first) same;
          count = ap (λ (x : Standing). x.count) same;
          holds = ap (λ (x : Standing). x.holds) same;
        }

    by : (o : Option ℕ) → find nat_cmp places p ≡ o → Some at ≡ option_and_then (λ i. option_map (standing_at i) (entry_at es i)) o → Stands places es p at
    by None f e = absurd (none-some at (sym e))
    by (Some i) f e = there i f (entry_at es i) refl e

pub unstanding : (places : List (ℕ × ℕ)) (es : List (Option Entry)) (p : ℕ) → IsFound places es → None ≡ standing_of places es p → row_of (rows_in es) p ≡ None
unstanding places es p index e = row_is places es index p ∙ ap (option_map row_for) (by (find nat_cmp places p) e)
  where
    there : (i : ℕ) (o : Option Entry) → None ≡ option_map (standing_at i) o → o ≡ None
    there i None e = refl
    there i (Some d) e = absurd (none-some (standing_at i d) e)

    by : (o : Option ℕ) → None ≡ option_and_then (λ i. option_map (standing_at i) (entry_at es i)) o → option_and_then (entry_at es) o ≡ None
    by None e = refl
    by (Some i) e = there i (entry_at es i) e

-- rows that are as they were, and a row as it was
pub unchanged : (rows : List Row) (p : ℕ) (o : Option Row) → row_of rows p ≡ o → AreChanged rows p o rows
unchanged rows p o is q = elim (cases_eq p q) [
  | inl same ↦ ap (row_of rows) (sym same) ∙ is ∙ sym (ap (λ b. cond b o (row_of rows q)) (eq-eqb p q same))
  | inr differs ↦ sym (ap (λ b. cond b o (row_of rows q)) (ne_eqb p q differs))
]

holding_same : (b : Bool) (row : Row) → row.holds ≡ b → holding b row ≡ row
holding_same b row e = ap (λ h. let r : Row = record { pid = row.pid; above = row.above; asks = row.asks; holds = h } in r) (sym e)

module _ (places : List (ℕ × ℕ)) (es : List (Option Entry)) (wants : List Want) (numbers : List (Key × ℕ)) (lists : List (List ℕ)) (spare : ℕ)
    (kept : IsKept places es wants numbers lists spare) (p : ℕ) (at : Standing) (e : Some at ≡ standing_of places es p) where
  abbrev pub s : Stands places es p at
  s = stands places es p at e

  pub place_within : at.place < length es
  place_within = entry_within es at.place s.entry s.is

  pub row_stands : row_of (rows_in es) p ≡ Some (row_for s.entry)
  row_stands = row_is places es kept.index p ∙ ap (option_map row_for) (entry_is places es kept.index p at.place s.entry s.placed s.is)

  changed : (b : Bool) → option_map (with_holds b) (entry_at es at.place) ≡ Some (with_holds b s.entry)
  changed b = ap (option_map (with_holds b)) s.is

  pub rows_turned : (b : Bool) → AreChanged (rows_in es) p (option_map (holding b) (row_of (rows_in es) p)) (rows_in (set es at.place (option_map (with_holds b) (entry_at es at.place))))
  rows_turned b =
      subst (λ o. AreChanged (rows_in es) p o (rows_in (set es at.place (option_map (with_holds b) (entry_at es at.place))))) (sym (ap (option_map (holding b)) row_stands))
      (subst (λ o. AreChanged (rows_in es) p (Some (holding b (row_for s.entry))) (rows_in (set es at.place o))) (sym (changed b))
      (rows_set places es kept.index p at.place s.entry s.placed s.is (Some (with_holds b s.entry)) (λ d f. ap (λ (x : Entry). x.pid) (sym (same_Some (with_holds b s.entry) d f)))))

  pub rows_still : (b : Bool) → at.holds ≡ b → AreChanged (rows_in es) p (option_map (holding b) (row_of (rows_in es) p)) (rows_in es)
  rows_still b is = unchanged (rows_in es) p (option_map (holding b) (row_of (rows_in es) p))
      (row_stands ∙ sym (ap (option_map (holding b)) row_stands ∙ ap Some (holding_same b (row_for s.entry) (sym s.holds ∙ is))))

  pub rows_left : AreChanged (rows_in es) p None (rows_in (set es at.place None))
  rows_left = rows_set places es kept.index p at.place s.entry s.placed s.is None (λ d f. absurd (none-some d f))

  pub left_kept : is_holding (row_of (rows_in es) p) ≡ false → IsKept places (set es at.place None) wants numbers lists spare
  left_kept free = kept_leave places es wants numbers lists spare kept p at.place s.entry s.placed s.is (sym (ap is_holding row_stands) ∙ free)

  pub nodes_within : at.first + at.count ≤ length wants
  nodes_within = let le = kept.ranges at.place s.entry s.is in let first = s.first in let count = s.count in omega (arith, le, first, count)

  pub nodes_out : at.holds ≡ false → (n : ℕ) → at.first ≤ n → n < at.first + at.count → IsOut lists n
  nodes_out free n low high =
      let first = s.first in
      let count = s.count in
      out places es wants numbers lists spare kept p at.place s.entry s.placed s.is (sym s.holds ∙ free) n (omega (arith, low, first)) (omega (arith, high, first, count))

  pub nodes_held : at.holds ≡ true → (n : ℕ) → at.first ≤ n → n < at.first + at.count → IsHeld lists n
  nodes_held holds n low high =
      let first = s.first in
      let count = s.count in
      held places es wants numbers lists spare kept p at.place s.entry s.placed s.is (sym s.holds ∙ holds) n (omega (arith, low, first)) (omega (arith, high, first, count))

  pub taken_kept : at.holds ≡ false → (lists' : List (List ℕ)) → length lists' ≡ length lists
      → ((l n : ℕ) → IsIn n (list_at lists' l) ↔ (IsIn n (list_at lists l) ⊎ IsAmong wants at.first at.count l n))
      → IsKept places (set es at.place (option_map (with_holds true) (entry_at es at.place))) wants numbers lists' spare
  taken_kept free lists' long each =
      subst (λ o. IsKept places (set es at.place o) wants numbers lists' spare) (sym (changed true))
      (kept_take places es wants numbers lists spare kept p at.place s.entry s.placed s.is (sym s.holds ∙ free) lists' long
      (subst (λ n. (l m : ℕ) → IsIn m (list_at lists' l) ↔ (IsIn m (list_at lists l) ⊎ IsAmong wants s.entry.first n l m)) s.count
      (subst (λ n. (l m : ℕ) → IsIn m (list_at lists' l) ↔ (IsIn m (list_at lists l) ⊎ IsAmong wants n at.count l m)) s.first each)))

  pub given_kept : at.holds ≡ true → (lists' : List (List ℕ)) → length lists' ≡ length lists
      → ((l n : ℕ) → IsIn n (list_at lists' l) ↔ (IsIn n (list_at lists l) × ((n < at.first) ⊎ (at.first + at.count ≤ n))))
      → IsKept places (set es at.place (option_map (with_holds false) (entry_at es at.place))) wants numbers lists' spare
  given_kept holds lists' long each =
      subst (λ o. IsKept places (set es at.place o) wants numbers lists' spare) (sym (changed false))
      (kept_give places es wants numbers lists spare kept p at.place s.entry s.placed s.is (sym s.holds ∙ holds) lists' long
      (subst (λ n. (l m : ℕ) → IsIn m (list_at lists' l) ↔ (IsIn m (list_at lists l) × ((m < s.entry.first) ⊎ (s.entry.first + n ≤ m)))) s.count
      (subst (λ k. (l m : ℕ) → IsIn m (list_at lists' l) ↔ (IsIn m (list_at lists l) × ((m < k) ⊎ (k + at.count ≤ m)))) s.first each)))
