-- Rows that say what a journal says.
use Rattle.std.proofs.Common.{◌≡◌, ◌≢◌, ℕ, true, List, [], ◌∷◌, Option, Some, None, cond, refl, sym, ap, ◌∙◌, subst, inl, inr}
use Rattle.std.specs.Prelude.{◌↔◌, IsSome}
use Rattle.std.proofs.lemmas.Bool.{cases_eq, eq-eqb, ne_eqb, false≢true}
use Rattle.std.proofs.lemmas.Option.{same_Some, none-some}
use Rattle.hm_model.specs.declared.lock.Ask.{Ask}
use Rattle.hm_model.specs.Holding.{HoldsWith, InConflict, IsFree as IsFreeIn}
use Rattle.hm_model.specs.Journal.{Past}
use Rattle.hm_model.specs.Locks.{AsksClash, Clash, IsAbove, IsIn, asks}
use Rattle.hm_model.specs.Tree.{node_of}
use Rattle.hm_locks.specs.Book.{Blocks, Row, RowsClash, IsFree, is_holding, row_of}
use Rattle.hm_locks.specs.Laws.{ClashIsConflict, FreeIsFree, IsBookOf, IsRowOf}

above_is : (before : Past) (p : ℕ) (row : Row) → IsRowOf before row → (IsIn p row.above → IsAbove p (node_of before row.pid)) × (IsAbove p (node_of before row.pid) → IsIn p row.above)
above_is before p row is = (
  (λ above. subst (IsAbove p) (sym is.1) (subst (IsIn p) is.2 above)),
  (λ above. subst (IsIn p) (sym is.2) (subst (IsAbove p) is.1 above)),
)

pub clash_is_conflict : ClashIsConflict
clash_is_conflict before one other first second =
    let to : (xs ys : List Ask) → xs ≡ asks first.0.args → ys ≡ asks second.0.args → Clash xs ys → AsksClash (node_of before one.pid) (node_of before other.pid) = λ xs ys e f clash.
    subst (λ o. AsksClash o (node_of before other.pid)) (sym first.1) (subst (AsksClash (Some first.0)) (sym second.1) (subst (λ zs. Clash zs (asks second.0.args)) e (subst (Clash xs) f clash))) in
    let from : AsksClash (node_of before one.pid) (node_of before other.pid) → Clash one.asks other.asks = λ clash.
    subst (λ zs. Clash zs other.asks) (sym first.3) (subst (Clash (asks first.0.args)) (sym second.3)
    (subst (AsksClash (Some first.0)) second.1 (subst (λ o. AsksClash o (node_of before other.pid)) first.1 clash))) in (
      (λ rows. (
        rows.0,
        ((λ above. rows.1 ((above_is before one.pid other second).1 above)), (λ above. rows.2 ((above_is before other.pid one first).1 above)), to one.asks other.asks first.3 second.3 rows.3),
      )),
      (λ conflict. (
        conflict.0,
        (λ above. conflict.1.0 ((above_is before one.pid other second).0 above)),
        (λ above. conflict.1.1 ((above_is before other.pid one first).0 above)),
        from conflict.1.2,
      )),
    )

row_pid : (rows : List Row) (p : ℕ) (r : Row) → row_of rows p ≡ Some r → r.pid ≡ p
row_pid [] p r e = absurd (none-some r e)
row_pid (row ∷ more) p r e = elim (cases_eq row.pid p) [
  | inl same ↦
      let is : row ≡ r = same_Some row r (sym (ap (λ b. cond b (Some row) (row_of more p)) (eq-eqb row.pid p same)) ∙ e) in
      ap (λ (x : Row). x.pid) (sym is) ∙ same
  | inr other ↦ row_pid more p r (sym (ap (λ b. cond b (Some row) (row_of more p)) (ne_eqb row.pid p other)) ∙ e)
]

module _ (before : Past) (taken : List ℕ) (rows : List Row) (p : ℕ) (book : IsBookOf before taken rows) where
  -- two rows that clash are in conflict, by their numbers
  conflict_of : (q : ℕ) (own other : Row) → row_of rows p ≡ Some own → row_of rows q ≡ Some other → RowsClash own other ↔ InConflict before p q
  conflict_of q own other own_is other_is =
      subst (λ n. RowsClash own other ↔ InConflict before n q) (row_pid rows p own own_is)
      (subst (λ n. RowsClash own other ↔ InConflict before own.pid n) (row_pid rows q other other_is)
      (clash_is_conflict before own other (book.says p own own_is) (book.says q other other_is)))

  blocked_conflicts : (q : ℕ) (a b : Option Row) → row_of rows p ≡ a → row_of rows q ≡ b → Blocks a b → HoldsWith before taken q × InConflict before p q
  blocked_conflicts q None b own_is other_is blocks = absurd blocks
  blocked_conflicts q (Some own) None own_is other_is blocks = absurd blocks
  blocked_conflicts q (Some own) (Some other) own_is other_is blocks =
      (book.holds q (ap is_holding other_is ∙ blocks.0), (conflict_of q own other own_is other_is).0 blocks.1)

  conflict_blocks : (q : ℕ) (a b : Option Row) → row_of rows p ≡ a → row_of rows q ≡ b → a ≢ None → is_holding b ≡ true → InConflict before p q → Blocks a b
  conflict_blocks q None b own_is other_is some holds conflict = absurd (some refl)
  conflict_blocks q (Some own) None own_is other_is some holds conflict = absurd (false≢true holds)
  conflict_blocks q (Some own) (Some other) own_is other_is some holds conflict = (holds, (conflict_of q own other own_is other_is).1 conflict)

  free : row_of rows p ≢ None → IsFree rows p ↔ IsFreeIn before taken p
  free some = (
    (λ is q holds conflict. is q (conflict_blocks q (row_of rows p) (row_of rows q) refl refl some (book.held q holds) conflict)),
    (λ is q blocks. let both = blocked_conflicts q (row_of rows p) (row_of rows q) refl refl blocks in is q both.0 both.1),
  )

enlisted : (o : Option Row) → IsSome o → o ≢ None
enlisted None e f = false≢true e
enlisted (Some row) e f = none-some row (sym f)

pub free_is_free : FreeIsFree
free_is_free before taken rows p book some = free before taken rows p book (enlisted (row_of rows p) some)
