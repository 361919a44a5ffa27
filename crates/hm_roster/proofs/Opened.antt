-- A desk that is made from what a journal says.
use Rattle.std.proofs.Common.{◌≡◌, ◌≢◌, ◌↔◌, ◌⊎◌, ℕ, ◌+◌, ◌<◌, ◌≤◌, List, [], ◌∷◌, Option, Some, None, Bool, true, false, refl, inl, inr, ap, sym, ◌∙◌, subst, arith}
use Rattle.std.specs.Prelude.{IfSome, IsSome}
use Rattle.std.specs.Option.{option_map}
use Rattle.std.proofs.lemmas.Bool.{cases_eq, eq-eqb, cond-true, cond-false, false≢true, ne_eqb}
use Rattle.std.proofs.lemmas.Option.{none-some, same_Some}
use Rattle.hm_names.specs.declared.pid.Pid.{Pid}
use Rattle.hm_data.specs.declared.record.Record.{Record}
use Rattle.hm_judge.proofs.Found.{there_of}
use Rattle.hm_locks.specs.Book.{AreChanged, Blocks, IsEnlisted, IsFree, Row, above_child, above_in, holding, is_holding, new_row, row_of}
use Rattle.hm_locks.specs.Laws.{IsBookOf, IsRowOf}
use Rattle.hm_locks.specs.Needs.{HasFirst}
use Rattle.hm_locks.proofs.Clashes.{changed_twice, row_changed}
use Rattle.hm_locks.proofs.Ties.{clash_is_conflict}
use Rattle.hm_model.specs.Answers.{last_answer}
use Rattle.hm_model.specs.Holding.{HoldsWith, InConflict}
use Rattle.hm_model.specs.Journal.{Past}
use Rattle.hm_model.specs.Locks.{asks}
use Rattle.hm_model.specs.Phase.{ended}
use Rattle.hm_model.specs.Procedures.{offset}
use Rattle.hm_model.specs.Records.{record_at, record_of}
use Rattle.hm_model.specs.Rules.{IsLegal}
use Rattle.hm_model.specs.Tree.{Node, made, node_of, parent_in, pid_of}
use Rattle.hm_model.proofs.Grown.{grown_all, made_up_to}
use Rattle.hm_model.proofs.Trees.{some_of}
use Rattle.hm_model.proofs.Taken.{legal_apart}
use Rattle.hm_tied.specs.Tied.{IsOpen}
use Rattle.hm_roster.specs.Opening.{IsBookBelow}
use Rattle.hm_roster.proofs.Changed.{changed_here, changed_there, holding_row, row_some, some_row}
use Rattle.hm_records.proofs.Firsts.{node_first}
use Rattle.hm_roster.proofs.Numbers.{nobody_low}
use Rattle.hm_roster.proofs.Parents.{parent_open}

-- the row of a procedure is its own
row_own : (rows : List Row) (p : ℕ) (row : Row) → row_of rows p ≡ Some row → row.pid ≡ p
row_own [] p row e = absurd (none-some row e)
row_own (first ∷ more) p row e = elim (cases_eq first.pid p) [
  | inl same ↦ ap (λ (r : Row). r.pid) (sym (same_Some first row (sym (cond-true (Rattle.std.proofs.Common.eqb first.pid p) (Some first) (row_of more p) (eq-eqb first.pid p same)) ∙ e))) ∙ same
  | inr differs ↦ row_own more p row (sym (cond-false (Rattle.std.proofs.Common.eqb first.pid p) (Some first) (row_of more p) (ne_eqb first.pid p differs)) ∙ e)
]

-- before the first nobody is enlisted
pub none_below : (J : Past) → IsLegal J → (rows : List Row) → rows ≡ [] → IsBookBelow J rows (offset J + 1)
none_below J legal rows none = record {
  says = λ p row e. absurd (none-some row (sym (gone p) ∙ e));
  enlisted = λ p. (λ e. absurd (nobody p e), λ b. absurd (first p b.0 b.1.0));
  holds = λ p. (λ e. absurd (nobody p (holding_row (row_of rows p) e)), λ b. absurd (first p b.0 b.1.0));
}
  where
    gone : (p : ℕ) → row_of rows p ≡ None
    gone p = ap (λ l. row_of l p) none

    nobody : (p : ℕ) → IsEnlisted rows p → ⊥
    nobody p e = (let some = row_some (row_of rows p) e in none-some some.0 (sym (gone p) ∙ some.1))

    first : (p : ℕ) → p < offset J + 1 → node_of J p ≢ None → ⊥
    first p lt some = some (nobody_low J legal p (omega (arith, lt)))

module _ (J : Past) (rows : List Row) (n : ℕ) (below : IsBookBelow J rows n) where
  -- one that isn't there, or has ended, is passed
  pub passed : (IsOpen J n → ⊥) → IsBookBelow J rows (n + 1)
  passed over = record {
    says = below.says;
    enlisted = λ p. (λ e. (let b = (below.enlisted p).0 e in (wider p b.0, b.1)), λ b. (below.enlisted p).1 (closer p b.0 b.1, b.1));
    holds = λ p. (λ e. (let b = (below.holds p).0 e in (wider p b.0, b.1)), λ b. (below.holds p).1 (closer p b.0 (b.1.0, b.1.1), b.1));
  }
    where
      wider : (p : ℕ) → p < n → p < n + 1
      wider p lt = omega (arith, lt)

      closer : (p : ℕ) → p < n + 1 → IsOpen J p → p < n
      closer p lt opens = elim (cases_eq p n) [ inl same ↦ absurd (over (subst (IsOpen J) same opens)) | inr differs ↦ omega (arith, lt, differs) ]

  -- the next isn't enlisted yet
  pub fresh : row_of rows n ≡ None
  fresh = by (row_of rows n) refl
    where
      by : (o : Option Row) → row_of rows n ≡ o → o ≡ None
      by None e = refl
      by (Some row) e = let lt = ((below.enlisted n).0 (some_row (row_of rows n) row e)).0 in absurd (omega (arith, lt))

  module _ (legal : IsLegal J) (x : Node) (is : node_of J n ≡ Some x) (runs : ended J n ≡ false) where
    -- its parent is enlisted
    pub parent_there : (pid : Pid) → option_map pid_of (parent_in x.above) ≡ Some pid → IsEnlisted rows pid.0
    parent_there pid e = by x.above refl e
      where
        by : (above : List ℕ) → x.above ≡ above → option_map pid_of (parent_in above) ≡ Some pid → IsEnlisted rows pid.0
        by [] k e = absurd (none-some pid e)
        by (u ∷ rest) k e =
            let up = parent_open J legal n u x rest is k runs in
            subst (λ (q : Pid). IsEnlisted rows q.0) (same_Some (pid_of u) pid e) ((below.enlisted u).1 (up.3, up.4))

    -- the parent's row tells its ancestors
    pub above_there : above_child rows (option_map pid_of (parent_in x.above)) ≡ x.above
    above_there = by x.above refl
      where
        by : (above : List ℕ) → x.above ≡ above → above_child rows (option_map pid_of (parent_in above)) ≡ above
        by [] k = refl
        by (u ∷ rest) k =
            let up = parent_open J legal n u x rest is k runs in
            let row = row_some (row_of rows u) ((below.enlisted u).1 (up.3, up.4)) in
            let says = below.says u row.0 row.1 in
            let same = same_Some says.0 up.0 (sym says.1 ∙ ap (node_of J) (row_own rows u row.0 row.1) ∙ up.1) in
            ap (λ (l : List ℕ). u ∷ l) (ap above_in row.1 ∙ says.2 ∙ ap (λ (m : Node). m.above) same ∙ up.2)

    opens : IsOpen J n
    opens = ((λ none. none-some x (sym none ∙ is)), runs)

    -- its row as it is new, or holding
    abbrev pub row_for : Option Pid → Bool → Row
    row_for parent does = holding does (new_row rows n parent (asks x.args))

    row_says : (parent : Option Pid) (does : Bool) → above_child rows parent ≡ x.above → IsRowOf J (row_for parent does)
    row_says parent does above = (x, is, above, refl)

    module _ (parent : Option Pid) (above : above_child rows parent ≡ x.above) (does : Bool) (new : List Row) (changed : AreChanged rows n (Some (row_for parent does)) new) where
      here : (p : ℕ) → n ≡ p → row_of new p ≡ Some (row_for parent does)
      here p same = changed_here rows new n (Some (row_for parent does)) changed p same

      there : (p : ℕ) → n ≢ p → row_of new p ≡ row_of rows p
      there p differs = changed_there rows new n (Some (row_for parent does)) changed p differs

      pub entered : (does ≡ true → last_answer J n ≢ None) → (last_answer J n ≢ None → does ≡ true) → IsBookBelow J new (n + 1)
      entered to from = record {
        says = λ p row e. elim (cases_eq n p) [
          | inl same ↦ subst (IsRowOf J) (same_Some (row_for parent does) row (sym (here p same) ∙ e)) (row_says parent does above)
          | inr differs ↦ below.says p row (sym (there p differs) ∙ e)
        ];
        enlisted = λ p. elim (cases_eq n p) [
          | inl same ↦ ((λ e. ((let lt : p < n + 1 = omega (arith, same) in lt), subst (IsOpen J) same opens)), (λ b. some_row (row_of new p) (row_for parent does) (here p same)))
          | inr differs ↦ (
            (λ e. (let b = (below.enlisted p).0 (subst (λ (o : Option Row). IsSome o) (there p differs) e) in ((let lt = b.0 in omega (arith, lt)), b.1))),
            (λ b. subst (λ (o : Option Row). IsSome o) (sym (there p differs)) ((below.enlisted p).1 ((let lt = b.0 in omega (arith, lt, differs)), b.1))),
          )
        ];
        holds = λ p. elim (cases_eq n p) [
          | inl same ↦ (
            (λ e. ((let lt : p < n + 1 = omega (arith, same) in lt), subst (HoldsWith J []) same (opens.0, opens.1, inl (to (sym (ap is_holding (here p same)) ∙ e))))),
            (λ b. ap is_holding (here p same) ∙ from (answered (subst (HoldsWith J []) (sym same) b.1))),
          )
          | inr differs ↦ (
            (λ e. (let b = (below.holds p).0 (ap is_holding (sym (there p differs)) ∙ e) in ((let lt = b.0 in omega (arith, lt)), b.1))),
            (λ b. ap is_holding (there p differs) ∙ (below.holds p).1 ((let lt = b.0 in omega (arith, lt, differs)), b.1)),
          )
        ];
      }
        where
          answered : HoldsWith J [] n → last_answer J n ≢ None
          answered h = elim h.2 [ inl some ↦ some | inr among ↦ absurd among ]

    -- one that has a step is free to take what it asks for
    pub free_there : (parent : Option Pid) → above_child rows parent ≡ x.above → (new : List Row) → AreChanged rows n (Some (new_row rows n parent (asks x.args))) new → last_answer J n ≢ None → IsFree new n
    free_there parent above new changed some q blocks = elim (cases_eq n q) [
      | inl same ↦ absurd (false≢true (own (subst (Blocks (Some (row_for parent false))) (here parent above false new changed q same) first)))
      | inr differs ↦ other (row_of rows q) refl (subst (Blocks (Some (row_for parent false))) (there parent above false new changed q differs) first)
    ]
      where
        first : Blocks (Some (row_for parent false)) (row_of new q)
        first = subst (λ (o : Option Row). Blocks o (row_of new q)) (here parent above false new changed n refl) blocks

        own : Blocks (Some (row_for parent false)) (Some (row_for parent false)) → false ≡ true
        own b = b.0

        other : (o : Option Row) → row_of rows q ≡ o → Blocks (Some (row_for parent false)) o → ⊥
        other None e b = b
        other (Some row) e b =
            let conflict = (clash_is_conflict J (row_for parent false) row (row_says parent false above) (below.says q row e)).0 b.1 in
            legal_apart J legal n q (opens.0, opens.1, inl some) ((below.holds q).0 (ap is_holding e ∙ b.0)).1 (subst (InConflict J n) (row_own rows q row e) conflict)

-- the same, by how the procedure is shown
module _ (J : Past) (rows : List Row) (n : ℕ) (below : IsBookBelow J rows n) (legal : IsLegal J) (its : Record) (some : Some its ≡ record_of J n) (runs : ended J n ≡ false) where
  shown : (x : Node) × (node_of J n ≡ Some x) × (its ≡ record_at J n x)
  shown = there_of J n its some

  pub found_first : HasFirst its.args
  found_first = subst (λ (r : Record). HasFirst r.args) (sym shown.2) (node_first J legal n shown.0 shown.1)

  pub found_parent : IfSome its.parent (λ p. IsEnlisted rows p.0)
  found_parent = by its.parent refl
    where
      by : (o : Option Pid) → its.parent ≡ o → IfSome o (λ p. IsEnlisted rows p.0)
      by None e = tt
      by (Some pid) e = parent_there J rows n below legal shown.0 shown.1 runs pid (sym (ap (λ (r : Record). r.parent) shown.2) ∙ e)

  by_node : (new : List Row) → AreChanged rows n (Some (new_row rows n its.parent (asks its.args))) new → AreChanged rows n (Some (new_row rows n (option_map pid_of (parent_in shown.0.above)) (asks shown.0.args))) new
  by_node new changed = subst (λ (r : Record). AreChanged rows n (Some (new_row rows n r.parent (asks r.args))) new) shown.2 changed

  pub found_free : (new : List Row) → AreChanged rows n (Some (new_row rows n its.parent (asks its.args))) new → last_answer J n ≢ None → IsFree new n
  found_free new changed step = free_there J rows n below legal shown.0 shown.1 runs (option_map pid_of (parent_in shown.0.above)) (above_there J rows n below legal shown.0 shown.1 runs) new (by_node new changed) step

  pub found_idle : (new : List Row) → AreChanged rows n (Some (new_row rows n its.parent (asks its.args))) new → last_answer J n ≡ None → IsBookBelow J new (n + 1)
  found_idle new changed none = entered J rows n below legal shown.0 shown.1 runs (option_map pid_of (parent_in shown.0.above)) (above_there J rows n below legal shown.0 shown.1 runs) false new (by_node new changed) (λ e. absurd (false≢true e)) (λ step. absurd (step none))

  pub found_held : (mid new : List Row) → AreChanged rows n (Some (new_row rows n its.parent (asks its.args))) mid → AreChanged mid n (option_map (holding true) (row_of mid n)) new → last_answer J n ≢ None → IsBookBelow J new (n + 1)
  found_held mid new changed taken step =
      let own : AreChanged rows n (Some (new_row rows n (option_map pid_of (parent_in shown.0.above)) (asks shown.0.args))) mid = by_node mid changed in
      let both = changed_twice rows mid new n (Some (new_row rows n (option_map pid_of (parent_in shown.0.above)) (asks shown.0.args))) (option_map (holding true) (row_of mid n)) own taken in
      entered J rows n below legal shown.0 shown.1 runs (option_map pid_of (parent_in shown.0.above)) (above_there J rows n below legal shown.0 shown.1 runs) true new
      (subst (λ (o : Option Row). AreChanged rows n (option_map (holding true) o) new) (row_changed rows mid n (Some (new_row rows n (option_map pid_of (parent_in shown.0.above)) (asks shown.0.args))) own) both) (λ e. step) (λ e. refl)

-- all are there
pub book_all : (J : Past) → IsLegal J → (rows : List Row) → IsBookBelow J rows (made J + 1) → IsBookOf J [] rows × ((p : ℕ) → IsEnlisted rows p ↔ IsOpen J p)
book_all J legal rows below = (
  record {
    says = below.says;
    holds = λ p e. ((below.holds p).0 e).1;
    held = λ p h. (below.holds p).1 (within p h.0, h);
  },
  λ p. (λ e. ((below.enlisted p).0 e).1, λ opens. (below.enlisted p).1 (within p opens.0, opens)),
)
  where
    within : (p : ℕ) → node_of J p ≢ None → p < made J + 1
    within p some = (let x = some_of (node_of J p) some in (let le = (made_up_to J (grown_all J legal) p x.0 x.1).1 in omega (arith, le)))
