-- Roots that failed: their phase says so, and those that haven't may be aborted.
use Rattle.std.proofs.Common.{◌≡◌, ◌≢◌, ◌↔◌, ◌==◌, ℕ, [], ◌∷◌, Bool, true, false, not, if◌then◌else◌, IsTrue, Option, Some, None, refl, inl, inr, ap, sym, ◌∙◌, subst}
use Rattle.std.proofs.lemmas.Bool.{cases_eq, cond-false, cond-true, eq-eqb, ne_eqb, true≢false}
use Rattle.std.proofs.lemmas.Option.{none-some, same_Some}
use Rattle.hm_data.specs.declared.answer.Answer.{Answer}
use Rattle.hm_data.specs.declared.answer.Answer.TheVariants as answer_is
use Rattle.hm_data.specs.declared.answer.Cause.{Cause}
use Rattle.hm_data.specs.declared.entry.Entry.{Entry}
use Rattle.hm_data.specs.declared.entry.Entry.TheVariants as entry_is
use Rattle.hm_data.specs.declared.record.Phase.{Phase}
use Rattle.hm_data.specs.declared.record.Record.{Record}
use Rattle.hm_data.specs.declared.sheet.Row.{Row}
use Rattle.hm_model.specs.Answers.{failing, last_answer}
use Rattle.hm_model.specs.Editions.{sheets_in}
use Rattle.hm_model.specs.Journal.{Past}
use Rattle.hm_model.specs.Phase.{cause, children_ended, ended, or_else, own_phase, phase_table, rolled_back}
use Rattle.hm_model.specs.Records.{record_of}
use Rattle.hm_model.specs.Rules.{CanAbort, IsBeforePoint, IsLegal}
use Rattle.hm_model.specs.Sheets.{next_row, row_in, sheet_for}
use Rattle.hm_model.specs.Tree.{Node, is_root, is_root_in, is_top, node_of, root_in, root_of}
use Rattle.hm_model.proofs.Forest.{forest_all, top_is_own}
use Rattle.hm_model.proofs.Grown.{grown_all, nodes_stay}
use Rattle.hm_model.proofs.Small.{top_is}
use Rattle.hm_judge.specs.Aborts.{is_failed}
use Rattle.hm_judge.proofs.Editions.{next_is}
use Rattle.hm_judge.proofs.Found.{shown_of, there_of}
use Rattle.hm_judge.proofs.Stepping.{not_true}

-- a root that has a step after an entry was one before it
root_before : (entry : Entry) (before : Past) → IsLegal (entry ∷ before) → (p : ℕ) → last_answer before p ≢ None → is_root (entry ∷ before) p ≡ true → is_root before p ≡ true
root_before entry before legal p steps top = by (node_of before p) refl
  where
    by : (o : Option Node) → node_of before p ≡ o → is_root before p ≡ true
    by None e = absurd (steps ((grown_all before legal.0).unmade p e))
    by (Some x) e = ap is_root_in e ∙ sym (ap is_root_in (nodes_stay entry before legal p x e)) ∙ top

-- the number of a root is that of its tree
pub own_root : (J : Past) → IsLegal J → (p : ℕ) (x : Node) → node_of J p ≡ Some x → is_top x.above ≡ true → x.root ≡ p
own_root J legal p x is top = top_is_own J (forest_all J legal) p x is (top_is x.above top)

some_last : (c : Cause) (last : Option Answer) → last ≡ Some (answer_is.Fail c) → last ≢ None
some_last c last is none = none-some (answer_is.Fail c) (sym none ∙ is)

later_cause : (o : Option Cause) (c : Cause) → or_else o (Some c) ≢ None
later_cause None c e = none-some c (sym e)
later_cause (Some d) c e = none-some d (sym e)

first_cause : (o later : Option Cause) → o ≢ None → or_else o later ≢ None
first_cause None later some e = some refl
first_cause (Some d) later some e = none-some d (sym e)

either_cause : (b : Bool) (one other : Option Cause) → one ≢ None → other ≢ None → (if b then one else other) ≢ None
either_cause true one other h k = h
either_cause false one other h k = k

-- a root whose last step failed has a cause
pub fails_tell : (J : Past) → IsLegal J → (p : ℕ) (c : Cause) → is_root J p ≡ true → last_answer J p ≡ Some (answer_is.Fail c) → cause J p ≢ None
fails_tell [] legal p c top is = absurd (none-some (answer_is.Fail c) is)
fails_tell (entry_is.Submit nonce request ∷ before) legal p c top is =
    fails_tell before legal.0 p c (root_before (entry_is.Submit nonce request) before legal p (some_last c (last_answer before p) is) top) is
fails_tell (entry_is.Step pid pick out ∷ before) legal p c top is = elim (cases_eq p pid.0) [
  | inl own ↦
      let may = legal.1.1.0 in
      let now : is_root (entry_is.Step pid pick out ∷ before) pid.0 ≡ true = subst (λ q. is_root (entry_is.Step pid pick out ∷ before) q ≡ true) own top in
      let there = nodes_stay (entry_is.Step pid pick out) before legal pid.0 may.0 may.1 in
      let root : root_of before pid.0 ≡ p = ap root_in may.1 ∙ own_root before legal.0 pid.0 may.0 may.1 (sym (ap is_root_in there) ∙ now) ∙ sym own in
      let said : out.answer ≡ answer_is.Fail c = same_Some out.answer (answer_is.Fail c) (sym (cond-true (p == pid.0) (Some out.answer) (last_answer before p) (eq-eqb p pid.0 own)) ∙ is) in
      λ none. later_cause (cause before p) c (
      ap (or_else (cause before p)) (sym (ap failing said))
      ∙ sym (cond-true (root_of before pid.0 == p) (or_else (cause before p) (failing out.answer)) (cause before p) (eq-eqb (root_of before pid.0) p root))
      ∙ none
      )
  | inr other ↦
      let was : last_answer before p ≡ Some (answer_is.Fail c) = sym (cond-false (p == pid.0) (Some out.answer) (last_answer before p) (ne_eqb p pid.0 other)) ∙ is in
      let before_it = fails_tell before legal.0 p c (root_before (entry_is.Step pid pick out) before legal p (some_last c (last_answer before p) was) top) was in
      either_cause (root_of before pid.0 == p) (or_else (cause before p) (failing out.answer)) (cause before p) (first_cause (cause before p) (failing out.answer) before_it) before_it
]
fails_tell (entry_is.Undo pid row out ∷ before) legal p c top is =
    fails_tell before legal.0 p c (root_before (entry_is.Undo pid row out) before legal p (some_last c (last_answer before p) is) top) is
fails_tell (entry_is.Down server ∷ before) legal p c top is =
    fails_tell before legal.0 p c (root_before (entry_is.Down server) before legal p (some_last c (last_answer before p) is) top) is
fails_tell (entry_is.Base part ∷ before) legal p c top is = absurd (none-some (answer_is.Fail c) is)
fails_tell (entry ∷ before) legal p c top is = fails_tell before legal.0 p c top is

-- the phase of a root that hasn't failed has no cause
unfailed : (cause : Option Cause) (rolled : Bool) (own : Phase) → is_failed (phase_table cause rolled true own) ≡ false → cause ≡ None
unfailed None rolled own e = refl
unfailed (Some c) true own e = absurd (true≢false e)
unfailed (Some c) false own e = absurd (true≢false e)

own_goes_on : (last : Option Answer) (children : Bool) → ((c : Cause) → last ≡ Some (answer_is.Fail c) → ⊥) → is_failed (own_phase last children) ≡ false
own_goes_on None children fails = refl
own_goes_on (Some (answer_is.More next)) children fails = refl
own_goes_on (Some (answer_is.Wait next)) true fails = refl
own_goes_on (Some (answer_is.Wait next)) false fails = refl
own_goes_on (Some (answer_is.Await next)) children fails = refl
own_goes_on (Some (answer_is.Done told)) children fails = refl
own_goes_on (Some (answer_is.Fail c)) children fails = absurd (fails c refl)
own_goes_on (Some answer_is.Undone) children fails = refl

-- a root that is shown, unfinished and not aborted may be aborted where its phase isn't that of one that has failed
pub abort_iff : (J : Past) → IsLegal J → (p : ℕ) (its : Record) → Some its ≡ record_of J p → is_root J p ≡ true → its.aborted ≡ false → ended J p ≡ false
    → (failed : Bool) → failed ≡ is_failed its.phase → IsTrue (not failed) ↔ CanAbort J p
abort_iff J legal p its some root unaborted unended failed said =
    let t = there_of J p its some in
    let x = t.0 in
    let top : is_top x.above ≡ true = sym (ap is_root_in t.1) ∙ root in
    let own : x.root ≡ p = own_root J legal p x t.1 top in
    let shown : its.phase ≡ phase_table (cause J p) (rolled_back J p) true (own_phase (last_answer J p) (children_ended J p)) =
    ap (λ (r : Record). r.phase) t.2
    ∙ ap (λ r. phase_table (cause J r) (rolled_back J r) (is_top x.above) (own_phase (last_answer J p) (children_ended J p))) own
    ∙ ap (λ b. phase_table (cause J p) (rolled_back J p) b (own_phase (last_answer J p) (children_ended J p))) top in (
      λ goes. (root, unended, unfailed (cause J p) (rolled_back J p) (own_phase (last_answer J p) (children_ended J p)) (sym (ap is_failed shown) ∙ sym said ∙ not_true failed goes), sym (ap (λ (r : Record). r.aborted) t.2) ∙ unaborted),
      λ can.
          ap not (
          said ∙ ap is_failed shown
          ∙ ap (λ c. is_failed (phase_table c (rolled_back J p) true (own_phase (last_answer J p) (children_ended J p)))) can.2
          ∙ own_goes_on (last_answer J p) (children_ended J p) (λ c fails. fails_tell J legal p c root fails can.2)
          ),
    )

-- one that is shown is before the point where the row that it runs next isn't after it
pub point_iff : (J : Past) → IsLegal J → (p : ℕ) (its : Record) → Some its ≡ record_of J p → (o : Option Row) → o ≡ row_in (sheet_for (sheets_in J its.edition) its.kind) its.row → (row : Row) → o ≡ Some row
    → IsTrue (not row.after) ↔ IsBeforePoint J p
point_iff J legal p its some o found row is =
    let t = there_of J p its some in
    let next : next_row J p t.0 ≡ Some row = next_is J legal p its t.0 t.1 t.2 ∙ sym found ∙ is in (
      λ on. (t.0, t.1, row, next, not_true row.after on),
      λ point. ap not (ap (λ (r : Row). r.after) (same_Some row point.2 (sym next ∙ ap (next_row J p) (same_Some t.0 point.0 (sym t.1 ∙ point.1)) ∙ point.3)) ∙ point.4),
    )

-- one that has no row isn't
pub no_point : (J : Past) → IsLegal J → (p : ℕ) (its : Record) → Some its ≡ record_of J p → (o : Option Row) → o ≡ row_in (sheet_for (sheets_in J its.edition) its.kind) its.row → o ≡ None
    → IsTrue false ↔ IsBeforePoint J p
no_point J legal p its some o found none =
    (λ on. absurd (true≢false (sym on)), λ point. absurd (none-some point.2 (sym none ∙ found ∙ sym (next_is J legal p its point.0 point.1 (shown_of J p its some point.0 point.1)) ∙ point.3)))
