-- Rows of procedures, and what an entry changes of them.
use Rattle.std.proofs.Common.{◌≡◌, ◌≢◌, ℕ, ◌<◌, ◌≤◌, ◌==◌, ◌∷◌, Bool, true, false, if◌then◌else◌, Option, Some, None, is_some, refl, ap, sym, ◌∙◌, inl, inr, ◌⊎◌, arith}
use Rattle.std.specs.Option.{option_map}
use Rattle.std.proofs.lemmas.Bool.{cases_Bool, cases_eq, cond-false, eq-eqb, ne_eqb, true≢false}
use Rattle.std.proofs.lemmas.Option.{none-some, same_Some}
use Rattle.hm_names.specs.declared.pid.Pid.{Pid}
use Rattle.hm_data.specs.declared.answer.Cause.{Cause}
use Rattle.hm_data.specs.declared.entry.Entry.{Entry}
use Rattle.hm_data.specs.declared.entry.Entry.TheVariants as entry_is
use Rattle.hm_locks.specs.Book.{Row, holding}
use Rattle.hm_model.specs.Answers.{done_with, is_stopped, last_answer}
use Rattle.hm_model.specs.Apart.{tree_of}
use Rattle.hm_model.specs.Journal.{Past}
use Rattle.hm_model.specs.Phase.{cause, ended, ended_node, rolled_back, root_ended}
use Rattle.hm_model.specs.Rules.{IsLegal}
use Rattle.hm_model.specs.Tree.{Node, is_root_in, is_top, made, node_of}
use Rattle.hm_model.proofs.Grown.{down_old, grown_all, nodes_stay, step_old, submit_old, undo_old}
use Rattle.hm_model.proofs.Tops.{caused_begun}
use Rattle.hm_records.specs.Book.{or_taken, row_at, book_row, stepper_of, unless_ended}
use Rattle.hm_records.proofs.Forgotten.{ends_below}
use Rattle.hm_records.proofs.Trees.{below_ended, none_answers, none_open, none_stepped, not_over, stays_ended, there_or_not}

uncaused : (J : Past) → IsLegal J → (p : ℕ) → last_answer J p ≡ None → cause J p ≡ None
uncaused J legal p none = by (cause J p) refl
  where
    by : (o : Option Cause) → cause J p ≡ o → cause J p ≡ None
    by None e = e
    by (Some c) e = absurd (caused_begun J legal p c e none)

-- who has no step hasn't ended
pub unstepped_open : (J : Past) → IsLegal J → (p : ℕ) → last_answer J p ≡ None → ended J p ≡ false
unstepped_open J legal p none = elim (there_or_not J p) [
  | inl out ↦ none_open J p out
  | inr x ↦ elim (cases_Bool (is_top x.0.above)) [
    | inr below ↦ below_ended J p x.0 x.1 below ∙ ap is_stopped none
    | inl top ↦
        ap (ended_node J p) x.1
        ∙ ap (λ b. if b then root_ended J p else is_stopped (last_answer J p)) top
        ∙ not_over (cause J p) (rolled_back J p) (done_with (last_answer J p)) (inl (uncaused J legal p none)) (ap done_with none)
  ]
]

-- an entry is a step of this procedure, or it isn't
pub steps_or_not : (entry : Entry) (p : ℕ) → ((pid : Pid) × (stepper_of entry ≡ Some pid) × (pid.0 ≡ p)) ⊎ ((pid : Pid) → stepper_of entry ≡ Some pid → pid.0 ≢ p)
steps_or_not entry p = by (stepper_of entry) refl
  where
    by : (o : Option Pid) → stepper_of entry ≡ o → ((pid : Pid) × (stepper_of entry ≡ Some pid) × (pid.0 ≡ p)) ⊎ ((pid : Pid) → stepper_of entry ≡ Some pid → pid.0 ≢ p)
    by None e = inr (λ pid is. absurd (none-some pid (sym e ∙ is)))
    by (Some own) e = elim (cases_eq own.0 p) [
      | inl same ↦ inl (own, e, same)
      | inr differs ↦ inr (λ pid is at. differs (ap (λ (q : Pid). q.0) (same_Some own pid (sym e ∙ is)) ∙ at))
    ]

-- another's last answer stays
pub last_stays : (entry : Entry) (J : Past) → IsLegal (entry ∷ J) → (p : ℕ) → ((pid : Pid) → stepper_of entry ≡ Some pid → pid.0 ≢ p) → last_answer (entry ∷ J) p ≡ last_answer J p
last_stays (entry_is.Step pid pick out) J legal p other = cond-false (p == pid.0) (Some out.answer) (last_answer J p) (ne_eqb p pid.0 (λ e. other pid refl (sym e)))
last_stays (entry_is.Base part) J legal p other = sym (none_stepped part J legal p)
last_stays entry J legal p other = refl

-- who steps has a step
last_comes : (entry : Entry) (J : Past) (p : ℕ) (pid : Pid) → stepper_of entry ≡ Some pid → pid.0 ≡ p → is_some (last_answer (entry ∷ J) p) ≡ true
last_comes (entry_is.Step own pick out) J p pid is same =
    ap (λ b. is_some (if b then Some out.answer else last_answer J p)) (eq-eqb p own.0 (sym same ∙ ap (λ (q : Pid). q.0) (sym (same_Some own pid is))))
last_comes entry J p pid is same = absurd (none-some pid is)

-- of another tree the procedure of the step alone ends
pub ends_by : (entry : Entry) (J : Past) → IsLegal (entry ∷ J) → (p : ℕ) → p ≢ tree_of J entry → ((pid : Pid) → stepper_of entry ≡ Some pid → pid.0 ≢ p) → ended J p ≡ false → ended (entry ∷ J) p ≡ false
ends_by entry J legal p apart other goes = elim (cases_Bool (ended (entry ∷ J) p)) [
  | inr on ↦ on
  | inl over ↦ absurd (by over (there_or_not J p))
]
  where
    by : ended (entry ∷ J) p ≡ true → (node_of J p ≡ None) ⊎ ((x : Node) × (node_of J p ≡ Some x)) → ⊥
    by over (inl none) = true≢false (sym over ∙ unstepped_open (entry ∷ J) legal p (none_answers entry J legal p none))
    by over (inr x) =
        let below : is_top x.0.above ≡ false = sym (ap is_root_in x.1) ∙ ends_below entry J legal p apart goes over in
        true≢false (sym over ∙ below_ended (entry ∷ J) p x.0 (nodes_stay entry J legal p x.0 x.1) below ∙ ap is_stopped (last_stays entry J legal p other) ∙ sym (below_ended J p x.0 x.1 below) ∙ goes)

-- rows of those who aren't there
row_out : (ended stepped : Bool) (p : ℕ) (o : Option Node) → o ≡ None → book_row ended stepped p o ≡ None
row_out ended stepped p o e = ap (book_row ended stepped p) e

-- or have ended
row_over : (ended stepped : Bool) (p : ℕ) (o : Option Node) → ended ≡ true → book_row ended stepped p o ≡ None
row_over ended stepped p None e = refl
row_over ended stepped p (Some x) e = ap (λ b. book_row b stepped p (Some x)) e

taken_none : (s : Option Pid) (p : ℕ) (row : Option Row) → row ≡ None → or_taken s p row ≡ None
taken_none s p row e = ap (or_taken s p) e ∙ by s
  where
    none : (b : Bool) → (if b then option_map (holding true) None else None) ≡ None
    none true = refl
    none false = refl

    by : (s : Option Pid) → or_taken s p None ≡ None
    by None = refl
    by (Some pid) = none (pid.0 == p)

unless_none : (b : Bool) → unless_ended b None ≡ None
unless_none true = refl
unless_none false = refl

-- who isn't there up to the last number isn't there after an entry
still_none : (entry : Entry) (J : Past) (p : ℕ) → p ≤ made J → node_of J p ≡ None → node_of (entry ∷ J) p ≡ None
still_none (entry_is.Submit nonce request) J p within none = submit_old nonce request J p (λ e. omega (arith, within, e)) ∙ none
still_none (entry_is.Step pid pick out) J p within none = step_old pid pick out J p within ∙ none
still_none (entry_is.Undo pid row out) J p within none = undo_old pid row out J p within ∙ none
still_none (entry_is.Down server) J p within none = down_old server J p (λ e. omega (arith, within, e)) ∙ none
still_none (entry_is.Base part) J p within none = refl
still_none entry J p within none = none

module _ (entry : Entry) (J : Past) (legal : IsLegal (entry ∷ J)) (p : ℕ) where
  abbrev after : Past
  after = entry ∷ J

  was_open : ended after p ≡ false → ended J p ≡ false
  was_open goes = elim (cases_Bool (ended J p)) [
    | inr on ↦ on
    | inl over ↦ absurd (true≢false (sym (stays_ended entry J legal p over) ∙ goes))
  ]

  -- the row of one that was there, and goes on
  row_on : (x : Node) → node_of J p ≡ Some x → ended after p ≡ false → row_at after p ≡ or_taken (stepper_of entry) p (row_at J p)
  row_on x is goes =
      ap (book_row (ended after p) (is_some (last_answer after p)) p) (nodes_stay entry J legal p x is)
      ∙ ap (λ b. book_row b (is_some (last_answer after p)) p (Some x)) goes
      ∙ by (steps_or_not entry p)
      ∙ ap (or_taken (stepper_of entry) p) (sym was)
    where
      was : row_at J p ≡ book_row false (is_some (last_answer J p)) p (Some x)
      was = ap (book_row (ended J p) (is_some (last_answer J p)) p) is ∙ ap (λ b. book_row b (is_some (last_answer J p)) p (Some x)) (was_open goes)

      other : ((pid : Pid) → stepper_of entry ≡ Some pid → pid.0 ≢ p) → (s : Option Pid) → stepper_of entry ≡ s → (row : Option Row) → row ≡ or_taken s p row
      other differs None e row = refl
      other differs (Some pid) e row = sym (cond-false (pid.0 == p) (option_map (holding true) row) row (ne_eqb pid.0 p (differs pid e)))

      by : ((pid : Pid) × (stepper_of entry ≡ Some pid) × (pid.0 ≡ p)) ⊎ ((pid : Pid) → stepper_of entry ≡ Some pid → pid.0 ≢ p)
          → book_row false (is_some (last_answer after p)) p (Some x) ≡ or_taken (stepper_of entry) p (book_row false (is_some (last_answer J p)) p (Some x))
      by (inl own) =
          ap (λ b. book_row false b p (Some x)) (last_comes entry J p own.0 own.1 own.2)
          ∙ sym (ap (λ b. if b then option_map (holding true) (book_row false (is_some (last_answer J p)) p (Some x)) else book_row false (is_some (last_answer J p)) p (Some x)) (eq-eqb own.0.0 p own.2))
          ∙ sym (ap (λ s. or_taken s p (book_row false (is_some (last_answer J p)) p (Some x))) own.1)
      by (inr differs) =
          ap (λ o. book_row false (is_some o) p (Some x)) (last_stays entry J legal p differs)
          ∙ other differs (stepper_of entry) refl (book_row false (is_some (last_answer J p)) p (Some x))

  -- the row of one that was made before
  pub row_still : p ≤ made J → row_at after p ≡ unless_ended (ended after p) (or_taken (stepper_of entry) p (row_at J p))
  row_still within = elim (there_or_not J p) [
    | inl none ↦
        row_out (ended after p) (is_some (last_answer after p)) p (node_of after p) (still_none entry J p within none)
        ∙ sym (ap (unless_ended (ended after p)) (taken_none (stepper_of entry) p (row_at J p) (row_out (ended J p) (is_some (last_answer J p)) p (node_of J p) none)) ∙ unless_none (ended after p))
    | inr x ↦ elim (cases_Bool (ended after p)) [
      | inl over ↦ row_over (ended after p) (is_some (last_answer after p)) p (node_of after p) over ∙ sym (ap (λ b. unless_ended b (or_taken (stepper_of entry) p (row_at J p))) over)
      | inr goes ↦ row_on x.0 x.1 goes ∙ sym (ap (λ b. unless_ended b (or_taken (stepper_of entry) p (row_at J p))) goes)
    ]
  ]

  -- no row of one that had ended
  pub row_was_over : ended J p ≡ true → or_taken (stepper_of entry) p (row_at J p) ≡ None
  row_was_over over = taken_none (stepper_of entry) p (row_at J p) (row_over (ended J p) (is_some (last_answer J p)) p (node_of J p) over)

-- nobody after the last has a row
pub none_behind : (J : Past) → IsLegal J → (s : Option Pid) (p : ℕ) → made J < p → or_taken s p (row_at J p) ≡ None
none_behind J legal s p behind = taken_none s p (row_at J p) (row_out (ended J p) (is_some (last_answer J p)) p (node_of J p) ((grown_all J legal).numbered p behind))
