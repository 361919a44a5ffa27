-- What a lock book tells whose rows are those of the procedures.
use Rattle.std.proofs.Common.{◌≡◌, ◌≢◌, ℕ, ◌==◌, [], ◌∷◌, List, Bool, true, false, nat_lt, if◌then◌else◌, Option, Some, None, is_some, refl, ap, sym, ◌∙◌, inl, inr, subst, arith}
use Rattle.std.specs.Prelude.{IsSome}
use Rattle.std.specs.Option.{option_map}
use Rattle.std.proofs.lemmas.Bool.{and_parts, cases_eq, cond-false, eq-eqb, false≢true, ne_eqb, true≢false}
use Rattle.std.proofs.lemmas.Bool.Decides.{nat_tests}
use Rattle.std.proofs.lemmas.Option.{none-some, same_Some}
use Rattle.hm_names.specs.Server.{Server}
use Rattle.hm_names.specs.declared.pid.Pid.{Pid}
use Rattle.hm_data.specs.declared.answer.Answer.{Answer}
use Rattle.hm_data.specs.declared.args.Args.{Args}
use Rattle.hm_data.specs.declared.args.Args.TheVariants as args_are
use Rattle.hm_data.specs.declared.entry.Entry.{Entry}
use Rattle.hm_data.specs.declared.entry.Entry.TheVariants as entry_is
use Rattle.hm_data.specs.declared.step.StepOut.{StepOut}
use Rattle.hm_locks.specs.Book.{AreChanged, IsEnlisted, IsFree, Row, above_child, above_in, holding, is_holding, row_of}
use Rattle.hm_locks.specs.Laws.{FreeIsFree, IsBookOf, IsRowOf}
use Rattle.hm_locks.specs.Needs.{HasFirst}
use Rattle.hm_model.specs.Answers.{last_answer}
use Rattle.hm_model.specs.Journal.{Past}
use Rattle.hm_model.specs.Locks.{asks}
use Rattle.hm_model.specs.Phase.{ended}
use Rattle.hm_model.specs.Rules.{IsLegal}
use Rattle.hm_model.specs.Tree.{Node, node_of}
use Rattle.hm_model.proofs.Free.{step_free}
use Rattle.hm_records.specs.Book.{AreRows, ListOpen, above_made, has_first, or_taken, book_row, stepper_of}
use Rattle.hm_records.proofs.Trees.{stepper_open, stepper_there}

-- a row says of whom it is
said : (past : Past) (p : ℕ) (row : Row) (ended stepped : Bool) (o : Option Node) → node_of past p ≡ o → book_row ended stepped p o ≡ Some row → IsRowOf past row
said past p row ended stepped None is e = absurd (none-some row e)
said past p row true stepped (Some x) is e = absurd (none-some row e)
said past p row false stepped (Some x) is e =
    subst (IsRowOf past) (same_Some (let own : Row = record { pid = p; above = x.above; asks = asks x.args; holds = stepped } in own) row e) (x, is, refl, refl)

-- who holds
holds_by : (p : ℕ) (e : Bool) (last : Option Answer) (o : Option Node) → is_holding (book_row e (is_some last) p o) ≡ true → (o ≢ None) × (e ≡ false) × (last ≢ None)
holds_by p e last None h = absurd (false≢true h)
holds_by p true last (Some x) h = absurd (false≢true h)
holds_by p false None (Some x) h = absurd (false≢true h)
holds_by p false (Some answer) (Some x) h = ((λ none. none-some x (sym none)), refl, (λ none. none-some answer (sym none)))

held_by : (p : ℕ) (e : Bool) (last : Option Answer) (o : Option Node) → o ≢ None → e ≡ false → last ≢ None → is_holding (book_row e (is_some last) p o) ≡ true
held_by p e last None some goes stepped = absurd (some refl)
held_by p true last (Some x) some goes stepped = absurd (true≢false goes)
held_by p false None (Some x) some goes stepped = absurd (stepped refl)
held_by p false (Some answer) (Some x) some goes stepped = refl

-- who is enlisted
listed_by : (p : ℕ) (e stepped : Bool) (o : Option Node) → IsSome (book_row e stepped p o) → (o ≢ None) × (e ≡ false)
listed_by p e stepped None h = absurd (false≢true h)
listed_by p true stepped (Some x) h = absurd (false≢true h)
listed_by p false stepped (Some x) h = ((λ none. none-some x (sym none)), refl)

lists_by : (p : ℕ) (e stepped : Bool) (o : Option Node) → o ≢ None → e ≡ false → IsSome (book_row e stepped p o)
lists_by p e stepped None some goes = absurd (some refl)
lists_by p true stepped (Some x) some goes = absurd (true≢false goes)
lists_by p false stepped (Some x) some goes = refl

module _ (past : Past) (rows : List Row) (are : AreRows past rows) where
  pub lists_open : ListOpen past rows
  lists_open p = (
    (λ there. listed_by p (ended past p) (is_some (last_answer past p)) (node_of past p) (subst (λ (o : Option Row). IsSome o) (are p) there)),
    (λ goes. subst (λ (o : Option Row). IsSome o) (sym (are p)) (lists_by p (ended past p) (is_some (last_answer past p)) (node_of past p) goes.0 goes.1)),
  )

  pub book_of : IsBookOf past [] rows
  book_of = record {
    says = λ p row is. said past p row (ended past p) (is_some (last_answer past p)) (node_of past p) refl (sym (are p) ∙ is);
    holds = λ p h. (let by = holds_by p (ended past p) (last_answer past p) (node_of past p) (sym (ap is_holding (are p)) ∙ h) in (by.0, by.1, inl by.2));
    held = λ p h. ap is_holding (are p) ∙ held_by p (ended past p) (last_answer past p) (node_of past p) h.0 h.1 (elim h.2 [ inl stepped ↦ stepped | inr never ↦ absurd never ]);
  }

  pub above_told : (parent : Option Pid) → above_child rows parent ≡ above_made past parent
  above_told None = refl
  above_told (Some pid) = ap (λ (o : Option Row). pid.0 ∷ above_in o) (are pid.0)

  -- who makes a step is enlisted, and free
  module _ (pid : Pid) (pick : Option Server) (out : StepOut) (legal : IsLegal (entry_is.Step pid pick out ∷ past)) where
    pub stepper_listed : IsEnlisted rows pid.0
    stepper_listed =
        let me = stepper_there pid pick out past legal in
        (lists_open pid.0).1 ((λ none. none-some me.0 (sym none ∙ me.1)), stepper_open pid pick out past legal)

    pub stepper_free : FreeIsFree → IsFree rows pid.0
    stepper_free law = (law past [] rows pid.0 book_of stepper_listed).1 (step_free pid pick out past legal)

  pub stepper_can : FreeIsFree → (entry : Entry) → IsLegal (entry ∷ past) → (pid : Pid) → stepper_of entry ≡ Some pid → IsEnlisted rows pid.0 × IsFree rows pid.0
  stepper_can law (entry_is.Step own pick out) legal pid is =
      subst (λ (q : Pid). IsEnlisted rows q.0 × IsFree rows q.0) (same_Some own pid is) (stepper_listed own pick out legal, stepper_free own pick out legal law)
  stepper_can law entry legal pid is = absurd (none-some pid is)

-- who takes holds
pub taken_rows : (old new : List Row) (pid : Pid) → AreChanged old pid.0 (option_map (holding true) (row_of old pid.0)) new → (p : ℕ) → row_of new p ≡ or_taken (Some pid) p (row_of old p)
taken_rows old new pid changed p = changed p ∙ elim (cases_eq pid.0 p) [
  | inl here ↦ ap (λ q. if pid.0 == p then option_map (holding true) (row_of old q) else row_of old p) here
  | inr there ↦
      cond-false (pid.0 == p) (option_map (holding true) (row_of old pid.0)) (row_of old p) (ne_eqb pid.0 p there)
      ∙ sym (cond-false (pid.0 == p) (option_map (holding true) (row_of old p)) (row_of old p) (ne_eqb pid.0 p there))
]

-- who is released is enlisted no longer
pub released_own : (old new : List Row) (p : ℕ) → AreChanged old p None new → row_of new p ≡ None
released_own old new p changed = changed p ∙ ap (λ b. if b then None else row_of old p) (eq-eqb p p refl)

pub released_others : (old new : List Row) (p : ℕ) → AreChanged old p None new → (q : ℕ) → q ≢ p → row_of new q ≡ row_of old q
released_others old new p changed q other = changed q ∙ cond-false (p == q) None (row_of old q) (ne_eqb p q (λ e. other (sym e)))

-- who isn't enlisted has no row
pub unlisted : (o : Option Row) → is_some o ≡ false → o ≡ None
unlisted None e = refl
unlisted (Some row) e = absurd (true≢false e)

-- what the test of a first id says
pub first_told : (args : Args) → has_first args ≡ true → HasFirst args
first_told (args_are.Root request first) is =
    let parts = and_parts (nat_lt 0 first) (nat_lt first 4294967296) is in (grind (arith, nat_tests, parts), grind (arith, nat_tests, parts))
first_told args is = tt
