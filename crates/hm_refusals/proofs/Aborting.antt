-- By how who is shown stands an abort is refused or may come.
use Rattle.std.proofs.Common.{◌≡◌, ◌⊎◌, ℕ, ◌==◌, List, [], ◌∷◌, Bool, true, false, Option, Some, None, is_some, refl, inl, inr, ap, sym, ◌∙◌, subst}
use Rattle.std.specs.Option.{option_map}
use Rattle.std.proofs.lemmas.Bool.{cases_Bool, cond-false, cond-true, false≢true, true≢false}
use Rattle.std.proofs.lemmas.Option.{none-some, same_Some}
use Rattle.hm_names.specs.declared.pid.Pid.{Pid}
use Rattle.hm_data.specs.declared.answer.Answer.{Answer}
use Rattle.hm_data.specs.declared.answer.Answer.TheVariants as answer_is
use Rattle.hm_data.specs.declared.answer.Cause.{Cause}
use Rattle.hm_data.specs.declared.entry.Entry.TheVariants as entry_is
use Rattle.hm_data.specs.declared.part.Part.{Part}
use Rattle.hm_data.specs.declared.part.Part.TheVariants as part_is
use Rattle.hm_data.specs.declared.record.Phase.{Phase}
use Rattle.hm_data.specs.declared.record.Record.{Record}
use Rattle.hm_model.specs.Answers.{done_with, is_aborted, is_stopped, last_answer}
use Rattle.hm_model.specs.Base.{IsBegun}
use Rattle.hm_model.specs.Journal.{Past}
use Rattle.hm_model.specs.OldRoots.{old_phase, old_record, old_record_of, one_of, part_record, shown_of}
use Rattle.hm_model.specs.Phase.{cause, children_ended, ended_node, own_phase, phase, phase_table, rolled_back, root_ended, root_over}
use Rattle.hm_model.specs.Records.{record_at}
use Rattle.hm_model.specs.Rules.{Allowed, CanAbort, IsBeforePoint, IsLegal}
use Rattle.hm_model.specs.Tree.{Node, is_root_in, is_top, node_of, parent_in, pid_of}
use Rattle.hm_model.proofs.Forest.{forest_all, top_is_own}
use Rattle.hm_model.proofs.Small.{top_is}
use Rattle.hm_refusals.specs.Aborts.{GoesOn, HasFinished, IsAborted, IsBelow, IsOfBase, IsTooLate, is_finished}

-- a root that has ended, as it is shown
abbrev IsEndedRoot : Record → Type 0
IsEndedRoot its = (its.parent ≡ None) × (is_finished its.phase ≡ true)

old_finished : (cause : Option Cause) → is_finished (old_phase cause) ≡ true
old_finished None = refl
old_finished (Some c) = refl

part_ended : (part : Part) (p : ℕ) (shown : Option Record) (its : Record) → (shown ≡ Some its → IsEndedRoot its) → part_record part p shown ≡ Some its → IsEndedRoot its
part_ended (part_is.Root pid nonce args cause) p shown its on is = elim (cases_Bool (p == pid.0)) [
  | inl own ↦ subst IsEndedRoot (same_Some (old_record pid args cause) its (sym (cond-true (p == pid.0) (Some (old_record pid args cause)) shown own) ∙ is)) (refl, old_finished cause)
  | inr other ↦ on (sym (cond-false (p == pid.0) (Some (old_record pid args cause)) shown other) ∙ is)
]
part_ended part p shown its on is = on is

-- a root of the base is one
old_ended : (J : Past) (p : ℕ) (its : Record) → old_record_of J p ≡ Some its → IsEndedRoot its
old_ended [] p its is = absurd (none-some its is)
old_ended (entry_is.Base part ∷ before) p its is = part_ended part p (old_record_of before p) its (old_ended before p its) is
old_ended (entry ∷ before) p its is = old_ended before p its is

-- who is shown was made behind the base, or is a root of it
shown_is : (J : Past) (p : ℕ) (its : Record) → Some its ≡ shown_of J p → ((x : Node) × (node_of J p ≡ Some x) × (its ≡ record_at J p x)) ⊎ (old_record_of J p ≡ Some its)
shown_is J p its some = by (node_of J p) refl some
  where
    by : (o : Option Node) → node_of J p ≡ o → Some its ≡ one_of (option_map (record_at J p) o) (old_record_of J p) → ((x : Node) × (node_of J p ≡ Some x) × (its ≡ record_at J p x)) ⊎ (old_record_of J p ≡ Some its)
    by None e is = inr (sym is)
    by (Some x) e is = inl (x, e, same_Some its (record_at J p x) is)

-- who has a parent is no root, and who has none is one
has_above : (above : List ℕ) → is_some (option_map pid_of (parent_in above)) ≡ true → is_top above ≡ false
has_above [] e = absurd (false≢true e)
has_above (up ∷ above) e = refl

has_none : (above : List ℕ) → is_some (option_map pid_of (parent_in above)) ≡ false → is_top above ≡ true
has_none [] e = refl
has_none (up ∷ above) e = absurd (true≢false e)

module _ (J : Past) (p : ℕ) (its : Record) (some : Some its ≡ shown_of J p) where
  pub is_below : is_some its.parent ≡ true → (let root = its.root in IsBelow J p root.0)
  is_below up = elim (shown_is J p its some) [
    | inl there ↦ (
      there.0,
      there.1,
      has_above (let x = there.0 in x.above) (sym (ap (λ (r : Record). is_some r.parent) there.2) ∙ up),
      ap (λ (r : Record). let root = r.root in root.0) there.2,
    )
    | inr old ↦ absurd (false≢true (sym (ap is_some (old_ended J p its old).0) ∙ up))
  ]

  module _ (top : is_some its.parent ≡ false) where
    pub has_finished : is_finished its.phase ≡ true → HasFinished J p its.phase ⊎ IsOfBase J p its.phase
    has_finished over = elim (shown_is J p its some) [
      | inl there ↦ inl (
        there.0,
        there.1,
        has_none (let x = there.0 in x.above) (sym (ap (λ (r : Record). is_some r.parent) there.2) ∙ top),
        ap (λ (r : Record). r.phase) there.2,
        over,
      )
      | inr old ↦ inr (its, old, refl)
    ]

    -- a root that goes on was made behind the base
    goes_on : is_finished its.phase ≡ false → (x : Node) × (node_of J p ≡ Some x) × (its ≡ record_at J p x) × GoesOn J p x
    goes_on runs = elim (shown_is J p its some) [
      | inl there ↦ (
        there.0,
        there.1,
        there.2,
        (has_none (let x = there.0 in x.above) (sym (ap (λ (r : Record). is_some r.parent) there.2) ∙ top), sym (ap (λ (r : Record). is_finished r.phase) there.2) ∙ runs),
      )
      | inr old ↦ absurd (true≢false (sym (old_ended J p its old).1 ∙ runs))
    ]

    pub is_late : is_finished its.phase ≡ false → (IsBeforePoint J p → ⊥) → IsTooLate J p its.row
    is_late runs late = let x = goes_on runs in (x.0, x.1, x.3, ap (λ (r : Record). r.row) x.2, late)

    pub in_time : is_finished its.phase ≡ false → IsBeforePoint J p → IsAborted J p its.aborted
    in_time runs point = let x = goes_on runs in (((x.0, x.1, x.3), point), sym (ap (λ (r : Record). r.aborted) x.2))

-- a root that goes on has no cause
sound : (cause : Option Cause) (rolled : Bool) (own : Phase) → is_finished (phase_table cause rolled true own) ≡ false → (cause ≡ None) × (is_finished own ≡ false)
sound None rolled own e = (refl, e)
sound (Some c) true own e = absurd (true≢false e)
sound (Some c) false own e = absurd (true≢false e)

-- nor is it done
undone : (last : Option Answer) (children : Bool) → is_finished (own_phase last children) ≡ false → done_with last ≡ None
undone None children e = refl
undone (Some (answer_is.More next)) children e = refl
undone (Some (answer_is.Wait next)) children e = refl
undone (Some (answer_is.Await next)) children e = refl
undone (Some (answer_is.Done told)) children e = absurd (true≢false e)
undone (Some (answer_is.Fail c)) children e = refl
undone (Some answer_is.Undone) children e = refl

pub can_abort : (J : Past) → IsLegal J → (p : ℕ) (x : Node) → node_of J p ≡ Some x → GoesOn J p x → is_aborted J p ≡ false → CanAbort J p
can_abort J legal p x is goes unaborted =
    let own : x.root ≡ p = top_is_own J (forest_all J legal) p x is (top_is x.above goes.0) in
    let shown : phase J p x ≡ phase_table (cause J p) (rolled_back J p) true (own_phase (last_answer J p) (children_ended J p)) =
    ap (λ r. phase_table (cause J r) (rolled_back J r) (is_top x.above) (own_phase (last_answer J p) (children_ended J p))) own
    ∙ ap (λ b. phase_table (cause J p) (rolled_back J p) b (own_phase (last_answer J p) (children_ended J p))) goes.0 in
    let none = sound (cause J p) (rolled_back J p) (own_phase (last_answer J p) (children_ended J p)) (sym (ap is_finished shown) ∙ goes.1) in (
      ap is_root_in is ∙ goes.0,
      ap (ended_node J p) is
          ∙ cond-true (is_top x.above) (root_ended J p) (is_stopped (last_answer J p)) goes.0
          ∙ ap (λ c. root_over c (rolled_back J p) (done_with (last_answer J p))) none.0
          ∙ ap is_some (undone (last_answer J p) (children_ended J p) none.1),
      none.0,
      unaborted,
    )

-- where it may be aborted and wasn't before, an abort of it may come
pub may_abort : (J : Past) (pid : Pid) → IsBegun J → IsLegal J → (before : Bool) → IsAborted J pid.0 before → before ≡ false → Allowed J (entry_is.Abort pid)
may_abort J pid begun legal before at unaborted =
    let in_time = at.0 in
    let found = in_time.0 in
    (begun, (can_abort J legal pid.0 found.0 found.1 found.2 (at.1 ∙ unaborted), (in_time.1, tt)))
