-- What the acts answer that call nobody and place nothing.
use Rattle.std.proofs.Common.{◌≡◌, ℕ, zero, suc, ◌+◌, List, [], ◌∷◌, Bool, true, false, not, ◌&&◌, ◌||◌, ◌==◌, Some, None, cond, nat_le, length, take, drop, map, refl, ap, sym, ◌∙◌, slice_get, ◌++◌}
use Rattle.std.proofs.lemmas.Bool.{and_parts, false≢true, true≢false}
use Rattle.std.proofs.lemmas.Option.{none-some, same_Some}
use Rattle.hm_names.specs.Region.{Region}
use Rattle.hm_names.specs.declared.table.TableName.{TableName}
use Rattle.hm_data.specs.declared.act.Act.{Act}
use Rattle.hm_data.specs.declared.act.Act.TheVariants as act_is
use Rattle.hm_data.specs.declared.answer.Answer.{Answer}
use Rattle.hm_data.specs.declared.answer.Answer.TheVariants as answer_is
use Rattle.hm_data.specs.declared.answer.Cause.{Cause}
use Rattle.hm_data.specs.declared.args.Args.{Args}
use Rattle.hm_data.specs.declared.args.Args.TheVariants as args_are
use Rattle.hm_data.specs.declared.args.Child.{Child}
use Rattle.hm_data.specs.declared.args.Child.TheVariants as child_is
use Rattle.hm_data.specs.declared.call.Told.{Told}
use Rattle.hm_data.specs.declared.catalog.Edit.{Edit}
use Rattle.hm_data.specs.declared.place.Goal.{Goal}
use Rattle.hm_data.specs.declared.step.StepIn.{StepIn}
use Rattle.hm_data.specs.declared.step.StepOut.{StepOut}
use Rattle.hm_data.specs.declared.call.Told.TheVariants as told_is
use Rattle.hm_model.specs.Acts.{act_answer}
use Rattle.hm_model.specs.RowsSaid.{all_among}
use Rattle.hm_model.specs.ActSorts.{is_check}
pub use Rattle.hm_model.specs.ActSorts.{is_plain}
use Rattle.hm_model.specs.Views.{first_id_of}
use Rattle.hm_model.specs.Answers.{failing, no_row}
use Rattle.hm_model.specs.Outs.{ends_with, spawns, fails, gives, on_to}
use Rattle.hm_model.specs.Pieces.{Batch, adding, batches, by_64, dropping, transits}
use Rattle.hm_model.specs.Locks.{in_name_order}
use Rattle.hm_model.specs.Tree.{args_in}
use Rattle.hm_model.specs.MadeOf.{IsMadeOf, LeadsNear, Makes, can_fail}
use Rattle.hm_model.proofs.Answered.{done_or_on}
use Rattle.hm_model.proofs.MadeOf.{made_of}

-- a procedure calls a region server
abbrev pub is_caller : Args → Bool
is_caller (args_are.AssignCall region server) = true
is_caller (args_are.CloseCall region server) = true
is_caller args = false

-- only roots are such: requests and crashes
abbrev pub is_high : Args → Bool
is_high (args_are.Root request first) = true
is_high (args_are.Crash server) = true
is_high args = false

-- no procedure of either sort stands for the child
abbrev pub is_quiet : Child → Bool
is_quiet (child_is.Transits table ids goal) = true
is_quiet (child_is.One args) = not (is_caller args || is_high args)

abbrev pub all_quiet : List Child → Bool
all_quiet [] = true
all_quiet (child ∷ more) = is_quiet child && all_quiet more

-- the answer leads to this row, or ends
abbrev pub GoesTo : ℕ → Answer → Type 0
GoesTo next (answer_is.More n) = n ≡ next
GoesTo next (answer_is.Wait n) = n ≡ next
GoesTo next (answer_is.Done told) = Unit {0}
GoesTo next (answer_is.Fail cause) = Unit {0}
GoesTo next answer = ⊥

-- where it doesn't wait there are no children
abbrev pub ChildrenWait : Answer → List Child → Type 0
ChildrenWait (answer_is.Wait n) children = Unit {0}
ChildrenWait answer children = children ≡ []

pub record IsPlainOut (next : ℕ) (out : StepOut) : Type 0 where
  pub silent : out.call ≡ None
  pub unplaced : out.place ≡ None
  pub quiet : all_quiet out.children ≡ true
  pub goes : GoesTo next out.answer
  pub waits : ChildrenWait out.answer out.children

pub plain_fails : (next : ℕ) (cause : Cause) → IsPlainOut next (fails cause)
plain_fails next cause = record { silent = refl; unplaced = refl; quiet = refl; goes = tt; waits = refl }

plain_on : (next : ℕ) (edits : List Edit) → IsPlainOut next (gives (on_to next) edits)
plain_on next edits = by (next == no_row)
  where
    by : (b : Bool) → IsPlainOut next (gives (cond b (answer_is.Done told_is.Nothing) (answer_is.More next)) edits)
    by true = record { silent = refl; unplaced = refl; quiet = refl; goes = tt; waits = refl }
    by false = record { silent = refl; unplaced = refl; quiet = refl; goes = refl; waits = refl }

plain_spawns : (next : ℕ) (children : List Child) → all_quiet children ≡ true → IsPlainOut next (spawns next children)
plain_spawns next [] quiet = record { silent = refl; unplaced = refl; quiet = refl; goes = refl; waits = refl }
plain_spawns next (child ∷ more) quiet = record { silent = refl; unplaced = refl; quiet = quiet; goes = refl; waits = tt }

plain_ends : (next : ℕ) (told : Told) → IsPlainOut next (ends_with told)
plain_ends next told = record { silent = refl; unplaced = refl; quiet = refl; goes = tt; waits = refl }

quiet_batches : (goal : Goal) (list : List Batch) → all_quiet (map (λ batch. child_is.Transits batch.table batch.ids goal) list) ≡ true
quiet_batches goal [] = refl
quiet_batches goal (batch ∷ more) = quiet_batches goal more

pub quiet_transits : (goal : Goal) (regions : List Region) → all_quiet (transits goal regions) ≡ true
quiet_transits goal regions = quiet_batches goal (batches (in_name_order regions))

quiet_pieces : (table : TableName) (pieces : List (List ℕ)) → all_quiet (map (λ piece. child_is.One (args_are.DropRegions table piece)) pieces) ≡ true
quiet_pieces table [] = refl
quiet_pieces table (piece ∷ more) = quiet_pieces table more

quiet_dropping : (table : TableName) (ids : List ℕ) → all_quiet (dropping table ids) ≡ true
quiet_dropping table ids = quiet_pieces table (by_64 ids)

quiet_if : (b : Bool) (children : List Child) → all_quiet children ≡ true → all_quiet (cond b [] children) ≡ true
quiet_if true children h = refl
quiet_if false children h = h

quiet_adding : (most : ℕ) (table : TableName) (first : ℕ) (bounds : List (List ℕ)) → all_quiet (adding most table first bounds) ≡ true
quiet_adding zero table first bounds = refl
quiet_adding (suc most) table first bounds = quiet_if (nat_le (length bounds) 1) (child_is.One (args_are.AddRegions table first (take 65 bounds)) ∷ adding most table (first + 64) (drop 64 bounds)) (quiet_adding most table (first + 64) (drop 64 bounds))

-- such an act makes only quiet ones
quiet_made : (act : Act) (at : StepIn) → is_plain act ≡ true → {children : List Child} → Makes act at children → all_quiet children ≡ true
quiet_made act at h (Makes.lays is) = refl
quiet_made act at h (Makes.fences is server own) = refl
quiet_made act at h (Makes.adds_all is table own bounds are) = quiet_adding (length bounds) table (first_id_of at.args) bounds
quiet_made act at h (Makes.drops_all is table own) = quiet_dropping table (map (λ (region : Region). region.id) (all_among table at.rows))
quiet_made act at h (Makes.sends goal sent which is regions are) = quiet_transits goal regions
quiet_made act at h (Makes.opens off region own server there) = absurd (true≢false (sym h ∙ off))

plain_made : (act : Act) (next : ℕ) (at : StepIn) → is_plain act ≡ true → {out : StepOut} → IsMadeOf act next at out → IsPlainOut next out
plain_made act next at h (IsMadeOf.failed may cause) = plain_fails next cause
plain_made act next at h IsMadeOf.went_on = record { silent = refl; unplaced = refl; quiet = refl; goes = refl; waits = refl }
plain_made act next at h (IsMadeOf.ended told) = plain_ends next told
plain_made act next at h (IsMadeOf.edited e edits are) = plain_on next edits
plain_made act next at h (IsMadeOf.made children makes) = plain_spawns next children (quiet_made act at h makes)
plain_made act next at h (IsMadeOf.called off verb asks) = absurd (true≢false (sym h ∙ off))
plain_made act next at h (IsMadeOf.placed off answer near place gives) = absurd (true≢false (sym h ∙ off))
plain_made act next at h (IsMadeOf.shut off region own server there) = absurd (true≢false (sym h ∙ off))

-- what such an act answers
pub plain_act : (act : Act) → is_plain act ≡ true → (next : ℕ) (at : StepIn) → IsPlainOut next (act_answer act next at)
plain_act act h next at = plain_made act next at h (made_of act next at)

-- an answer that is no failure
abbrev pub IsFine : StepOut → Type 0
IsFine out = failing out.answer ≡ None

pub fine_on : (next : ℕ) (edits : List Edit) → IsFine (gives (on_to next) edits)
fine_on next edits = done_or_on (next == no_row) told_is.Nothing next

fine_spawns : (next : ℕ) (children : List Child) → IsFine (spawns next children)
fine_spawns next [] = refl
fine_spawns next (child ∷ more) = refl

near_fine : (next : ℕ) (answer : Answer) → LeadsNear next answer → failing answer ≡ None
near_fine next (answer_is.More n) near = refl
near_fine next (answer_is.Done told) near = refl
near_fine next answer near = absurd near

fine_made : (act : Act) (next : ℕ) (at : StepIn) → can_fail act ≡ false → {out : StepOut} → IsMadeOf act next at out → IsFine out
fine_made act next at c (IsMadeOf.failed may cause) = absurd (true≢false (sym may ∙ c))
fine_made act next at c (IsMadeOf.edited e edits are) = fine_on next edits
fine_made act next at c (IsMadeOf.made children makes) = fine_spawns next children
fine_made act next at c (IsMadeOf.placed off answer near place gives) = near_fine next answer near
fine_made act next at c other = refl

-- who can't fail answers no failure
pub fine_able : (act : Act) → can_fail act ≡ false → (next : ℕ) (at : StepIn) → IsFine (act_answer act next at)
fine_able act c next at = fine_made act next at c (made_of act next at)

-- a plain act fails itself only where it is a check
fails_checked : (act : Act) → is_plain act ≡ true → can_fail act ≡ is_check act
fails_checked act_is.SettleLayout h = absurd (false≢true h)
fails_checked act h = refl

-- such an act fails only where it is a check
pub fine_act : (act : Act) → is_plain act ≡ true → is_check act ≡ false → (next : ℕ) (at : StepIn) → IsFine (act_answer act next at)
fine_act act h c next at = fine_able act (fails_checked act h ∙ c) next at

neither : (a b : Bool) → not (a || b) ≡ true → (a ≡ false) × (b ≡ false)
neither false false h = (refl, refl)
neither false true h = absurd (false≢true h)
neither true b h = absurd (false≢true h)

-- none of the children is of a sort, where neither a transit nor a quiet one is
module _ (test : Args → Bool) (transit : (region : Region) (goal : Goal) → test (args_are.Transit region goal None) ≡ false) (quiet_one : (args : Args) → not (is_caller args || is_high args) ≡ true → test args ≡ false) where
  no_transit : (ids : List ℕ) (table : TableName) (goal : Goal) (more : List Args) → ((i : ℕ) (args : Args) → slice_get more i ≡ Some args → test args ≡ false) → (i : ℕ) (args : Args) → slice_get (map (λ id. args_are.Transit (record { table = table; id = id }) goal None) ids ++ more) i ≡ Some args → test args ≡ false
  no_transit [] table goal more each i args is = each i args is
  no_transit (id ∷ ids) table goal more each zero args is = ap test (sym (same_Some _ args is)) ∙ transit (record { table = table; id = id }) goal
  no_transit (id ∷ ids) table goal more each (suc i) args is = no_transit ids table goal more each i args is

  none_such : (children : List Child) → all_quiet children ≡ true → (i : ℕ) (args : Args) → slice_get (args_in children) i ≡ Some args → test args ≡ false
  none_such [] quiet i args is = absurd (none-some args is)
  none_such (child_is.Transits table ids goal ∷ more) quiet i args is = no_transit ids table goal (args_in more) (λ j a g. none_such more quiet j a g) i args is
  none_such (child_is.One own ∷ more) quiet zero args is = ap test (sym (same_Some own args is)) ∙ quiet_one own (and_parts (not (is_caller own || is_high own)) (all_quiet more) quiet).0
  none_such (child_is.One own ∷ more) quiet (suc i) args is = none_such more (and_parts (not (is_caller own || is_high own)) (all_quiet more) quiet).1 i args is

-- none of the children is one that calls a region server
pub quiet_args : (children : List Child) → all_quiet children ≡ true → (i : ℕ) (args : Args) → slice_get (args_in children) i ≡ Some args → is_caller args ≡ false
quiet_args = none_such is_caller (λ region goal. refl) (λ args quiet. (neither (is_caller args) (is_high args) quiet).0)

-- nor what only roots are
pub quiet_low : (children : List Child) → all_quiet children ≡ true → (i : ℕ) (args : Args) → slice_get (args_in children) i ≡ Some args → is_high args ≡ false
quiet_low = none_such is_high (λ region goal. refl) (λ args quiet. (neither (is_caller args) (is_high args) quiet).1)
