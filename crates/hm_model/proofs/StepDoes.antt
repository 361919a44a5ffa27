-- What a step does, by its procedure's kind.
use Rattle.std.proofs.Common.{◌≡◌, ◌≢◌, ℕ, zero, suc, List, [], ◌∷◌, Bool, true, false, not, ◌&&◌, Option, Some, None, is_some, refl, ap, sym, ◌∙◌, subst, inl, inr, ◌⊎◌, slice_get}
use Rattle.std.proofs.lemmas.Bool.{false≢true, true≢false}
use Rattle.std.proofs.lemmas.Option.{none-some, same_Some}
use Rattle.hm_names.specs.Region.{Region}
use Rattle.hm_names.specs.Server.{Server}
use Rattle.hm_data.specs.declared.act.Act.{Act}
use Rattle.hm_data.specs.declared.act.Act.TheVariants as act_is
use Rattle.hm_data.specs.declared.answer.Answer.{Answer}
use Rattle.hm_data.specs.declared.answer.Answer.TheVariants as answer_is
use Rattle.hm_data.specs.declared.answer.Cause.{Cause}
use Rattle.hm_data.specs.declared.answer.Cause.TheVariants as cause_is
use Rattle.hm_data.specs.declared.args.Args.{Args}
use Rattle.hm_data.specs.declared.args.Args.TheVariants as args_are
use Rattle.hm_data.specs.declared.args.Child.{Child}
use Rattle.hm_data.specs.declared.args.Child.TheVariants as child_is
use Rattle.hm_data.specs.declared.call.Told.{Told}
use Rattle.hm_data.specs.declared.call.Told.TheVariants as told_is
use Rattle.hm_data.specs.declared.call.Verb.{Verb}
use Rattle.hm_data.specs.declared.catalog.CatKey.TheVariants as key_is
use Rattle.hm_data.specs.declared.place.Goal.{Goal}
use Rattle.hm_data.specs.declared.place.Goal.TheVariants as goal_is
use Rattle.hm_data.specs.declared.place.Place.{Place}
use Rattle.hm_data.specs.declared.request.Request.TheVariants as request_is
use Rattle.hm_data.specs.declared.sheet.Row.{Row}
use Rattle.hm_data.specs.declared.step.StepIn.{StepIn}
use Rattle.hm_data.specs.declared.step.StepOut.{StepOut}
use Rattle.hm_model.specs.Acts.{act_answer}
use Rattle.hm_model.specs.Answers.{is_stop, last_answer, no_row, row_after, row_of}
use Rattle.hm_model.specs.Catalog.{row_at}
use Rattle.hm_model.specs.Checks.{region_ready}
use Rattle.hm_model.specs.Evaluation.{is_cut_off, row_answer}
use Rattle.hm_model.specs.Journal.{Past}
use Rattle.hm_model.specs.Kinds.{first_row_of, kind_of}
use Rattle.hm_model.specs.Lists.{exact_rows}
use Rattle.hm_model.specs.Outs.{checked, ends_with, given, goes_on, places, spawns, fails, gives}
use Rattle.hm_model.specs.Reports.{verb_of}
use Rattle.hm_model.specs.Inputs.{step_input}
use Rattle.hm_model.specs.TransitActs.{behind_close, candidate, close_at, close_or_go, is_open, is_placed, is_state, is_told, lost_if, may_open_in, opened_or_not, told_place}
use Rattle.hm_model.specs.Tree.{Node, args_in}
use Rattle.hm_model.specs.Views.{region_of}
use Rattle.hm_model.specs.Wanted.{goal_in}
use Rattle.hm_model.specs.Whereabouts.{moved_by}
use Rattle.hm_model.specs.Verbs.{verb_in}
use Rattle.hm_model.proofs.CallSteps.{CallOut, CallReady, caller_step}
use Rattle.hm_model.proofs.ExactRows.{IsLed, exact_is, led_row, row_passes}
use Rattle.hm_model.proofs.LegalSteps.{ReadyBy, StepFacts}
use Rattle.hm_model.proofs.PlainActs.{ChildrenWait, GoesTo, IsPlainOut, is_caller, is_plain, is_high, plain_act, plain_fails, quiet_args, quiet_low}
use Rattle.hm_model.proofs.Small.{cons_nil}

-- an answer that a step may give
abbrev pub IsStepAnswer : Answer → Type 0
IsStepAnswer answer_is.Undone = ⊥
IsStepAnswer answer = Unit {0}

-- children are none, or one procedure that calls a region server
abbrev pub IsOneCall : List Child → Type 0
IsOneCall children = (children ≡ []) ⊎ ((made : Args) × (children ≡ child_is.One made ∷ []) × (is_caller made ≡ true))

-- what a transit may answer
abbrev pub GoesNear : ℕ → Answer → Type 0
GoesNear next (answer_is.More n) = (n ≡ next) ⊎ (n ≡ 0)
GoesNear next (answer_is.Wait n) = n ≡ next
GoesNear next (answer_is.Done told) = Unit {0}
GoesNear next (answer_is.Fail cause) = Unit {0}
GoesNear next answer = ⊥

pub record IsMoveOut (next : ℕ) (out : StepOut) : Type 0 where
  pub editless : out.edits ≡ []
  pub near : GoesNear next out.answer
  pub silent : out.call ≡ None
  pub sound : IsStepAnswer out.answer
  pub waits : ChildrenWait out.answer out.children
  pub childs : IsOneCall out.children

move_gives : (next : ℕ) (answer : Answer) (place : Option Place) → GoesNear next answer → IsStepAnswer answer → ChildrenWait answer [] → IsMoveOut next (places answer place)
move_gives next answer place near sound waits = record { editless = refl; near = near; silent = refl; sound = sound; waits = waits; childs = inl refl }

move_on : (next : ℕ) → IsMoveOut next (goes_on next)
move_on next = by (Rattle.std.specs.Prelude.nat_eq next no_row)
  where
    by : (b : Bool) → IsMoveOut next (gives (Rattle.std.proofs.Common.cond b (answer_is.Done told_is.Nothing) (answer_is.More next)) [])
    by true = record { editless = refl; near = tt; silent = refl; sound = tt; waits = refl; childs = inl refl }
    by false = record { editless = refl; near = inl refl; silent = refl; sound = tt; waits = refl; childs = inl refl }

pub move_fails : (next : ℕ) (cause : Cause) → IsMoveOut next (fails cause)
move_fails next cause = record { editless = refl; near = tt; silent = refl; sound = tt; waits = refl; childs = inl refl }

move_ends : (next : ℕ) (told : Told) → IsMoveOut next (ends_with told)
move_ends next told = record { editless = refl; near = tt; silent = refl; sound = tt; waits = refl; childs = inl refl }

move_given : {A : Type 0} (part : Option A) (next : ℕ) (act : A → StepOut) → ((x : A) → IsMoveOut next (act x)) → IsMoveOut next (given part next act)
move_given None next act each = move_on next
move_given (Some part) next act each = each part

move_spawn : (next : ℕ) (made : Args) → is_caller made ≡ true → IsMoveOut next (spawns next (child_is.One made ∷ []))
move_spawn next made caller = record { editless = refl; near = refl; silent = refl; sound = tt; waits = tt; childs = inr (made, refl, caller) }

move_candidate : (next : ℕ) (may : Bool) (place : Place) (fenced : Bool) (pick : Option Server) → IsMoveOut next (candidate next may place fenced pick)
move_candidate next false place fenced pick = move_gives next (answer_is.Done told_is.Nothing) (lost_if (is_placed place && fenced)) tt tt refl
move_candidate next true place fenced pick = by (is_open place fenced)
  where
    by : (b : Bool) → IsMoveOut next (Rattle.std.proofs.Common.cond b (ends_with told_is.Nothing) (places (answer_is.More next) (Some (record { state = Rattle.hm_data.specs.declared.place.RegionState.TheVariants.Opening; server = pick }))))
    by true = move_ends next told_is.Nothing
    by false = record { editless = refl; near = inl refl; silent = refl; sound = tt; waits = refl; childs = inl refl }

move_confirm : (next : ℕ) (server : Option Server) (b : Bool) → IsMoveOut next (opened_or_not next server b)
move_confirm next server true = record { editless = refl; near = tt; silent = refl; sound = tt; waits = refl; childs = inl refl }
move_confirm next server false = record { editless = refl; near = inl refl; silent = refl; sound = tt; waits = refl; childs = inl refl }

move_behind : (next : ℕ) (goal : Goal) (told : Told) (place : Option Place) → IsMoveOut next (places (behind_close goal told) place)
move_behind next goal_is.Unassign told place = record { editless = refl; near = tt; silent = refl; sound = tt; waits = refl; childs = inl refl }
move_behind next goal told place = record { editless = refl; near = inr refl; silent = refl; sound = tt; waits = refl; childs = inl refl }

move_close : (next : ℕ) (goal : Goal) (region : Region) (place : Place) (b : Bool) → IsMoveOut next (close_or_go next goal region place b)
move_close next goal region place true = move_given place.server next (close_at next region) (λ server. record { editless = refl; near = refl; silent = refl; sound = tt; waits = tt; childs = inr (args_are.CloseCall region server, refl, refl) })
move_close next goal region place false = move_behind next goal told_is.Nothing (lost_if (is_state Rattle.hm_data.specs.declared.place.RegionState.TheVariants.Opened place))

move_checked : (next : ℕ) (cause : Option Cause) → IsMoveOut next (checked next cause)
move_checked next None = record { editless = refl; near = inl refl; silent = refl; sound = tt; waits = refl; childs = inl refl }
move_checked next (Some cause) = move_fails next cause

-- the acts of transits
abbrev pub is_moving : Act → Bool
is_moving act_is.GetAssignCandidate = true
is_moving act_is.Open = true
is_moving act_is.ConfirmOpened = true
is_moving act_is.Close = true
is_moving act_is.ConfirmClosed = true
is_moving act_is.CheckMove = true
is_moving act = false

pub move_act : (act : Act) → is_moving act ≡ true → (next : ℕ) (at : StepIn) → IsMoveOut next (act_answer act next at)
move_act act_is.GetAssignCandidate h next at = move_given (region_of at.args) next (λ region. candidate next (may_open_in at.rows region) (told_place at.place) at.fenced at.pick) (λ region. move_candidate next (may_open_in at.rows region) (told_place at.place) at.fenced at.pick)
move_act act_is.Open h next at = move_given (region_of at.args) next (λ region. given ((told_place at.place).server) next (λ server. spawns next (child_is.One (args_are.AssignCall region server) ∷ []))) (λ region. move_given ((told_place at.place).server) next (λ server. spawns next (child_is.One (args_are.AssignCall region server) ∷ [])) (λ server. move_spawn next (args_are.AssignCall region server) refl))
move_act act_is.ConfirmOpened h next at = move_confirm next (told_place at.place).server (is_told told_is.Opened at.ends)
move_act act_is.Close h next at = move_given (region_of at.args) next (λ region. close_or_go next (goal_in at.args) region (told_place at.place) (is_open (told_place at.place) at.fenced)) (λ region. move_close next (goal_in at.args) region (told_place at.place) (is_open (told_place at.place) at.fenced))
move_act act_is.ConfirmClosed h next at = move_behind next (goal_in at.args) told_is.Closed _
move_act act_is.CheckMove h next at = move_given (region_of at.args) next (λ region. checked next (region_ready (row_at at.rows (key_is.Table region.table)) (row_at at.rows (key_is.Region region)))) (λ region. move_checked next (region_ready (row_at at.rows (key_is.Table region.table)) (row_at at.rows (key_is.Region region))))
move_act act h next at = absurd (false≢true h)

-- at a row whose act keeps to its shape, so does the answer
pub row_by : (P : StepOut → Type 0) (row : Row) (at : StepIn) → ((cause : Cause) → P (fails cause)) → P (act_answer row.act row.next at) → P (row_answer row at)
row_by P row at cut on = by (is_cut_off row at)
  where
    by : (b : Bool) → P (Rattle.std.proofs.Common.cond b (fails cause_is.Aborted) (act_answer row.act row.next at))
    by true = cut cause_is.Aborted
    by false = on

-- which child a procedure may have: a transit only one that calls a region server, one that makes a call none, all others
-- only others
abbrev pub bears_by : Bool → Bool → Bool → Bool
bears_by true calls caller = caller
bears_by false true caller = false
bears_by false false caller = not caller

abbrev pub bears : Args → Args → Bool
bears up made = bears_by (is_some (moved_by up)) (is_some (verb_in up)) (is_caller made)

abbrev pub IsExact : Args → Type 0
IsExact args = (first : Row) × (more : List Row) × (exact_rows (kind_of args) ≡ first ∷ more)

-- the parts into which the kinds fall
pub data Part (args : Args) : Type 0 where
  lined : exact_rows (kind_of args) ≡ [] → moved_by args ≡ None → verb_in args ≡ None → Part args
  crash : kind_of args ≡ 11 → moved_by args ≡ None → verb_in args ≡ None → Part args
  moves : (r : Region) → moved_by args ≡ Some r → kind_of args ≡ 10 → verb_in args ≡ None → Part args
  calls : (verb : Verb) → verb_in args ≡ Some verb → moved_by args ≡ None → IsExact args → Part args

pub part_of : (args : Args) → Part args
part_of (args_are.Root (request_is.CreateNamespace ns) first) = lined refl refl refl
part_of (args_are.Root (request_is.DropNamespace ns) first) = lined refl refl refl
part_of (args_are.Root (request_is.CreateTable table keys) first) = lined refl refl refl
part_of (args_are.Root (request_is.DeleteTable table) first) = lined refl refl refl
part_of (args_are.Root (request_is.EnableTable table) first) = lined refl refl refl
part_of (args_are.Root (request_is.DisableTable table) first) = lined refl refl refl
part_of (args_are.Root (request_is.ModifyTable table version) first) = lined refl refl refl
part_of (args_are.Root (request_is.SplitRegion region key) first) = lined refl refl refl
part_of (args_are.Root (request_is.MergeRegions regions) first) = lined refl refl refl
part_of (args_are.Root (request_is.Move region to) first) = moves region refl refl refl
part_of (args_are.Transit region goal to) = moves region refl refl refl
part_of (args_are.Crash server) = crash refl refl refl
part_of (args_are.AddRegions table first bounds) = lined refl refl refl
part_of (args_are.DropRegions table ids) = lined refl refl refl
part_of args = calls _ refl refl (_, _, refl)

-- what a step does
pub record Does (J : Past) (p : ℕ) (args : Args) (was : Option Answer) (rows : List Row) (out : StepOut) : Type 0 where
  pub sound : IsStepAnswer out.answer
  pub waits : ChildrenWait out.answer out.children
  pub bearing : (i : ℕ) (made : Args) → slice_get (args_in out.children) i ≡ Some made → bears args made ≡ true
  pub low : (i : ℕ) (made : Args) → slice_get (args_in out.children) i ≡ Some made → is_high made ≡ false
  pub single : (r : Region) → moved_by args ≡ Some r → (i : ℕ) (made : Args) → slice_get (args_in out.children) i ≡ Some made → i ≡ 0
  pub led : exact_rows (kind_of args) ≡ [] → is_stop out.answer ≡ false → IsLed (kind_of args) rows (row_after (first_row_of args) (Some out.answer))
  pub calls : (verb : Verb) → verb_in args ≡ Some verb → CallOut J p args verb was out
  pub editless : (r : Region) → moved_by args ≡ Some r → out.edits ≡ []
  pub silent : verb_in args ≡ None → out.call ≡ None
  pub unplaced : moved_by args ≡ None → out.place ≡ None

led_next : (kind : ℕ) (rows : List Row) (next first : ℕ) → IsLed kind rows next → (answer : Answer) → GoesTo next answer → is_stop answer ≡ false → IsLed kind rows (row_after first (Some answer))
led_next kind rows next first led (answer_is.Await n) goes runs = absurd goes
led_next kind rows next first led (answer_is.Done told) goes runs = absurd (true≢false runs)
led_next kind rows next first led (answer_is.Fail cause) goes runs = absurd (true≢false runs)
led_next kind rows next first led answer_is.Undone goes runs = absurd goes
led_next kind rows next first led answer goes runs = subst (IsLed kind rows) (sym goes) led

sound_goes : (next : ℕ) (answer : Answer) → GoesTo next answer → IsStepAnswer answer
sound_goes next answer_is.Undone goes = goes
sound_goes next answer goes = tt

no_args : (i : ℕ) (made : Args) (children : List Child) → children ≡ [] → slice_get (args_in children) i ≡ Some made → ⊥
no_args i made children none is = none-some made (ap (λ c. slice_get (args_in c) i) (sym none) ∙ is)

one_arg : (i : ℕ) (made own : Args) (children : List Child) → children ≡ child_is.One own ∷ [] → slice_get (args_in children) i ≡ Some made → (i ≡ 0) × (own ≡ made)
one_arg i made own children one is = by i (ap (λ c. slice_get (args_in c) i) (sym one) ∙ is)
  where
    by : (i : ℕ) → slice_get (own ∷ []) i ≡ Some made → (i ≡ 0) × (own ≡ made)
    by zero is = (refl, same_Some own made is)
    by (suc i) is = absurd (none-some made is)

caller_low : (args : Args) → is_caller args ≡ true → is_high args ≡ false
caller_low (args_are.AssignCall region server) h = refl
caller_low (args_are.CloseCall region server) h = refl
caller_low args h = absurd (false≢true h)

module _ (J : Past) (p : ℕ) (args : Args) (was : Option Answer) (rows : List Row) (out : StepOut) where
  plain_does : (next : ℕ) → IsPlainOut next out → (exact_rows (kind_of args) ≡ [] → IsLed (kind_of args) rows next) → moved_by args ≡ None → verb_in args ≡ None → Does J p args was rows out
  plain_does next plain led unmoved uncalled = record {
    sound = sound_goes next out.answer plain.goes;
    waits = plain.waits;
    bearing = λ i made is. ap (λ o. bears_by (is_some o) (is_some (verb_in args)) (is_caller made)) unmoved ∙ ap (λ o. bears_by false (is_some o) (is_caller made)) uncalled ∙ ap not (quiet_args out.children plain.quiet i made is);
    low = λ i made is. quiet_low out.children plain.quiet i made is;
    single = λ r m i made is. absurd (none-some r (sym unmoved ∙ m));
    led = λ lined runs. led_next (kind_of args) rows next (first_row_of args) (led lined) out.answer plain.goes runs;
    calls = λ verb v. absurd (none-some verb (sym uncalled ∙ v));
    editless = λ r m. absurd (none-some r (sym unmoved ∙ m));
    silent = λ e. plain.silent;
    unplaced = λ e. plain.unplaced;
  }

  move_does : (r : Region) → moved_by args ≡ Some r → kind_of args ≡ 10 → verb_in args ≡ None → (next : ℕ) → IsMoveOut next out → Does J p args was rows out
  move_does r m kind uncalled next move = record {
    sound = move.sound;
    waits = move.waits;
    bearing = λ i made is. ap (λ o. bears_by (is_some o) (is_some (verb_in args)) (is_caller made)) m ∙ elim move.childs [
      | inl none ↦ absurd (no_args i made out.children none is)
      | inr one ↦ ap is_caller (sym (one_arg i made one.0 out.children one.1 is).1) ∙ one.2
    ];
    low = λ i made is. elim move.childs [
      | inl none ↦ absurd (no_args i made out.children none is)
      | inr one ↦ ap is_high (sym (one_arg i made one.0 out.children one.1 is).1) ∙ caller_low one.0 one.2
    ];
    single = λ s e i made is. elim move.childs [
      | inl none ↦ absurd (no_args i made out.children none is)
      | inr one ↦ (one_arg i made one.0 out.children one.1 is).0
    ];
    led = λ lined runs. absurd (ten_not (sym (ap exact_rows kind) ∙ lined));
    calls = λ verb v. absurd (none-some verb (sym uncalled ∙ v));
    editless = λ s e. move.editless;
    silent = λ e. move.silent;
    unplaced = λ e. absurd (none-some r (sym e ∙ m));
  }
    where
      ten_not : exact_rows 10 ≡ [] → ⊥
      ten_not e = cc

  call_does : (verb : Verb) → verb_in args ≡ Some verb → moved_by args ≡ None → IsExact args → CallOut J p args verb was out → Does J p args was rows out
  call_does verb v unmoved exact call = record {
    sound = elim call.does [
      | inl asks ↦ subst IsStepAnswer (sym asks.2) tt
      | inr ends ↦ elim ends.1 [
        | inl gone ↦ subst IsStepAnswer (sym gone.0) tt
        | inr other ↦ elim other [ inl told ↦ subst IsStepAnswer (sym told.1) tt | inr failed ↦ subst IsStepAnswer (sym failed.1) tt ]
      ]
    ];
    waits = none_wait out.answer;
    bearing = λ i made is. absurd (no_args i made out.children call.childless is);
    low = λ i made is. absurd (no_args i made out.children call.childless is);
    single = λ r m. absurd (none-some r (sym unmoved ∙ m));
    led = λ lined runs. absurd (cons_nil exact.0 exact.1 (sym exact.2 ∙ lined));
    calls = λ other w. subst (λ x. CallOut J p args x was out) (same_Some verb other (sym v ∙ w)) call;
    editless = λ r m. absurd (none-some r (sym unmoved ∙ m));
    silent = λ e. absurd (none-some verb (sym e ∙ v));
    unplaced = λ e. call.unplaced;
  }
    where
      none_wait : (answer : Answer) → ChildrenWait answer out.children
      none_wait (answer_is.Wait n) = tt
      none_wait answer = call.childless

-- how far a procedure that makes a call has come
abbrev pub CallerAt : Verb → Option Verb → Option Answer → Type 0
CallerAt verb called None = called ≡ None
CallerAt verb called (Some (answer_is.More n)) = ⊥
CallerAt verb called (Some (answer_is.Wait n)) = ⊥
CallerAt verb called (Some (answer_is.Await n)) = (n ≡ 1) × (called ≡ Some verb)
CallerAt verb called (Some (answer_is.Done told)) = Unit {0}
CallerAt verb called (Some (answer_is.Fail cause)) = Unit {0}
CallerAt verb called (Some answer_is.Undone) = Unit {0}

call_ready : (J : Past) (p : ℕ) (node : Node) (verb : Verb) (called : Option Verb) (was : Option Answer) → ReadyBy J p node was → CallerAt verb called was → CallReady J p node was
call_ready J p node verb called None ready at = inl refl
call_ready J p node verb called (Some (answer_is.More n)) ready at = absurd at
call_ready J p node verb called (Some (answer_is.Wait n)) ready at = absurd at
call_ready J p node verb called (Some (answer_is.Await n)) ready at = inr (ap (λ m. Some (answer_is.Await m)) at.0, ready)
call_ready J p node verb called (Some (answer_is.Done told)) ready at = absurd ready
call_ready J p node verb called (Some (answer_is.Fail cause)) ready at = absurd ready
call_ready J p node verb called (Some answer_is.Undone) ready at = absurd ready

-- the row of a kind of exact rows
pub exact_row_is : (J : Past) (p : ℕ) (pick : Option Server) (out : StepOut) (step : StepFacts J p pick out) (kind : ℕ) → kind_of step.node.args ≡ kind → (first : Row) (more : List Row) → exact_rows kind ≡ first ∷ more → slice_get (exact_rows kind) (row_of J p step.node) ≡ Some step.row
exact_row_is J p pick out step kind e first more is = ap (λ l. slice_get l (row_of J p step.node)) (is ∙ sym (exact_is step.sheet step.valid kind (step.of_kind ∙ e) first more is)) ∙ step.row_is

-- a legal step does what its kind does, where rows lead on and calls are in order
module _ (J : Past) (p : ℕ) (pick : Option Server) (out : StepOut) (step : StepFacts J p pick out)
    (led : exact_rows (kind_of step.node.args) ≡ [] → IsLed (kind_of step.node.args) step.sheet.rows (row_of J p step.node))
    (called : (verb : Verb) → verb_in step.node.args ≡ Some verb → CallerAt verb (verb_of J p) (last_answer J p)) where
  pub exact_row : IsExact step.node.args → slice_get (exact_rows (kind_of step.node.args)) (row_of J p step.node) ≡ Some step.row
  exact_row exact = exact_row_is J p pick out step (kind_of step.node.args) refl exact.0 exact.1 exact.2

  pub move_row : kind_of step.node.args ≡ 10 → slice_get (exact_rows 10) (row_of J p step.node) ≡ Some step.row
  move_row e = exact_row_is J p pick out step 10 e _ _ refl

  by_plain : is_plain step.row.act ≡ true → IsPlainOut step.row.next out
  by_plain plain = subst (IsPlainOut step.row.next) (sym step.out_is) (row_by (IsPlainOut step.row.next) step.row (step_input J p step.node pick) (λ c. plain_fails step.row.next c) (plain_act step.row.act plain step.row.next (step_input J p step.node pick)))

  pub does : Does J p step.node.args (last_answer J p) step.sheet.rows out
  does = elim (part_of step.node.args) [
    | lined exact unmoved uncalled ↦
        let on = led_row (kind_of step.node.args) step.sheet step.valid (row_of J p step.node) (led exact) step.row step.row_is in
        plain_does J p step.node.args (last_answer J p) step.sheet.rows out step.row.next (by_plain on.plain) (λ e. on.on) unmoved uncalled
    | crash kind unmoved uncalled ↦
        plain_does J p step.node.args (last_answer J p) step.sheet.rows out step.row.next (by_plain (row_passes (λ row. is_plain row.act) (exact_rows 11) refl (row_of J p step.node) step.row (exact_row_is J p pick out step 11 kind _ _ refl))) (λ e. absurd (eleven_not (sym (ap exact_rows kind) ∙ e))) unmoved uncalled
    | moves r m kind uncalled ↦
        let moving = row_passes (λ row. is_moving row.act) (exact_rows 10) refl (row_of J p step.node) step.row (move_row kind) in
        move_does J p step.node.args (last_answer J p) step.sheet.rows out r m kind uncalled step.row.next (subst (IsMoveOut step.row.next) (sym step.out_is) (row_by (IsMoveOut step.row.next) step.row (step_input J p step.node pick) (λ c. move_fails step.row.next c) (move_act step.row.act moving step.row.next (step_input J p step.node pick))))
    | calls verb v unmoved exact ↦
        call_does J p step.node.args (last_answer J p) step.sheet.rows out verb v unmoved exact
        (caller_step J p pick out step.row step.node.above step.node.root step.node.first step.node.args verb v (call_ready J p step.node verb (verb_of J p) (last_answer J p) step.ready (called verb v)) (exact_row exact) step.out_is)
  ]
    where
      eleven_not : exact_rows 11 ≡ [] → ⊥
      eleven_not e = cc
