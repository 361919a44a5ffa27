-- Journals that are played by a script: a turn says who goes on, and what is answered then is computed. One test says that
-- all turns meet their rules.
use Rattle.std.proofs.Common.{◌≡◌, ℕ, zero, suc, List, [], ◌∷◌, ◌++◌, Option, Some, None, Bool, true, false, not, ◌==◌, ◌&&◌, ◌||◌, ◌+◌, ◌≤◌, ◌∙◌, is_some, is_none, nat_le, refl, sym, subst, inl, inr}
use Rattle.std.proofs.lemmas.Bool.{and_parts, eqb-true, false≢true, leb-true, not-true, or_cases}
use Rattle.std.proofs.lemmas.Option.{same_Some}
use Rattle.hm_names.specs.Server.{Server}
use Rattle.hm_names.specs.declared.nonce.Nonce.{Nonce}
use Rattle.hm_names.specs.declared.table.TableName.{TableName}
use Rattle.hm_data.specs.declared.call.Told.{Told}
use Rattle.hm_data.specs.declared.call.Told.TheVariants as told_is
use Rattle.hm_data.specs.declared.call.Verb.{Verb}
use Rattle.hm_data.specs.declared.entry.Entry.TheVariants as entry_is
use Rattle.hm_data.specs.declared.record.Phase.{Phase}
use Rattle.hm_data.specs.declared.record.Phase.TheVariants as phase_is
use Rattle.hm_data.specs.declared.request.Request.{Request}
use Rattle.hm_data.specs.declared.step.StepOut.{StepOut}
use Rattle.hm_model.specs.Answers.{report_of}
use Rattle.hm_model.specs.Fleet.{has_newer, has_older_live, is_live}
use Rattle.hm_model.specs.Inputs.{IsEvaluated, answers, fenced_if, undoes}
use Rattle.hm_model.specs.Journal.{Past}
use Rattle.hm_model.specs.Kinds.{table_of_request}
use Rattle.hm_model.specs.Nonces.{by_nonce}
use Rattle.hm_model.specs.Phase.{ended, phase}
use Rattle.hm_model.specs.Picks.{is_pick_right, needs_server}
use Rattle.hm_model.specs.Procedures.{latest, left_to_undo}
use Rattle.hm_model.specs.Reports.{fits_verb, verb_of}
use Rattle.hm_model.specs.Requests.{StaysWithin, wrong_in}
use Rattle.hm_model.specs.Rest.{IsAnswered, IsReady}
use Rattle.hm_model.specs.Tree.{Node, drawn, new_ids, node_of, root_of}
use Rattle.hm_model.specs.Undo.{Undoable}
use Rattle.hm_model.specs.Whereabouts.{called_by}
use Rattle.hm_model.proofs.ByHand.{pid}
use Rattle.hm_model.proofs.Freed.{is_freed}
use Rattle.hm_model.proofs.Played.{IsPlayed}

-- what comes next: a step of a procedure with its pick, the undo of a root's latest step, the answer to a call, a request
-- under a number of its own, a server that comes up, one that goes down
pub data Turn : Type 0 where
  steps : ℕ → Option Server → Turn
  goes_back : ℕ → Turn
  tells : ℕ → Told → Turn
  asks : ℕ → Request → Turn
  comes : Server → Turn
  falls : Server → Turn

-- so many steps of a procedure that need no server
abbrev pub times : ℕ → ℕ → List Turn
times zero p = []
times (suc n) p = steps p None ∷ times n p

-- a procedure calls, is answered, and ends
abbrev pub calls : ℕ → Told → List Turn
calls p told = steps p None ∷ tells p told ∷ steps p None ∷ []

-- a transit opens its region at a server, by a call
abbrev pub opens : ℕ → Server → ℕ → List Turn
opens p server call = steps p (Some server) ∷ steps p None ∷ calls call told_is.Opened ++ steps p None ∷ []

-- a transit closes its region, by a call
abbrev pub closes : ℕ → ℕ → List Turn
closes p call = steps p None ∷ calls call told_is.Closed ++ steps p None ∷ []

abbrev nonce : ℕ → Nonce
nonce number = record { group = 1; number = number }

-- what the handler of a procedure answers at its next call, where the procedure is there
abbrev answer_in : Past → ℕ → Option Server → Option Node → Option StepOut
answer_in J p pick None = None
answer_in J p pick (Some node) = answers J p node pick

-- with a step, where it has an answer
abbrev stepped : Past → ℕ → Option Server → Option StepOut → Past
stepped J p pick None = J
stepped J p pick (Some out) = entry_is.Step (pid p) pick out ∷ J

-- without a step, where there is one and an answer
abbrev unstepped : Past → Option Undoable → Option StepOut → Past
unstepped J (Some step) (Some out) = entry_is.Undo (pid step.pid) step.row out ∷ J
unstepped J step out = J

-- the journal after a turn
abbrev after : Past → Turn → Past
after J (steps p pick) = stepped J p pick (answer_in J p pick (node_of J p))
after J (goes_back r) = unstepped J (latest (left_to_undo J r)) (answer_in J r None (node_of J r))
after J (tells p told) = entry_is.Report (pid p) told ∷ J
after J (asks number request) = entry_is.Submit (nonce number) request ∷ J
after J (comes server) = entry_is.Up server ∷ J
after J (falls server) = entry_is.Down server ∷ J

-- and after a script
abbrev pub play : Past → List Turn → Past
play J [] = J
play J (turn ∷ more) = play (after J turn) more

-- a procedure in this phase may make a step
abbrev goes_on : Past → ℕ → Node → Phase → Bool
goes_on J p node phase_is.Runnable = true
goes_on J p node phase_is.Awaiting = is_some (report_of J p) || fenced_if J (called_by node.args)
goes_on J p node other = false

abbrev step_fits : Past → ℕ → Option Server → Option Node → Bool
step_fits J p pick None = false
step_fits J p pick (Some node) = goes_on J p node (phase J p node) && (is_freed J p && is_pick_right J p node pick (needs_server J p node))

abbrev undo_fits : Past → ℕ → Option Node → Option Undoable → Bool
undo_fits J r (Some root) (Some step) = undoes J r root && (root_of J step.pid == r)
undo_fits J r root step = false

abbrev told_fits : Told → Option Verb → Bool
told_fits told None = false
told_fits told (Some verb) = fits_verb verb told

abbrev stays_within : Past → Request → Option TableName → Bool
stays_within J request None = true
stays_within J request (Some table) = nat_le (drawn J table + new_ids request) 4096

-- a turn meets its rules
abbrev fits : Past → Turn → Bool
fits J (steps p pick) = step_fits J p pick (node_of J p)
fits J (goes_back r) = undo_fits J r (node_of J r) (latest (left_to_undo J r))
fits J (tells p told) = told_fits told (verb_of J p) && (is_none (report_of J p) && not (ended J p))
fits J (asks number request) = is_none (wrong_in request) && (is_none (by_nonce J (nonce number)) && stays_within J request (table_of_request request))
fits J (comes server) = not (has_newer J server) && not (has_older_live J server)
fits J (falls server) = is_live J server

-- each turn of a script does
abbrev pub all_fit : Past → List Turn → Bool
all_fit J [] = true
all_fit J (turn ∷ more) = fits J turn && all_fit (after J turn) more

pub has_none : {A : Type 0} (o : Option A) → is_none o ≡ true → o ≡ None
has_none None none = refl
has_none (Some x) none = absurd (false≢true none)

ready : (J : Past) (p : ℕ) (node : Node) (now : Phase) → phase J p node ≡ now → goes_on J p node now ≡ true → IsReady J p node
ready J p node phase_is.Runnable is goes = inl is
ready J p node phase_is.Awaiting is goes = inr (is, answered)
  where
    reported : (o : Option Told) → report_of J p ≡ o → is_some o ≡ true → IsAnswered J p node
    reported None e some = absurd (false≢true some)
    reported (Some told) e some = inl (λ none. cc (e, none))

    answered : IsAnswered J p node
    answered = elim (or_cases (is_some (report_of J p)) (fenced_if J (called_by node.args)) goes) [
      | inl some ↦ reported (report_of J p) refl some
      | inr fenced ↦ inr fenced
    ]
ready J p node other is goes = absurd (false≢true goes)

step_played : (J : Past) (p : ℕ) (pick : Option Server) → IsPlayed J → (n : Option Node) → node_of J p ≡ n → step_fits J p pick n ≡ true → IsPlayed (stepped J p pick (answer_in J p pick n))
step_played J p pick played None is fit = absurd (false≢true fit)
step_played J p pick played (Some node) is fit = by (answers J p node pick) refl
  where
    by : (o : Option StepOut) → answers J p node pick ≡ o → IsPlayed (stepped J p pick o)
    by None e = played
    by (Some out) e =
        let goes = and_parts (goes_on J p node (phase J p node)) _ fit in
        let free = and_parts (is_freed J p) _ goes.1 in
        (played, (node, is, ready J p node (phase J p node) refl goes.0, free.0, free.1, e))

undo_played : (J : Past) (r : ℕ) → IsPlayed J → (n : Option Node) → node_of J r ≡ n → (last : Option Undoable) → latest (left_to_undo J r) ≡ last → undo_fits J r n last ≡ true → IsPlayed (unstepped J last (answer_in J r None n))
undo_played J r played (Some root) is (Some step) last fit = by (answers J r root None) refl
  where
    its : (undoes J r root ≡ true) × ((root_of J step.pid == r) ≡ true)
    its = and_parts (undoes J r root) (root_of J step.pid == r) fit

    taken : (out : StepOut) → answers J r root None ≡ Some out → (q : ℕ) → r ≡ q →
        ((top : Node) × (node_of J q ≡ Some top) × (undoes J q top ≡ true) × (own : Undoable) × (latest (left_to_undo J q) ≡ Some own) × (own.pid ≡ step.pid) × (own.row ≡ step.row)) × IsEvaluated J q None out
    taken out e q same = subst (λ q. ((top : Node) × (node_of J q ≡ Some top) × (undoes J q top ≡ true) × (own : Undoable) × (latest (left_to_undo J q) ≡ Some own) × (own.pid ≡ step.pid) × (own.row ≡ step.row)) × IsEvaluated J q None out) same
        ((root, is, its.0, step, last, refl, refl), (root, is, e))

    by : (o : Option StepOut) → answers J r root None ≡ o → IsPlayed (unstepped J (Some step) o)
    by None e = played
    by (Some out) e = (played, taken out e (root_of J step.pid) (sym (eqb-true (root_of J step.pid) r its.1)))
undo_played J r played n is last e fit = absurd (false≢true fit)

told_played : (J : Past) (p : ℕ) (told : Told) → IsPlayed J → (v : Option Verb) → verb_of J p ≡ v → told_fits told v ≡ true → report_of J p ≡ None → ended J p ≡ false → IsPlayed (entry_is.Report (pid p) told ∷ J)
told_played J p told played None is fit none runs = absurd (false≢true fit)
told_played J p told played (Some verb) is fit none runs = (played, (verb, is, none, runs, fit))

within : (J : Past) (request : Request) (t : Option TableName) → table_of_request request ≡ t → stays_within J request t ≡ true → StaysWithin J request
within J request None is few own e = cc (is, e)
within J request (Some table) is few own e = subst (λ t. drawn J t + new_ids request ≤ 4096) (same_Some table own (sym is ∙ e)) (leb-true (drawn J table + new_ids request) 4096 few)

turn_played : (turn : Turn) (J : Past) → IsPlayed J → fits J turn ≡ true → IsPlayed (after J turn)
turn_played (steps p pick) J played fit = step_played J p pick played (node_of J p) refl fit
turn_played (goes_back r) J played fit = undo_played J r played (node_of J r) refl (latest (left_to_undo J r)) refl fit
turn_played (tells p told) J played fit =
    let fits = and_parts (told_fits told (verb_of J p)) _ fit in
    let calm = and_parts (is_none (report_of J p)) (not (ended J p)) fits.1 in
    told_played J p told played (verb_of J p) refl fits.0 (has_none (report_of J p) calm.0) (not-true (ended J p) calm.1)
turn_played (asks number request) J played fit =
    let right = and_parts (is_none (wrong_in request)) _ fit in
    let new = and_parts (is_none (by_nonce J (nonce number))) _ right.1 in
    (played, (has_none (wrong_in request) right.0, inr (has_none (by_nonce J (nonce number)) new.0), within J request (table_of_request request) refl new.1))
turn_played (comes server) J played fit =
    let first = and_parts (not (has_newer J server)) (not (has_older_live J server)) fit in
    (played, (not-true (has_newer J server) first.0, not-true (has_older_live J server) first.1))
turn_played (falls server) J played fit = (played, fit)

-- a script whose turns meet their rules is played
pub played_on : (script : List Turn) (J : Past) → IsPlayed J → all_fit J script ≡ true → IsPlayed (play J script)
played_on [] J played fit = played
played_on (turn ∷ more) J played fit =
    let both = and_parts (fits J turn) (all_fit (after J turn) more) fit in
    played_on more (after J turn) (turn_played turn J played both.0) both.1
