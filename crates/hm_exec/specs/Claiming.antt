-- What claims and commits are answered, and what is left.
use Rattle.std.specs.Prelude.{◌≡◌, ◌≤◌, ◌⊎◌, ℕ, Result, Ok, Err, Option, Some, None}
use Rattle.hm_names.specs.Server.{Server}
use Rattle.hm_data.specs.declared.entry.Entry.{Entry}
use Rattle.hm_data.specs.declared.entry.Entry.TheVariants as entry_is
use Rattle.hm_data.specs.declared.step.StepIn.{StepIn}
use Rattle.hm_data.specs.declared.step.StepOut.{StepOut}
use Rattle.hm_data.specs.declared.step.Turn.{Turn}
use Rattle.hm_data.specs.declared.step.Turn.TheVariants as turn_is
use Rattle.hm_hall.specs.Recording.{Records}
use Rattle.hm_hall.specs.declared.fault.HallFault.{HallFault}
use Rattle.hm_hall.specs.declared.fault.HallFault.TheVariants as fault_is
use Rattle.hm_hall.specs.declared.taken.Given.{Given}
use Rattle.hm_hall.specs.declared.taken.Given.TheVariants as given_is
use Rattle.hm_hall.specs.declared.taken.Taken.{Taken}
use Rattle.hm_model.specs.Rest.{IsAvailable}
use Rattle.hm_model.specs.Editions.{editions, sheets_in}
use Rattle.hm_model.specs.Evaluation.{CanRun, answer_of}
use Rattle.hm_model.specs.Inputs.{input}
use Rattle.hm_model.specs.Journal.{Past}
use Rattle.hm_model.specs.Picks.{PicksRight}
use Rattle.hm_model.specs.Rules.{Allowed}
use Rattle.hm_model.specs.Tree.{Node, node_of}
use Rattle.hm_model.specs.Claims.{IsClaimedToo, Unclaims}
use Rattle.hm_model.specs.Choice.{candidate}
use Rattle.hm_exec.specs.Moment.{FaultsAt, IsGoing, IsHalted, Moment, past_of}

-- what the next call of a procedure's handler sees now, with this pick
abbrev pub SeesNow : Past → ℕ → Option Server → StepIn → Type 0
SeesNow J p pick at = (node : Node) × (node_of J p ≡ Some node) × (at ≡ input J p node pick)

-- the pick is the server that is chosen for a procedure's next step, where that needs one
abbrev pub IsChosen : Past → ℕ → Option Server → Type 0
IsChosen J p pick = (node : Node) → node_of J p ≡ Some node → pick ≡ candidate J p node

-- what is handed out: the input that fits the procedure now, with a pick that fits, on which its sheet of its edition can be
-- asked
pub record IsHandedOut (J : Past) (taken : Taken) : Type 0 where
  pub sees : (let pid = taken.pid in (let was = taken.was in SeesNow J pid.0 was.pick was))
  pub picks : (let pid = taken.pid in (let was = taken.was in PicksRight J pid.0 was.pick))
  pub chosen : (let pid = taken.pid in (let was = taken.was in IsChosen J pid.0 was.pick))
  pub edition : (let was = taken.was in was.edition ≤ editions J)
  pub runs : (let was = taken.was in CanRun (sheets_in J was.edition) was)

-- a procedure that is claimed is available, and is claimed from now on
abbrev pub Claims : Moment → Taken → Moment → Type 0
Claims old taken new =
    let pid = taken.pid in
    IsGoing old × IsAvailable (past_of old) old.claimed old.claimed pid.0 × IsHandedOut (past_of old) taken
    × (new.kept ≡ old.kept) × IsClaimedToo pid.0 old.claimed new.claimed

-- what `claim` answers, and what is left: None exactly where no procedure is available; memory runs out only where one is
abbrev pub AnswersClaim : Moment → Result (Option Taken) HallFault → Moment → Type 0
AnswersClaim old (Ok (Some taken)) new = Claims old taken new
AnswersClaim old (Ok None) new =
    IsGoing old × ((q : ℕ) → IsAvailable (past_of old) old.claimed old.claimed q → ⊥) × (new ≡ old)
AnswersClaim old (Err (fault_is.Halted why)) new = IsHalted old why new
AnswersClaim old (Err fault_is.Memory) new =
    IsGoing old × ((q : ℕ) × IsAvailable (past_of old) old.claimed old.claimed q) × (new ≡ old)
AnswersClaim old (Err fault) new = ⊥

-- what was answered is what the sheet says of the input's edition
abbrev pub IsAnswer : Past → StepIn → StepOut → Type 0
IsAnswer J was out = answer_of (sheets_in J was.edition) was ≡ Some out

-- the entry of an answer: a step, or what undoes one
abbrev pub entry_by : Turn → ℕ → StepIn → StepOut → Entry
entry_by turn_is.Step p was out = entry_is.Step (record { 0 = p }) was.pick out
entry_by (turn_is.Undo edits) p was out = entry_is.Undo was.pid was.row out

-- the entry that an answer to what was handed out becomes
abbrev pub entry_of : Taken → StepOut → Entry
entry_of taken out = let was = taken.was in (let pid = taken.pid in entry_by was.turn pid.0 was out)

-- the input that was handed out is the procedure's still, and its pick fits
abbrev pub IsFresh : Past → Taken → Type 0
IsFresh J taken =
    let pid = taken.pid in (let was = taken.was in PicksRight J pid.0 was.pick × SeesNow J pid.0 was.pick was)

-- the input that the procedure has now: with the pick that was handed out where that fits still, else without one
abbrev pub IsNow : Past → Taken → StepIn → Type 0
IsNow J taken now =
    let pid = taken.pid in (let was = taken.was in
    ((PicksRight J pid.0 was.pick × SeesNow J pid.0 was.pick now) ⊎ ((PicksRight J pid.0 was.pick → ⊥) × SeesNow J pid.0 None now)))

-- a fresh answer is recorded, and its claim ends
abbrev pub Commits : Moment → Taken → StepOut → ℕ → Moment → Type 0
Commits old taken out number new =
    let pid = taken.pid in
    IsGoing old × IsFresh (past_of old) taken × Allowed (past_of old) (entry_of taken out)
    × Records old.kept (entry_of taken out) (Ok number) new.kept × Unclaims pid.0 old.claimed new.claimed

-- the input is another one now, or its pick doesn't fit any more: the claim is given up
abbrev pub GivesUp : Moment → Taken → StepIn → Moment → Type 0
GivesUp old taken now new =
    let pid = taken.pid in
    IsGoing old × (IsFresh (past_of old) taken → ⊥) × IsNow (past_of old) taken now × (new.kept ≡ old.kept) × Unclaims pid.0 old.claimed new.claimed

-- why nothing is recorded of an answer, and what is left
abbrev pub RefusesCommit : Moment → Taken → StepOut → HallFault → Moment → Type 0
RefusesCommit old taken out (fault_is.Halted why) new = IsHalted old why new
RefusesCommit old taken out fault_is.Memory new = IsGoing old × (new ≡ old)
RefusesCommit old taken out fault_is.LogFault new = IsFresh (past_of old) taken × FaultsAt old (entry_of taken out) fault_is.LogFault new
RefusesCommit old taken out (fault_is.JournalFull bytes) new = IsFresh (past_of old) taken × FaultsAt old (entry_of taken out) (fault_is.JournalFull bytes) new

-- what `commit` answers, and what is left: the entry is recorded; or the input is another one now, exactly where it isn't fresh; or
-- nothing is recorded, and what was taken is given back
abbrev pub AnswersCommit : Moment → Taken → StepOut → Result Given (Taken × HallFault) → Moment → Type 0
AnswersCommit old taken out (Ok (given_is.Kept number)) new = Commits old taken out number new
AnswersCommit old taken out (Ok (given_is.Stale was now)) new = (was ≡ taken.was) × GivesUp old taken now new
AnswersCommit old taken out (Err (back, fault)) new = (back ≡ taken) × RefusesCommit old taken out fault new

-- a claim that is put back: nothing is recorded, halted or not
abbrev pub PutsBack : Moment → Taken → Moment → Type 0
PutsBack old taken new = let pid = taken.pid in (new.kept ≡ old.kept) × Unclaims pid.0 old.claimed new.claimed
