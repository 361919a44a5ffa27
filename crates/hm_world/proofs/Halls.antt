-- What the calls of a world do to it as a hall.
use Rattle.std.proofs.Common.{◌≡◌, ℕ, List, [], ◌∷◌, ◌++◌, Bool, true, false, Option, Some, None, Result, Ok, Err, refl, sym, ap, ◌∙◌, subst, inl, inr}
use Rattle.hm_names.specs.Server.{Server}
use Rattle.hm_data.specs.declared.call.Call.{Call}
use Rattle.hm_data.specs.declared.call.ReportMsg.{ReportMsg}
use Rattle.hm_data.specs.declared.entry.Entry.{Entry}
use Rattle.hm_data.specs.declared.sheet.Sheet.{Sheet}
use Rattle.hm_data.specs.declared.step.StepIn.{StepIn}
use Rattle.hm_data.specs.declared.step.StepOut.{StepOut}
use Rattle.hm_data.specs.declared.step.Turn.{Turn}
use Rattle.hm_data.specs.declared.step.Turn.TheVariants as turn_is
use Rattle.hm_hall.specs.Recording.{Recording, behind, parts_of}
use Rattle.hm_hall.specs.declared.fault.HallFault.{HallFault}
use Rattle.hm_hall.specs.declared.fault.HallFault.TheVariants as fault_is
use Rattle.hm_hall.specs.declared.hall.Task.{Task}
use Rattle.hm_hall.specs.declared.hall.Task.TheVariants as task_is
use Rattle.hm_hall.specs.declared.taken.Given.{Given}
use Rattle.hm_hall.specs.declared.taken.Given.TheVariants as given_is
use Rattle.hm_hall.specs.declared.taken.Taken.{Taken}
use Rattle.hm_model.specs.Inputs.{input, step_input, turn_input, undo_input, undoes}
use Rattle.hm_model.specs.Journal.{Past, back}
use Rattle.hm_model.specs.Laws.{is_part}
use Rattle.hm_model.specs.Rest.{IsAtRest, IsAvailable}
use Rattle.hm_model.specs.Editions.{sheets_in}
use Rattle.hm_model.specs.Tree.{Node, node_of}
use Rattle.hm_model.specs.Undo.{Undoable, stack}
use Rattle.hm_model.proofs.Prefixes.{back-push}
use Rattle.hm_exec.specs.Claiming.{IsFresh, IsNow, RefusesCommit, SeesNow, entry_by, entry_of}
use Rattle.hm_exec.specs.Hearing.{AnswersReport, report_entry}
use Rattle.hm_exec.specs.Moment.{FaultsAt, Moment, past_of}
use Rattle.hm_exec.specs.declared.answers.Heard.{Heard}
use Rattle.hm_exec.specs.declared.answers.Heard.TheVariants as heard_is
use Rattle.hm_world.specs.Carrying.{Carries, CarriesBy}
use Rattle.hm_world.specs.Hall.{hall_at, hall_of, hall_with}
use Rattle.hm_hall.specs.Hall.{AnswersCarry, AnswersGive, AnswersTake, Fails, GetsBack, IsOther, IsStepOf, journal_of}
use Rattle.hm_world.specs.Scene.{Scene, past_in}
use Rattle.hm_world.specs.Taking.{Gives, Returns, Takes}

-- the entry of an answer leaves the sheets
entry_leaves : (turn : Turn) (p : ℕ) (was : StepIn) (out : StepOut) (J : Past) → sheets_in (entry_by turn p was out ∷ J) ≡ sheets_in J
entry_leaves turn_is.Step p was out J = refl
entry_leaves (turn_is.Undo edits) p was out J = refl

-- it is no part of a base
entry_other : (turn : Turn) (p : ℕ) (was : StepIn) (out : StepOut) → is_part (entry_by turn p was out) ≡ false
entry_other turn_is.Step p was out = refl
entry_other (turn_is.Undo edits) p was out = refl

-- it is a step of what was taken, or undoes one
entry_is_step : (taken : Taken) (out : StepOut) → IsStepOf taken out (entry_of taken out)
entry_is_step taken out = by (let was = taken.was in was.turn)
  where
    by : (turn : Turn) → IsStepOf taken out (entry_by turn (let pid = taken.pid in pid.0) taken.was out)
    by turn_is.Step = (refl, refl, refl)
    by (turn_is.Undo edits) = (refl, refl, refl)

-- the same recording and claims
same_hall : (k l : Recording) (c d : List ℕ) → k ≡ l → c ≡ d → hall_with k c ≡ hall_with l d
same_hall k l c d kept claimed = ap (λ (x : Recording). hall_with x c) kept ∙ ap (hall_with l) claimed

-- entries are the parts of a base and what is behind them, where each entry comes that is no part
pub record StandFirst : Type 0 where
  pub all : (entries : List Entry) → parts_of entries ++ behind entries ≡ entries
  pub parts : (entries : List Entry) (entry : Entry) → is_part entry ≡ false → parts_of (entries ++ entry ∷ []) ≡ parts_of entries
  pub grows : (entries : List Entry) (entry : Entry) → is_part entry ≡ false → behind (entries ++ entry ∷ []) ≡ behind entries ++ entry ∷ []

-- one entry more that is no part of a base, and leaves the sheets
hall_added : StandFirst → (old new : Recording) (claimed : List ℕ) (entry : Entry) → is_part entry ≡ false → new ≡ record old { entries = old.entries ++ entry ∷ []; next = None }
    → sheets_in (entry ∷ back old.entries) ≡ sheets_in (back old.entries)
    → hall_with new claimed ≡ record (hall_with old claimed) { items = behind old.entries ++ entry ∷ [] }
hall_added law old new claimed entry other is leaves =
    ap (λ (k : Recording). hall_with k claimed) is
    ∙ ap (λ (b : List Entry). record (hall_with old claimed) { base = b; items = behind (old.entries ++ entry ∷ []); sheets = sheets_in (back (old.entries ++ entry ∷ [])) }) (law.parts old.entries entry other)
    ∙ ap (λ (b : List Entry). record (hall_with old claimed) { items = b; sheets = sheets_in (back (old.entries ++ entry ∷ [])) }) (law.grows old.entries entry other)
    ∙ ap (λ (s : ℕ → List Sheet). record (hall_with old claimed) { items = behind old.entries ++ entry ∷ []; sheets = s }) (ap sheets_in (back-push old.entries entry) ∙ leaves)

-- the faults of what would record an entry
fails_at : (old new : Moment) (entry : Entry) (fault : HallFault) → FaultsAt old entry fault new → Fails (hall_at old) fault (hall_at new)
fails_at old new entry (fault_is.Halted why) at = (at.0, ap hall_at at.1)
fails_at old new entry fault_is.Memory at = (at.0, ap hall_at at.2.1)
fails_at old new entry fault_is.LogFault at = (at.0, same_hall _ _ _ _ at.2.0.2 at.2.1)
fails_at old new entry (fault_is.JournalFull bytes) at = (at.0, same_hall _ _ _ _ at.2.0.3 at.2.1)

-- the pick of an input is the one with which it was made
its_pick : (J : Past) (p : ℕ) (node : Node) (pick : Option Server) → (let at = input J p node pick in at.pick) ≡ pick
its_pick J p node pick = by (undoes J p node) (stack J p)
  where
    at : StepIn
    at = step_input J p node pick

    latest : (undone : Undoable) (its : Option Node) → (let x = elim its as (λ n. StepIn) [ None ↦ at | Some n ↦ undo_input undone n at ] in x.pick) ≡ pick
    latest undone None = refl
    latest undone (Some n) = refl

    by : (undo : Bool) (steps : List Undoable) → (let x = turn_input J undo steps at in x.pick) ≡ pick
    by false steps = refl
    by true [] = refl
    by true (undone ∷ below) = latest undone (node_of J undone.pid)

-- an answer that isn't fresh was made for another input, or for a pick that fits no more
is_other : (J : Past) (taken : Taken) (now : StepIn) → (IsFresh J taken → ⊥) → IsNow J taken now → IsOther taken.was now
is_other J taken now stale (inl is) = inl (λ same. stale (is.0, subst (λ (s : StepIn). let pid = taken.pid in (let was = taken.was in SeesNow J pid.0 was.pick s)) same is.1))
is_other J taken now stale (inr is) = inr (ap (λ (s : StepIn). s.pick) is.1.2 ∙ its_pick J (let pid = taken.pid in pid.0) is.1.0 None)

module _ (old new : Scene) where
  refused : (taken : Taken) (out : StepOut) (fault : HallFault) → RefusesCommit old.exec taken out fault new.exec → Fails (hall_of old) fault (hall_of new)
  refused taken out (fault_is.Halted why) refuses = (refuses.0, ap hall_at refuses.1)
  refused taken out fault_is.Memory refuses = (refuses.0, ap hall_at refuses.1)
  refused taken out fault_is.LogFault refuses = fails_at old.exec new.exec (entry_of taken out) fault_is.LogFault refuses.1
  refused taken out (fault_is.JournalFull bytes) refuses = fails_at old.exec new.exec (entry_of taken out) (fault_is.JournalFull bytes) refuses.1

  unheard : (report : ReportMsg) (fault : HallFault) → AnswersReport old.exec report (Err fault) new.exec → Fails (hall_of old) fault (hall_of new)
  unheard report (fault_is.Halted why) answers = (answers.0, ap hall_at answers.1)
  unheard report fault_is.Memory answers = fails_at old.exec new.exec (report_entry report) fault_is.Memory answers.1
  unheard report fault_is.LogFault answers = fails_at old.exec new.exec (report_entry report) fault_is.LogFault answers.1
  unheard report (fault_is.JournalFull bytes) answers = fails_at old.exec new.exec (report_entry report) (fault_is.JournalFull bytes) answers.1

  pub put_back_gets : (taken : Taken) → Returns old taken new → GetsBack (hall_of old) taken (hall_of new)
  put_back_gets taken returns = (returns.0.1, same_hall _ _ _ _ returns.0.0 refl)

-- the journal of a hall
journal_is : StandFirst → (at : Moment) → past_of at ≡ journal_of (hall_at at)
journal_is law at = let kept = at.kept in ap back (sym (law.all kept.entries))

module _ (law : StandFirst) (old new : Scene) where
  journal : past_in old ≡ journal_of (hall_of old)
  journal = journal_is law old.exec

  -- who is available in the journal may go out of the hall
  goes : (p : ℕ) (c : List ℕ) → IsAvailable (past_in old) c c p → IsAvailable (journal_of (hall_of old)) c c p
  goes p c = subst (λ (J : Past). IsAvailable J c c p) journal

  -- and nobody else
  none_goes : (c : List ℕ) → ((p : ℕ) → IsAvailable (past_in old) c c p → ⊥) → (p : ℕ) → IsAvailable (journal_of (hall_of old)) c c p → ⊥
  none_goes c none p able = none p (subst (λ (J : Past). IsAvailable J c c p) (sym journal) able)

  pub take_answers : (result : Result Task HallFault) → Takes old result new → AnswersTake (hall_of old) result (hall_of new)
  take_answers (Ok (task_is.Run taken)) takes =
      (takes.0.0, (goes (let pid = taken.pid in pid.0) (let exec = old.exec in exec.claimed) takes.0.1, (let handed = takes.0.2 in handed.runs), takes.0.4, same_hall _ _ _ _ takes.0.3 refl))
  take_answers (Ok task_is.Carry) takes = (takes.0.0.0, none_goes (let exec = old.exec in exec.claimed) takes.0.0.1, ap hall_of takes.0.1)
  take_answers (Ok task_is.Flush) takes = absurd takes
  take_answers (Ok task_is.Busy) takes = (takes.0.0.0, none_goes (let exec = old.exec in exec.claimed) takes.0.0.1, takes.2, ap hall_of takes.0.1)
  take_answers (Ok task_is.Idle) takes = (takes.0.0.0, none_goes (let exec = old.exec in exec.claimed) takes.0.0.1, takes.2, ap hall_of takes.0.1)
  take_answers (Err (fault_is.Halted why)) takes = (takes.0.0, ap hall_at takes.0.1)
  take_answers (Err fault_is.Memory) takes = (takes.0.0, (takes.0.1.0, goes takes.0.1.0 (let exec = old.exec in exec.claimed) takes.0.1.1), ap hall_at takes.0.2)
  take_answers (Err fault_is.LogFault) takes = absurd takes.0
  take_answers (Err (fault_is.JournalFull bytes)) takes = absurd takes.0

  pub take_rests : (result : Result Task HallFault) → Takes old result new → result ≡ Ok task_is.Idle → IsAtRest (journal_of (hall_of old))
  take_rests result takes is p able =
      let idle = subst (λ (r : Result Task HallFault). Takes old r new) is takes in
      none_goes (let exec = old.exec in exec.claimed) idle.0.0.1 p (subst (λ (c : List ℕ). IsAvailable (journal_of (hall_of old)) c c p) (sym idle.2) able)

  pub give_answers : (taken : Taken) (out : StepOut) (result : Result Given (Taken × HallFault)) → Gives old taken out result new
      → AnswersGive (hall_of old) taken out result (hall_of new)
  give_answers taken out (Ok (given_is.Kept number)) gives =
      let was = taken.was in
      (let pid = taken.pid in
      (let exec = old.exec in
      (let next = new.exec in
      (gives.0.0, (gives.0.3.2, gives.0.4, (entry_of taken out, entry_is_step taken out, hall_added law exec.kept next.kept next.claimed (entry_of taken out) (entry_other was.turn pid.0 was out) gives.0.3.3 (entry_leaves was.turn pid.0 was out _)))))))
  give_answers taken out (Ok (given_is.Stale was now)) gives =
      (gives.0.1.0, gives.0.0, subst (λ (s : StepIn). IsOther s now) (sym gives.0.0) (is_other (past_in old) taken now gives.0.1.1 gives.0.1.2), (gives.0.1.4, same_hall _ _ _ _ gives.0.1.3 refl))
  give_answers taken out (Err (back, fault)) gives = (gives.0.0, refused old new taken out fault gives.0.1)

  heard : (report : ReportMsg) (its : Heard) → AnswersReport old.exec report (Ok its) new.exec → AnswersCarry (hall_of old) (Ok true) (hall_of new)
  heard report (heard_is.Accepted number) answers =
      let exec = old.exec in
      (let next = new.exec in
      (answers.1.0, inr (report.call, report.told, hall_added law exec.kept next.kept next.claimed (report_entry report) refl answers.2.3 refl ∙ ap (λ (c : List ℕ). record (hall_with exec.kept c) { items = behind (let kept = exec.kept in kept.entries) ++ report_entry report ∷ [] }) answers.1.3)))
  heard report (heard_is.Ignored why) answers = (answers.0, inl (ap hall_at answers.2))

  pub carry_answers : (result : Result Bool HallFault) → Carries old result new → AnswersCarry (hall_of old) result (hall_of new)
  carry_answers result carries = by old.waiting old.wire result carries
    where
      by : (waiting : List ReportMsg) (wire : List Call) (result : Result Bool HallFault) → CarriesBy waiting wire old result new → AnswersCarry (hall_of old) result (hall_of new)
      by (report ∷ rest) wire (Ok true) c = heard report c.0.0 c.0.1
      by (report ∷ rest) wire (Ok false) c = absurd c
      by (report ∷ rest) wire (Err fault) c = unheard old new report fault c.0
      by [] wire (Err (fault_is.Halted why)) c = (c.0.0, ap hall_at c.0.1)
      by [] wire (Err fault_is.Memory) c = (c.0.0, ap hall_of c.1)
      by [] wire (Err fault_is.LogFault) c = absurd c
      by [] wire (Err (fault_is.JournalFull bytes)) c = absurd c
      by [] (call ∷ rest) (Ok true) c = (c.0, inl (ap hall_of c.1))
      by [] (call ∷ rest) (Ok false) c = absurd c
      by [] [] (Ok true) c = (c.0, inl (ap hall_of c.3))
      by [] [] (Ok false) c = (c.0, ap hall_of c.2)
