-- What the calls of a cluster make of those of its world.
use Rattle.std.proofs.Common.{◌≡◌, ◌≤◌, ◌∷◌, [], All, List, ℕ, Bool, true, false, Option, Some, None, Result, Ok, Err, refl, sym, ap, ◌∙◌, subst, inl, inr, arith}
use Rattle.std.specs.Prelude.{IfOk, MatchResult, OnErr}
use Rattle.std.specs.Option.{option_map}
use Rattle.std.proofs.lemmas.Option.{none-some, same_Some}
use Rattle.std.proofs.lemmas.List.Elements.{All-head, All-tail}
use Rattle.hm_names.specs.declared.nonce.Nonce.{Nonce}
use Rattle.hm_names.specs.declared.pid.Pid.{Pid}
use Rattle.hm_data.specs.declared.entry.Entry.TheVariants as entry_is
use Rattle.hm_data.specs.declared.request.Request.{Request}
use Rattle.hm_script.specs.declared.command.Command.{Command}
use Rattle.hm_script.specs.declared.command.Command.TheVariants as command_is
use Rattle.hm_commands.specs.Commands.{ComesOther, OtherMayAdd}
use Rattle.hm_commands.specs.Submissions.{Submits}
use Rattle.hm_commands.specs.declared.answer.Answer.{Answer}
use Rattle.hm_commands.proofs.Growth.{Grows, other_grows, submit_grows}
use Rattle.hm_data.specs.declared.act.Act.{Act}
use Rattle.hm_data.specs.declared.entry.Entry.{Entry}
use Rattle.hm_data.specs.declared.record.Record.{Record}
use Rattle.hm_data.specs.declared.sheet.Sheet.{Sheet}
use Rattle.hm_data.specs.declared.step.StepIn.{StepIn}
use Rattle.hm_data.specs.declared.step.StepOut.{StepOut}
use Rattle.hm_data.specs.declared.step.Turn.{Turn}
use Rattle.hm_data.specs.declared.step.Turn.TheVariants as turn_is
use Rattle.hm_hall.specs.Recording.{Recording}
use Rattle.hm_journal.specs.Since.{with_tail}
use Rattle.hm_hall.specs.declared.fault.Halt.{Halt}
use Rattle.hm_hall.specs.declared.fault.HallFault.{HallFault}
use Rattle.hm_hall.specs.declared.fault.HallFault.TheVariants as fault_is
use Rattle.hm_hall.specs.declared.hall.Task.TheVariants as task_is
use Rattle.hm_hall.specs.declared.taken.Given.{Given}
use Rattle.hm_hall.specs.declared.taken.Given.TheVariants as given_is
use Rattle.hm_hall.specs.declared.taken.Taken.{Taken}
use Rattle.hm_model.specs.Editions.{editions, sheets_in}
use Rattle.hm_model.specs.Journal.{Past, back}
use Rattle.hm_model.specs.Kinds.{kind_of}
use Rattle.hm_model.specs.Locks.{IsIn}
use Rattle.hm_model.specs.Records.{record_at, record_of}
use Rattle.hm_model.specs.Rules.{IsLegal}
use Rattle.hm_model.specs.Sheets.{row_in, sheet_for}
use Rattle.hm_model.specs.Tree.{Node, is_root_in, is_top, node_of}
use Rattle.hm_model.specs.Claims.{Unclaims}
use Rattle.hm_refusals.specs.declared.aborts.AbortRefused.{AbortRefused}
use Rattle.hm_refusals.specs.declared.aborts.AbortRefused.TheVariants as abort_is
use Rattle.hm_exec.specs.Claiming.{IsAnswer, IsHandedOut, RefusesCommit, entry_by, entry_of}
use Rattle.hm_exec.specs.Moment.{IsGoing, Moment, past_of}
use Rattle.hm_exec.specs.Submitting.{AnswersAbort}
use Rattle.hm_world.specs.Carrying.{CanCarry, OnlyExec}
use Rattle.hm_model.proofs.Editions.{edition_within, root_has}
use Rattle.hm_model.proofs.Forest.{rooted_all}
use Rattle.hm_model.proofs.Prefixes.{back-push}
use Rattle.hm_world_model.specs.World as model
use Rattle.hm_world.specs.Scene.{GoesOn, Scene, past_in, world_of}
use Rattle.hm_world.specs.Taking.{Gives, IsStill, Returns, Takes}
use Rattle.hm_commands.specs.Hands.{HandsUse, Ran, RunBy, one_step, steps_in}
use Rattle.hm_commands.specs.RowNames.{act_at, act_by, act_of_row}
use Rattle.hm_commands.specs.Scenes.{IsOnly, IsUnrecorded, claimed_at, journal_at, kept_at, whole}
use Rattle.hm_commands.specs.Tasks.{Becomes, Carried, LacksMemory, RunsTo, Steps, Works}
use Rattle.hm_commands.specs.Telling.{halt_of_fault, told_abort}
use Rattle.hm_commands.specs.declared.tasks.Worked.{Worked}
use Rattle.hm_commands.specs.declared.tasks.Worked.TheVariants as worked_is
use Rattle.hm_commands.proofs.Claims.{at_rest, none_claimed, restless}
use Rattle.hm_commands.proofs.Ran.{ran_idle, ran_none, run_less}

-- what a row of a procedure that is shown does
abbrev kept_act : Past → ℕ → Option Record → Option Act
kept_act J row None = None
kept_act J row (Some it) = act_of_row (row_in (sheet_for (sheets_in J it.edition) it.kind) row)

module _ (J : Past) (legal : IsLegal J) (p row : ℕ) where
  act_kept : (node : Option Node) → node_of J p ≡ node → act_by J node row ≡ kept_act J row (option_map (record_at J p) node)
  act_kept None is = refl
  act_kept (Some node) is =
      let root = rooted_all J legal p node is in
      ap (λ (sheets : List Sheet). act_of_row (row_in (sheet_for sheets (kind_of node.args)) row)) (root_has J legal node.root (ap is_root_in root.there ∙ ap is_top root.at_top)).0

  pub act_none : record_of J p ≡ None → act_at J p row ≡ None
  act_none is = act_kept (node_of J p) refl ∙ ap (kept_act J row) is

  pub act_some : (it : Record) → record_of J p ≡ Some it → act_at J p row ≡ act_of_row (row_in (sheet_for (sheets_in J it.edition) it.kind) row)
  act_some it is = act_kept (node_of J p) refl ∙ ap (kept_act J row) is

-- the edition that is shown is one of the journal's
pub shown_within : (J : Past) (p : ℕ) (it : Record) → record_of J p ≡ Some it → it.edition ≤ editions J
shown_within J p it = by (node_of J p)
  where
    by : (node : Option Node) → option_map (record_at J p) node ≡ Some it → it.edition ≤ editions J
    by None is = absurd (none-some it is)
    by (Some node) is = subst (λ (shown : Record). shown.edition ≤ editions J) (same_Some (record_at J p node) it is) (edition_within J node.root)

-- an abort is told alike by the journal before it and after it
abort_told : (old new : Moment) (pid : Pid) (result : Result Bool AbortRefused) → AnswersAbort old pid result new → told_abort (past_of new) pid result ≡ told_abort (past_of old) pid result
abort_told old new pid (Ok true) a = refl
abort_told old new pid (Ok false) a = refl
abort_told old new pid (Err abort_is.Unknown) a = refl
abort_told old new pid (Err (abort_is.Child root)) a = refl
abort_told old new pid (Err (abort_is.Finished phase)) a = refl
abort_told old new pid (Err (abort_is.TooLate row)) a = ap (λ (m : Moment). told_abort (past_of m) pid (Err (abort_is.TooLate row))) a.2
abort_told old new pid (Err (abort_is.Fault fault)) a = refl

-- so what is told by the journal after it is told by that before
pub abort_said : (old new : Moment) (J : Past) (pid : Pid) (result : Result Bool AbortRefused) (answer : Option Answer) → told_abort J pid result ≡ answer → past_of new ≡ J → AnswersAbort old pid result new → answer ≡ told_abort (past_of old) pid result
abort_said old new J pid result answer told same a = sym told ∙ ap (λ (K : Past). told_abort K pid result) (sym same) ∙ abort_told old new pid result a

-- a refusal ends no claim
refused_claimed : (old mid : Moment) (taken : Taken) (out : StepOut) (fault : HallFault) → IsGoing old → RefusesCommit old taken out fault mid → mid.claimed ≡ old.claimed
refused_claimed old mid taken out (fault_is.Halted why) going r = absurd (none-some why (sym going ∙ r.0))
refused_claimed old mid taken out fault_is.Memory going r = ap (λ (at : Moment). at.claimed) r.1
refused_claimed old mid taken out fault_is.LogFault going r = r.1.2.1
refused_claimed old mid taken out (fault_is.JournalFull bytes) going r = r.1.2.1

-- and records nothing
refused_entries : (old mid : Moment) (taken : Taken) (out : StepOut) (fault : HallFault) → RefusesCommit old taken out fault mid → mid.kept.entries ≡ old.kept.entries
refused_entries old mid taken out (fault_is.Halted why) r = ap (λ (at : Moment). at.kept.entries) r.1
refused_entries old mid taken out fault_is.Memory r = ap (λ (at : Moment). at.kept.entries) r.1
refused_entries old mid taken out fault_is.LogFault r = ap (λ (k : Recording). k.entries) r.1.2.0.2
refused_entries old mid taken out (fault_is.JournalFull bytes) r = ap (λ (k : Recording). k.entries) r.1.2.0.3

one_by : (turn : Turn) (p : ℕ) (was : StepIn) (out : StepOut) → one_step (entry_by turn p was out) ≡ 1
one_by turn_is.Step p was out = refl
one_by (turn_is.Undo edits) p was out = refl

module _ (old : Scene) (taken : Taken) (out : StepOut) where
  -- what was handed out is fresh still, so that its answer was recorded
  pub is_kept : (new : Scene) (given : Given) → IsHandedOut (past_in old) taken → Gives old taken out (Ok given) new → (number : ℕ) × Gives old taken out (Ok (given_is.Kept number)) new
  is_kept new (given_is.Kept number) handed gives = (number, gives)
  is_kept new (given_is.Stale was now) handed gives = absurd (gives.0.1.1 (handed.picks, handed.sees))

  -- who was claimed still is where nothing was recorded
  pub still_claimed : (mid : Scene) (back : Taken) (fault : HallFault) → GoesOn old → IsIn taken.pid.0 (claimed_at old) → Gives old taken out (Err (back, fault)) mid → IsIn back.pid.0 (claimed_at mid)
  still_claimed mid back fault going claimed gives =
      subst (λ (t : Taken). IsIn t.pid.0 (claimed_at mid)) (sym gives.0.0)
      (subst (λ (c : List ℕ). IsIn taken.pid.0 c) (sym (refused_claimed old.exec mid.exec taken out fault going gives.0.1)) claimed)

  -- and nobody is when that is put back
  pub refused_unclaimed : (mid new : Scene) (back : Taken) (fault : HallFault) → GoesOn old → IsOnly taken.pid.0 (claimed_at old) → Gives old taken out (Err (back, fault)) mid → Returns mid back new → claimed_at new ≡ []
  refused_unclaimed mid new back fault going only gives returned =
      none_claimed taken.pid.0 (claimed_at mid) (claimed_at new)
      (subst (IsOnly taken.pid.0) (sym (refused_claimed old.exec mid.exec taken out fault going gives.0.1)) only)
      (subst (λ (t : Taken). Unclaims t.pid.0 (claimed_at mid) (claimed_at new)) gives.0.0 returned.0.1)

  -- what a refusal makes of an answer
  pub refused_becomes : {E : Type 0} (mid new : Scene) (back : Taken) (fault : HallFault) (r : Result Worked E) → Gives old taken out (Err (back, fault)) mid → Returns mid back new
      → MatchResult r (λ worked. (why : Halt) × (halt_of_fault fault ≡ Some why) × (worked ≡ worked_is.Halted why)) (λ e. halt_of_fault fault ≡ None) → IfOk r (λ worked. Becomes old taken out worked new)
  refused_becomes mid new back fault (Err e) gives returned halts = tt
  refused_becomes mid new back fault (Ok worked) gives returned halts =
      subst (λ (w : Worked). Becomes old taken out w new) (sym halts.2)
      (fault, mid, subst (λ (t : Taken). Gives old taken out (Err (t, fault)) mid) gives.0.0 gives, subst (λ (t : Taken). Returns mid t new) gives.0.0 returned, halts.1)

  -- the handler was run for what becomes of its answer
  pub becomes_runs : {E : Type 0} (new : Scene) (r : Result Worked E) → IsAnswer (past_in old) taken.was out → IfOk r (λ worked. Becomes old taken out worked new) → IfOk r (λ worked. RunsTo old taken worked new)
  becomes_runs new (Ok worked) answered becomes = (out, answered, becomes)
  becomes_runs new (Err e) answered becomes = tt

  -- what ran for it
  pub becomes_ran : {E : Type 0} (hands : HandsUse) (new : Scene) (r : Result Worked E) → RunBy hands 1 → IfOk r (λ worked. Becomes old taken out worked new) → OnErr r (IsUnrecorded old new) → Ran hands (journal_at old) (journal_at new)
  becomes_ran hands new (Ok worked_is.Done) run becomes err =
      let entry = entry_of taken out in
      let one : steps_in (entry ∷ []) ≡ 1 = let its = one_by taken.was.turn taken.pid.0 taken.was out in omega arith in
      (entry ∷ [], ap (λ (k : Recording). k.entries) becomes.1.0.3.3, subst (RunBy hands) (sym one) run)
  becomes_ran hands new (Ok (worked_is.Halted why)) run becomes err =
      ran_idle hands (journal_at old) (journal_at new)
      (ap (λ (k : Recording). k.entries) becomes.3.0.0 ∙ refused_entries old.exec (becomes.1).exec taken out becomes.0 becomes.2.0.1) (run_less hands 1 run)
  becomes_ran hands new (Ok worked_is.Idle) run becomes err = absurd becomes
  becomes_ran hands new (Err e) run becomes err = ran_idle hands (journal_at old) (journal_at new) (ap (λ (k : Recording). k.entries) err.0) (run_less hands 1 run)

abbrev scene : Recording → List ℕ → Scene → Scene
scene kept claimed at = record at { exec = record { kept = kept; claimed = claimed } }

-- scenes that differ in nothing but the executor, and not in it
same_scene : (old new : Scene) → OnlyExec old new → kept_at new ≡ kept_at old → claimed_at new ≡ claimed_at old → new ≡ old
same_scene old new only kept claimed = only ∙ ap (λ (k : Recording). scene k (claimed_at new) old) kept ∙ ap (λ (c : List ℕ). scene (kept_at old) c old) claimed

module _ (old mid new : Scene) (taken : Taken) (takes : Takes old (Ok (task_is.Run taken)) mid) (claimed : claimed_at new ≡ claimed_at old) where
  -- a step, by what the handler's answer became
  pub run_steps : (worked : Worked) → RunsTo mid taken worked new → Steps old worked new
  run_steps worked runs = record { taken = taken; mid = mid; takes = takes; runs = runs; claimed = claimed }

  pub run_works : {E : Type 0} (r : Result Worked E) → IfOk r (λ worked. RunsTo mid taken worked new) → IfOk r (λ worked. Works old worked new)
  run_works (Ok worked_is.Done) runs = inl (run_steps worked_is.Done runs)
  run_works (Ok (worked_is.Halted why)) runs = inl (run_steps (worked_is.Halted why) runs)
  run_works (Ok worked_is.Idle) runs = absurd runs.2
  run_works (Err e) runs = tt

  -- nothing was recorded
  pub run_lacks : claimed_at old ≡ [] → IsUnrecorded mid new → LacksMemory old new
  run_lacks nobody unrecorded = (
    takes.0.0,
    λ done. restless (past_in old) (claimed_at old) nobody taken.pid.0 takes.0.1 done.0,
    same_scene old new (unrecorded.1 ∙ ap (λ (m : Scene). record m { exec = new.exec }) takes.1) (unrecorded.0 ∙ takes.0.3) claimed,
  )

module _ (old mid new : Scene) (takes : Takes old (Ok task_is.Carry) mid) where
  -- the task itself changes nothing
  carry_same : mid ≡ old
  carry_same = takes.0.1

  pub carry_can : CanCarry mid
  carry_can = subst CanCarry (sym takes.0.1) takes.1

  carry_takes : Takes old (Ok task_is.Carry) old
  carry_takes = ((takes.0.0, refl), takes.1)

  -- a message, by what became of it
  pub carry_works : {E : Type 0} (r : Result Worked E) → IfOk r (λ worked. Carried mid worked new) → IfOk r (λ worked. Works old worked new)
  carry_works (Ok worked_is.Done) c = inr (carry_takes, subst (λ (s : Scene). Carried s worked_is.Done new) takes.0.1 c)
  carry_works (Ok (worked_is.Halted why)) c = inr (carry_takes, subst (λ (s : Scene). Carried s (worked_is.Halted why) new) takes.0.1 c)
  carry_works (Ok worked_is.Idle) c = absurd c
  carry_works (Err e) c = tt

  -- a message for which memory ran out
  pub carry_lacks : GoesOn old → new ≡ mid → LacksMemory old new
  carry_lacks going same = (going, λ done. not_still done.1 takes.1, same ∙ takes.0.1)
    where
      not_still : IsStill old → CanCarry old → ⊥
      not_still still (going, inl waits) = waits still.0
      not_still still (going, inr (inl travels)) = travels still.1
      not_still still (going, inr (inr due)) = due still.2

-- nothing is left to do
pub idle_works : (old new : Scene) → claimed_at old ≡ [] → Takes old (Ok task_is.Idle) new → Works old worked_is.Idle new
idle_works old new nobody takes = ((at_rest (past_in old) (claimed_at old) nobody takes.0.0.1, takes.1), takes.0.1)

-- memory ran out for a claim
pub claim_lacks : (old new : Scene) (fault : HallFault) → GoesOn old → claimed_at old ≡ [] → Takes old (Err fault) new → LacksMemory old new
claim_lacks old new (fault_is.Halted why) going nobody takes = absurd (none-some why (sym going ∙ takes.0.0))
claim_lacks old new fault_is.Memory going nobody takes =
    (going, λ done. restless (past_in old) (claimed_at old) nobody takes.0.1.0 takes.0.1.1 done.0, takes.1 ∙ ap (λ (m : Moment). record old { exec = m }) takes.0.2)
claim_lacks old new fault_is.LogFault going nobody takes = absurd takes.0
claim_lacks old new (fault_is.JournalFull bytes) going nobody takes = absurd takes.0

-- what follows where memory ran out
pub on_err_so : {T E P Q : Type 0} (r : Result T E) → (P → Q) → OnErr r P → OnErr r Q
on_err_so (Ok done) f p = tt
on_err_so (Err fault) f p = f p

-- a command that runs no handler
abbrev IsQuiet : Command → Type 0
IsQuiet (command_is.Step count) = ⊥
IsQuiet command_is.Settle = ⊥
IsQuiet command = Unit {0}

other_quiet : (command : Command) → IsQuiet command → (entry : Entry) → OtherMayAdd command entry → one_step entry ≡ 0
other_quiet (command_is.Abort pid) quiet entry may = ap one_step may
other_quiet (command_is.Server server) quiet entry (inl up) = ap one_step up
other_quiet (command_is.Server server) quiet entry (inr down) = ap one_step down.1
other_quiet (command_is.Expire server) quiet entry may = ap one_step may
other_quiet (command_is.Step count) quiet entry may = absurd quiet
other_quiet command_is.Settle quiet entry may = absurd quiet
other_quiet command_is.Balance quiet entry may = ap one_step may.2
other_quiet command quiet entry may = absurd may

no_steps : (P : Entry → Type 0) → ((entry : Entry) → P entry → one_step entry ≡ 0) → (added : List Entry) → All P added → steps_in added ≡ 0
no_steps P none [] all = refl
no_steps P none (entry ∷ added) all =
    let first = none entry (All-head P entry added all) in
    let rest = no_steps P none added (All-tail P entry added all) in
    omega (arith, first, rest)

grown_ran : (P : Entry → Type 0) → ((entry : Entry) → P entry → one_step entry ≡ 0) → (hands : HandsUse) (old new : Recording) → Grows P old new → RunBy hands 0 → Ran hands old.entries new.entries
grown_ran P none hands old new grows run = ran_none hands old.entries new.entries (grows.added, grows.grown, no_steps P none grows.added grows.each) run

-- what ran for a command that runs no handler, and for a submission: nothing
pub other_ran : (hands : HandsUse) (command : Command) → IsQuiet command → (old : Scene) (answer : Option Answer) (new : Scene) → ComesOther command old answer new → RunBy hands 0 → Ran hands (journal_at old) (journal_at new)
other_ran hands command quiet old answer new comes run = grown_ran (OtherMayAdd command) (other_quiet command quiet) hands (kept_at old) (kept_at new) (other_grows old new command answer comes) run

pub submit_ran : (hands : HandsUse) (nonce : Nonce) (request : Request) (old : Scene) (answer : Option Answer) (new : Scene) → Submits nonce request old answer new → RunBy hands 0 → Ran hands (journal_at old) (journal_at new)
submit_ran hands nonce request old answer new comes run =
    grown_ran (λ entry. entry ≡ entry_is.Submit nonce request) (λ entry is. ap one_step is) hands (kept_at old) (kept_at new) (submit_grows nonce request old.exec new.exec comes.0 comes.1) run

-- a journal with the entry whose recording failed is that of its world
pub whole_back : (at : Scene) → back (whole at) ≡ model.whole (world_of at)
whole_back at = by (kept_at at).tail
  where
    by : (tail : Option Entry) → back (with_tail (journal_at at) tail) ≡ model.with_tail tail (past_in at)
    by None = refl
    by (Some entry) = back-push (journal_at at) entry
