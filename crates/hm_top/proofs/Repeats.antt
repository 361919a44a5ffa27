-- What a run sends again is a call and a report at least for each report that it recorded.
use Rattle.std.proofs.Common.{◌≡◌, ◌≤◌, ◌+◌, ◌*◌, ℕ, List, [], ◌∷◌, ◌++◌, All, length, Bool, true, false, Option, Some, None, Result, Ok, Err, refl, sym, ap, ◌∙◌, subst, inl, inr, append-nil, append_assoc, arith}
use Rattle.std.specs.Prelude.{MatchOption}
use Rattle.std.proofs.lemmas.Bool.{false≢true}
use Rattle.std.proofs.lemmas.List.Elements.{All-cons, All-head, All-nil, All-tail}
use Rattle.hm_names.specs.Server.{Server}
use Rattle.hm_names.specs.declared.nonce.Nonce.{Nonce}
use Rattle.hm_names.specs.declared.pid.Pid.{Pid}
use Rattle.hm_data.specs.declared.entry.Entry.{Entry}
use Rattle.hm_data.specs.declared.entry.Entry.TheVariants as entry_is
use Rattle.hm_data.specs.declared.part.Part.{Part}
use Rattle.hm_data.specs.declared.request.Request.{Request}
use Rattle.hm_hall.specs.declared.fault.Halt.{Halt}
use Rattle.hm_hall.specs.declared.fault.HallFault.{HallFault}
use Rattle.hm_hall.specs.declared.fault.HallFault.TheVariants as fault_is
use Rattle.hm_model.specs.Image.{counted}
use Rattle.hm_model.specs.Journal.{Past, back}
use Rattle.hm_model.specs.Laws.{is_part}
use Rattle.hm_model.specs.Rebase.{up_to}
use Rattle.hm_model.specs.Rules.{IsLegal}
use Rattle.hm_model.proofs.Prefixes.{back-push}
use Rattle.hm_places.specs.declared.refused.DownRefused.TheVariants as down_is
use Rattle.hm_places.specs.declared.refused.UpRefused.TheVariants as up_is
use Rattle.hm_refusals.specs.declared.aborts.AbortRefused.{AbortRefused}
use Rattle.hm_refusals.specs.declared.aborts.AbortRefused.TheVariants as abort_is
use Rattle.hm_refusals.specs.declared.submissions.Refused.{Refused}
use Rattle.hm_refusals.specs.declared.submissions.Refused.TheVariants as refused_is
use Rattle.hm_exec.specs.declared.answers.Accepted.{Accepted}
use Rattle.hm_exec.specs.declared.answers.DownWhy.{DownWhy}
use Rattle.hm_exec.specs.declared.answers.DownWhy.TheVariants as down_why
use Rattle.hm_exec.specs.declared.answers.UpWhy.{UpWhy}
use Rattle.hm_exec.specs.declared.answers.UpWhy.TheVariants as up_why
use Rattle.hm_script.specs.declared.command.Command.{Command}
use Rattle.hm_script.specs.declared.command.Command.TheVariants as command_is
use Rattle.hm_world.specs.Scene.{Scene, past_in}
use Rattle.hm_commands.specs.Commands.{Answers, ComesAt, ComesOther, MayAdd, OtherMayAdd, RepeatsAll, asked}
use Rattle.hm_commands.specs.Scenes.{halt_at, journal_at, new_scene}
use Rattle.hm_commands.specs.Submissions.{Submits}
use Rattle.hm_commands.specs.Telling.{told_abort, told_accepted, told_arming, told_death, told_down, told_fault, told_full, told_submit, told_up}
use Rattle.hm_commands.specs.declared.answer.Answer.{Answer}
use Rattle.hm_commands.specs.declared.answer.Answer.TheVariants as answer_is
use Rattle.hm_commands.proofs.Growth.{comes_grows}
use Rattle.hm_world_model.proofs.Rolling.{count_more, up_to_all, up_to_more}
use Rattle.hm_terms.specs.Travels.{Travelled, reported_in}
use Rattle.hm_terms.proofs.Travelling.{commands_bring, downs_bring, new_travelled, repeats_both}
use Rattle.hm_top.specs.Grants.{EndsThere}
use Rattle.hm_top.specs.Opening.{Downs}
use Rattle.hm_top.specs.Repeats.{EachRepeatsTwice, RunsRepeatTwice}
use Rattle.hm_top.specs.Transcript.{Transcript}
use Rattle.hm_top.proofs.Entire.{legal_up_to}

-- whether it is the answer to `repeat`
abbrev is_resent : Option Answer → Bool
is_resent (Some (answer_is.Resent count)) = true
is_resent told = false

-- nothing else is told so
fault_told : (fault : HallFault) → is_resent (told_fault fault) ≡ false
fault_told fault_is.LogFault = refl
fault_told (fault_is.JournalFull bytes) = refl
fault_told (fault_is.Halted why) = refl
fault_told fault_is.Memory = refl

accepted_told : (pid : Pid) (repeated : Bool) → is_resent (told_accepted pid repeated) ≡ false
accepted_told pid true = refl
accepted_told pid false = refl

full_told : (halted : Option Halt) (bytes : ℕ) → is_resent (told_full halted bytes) ≡ false
full_told None bytes = refl
full_told (Some why) bytes = refl

submit_told : (halted : Option Halt) (result : Result Accepted Refused) → is_resent (told_submit halted result) ≡ false
submit_told halted (Ok accepted) = accepted_told accepted.pid accepted.repeated
submit_told halted (Err (refused_is.NonceClash pid)) = refl
submit_told halted (Err (refused_is.BadArgs number)) = refl
submit_told halted (Err (refused_is.TooManyRegions drawn)) = refl
submit_told halted (Err (refused_is.JournalFull bytes)) = full_told halted bytes
submit_told halted (Err (refused_is.Halted why)) = refl
submit_told halted (Err refused_is.LogFault) = refl
submit_told halted (Err refused_is.Memory) = refl

abort_told : (J : Past) (pid : Pid) (result : Result Bool AbortRefused) → is_resent (told_abort J pid result) ≡ false
abort_told J pid (Ok true) = refl
abort_told J pid (Ok false) = refl
abort_told J pid (Err abort_is.Unknown) = refl
abort_told J pid (Err (abort_is.Child root)) = refl
abort_told J pid (Err (abort_is.Finished phase)) = refl
abort_told J pid (Err (abort_is.TooLate row)) = refl
abort_told J pid (Err (abort_is.Fault fault)) = fault_told fault

up_told : (server : Server) (result : Result (Option (Server × Pid)) UpWhy) → is_resent (told_up server result) ≡ false
up_told server (Ok None) = refl
up_told server (Ok (Some (older, pid))) = refl
up_told server (Err (up_why.Up (up_is.OldStart start))) = refl
up_told server (Err (up_why.Up up_is.Known)) = refl
up_told server (Err (up_why.Up up_is.Memory)) = refl
up_told server (Err (up_why.Fault fault)) = fault_told fault

down_told : (server : Server) (result : Result Pid DownWhy) → is_resent (told_down server result) ≡ false
down_told server (Ok pid) = refl
down_told server (Err (down_why.Down down_is.Unknown)) = refl
down_told server (Err (down_why.Down down_is.AlreadyDown)) = refl
down_told server (Err (down_why.Fault fault)) = fault_told fault

death_told : (server : Server) (ran : Bool) → is_resent (told_death server ran) ≡ false
death_told server true = refl
death_told server false = refl

arming_told : (result : Result Bool Halt) → is_resent (told_arming result) ≡ false
arming_told (Ok true) = refl
arming_told (Ok false) = refl
arming_told (Err why) = refl

module _ (count : ℕ) where
  never : (told : Option Answer) → is_resent told ≡ false → Some (answer_is.Resent count) ≡ told → ⊥
  never told other is = false≢true (sym other ∙ sym (ap is_resent is))

  -- `repeated M` is said to `repeat` alone
  other_repeats : (command : Command) (old new : Scene) → ComesOther command old (Some (answer_is.Resent count)) new → RepeatsAll old (Some (answer_is.Resent count)) new
  other_repeats command_is.Repeat old new c = c
  other_repeats (command_is.Abort pid) old new c = absurd (never (told_abort (past_in old) pid c.0) (abort_told (past_in old) pid c.0) c.3)
  other_repeats (command_is.Server server) old new c = absurd (never (told_up server c.0) (up_told server c.0) c.2)
  other_repeats (command_is.Die server) old new c = absurd (never (told_death server c.0) (death_told server c.0) c.2)
  other_repeats (command_is.Expire server) old new c = absurd (never (told_down server c.0) (down_told server c.0) c.3)
  other_repeats (command_is.Refuse server most) old new c = absurd (never (told_arming c.0) (arming_told c.0) c.2)
  other_repeats (command_is.RefuseStorage most) old new c = absurd (never (told_arming c.0) (arming_told c.0) c.2)
  other_repeats (command_is.Step most) old new c = absurd c
  other_repeats command_is.Settle old new c = absurd c
  other_repeats command_is.Lose old new c = absurd (never (Some (answer_is.Lost c.0)) refl c.2)
  other_repeats command_is.Balance old new c = absurd c
  other_repeats command_is.Procs old new c = absurd c.0
  other_repeats command_is.ProcsJson old new c = absurd c.0
  other_repeats command_is.Regions old new c = absurd c.0
  other_repeats command_is.Locks old new c = absurd c.0
  other_repeats command_is.Servers old new c = absurd c.0
  other_repeats command old new c = absurd c

  repeat_says : (command : Command) (old new : Scene) → Answers command old (answer_is.Resent count) new → Answers command_is.Repeat old (answer_is.Resent count) new
  repeat_says command old new = by (halt_at old)
    where
      by_ask : (ask : Option (Nonce × Request)) → MatchOption ask (ComesOther command old (Some (answer_is.Resent count)) new) (λ ask. Submits ask.0 ask.1 old (Some (answer_is.Resent count)) new)
          → RepeatsAll old (Some (answer_is.Resent count)) new
      by_ask None c = other_repeats command old new c
      by_ask (Some ask) c = absurd (never (told_submit (halt_at new) c.0) (submit_told (halt_at new) c.0) c.3)

      by : (halted : Option Halt) → MatchOption halted (ComesAt command old (Some (answer_is.Resent count)) new) (λ why. (Some (answer_is.Resent count) ≡ Some (answer_is.Halted why)) × (new ≡ old))
          → MatchOption halted (ComesAt command_is.Repeat old (Some (answer_is.Resent count)) new) (λ why. (Some (answer_is.Resent count) ≡ Some (answer_is.Halted why)) × (new ≡ old))
      by None c = by_ask (asked command) c
      by (Some why) c = c

-- a journal that goes on: no fewer are counted, and its fronts are those of before
abbrev GoesTo : Past → Past → Type 0
GoesTo J K = (counted J ≤ counted K) × ((mark : ℕ) → mark ≤ counted J → up_to K mark ≡ up_to J mark)

goes_same : (J : Past) → GoesTo J J
goes_same J = (omega arith, λ mark within. refl)

goes_on : (J K L : Past) → GoesTo J K → GoesTo K L → GoesTo J L
goes_on J K L one two =
    let few = one.0 in
    let more = two.0 in
    (omega (arith, few, more), λ mark within. two.1 mark (omega (arith, few, within)) ∙ one.1 mark within)

goes_one : (entry : Entry) (J : Past) → is_part entry ≡ false → GoesTo J (entry ∷ J)
goes_one entry J other = (let more = count_more entry J other in omega (arith, more), λ mark within. up_to_more entry J mark other within)

goes_by : (added journal : List Entry) → All (λ entry. is_part entry ≡ false) added → GoesTo (back journal) (back (journal ++ added))
goes_by [] journal each = subst (λ (l : List Entry). GoesTo (back journal) (back l)) (sym (append-nil journal)) (goes_same (back journal))
goes_by (entry ∷ added) journal each =
    let here = goes_one entry (back journal) (All-head (λ entry. is_part entry ≡ false) entry added each) in
    let rest = goes_by added (journal ++ entry ∷ []) (All-tail (λ entry. is_part entry ≡ false) entry added each) in
    goes_on (back journal) (back (journal ++ entry ∷ [])) (back (journal ++ entry ∷ added)) (subst (GoesTo (back journal)) (sym (back-push journal entry)) here)
    (subst (λ (l : List Entry). GoesTo (back (journal ++ entry ∷ [])) (back l)) (append_assoc journal (entry ∷ []) added) rest)

-- no command adds a part of a base
no_part : (command : Command) (part : Part) → MayAdd command (entry_is.Base part) → ⊥
no_part command part = by (asked command)
  where
    none : (command : Command) → OtherMayAdd command (entry_is.Base part) → ⊥
    none (command_is.Abort pid) may = cc
    none (command_is.Server server) (inl up) = cc
    none (command_is.Server server) (inr down) = let is = down.1 in cc
    none (command_is.Expire server) may = cc
    none (command_is.Step count) may = may
    none command_is.Settle may = may
    none command_is.Balance may = let is = may.2 in cc
    none command may = may

    by : (ask : Option (Nonce × Request)) → MatchOption ask (OtherMayAdd command (entry_is.Base part)) (λ ask. entry_is.Base part ≡ entry_is.Submit ask.0 ask.1) → ⊥
    by None may = none command may
    by (Some ask) may = cc

other_added : (command : Command) (entry : Entry) → MayAdd command entry → is_part entry ≡ false
other_added command (entry_is.Base part) may = absurd (no_part command part may)
other_added command entry may = refl

others_added : (command : Command) (added : List Entry) → All (MayAdd command) added → All (λ entry. is_part entry ≡ false) added
others_added command [] each = All-nil (λ entry. is_part entry ≡ false)
others_added command (entry ∷ added) each =
    All-cons (λ entry. is_part entry ≡ false) entry added (other_added command entry (All-head (MayAdd command) entry added each)) (others_added command added (All-tail (MayAdd command) entry added each))

abbrev Longer : Scene → Scene → Type 0
Longer old new = GoesTo (past_in old) (past_in new)

longer_same : (old new : Scene) → new ≡ old → Longer old new
longer_same old new same = subst (λ (s : Scene). Longer old s) (sym same) (goes_same (past_in old))

longer_on : (old mid new : Scene) → Longer old mid → Longer mid new → Longer old new
longer_on old mid new one two = goes_on (past_in old) (past_in mid) (past_in new) one two

longer_by : (command : Command) (old new : Scene) (added : List Entry) → All (MayAdd command) added → journal_at new ≡ journal_at old ++ added → Longer old new
longer_by command old new added each grown =
    subst (λ (l : List Entry). GoesTo (past_in old) (back l)) (sym grown) (goes_by added (journal_at old) (others_added command added each))

turns_longer : (commands : List Command) (old : Scene) (marks : List ℕ) (answers : List Answer) (new : Scene) → Transcript commands old marks answers new → Longer old new
turns_longer [] old marks answers new t = longer_same old new t.2
turns_longer (command ∷ commands) old marks answers new (mid, later, rest, exchange, more) =
    longer_on old mid new (longer_by command old mid exchange.added exchange.may exchange.grown) (turns_longer commands mid later rest new more)

end_longer : (mid new : Scene) → EndsThere mid new → Longer mid new
end_longer mid new (inl same) = longer_same mid new same
end_longer mid new (inr (command, lacks)) = let grows = comes_grows mid new command None lacks in longer_by command mid new grows.added grows.each grows.grown

-- `repeat` records nothing
repeat_same : (old : Scene) (count : ℕ) (new : Scene) → Answers command_is.Repeat old (answer_is.Resent count) new → journal_at new ≡ journal_at old
repeat_same old count new fits = let grows = comes_grows old new command_is.Repeat (Some (answer_is.Resent count)) fits in grows.grown ∙ none grows.added grows.each
  where
    none : (added : List Entry) → All (MayAdd command_is.Repeat) added → journal_at old ++ added ≡ journal_at old
    none [] each = append-nil (journal_at old)
    none (entry ∷ added) each = absurd (All-head (MayAdd command_is.Repeat) entry added each)

-- each server that goes down brings what was sent, too
downs_travel : (before : List ℕ) (passed : List Server) (old : Scene) (lines : List Answer) (new : Scene) → Downs passed old lines new → Travelled before old → Travelled before new
downs_travel before [] old lines new d w = subst (λ (s : Scene). Travelled before s) (sym d.1) w
downs_travel before (server ∷ more) old lines new (mid, first, rest, inl down, parts, later) w =
    downs_travel before more mid rest new later (downs_bring server old (Some (answer_is.Expired server down.pid)) mid down.expires before w)
downs_travel before (server ∷ more) old lines new (mid, first, rest, inr dead, parts, later) w =
    downs_travel before more mid rest new later (subst (λ (s : Scene). Travelled before s) (sym dead.2) w)

-- commands, whose journal goes on to a legal one
module _ (before : List ℕ) (last : Scene) (legal : IsLegal (past_in last)) where
  abbrev Each : List ℕ → List Answer → Type 0
  Each = EachRepeatsTwice (length before) (past_in last)

  -- one command's line
  line_twice : (command : Command) (old : Scene) (count : ℕ) (new : Scene) → Answers command old (answer_is.Resent count) new → Travelled before old → Longer new last
      → 2 * length (reported_in (up_to (past_in last) (counted (past_in new)))) ≤ 2 * length before + count
  line_twice command old count new fits w longer =
      let says = repeat_says count command old new fits in
      let mark : ℕ = counted (past_in new) in
      let same : past_in new ≡ past_in old = ap back (repeat_same old count new says) in
      let cut : up_to (past_in last) mark ≡ past_in old = longer.1 mark (omega arith) ∙ up_to_all (past_in new) ∙ same in
      let was : IsLegal (past_in old) = subst IsLegal cut (legal_up_to (past_in last) mark legal) in
      subst (λ (J : Past). 2 * length (reported_in J) ≤ 2 * length before + count) (sym cut) (repeats_both before old count new says was w)

  line_each : (command : Command) (old : Scene) (answer : Answer) (new : Scene) (marks : List ℕ) (answers : List Answer) → Answers command old answer new → Travelled before old → Longer new last
      → Each marks answers → Each (counted (past_in new) ∷ marks) (answer ∷ answers)
  line_each command old (answer_is.Resent count) new marks answers fits w longer rest = (line_twice command old count new fits w longer, rest)
  line_each command old answer new marks answers fits w longer rest = rest

  turns_each : (commands : List Command) (old : Scene) (marks : List ℕ) (answers : List Answer) (new : Scene) → Transcript commands old marks answers new → Travelled before old → Longer new last → Each marks answers
  turns_each [] old marks answers new t w longer = subst (λ m. Each m answers) (sym t.0) tt
  turns_each (command ∷ commands) old marks answers new (mid, later, rest, exchange, more) w longer =
      let goes = longer_on mid new last (turns_longer commands mid later rest new more) longer in
      let each = turns_each commands mid later rest new more (commands_bring command old (Some exchange.answer) mid exchange.fits before w) longer in
      subst (λ m. Each m answers) (sym exchange.mark)
      (subst (λ a. Each (counted (past_in mid) ∷ later) a) (sym exchange.said) (line_each command old exchange.answer mid later rest exchange.fits w goes each))

pub runs_repeat : RunsRepeatTwice
runs_repeat kept passed lines start downs commands marks answers mid turns new ends legal =
    let before = reported_in (past_in (new_scene kept)) in
    turns_each before new legal commands start marks answers mid turns (downs_travel before passed (new_scene kept) lines start downs (new_travelled kept)) (end_longer mid new ends)
