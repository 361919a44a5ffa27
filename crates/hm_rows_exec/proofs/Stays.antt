-- What a call of the executor leaves of what is claimed.
use Rattle.std.proofs.lemmas.List.Elements.{All-nil, All-cons, All-head, All-tail, All-weaker, All-get_or, All-append, All-take, All-drop}
use Rattle.std.proofs.Common.{◌≡◌, ◌≢◌, ◌⊎◌, ◌<◌, ℕ, suc, List, [], ◌∷◌, ◌++◌, length, take, drop, get_or, Bool, true, false, Option, Some, None, Result, Ok, Err, All, refl, sym, ap, ◌∙◌, subst, inl, inr}
use Rattle.std.specs.List.{remove}
use Rattle.hm_names.specs.Server.{Server}
use Rattle.hm_names.specs.declared.nonce.Nonce.{Nonce}
use Rattle.hm_names.specs.declared.pid.Pid.{Pid}
use Rattle.hm_data.specs.declared.call.ReportMsg.{ReportMsg}
use Rattle.hm_data.specs.declared.entry.Entry.{Entry}
use Rattle.hm_data.specs.declared.entry.Entry.TheVariants as entry_is
use Rattle.hm_data.specs.declared.request.Request.{Request}
use Rattle.hm_data.specs.declared.sheet.Sheet.{Sheet}
use Rattle.hm_data.specs.declared.step.StepIn.{StepIn}
use Rattle.hm_data.specs.declared.step.StepOut.{StepOut}
use Rattle.hm_data.specs.declared.step.Turn.{Turn}
use Rattle.hm_data.specs.declared.step.Turn.TheVariants as turn_is
use Rattle.hm_hall.specs.Recording.{Recording}
use Rattle.hm_hall.specs.declared.fault.HallFault.{HallFault}
use Rattle.hm_hall.specs.declared.fault.HallFault.TheVariants as fault_is
use Rattle.hm_hall.specs.declared.taken.Given.{Given}
use Rattle.hm_hall.specs.declared.taken.Given.TheVariants as given_is
use Rattle.hm_hall.specs.declared.taken.Taken.{Taken}
use Rattle.hm_model.specs.Editions.{sheets_in}
use Rattle.hm_model.specs.Evaluation.{answer_of}
use Rattle.hm_model.specs.Journal.{Past, back}
use Rattle.hm_model.specs.Locks.{IsIn}
use Rattle.hm_model.proofs.Prefixes.{back-push}
use Rattle.hm_model.specs.Claims.{Unclaims}
use Rattle.hm_refusals.specs.declared.aborts.AbortRefused.{AbortRefused}
use Rattle.hm_refusals.specs.declared.aborts.AbortRefused.TheVariants as abort_is
use Rattle.hm_refusals.specs.declared.submissions.Refused.{Refused}
use Rattle.hm_refusals.specs.declared.submissions.Refused.TheVariants as refused_is
use Rattle.hm_exec.specs.Claiming.{AnswersClaim, AnswersCommit, PutsBack, RefusesCommit, entry_by}
use Rattle.hm_exec.specs.Fleet.{AnswersDown, AnswersUp, FaultsCopying, FaultsFirst, PutsDown}
use Rattle.hm_exec.specs.Hearing.{AnswersReport, report_entry}
use Rattle.hm_exec.specs.Moment.{FaultsAt, IsAdded, IsFault, Moment}
use Rattle.hm_exec.specs.Submitting.{AnswersAbort, AnswersSubmit}
use Rattle.hm_exec.specs.declared.answers.Accepted.{Accepted}
use Rattle.hm_exec.specs.declared.answers.DownWhy.{DownWhy}
use Rattle.hm_exec.specs.declared.answers.DownWhy.TheVariants as down_why
use Rattle.hm_exec.specs.declared.answers.Heard.{Heard}
use Rattle.hm_exec.specs.declared.answers.Heard.TheVariants as heard_is
use Rattle.hm_exec.specs.declared.answers.UpWhy.{UpWhy}
use Rattle.hm_exec.specs.declared.answers.UpWhy.TheVariants as up_why
use Rattle.hm_rows_exec.specs.Outs.{AreLeft, AreOthers, AreOut, IsOut, IsTaken, StayOut, sheets_at}

-- an entry that isn't the first leaves the sheets of each edition
abbrev Leaves : Entry → Type 0
Leaves entry = (J : Past) → sheets_in (entry ∷ J) ≡ sheets_in J

-- the sheets of what was recorded with one entry more
recorded_leaves : (old new : Recording) (entry : Entry) → Leaves entry → new ≡ record old { entries = old.entries ++ entry ∷ []; next = None }
    → sheets_in (back new.entries) ≡ sheets_in (back old.entries)
recorded_leaves old new entry leaves is =
    ap (λ (k : Recording). sheets_in (back k.entries)) is ∙ ap sheets_in (back-push old.entries entry) ∙ leaves (back old.entries)

by_same : (old new : Moment) → new ≡ old → StayOut old new
by_same old new same = (ap (λ (m : Moment). m.claimed) same, ap sheets_at same)

by_added : (old new : Moment) (entry : Entry) → Leaves entry → IsAdded old entry new → StayOut old new
by_added old new entry leaves added = (added.3, recorded_leaves old.kept new.kept entry leaves added.2.1.3)

by_faults : (old new : Moment) (entry : Entry) (fault : HallFault) → FaultsAt old entry fault new → StayOut old new
by_faults old new entry (fault_is.Halted why) faults = by_same old new faults.1
by_faults old new entry fault_is.LogFault faults = (faults.2.1, ap (λ (k : Recording). sheets_in (back k.entries)) faults.2.0.2)
by_faults old new entry (fault_is.JournalFull bytes) faults = (faults.2.1, ap (λ (k : Recording). sheets_in (back k.entries)) faults.2.0.3)
by_faults old new entry fault_is.Memory faults = by_same old new faults.2.1

then : (old between new : Moment) → StayOut old between → StayOut between new → StayOut old new
then old between new first second = (second.0 ∙ first.0, second.1 ∙ first.1)

-- a submission
by_full : (old new : Moment) (entry : Entry) (bytes : ℕ) → IsFault old entry (fault_is.JournalFull bytes) new → StayOut old new
by_full old new entry bytes fault = (fault.1, ap (λ (k : Recording). sheets_in (back k.entries)) fault.0.3)

pub submit_stays : (old new : Moment) (nonce : Nonce) (request : Request) (result : Result Accepted Refused) → AnswersSubmit old nonce request result new → StayOut old new
submit_stays old new nonce request (Ok accepted) (inl made) = by_added old new (entry_is.Submit nonce request) (λ J. refl) made.3
submit_stays old new nonce request (Ok accepted) (inr repeated) = by_same old new repeated.3
submit_stays old new nonce request (Err (refused_is.Halted why)) answers = by_same old new answers.1
submit_stays old new nonce request (Err (refused_is.BadArgs number)) answers = by_same old new answers.2
submit_stays old new nonce request (Err (refused_is.NonceClash pid)) answers = by_same old new answers.2
submit_stays old new nonce request (Err (refused_is.TooManyRegions count)) answers = by_same old new answers.2
submit_stays old new nonce request (Err (refused_is.JournalFull bytes)) (inl soft) = by_same old new soft.3
submit_stays old new nonce request (Err (refused_is.JournalFull bytes)) (inr hard) = by_full old new (entry_is.Submit nonce request) bytes hard.1
submit_stays old new nonce request (Err refused_is.Memory) answers = by_same old new answers.1.1
submit_stays old new nonce request (Err refused_is.LogFault) answers = (answers.1.1, ap (λ (k : Recording). sheets_in (back k.entries)) answers.1.0.2)

-- an abort
pub abort_stays : (old new : Moment) (pid : Pid) (result : Result Bool AbortRefused) → AnswersAbort old pid result new → StayOut old new
abort_stays old new pid (Ok true) answers = by_same old new answers.2
abort_stays old new pid (Ok false) answers = by_added old new (entry_is.Abort pid) (λ J. refl) answers.1
abort_stays old new pid (Err (abort_is.Fault (fault_is.Halted why))) answers = by_same old new answers.1
abort_stays old new pid (Err (abort_is.Fault fault_is.LogFault)) answers = by_faults old new (entry_is.Abort pid) fault_is.LogFault answers.1
abort_stays old new pid (Err (abort_is.Fault (fault_is.JournalFull bytes))) answers = by_faults old new (entry_is.Abort pid) (fault_is.JournalFull bytes) answers.1
abort_stays old new pid (Err (abort_is.Fault fault_is.Memory)) answers = by_faults old new (entry_is.Abort pid) fault_is.Memory answers.1
abort_stays old new pid (Err abort_is.Unknown) answers = by_same old new answers.2
abort_stays old new pid (Err (abort_is.Child root)) answers = by_same old new answers.2
abort_stays old new pid (Err (abort_is.Finished phase)) answers = by_same old new answers.2
abort_stays old new pid (Err (abort_is.TooLate row)) answers = by_same old new answers.2

-- a report
pub report_stays : (old new : Moment) (message : ReportMsg) (result : Result Heard HallFault) → AnswersReport old message result new → StayOut old new
report_stays old new message (Ok (heard_is.Accepted number)) answers = by_added old new (report_entry message) (λ J. refl) answers.1
report_stays old new message (Ok (heard_is.Ignored why)) answers = by_same old new answers.2
report_stays old new message (Err (fault_is.Halted why)) answers = by_same old new answers.1
report_stays old new message (Err fault_is.Memory) answers = by_faults old new (report_entry message) fault_is.Memory answers.1
report_stays old new message (Err fault_is.LogFault) answers = by_faults old new (report_entry message) fault_is.LogFault answers.1
report_stays old new message (Err (fault_is.JournalFull bytes)) answers = by_faults old new (report_entry message) (fault_is.JournalFull bytes) answers.1

-- a server that goes down
by_copying : (old new : Moment) (entry : Entry) (fault : HallFault) → FaultsCopying old entry fault new → StayOut old new
by_copying old new entry fault_is.Memory faults = by_same old new faults.2
by_copying old new entry fault_is.LogFault faults = by_faults old new entry fault_is.LogFault faults
by_copying old new entry (fault_is.JournalFull bytes) faults = by_faults old new entry (fault_is.JournalFull bytes) faults
by_copying old new entry (fault_is.Halted why) faults = by_faults old new entry (fault_is.Halted why) faults

pub down_stays : (old new : Moment) (server : Server) (result : Result Pid DownWhy) → AnswersDown old server result new → StayOut old new
down_stays old new server (Ok pid) answers = by_added old new (entry_is.Down server) (λ J. refl) answers.0
down_stays old new server (Err (down_why.Down why)) answers = by_same old new answers.2
down_stays old new server (Err (down_why.Fault (fault_is.Halted why))) answers = by_same old new answers.1
down_stays old new server (Err (down_why.Fault fault_is.Memory)) answers = by_copying old new (entry_is.Down server) fault_is.Memory answers.1
down_stays old new server (Err (down_why.Fault fault_is.LogFault)) answers = by_copying old new (entry_is.Down server) fault_is.LogFault answers.1
down_stays old new server (Err (down_why.Fault (fault_is.JournalFull bytes))) answers = by_copying old new (entry_is.Down server) (fault_is.JournalFull bytes) answers.1

-- a server that comes up: an older one may go down first
by_down : (old between : Moment) (server older : Server) (pid : Pid) → PutsDown old server older pid between → StayOut old between
by_down old between server older pid down = by_added old between (entry_is.Down older) (λ J. refl) down.1

not_up : (old new : Moment) (server : Server) (fault : HallFault)
    → FaultsFirst old server fault new ⊎ ((older : Server) × (pid : Pid) × (between : Moment) × PutsDown old server older pid between × FaultsAt between (entry_is.Up server) fault new) → StayOut old new
not_up old new server fault (inl (inl none)) = by_copying old new (entry_is.Up server) fault none.1
not_up old new server fault (inl (inr first)) = by_copying old new (entry_is.Down first.0) fault first.2
not_up old new server fault (inr last) =
    then old last.2 new (by_down old last.2 server last.0 last.1 last.3) (by_faults last.2 new (entry_is.Up server) fault last.4)

pub up_stays : (old new : Moment) (server : Server) (result : Result (Option (Server × Pid)) UpWhy) → AnswersUp old server result new → StayOut old new
up_stays old new server (Ok None) answers = by_added old new (entry_is.Up server) (λ J. refl) answers.2
up_stays old new server (Ok (Some (older, pid))) answers =
    then old answers.1 new (by_down old answers.1 server older pid answers.2) (by_added answers.1 new (entry_is.Up server) (λ J. refl) answers.3)
up_stays old new server (Err (up_why.Up why)) answers = by_same old new answers.2
up_stays old new server (Err (up_why.Fault (fault_is.Halted why))) answers = by_same old new answers.1
up_stays old new server (Err (up_why.Fault fault_is.Memory)) answers = not_up old new server fault_is.Memory answers.1
up_stays old new server (Err (up_why.Fault fault_is.LogFault)) answers = not_up old new server fault_is.LogFault answers.1
up_stays old new server (Err (up_why.Fault (fault_is.JournalFull bytes))) answers = not_up old new server (fault_is.JournalFull bytes) answers.1

-- what is claimed stays so
out_stays : (old new : Moment) → StayOut old new → (out : Pid × StepIn × StepOut) → IsOut old out → IsOut new out
out_stays old new stay (pid, was, out) is = (
  subst (IsIn (let p = pid in p.0)) (sym stay.0) is.0,
  subst (λ (sheets : ℕ → List Sheet). answer_of (sheets was.edition) was ≡ Some out) (sym stay.1) is.1,
)

pub outs_stay : (old new : Moment) (outs : List (Pid × StepIn × StepOut)) → StayOut old new → AreOut old outs → AreOut new outs
outs_stay old new outs stay are = All-weaker (IsOut old) (IsOut new) (out_stays old new stay) outs are

-- what is true of each by two facts
all_by : {X : Type 0} (P Q R : X → Type 0) → ((x : X) → P x → Q x → R x) → (xs : List X) → All P xs → All Q xs → All R xs
all_by P Q R by [] one other = All-nil R
all_by P Q R by (x ∷ xs) one other =
    All-cons R x xs (by x (All-head P x xs one) (All-head Q x xs other)) (all_by P Q R by xs (All-tail P x xs one) (All-tail Q x xs other))

-- a claim ends, and each edition has the same sheets: the others stay claimed
other_stays : (old new : Moment) (pid : Pid) → Unclaims pid.0 old.claimed new.claimed → sheets_at new ≡ sheets_at old
    → (out : Pid × StepIn × StepOut) → IsOut old out → (let one = out.0 in one.0 ≢ pid.0) → IsOut new out
other_stays old new pid unclaims sheets (one, was, out) is differs = (
  (unclaims (let o = one in o.0)).1 (is.0, differs),
  subst (λ (sheets : ℕ → List Sheet). answer_of (sheets was.edition) was ≡ Some out) (sym sheets) is.1,
)

pub others_stay : (old new : Moment) (pid : Pid) (outs : List (Pid × StepIn × StepOut))
    → Unclaims pid.0 old.claimed new.claimed → sheets_at new ≡ sheets_at old → AreOthers pid outs → AreOut old outs → AreOut new outs
others_stay old new pid outs unclaims sheets others are =
    all_by (IsOut old) _ (IsOut new) (other_stays old new pid unclaims sheets) outs are others

-- a claim
pub claim_stays : (old new : Moment) (result : Result (Option Taken) HallFault) (outs : List (Pid × StepIn × StepOut)) → AnswersClaim old result new → AreOut old outs → AreOut new outs
claim_stays old new (Ok None) outs answers are = outs_stay old new outs (by_same old new answers.2) are
claim_stays old new (Err (fault_is.Halted why)) outs answers are = outs_stay old new outs (by_same old new answers.1) are
claim_stays old new (Err fault_is.Memory) outs answers are = outs_stay old new outs (by_same old new answers.2) are
claim_stays old new (Err fault_is.LogFault) outs answers are = absurd answers
claim_stays old new (Err (fault_is.JournalFull bytes)) outs answers are = absurd answers
claim_stays old new (Ok (Some taken)) outs answers are =
    All-weaker (IsOut old) (IsOut new) stays outs are
  where
    stays : (out : Pid × StepIn × StepOut) → IsOut old out → IsOut new out
    stays (pid, was, out) is = (
      (answers.4 (let p = pid in p.0)).1 (inr is.0),
      subst (λ (sheets : ℕ → List Sheet). answer_of (sheets was.edition) was ≡ Some out) (ap (λ (k : Recording). sheets_in (back k.entries)) (sym answers.3)) is.1,
    )

-- a commit
entry_leaves : (turn : Turn) (p : ℕ) (was : StepIn) (out : StepOut) → Leaves (entry_by turn p was out)
entry_leaves turn_is.Step p was out J = refl
entry_leaves (turn_is.Undo edits) p was out J = refl

pub kept_stay : (old new : Moment) (taken : Taken) (out : StepOut) (number : ℕ) (outs : List (Pid × StepIn × StepOut))
    → AnswersCommit old taken out (Ok (given_is.Kept number)) new → AreOthers taken.pid outs → AreOut old outs → AreOut new outs
kept_stay old new taken out number outs answers others are =
    others_stay old new taken.pid outs answers.4
    (recorded_leaves old.kept new.kept _ (entry_leaves (let was = taken.was in was.turn) (let pid = taken.pid in pid.0) taken.was out) answers.3.3) others are

pub stale_stay : (old new : Moment) (taken : Taken) (out : StepOut) (was now : StepIn) (outs : List (Pid × StepIn × StepOut))
    → AnswersCommit old taken out (Ok (given_is.Stale was now)) new → AreOthers taken.pid outs → AreOut old outs → AreOut new outs
stale_stay old new taken out was now outs answers others are =
    others_stay old new taken.pid outs answers.1.4 (ap (λ (k : Recording). sheets_in (back k.entries)) answers.1.3) others are

pub given_stay : (old new : Moment) (taken : Taken) (out : StepOut) (given : Given) (outs : List (Pid × StepIn × StepOut))
    → AnswersCommit old taken out (Ok given) new → AreOthers taken.pid outs → AreOut old outs → AreOut new outs
given_stay old new taken out (given_is.Kept number) outs answers others are = kept_stay old new taken out number outs answers others are
given_stay old new taken out (given_is.Stale was now) outs answers others are = stale_stay old new taken out was now outs answers others are

pub refused_stays : (old new : Moment) (taken : Taken) (out : StepOut) (fault : HallFault) → RefusesCommit old taken out fault new → StayOut old new
refused_stays old new taken out (fault_is.Halted why) answers = by_same old new answers.1
refused_stays old new taken out fault_is.Memory answers = by_same old new answers.1
refused_stays old new taken out fault_is.LogFault answers = by_faults old new _ fault_is.LogFault answers.1
refused_stays old new taken out (fault_is.JournalFull bytes) answers = by_faults old new _ (fault_is.JournalFull bytes) answers.1

-- a claim is put back
pub put_back_stays : (old new : Moment) (taken : Taken) (outs : List (Pid × StepIn × StepOut))
    → PutsBack old taken new → AreOthers taken.pid outs → AreOut old outs → AreOut new outs
put_back_stays old new taken outs puts others are =
    others_stay old new taken.pid outs puts.1 (ap (λ (k : Recording). sheets_in (back k.entries)) puts.0) others are

-- one is taken from what is claimed
pub taken_left : (outs left : List (Pid × StepIn × StepOut)) (place : ℕ) (out : Pid × StepIn × StepOut) → place < length outs → left ≡ remove outs place → out ≡ get_or outs place out
    → IsTaken outs out left
taken_left outs left place out within are is at all = (
  subst (IsOut at) (sym is) (All-get_or (IsOut at) outs place out within all),
  subst (AreOut at) (sym are) (All-append (IsOut at) (take place outs) (drop (suc place) outs) (All-take (IsOut at) place outs all) (All-drop (IsOut at) (suc place) outs all)),
)

-- where nothing is taken the others are claimed still
pub none_left : (at : Moment) (old new : List (Pid × StepIn × StepOut)) (result : Option (Pid × StepIn × StepOut)) → result ≡ None → AreLeft old result new → AreOut at old → AreOut at new
none_left at old new result is left are = subst (λ (r : Option (Pid × StepIn × StepOut)). AreLeft old r new) is left at are

-- and where one is
pub some_left : (old new : List (Pid × StepIn × StepOut)) (result : Option (Pid × StepIn × StepOut)) (out : Pid × StepIn × StepOut) → result ≡ Some out → AreLeft old result new → IsTaken old out new × AreOthers out.0 new
some_left old new result out is left = subst (λ (r : Option (Pid × StepIn × StepOut)). AreLeft old r new) is left

-- what a commit that met a fault gives back is claimed still
pub back_claimed : (old new : Moment) (taken back : Taken) (out : StepOut) (fault : HallFault) → back ≡ taken → RefusesCommit old taken out fault new
    → IsIn (let pid = taken.pid in pid.0) old.claimed → IsIn (let pid = back.pid in pid.0) new.claimed
back_claimed old new taken back out fault same refused claimed =
    subst (λ (t : Taken). IsIn (let pid = t.pid in pid.0) new.claimed) (sym same)
    (subst (IsIn (let pid = taken.pid in pid.0)) (sym (refused_stays old new taken out fault refused).0) claimed)

-- and is put back
pub back_stays : (old mid new : Moment) (taken back : Taken) (out : StepOut) (fault : HallFault) (outs : List (Pid × StepIn × StepOut)) → back ≡ taken → RefusesCommit old taken out fault mid
    → PutsBack mid back new → AreOthers taken.pid outs → AreOut old outs → AreOut new outs
back_stays old mid new taken back out fault outs same refused puts others are =
    put_back_stays mid new back outs puts (subst (λ (t : Taken). AreOthers t.pid outs) (sym same) others)
    (outs_stay old mid outs (refused_stays old mid taken out fault refused) are)
