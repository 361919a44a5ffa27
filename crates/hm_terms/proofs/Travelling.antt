-- Each report that is recorded was made of a call that was sent, whatever comes.
use Rattle.std.proofs.Common.{◌≡◌, ◌⊎◌, ◌+◌, ◌*◌, ◌≤◌, ℕ, List, [], ◌∷◌, ◌++◌, All, length, map, nat_lt, Bool, true, false, ◌==◌, cond, Option, Some, None, Result, Ok, Err, refl, sym, ap, ◌∙◌, subst, inl, inr, is_some, append-nil, append_assoc, arith}
use Rattle.std.specs.Prelude.{MatchOption}
use Rattle.std.specs.declared.cmp.Ordering.{Ordering}
use Rattle.std.specs.declared.cmp.Ordering.TheVariants.{Less, Equal, Greater}
use Rattle.std.proofs.lemmas.Bool.{eq-eqb, false≢true}
use Rattle.std.proofs.lemmas.List.{length-append, length-map}
use Rattle.std.proofs.lemmas.List.Elements.{All-head, All-tail}
use Rattle.std.proofs.lemmas.Option.{none-some, same_Some}
use Rattle.hm_names.specs.Region.{Region}
use Rattle.hm_names.specs.declared.pid.Pid.{Pid}
use Rattle.hm_data.specs.declared.call.Call.{Call}
use Rattle.hm_data.specs.declared.call.Peer.{Peer}
use Rattle.hm_data.specs.declared.call.Peer.TheVariants as peer_is
use Rattle.hm_data.specs.declared.call.ReportMsg.{ReportMsg}
use Rattle.hm_data.specs.declared.call.Told.{Told}
use Rattle.hm_data.specs.declared.call.Told.TheVariants as told_is
use Rattle.hm_data.specs.declared.call.Verb.{Verb}
use Rattle.hm_data.specs.declared.call.Verb.TheVariants as verb_is
use Rattle.hm_data.specs.declared.entry.Entry.{Entry}
use Rattle.hm_data.specs.declared.entry.Entry.TheVariants as entry_is
use Rattle.hm_model.specs.Actors.{Actor, Served, Service, age, closing, once_more, opening, reported, serve_by, serve_verb}
use Rattle.hm_model.specs.Storages.{Storage, fence_in, lay_in, refuse_in, store_by, store_verb, stored}
use Rattle.hm_model.specs.Answers.{report_of}
use Rattle.hm_model.specs.Journal.{Past, back}
use Rattle.hm_model.specs.Locks.{IsIn}
use Rattle.hm_model.specs.Rules.{IsLegal}
use Rattle.hm_model.proofs.Prefixes.{back-push}
use Rattle.hm_exec.specs.Hearing.{report_entry}
use Rattle.hm_hall.specs.declared.fault.Halt.{Halt}
use Rattle.hm_hall.specs.declared.fault.HallFault.{HallFault}
use Rattle.hm_hall.specs.declared.fault.HallFault.TheVariants as fault_is
use Rattle.hm_world_model.specs.Claims.{AreOnce}
use Rattle.hm_world_model.specs.Outside.{Outside, answer_by, answer_of_actor, armed, deliver_by, delivered, died, report_to, started, with_report, with_sent}
use Rattle.hm_world_model.proofs.Facts.{in_both, in_pushed, pushed_new, pushed_old}
use Rattle.hm_world.specs.Acts.{Repeats}
use Rattle.hm_world.specs.Scene.{Scene, past_in}
use Rattle.hm_world.specs.Sound.{IsSent}
use Rattle.hm_script.specs.declared.command.Command.{Command}
use Rattle.hm_script.specs.declared.command.Command.TheVariants as command_is
use Rattle.hm_commands.specs.Commands.{Answers, RepeatsAll}
use Rattle.hm_commands.specs.Scenes.{halt_at, journal_at, new_scene}
use Rattle.hm_commands.specs.Telling.{told_repeat}
use Rattle.hm_commands.specs.declared.answer.Answer.{Answer}
use Rattle.hm_commands.specs.declared.answer.Answer.TheVariants as answer_is
use Rattle.hm_terms.specs.Theorem.{AnswersInTurn, CommandsBring, DownsBring, NewHasTravelled, RepeatsCallAndReport, RepeatsTwiceTheReports}
use Rattle.hm_terms.specs.Travels.{HasTravelled, Travelled, reported_in}
use Rattle.hm_terms.proofs.Moves.{IsKept, IsQuiet, IsSilent, comes_on, expires_on}
use Rattle.hm_terms.proofs.Once.{few_among}

-- what is answered to a call is of it
abbrev IsOf : Pid → Option ReportMsg → Type 0
IsOf id made = (report : ReportMsg) → made ≡ Some report → report.call ≡ id

module _ (id : Pid) where
  of_it : (report : ReportMsg) → report.call ≡ id → IsOf id (Some report)
  of_it report own other e = ap (λ (x : ReportMsg). x.call) (sym (same_Some report other e)) ∙ own

  of_none : IsOf id None
  of_none other e = absurd (none-some other e)

  once_of : (actor : Actor) (last : Option Served) → IsOf id (once_more actor id last)
  once_of actor None = of_none
  once_of actor (Some last) = of_it (reported actor id last.told) refl

  serve_of : (actor : Actor) (region : Region) (service : Service) (order : Ordering) → IsOf id (serve_by order actor id region service).1
  serve_of actor region service Less = of_none
  serve_of actor region service Equal = once_of actor (actor.last region)
  serve_of actor region service Greater = of_it (reported actor id service.told) refl

  served_of : (actor : Actor) (verb : Verb) → IsOf id (serve_verb actor id verb).1
  served_of actor (verb_is.AssignRegion region) = serve_of actor region (opening actor region) (age (actor.last region) id)
  served_of actor (verb_is.CloseRegion region) = serve_of actor region (closing actor) (age (actor.last region) id)
  served_of actor (verb_is.Fence server) = of_none
  served_of actor (verb_is.Layout root) = of_none
  served_of actor (verb_is.Sweep root) = of_none

  store_of : (answer : Option Told) (storage : Storage) (told : Told) (behind : Storage) → IsOf id (store_by answer storage id told behind).1
  store_of (Some before) storage told behind = of_it (stored id before) refl
  store_of None storage told behind = of_it (stored id told) refl

  stored_of : (storage : Storage) (verb : Verb) → IsOf id (store_verb storage id verb).1
  stored_of storage (verb_is.AssignRegion region) = of_none
  stored_of storage (verb_is.CloseRegion region) = of_none
  stored_of storage (verb_is.Fence server) = store_of (storage.answer id) storage told_is.Fenced (fence_in server storage)
  stored_of storage (verb_is.Layout root) = by (nat_lt 0 storage.refusals)
    where
      by : (b : Bool) → IsOf id (cond b (store_by (storage.answer id) storage id told_is.Refused (refuse_in storage)) (store_by (storage.answer id) storage id told_is.LaidOut (lay_in root true storage))).1
      by true = store_of (storage.answer id) storage told_is.Refused (refuse_in storage)
      by false = store_of (storage.answer id) storage told_is.LaidOut (lay_in root true storage)
  stored_of storage (verb_is.Sweep root) = store_of (storage.answer id) storage told_is.Swept (lay_in root false storage)

report_is_of : (o : Outside) (call : Call) → IsOf call.id (report_to o call)
report_is_of o call = by call.peer
  where
    by_actor : (actor : Option Actor) → IsOf call.id (answer_of_actor actor call)
    by_actor None = of_none call.id
    by_actor (Some actor) = served_of call.id actor call.verb

    by : (peer : Peer) → IsOf call.id (answer_by o call peer)
    by (peer_is.Server server) = by_actor (o.actors server)
    by peer_is.Storage = stored_of call.id o.storage call.verb

-- entries that are no reports
silent_reports : (entry : Entry) (J : Past) → IsSilent entry → reported_in (entry ∷ J) ≡ reported_in J
silent_reports (entry_is.Report call told) J silent = absurd silent
silent_reports (entry_is.Base part) J silent = absurd silent
silent_reports entry J silent = refl

reports_all : (journal added : List Entry) → All IsSilent added → reported_in (back (journal ++ added)) ≡ reported_in (back journal)
reports_all journal [] all = ap (λ (j : List Entry). reported_in (back j)) (append-nil journal)
reports_all journal (entry ∷ added) all =
    ap (λ (j : List Entry). reported_in (back j)) (sym (append_assoc journal (entry ∷ []) added))
    ∙ reports_all (journal ++ entry ∷ []) added (All-tail IsSilent entry added all)
    ∙ ap reported_in (back-push journal entry) ∙ silent_reports entry (back journal) (All-head IsSilent entry added all)

reports_same : (old new : Scene) → IsQuiet old new → reported_in (past_in new) ≡ reported_in (past_in old)
reports_same old new quiet = ap (λ (j : List Entry). reported_in (back j)) quiet.grown ∙ reports_all (journal_at old) quiet.added quiet.each

-- what a delivery sends and reports
delivered_sent : (o : Outside) (call : Call) (peer : Peer) → (deliver_by o call peer).sent ≡ o.sent
delivered_sent o call (peer_is.Server server) = refl
delivered_sent o call peer_is.Storage = refl

delivered_reports : (o : Outside) (call : Call) (peer : Peer) → (deliver_by o call peer).reports ≡ with_report o.reports (answer_by o call peer)
delivered_reports o call (peer_is.Server server) = refl
delivered_reports o call peer_is.Storage = refl

in_report : (reports : List ReportMsg) (made : Option ReportMsg) (report : ReportMsg) → IsIn report (with_report reports made) → (made ≡ Some report) ⊎ IsIn report reports
in_report reports None report there = inr there
in_report reports (Some last) report there = elim (in_pushed report last reports there) [ inl same ↦ inl (ap Some (sym same)) | inr old ↦ inr old ]

report_stays : (reports : List ReportMsg) (made : Option ReportMsg) (report : ReportMsg) → IsIn report reports → IsIn report (with_report reports made)
report_stays reports None report there = there
report_stays reports (Some last) report there = pushed_old report last reports there

-- what waits was reported, after one report more too
waits_too : (waiting reports : List ReportMsg) (made : Option ReportMsg) → ((report : ReportMsg) → IsIn report waiting → IsIn report reports)
    → (report : ReportMsg) → IsIn report (with_report waiting made) → IsIn report (with_report reports made)
waits_too waiting reports None among report there = among report there
waits_too waiting reports (Some last) among report there = elim (in_pushed report last waiting there) [
  | inl own ↦ subst (λ r. IsIn r (reports ++ last ∷ [])) (sym own) (pushed_new last reports)
  | inr old ↦ pushed_old report last reports (among report old)
]

-- what each thing that can happen does
module _ (before recorded : List ℕ) (wire : List Call) (waiting : List ReportMsg) (o : Outside) (w : HasTravelled before recorded wire waiting o) where
  -- somebody else runs, or is to refuse
  elsewhere : (o' : Outside) → o'.sent ≡ o.sent → o'.reports ≡ o.reports → HasTravelled before recorded wire waiting o'
  elsewhere o' sent reports = record {
    sent = record {
      wire_is = λ call there. subst (IsIn call) (sym sent) (w.sent.wire_is call there);
      waiting_is = λ report there. subst (IsIn report) (sym reports) (w.sent.waiting_is report there);
    };
    made = λ report there. let one = w.made report (subst (IsIn report) reports there) in (one.0, subst (IsIn one.0) (sym sent) one.1, one.2);
    heard = λ p there. elim (w.heard p there) [ inl old ↦ inl old | inr more ↦ inr (more.0, subst (IsIn more.0) (sym reports) more.1, more.2) ];
  }

  lost : HasTravelled before recorded [] [] o
  lost = record { sent = record { wire_is = λ call there. absurd there; waiting_is = λ report there. absurd there }; made = w.made; heard = w.heard }

  repeated : HasTravelled before recorded (wire ++ o.sent) (waiting ++ o.reports) o
  repeated = record {
    sent = record {
      wire_is = λ call there. elim (in_both call wire o.sent there) [ inl old ↦ w.sent.wire_is call old | inr more ↦ more ];
      waiting_is = λ report there. elim (in_both report waiting o.reports there) [ inl old ↦ w.sent.waiting_is report old | inr more ↦ more ];
    };
    made = w.made;
    heard = w.heard;
  }

  called : (call : Call) → HasTravelled before recorded (wire ++ call ∷ []) waiting (with_sent o call)
  called call = record {
    sent = record {
      wire_is = λ one there. elim (in_pushed one call wire there) [
        | inl own ↦ subst (λ c. IsIn c (o.sent ++ call ∷ [])) (sym own) (pushed_new call o.sent)
        | inr old ↦ pushed_old one call o.sent (w.sent.wire_is one old)
      ];
      waiting_is = w.sent.waiting_is;
    };
    made = λ report there. let one = w.made report there in (one.0, pushed_old one.0 call o.sent one.1, one.2);
    heard = w.heard;
  }

-- the oldest report waits no longer
module _ (before recorded : List ℕ) (wire : List Call) (report : ReportMsg) (rest : List ReportMsg) (o : Outside) (w : HasTravelled before recorded wire (report ∷ rest) o) where
  one_less : IsSent wire rest o
  one_less = record { wire_is = w.sent.wire_is; waiting_is = λ one there. w.sent.waiting_is one (inr there) }

  ignored_one : HasTravelled before recorded wire rest o
  ignored_one = record { sent = one_less; made = w.made; heard = w.heard }

  -- it is recorded
  heard_one : HasTravelled before (report.call.0 ∷ recorded) wire rest o
  heard_one = record {
    sent = one_less;
    made = w.made;
    heard = λ p there. elim there [ inl same ↦ inr (report, w.sent.waiting_is report (inl refl), same) | inr old ↦ w.heard p old ];
  }

-- the oldest call is delivered
module _ (before recorded : List ℕ) (call : Call) (rest : List Call) (waiting : List ReportMsg) (o : Outside) (w : HasTravelled before recorded (call ∷ rest) waiting o) where
  sent_same : (delivered o call).sent ≡ o.sent
  sent_same = delivered_sent o call call.peer

  reports_now : (delivered o call).reports ≡ with_report o.reports (report_to o call)
  reports_now = delivered_reports o call call.peer

  made_of : (report : ReportMsg) → IsIn report (with_report o.reports (report_to o call)) → (one : Call) × IsIn one o.sent × (report.call ≡ one.id)
  made_of report there = elim (in_report o.reports (report_to o call) report there) [
    | inl now ↦ (call, w.sent.wire_is call (inl refl), report_is_of o call report now)
    | inr old ↦ w.made report old
  ]

  delivered_one : HasTravelled before recorded rest (with_report waiting (report_to o call)) (delivered o call)
  delivered_one = record {
    sent = record {
      wire_is = λ one there. subst (IsIn one) (sym sent_same) (w.sent.wire_is one (inr there));
      waiting_is = λ report there. subst (IsIn report) (sym reports_now) (waits_too waiting o.reports (report_to o call) w.sent.waiting_is report there);
    };
    made = λ report there. let one = made_of report (subst (IsIn report) reports_now there) in (one.0, subst (IsIn one.0) (sym sent_same) one.1, one.2);
    heard = λ p there. elim (w.heard p there) [
      | inl old ↦ inl old
      | inr more ↦ inr (more.0, subst (IsIn more.0) (sym reports_now) (report_stays o.reports (report_to o call) more.0 more.1), more.2)
    ];
  }

armed_sent : (o : Outside) (to : Peer) (count : ℕ) → (armed o to count).sent ≡ o.sent
armed_sent o (peer_is.Server server) count = refl
armed_sent o peer_is.Storage count = refl

armed_reports : (o : Outside) (to : Peer) (count : ℕ) → (armed o to count).reports ≡ o.reports
armed_reports o (peer_is.Server server) count = refl
armed_reports o peer_is.Storage count = refl

module _ (before : List ℕ) where
  -- a scene has what another has, and these calls are reported there
  abbrev Has : List ℕ → Scene → Type 0
  Has recorded at = HasTravelled before recorded at.wire at.waiting at.outside

  -- with as many reports
  as_quiet : (old new there : Scene) → IsQuiet old new → new ≡ there → Has (reported_in (past_in old)) there → Travelled before new
  as_quiet old new there quiet is has =
      subst (λ r. Has r new) (sym (reports_same old new quiet)) (subst (Has (reported_in (past_in old))) (sym is) has)

  -- with the same journal
  as_before : (old new there : Scene) → past_in there ≡ past_in old → new ≡ there → Has (reported_in (past_in old)) there → Travelled before new
  as_before old new there same is has = subst (Travelled before) (sym is) (subst (λ (J : Past). Has (reported_in J) there) (sym same) has)

  kept : IsKept peer_is.Storage (λ n at. Travelled before at)
  kept = record {
    more = λ n m at w. w;
    quiet = λ n old new quiet is w. as_quiet old new (record old { exec = new.exec }) quiet is w;
    heard = λ n report rest old new waits heard grown is w. heard_kept report rest old new waits grown is w;
    ignored = λ n report rest old new waits quiet is w.
        as_quiet old new (record old { exec = new.exec; waiting = rest }) quiet is
        (ignored_one before (reported_in (past_in old)) old.wire report rest old.outside (subst (λ l. HasTravelled before (reported_in (past_in old)) old.wire l old.outside) waits w));
    delivered_on = λ n call rest old new wire is w.
        as_before old new (record old { outside = delivered old.outside call; wire = rest; waiting = with_report old.waiting (report_to old.outside call) }) refl is
        (delivered_one before (reported_in (past_in old)) call rest old.waiting old.outside (subst (λ l. HasTravelled before (reported_in (past_in old)) l old.waiting old.outside) wire w));
    sent_on = λ n call old new wire is w.
        as_before old new (record old { outside = with_sent old.outside call; wire = call ∷ [] }) refl is
        (called before (reported_in (past_in old)) [] old.waiting old.outside (subst (λ l. HasTravelled before (reported_in (past_in old)) l old.waiting old.outside) wire w) call);
    started_on = λ n server old new quiet is w.
        as_quiet old new (record old { exec = new.exec; outside = started old.outside server }) quiet is
        (elsewhere before (reported_in (past_in old)) old.wire old.waiting old.outside w (started old.outside server) refl refl);
    died_on = λ n server old new is w.
        as_before old new (record old { outside = died old.outside server }) refl is
        (elsewhere before (reported_in (past_in old)) old.wire old.waiting old.outside w (died old.outside server) refl refl);
    armed_on = λ n to count old new is w.
        as_before old new (record old { outside = armed old.outside to count }) refl is
        (elsewhere before (reported_in (past_in old)) old.wire old.waiting old.outside w (armed old.outside to count) (armed_sent old.outside to count) (armed_reports old.outside to count));
    lost_on = λ n old new is w. as_before old new (record old { wire = []; waiting = [] }) refl is (lost before (reported_in (past_in old)) old.wire old.waiting old.outside w);
    repeated_on = λ n old new is w.
        as_before old new (record old { wire = old.wire ++ old.outside.sent; waiting = old.waiting ++ old.outside.reports }) refl is
        (repeated before (reported_in (past_in old)) old.wire old.waiting old.outside w);
  }
    where
      heard_kept : (report : ReportMsg) (rest : List ReportMsg) (old new : Scene) → old.waiting ≡ report ∷ rest → journal_at new ≡ journal_at old ++ report_entry report ∷ []
          → new ≡ record old { exec = new.exec; waiting = rest } → Travelled before old → Travelled before new
      heard_kept report rest old new waits grown is w =
          let now : past_in new ≡ report_entry report ∷ past_in old = ap back grown ∙ back-push (journal_at old) (report_entry report) in
          subst (λ (J : Past). Has (reported_in J) new) (sym now)
          (subst (Has (report.call.0 ∷ reported_in (past_in old))) (sym is)
          (heard_one before (reported_in (past_in old)) old.wire report rest old.outside (subst (λ l. HasTravelled before (reported_in (past_in old)) old.wire l old.outside) waits w)))

-- a call is reported now, or was before
reported_more : (told : Told) (earlier : Option Told) (p call : ℕ) → (p ≡ call) ⊎ (is_some earlier ≡ true) → is_some (cond (p == call) (Some told) earlier) ≡ true
reported_more told earlier p call h = by (p == call) refl h
  where
    by : (b : Bool) → (p == call) ≡ b → (p ≡ call) ⊎ (is_some earlier ≡ true) → is_some (cond b (Some told) earlier) ≡ true
    by true e h = refl
    by false e (inr there) = there
    by false e (inl here) = absurd (false≢true (sym e ∙ eq-eqb p call here))

-- each call that is reported has a report
has_report : (J : Past) (p : ℕ) → IsIn p (reported_in J) → is_some (report_of J p) ≡ true
has_report [] p h = absurd h
has_report (entry_is.Report call told ∷ earlier) p h =
    reported_more told (report_of earlier p) p call.0 (elim h [ inl here ↦ inl here | inr there ↦ inr (has_report earlier p there) ])
has_report (entry_is.Base part ∷ earlier) p h = absurd h
has_report (entry ∷ earlier) p h = has_report earlier p h

-- a legal journal reports each call once
reported_once : (J : Past) → IsLegal J → AreOnce (reported_in J)
reported_once [] legal = tt
reported_once (entry_is.Report call told ∷ earlier) legal =
    (λ there. false≢true (sym (ap is_some legal.1.1.0.1) ∙ has_report earlier call.0 there), reported_once earlier legal.0)
reported_once (entry_is.Base part ∷ earlier) legal = tt
reported_once (entry ∷ earlier) legal = reported_once earlier legal.0

-- the numbers of calls, and of what is reported
abbrev calls_of : List Call → List ℕ
calls_of calls = map (λ (call : Call). call.id.0) calls

abbrev reports_of : List ReportMsg → List ℕ
reports_of reports = map (λ (report : ReportMsg). report.call.0) reports

in_calls : (call : Call) (calls : List Call) → IsIn call calls → IsIn call.id.0 (calls_of calls)
in_calls call [] there = absurd there
in_calls call (first ∷ calls) (inl same) = inl (ap (λ (c : Call). c.id.0) same)
in_calls call (first ∷ calls) (inr there) = inr (in_calls call calls there)

in_reports_of : (report : ReportMsg) (reports : List ReportMsg) → IsIn report reports → IsIn report.call.0 (reports_of reports)
in_reports_of report [] there = absurd there
in_reports_of report (first ∷ reports) (inl same) = inl (ap (λ (r : ReportMsg). r.call.0) same)
in_reports_of report (first ∷ reports) (inr there) = inr (in_reports_of report reports there)

in_front : (p : ℕ) (xs ys : List ℕ) → IsIn p xs → IsIn p (xs ++ ys)
in_front p [] ys there = absurd there
in_front p (x ∷ xs) ys (inl same) = inl same
in_front p (x ∷ xs) ys (inr there) = inr (in_front p xs ys there)

in_back : (p : ℕ) (xs ys : List ℕ) → IsIn p ys → IsIn p (xs ++ ys)
in_back p [] ys there = there
in_back p (x ∷ xs) ys there = inr (in_back p xs ys there)

-- no more reports than were made, and than calls were sent
module _ (before recorded : List ℕ) (wire : List Call) (waiting : List ReportMsg) (o : Outside) (w : HasTravelled before recorded wire waiting o) (once : AreOnce recorded) where
  few_reports : length recorded ≤ length (before ++ reports_of o.reports)
  few_reports = few_among recorded (before ++ reports_of o.reports) once (λ p there. elim (w.heard p there) [
    | inl old ↦ in_front p before (reports_of o.reports) old
    | inr more ↦ in_back p before (reports_of o.reports) (subst (λ q. IsIn q (reports_of o.reports)) (sym more.2) (in_reports_of more.0 o.reports more.1))
  ])

  few_calls : length recorded ≤ length (before ++ calls_of o.sent)
  few_calls = few_among recorded (before ++ calls_of o.sent) once (λ p there. elim (w.heard p there) [
    | inl old ↦ in_front p before (calls_of o.sent) old
    | inr more ↦
        let one = w.made more.0 more.1 in
        in_back p before (calls_of o.sent) (subst (λ q. IsIn q (calls_of o.sent)) (sym (more.2 ∙ ap (λ (x : Pid). x.0) one.2)) (in_calls one.0 o.sent one.1))
  ])

  twice : 2 * length recorded ≤ 2 * length before + (length o.sent + length o.reports)
  twice =
      let made : length (before ++ reports_of o.reports) ≡ length before + length o.reports = length-append before (reports_of o.reports) ∙ ap (λ m. length before + m) (length-map o.reports (λ (report : ReportMsg). report.call.0)) in
      let sent : length (before ++ calls_of o.sent) ≡ length before + length o.sent = length-append before (calls_of o.sent) ∙ ap (λ m. length before + m) (length-map o.sent (λ (call : Call). call.id.0)) in
      let reports = few_reports in
      let calls = few_calls in
      omega (arith, made, sent, reports, calls)

-- what `repeat` answers
repeat_counts : (old : Scene) (count : ℕ) (new : Scene) → Answers command_is.Repeat old (answer_is.Resent count) new → count ≡ length old.outside.sent + length old.outside.reports
repeat_counts old count new = by (halt_at old)
  where
    by_result : (result : Result ℕ HallFault) → Repeats old result new → Some (answer_is.Resent count) ≡ told_repeat result → count ≡ length old.outside.sent + length old.outside.reports
    by_result (Ok all) r told = let now : Some (answer_is.Resent count) ≡ Some (answer_is.Resent all) = told in let same : count ≡ all = cc in same ∙ r.1.0
    by_result (Err (fault_is.Halted why)) r told = let other : Some (answer_is.Resent count) ≡ Some (answer_is.Halted why) = told in cc
    by_result (Err fault_is.Memory) r told = let none : Some (answer_is.Resent count) ≡ None = told in cc
    by_result (Err fault_is.LogFault) r told = absurd r
    by_result (Err (fault_is.JournalFull bytes)) r told = absurd r

    by : (halted : Option Halt) → MatchOption halted (RepeatsAll old (Some (answer_is.Resent count)) new) (λ why. (Some (answer_is.Resent count) ≡ Some (answer_is.Halted why)) × (new ≡ old))
        → count ≡ length old.outside.sent + length old.outside.reports
    by None c = by_result c.0 c.1 c.2
    by (Some why) c = let other = c.0 in cc

-- the laws
pub new_travelled : NewHasTravelled
new_travelled state = record {
  sent = record { wire_is = λ call never. absurd never; waiting_is = λ report never. absurd never };
  made = λ report never. absurd never;
  heard = λ p there. inl there;
}

pub commands_bring : CommandsBring
commands_bring command old answer new c before w = comes_on peer_is.Storage (λ n at. Travelled before at) (kept before) 0 old w new command answer c

pub downs_bring : DownsBring
downs_bring server old answer new c before w = expires_on peer_is.Storage (λ n at. Travelled before at) (kept before) 0 old w new server answer c

pub repeats_both : RepeatsCallAndReport
repeats_both before old count new c legal w =
    let most = twice before (reported_in (past_in old)) old.wire old.waiting old.outside w (reported_once (past_in old) legal) in
    let counts = repeat_counts old count new c in
    omega (arith, most, counts)

turns_bring : (commands : List Command) (old : Scene) (answers : List Answer) (new : Scene) → AnswersInTurn commands old answers new → (before : List ℕ) → Travelled before old → Travelled before new
turns_bring [] old answers new t before w = subst (Travelled before) (sym t.1) w
turns_bring (command ∷ commands) old answers new t before w = turns_bring commands t.0 t.2 new t.5 before (commands_bring command old (Some t.1) t.0 t.3 before w)

pub repeats_twice : RepeatsTwiceTheReports
repeats_twice state commands answers mid turns count new c legal =
    let before = reported_in (past_in (new_scene state)) in
    repeats_both before mid count new c legal (turns_bring commands (new_scene state) answers mid turns before (new_travelled state))
