-- Every event keeps what is kept, for each length of the journal that a stop may leave.
use Rattle.std.proofs.Common.{◌≡◌, ◌≢◌, ℕ, zero, suc, ◌+◌, ◌-◌, ◌≤◌, List, [], ◌∷◌, ◌++◌, length, drop, length-drop, true, false, Option, Some, None, refl, sym, ◌∙◌, subst, inl, inr, arith}
use Rattle.std.proofs.lemmas.Bool.{false_from_ne_true, true≢false}
use Rattle.std.proofs.lemmas.Option.{none-some, same_Some}
use Rattle.hm_names.specs.Server.{Server}
use Rattle.hm_data.specs.declared.call.Call.{Call}
use Rattle.hm_data.specs.declared.call.Peer.{Peer}
use Rattle.hm_data.specs.declared.call.Peer.TheVariants as peer_is
use Rattle.hm_data.specs.declared.call.ReportMsg.{ReportMsg}
use Rattle.hm_data.specs.declared.entry.Entry.{Entry}
use Rattle.hm_data.specs.declared.entry.Entry.TheVariants as entry_is
use Rattle.hm_model.specs.Fleet.{came_up, has_newer}
use Rattle.hm_model.specs.Image.{counted}
use Rattle.hm_model.specs.Journal.{Past}
use Rattle.hm_model.specs.Laws.{is_part}
use Rattle.hm_model.specs.Locks.{IsIn}
use Rattle.hm_model.specs.Reports.{call_of}
use Rattle.hm_model.specs.Rules.{Allowed, IsLegal}
use Rattle.hm_world_model.specs.Events.{Abort, Adopt, Arm, Claim, Commit, Deliver, DeliverAgain, Die, Ends, Event, Expire, Fault, Flush, Full, GiveUp, Hear, HearAgain, Ignore, Lives, Lose, Repeat, SendOld, DeliverOld, Miss, Send, Start, Stop, Submit, Travels, Works, happens, with_older_down, Roll}
use Rattle.hm_world_model.specs.Outside.{Outside, answer_by, deliver_by, delivered, report_to, started, with_report, with_sent, armed}
use Rattle.hm_world_model.specs.Runs.{CanRoll, CanWrite, GoesOn, IsRolledIn, IsTrueReport, IsWork, May, MayBeRolled, MayEnter, MayStart}
use Rattle.hm_world_model.specs.Safe.{IsKept, IsPlainBehind, Safe}
use Rattle.hm_world_model.specs.World.{Claimed, LogFault, World, claimed_pids, durable_part, first, whole, with_tail}
use Rattle.hm_world_model.specs.Claims.{IsApart}
use Rattle.hm_world_model.proofs.Apart.{apart_on, apart_opened}
use Rattle.hm_world_model.proofs.Appending.{safe_append}
use Rattle.hm_world_model.proofs.Claiming.{apart_claim, apart_commit, apart_give_up, apart_plain}
use Rattle.hm_world_model.proofs.Facts.{call_now, in_both, in_pushed, pushed_new, pushed_old}
use Rattle.hm_world_model.proofs.From.{safe_arm, safe_die, safe_send, safe_start}
use Rattle.hm_world_model.proofs.Fronts.{all_front, drop_again, durable_whole, one_more, whole_front}
use Rattle.hm_world_model.proofs.Rolling.{plain_dropped, plain_later, plain_pushed, plain_within, rolled_all, rolled_first, true_plain}
use Rattle.hm_world_model.proofs.Servers.{not_up, up_stays}
use Rattle.hm_world_model.proofs.Storing.{safe_deliver}

-- for each length from d on
abbrev pub AllTails : Option Entry → Past → ℕ → Outside → Type 0
AllTails tail past d o = (n : ℕ) → n + d ≤ length (with_tail tail past) → Safe (drop n (with_tail tail past)) o

-- the parts of lists
in_dropped : {A : Type 0} (x : A) (xs : List A) → IsIn x (drop 1 xs) → IsIn x xs
in_dropped x [] h = absurd h
in_dropped x (y ∷ xs) h = inr h

in_first : {A : Type 0} (x : A) (xs rest : List A) → xs ≡ x ∷ rest → IsIn x xs
in_first x xs rest e = subst (IsIn x) (sym e) (inl refl)

in_reported : (r : ReportMsg) (xs ys : List ReportMsg) (made : Option ReportMsg) → ((x : ReportMsg) → IsIn x xs → IsIn x ys) → IsIn r (with_report xs made) → IsIn r (with_report ys made)
in_reported r xs ys None more h = more r h
in_reported r xs ys (Some new) more h = elim (in_pushed r new xs h) [
  | inl e ↦ subst (λ x. IsIn x (ys ++ new ∷ [])) (sym e) (pushed_new new ys)
  | inr old ↦ pushed_old r new ys (more r old)
]

-- an entry after the journal
pushed : (entry : Entry) (past : Past) (d : ℕ) (o : Outside) → AllTails None past d o → Safe (entry ∷ past) o → AllTails None (entry ∷ past) d o
pushed entry past d o all safe zero h = safe
pushed entry past d o all safe (suc n) h = all n (omega (arith, h))

-- what a shorter journal recorded stays
pub calls_grow : (past : Past) → IsLegal past → (n : ℕ) (call : Call) → call_of (drop n past) call.id.0 ≡ Some call → call_of past call.id.0 ≡ Some call
calls_grow past legal zero call h = h
calls_grow [] legal (suc n) call h = h
calls_grow (e ∷ past) legal (suc n) call h = call_now e past legal call (calls_grow past legal.0 n call h)

ups_grow : (past : Past) (n : ℕ) (s : Server) → came_up (drop n past) s ≡ true → came_up past s ≡ true
ups_grow past zero s h = h
ups_grow [] (suc n) s h = h
ups_grow (e ∷ past) (suc n) s h = up_stays e past s (ups_grow past n s h)

not_up_before : (past : Past) (n : ℕ) (s : Server) → came_up past s ≡ false → came_up (drop n past) s ≡ false
not_up_before past n s h = false_from_ne_true (came_up (drop n past) s) (λ up. true≢false (sym (ups_grow past n s up) ∙ h))

pub newer_of : (past : Past) (s : Server) → Allowed past (entry_is.Up s) → has_newer past s ≡ false
newer_of past s allowed = allowed.1.0

-- a server that may come up never did
never_up : (past : Past) (s : Server) → Allowed past (entry_is.Up s) → came_up past s ≡ false
never_up past s follows = not_up past s (newer_of past s follows)

module _ (past : Past) (d : ℕ) (o : Outside) (within : d ≤ length past) (all : AllTails None past d o) where
  safe_here : Safe past o
  safe_here = all 0 (omega (arith, within))

  recorded : (entry : Entry) → Allowed past entry → IsTrueReport o entry → AllTails None (entry ∷ past) d o
  recorded entry follows true_report = pushed entry past d o all (safe_append entry past (safe_here.legal, follows) o safe_here true_report)

  begins : (s : Server) → Allowed past (entry_is.Up s) → AllTails None (entry_is.Up s ∷ past) d (started o s)
  begins s follows zero h =
      safe_append (entry_is.Up s) past (safe_here.legal, follows) (started o s)
      (safe_start past o s safe_here (never_up past s follows)) tt
  begins s follows (suc n) h =
      let safe = all n (omega (arith, h)) in
      safe_start (drop n past) o s safe (not_up_before past n s (never_up past s follows))

-- what is durable is in each longer journal
sent_tail : (past : Past) (d : ℕ) (o : Outside) → AllTails None past d o → (call : Call) → call_of (first d past) call.id.0 ≡ Some call → (n : ℕ) → n + d ≤ length past → call_of (drop n past) call.id.0 ≡ Some call
sent_tail past d o all call is n h = calls_grow (drop n past) (all n h).legal (length past - d - n) call (rw (drop_again (length past - d - n) n past, same_place) is)
  where
    same_place : n + (length past - d - n) ≡ length past - d
    same_place = omega (arith, h)

-- the work of a claim is no report
work_true : (past : Past) (claim : Claimed) (o : Outside) (entry : Entry) → IsWork past claim entry → IsTrueReport o entry
work_true past claim o (entry_is.Report call told) work = absurd work
work_true past claim o (entry_is.Base part) work = absurd work
work_true past claim o entry work = tt

delivered_reports : (o : Outside) (call : Call) (peer : Peer) → (deliver_by o call peer).reports ≡ with_report o.reports (answer_by o call peer)
delivered_reports o call (peer_is.Server s) = refl
delivered_reports o call peer_is.Storage = refl

delivered_sent : (o : Outside) (call : Call) (peer : Peer) → (deliver_by o call peer).sent ≡ o.sent
delivered_sent o call (peer_is.Server s) = refl
delivered_sent o call peer_is.Storage = refl

-- the journal without its tail
pub safe_past : (w : World) → IsKept w → Safe w.past w.outside
safe_past w kept = by w.tail refl kept.tails
  where
    within : w.durable ≤ length w.past
    within = kept.within

    by : (t : Option Entry) → w.tail ≡ t → AllTails t w.past w.durable w.outside → Safe w.past w.outside
    by None e all = all 0 (omega (arith, within))
    by (Some entry) e all = all 1 (omega (arith, within))

module _ (w : World) (kept : IsKept w) where
  abbrev d : ℕ
  d = w.durable

  can_write : GoesOn w → CanWrite w
  can_write going fault = none-some LogFault (sym going ∙ fault)

  writing_tails : CanWrite w → AllTails None w.past d w.outside
  writing_tails can = subst (λ t. AllTails t w.past d w.outside) (kept.tailless can) kept.tails

  calm_tails : GoesOn w → AllTails None w.past d w.outside
  calm_tails going = writing_tails (can_write going)

  with_tails : (past : Past) (o : Outside) → GoesOn w → AllTails None past d o → AllTails w.tail past d o
  with_tails past o going all = subst (λ t. AllTails t past d o) (sym (kept.tailless (can_write going))) all

  entered : (entry : Entry) → MayEnter w entry → IsTrueReport w.outside entry → AllTails w.tail (entry ∷ w.past) d w.outside
  entered entry may true_report = with_tails (entry ∷ w.past) w.outside may.0 (recorded w.past d w.outside kept.within (calm_tails may.0) entry may.1 true_report)

  -- what is delivered
  deliver_tails : (call : Call) → IsIn call w.outside.sent → AllTails w.tail w.past d (delivered w.outside call)
  deliver_tails call there n h = let safe = kept.tails n h in safe_deliver (drop n (whole w)) w.outside safe call (safe.calls.sent_is call there)

  deliver_wire : (call : Call) (c : Call) → IsIn c w.wire → IsIn c (delivered w.outside call).sent
  deliver_wire call c h = subst (IsIn c) (sym (delivered_sent w.outside call call.peer)) (kept.wire_is c h)

  deliver_waiting : (call : Call) (r : ReportMsg) → IsIn r (with_report w.waiting (report_to w.outside call)) → IsIn r (delivered w.outside call).reports
  deliver_waiting call r h = subst (IsIn r) (sym (delivered_reports w.outside call call.peer)) (in_reported r w.waiting w.outside.reports (report_to w.outside call) kept.waiting_is h)

  -- a report is recorded
  heard : (report : ReportMsg) → MayEnter w (entry_is.Report report.call report.told) → IsIn report w.outside.reports → AllTails w.tail (entry_is.Report report.call report.told ∷ w.past) d w.outside
  heard report may there = entered (entry_is.Report report.call report.told) may (report, there, refl, refl)

  start_tails : (s : Server) (older : Option Server) → MayStart w s older
      → AllTails w.tail (entry_is.Up s ∷ (with_older_down older w).past) d (started w.outside s)
  start_tails s None may = with_tails (entry_is.Up s ∷ w.past) (started w.outside s) may.0 (begins w.past d w.outside kept.within (calm_tails may.0) s may.1)
  start_tails s (Some older) may =
      let going = may.1.0 in
      let within = kept.within in
      with_tails (entry_is.Up s ∷ entry_is.Down older ∷ w.past) (started w.outside s) going
      (begins (entry_is.Down older ∷ w.past) d w.outside (omega (arith, within)) (recorded w.past d w.outside within (calm_tails going) (entry_is.Down older) may.1.1 tt) s may.2)

  longer : (t : Option Entry) → w.tail ≡ t → length w.past ≤ length (with_tail t w.past)
  longer None e = omega arith
  longer (Some entry) e = omega arith

  pub within_whole : 0 + d ≤ length (whole w)
  within_whole = (let a = kept.within in let b = longer w.tail refl in omega (arith, a, b))

  stop_tails : (k : ℕ) → d ≤ k → k ≤ length (whole w) → AllTails None (first k (whole w)) k w.outside
  stop_tails k low high n h =
      let zero_is : n ≡ 0 = omega (arith, h, high, length-drop (length (whole w) - k) (whole w)) in
      rw zero_is (kept.tails (length (whole w) - k) (omega (arith, low, high)))

  stop_within : (k : ℕ) → k ≤ length (whole w) → k ≤ length (first k (whole w))
  stop_within k high = omega (arith, high, length-drop (length (whole w) - k) (whole w))

  legal_here : IsLegal w.past
  legal_here = (safe_past w kept).legal

  legal_next : (entry : Entry) → MayEnter w entry → IsLegal (entry ∷ w.past)
  legal_next entry may = (legal_here, may.1)

  apart_stopped : (k : ℕ) → d ≤ k → k ≤ length (whole w) → IsApart (first k (whole w)) [] []
  apart_stopped k low high = apart_opened (first k (whole w)) (kept.tails (length (whole w) - k) (omega (arith, low, high))).legal

  -- an entry that is recorded is no part, and leaves what was rolled
  plain_with : (past : Past) → GoesOn w → IsPlainBehind d past → IsPlainBehind d (with_tail w.tail past)
  plain_with past going plain = subst (λ t. IsPlainBehind d (with_tail t past)) (sym (kept.tailless (can_write going))) plain

  plain_past : IsPlainBehind d w.past
  plain_past = plain_within w.tail w.past d kept.plain

  entered_plain : (entry : Entry) → GoesOn w → is_part entry ≡ false → IsPlainBehind d (with_tail w.tail (entry ∷ w.past))
  entered_plain entry going other = plain_with (entry ∷ w.past) going (plain_pushed entry w.past d other plain_past)

  entered_rolls : (entry : Entry) (r : ℕ) → w.rolled ≡ Some r → IsRolledIn (first d (entry ∷ w.past)) r
  entered_rolls entry r is = subst (λ J. IsRolledIn J r) (one_more entry w.past d kept.within) (kept.rolls r is)

  -- a stop leaves what was rolled, and what a roll that failed may have
  stop_plain : (k : ℕ) → d ≤ k → IsPlainBehind k (first k (whole w))
  stop_plain k low = plain_dropped (length (whole w) - k) k (whole w) (plain_later (whole w) d k low kept.plain)

  -- all that is recorded is rolled
  all_rolled : CanRoll w → (r : ℕ) → counted w.past ≡ r → IsRolledIn (first d w.past) r
  all_rolled can r is =
      subst (λ n. IsRolledIn (first d w.past) n) is
      (subst (λ J. IsRolledIn J (counted w.past)) (sym (all_front w.past d can.1)) (rolled_all w.past can.2 can.3))

  was_rolled : (rolled : Option ℕ) → MayBeRolled w rolled → (r : ℕ) → rolled ≡ Some r → IsRolledIn (first d w.past) r
  was_rolled rolled (inl same) r is = kept.rolls r (sym same ∙ is)
  was_rolled rolled (inr later) r is =
      let failed = later.2 in
      all_rolled failed.can r (sym failed.all ∙ same_Some later.0 r (sym later.1 ∙ is))

  stop_rolls : (k : ℕ) → d ≤ k → k ≤ length (whole w) → (rolled : Option ℕ) → MayBeRolled w rolled → (r : ℕ) → rolled ≡ Some r → IsRolledIn (first k (first k (whole w))) r
  stop_rolls k low high rolled may r is =
      subst (λ J. IsRolledIn J r) (sym (whole_front (whole w) k high))
      (rolled_first (whole w) d k r low high kept.plain (subst (λ J. IsRolledIn J r) (durable_whole w.tail w.past d kept.within) (was_rolled rolled may r is)))

one_longer : (entry : Entry) (past : Past) (d : ℕ) → d ≤ length past → d ≤ length (entry ∷ past)
one_longer entry past d h = omega (arith, h)

pub event_keeps : (w : World) (event : Event) → IsKept w → May w event → IsKept (happens w event)
event_keeps w (Works (Submit nonce request)) k may = record { within = one_longer (entry_is.Submit nonce request) w.past w.durable k.within; tailless = k.tailless; wire_is = k.wire_is; waiting_is = k.waiting_is; apart = apart_plain w k.apart (legal_here w k) (entry_is.Submit nonce request) (legal_next w k (entry_is.Submit nonce request) may) tt; tails = entered w k (entry_is.Submit nonce request) may tt; plain = entered_plain w k (entry_is.Submit nonce request) may.0 refl; rolls = entered_rolls w k (entry_is.Submit nonce request) }
event_keeps w (Works (Claim claim)) k may = record { within = k.within; tailless = k.tailless; wire_is = k.wire_is; waiting_is = k.waiting_is; apart = apart_claim w k.apart (legal_here w k) claim may; tails = k.tails; plain = k.plain; rolls = k.rolls }
event_keeps w (Works (Commit claim entry)) k may = record { within = one_longer entry w.past w.durable k.within; tailless = k.tailless; wire_is = k.wire_is; waiting_is = k.waiting_is; apart = apart_commit w k.apart (legal_here w k) claim entry (legal_next w k entry may.2) may; tails = entered w k entry may.2 (work_true w.past claim w.outside entry may.1); plain = entered_plain w k entry may.2.0 (true_plain entry w.outside (work_true w.past claim w.outside entry may.1)); rolls = entered_rolls w k entry }
event_keeps w (Works (GiveUp claim)) k may = record { within = k.within; tailless = k.tailless; wire_is = k.wire_is; waiting_is = k.waiting_is; apart = apart_give_up w k.apart (legal_here w k) claim; tails = k.tails; plain = k.plain; rolls = k.rolls }
event_keeps w (Works (Flush n)) k may = record {
  within = may.2;
  tailless = k.tailless;
  wire_is = k.wire_is;
  waiting_is = k.waiting_is;
  apart = k.apart;
  tails = λ m h. k.tails m (let a = may.1 in omega (arith, h, a));
  plain = plain_later (whole w) w.durable n may.1 k.plain;
  rolls = λ r is. rolled_first w.past w.durable n r may.1 may.2 (plain_past w k) (k.rolls r is);
}
event_keeps w (Travels (Send call)) k may = record {
  within = k.within;
  tailless = k.tailless;
  wire_is = λ c h. elim (in_pushed c call w.wire h) [ inl e ↦ subst (λ x. IsIn x (w.outside.sent ++ call ∷ [])) (sym e) (pushed_new call w.outside.sent) | inr old ↦ pushed_old c call w.outside.sent (k.wire_is c old) ];
  waiting_is = k.waiting_is;
  apart = k.apart;
  tails = with_tails w k w.past (with_sent w.outside call) may.0 (λ n h. safe_send (drop n w.past) w.outside call (calm_tails w k may.0 n h) (sent_tail w.past w.durable w.outside (calm_tails w k may.0) call may.1 n h));
  plain = k.plain;
  rolls = k.rolls;
}
event_keeps w (Travels (Deliver call)) k may = record {
  within = k.within;
  tailless = k.tailless;
  wire_is = λ c h. deliver_wire w k call c (in_dropped c w.wire h);
  waiting_is = deliver_waiting w k call;
  apart = k.apart;
  tails = deliver_tails w k call (k.wire_is call (in_first call w.wire may.1.0 may.1.1));
  plain = k.plain;
  rolls = k.rolls;
}
event_keeps w (Travels (DeliverAgain call)) k may = record { within = k.within; tailless = k.tailless; wire_is = deliver_wire w k call; waiting_is = deliver_waiting w k call; apart = k.apart; tails = deliver_tails w k call may.1; plain = k.plain; rolls = k.rolls }
event_keeps w (Travels (Hear report)) k may = record {
  within = one_longer (entry_is.Report report.call report.told) w.past w.durable k.within;
  tailless = k.tailless;
  wire_is = k.wire_is;
  waiting_is = λ r h. k.waiting_is r (in_dropped r w.waiting h);
  apart = apart_plain w k.apart (legal_here w k) (entry_is.Report report.call report.told) (legal_next w k (entry_is.Report report.call report.told) may.0.0) tt;
  tails = heard w k report may.0.0 (k.waiting_is report (in_first report w.waiting may.1.0 may.1.1));
  plain = entered_plain w k (entry_is.Report report.call report.told) may.0.0.0 refl;
  rolls = entered_rolls w k (entry_is.Report report.call report.told);
}
event_keeps w (Travels (Ignore report)) k may = record { within = k.within; tailless = k.tailless; wire_is = k.wire_is; waiting_is = λ r h. k.waiting_is r (in_dropped r w.waiting h); apart = k.apart; tails = k.tails; plain = k.plain; rolls = k.rolls }
event_keeps w (Travels (HearAgain report)) k may = record { within = one_longer (entry_is.Report report.call report.told) w.past w.durable k.within; tailless = k.tailless; wire_is = k.wire_is; waiting_is = k.waiting_is; apart = apart_plain w k.apart (legal_here w k) (entry_is.Report report.call report.told) (legal_next w k (entry_is.Report report.call report.told) may.0.0) tt; tails = heard w k report may.0.0 may.1; plain = entered_plain w k (entry_is.Report report.call report.told) may.0.0.0 refl; rolls = entered_rolls w k (entry_is.Report report.call report.told) }
event_keeps w (Travels (SendOld call)) k may = record {
  within = k.within;
  tailless = k.tailless;
  wire_is = λ c h. elim (in_pushed c call w.wire h) [ inl e ↦ subst (λ x. IsIn x (w.outside.sent ++ call ∷ [])) (sym e) (pushed_new call w.outside.sent) | inr old ↦ pushed_old c call w.outside.sent (k.wire_is c old) ];
  waiting_is = k.waiting_is;
  apart = k.apart;
  tails = λ n h. safe_send (drop n (whole w)) w.outside call (k.tails n h) (sent_tail (whole w) w.durable w.outside k.tails call (subst (λ p. call_of p call.id.0 ≡ Some call) (durable_whole w.tail w.past w.durable k.within) may.0) n h);
  plain = k.plain;
  rolls = k.rolls;
}
event_keeps w (Travels (DeliverOld call)) k may = record {
  within = k.within;
  tailless = k.tailless;
  wire_is = λ c h. deliver_wire w k call c (in_dropped c w.wire h);
  waiting_is = deliver_waiting w k call;
  apart = k.apart;
  tails = deliver_tails w k call (k.wire_is call (in_first call w.wire may.0 may.1));
  plain = k.plain;
  rolls = k.rolls;
}
event_keeps w (Travels (Miss report)) k may = record { within = k.within; tailless = k.tailless; wire_is = k.wire_is; waiting_is = λ r h. k.waiting_is r (in_dropped r w.waiting h); apart = k.apart; tails = k.tails; plain = k.plain; rolls = k.rolls }
event_keeps w (Travels Lose) k may = record { within = k.within; tailless = k.tailless; wire_is = λ c h. absurd h; waiting_is = λ r h. absurd h; apart = k.apart; tails = k.tails; plain = k.plain; rolls = k.rolls }
event_keeps w (Travels Repeat) k may = record {
  within = k.within;
  tailless = k.tailless;
  wire_is = λ c h. elim (in_both c w.wire w.outside.sent h) [ inl old ↦ k.wire_is c old | inr again ↦ again ];
  waiting_is = λ r h. elim (in_both r w.waiting w.outside.reports h) [ inl old ↦ k.waiting_is r old | inr again ↦ again ];
  apart = k.apart;
  tails = k.tails;
  plain = k.plain;
  rolls = k.rolls;
}
event_keeps w (Lives (Start server older)) k may = record { within = up_within older; tailless = tailless_of older; wire_is = wire_of older; waiting_is = waiting_of older; apart = apart_of older may; tails = tails_of older may; plain = plain_of older may; rolls = rolls_of older }
  where
    up_within : (x : Option Server) → (happens w (Lives (Start server x))).durable ≤ length (happens w (Lives (Start server x))).past
    up_within None = one_longer (entry_is.Up server) w.past w.durable k.within
    up_within (Some o) = one_longer (entry_is.Up server) (entry_is.Down o ∷ w.past) w.durable (one_longer (entry_is.Down o) w.past w.durable k.within)

    tailless_of : (x : Option Server) → (happens w (Lives (Start server x))).halted ≢ Some LogFault → (happens w (Lives (Start server x))).tail ≡ None
    tailless_of None = k.tailless
    tailless_of (Some o) = k.tailless

    wire_of : (x : Option Server) (c : Call) → IsIn c (happens w (Lives (Start server x))).wire → IsIn c w.outside.sent
    wire_of None c h = k.wire_is c h
    wire_of (Some o) c h = k.wire_is c h

    waiting_of : (x : Option Server) (r : ReportMsg) → IsIn r (happens w (Lives (Start server x))).waiting → IsIn r w.outside.reports
    waiting_of None r h = k.waiting_is r h
    waiting_of (Some o) r h = k.waiting_is r h

    apart_of : (x : Option Server) → MayStart w server x → IsApart (happens w (Lives (Start server x))).past (happens w (Lives (Start server x))).taken (claimed_pids (happens w (Lives (Start server x))))
    apart_of None m = apart_plain w k.apart (legal_here w k) (entry_is.Up server) (legal_next w k (entry_is.Up server) m) tt
    apart_of (Some o) m =
        let down = legal_next w k (entry_is.Down o) m.1 in
        apart_on (entry_is.Up server) (entry_is.Down o ∷ w.past) (down, m.2) w.taken (claimed_pids w) (apart_plain w k.apart (legal_here w k) (entry_is.Down o) down tt) tt

    tails_of : (x : Option Server) → MayStart w server x → (n : ℕ) → n + (happens w (Lives (Start server x))).durable ≤ length (whole (happens w (Lives (Start server x)))) → Safe (drop n (whole (happens w (Lives (Start server x))))) (started w.outside server)
    tails_of None m = start_tails w k server None m
    tails_of (Some o) m = start_tails w k server (Some o) m

    plain_of : (x : Option Server) → MayStart w server x → IsPlainBehind (happens w (Lives (Start server x))).durable (whole (happens w (Lives (Start server x))))
    plain_of None m = entered_plain w k (entry_is.Up server) m.0 refl
    plain_of (Some o) m =
        plain_with w k (entry_is.Up server ∷ entry_is.Down o ∷ w.past) m.1.0
        (plain_pushed (entry_is.Up server) (entry_is.Down o ∷ w.past) w.durable refl (plain_pushed (entry_is.Down o) w.past w.durable refl (plain_past w k)))

    rolls_of : (x : Option Server) (r : ℕ) → (happens w (Lives (Start server x))).rolled ≡ Some r → IsRolledIn (durable_part (happens w (Lives (Start server x)))) r
    rolls_of None r is = entered_rolls w k (entry_is.Up server) r is
    rolls_of (Some o) r is =
        subst (λ J. IsRolledIn J r) (one_more (entry_is.Up server) (entry_is.Down o ∷ w.past) w.durable (one_longer (entry_is.Down o) w.past w.durable k.within))
        (entered_rolls w k (entry_is.Down o) r is)
event_keeps w (Lives (Die server)) k may = record { within = k.within; tailless = k.tailless; wire_is = k.wire_is; waiting_is = k.waiting_is; apart = k.apart; tails = λ n h. safe_die (drop n (whole w)) w.outside server (k.tails n h); plain = k.plain; rolls = k.rolls }
event_keeps w (Works (Expire server)) k may = record { within = one_longer (entry_is.Down server) w.past w.durable k.within; tailless = k.tailless; wire_is = k.wire_is; waiting_is = k.waiting_is; apart = apart_plain w k.apart (legal_here w k) (entry_is.Down server) (legal_next w k (entry_is.Down server) may) tt; tails = entered w k (entry_is.Down server) may tt; plain = entered_plain w k (entry_is.Down server) may.0 refl; rolls = entered_rolls w k (entry_is.Down server) }
event_keeps w (Works (Abort pid)) k may = record { within = one_longer (entry_is.Abort pid) w.past w.durable k.within; tailless = k.tailless; wire_is = k.wire_is; waiting_is = k.waiting_is; apart = apart_plain w k.apart (legal_here w k) (entry_is.Abort pid) (legal_next w k (entry_is.Abort pid) may) tt; tails = entered w k (entry_is.Abort pid) may tt; plain = entered_plain w k (entry_is.Abort pid) may.0 refl; rolls = entered_rolls w k (entry_is.Abort pid) }
event_keeps w (Works (Adopt sheets)) k may = record { within = one_longer (entry_is.Adopt sheets) w.past w.durable k.within; tailless = k.tailless; wire_is = k.wire_is; waiting_is = k.waiting_is; apart = apart_plain w k.apart (legal_here w k) (entry_is.Adopt sheets) (legal_next w k (entry_is.Adopt sheets) may) tt; tails = entered w k (entry_is.Adopt sheets) may tt; plain = entered_plain w k (entry_is.Adopt sheets) may.0 refl; rolls = entered_rolls w k (entry_is.Adopt sheets) }
event_keeps w (Works Roll) k may = record { within = k.within; tailless = k.tailless; wire_is = k.wire_is; waiting_is = k.waiting_is; apart = k.apart; tails = k.tails; plain = k.plain; rolls = λ r is. all_rolled w k may.1 r (same_Some (counted w.past) r is) }
event_keeps w (Lives (Arm peer count)) k may = record { within = k.within; tailless = k.tailless; wire_is = armed_wire peer; waiting_is = armed_waiting peer; apart = k.apart; tails = λ n h. safe_arm (drop n (whole w)) w.outside peer count (k.tails n h); plain = k.plain; rolls = k.rolls }
  where
    armed_wire : (p : Peer) (c : Call) → IsIn c w.wire → IsIn c (armed w.outside p count).sent
    armed_wire (peer_is.Server s) c h = k.wire_is c h
    armed_wire peer_is.Storage c h = k.wire_is c h

    armed_waiting : (p : Peer) (r : ReportMsg) → IsIn r w.waiting → IsIn r (armed w.outside p count).reports
    armed_waiting (peer_is.Server s) r h = k.waiting_is r h
    armed_waiting peer_is.Storage r h = k.waiting_is r h
event_keeps w (Ends (Fault None)) k may = record { within = k.within; tailless = λ e. absurd (e refl); wire_is = k.wire_is; apart = k.apart; waiting_is = k.waiting_is; tails = writing_tails w k may; plain = plain_past w k; rolls = k.rolls }
event_keeps w (Ends (Fault (Some entry))) k may = record {
  within = k.within;
  tailless = λ e. absurd (e refl);
  wire_is = k.wire_is;
  waiting_is = k.waiting_is;
  apart = k.apart;
  tails = recorded w.past w.durable w.outside k.within (calm_tails w k may.0.0) entry may.0.1 may.1;
  plain = plain_pushed entry w.past w.durable (true_plain entry w.outside may.1) (plain_past w k);
  rolls = k.rolls;
}
event_keeps w (Ends Full) k may = record { within = k.within; tailless = λ e. k.tailless (can_write w k may); wire_is = k.wire_is; waiting_is = k.waiting_is; apart = k.apart; tails = k.tails; plain = k.plain; rolls = k.rolls }
event_keeps w (Ends (Stop n rolled)) k may = record { within = stop_within w k n may.1; tailless = λ e. refl; wire_is = k.wire_is; waiting_is = k.waiting_is; apart = apart_stopped w k n may.0 may.1; tails = stop_tails w k n may.0 may.1; plain = stop_plain w k n may.0; rolls = stop_rolls w k n may.0 may.1 rolled may.2 }
