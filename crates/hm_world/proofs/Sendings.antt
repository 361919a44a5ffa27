-- What is on the wire was sent, and what waits was reported, after what happens.
use Rattle.std.proofs.Common.{◌≡◌, ◌∷◌, ◌++◌, [], None, Option, Some, List, refl, sym, ap, inl, inr, subst}
use Rattle.hm_data.specs.declared.call.Call.{Call}
use Rattle.hm_data.specs.declared.call.Peer.{Peer}
use Rattle.hm_data.specs.declared.call.Peer.TheVariants as peer_is
use Rattle.hm_data.specs.declared.call.ReportMsg.{ReportMsg}
use Rattle.hm_model.specs.Locks.{IsIn}
use Rattle.hm_world_model.specs.Outside.{Outside, answer_by, deliver_by, delivered, report_to, with_report, with_sent}
use Rattle.hm_world_model.proofs.Facts.{in_both, in_pushed, pushed_new, pushed_old}
use Rattle.hm_world.specs.Sound.{IsSent}

-- what was sent and reported is the same
pub sent_outside : (wire : List Call) (waiting : List ReportMsg) (o o' : Outside) → o'.sent ≡ o.sent → o'.reports ≡ o.reports → IsSent wire waiting o → IsSent wire waiting o'
sent_outside wire waiting o o' sent reports is = record {
  wire_is = λ call there. subst (IsIn call) (sym sent) (is.wire_is call there);
  waiting_is = λ report there. subst (IsIn report) (sym reports) (is.waiting_is report there);
}

-- the oldest report waits no longer
pub sent_heard : (wire : List Call) (report : ReportMsg) (rest : List ReportMsg) (o : Outside) → IsSent wire (report ∷ rest) o → IsSent wire rest o
sent_heard wire report rest o is = record { wire_is = is.wire_is; waiting_is = λ one there. is.waiting_is one (inr there) }

-- all is lost
pub sent_lost : (o : Outside) → IsSent [] [] o
sent_lost o = record { wire_is = λ call there. absurd there; waiting_is = λ report there. absurd there }

-- all travels once more
pub sent_repeated : (wire : List Call) (waiting : List ReportMsg) (o : Outside) → IsSent wire waiting o → IsSent (wire ++ o.sent) (waiting ++ o.reports) o
sent_repeated wire waiting o is = record {
  wire_is = λ call there. elim (in_both call wire o.sent there) [ inl old ↦ is.wire_is call old | inr more ↦ more ];
  waiting_is = λ report there. elim (in_both report waiting o.reports there) [ inl old ↦ is.waiting_is report old | inr more ↦ more ];
}

-- a call is sent
pub sent_sent : (wire : List Call) (waiting : List ReportMsg) (o : Outside) (call : Call) → IsSent wire waiting o → IsSent (wire ++ call ∷ []) waiting (with_sent o call)
sent_sent wire waiting o call is = record {
  wire_is = λ one there. elim (in_pushed one call wire there) [ inl own ↦ subst (λ c. IsIn c (o.sent ++ call ∷ [])) (sym own) (pushed_new call o.sent) | inr old ↦ pushed_old one call o.sent (is.wire_is one old) ];
  waiting_is = is.waiting_is;
}

-- what a delivery sends and reports
delivered_sent : (o : Outside) (call : Call) (peer : Peer) → (deliver_by o call peer).sent ≡ o.sent
delivered_sent o call (peer_is.Server server) = refl
delivered_sent o call peer_is.Storage = refl

delivered_reports : (o : Outside) (call : Call) (peer : Peer) → call.peer ≡ peer → (deliver_by o call peer).reports ≡ with_report o.reports (report_to o call)
delivered_reports o call (peer_is.Server server) is = ap (λ q. with_report o.reports (answer_by o call q)) (sym is)
delivered_reports o call peer_is.Storage is = ap (λ q. with_report o.reports (answer_by o call q)) (sym is)

in_reported : (report : ReportMsg) (made : Option ReportMsg) (waiting reports : List ReportMsg) → ((one : ReportMsg) → IsIn one waiting → IsIn one reports) → IsIn report (with_report waiting made) → IsIn report (with_report reports made)
in_reported report None waiting reports more there = more report there
in_reported report (Some new) waiting reports more there = elim (in_pushed report new waiting there) [
  | inl own ↦ subst (λ r. IsIn r (reports ++ new ∷ [])) (sym own) (pushed_new new reports)
  | inr old ↦ pushed_old report new reports (more report old)
]

-- the oldest call is delivered
pub sent_delivered : (call : Call) (rest : List Call) (waiting : List ReportMsg) (o : Outside) → IsSent (call ∷ rest) waiting o → IsSent rest (with_report waiting (report_to o call)) (delivered o call)
sent_delivered call rest waiting o is = record {
  wire_is = λ one there. subst (IsIn one) (sym (delivered_sent o call call.peer)) (is.wire_is one (inr there));
  waiting_is = λ report there. subst (IsIn report) (sym (delivered_reports o call call.peer refl)) (in_reported report (report_to o call) waiting o.reports is.waiting_is there);
}
