-- Carrying lowers what is left to carry.
use Rattle.std.proofs.Common.{◌≡◌, ◌≢◌, ℕ, ◌+◌, ◌<◌, ◌≤◌, List, [], ◌∷◌, ◌++◌, length, drop, not, ◌==◌, ◌&&◌, ◌||◌, is_some, nat_lt, Bool, true, false, cond, Option, Some, None, refl, ap, sym, ◌∙◌, subst, inl, inr, arith}
use Rattle.std.specs.List.{list_any}
use Rattle.std.specs.declared.cmp.Ordering.{Ordering}
use Rattle.std.specs.declared.cmp.Ordering.TheVariants.{Less, Equal, Greater}
use Rattle.std.proofs.lemmas.Bool.{and_left, and_parts, and_right, cases_Bool, cases_eq, cond-false, cond-true, eq-eqb, false≢true, ne_eqb, not_from_true, or_left, or_right}
use Rattle.std.proofs.lemmas.List.{length-append}
use Rattle.std.proofs.lemmas.List.Folds.{list_any-append}
use Rattle.std.proofs.lemmas.Option.{none-some, same_Some}
use Rattle.hm_names.specs.Region.{Region}
use Rattle.hm_names.specs.declared.pid.Pid.{Pid}
use Rattle.hm_data.specs.declared.call.Call.{Call}
use Rattle.hm_data.specs.declared.call.Peer.{Peer}
use Rattle.hm_data.specs.declared.call.Peer.TheVariants as peer_is
use Rattle.hm_data.specs.declared.call.ReportMsg.{ReportMsg}
use Rattle.hm_data.specs.declared.call.Told.{Told}
use Rattle.hm_data.specs.declared.call.Told.TheVariants as told_is
use Rattle.hm_data.specs.declared.call.Verb.{Verb}
use Rattle.hm_data.specs.declared.call.Verb.TheVariants as verb_is
use Rattle.hm_model.specs.Actors.{Actor, Served, Service, age, closing, once_more, opening, reported, serve_by, serve_verb}
use Rattle.hm_model.specs.Storages.{Storage, fence_in, lay_in, refuse_in, store_by, store_verb, stored}
use Rattle.hm_model.specs.Answers.{report_of}
use Rattle.hm_model.specs.Counts.{count_below}
use Rattle.hm_model.specs.Fleet.{same_server}
use Rattle.hm_model.specs.Locks.{IsIn}
use Rattle.hm_model.specs.Phase.{ended}
use Rattle.hm_model.specs.Reports.{is_reported, is_settled, peer_if, peer_of, verb_of}
use Rattle.hm_model.specs.Tree.{Node, made, node_of}
use Rattle.hm_model.proofs.Counting.{count_less, count_same}
use Rattle.hm_model.proofs.Trees.{grown_all, is_there}
use Rattle.hm_world_model.specs.Events.{Deliver, Hear, Ignore, Send, Travels, happens}
use Rattle.hm_world_model.specs.Measure.{CarryingGoesOn, IsNearer, is_to_send, runs_if, travels}
use Rattle.hm_world_model.specs.Outside.{Outside, answer_by, answer_of_actor, behind_call, deliver_by, delivered, report_to, runs, with_report}
use Rattle.hm_world_model.specs.Runs.{May}
use Rattle.hm_world_model.specs.Safe.{IsKept}
use Rattle.hm_world_model.specs.World.{World}
use Rattle.hm_world_model.proofs.Facts.{cases_server, parts_of, set_other}
use Rattle.hm_world_model.proofs.Tails.{safe_past}
use Rattle.hm_world_model.proofs.Progress.{open_answered}

-- a report that comes of a call is of it
abbrev IsOf : Pid → Option ReportMsg → Type 0
IsOf id made = (report : ReportMsg) → made ≡ Some report → report.call ≡ id

module _ (id : Pid) where
  some_of_it : (report : ReportMsg) → report.call ≡ id → IsOf id (Some report)
  some_of_it report own other e = ap (λ (x : ReportMsg). x.call) (sym (same_Some report other e)) ∙ own

  none_of_it : IsOf id None
  none_of_it other e = absurd (none-some other e)

  once_of : (a : Actor) (l : Option Served) → IsOf id (once_more a id l)
  once_of a None = none_of_it
  once_of a (Some last) = some_of_it (reported a id last.told) refl

  serve_of : (a : Actor) (r : Region) (service : Service) (order : Ordering) → IsOf id (serve_by order a id r service).1
  serve_of a r service Less = none_of_it
  serve_of a r service Equal = once_of a (a.last r)
  serve_of a r service Greater = some_of_it (reported a id service.told) refl

  served_of : (a : Actor) (verb : Verb) → IsOf id (serve_verb a id verb).1
  served_of a (verb_is.AssignRegion r) = serve_of a r (opening a r) (age (a.last r) id)
  served_of a (verb_is.CloseRegion r) = serve_of a r (closing a) (age (a.last r) id)
  served_of a verb = none_of_it

  store_of : (x : Option Told) (storage : Storage) (told : Told) (behind : Storage) → IsOf id (store_by x storage id told behind).1
  store_of (Some before) storage told behind = some_of_it (stored id before) refl
  store_of None storage told behind = some_of_it (stored id told) refl

  stored_of : (storage : Storage) (verb : Verb) → IsOf id (store_verb storage id verb).1
  stored_of storage (verb_is.Fence s) = store_of (storage.answer id) storage told_is.Fenced (fence_in s storage)
  stored_of storage (verb_is.Layout root) = by (nat_lt 0 storage.refusals)
    where
      by : (b : Bool) → IsOf id (cond b (store_by (storage.answer id) storage id told_is.Refused (refuse_in storage)) (store_by (storage.answer id) storage id told_is.LaidOut (lay_in root true storage))).1
      by true = store_of (storage.answer id) storage told_is.Refused (refuse_in storage)
      by false = store_of (storage.answer id) storage told_is.LaidOut (lay_in root true storage)
  stored_of storage (verb_is.Sweep root) = store_of (storage.answer id) storage told_is.Swept (lay_in root false storage)
  stored_of storage verb = none_of_it

report_of_it : (o : Outside) (call : Call) → IsOf call.id (report_to o call)
report_of_it o call = by call.peer
  where
    by_actor : (x : Option Actor) → IsOf call.id (answer_of_actor x call)
    by_actor None = none_of_it call.id
    by_actor (Some a) = served_of call.id a call.verb

    by : (peer : Peer) → IsOf call.id (answer_by o call peer)
    by (peer_is.Server s) = by_actor (o.actors s)
    by peer_is.Storage = stored_of call.id o.storage call.verb

-- who runs still does
pub runs_on : (o : Outside) (call : Call) (peer : Peer) → runs (delivered o call) peer ≡ runs o peer
runs_on o call peer = by call.peer peer
  where
    behind : (x : Option Actor) → is_some (behind_call x call) ≡ is_some x
    behind None = refl
    behind (Some a) = refl

    by : (to peer : Peer) → runs (deliver_by o call to) peer ≡ runs o peer
    by (peer_is.Server s) (peer_is.Server t) = elim (cases_server s t) [
      | inl same ↦ ap is_some (cond-true (same_server s t) (behind_call (o.actors s) call) (o.actors t) same.0) ∙ behind (o.actors s) ∙ ap (λ x. is_some (o.actors x)) same.1
      | inr differs ↦ ap is_some (set_other o.actors s t (behind_call (o.actors s) call) differs.0)
    ]
    by (peer_is.Server s) peer_is.Storage = refl
    by peer_is.Storage (peer_is.Server t) = refl
    by peer_is.Storage peer_is.Storage = refl

runs_if_on : (o : Outside) (call : Call) (peer : Option Peer) → runs_if (delivered o call) peer ≡ runs_if o peer
runs_if_on o call None = refl
runs_if_on o call (Some peer) = runs_on o call peer

-- a test that fails in its last part
stays_off : (a b t : Bool) → t ≡ true → (a && (b && not t)) ≡ false
stays_off a b t h = and_right a (b && not t) (and_right b (not t) (not_from_true t h))

-- a report more
waits_other : (p : ℕ) (xs : List ReportMsg) (made : Option ReportMsg) (id : Pid) → IsOf id made → id.0 ≢ p → list_any (λ report. report.call.0 == p) (with_report xs made) ≡ list_any (λ report. report.call.0 == p) xs
waits_other p xs None id own differs = refl
waits_other p xs (Some new) id own differs =
    list_any-append (λ report. report.call.0 == p) xs (new ∷ [])
    ∙ ap (λ b. list_any (λ report. report.call.0 == p) xs || (b || false)) (ne_eqb new.call.0 p (λ e. differs (ap (λ (x : Pid). x.0) (sym (mine new refl)) ∙ e)))
    ∙ or_none (list_any (λ report. report.call.0 == p) xs)
  where
    mine : (x : ReportMsg) → new ≡ x → x.call ≡ id
    mine x e = own x (ap Some e)

    or_none : (b : Bool) → (b || (false || false)) ≡ b
    or_none true = refl
    or_none false = refl

waits_own : (p : ℕ) (xs : List ReportMsg) (made : Option ReportMsg) (new : ReportMsg) → made ≡ Some new → new.call.0 ≡ p → list_any (λ report. report.call.0 == p) (with_report xs made) ≡ true
waits_own p xs made new is own =
    ap (λ m. list_any (λ report. report.call.0 == p) (with_report xs m)) is
    ∙ list_any-append (λ report. report.call.0 == p) xs (new ∷ [])
    ∙ or_right (list_any (λ report. report.call.0 == p) xs) ((new.call.0 == p) || false) (or_left (new.call.0 == p) false (eq-eqb new.call.0 p own))

report_length : (xs : List ReportMsg) (made : Option ReportMsg) → length (with_report xs made) ≤ length xs + 1
report_length xs None = omega arith
report_length xs (Some new) = omega (arith, length-append xs (new ∷ []))

module _ (w : World) (kept : IsKept w) where
  abbrev count : (ℕ → Bool) → ℕ
  count test = count_below test (made w.past + 1)

  -- a call is delivered
  module _ (call : Call) (may : May w (Travels (Deliver call))) where
    abbrev rest : List Call
    rest = may.1.0

    there : IsIn call w.outside.sent
    there = kept.wire_is call (subst (IsIn call) (sym may.1.1) (inl refl))

    wire_same : (p : ℕ) → call.id.0 ≢ p → list_any (λ c. c.id.0 == p) (drop 1 w.wire) ≡ list_any (λ c. c.id.0 == p) w.wire
    wire_same p differs =
        ap (λ l. list_any (λ c. c.id.0 == p) (drop 1 l)) may.1.1
        ∙ ap (λ b. b || list_any (λ c. c.id.0 == p) rest) (sym (ne_eqb call.id.0 p differs))
        ∙ ap (list_any (λ c. c.id.0 == p)) (sym may.1.1)

    wire_own : (p : ℕ) → call.id.0 ≡ p → list_any (λ c. c.id.0 == p) w.wire ≡ true
    wire_own p own = ap (list_any (λ c. c.id.0 == p)) may.1.1 ∙ or_left (call.id.0 == p) (list_any (λ c. c.id.0 == p) rest) (eq-eqb call.id.0 p own)

    parts : (peer_of w.past call.id.0 ≡ Some call.peer) × (verb_of w.past call.id.0 ≡ Some call.verb)
    parts = parts_of w.past call ((safe_past w kept).calls.sent_is call there)

    -- after it the call isn't to be sent
    own_off : is_to_send (happens w (Travels (Deliver call))) call.id.0 ≡ false
    own_off = elim (cases_Bool (runs w.outside call.peer)) [
      | inr gone ↦ and_left (runs_if (delivered w.outside call) (peer_of w.past call.id.0)) _ (runs_if_on w.outside call (peer_of w.past call.id.0) ∙ ap (runs_if w.outside) parts.0 ∙ gone)
      | inl run ↦ elim (cases_Bool (is_settled w.past call.id.0)) [
        | inl settled ↦ and_right (runs_if (delivered w.outside call) (peer_of w.past call.id.0)) _ (and_left (not (is_settled w.past call.id.0)) _ (not_from_true (is_settled w.past call.id.0) settled))
        | inr is_open ↦
            let a = open_answered w kept call ((safe_past w kept).calls.sent_is call there, is_open) run in
            stays_off (runs_if (delivered w.outside call) (peer_of w.past call.id.0)) (not (is_settled w.past call.id.0)) (travels (happens w (Travels (Deliver call))) call.id.0)
            (or_right (list_any (λ c. c.id.0 == call.id.0) (drop 1 w.wire)) _ (waits_own call.id.0 w.waiting (report_to w.outside call) a.0 a.1 (ap (λ (x : Pid). x.0) a.2)))
      ]
    ]

    deliver_same : (p : ℕ) → is_to_send (happens w (Travels (Deliver call))) p ≡ is_to_send w p
    deliver_same p = elim (cases_eq call.id.0 p) [
      | inl own ↦ subst (λ x. is_to_send (happens w (Travels (Deliver call))) x ≡ false) own own_off
          ∙ sym (stays_off (runs_if w.outside (peer_of w.past p)) (not (is_settled w.past p)) (travels w p) (or_left (list_any (λ c. c.id.0 == p) w.wire) _ (wire_own p own)))
      | inr differs ↦
          ap (λ b. b && (not (is_settled w.past p) && not (travels (happens w (Travels (Deliver call))) p))) (runs_if_on w.outside call (peer_of w.past p))
          ∙ ap (λ b. runs_if w.outside (peer_of w.past p) && (not (is_settled w.past p) && not (b || list_any (λ report. report.call.0 == p) (with_report w.waiting (report_to w.outside call))))) (wire_same p differs)
          ∙ ap (λ b. runs_if w.outside (peer_of w.past p) && (not (is_settled w.past p) && not (list_any (λ c. c.id.0 == p) w.wire || b))) (waits_other p w.waiting (report_to w.outside call) call.id (report_of_it w.outside call) differs)
    ]

    pub deliver_nearer : IsNearer w (Travels (Deliver call))
    deliver_nearer =
        let same : count (is_to_send (happens w (Travels (Deliver call)))) ≡ count (is_to_send w) = count_same (made w.past + 1) (is_to_send (happens w (Travels (Deliver call)))) (is_to_send w) (λ q lt. deliver_same q) in
        let shorter : length (drop 1 w.wire) + 1 ≡ length w.wire = ap (λ l. length (drop 1 l) + 1) may.1.1 ∙ sym (ap length may.1.1 ∙ one_more rest) in
        omega (arith, same, shorter, report_length w.waiting (report_to w.outside call))
      where
        one_more : (l : List Call) → length (call ∷ l) ≡ length l + 1
        one_more l = omega arith

  -- a call that is to be sent is sent
  module _ (call : Call) (may : May w (Travels (Send call))) (wanted : is_to_send w call.id.0 ≡ true) where
    now_off : is_to_send (happens w (Travels (Send call))) call.id.0 ≡ false
    now_off = stays_off (runs_if w.outside (peer_of w.past call.id.0)) (not (is_settled w.past call.id.0)) (travels (happens w (Travels (Send call))) call.id.0)
        (or_left (list_any (λ c. c.id.0 == call.id.0) (w.wire ++ call ∷ [])) _ (list_any-append (λ c. c.id.0 == call.id.0) w.wire (call ∷ []) ∙ or_right (list_any (λ c. c.id.0 == call.id.0) w.wire) ((call.id.0 == call.id.0) || false) (or_left (call.id.0 == call.id.0) false (eq-eqb call.id.0 call.id.0 refl))))

    runs_same : (peer : Option Peer) → runs_if (happens w (Travels (Send call))).outside peer ≡ runs_if w.outside peer
    runs_same None = refl
    runs_same (Some (peer_is.Server s)) = refl
    runs_same (Some peer_is.Storage) = refl

    sent_same : (p : ℕ) → p ≢ call.id.0 → is_to_send w p ≡ is_to_send (happens w (Travels (Send call))) p
    sent_same p differs =
        sym (ap (λ b. b && (not (is_settled w.past p) && not (travels (happens w (Travels (Send call))) p))) (runs_same (peer_of w.past p))
        ∙ ap (λ b. runs_if w.outside (peer_of w.past p) && (not (is_settled w.past p) && not (b || list_any (λ report. report.call.0 == p) w.waiting)))
        (list_any-append (λ c. c.id.0 == p) w.wire (call ∷ []) ∙ ap (λ b. list_any (λ c. c.id.0 == p) w.wire || (b || false)) (ne_eqb call.id.0 p (λ e. differs (sym e))) ∙ or_none (list_any (λ c. c.id.0 == p) w.wire)))
      where
        or_none : (b : Bool) → (b || (false || false)) ≡ b
        or_none true = refl
        or_none false = refl

    made_there : call.id.0 < made w.past + 1
    made_there =
        let legal = (safe_past w kept).legal in
        let peer : (x : Option Peer) → peer_of w.past call.id.0 ≡ x → runs_if w.outside x ≡ true → call.id.0 ≤ made w.past = λ x e h. by_peer x e h in
        let le = peer (peer_of w.past call.id.0) refl (and_parts (runs_if w.outside (peer_of w.past call.id.0)) _ wanted).0 in
        omega (arith, le)
      where
        by_node : (n : Option Node) → node_of w.past call.id.0 ≡ n → peer_if n (verb_of w.past call.id.0) ≢ None → call.id.0 ≤ made w.past
        by_node None e some = absurd (some refl)
        by_node (Some node) e some = is_there w.past (grown_all w.past (safe_past w kept).legal) call.id.0 node e

        by_peer : (x : Option Peer) → peer_of w.past call.id.0 ≡ x → runs_if w.outside x ≡ true → call.id.0 ≤ made w.past
        by_peer None e h = absurd (false≢true h)
        by_peer (Some peer) e h = by_node (node_of w.past call.id.0) refl (λ none. none-some peer (sym none ∙ e))

    pub send_nearer : IsNearer w (Travels (Send call))
    send_nearer =
        let less : count (is_to_send w) ≡ count (is_to_send (happens w (Travels (Send call)))) + 1 = count_less (made w.past + 1) (is_to_send w) (is_to_send (happens w (Travels (Send call)))) call.id.0 made_there (λ q lt ne. sent_same q ne) wanted now_off in
        omega (arith, less, length-append w.wire (call ∷ []))

  -- a report of a settled call is ignored
  module _ (report : ReportMsg) (may : May w (Travels (Ignore report))) (settled : is_settled w.past report.call.0 ≡ true) where
    ignore_same : (p : ℕ) → is_to_send (happens w (Travels (Ignore report))) p ≡ is_to_send w p
    ignore_same p = elim (cases_eq report.call.0 p) [
      | inl own ↦ off (happens w (Travels (Ignore report))).outside (not (travels (happens w (Travels (Ignore report))) p)) own ∙ sym (off w.outside (not (travels w p)) own)
      | inr differs ↦
          ap (λ b. runs_if w.outside (peer_of w.past p) && (not (is_settled w.past p) && not (list_any (λ c. c.id.0 == p) w.wire || b)))
          (ap (λ l. list_any (λ r. r.call.0 == p) (drop 1 l)) may.1.1 ∙ ap (λ b. b || list_any (λ r. r.call.0 == p) may.1.0) (sym (ne_eqb report.call.0 p differs)) ∙ ap (list_any (λ r. r.call.0 == p)) (sym may.1.1))
    ]
      where
        off : (o : Outside) (b : Bool) → report.call.0 ≡ p → (runs_if o (peer_of w.past p) && (not (is_settled w.past p) && b)) ≡ false
        off o b own = and_right (runs_if o (peer_of w.past p)) (not (is_settled w.past p) && b) (and_left (not (is_settled w.past p)) b (not_from_true (is_settled w.past p) (ap (is_settled w.past) (sym own) ∙ settled)))

    pub ignore_nearer : IsNearer w (Travels (Ignore report))
    ignore_nearer =
        let same : count (is_to_send (happens w (Travels (Ignore report)))) ≡ count (is_to_send w) = count_same (made w.past + 1) (is_to_send (happens w (Travels (Ignore report)))) (is_to_send w) (λ q lt. ignore_same q) in
        let shorter : length (drop 1 w.waiting) + 1 ≡ length w.waiting = ap (λ l. length (drop 1 l) + 1) may.1.1 ∙ sym (ap length may.1.1 ∙ one_more may.1.0) in
        omega (arith, same, shorter)
      where
        one_more : (l : List ReportMsg) → length (report ∷ l) ≡ length l + 1
        one_more l = omega arith

  -- a report is recorded
  module _ (report : ReportMsg) (may : May w (Travels (Hear report))) where
    heard_settled : is_settled (happens w (Travels (Hear report))).past report.call.0 ≡ true
    heard_settled = or_left (is_reported (happens w (Travels (Hear report))).past report.call.0) (ended (happens w (Travels (Hear report))).past report.call.0)
        (ap is_some (cond-true (report.call.0 == report.call.0) (Some report.told) (report_of w.past report.call.0) (eq-eqb report.call.0 report.call.0 refl)))

    hear_same : (p : ℕ) → is_to_send (happens w (Travels (Hear report))) p ≡ is_to_send w p
    hear_same p = elim (cases_eq report.call.0 p) [
      | inl own ↦
          and_right (runs_if w.outside (peer_of (happens w (Travels (Hear report))).past p)) _ (and_left (not (is_settled (happens w (Travels (Hear report))).past p)) _ (not_from_true (is_settled (happens w (Travels (Hear report))).past p) (ap (is_settled (happens w (Travels (Hear report))).past) (sym own) ∙ heard_settled)))
          ∙ sym (stays_off (runs_if w.outside (peer_of w.past p)) (not (is_settled w.past p)) (travels w p)
          (or_right (list_any (λ c. c.id.0 == p) w.wire) _ (ap (list_any (λ r. r.call.0 == p)) may.1.1 ∙ or_left (report.call.0 == p) (list_any (λ r. r.call.0 == p) may.1.0) (eq-eqb report.call.0 p own))))
      | inr differs ↦
          ap (λ b. runs_if w.outside (peer_of w.past p) && (not (is_some b || ended w.past p) && not (travels (happens w (Travels (Hear report))) p)))
          (cond-false (p == report.call.0) (Some report.told) (report_of w.past p) (ne_eqb p report.call.0 (λ e. differs (sym e))))
          ∙ ap (λ b. runs_if w.outside (peer_of w.past p) && (not (is_settled w.past p) && not (list_any (λ c. c.id.0 == p) w.wire || b)))
          (ap (λ l. list_any (λ r. r.call.0 == p) (drop 1 l)) may.1.1 ∙ ap (λ b. b || list_any (λ r. r.call.0 == p) may.1.0) (sym (ne_eqb report.call.0 p differs)) ∙ ap (list_any (λ r. r.call.0 == p)) (sym may.1.1))
    ]

    pub hear_nearer : IsNearer w (Travels (Hear report))
    hear_nearer =
        let same : count (is_to_send (happens w (Travels (Hear report)))) ≡ count (is_to_send w) = count_same (made w.past + 1) (is_to_send (happens w (Travels (Hear report)))) (is_to_send w) (λ q lt. hear_same q) in
        let shorter : length (drop 1 w.waiting) + 1 ≡ length w.waiting = ap (λ l. length (drop 1 l) + 1) may.1.1 ∙ sym (ap length may.1.1 ∙ one_more may.1.0) in
        omega (arith, same, shorter)
      where
        one_more : (l : List ReportMsg) → length (report ∷ l) ≡ length l + 1
        one_more l = omega arith

pub carrying_goes_on : CarryingGoesOn
carrying_goes_on w kept = (deliver_nearer w kept, send_nearer w kept, hear_nearer w kept, ignore_nearer w kept)
