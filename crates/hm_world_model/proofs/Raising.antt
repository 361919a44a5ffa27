-- What an entry adds to what is left to carry, and that something can be carried where anything is left.
use Rattle.std.proofs.Common.{◌≡◌, ◌≢◌, ℕ, zero, suc, ◌+◌, ◌-◌, ◌*◌, ◌<◌, ◌≤◌, List, [], ◌∷◌, length, drop, not, ◌==◌, ◌&&◌, is_some, Bool, true, false, cond, Option, Some, None, refl, ap, sym, ◌∙◌, subst, inl, inr, ◌⊎◌, arith}
use Rattle.std.proofs.lemmas.Option.{none-some}
use Rattle.std.proofs.lemmas.Bool.{and_from, and_parts, cases_Bool, cases_eq, false≢true, not-true, not_from_false, or_from, or_parts, true≢false}
use Rattle.hm_data.specs.declared.call.Call.{Call}
use Rattle.hm_data.specs.declared.call.ReportMsg.{ReportMsg}
use Rattle.hm_data.specs.declared.call.Verb.{Verb}
use Rattle.hm_data.specs.declared.entry.Entry.{Entry}
use Rattle.hm_data.specs.declared.entry.Entry.TheVariants as entry_is
use Rattle.hm_model.specs.Answers.{report_of}
use Rattle.hm_model.specs.Counts.{count_below, one_if}
use Rattle.hm_model.specs.Base.{IsBegun, PartFits}
use Rattle.hm_model.specs.Journal.{Past}
use Rattle.hm_data.specs.declared.part.Part.{Part}
use Rattle.hm_data.specs.declared.part.Part.TheVariants as part_is
use Rattle.hm_model.specs.Parts.{part_made}
use Rattle.hm_model.proofs.Parted.{by_parts}
use Rattle.hm_model.specs.Locks.{IsIn}
use Rattle.hm_model.specs.Phase.{ended}
use Rattle.hm_model.specs.Reports.{call_if, call_of, is_reported, is_settled, peer_if, peer_in, peer_of, verb_of}
use Rattle.hm_model.specs.Rules.{IsLegal}
use Rattle.hm_model.specs.Tree.{Node, made, node_of, pid_of}
use Rattle.hm_model.proofs.Counting.{count_none, find_below}
use Rattle.hm_model.proofs.Trees.{grown_all, verb_was}
use Rattle.hm_world_model.specs.Events.{Deliver, Flush, Hear, Ignore, Send, Travels, Works, happens, with_entry}
use Rattle.hm_world_model.specs.Measure.{CanCarry, CarryingIsPossible, CarryingStays, calls_made, is_to_send, left_to_carry, runs_if, travels}
use Rattle.hm_world_model.specs.Outside.{Outside, runs}
use Rattle.hm_world_model.specs.Runs.{GoesOn, May, MayEnter, MayHear}
use Rattle.hm_world_model.specs.Safe.{IsKept}
use Rattle.hm_world_model.specs.World.{LogFault, World, durable_part}
use Rattle.hm_model.proofs.Taken.{open_before}
use Rattle.hm_world_model.proofs.Facts.{node_called, peer_same}
use Rattle.hm_world_model.proofs.Measure.{deliver_nearer, hear_nearer, ignore_nearer, send_nearer}
use Rattle.hm_world_model.proofs.Progress.{reports_heard}
use Rattle.hm_world_model.proofs.Tails.{event_keeps, safe_past}

-- counts
one_le : (a b : Bool) → (a ≡ true → b ≡ true) → one_if a ≤ one_if b
one_le true true h = omega arith
one_le true false h = absurd (false≢true (h refl))
one_le false b h = omega arith

-- where the one test passes the other does
count_le : (n : ℕ) (one other : ℕ → Bool) → ((q : ℕ) → q < n → one q ≡ true → other q ≡ true) → count_below one n ≤ count_below other n
count_le zero one other h = omega arith
count_le (suc n) one other h = let before = count_le n one other (λ q lt. h q (omega (arith, lt))) in let here = one_le (one n) (other n) (h n (omega arith)) in omega (arith, before, here)

-- but at one number
count_but : (n : ℕ) (one other : ℕ → Bool) (p : ℕ) → ((q : ℕ) → q ≢ p → one q ≡ true → other q ≡ true) → count_below one n ≤ count_below other n + 1
count_but zero one other p h = omega arith
count_but (suc n) one other p h = elim (cases_eq n p) [
  | inr differs ↦ let before = count_but n one other p h in let here = one_le (one n) (other n) (h n differs) in omega (arith, before, here)
  | inl same ↦ (
      let before = count_le n one other (λ q lt. h q (λ e. not_itself q lt (e ∙ sym same))) in
      let here = one_at_most (one n) in
      omega (arith, before, here)
      )
]
  where
    not_itself : (q : ℕ) → q < n → q ≡ n → ⊥
    not_itself q lt e = omega (arith, lt, e)

    one_at_most : (b : Bool) → one_if b ≤ 1
    one_at_most true = omega arith
    one_at_most false = omega arith

-- numbers that don't pass count for nothing
count_wide : (test : ℕ → Bool) (n more : ℕ) → ((q : ℕ) → n ≤ q → test q ≡ false) → count_below test (more + n) ≡ count_below test n
count_wide test n zero off = let e : 0 + n ≡ n = omega arith in rw e refl
count_wide test n (suc more) off =
    let before = count_wide test n more off in
    let e : suc more + n ≡ suc (more + n) = omega arith in
    let last : one_if (test (more + n)) ≡ 0 = ap one_if (off (more + n) (omega arith)) in
    rw e (omega (arith, before, last))

-- who steps
abbrev pub stepper : Entry → ℕ
stepper (entry_is.Step pid pick out) = pid.0
stepper entry = 0

-- a call that is recorded was, or is recorded now
pub new_call : (e : Entry) (J : Past) (q : ℕ) (verb : Verb) → verb_of (e ∷ J) q ≡ Some verb → (verb_of J q ≡ Some verb) ⊎ ((calls_made e ≡ 1) × (q ≡ stepper e))
new_call (entry_is.Step pid pick out) J q verb is = elim (verb_was pid pick out J q verb is) [ inl old ↦ inl old | inr new ↦ inr (ap (λ c. one_if (is_some c)) new.1, new.0) ]
new_call (entry_is.Base part) J q verb is = absurd (none-some verb is)
new_call entry J q verb is = inl is

one_or_none : (b : Bool) → (one_if b ≡ 0) ⊎ (one_if b ≡ 1)
one_or_none true = inr refl
one_or_none false = inl refl

calls_at_most : (e : Entry) → (calls_made e ≡ 0) ⊎ (calls_made e ≡ 1)
calls_at_most (entry_is.Step pid pick out) = one_or_none (is_some out.call)
calls_at_most entry = inl refl

-- what has no report had none
pub reported_back : (e : Entry) (J : Past) → IsLegal (e ∷ J) → (q : ℕ) → is_reported (e ∷ J) q ≡ false → is_reported J q ≡ false
reported_back (entry_is.Report call told) J legal q h = by (q == call.0) h
  where
    by : (b : Bool) → is_some (cond b (Some told) (report_of J q)) ≡ false → is_reported J q ≡ false
    by true k = absurd (true≢false k)
    by false k = k
reported_back (entry_is.Base part) J legal q h = by_parts (λ j. is_reported j q ≡ false) refl (λ own older. refl) part J legal.1.0
reported_back entry J legal q h = h

-- more is made
made_grows : (e : Entry) (J : Past) → IsLegal (e ∷ J) → made J ≤ made (e ∷ J)
made_grows (entry_is.Base part) J legal = by part legal.1.0
  where
    by : (part : Part) → PartFits part J → made J ≤ part_made part (made J)
    by (part_is.Head entries last parts sheets) fits = subst (λ j. made j ≤ last.0) (sym fits.0) (omega arith)
    by part fits = omega arith
made_grows entry J legal = omega arith

-- who is called of a call that is to be sent
called_if : (o : Outside) (n : Option Node) (v : Option Verb) → runs_if o (peer_if n v) ≡ true → (node : Node) × (n ≡ Some node) × (verb : Verb) × (v ≡ Some verb)
called_if o None v h = absurd (false≢true h)
called_if o (Some node) None h = absurd (false≢true h)
called_if o (Some node) (Some verb) h = (node, refl, verb, refl)

sent_called : (w : World) (q : ℕ) → is_to_send w q ≡ true → (node : Node) × (node_of w.past q ≡ Some node) × (verb : Verb) × (verb_of w.past q ≡ Some verb)
sent_called w q h = called_if w.outside (node_of w.past q) (verb_of w.past q) (and_parts (runs_if w.outside (peer_of w.past q)) (not (is_settled w.past q) && not (travels w q)) h).0

-- whom an entry leaves as it is
module _ (w : World) (kept : IsKept w) (entry : Entry) (may : MayEnter w entry) where
  legal : IsLegal w.past
  legal = (safe_past w kept).legal

  next : IsLegal (entry ∷ w.past)
  next = (legal, may.1)

  unmade_off : (q : ℕ) → made w.past + 1 ≤ q → is_to_send w q ≡ false
  unmade_off q le = ap (λ n. runs_if w.outside (peer_if n (verb_of w.past q)) && (not (is_settled w.past q) && not (travels w q))) ((grown_all w.past legal).numbered q (omega (arith, le)))

  sent_before : (q : ℕ) (verb : Verb) → verb_of w.past q ≡ Some verb → is_to_send (with_entry w entry) q ≡ true → is_to_send w q ≡ true
  sent_before q verb is h =
      let parts = and_parts (runs_if w.outside (peer_of (entry ∷ w.past) q)) (not (is_settled (entry ∷ w.past) q) && not (travels w q)) h in
      let more = and_parts (not (is_settled (entry ∷ w.past) q)) (not (travels w q)) parts.1 in
      let unsettled = or_parts (is_reported (entry ∷ w.past) q) (ended (entry ∷ w.past) q) (not-true (is_settled (entry ∷ w.past) q) more.0) in
      let node = node_called w.past legal q verb is in
      and_from (runs_if w.outside (peer_of w.past q)) (not (is_settled w.past q) && not (travels w q)) (ap (runs_if w.outside) (sym (peer_same entry w.past next q verb is)) ∙ parts.0)
      (and_from (not (is_settled w.past q)) (not (travels w q))
      (not_from_false (is_settled w.past q) (or_from (is_reported w.past q) (ended w.past q) (reported_back entry w.past next q unsettled.0) (open_before entry w.past next q node.0 node.1 unsettled.1))) more.1)

  sent_or_new : (q : ℕ) → is_to_send (with_entry w entry) q ≡ true → (is_to_send w q ≡ true) ⊎ ((calls_made entry ≡ 1) × (q ≡ stepper entry))
  sent_or_new q h =
      let called = sent_called (with_entry w entry) q h in
      elim (new_call entry w.past q called.2 called.3) [ inl old ↦ inl (sent_before q called.2 old h) | inr new ↦ inr new ]

  wide_count : count_below (is_to_send w) (made (entry ∷ w.past) + 1) ≡ count_below (is_to_send w) (made w.past + 1)
  wide_count =
      let grows = made_grows entry w.past next in
      let more : made (entry ∷ w.past) + 1 ≡ (made (entry ∷ w.past) - made w.past) + (made w.past + 1) = omega (arith, grows) in
      ap (count_below (is_to_send w)) more ∙ count_wide (is_to_send w) (made w.past + 1) (made (entry ∷ w.past) - made w.past) unmade_off

  count_raised : count_below (is_to_send (with_entry w entry)) (made (entry ∷ w.past) + 1) ≤ count_below (is_to_send w) (made w.past + 1) + calls_made entry
  count_raised = elim (calls_at_most entry) [
    | inl none ↦ (
        let le = count_le (made (entry ∷ w.past) + 1) (is_to_send (with_entry w entry)) (is_to_send w) (λ q lt h. elim (sent_or_new q h) [ inl old ↦ old | inr new ↦ absurd (zero_one none new.0) ]) in
        omega (arith, le, wide_count, none)
        )
    | inr one ↦ (
        let le = count_but (made (entry ∷ w.past) + 1) (is_to_send (with_entry w entry)) (is_to_send w) (stepper entry) (λ q differs h. elim (sent_or_new q h) [ inl old ↦ old | inr new ↦ absurd (differs new.1) ]) in
        omega (arith, le, wide_count, one)
        )
  ]
    where
      zero_one : calls_made entry ≡ 0 → calls_made entry ≡ 1 → ⊥
      zero_one a b = omega (arith, a, b)

  pub entry_raises : left_to_carry (with_entry w entry) ≤ left_to_carry w + 3 * calls_made entry
  entry_raises = let le = count_raised in omega (arith, le)

pub carrying_stays : CarryingStays
carrying_stays w kept = ((λ k. refl), (λ claim. refl), (λ claim. refl), (λ claim entry may. entry_raises w kept entry may.2), entry_raises w kept)

-- where a call is recorded the journal has begun
begun_by_call : (J : Past) (p : ℕ) → verb_of J p ≢ None → IsBegun J
begun_by_call [] p some = absurd (some refl)
begun_by_call (entry_is.Base part ∷ J) p some = absurd (some refl)
begun_by_call (entry ∷ J) p some = tt

-- something can be carried
module _ (w : World) (kept : IsKept w) (going : GoesOn w) where
  ignorable : (report : ReportMsg) → is_settled w.past report.call.0 ≡ true → MayHear w report → ⊥
  ignorable report settled hear =
      let out = hear.0.1.1.0 in
      true≢false (sym settled ∙ or_from (is_reported w.past report.call.0) (ended w.past report.call.0) (ap is_some out.1) out.2)

  waits_on : (report : ReportMsg) (rest : List ReportMsg) → w.waiting ≡ report ∷ rest → CanCarry w
  waits_on report rest e = elim (cases_Bool (is_settled w.past report.call.0)) [
    | inl settled ↦ (let may : May w (Travels (Ignore report)) = (going, (rest, e), ignorable report settled) in inr (inr (inl (report, (may, ignore_nearer w kept report may settled)))))
    | inr unsettled ↦ (
        let h = reports_heard w kept report (kept.waiting_is report (subst (IsIn report) (sym e) (inl refl))) unsettled in
        let may : May w (Travels (Hear report)) = (((going, (begun_by_call w.past report.call.0 h.0.0, (h.0, (h.1, tt)))), h.2), (rest, e)) in
        inr (inl (report, (may, hear_nearer w kept report may)))
        )
  ]

  abbrev full : World
  full = happens w (Works (Flush (length w.past)))

  may_flush : May w (Works (Flush (length w.past)))
  may_flush = (λ fault. none-some LogFault (sym going ∙ fault), kept.within, omega arith)

  all_durable : durable_part full ≡ w.past
  all_durable = let none : length w.past - length w.past ≡ 0 = omega arith in ap (λ n. drop n w.past) none

  sends_on : (q : ℕ) → is_to_send w q ≡ true → CanCarry full
  sends_on q on =
      let called = sent_called w q on in
      let peer : peer_of w.past q ≡ Some (peer_in called.0.args) = ap (λ n. peer_if n (verb_of w.past q)) called.1 ∙ ap (peer_if (Some called.0)) called.3 in
      let runs_there : runs w.outside (peer_in called.0.args) ≡ true = ap (runs_if w.outside) (sym peer) ∙ (and_parts (runs_if w.outside (peer_of w.past q)) (not (is_settled w.past q) && not (travels w q)) on).0 in
      let call : Call = record { id = pid_of q; peer = peer_in called.0.args; verb = called.2 } in
      let is : call_of w.past q ≡ Some call = ap (λ p. call_if q p (verb_of w.past q)) peer ∙ ap (call_if q (Some (peer_in called.0.args))) called.3 in
      let may : May full (Travels (Send call)) = (going, ap (λ J. call_of J q) all_durable ∙ is, runs_there) in
      inr (inr (inr (call, (may, send_nearer full (event_keeps w (Works (Flush (length w.past))) kept may_flush) call may on))))

  pub possible : (left_to_carry w ≡ 0) ⊎ (CanCarry w ⊎ (May w (Works (Flush (length w.past))) × CanCarry full))
  possible = by_wire w.wire refl
    where
      nothing : w.wire ≡ [] → w.waiting ≡ [] → ((q : ℕ) → q < made w.past + 1 → is_to_send w q ≡ false) → left_to_carry w ≡ 0
      nothing wire waiting none =
          let a = count_none (made w.past + 1) (is_to_send w) none in
          let b : length w.wire ≡ 0 = ap length wire in
          let c : length w.waiting ≡ 0 = ap length waiting in
          omega (arith, a, b, c)

      by_waiting : w.wire ≡ [] → (l : List ReportMsg) → w.waiting ≡ l → (left_to_carry w ≡ 0) ⊎ (CanCarry w ⊎ (May w (Works (Flush (length w.past))) × CanCarry full))
      by_waiting wire (report ∷ rest) e = inr (inl (waits_on report rest e))
      by_waiting wire [] e = elim (find_below (made w.past + 1) (is_to_send w)) [
        | inl found ↦ inr (inr (may_flush, sends_on found.0 found.2))
        | inr none ↦ inl (nothing wire e none)
      ]

      by_wire : (l : List Call) → w.wire ≡ l → (left_to_carry w ≡ 0) ⊎ (CanCarry w ⊎ (May w (Works (Flush (length w.past))) × CanCarry full))
      by_wire [] e = by_waiting e w.waiting refl
      by_wire (call ∷ rest) e = (let may : May w (Travels (Deliver call)) = (going, (rest, e)) in inr (inl (inl (call, (may, deliver_nearer w kept call may)))))

pub carrying_possible : CarryingIsPossible
carrying_possible w kept going = possible w kept going
