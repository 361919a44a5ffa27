-- Which calls are due after what happens.
use Rattle.std.proofs.Common.{◌≡◌, ◌⊎◌, ℕ, ◌∷◌, true, false, is_some, None, Option, Some, List, Result, Ok, Err, refl, sym, ap, ◌∙◌, inl, inr, subst, arith}
use Rattle.std.proofs.lemmas.Bool.{false≢true, or_from, or_parts}
use Rattle.std.proofs.lemmas.Option.{none-some, same_Some}
use Rattle.hm_data.specs.declared.call.Call.{Call}
use Rattle.hm_data.specs.declared.call.Peer.{Peer}
use Rattle.hm_data.specs.declared.entry.Entry.{Entry}
use Rattle.hm_hall.specs.Recording.{Recording, Records}
use Rattle.hm_hall.specs.declared.fault.RecordFault.{RecordFault}
use Rattle.hm_hall.specs.declared.fault.RecordFault.TheVariants as record_is
use Rattle.hm_model.specs.Journal.{Past, back}
use Rattle.hm_model.specs.Phase.{ended}
use Rattle.hm_model.specs.Reports.{call_if, call_of, is_reported, is_settled, peer_in, peer_of, verb_of}
use Rattle.hm_model.specs.Records.{record_of}
use Rattle.hm_model.specs.Tree.{Node, pid_of}
use Rattle.hm_data.specs.declared.call.Verb.{Verb}
use Rattle.hm_data.specs.declared.record.Record.{Record}
use Rattle.hm_judge.proofs.Found.{there_of}
use Rattle.hm_model.specs.Rules.{IsLegal}
use Rattle.hm_model.proofs.Prefixes.{back-push}
use Rattle.hm_model.proofs.Taken.{open_before}
use Rattle.hm_world_model.specs.Measure.{calls_made}
use Rattle.hm_world_model.specs.Outside.{Outside, runs}
use Rattle.hm_world_model.proofs.Facts.{node_called, parts_of, peer_same}
use Rattle.hm_world_model.proofs.Raising.{new_call, reported_back, stepper}
use Rattle.hm_world.specs.Due.{IsDue, IsDueAt}
use Rattle.hm_world.specs.Sound.{HaveDue}
use Rattle.hm_world.proofs.Entered.{Entered}

-- the id of a call is the number of its procedure
id_if : (p : ℕ) (peer : Option Peer) (verb : Option Verb) (call : Call) → call_if p peer verb ≡ Some call → call.id ≡ pid_of p
id_if p None verb call e = absurd (none-some call e)
id_if p (Some peer) None call e = absurd (none-some call e)
id_if p (Some peer) (Some verb) call e = ap (λ (c : Call). c.id) (sym (same_Some (record { id = pid_of p; peer = peer; verb = verb }) call e))

pub own_id : (J : Past) (p : ℕ) (call : Call) → call_of J p ≡ Some call → call.id ≡ pid_of p
own_id J p call is = id_if p (peer_of J p) (verb_of J p) call is

-- a call that is due after an entry was due before it, or is the entry's
pub due_before : (entry : Entry) (J : Past) (o : Outside) (call : Call) → IsLegal (entry ∷ J) → IsDue (entry ∷ J) o call → IsDue J o call ⊎ ((calls_made entry ≡ 1) × (call.id.0 ≡ stepper entry))
due_before entry J o call legal due =
    elim (new_call entry J call.id.0 call.verb (parts_of (entry ∷ J) call due.0).1) [
      | inr new ↦ inr new
      | inl old ↦ (
          let node = node_called J legal.0 call.id.0 call.verb old in
          let unsettled = or_parts (is_reported (entry ∷ J) call.id.0) (ended (entry ∷ J) call.id.0) due.1 in
          inl (was old, or_from (is_reported J call.id.0) (ended J call.id.0) (reported_back entry J legal call.id.0 unsettled.0) (open_before entry J legal call.id.0 node.0 node.1 unsettled.1), due.2)
          )
    ]
  where
    was : verb_of J call.id.0 ≡ Some call.verb → call_of J call.id.0 ≡ Some call
    was old =
        ap (λ x. call_if call.id.0 x (verb_of J call.id.0)) (sym (peer_same entry J legal call.id.0 call.verb old))
        ∙ ap (call_if call.id.0 (peer_of (entry ∷ J) call.id.0)) (old ∙ sym (parts_of (entry ∷ J) call due.0).1) ∙ due.0

-- so it is of entries that call nobody
pub have_entered : (P : Entry → Type 0) (old new : Recording) (o : Outside) (numbers : List ℕ) → ((entry : Entry) → P entry → calls_made entry ≡ 0) → IsLegal (back old.entries) → HaveDue (back old.entries) o numbers → Entered P old new → HaveDue (back new.entries) o numbers
have_entered P old new o numbers quiet legal have (inl same) = subst (λ (k : Recording). HaveDue (back k.entries) o numbers) (sym same) have
have_entered P old new o numbers quiet legal have (inr (entry, holds, may, result, records)) = by result records
  where
    behind : HaveDue (entry ∷ back old.entries) o numbers
    behind call due = elim (due_before entry (back old.entries) o call (legal, may) due) [ inl was ↦ have call was | inr (one, own) ↦ absurd (zero_one (quiet entry holds) one) ]
      where
        zero_one : calls_made entry ≡ 0 → calls_made entry ≡ 1 → ⊥
        zero_one a b = omega (arith, a, b)

    by : (result : Result ℕ RecordFault) → Records old entry result new → HaveDue (back new.entries) o numbers
    by (Ok number) records =
        subst (λ (k : Recording). HaveDue (back k.entries) o numbers) (sym records.3) (subst (λ J. HaveDue J o numbers) (sym (back-push old.entries entry)) behind)
    by (Err (record_is.Halted why)) records = subst (λ (k : Recording). HaveDue (back k.entries) o numbers) (sym records.1) have
    by (Err (record_is.JournalFull bytes)) records = subst (λ (k : Recording). HaveDue (back k.entries) o numbers) (sym records.3) have
    by (Err record_is.LogFault) records = subst (λ (k : Recording). HaveDue (back k.entries) o numbers) (sym records.2) have

-- and where nobody runs who didn't
pub have_outside : (J : Past) (o o' : Outside) (numbers : List ℕ) → ((peer : Peer) → runs o' peer ≡ true → runs o peer ≡ true) → HaveDue J o numbers → HaveDue J o' numbers
have_outside J o o' numbers fewer have call due = have call (due.0, due.1, fewer call.peer due.2)

-- a call that isn't settled, to who runs, is due
pub due_at : (J : Past) (o : Outside) (p : ℕ) (its : Record) → IsLegal J → Some its ≡ record_of J p → is_some (verb_of J p) ≡ true → is_settled J p ≡ false → runs o (peer_in its.args) ≡ true → IsDueAt J o p
due_at J o p its legal found called unsettled on = by (verb_of J p) refl called
  where
    by : (v : Option Verb) → verb_of J p ≡ v → is_some v ≡ true → IsDueAt J o p
    by None is some = absurd (false≢true some)
    by (Some verb) is some =
        let node = node_called J legal p verb is in
        let there = there_of J p its found in
        let args : its.args ≡ node.0.args = ap (λ (r : Record). r.args) there.2 ∙ ap (λ (x : Node). x.args) (same_Some there.0 node.0 (sym there.1 ∙ node.1)) in
        let call : Call = record { id = pid_of p; peer = peer_in node.0.args; verb = verb } in
        (call, ap (λ x. call_if p x (verb_of J p)) node.3 ∙ ap (call_if p (Some (peer_in node.0.args))) is, unsettled, ap (λ a. runs o (peer_in a)) (sym args) ∙ on)
