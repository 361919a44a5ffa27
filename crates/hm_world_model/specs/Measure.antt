-- How far calls still have to go.
use Rattle.std.specs.Prelude.{◌≡◌, ℕ, ◌+◌, ◌*◌, ◌≤◌, length, Option, Some, None, Bool, true, false, not, is_some, ◌==◌, ◌&&◌, ◌||◌, ◌⊎◌}
use Rattle.std.specs.List.{list_any}
use Rattle.hm_data.specs.declared.call.Call.{Call}
use Rattle.hm_data.specs.declared.call.Peer.{Peer}
use Rattle.hm_data.specs.declared.call.ReportMsg.{ReportMsg}
use Rattle.hm_data.specs.declared.entry.Entry.{Entry}
use Rattle.hm_data.specs.declared.entry.Entry.TheVariants as entry_is
use Rattle.hm_model.specs.Counts.{count_below, one_if}
use Rattle.hm_model.specs.Reports.{is_settled, peer_of}
use Rattle.hm_model.specs.Tree.{made}
use Rattle.hm_world_model.specs.Events.{Claim, Commit, Deliver, Event, Flush, GiveUp, Hear, Ignore, Send, Travels, Works, happens, with_entry}
use Rattle.hm_world_model.specs.Outside.{Outside, runs}
use Rattle.hm_world_model.specs.Runs.{GoesOn, May, MayEnter}
use Rattle.hm_world_model.specs.Safe.{IsKept}
use Rattle.hm_world_model.specs.World.{Claimed, World}

-- a call with this id is on the wire, or a report of it waits
abbrev pub travels : World → ℕ → Bool
travels w p = list_any (λ call. call.id.0 == p) w.wire || list_any (λ report. report.call.0 == p) w.waiting

-- somebody is called, and runs
abbrev pub runs_if : Outside → Option Peer → Bool
runs_if o None = false
runs_if o (Some peer) = runs o peer

-- a call is to be sent: it isn't settled, who is called runs, and it doesn't travel
abbrev pub is_to_send : World → ℕ → Bool
is_to_send w p = runs_if w.outside (peer_of w.past p) && (not (is_settled w.past p) && not (travels w p))

-- three for each call that is to be sent, two for each on the wire, one for each report that waits
abbrev pub left_to_carry : World → ℕ
left_to_carry w = 3 * count_below (is_to_send w) (made w.past + 1) + 2 * length w.wire + length w.waiting

-- there is less to carry after an event
abbrev pub IsNearer : World → Event → Type 0
IsNearer w event = left_to_carry (happens w event) + 1 ≤ left_to_carry w

-- so it is when a call is delivered, when one that is to be sent is sent, when a report is recorded, and when one of a settled
-- call is ignored
abbrev pub CarryingGoesOn : Type 0
CarryingGoesOn =
    (w : World) → IsKept w
    → ((call : Call) → May w (Travels (Deliver call)) → IsNearer w (Travels (Deliver call)))
    × ((call : Call) → May w (Travels (Send call)) → is_to_send w call.id.0 ≡ true → IsNearer w (Travels (Send call)))
    × ((report : ReportMsg) → May w (Travels (Hear report)) → IsNearer w (Travels (Hear report)))
    × ((report : ReportMsg) → May w (Travels (Ignore report)) → is_settled w.past report.call.0 ≡ true → IsNearer w (Travels (Ignore report)))

-- how many calls an entry records
abbrev pub calls_made : Entry → ℕ
calls_made (entry_is.Step pid pick out) = one_if (is_some out.call)
calls_made entry = 0

-- who is claimed and what is durable change nothing of it, and an entry, that of a commit too, adds no more than three for the
-- call that it records
abbrev pub CarryingStays : Type 0
CarryingStays =
    (w : World) → IsKept w
    → ((k : ℕ) → left_to_carry (happens w (Works (Flush k))) ≡ left_to_carry w)
    × ((claim : Claimed) → left_to_carry (happens w (Works (Claim claim))) ≡ left_to_carry w)
    × ((claim : Claimed) → left_to_carry (happens w (Works (GiveUp claim))) ≡ left_to_carry w)
    × ((claim : Claimed) (entry : Entry) → May w (Works (Commit claim entry))
    → left_to_carry (happens w (Works (Commit claim entry))) ≤ left_to_carry w + 3 * calls_made entry)
    × ((entry : Entry) → MayEnter w entry → left_to_carry (with_entry w entry) ≤ left_to_carry w + 3 * calls_made entry)

-- an event may come, and leaves less to carry
abbrev pub Carries : World → Event → Type 0
Carries w event = May w event × IsNearer w event

-- a call can be delivered or sent, or a report recorded or ignored, which leaves less to carry
abbrev pub CanCarry : World → Type 0
CanCarry w =
    ((call : Call) × Carries w (Travels (Deliver call)))
    ⊎ (((report : ReportMsg) × Carries w (Travels (Hear report)))
    ⊎ (((report : ReportMsg) × Carries w (Travels (Ignore report)))
    ⊎ ((call : Call) × Carries w (Travels (Send call)))))

-- where nothing can be carried, at once or after a flush of the whole journal, nothing is left to carry
abbrev pub CarryingIsPossible : Type 0
CarryingIsPossible =
    (w : World) → IsKept w → GoesOn w
    → (left_to_carry w ≡ 0)
    ⊎ (CanCarry w ⊎ (May w (Works (Flush (length w.past))) × CanCarry (happens w (Works (Flush (length w.past))))))
