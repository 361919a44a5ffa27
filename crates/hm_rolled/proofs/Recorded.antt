-- What events record, in the history and in the master's own journal.
use Rattle.std.proofs.Common.{◌≡◌, ℕ, ◌≤◌, [], ◌∷◌, ◌++◌, Option, Some, None, false, nat_lt, refl, ap, sym, ◌∙◌, arith}
use Rattle.std.proofs.lemmas.Bool.{cond-false, cond-true}
use Rattle.std.proofs.lemmas.List.{append_cancel_right}
use Rattle.hm_names.specs.Server.{Server}
use Rattle.hm_data.specs.declared.entry.Entry.{Entry}
use Rattle.hm_data.specs.declared.entry.Entry.TheVariants as entry_is
use Rattle.hm_model.specs.Base.{IsBegun}
use Rattle.hm_model.specs.Image.{counted, image}
use Rattle.hm_model.specs.Journal.{Past}
use Rattle.hm_model.specs.Laws.{is_part}
use Rattle.hm_model.specs.Rebase.{based, rebase}
use Rattle.hm_rebase.proofs.Shown.{alike_images}
use Rattle.hm_world_model.specs.Events.{Abort, Adopt, Arm, Claim, Commit, Deliver, DeliverAgain, DeliverOld, Die, Ends, Event, Expire, Fault, Flush, Full, GiveUp, Hear, HearAgain, Ignore, Lives, Lose, Miss, Repeat, Roll, Send, SendOld, Start, Stop, Submit, Travels, Works, happens}
use Rattle.hm_world_model.specs.Runs.{IsWork, May}
use Rattle.hm_world_model.specs.Safe.{IsKept}
use Rattle.hm_world_model.specs.World.{Claimed, World, own, rebased_by}
use Rattle.hm_world_model.proofs.Rolling.{below_more, count_more, not_below}
use Rattle.hm_world_model.proofs.Tails.{safe_past}
use Rattle.hm_rolled.specs.Own.{EventsRecord, LeavesRolled, OwnGoesOn, RollsOwn, RollsToImage}
use Rattle.hm_rolled.proofs.Rebasing.{rebased_alike, rolled_past}

-- what a start records: that an older server went down, and that the server came up
abbrev started_with : Server → Option Server → Past
started_with server None = entry_is.Up server ∷ []
started_with server (Some older) = entry_is.Up server ∷ entry_is.Down older ∷ []

-- the entries that an event records
abbrev recorded : Event → Past
recorded (Works (Submit nonce request)) = entry_is.Submit nonce request ∷ []
recorded (Works (Commit claim entry)) = entry ∷ []
recorded (Works (Expire server)) = entry_is.Down server ∷ []
recorded (Works (Abort pid)) = entry_is.Abort pid ∷ []
recorded (Works (Adopt sheets)) = entry_is.Adopt sheets ∷ []
recorded (Travels (Hear report)) = entry_is.Report report.call report.told ∷ []
recorded (Travels (HearAgain report)) = entry_is.Report report.call report.told ∷ []
recorded (Lives (Start server older)) = started_with server older
recorded event = []

past_is : (w : World) (event : Event) → LeavesRolled event → (happens w event).past ≡ recorded event ++ w.past
past_is w (Works (Submit nonce request)) leaves = refl
past_is w (Works (Claim claim)) leaves = refl
past_is w (Works (Commit claim entry)) leaves = refl
past_is w (Works (GiveUp claim)) leaves = refl
past_is w (Works (Flush k)) leaves = refl
past_is w (Works (Expire server)) leaves = refl
past_is w (Works (Abort pid)) leaves = refl
past_is w (Works (Adopt sheets)) leaves = refl
past_is w (Works Roll) leaves = absurd leaves
past_is w (Travels (Send call)) leaves = refl
past_is w (Travels (Deliver call)) leaves = refl
past_is w (Travels (DeliverAgain call)) leaves = refl
past_is w (Travels (Hear report)) leaves = refl
past_is w (Travels (Ignore report)) leaves = refl
past_is w (Travels (HearAgain report)) leaves = refl
past_is w (Travels Lose) leaves = refl
past_is w (Travels Repeat) leaves = refl
past_is w (Travels (SendOld call)) leaves = refl
past_is w (Travels (DeliverOld call)) leaves = refl
past_is w (Travels (Miss report)) leaves = refl
past_is w (Lives (Start server None)) leaves = refl
past_is w (Lives (Start server (Some older))) leaves = refl
past_is w (Lives (Die server)) leaves = refl
past_is w (Lives (Arm peer count)) leaves = refl
past_is w (Ends (Fault tail)) leaves = refl
past_is w (Ends Full) leaves = refl
past_is w (Ends (Stop k rolled)) leaves = absurd leaves

pub events_record : EventsRecord
events_record w event leaves = (recorded event, past_is w event leaves)

-- the work of a claim is no part
work_plain : (past : Past) (claim : Claimed) (entry : Entry) → IsWork past claim entry → is_part entry ≡ false
work_plain past claim (entry_is.Base part) work = absurd work
work_plain past claim entry work = refl

module _ (w : World) (kept : IsKept w) where
  -- an entry that is no part is recorded in the master's own journal
  pub own_more : (entry : Entry) (past : Past) → is_part entry ≡ false → ((r : ℕ) → w.rolled ≡ Some r → r ≤ counted past) → rebased_by w.rolled (entry ∷ past) ≡ entry ∷ rebased_by w.rolled past
  own_more entry past other within = by w.rolled refl
    where
      by : (rolled : Option ℕ) → w.rolled ≡ rolled → rebased_by rolled (entry ∷ past) ≡ entry ∷ rebased_by rolled past
      by None is = refl
      by (Some r) is = cond-true (nat_lt r (counted (entry ∷ past))) (entry ∷ rebase past r) (based (image (entry ∷ past))) (below_more entry past r other (within r is))

  few : (r : ℕ) → w.rolled ≡ Some r → r ≤ counted w.past
  few r is = (let was = rolled_past w kept r is in was.within)

  own_one : (entry : Entry) → is_part entry ≡ false → rebased_by w.rolled (entry ∷ w.past) ≡ entry ∷ own w
  own_one entry other = own_more entry w.past other few

  own_two : (entry later : Entry) → is_part entry ≡ false → is_part later ≡ false → rebased_by w.rolled (later ∷ entry ∷ w.past) ≡ later ∷ entry ∷ own w
  own_two entry later one two =
      own_more later (entry ∷ w.past) two (λ r is. let more = count_more entry w.past one in let low = few r is in omega (arith, more, low))
      ∙ ap (λ J. later ∷ J) (own_one entry one)

  own_is : (event : Event) → May w event → LeavesRolled event → own (happens w event) ≡ recorded event ++ own w
  own_is (Works (Submit nonce request)) may leaves = own_one (entry_is.Submit nonce request) refl
  own_is (Works (Claim claim)) may leaves = refl
  own_is (Works (Commit claim entry)) may leaves = own_one entry (work_plain w.past claim entry may.1)
  own_is (Works (GiveUp claim)) may leaves = refl
  own_is (Works (Flush k)) may leaves = refl
  own_is (Works (Expire server)) may leaves = own_one (entry_is.Down server) refl
  own_is (Works (Abort pid)) may leaves = own_one (entry_is.Abort pid) refl
  own_is (Works (Adopt sheets)) may leaves = own_one (entry_is.Adopt sheets) refl
  own_is (Works Roll) may leaves = absurd leaves
  own_is (Travels (Send call)) may leaves = refl
  own_is (Travels (Deliver call)) may leaves = refl
  own_is (Travels (DeliverAgain call)) may leaves = refl
  own_is (Travels (Hear report)) may leaves = own_one (entry_is.Report report.call report.told) refl
  own_is (Travels (Ignore report)) may leaves = refl
  own_is (Travels (HearAgain report)) may leaves = own_one (entry_is.Report report.call report.told) refl
  own_is (Travels Lose) may leaves = refl
  own_is (Travels Repeat) may leaves = refl
  own_is (Travels (SendOld call)) may leaves = refl
  own_is (Travels (DeliverOld call)) may leaves = refl
  own_is (Travels (Miss report)) may leaves = refl
  own_is (Lives (Start server None)) may leaves = own_one (entry_is.Up server) refl
  own_is (Lives (Start server (Some older))) may leaves = own_two (entry_is.Down older) (entry_is.Up server) refl refl
  own_is (Lives (Die server)) may leaves = refl
  own_is (Lives (Arm peer count)) may leaves = refl
  own_is (Ends (Fault tail)) may leaves = refl
  own_is (Ends Full) may leaves = refl
  own_is (Ends (Stop k rolled)) may leaves = absurd leaves

pub own_goes_on : OwnGoesOn
own_goes_on w event kept may leaves newer is =
    own_is w kept event may leaves ∙ ap (λ J. J ++ own w) (append_cancel_right (recorded event) newer w.past (sym (past_is w event leaves) ∙ is))

pub rolls_to_image : RollsToImage
rolls_to_image w may = by w.past may.1.2
  where
    by : (past : Past) → IsBegun past → rebase past (counted past) ≡ based (image past)
    by [] begun = absurd begun
    by (entry ∷ past) begun = cond-false (nat_lt (counted (entry ∷ past)) (counted (entry ∷ past))) (entry ∷ rebase past (counted (entry ∷ past))) (based (image (entry ∷ past))) (not_below (counted (entry ∷ past)))

pub rolls_own : RollsOwn
rolls_own w kept =
    let safe = safe_past w kept in
    let rolled = rebased_alike w.past safe.legal w.rolled (rolled_past w kept) in
    let one = alike_images w.past (own w) safe.legal rolled.0 rolled.1 in
    (one.0, ap based one.1)
