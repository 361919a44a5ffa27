-- What a deposed master does is what may happen to the other's world.
use Rattle.std.proofs.Common.{◌≡◌, ℕ, ◌+◌, ◌-◌, ◌≤◌, [], ◌∷◌, length, drop, Option, Some, None, refl, ap, sym, ◌∙◌, subst, arith}
use Rattle.hm_data.specs.declared.entry.Entry.{Entry}
use Rattle.hm_data.specs.declared.entry.Entry.TheVariants as entry_is
use Rattle.hm_model.specs.Reports.{call_of}
use Rattle.hm_model.specs.Rules.{IsLegal}
use Rattle.hm_world_model.specs.Events.{Abort, Adopt, Arm, Claim, Commit, Deliver, DeliverAgain, DeliverOld, Die, Ends, Event, Expire, Fault, Flush, Full, GiveUp, Hear, HearAgain, Ignore, Lives, Lose, Miss, Repeat, Roll, Send, SendOld, Start, Stop, Submit, Travels, Works, happens, stopped}
use Rattle.hm_world_model.specs.Pairs.{Deposed, Delivers, MayMeddle, Meddling, Old, Own, PairsKeep, PairsNeverTwice, Precedes, Sends, Takes, TakenOver, event_of, pair_after}
use Rattle.hm_world_model.specs.Runs.{May}
use Rattle.hm_world_model.specs.Safe.{IsKept}
use Rattle.hm_world_model.specs.World.{World, durable_part, whole, with_tail}
use Rattle.hm_world_model.proofs.Fronts.{drop_again, durable_whole, one_more, shorter, whole_front}
use Rattle.hm_world_model.proofs.Points.{kept_never_twice, safe_first}
use Rattle.hm_world_model.proofs.Tails.{calls_grow, event_keeps}

-- what is durable in a world is a front of what is durable in another
abbrev Grows : World → World → Type 0
Grows w v = (n : ℕ) × (durable_part w ≡ drop n (durable_part v))

stop_grows : (w : World) (k : ℕ) (rolled : Option ℕ) → w.durable ≤ length w.past → w.durable ≤ k → k ≤ length (whole w) → Grows w (stopped w k rolled)
stop_grows w k rolled within low high = (
  k - w.durable,
  durable_whole w.tail w.past w.durable within
      ∙ shorter (whole w) w.durable k low high
      ∙ ap (drop (k - w.durable)) (sym (whole_front (whole w) k high)),
)

grows : (w : World) (event : Event) → IsKept w → May w event → Grows w (happens w event)
grows w (Works (Submit nonce request)) k may = (0, one_more (entry_is.Submit nonce request) w.past w.durable k.within)
grows w (Works (Claim claim)) k may = (0, refl)
grows w (Works (Commit claim entry)) k may = (0, one_more entry w.past w.durable k.within)
grows w (Works (GiveUp claim)) k may = (0, refl)
grows w (Works (Flush n)) k may = (n - w.durable, shorter w.past w.durable n may.1 may.2)
grows w (Works (Expire server)) k may = (0, one_more (entry_is.Down server) w.past w.durable k.within)
grows w (Works (Abort pid)) k may = (0, one_more (entry_is.Abort pid) w.past w.durable k.within)
grows w (Works (Adopt sheets)) k may = (0, one_more (entry_is.Adopt sheets) w.past w.durable k.within)
grows w (Works Roll) k may = (0, refl)
grows w (Travels (Send call)) k may = (0, refl)
grows w (Travels (Deliver call)) k may = (0, refl)
grows w (Travels (DeliverAgain call)) k may = (0, refl)
grows w (Travels (Hear report)) k may = (0, one_more (entry_is.Report report.call report.told) w.past w.durable k.within)
grows w (Travels (Ignore report)) k may = (0, refl)
grows w (Travels (HearAgain report)) k may = (0, one_more (entry_is.Report report.call report.told) w.past w.durable k.within)
grows w (Travels (SendOld call)) k may = (0, refl)
grows w (Travels (DeliverOld call)) k may = (0, refl)
grows w (Travels (Miss report)) k may = (0, refl)
grows w (Travels Lose) k may = (0, refl)
grows w (Travels Repeat) k may = (0, refl)
grows w (Lives (Start server None)) k may = (0, one_more (entry_is.Up server) w.past w.durable k.within)
grows w (Lives (Start server (Some older))) k may = (
  0,
  one_more (entry_is.Down older) w.past w.durable k.within ∙ one_more (entry_is.Up server) (entry_is.Down older ∷ w.past) w.durable (let a = k.within in omega (arith, a)),
)
grows w (Lives (Die server)) k may = (0, refl)
grows w (Lives (Arm peer count)) k may = (0, refl)
grows w (Ends (Fault tail)) k may = (0, refl)
grows w (Ends Full) k may = (0, refl)
grows w (Ends (Stop n rolled)) k may = stop_grows w n rolled k.within may.0 may.1

precedes_on : (old : Deposed) (w v : World) → Precedes old w → Grows w v → Precedes old v
precedes_on old w v before more =
    (more.0 + before.0, before.1 ∙ ap (drop before.0) more.1 ∙ drop_again before.0 more.0 (durable_part v))

-- what is durable is legal
durable_legal : (w : World) → IsKept w → IsLegal (durable_part w)
durable_legal w kept =
    subst IsLegal (sym (durable_whole w.tail w.past w.durable kept.within)) (let safe = safe_first w kept w.durable (omega arith) (longer w.tail) in safe.legal)
  where
    longer : (t : Option Entry) → w.durable ≤ length (with_tail t w.past)
    longer None = kept.within
    longer (Some entry) = let a = kept.within in omega (arith, a)

-- what a deposed master does may happen to the other's world
meddles : (old : Deposed) (w : World) → IsKept w → Precedes old w → (meddling : Meddling) → MayMeddle old w meddling → May w (event_of meddling)
meddles old w kept before (Sends call) may =
    (calls_grow (durable_part w) (durable_legal w kept) before.0 call (subst (λ p. call_of p call.id.0 ≡ Some call) before.1 may.0), may.1)
meddles old w kept before (Delivers call) may = may
meddles old w kept before (Takes report) may = may

pub taken_over : TakenOver
taken_over w k rolled kept low high = stop_grows w k rolled kept.within low high

pub pairs_keep : PairsKeep
pairs_keep old w kept before [] run = (kept, before)
pairs_keep old w kept before (Own event ∷ events) run =
    let was = pairs_keep old w kept before events run.0 in
    (event_keeps (pair_after w events) event was.0 run.1, precedes_on old (pair_after w events) (happens (pair_after w events) event) was.1 (grows (pair_after w events) event was.0 run.1))
pairs_keep old w kept before (Old meddling ∷ events) run =
    let was = pairs_keep old w kept before events run.0 in
    let may = meddles old (pair_after w events) was.0 was.1 meddling run.1 in
    (event_keeps (pair_after w events) (event_of meddling) was.0 may, precedes_on old (pair_after w events) (happens (pair_after w events) (event_of meddling)) was.1 (grows (pair_after w events) (event_of meddling) was.0 may))

pub pairs_never_twice : PairsNeverTwice
pairs_never_twice old w kept before events run twice = kept_never_twice (pair_after w events) (pairs_keep old w kept before events run).0 twice
