-- What an entry that may follow answers, recorded or not.
use Rattle.std.proofs.Common.{◌≡◌, ℕ, List, Err, None, Ok, ap, ◌∙◌}
use Rattle.hm_data.specs.declared.entry.Entry.{Entry}
use Rattle.hm_hall.specs.Recording.{Recording, Records, halt_of, past_in}
use Rattle.hm_hall.specs.declared.fault.HallFault.{HallFault}
use Rattle.hm_hall.specs.declared.fault.HallFault.TheVariants as fault_is
use Rattle.hm_model.specs.Rules.{Allowed}
use Rattle.hm_exec.specs.Adding.{Adds}
use Rattle.hm_exec.specs.Fleet.{FaultsCopying}
use Rattle.hm_exec.specs.Moment.{FaultsAt, IsAdded, Moment}

-- what a recorder keeps, and who is claimed
abbrev pub moment : Recording → List ℕ → Moment
moment kept claims = record { kept = kept; claimed = claims }

pub same_moment : (old new : Recording) (claims after : List ℕ) → new ≡ old → after ≡ claims → moment new after ≡ moment old claims
same_moment old new claims after kept same = ap (λ k. moment k after) kept ∙ ap (moment old) same

module _ (old new : Recording) (claims after : List ℕ) (entry : Entry) (going : halt_of old ≡ None) (allowed : Allowed (past_in old) entry) (same : after ≡ claims) where
  -- it was recorded
  pub added : (number : ℕ) → Records old entry (Ok number) new → IsAdded (moment old claims) entry (moment new after)
  added number records = (going, allowed, (number, records), same)

  -- it wasn't
  pub faulted : (fault : HallFault) → Adds old entry (Err fault) new → FaultsAt (moment old claims) entry fault (moment new after)
  faulted (fault_is.Halted why) adds = (adds.0, same_moment old new claims after adds.1 same)
  faulted fault_is.LogFault adds = (going, allowed, (adds, same))
  faulted (fault_is.JournalFull bytes) adds = (going, allowed, (adds, same))
  faulted fault_is.Memory adds = (going, allowed, (adds.0, same_moment old new claims after adds.1 same))

-- it wasn't, of a copy
pub copying : (old new : Moment) (entry : Entry) (fault : HallFault) → FaultsAt old entry fault new → FaultsCopying old entry fault new
copying old new entry fault_is.Memory faults = (faults.0, faults.1, faults.2.1)
copying old new entry fault faults = faults
