-- What a step adds to the past.
use Rattle.std.proofs.Common.{inl, inr}
use Rattle.hm_disk.specs.Past.{Event}
use Rattle.hm_disk.specs.declared.past.Step.{Step}
use Rattle.hm_disk.specs.declared.past.Step.TheVariants as step

-- the event of a step
abbrev pub event_of : Step → Event
event_of (step.Wrote at bytes) = inl (inl (at, bytes.now))
event_of (step.Cut size) = inl (inr size)
event_of (step.Synced content) = inr content.now
