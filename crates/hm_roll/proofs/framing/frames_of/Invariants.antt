use Rattle.std.proofs.Common.{◌≡◌, take, All}
use Rattle.hm_entry.specs.Fits.{PartFits}
use Rattle.hm_roll.specs.Parts.{frames_of}
use Rattle.hm_roll.proofs.framing.frames_of.Given as goal

abbrev pub invariant-loop-part : goal.invariant-loop-part
invariant-loop-part l = record {
  so_far : l.frames ≡ frames_of (take l.part-index l.parts);
  fit : All PartFits (take l.part-index l.parts);
}
