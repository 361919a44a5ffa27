use Rattle.std.proofs.Common.{◌≡◌, ◌++◌, drop}
use Rattle.hm_model.specs.Records.{record_of}
use Rattle.hm_image.specs.Roots.{made_told}
use Rattle.hm_image.proofs.roots.add_made.Given as goal

abbrev pub invariant-loop-place : goal.invariant-loop-place
invariant-loop-place l =
    l.parts.items ++ made_told (record_of l.procedures.past) (drop l.place l.roots) (drop l.place l.nonces) ≡ l.initial.parts.items ++ made_told (record_of l.procedures.past) l.roots l.nonces
