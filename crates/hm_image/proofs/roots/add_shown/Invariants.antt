use Rattle.std.proofs.Common.{◌≡◌, ◌++◌, drop}
use Rattle.hm_image.specs.Roots.{roots_told}
use Rattle.hm_image.proofs.roots.add_shown.Given as goal

abbrev pub invariant-loop-place : goal.invariant-loop-place
invariant-loop-place l =
    l.parts.items ++ roots_told (drop l.place l.roots) (drop l.place l.nonces) ≡ l.initial.parts.items ++ roots_told l.roots l.nonces
