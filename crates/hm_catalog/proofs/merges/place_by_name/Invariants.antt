use Rattle.std.proofs.Common.{◌≡◌, ◌++◌, take, drop}
use Rattle.hm_model.specs.Locks.{with_region}
use Rattle.hm_catalog.proofs.merges.place_by_name.Given as goal

abbrev pub invariant-loop-place : goal.invariant-loop-place
invariant-loop-place l = with_region l.region l.sorted ≡ take l.place l.sorted ++ with_region l.region (drop l.place l.sorted)
