use Rattle.std.proofs.Common.{◌≡◌, drop}
use Rattle.std.specs.List.{list_all}
use Rattle.hm_model.specs.Requests.{are_apart}
use Rattle.hm_catalog.proofs.requests.is_apart_from.Given as goal

abbrev pub invariant-loop-other : goal.invariant-loop-other
invariant-loop-other l = list_all (are_apart l.region) (drop l.other-index l.others) ≡ list_all (are_apart l.region) l.others
