use Rattle.std.proofs.Common.{◌≡◌, drop, not}
use Rattle.std.specs.List.{list_any}
use Rattle.hm_model.specs.Fleet.{same_server}
use Rattle.hm_places.proofs.Live.{live_names}
use Rattle.hm_places.proofs.up.other_live.Given as goal

abbrev pub invariant-loop-number : goal.invariant-loop-number
invariant-loop-number l = list_any (λ other. not (same_server l.server other)) (live_names l.rows.came (drop l.number-index l.live)) ≡ list_any (λ other. not (same_server l.server other)) (live_names l.rows.came l.live)
