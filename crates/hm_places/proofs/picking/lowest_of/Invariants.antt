use Rattle.std.proofs.Common.{◌≡◌, drop}
use Rattle.std.specs.Option.{option_copied}
use Rattle.hm_model.specs.Loads.{load_in}
use Rattle.hm_model.specs.Choice.{lowest, without}
use Rattle.hm_places.proofs.Live.{live_names}
use Rattle.hm_places.proofs.Lowest.{with_best, server_of, IsLoaded}
use Rattle.hm_places.proofs.picking.lowest_of.Given as goal

abbrev pub invariant-loop-number : goal.invariant-loop-number
invariant-loop-number l = record {
  lowest : with_best (load_in l.places.places) (server_of l.best) (lowest (load_in l.places.places) (without (option_copied l.avoid) (live_names l.rows.came (drop l.number-index l.live))))
      ≡ lowest (load_in l.places.places) (without (option_copied l.avoid) (live_names l.rows.came l.live));
  loaded : IsLoaded (load_in l.places.places) l.best;
}
