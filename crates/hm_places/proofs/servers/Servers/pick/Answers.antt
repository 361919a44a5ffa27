use Rattle.std.proofs.Common.{◌∙◌, ap}
use Rattle.std.specs.Option.{option_copied}
use Rattle.hm_model.specs.Loads.{load_in}
use Rattle.hm_model.specs.Standings.{live_servers}
use Rattle.hm_model.specs.Choice.{lowest, without}
use Rattle.hm_places.specs.Servers.{ServersView}
use Rattle.hm_places.proofs.Fleets.{none_lowest, without_none}
use Rattle.hm_places.proofs.servers.Servers.pick.Goals as goal

pub returns-in-None : goal.returns-in-None
returns-in-None c =
    let f = c.self.inside in
    let same = ap (λ (t : ServersView). t.servers) c.self.view_is in
    rw (← same, none_lowest (load_in c.args.places.now.places) (without (option_copied c.args.avoid) (live_servers f.rows.pairs)) (live_servers f.rows.pairs) c.in-None.ensures)
    (c.lowest_of-in-None.ensures ∙ ap (lowest (load_in c.args.places.now.places)) (without_none (live_servers f.rows.pairs)))
