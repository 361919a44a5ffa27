use Rattle.std.proofs.Common.{ap, ◌∙◌}
use Rattle.std.specs.Option.{option_copied}
use Rattle.hm_model.specs.Loads.{load_in, places_of}
use Rattle.hm_model.specs.Standings.{live_servers}
use Rattle.hm_model.specs.Choice.{lowest, or_else, without}
use Rattle.hm_judge.proofs.choice.least_loaded.Goals as goal

pub returns : goal.returns
returns c =
    c.pick.ensures
    ∙ ap (λ places. lowest (load_in places) (or_else (without (option_copied c.args.avoid) (live_servers c.standings.result.now.servers)) (live_servers c.standings.result.now.servers))) c.places.ensures
    ∙ ap (λ servers. lowest (load_in (places_of c.args.records.now.past)) (or_else (without (option_copied c.args.avoid) (live_servers servers)) (live_servers servers))) c.standings.ensures.are
