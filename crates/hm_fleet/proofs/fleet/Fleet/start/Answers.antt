use Rattle.std.proofs.Common.{ap}
use Rattle.hm_server.specs.Actors.{storage_of}
use Rattle.hm_world_model.specs.Outside.{Outside}
use Rattle.hm_fleet.proofs.fleet.Fleet.start.Goals as goal

pub returns-clause-outside : goal.returns-clause-outside
returns-clause-outside c =
    let f = c.self.inside in
    rw (← c.self.view_is) (ap (λ a. let o : Outside = record { actors = a; storage = storage_of f.storage; sent = f.calls.all; reports = f.reports.all } in o) c.start.ensures)
