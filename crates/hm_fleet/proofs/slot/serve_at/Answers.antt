use Rattle.std.proofs.Common.{◌≡◌, rules, true}
use Rattle.hm_model.specs.Fleet.{same_server}
use Rattle.hm_fleet.proofs.Running.{served_slot}
use Rattle.hm_fleet.proofs.slot.serve_at.Goals as goal

pub returns-clause-slot : goal.returns-clause-slot
returns-clause-slot c =
    let on : same_server c.in-Some.actor.name c.args.server.now ≡ true = search rules in
    served_slot c.args.slot.now c.in-Some.actor c.serve.new.self c.args.server.now c.args.call.now c.in-Some.is on c.in_ok-report.ensures.actor
