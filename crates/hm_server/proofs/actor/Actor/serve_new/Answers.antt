use Rattle.std.proofs.Common.{ap, sym, refl}
use Rattle.hm_server.specs.Actors.{ActorView, duties_of}
use Rattle.hm_server.proofs.Alike.{kept_last}
use Rattle.hm_server.proofs.actor.Actor.serve_new.Goals as goal

pub returns-clause-actor : goal.returns-clause-actor
returns-clause-actor c =
    let f = c.self.inside in
    let name = ap (λ (t : ActorView). t.name) c.self.view_is in
    let duties = ap (λ (t : ActorView). t.duties) c.self.view_is in
    let finds = rw c.in_ok-name.ensures at c.in_ok-keep.ensures.duties in
    record {
      name = sym name;
      last = rw (← duties) (kept_last (duties_of f.duties) (duties_of c.keep.new.duties) c.args.region.now (record { id = c.args.id; told = c.args.doing.told; holds = c.args.doing.holds }) finds);
      refusals = refl;
    }
