use Rattle.std.proofs.Common.{refl}
use Rattle.hm_commands.specs.View.{scene_in}
use Rattle.hm_commands.proofs.Claims.{none_claimed}
use Rattle.hm_commands.proofs.Clusters.{is_kept, refused_becomes, refused_unclaimed, still_claimed}
use Rattle.hm_commands.proofs.tasks.record.Goals as goal

pub give-requires-clause-claimed : goal.give-requires-clause-claimed
give-requires-clause-claimed g c = (c.requires.claimed c.args.taken.pid.0).1 refl

pub returns-in-Ok-clause-becomes : goal.returns-in-Ok-clause-becomes
returns-in-Ok-clause-becomes g c = is_kept (scene_in c.args.world.now) c.args.taken c.args.out (scene_in c.give.new.self) c.in-Ok.given c.requires.handed c.in-Ok.ensures.gives

pub returns-in-Ok-clause-claimed : goal.returns-in-Ok-clause-claimed
returns-in-Ok-clause-claimed g c =
    let kept = is_kept (scene_in c.args.world.now) c.args.taken c.args.out (scene_in c.give.new.self) c.in-Ok.given c.requires.handed c.in-Ok.ensures.gives in
    none_claimed c.args.taken.pid.0 c.args.world.now.claimed c.give.new.self.claimed c.requires.claimed kept.1.0.4

pub put_back-requires : goal.put_back-requires
put_back-requires g c =
    still_claimed (scene_in c.args.world.now) c.args.taken c.args.out (scene_in c.give.new.self) c.in-Err.taken c.in-Err.fault c.requires.going ((c.requires.claimed c.args.taken.pid.0).1 refl) c.in-Err.ensures.gives

pub returns-in-Err-clause-becomes : goal.returns-in-Err-clause-becomes
returns-in-Err-clause-becomes g c =
    refused_becomes (scene_in c.args.world.now) c.args.taken c.args.out (scene_in c.give.new.self) (scene_in c.put_back.new.self) c.in-Err.taken c.in-Err.fault c.halted_by.result c.in-Err.ensures.gives c.put_back.ensures.returns c.halted_by.ensures

pub returns-in-Err-clause-claimed : goal.returns-in-Err-clause-claimed
returns-in-Err-clause-claimed g c =
    refused_unclaimed (scene_in c.args.world.now) c.args.taken c.args.out (scene_in c.give.new.self) (scene_in c.put_back.new.self) c.in-Err.taken c.in-Err.fault c.requires.going c.requires.claimed c.in-Err.ensures.gives c.put_back.ensures.returns
