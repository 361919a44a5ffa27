use Rattle.hm_places.specs.Servers.{is_fenced_in}
use Rattle.hm_hbck.specs.Found.{all_held, holds_of}
use Rattle.hm_hbck.proofs.Holders.{all_step, held_step}
use Rattle.hm_hbck.proofs.holdings.holdings.Goals as goal

pub loop-actor-preserved : goal.loop-actor-preserved
loop-actor-preserved c =
    let rows = c.args.catalog.now.rows in
    let fenced = is_fenced_in c.args.servers.now.servers in
    let actors = c.args.actors.now in
    let added = c.in_ok-add_unless_fenced.ensures.list in
    record {
      list = held_step rows fenced actors c.loop-actor.actor-index c.actor-item.result _ c.loop-actor-test.true c.actor-item.is (holds_of c.loop-actor.list.items) (holds_of c.add_unless_fenced.new.list.items) (all_held rows fenced actors) added c.loop-actor.invariant.list;
      held = λ rest. c.loop-actor.invariant.held (all_step fenced actors c.loop-actor.actor-index c.actor-item.result _ c.loop-actor-test.true c.actor-item.is c.add_unless_fenced.ensures.held rest);
    }
