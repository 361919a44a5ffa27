use Rattle.std.proofs.Common.{subst, arith}
use Rattle.std.proofs.lemmas.List.Elements.{All-more}
use Rattle.hm_entry.proofs.Room.{one_more, piece_fits}
use Rattle.hm_entry.proofs.put.put_items.Goals as goal

pub put-requires-clause-short : goal.put-requires-clause-short
put-requires-clause-short g c =
    omega (arith, c.requires.short, piece_fits g.T.Put.spell c.args.items.now c.loop-x.x-index c.x-item.result c.loop-x-test.true c.x-item.is)

pub put-requires-clause-room : goal.put-requires-clause-room
put-requires-clause-room g c =
    let before = c.loop-x.invariant.0 in
    omega (arith, c.requires.room, before.1, before.2, piece_fits g.T.Put.spell c.args.items.now c.loop-x.x-index c.x-item.result c.loop-x-test.true c.x-item.is)

pub loop-x-preserved : goal.loop-x-preserved
loop-x-preserved g c = (
  one_more g.T.Put.spell c.args.items.now c.loop-x.x-index c.x-item.result c.args.out.now c.loop-x.out c.put.new.out c.loop-x-test.true c.x-item.is c.loop-x.invariant.0 c.put.ensures.put,
  All-more g.T.Put.fits c.args.items.now c.loop-x.x-index c.x-item.result c.loop-x-test.true c.loop-x.invariant.1 (subst g.T.Put.fits c.x-item.is c.put.ensures.fits),
)
