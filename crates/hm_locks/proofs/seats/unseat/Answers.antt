use Rattle.std.proofs.Common.{◌≡◌, ◌+◌, ◌∙◌, refl, arith, inr}
use Rattle.hm_locks.proofs.Seating.{left}
use Rattle.hm_locks.proofs.seats.unseat.Goals as goal

pub unlink-requires-clause-held : goal.unlink-requires-clause-held
unlink-requires-clause-held c =
    let more = c.loop-done-test.true in
    let was = c.requires.held (c.args.first + c.loop-done.done) (omega arith) (omega (arith, more)) in
    (was.0, (c.loop-done.invariant.lists was.0 (c.args.first + c.loop-done.done)).1 (was.1, inr (omega arith)))

pub loop-done-preserved : goal.loop-done-preserved
loop-done-preserved c = record {
  lists = left c.args.first c.loop-done.done (c.args.first + c.loop-done.done) c.args.lists.now.lists c.loop-done.lists.lists c.unlink.new.lists.lists refl c.loop-done.invariant.lists c.unlink.ensures.lists;
  count = c.unlink.ensures.count ∙ c.loop-done.invariant.count;
  spare = c.unlink.ensures.spare ∙ c.loop-done.invariant.spare;
  room = c.unlink.ensures.room ∙ c.loop-done.invariant.room;
}

pub returns-clause-lists : goal.returns-clause-lists
returns-clause-lists c =
    let most = c.loop-done.auto.done-end in
    let least = c.loop-done-test.false in
    rw (← (let all : c.loop-done.done ≡ c.args.count = omega (arith, most, least) in all)) c.loop-done.invariant.lists
