use Rattle.std.proofs.Common.{◌≡◌, ◌+◌, ◌<◌, ◌∙◌, length, get_or, arith, false, true, Bool, ℕ}
use Rattle.hm_locks.specs.declared.entry.Want.{Want}
use Rattle.hm_locks.specs.Kept.{lane}
use Rattle.hm_locks.proofs.Places.{got_or}
use Rattle.hm_locks.proofs.Seating.{seated, still_out}
use Rattle.hm_locks.proofs.seats.seat.Goals as goal

no_want : Want
no_want = record { place = 0; desk = 0; exclusive = false }

lane_within : (d n : ℕ) (x : Bool) → d + d + 1 < n → lane d x < n
lane_within d n true lt = lt
lane_within d n false lt = omega (arith, lt)

pub link-requires-clause-list : goal.link-requires-clause-list
link-requires-clause-list c =
    let n = c.args.first + c.loop-done.done in
    let within = c.requires.within in
    let more = c.loop-done-test.true in
    let w = get_or c.args.wants.now n (record { place = 0; desk = 0; exclusive = false }) in
    let lanes = (c.requires.lanes n w (got_or c.args.wants.now n (record { place = 0; desk = 0; exclusive = false }) (omega (arith, within, more)))).0 in
    let lt = lane_within w.desk (length c.args.lists.now.lists) w.exclusive lanes in
    let same = c.loop-done.invariant.count in
    let is = c.lane.ensures in omega (arith, lt, same, is)

pub link-requires-clause-out : goal.link-requires-clause-out
link-requires-clause-out c =
    let more = c.loop-done-test.true in
    still_out c.args.wants.now c.args.first c.loop-done.done c.args.lists.now.lists c.loop-done.lists.lists c.loop-done.invariant.lists (c.args.first + c.loop-done.done) (omega arith)
    (c.requires.out (c.args.first + c.loop-done.done) (omega arith) (omega (arith, more)))

pub loop-done-preserved : goal.loop-done-preserved
loop-done-preserved c =
    let n = c.args.first + c.loop-done.done in
    let within = c.requires.within in
    let more = c.loop-done-test.true in
    let w = get_or c.args.wants.now n (record { place = 0; desk = 0; exclusive = false }) in record {
      lists = seated c.args.wants.now c.args.first c.loop-done.done w c.args.lists.now.lists c.loop-done.lists.lists c.link.new.lists.lists
          (got_or c.args.wants.now n (record { place = 0; desk = 0; exclusive = false }) (omega (arith, within, more))) c.loop-done.invariant.lists (rw (← c.lane.ensures) c.link.ensures.lists);
      count = c.link.ensures.count ∙ c.loop-done.invariant.count;
      spare = c.link.ensures.spare ∙ c.loop-done.invariant.spare;
      room = c.link.ensures.room ∙ c.loop-done.invariant.room;
    }

pub returns-clause-lists : goal.returns-clause-lists
returns-clause-lists c =
    let most = c.loop-done.auto.done-end in
    let least = c.loop-done-test.false in
    let all : c.loop-done.done ≡ c.args.count = omega (arith, most, least) in
    rw (← all) c.loop-done.invariant.lists
