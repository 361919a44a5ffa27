use Rattle.std.proofs.Common.{◌∙◌, ◌∷◌, [], length-append, arith}
use Rattle.hm_locks.proofs.Adding.{added_next}
use Rattle.hm_locks.proofs.pages.add_wants.Goals as goal

pub loop-claim-preserved : goal.loop-claim-preserved
loop-claim-preserved c =
    let l = c.loop-claim in
    let was = l.invariant in
    let one = c.add_want.ensures in
    let long = length-append l.yielded (c.in-Some.claim ∷ []) in
    record {
      items = added_next l.desks.numbers c.add_want.new.desks.numbers c.args.place l.yielded c.in-Some.claim c.args.wants.now.items l.wants.items c.add_want.new.wants.items was.items one.kept one.items;
      kept = λ key d is. one.kept key d (was.kept key d is);
      len = (let a = was.len in let b = one.len in omega (arith, a, b, long));
      capacity = one.capacity ∙ was.capacity;
      limit = one.limit ∙ was.limit;
      spare = (let a = was.spare in let b = one.spare in omega (arith, a, b, long));
      room = one.room ∙ was.room;
    }
