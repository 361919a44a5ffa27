use Rattle.std.proofs.Common.{◌+◌, ◌++◌, ◌∷◌, [], sym, ◌∙◌, arith, length-append}
use Rattle.std.proofs.iter.Next.{Yields-more}
use Rattle.std.specs.Vec.Iter.{into_iter_items, into_iter_steps}
use Rattle.hm_records.proofs.Drafts.{asks_append, asks_one, asks_room, drafted_next, taken_front}
use Rattle.hm_records.proofs.book.enlist.Goals as goal

pub enlist_draft-requires-clause-asks : goal.enlist_draft-requires-clause-asks
enlist_draft-requires-clause-asks c =
    let l = c.loop-draft in
    let draft = c.in-Some.draft in
    let b = c.into_iter-draft-iterator.ensures.into_iter_gives in
    let more = Yields-more into_iter_steps c.into_iter-draft-iterator.result l.yielded l.draft-iterator draft c.next.new.self l.yielded_by c.in-Some.ensures.steps in
    let front = taken_front c.into_iter-draft-iterator.result (l.yielded ++ draft ∷ []) c.next.new.self more in
    asks_room c.args.drafts.items l.yielded (into_iter_items c.next.new.self) draft c.args.book.now.spare_asks l.book.spare_asks (sym b.0 ∙ front) c.requires.asks l.invariant.asks

pub loop-draft-preserved : goal.loop-draft-preserved
loop-draft-preserved c =
    let l = c.loop-draft in
    let draft = c.in-Some.draft in
    let was = l.invariant in
    let pid = was.pid in
    let long = length-append l.yielded (draft ∷ []) in
    let whole = asks_append l.yielded (draft ∷ []) in
    let own = asks_one draft in
    record {
      rows = drafted_next c.args.book.now.rows l.book.rows c.enlist_draft.new.self.rows c.args.last l.yielded draft (l.pid + 1) (omega (arith, pid)) was.rows c.enlist_draft.ensures.rows;
      pid = omega (arith, pid, long);
      spare = (let before = was.spare in let now = c.enlist_draft.ensures.spare in omega (arith, before, now, long));
      asks = (let before = was.asks in let now = c.enlist_draft.ensures.asks in omega (arith, before, now, whole, own));
      room = c.enlist_draft.ensures.room ∙ was.room;
    }
