use Rattle.std.proofs.Common.{◌≡◌, ◌+◌, ◌∷◌, Some, length, slice_get, ap, arith, subst, ◌∙◌, ℕ}
use Rattle.hm_locks.specs.Book.{AreChanged, new_row}
use Rattle.hm_locks.proofs.Places.{get_is}
use Rattle.hm_model.specs.Locks.{asks}
use Rattle.hm_model.specs.Tree.{made}
use Rattle.hm_tied.specs.Uses.{EnlistsBelow}
use Rattle.hm_roster.specs.Roster.{rows_on}
use Rattle.hm_roster.proofs.Alike.{book_on, book_self}
use Rattle.hm_roster.proofs.Listing.{lists_all, lists_first, lists_next, made_parent, more_same, none_more, one_more, parents_enlisted, works_first}
use Rattle.hm_roster.proofs.Tried.{when_err, when_ok}
use Rattle.hm_roster.proofs.desk.Desk.enlist.Goals as goal

pub loop-place-init : goal.loop-place-init
loop-place-init c =
    let J = c.args.records.now.past in
    let start : made J + 1 ≡ made J + 1 + 0 = omega arith in
    let last : c.last_pid-last.result ≡ made J = c.last_pid-last.ensures.last ∙ ap made c.procedures.ensures.past in
    record {
      same = book_self c.args.self.now;
      more = none_more J c.procedures.ensures.legal c.args.self.now c.requires.follows (omega (arith, last));
      begun = λ entry makes. subst (λ k. EnlistsBelow J (entry ∷ J) (rows_on c.args.self.now) (rows_on c.args.self.now) k) start (lists_first J c.args.self.now entry c.args.made.now c.args.parent c.procedures.ensures.legal c.requires.follows makes);
    }

pub enlist_one-requires-clause-first : goal.enlist_one-requires-clause-first
enlist_one-requires-clause-first c =
    let next = c.requires.next in
    works_first next.0 c.args.records.now.past (c.procedures.ensures.legal, next.1.allowed) next.1.no_part c.loop-place.place c.index-made-place.result
    (ap (λ l. slice_get l c.loop-place.place) next.1.args ∙ get_is c.args.made.now c.loop-place.place c.index-made-place.result (omega arith) c.index-made-place.is)

pub enlist_one-requires-clause-parent : goal.enlist_one-requires-clause-parent
enlist_one-requires-clause-parent c =
    let next = c.requires.next in
    parents_enlisted c.args.records.now.past c.procedures.ensures.legal c.loop-place.self c.loop-place.place c.loop-place.invariant.more c.args.parent
    (λ pid is. made_parent next.0 c.args.records.now.past (c.procedures.ensures.legal, next.1.allowed) pid (next.1.above ∙ is))

pub unlist-requires : goal.unlist-requires
unlist-requires c =
    more_same c.args.records.now.past c.procedures.ensures.legal c.loop-place.self c.loop-place.place c.enlist_one.new.self c.loop-place.invariant.more c.enlist_one.ensures.same
    (when_err c.enlist_one.result c.is_err.result _ c.is_err.ensures.value c.if-is_err.true c.enlist_one.ensures.err)

pub loop-place-preserved : goal.loop-place-preserved
loop-place-preserved c =
    let J = c.args.records.now.past in
    let inv = c.loop-place.invariant in
    let n = made J + 1 + c.loop-place.place in
    let last : c.last_pid-last.result ≡ made J = c.last_pid-last.ensures.last ∙ ap made c.procedures.ensures.past in
    let at : c.last_pid-last.result + 1 + c.loop-place.place ≡ n = omega (arith, last) in
    let row = new_row (rows_on c.loop-place.self) n c.args.parent (asks c.index-made-place.result) in
    let changed : AreChanged (rows_on c.loop-place.self) n (Some row) (rows_on c.enlist_one.new.self) =
    subst (λ (k : ℕ). AreChanged (rows_on c.loop-place.self) k (Some (new_row (rows_on c.loop-place.self) k c.args.parent (asks c.index-made-place.result))) (rows_on c.enlist_one.new.self)) at
    (when_ok c.enlist_one.result c.is_err.result _ c.is_err.ensures.value c.if-is_err.false c.enlist_one.ensures.ok) in
    let got = get_is c.args.made.now c.loop-place.place c.index-made-place.result (omega arith) c.index-made-place.is in
    let pids : c.loop-place.self.sched.pids ≡ c.args.self.now.sched.pids = ap (λ s. s.pids) inv.same.sched in
    let next : n + 1 ≡ made J + 1 + (c.loop-place.place + 1) = omega arith in
    record {
      same = book_on c.args.self.now c.loop-place.self c.enlist_one.new.self inv.same c.enlist_one.ensures.same;
      more = one_more J c.procedures.ensures.legal c.loop-place.self c.loop-place.place c.enlist_one.new.self row inv.more c.enlist_one.ensures.same changed (omega (arith, pids)) (omega (arith, last));
      begun = λ entry makes.
          subst (λ k. EnlistsBelow J (entry ∷ J) (rows_on c.args.self.now) (rows_on c.enlist_one.new.self) k) next
          (lists_next J (rows_on c.args.self.now) c.loop-place.self c.enlist_one.new.self entry c.args.made.now c.args.parent c.loop-place.place c.index-made-place.result c.procedures.ensures.legal inv.more makes got changed (inv.begun entry makes));
    }

pub returns-clause-ok : goal.returns-clause-ok
returns-clause-ok c entry makes =
    let J = c.args.records.now.past in
    let inv = c.loop-place.invariant in
    let all : c.loop-place.place ≡ length c.args.made.now = omega arith in
    lists_all J c.args.self.now c.loop-place.self entry c.args.made.now c.args.parent c.procedures.ensures.legal c.requires.follows inv.same makes c.requires.room
    (subst (λ (k : ℕ). EnlistsBelow J (entry ∷ J) (rows_on c.args.self.now) (rows_on c.loop-place.self) (made J + 1 + k)) all (inv.begun entry makes))
