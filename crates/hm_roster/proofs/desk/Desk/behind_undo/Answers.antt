use Rattle.std.proofs.Common.{List, ℕ, ap, subst, sym}
use Rattle.hm_data.specs.declared.entry.Entry.TheVariants as entry_is
use Rattle.hm_model.specs.Claims.{Unclaims}
use Rattle.hm_roster.proofs.Entries.{undo_enters}
use Rattle.hm_roster.proofs.desk.Desk.behind_undo.Goals as goal

pub look_at_uncounted-requires-clause-entered : goal.look_at_uncounted-requires-clause-entered
look_at_uncounted-requires-clause-entered c =
    let behind = c.requires.behind in
    let enters = undo_enters c.args.records.now.past c.procedures-legal.ensures.legal c.args.root c.args.low c.args.late c.args.self.now c.unclaim.new.claimed.items c.requires c.unclaim.ensures.less in
    record {
      before = behind.before;
      entry = entry_is.Undo c.requires.pid c.requires.row c.requires.out;
      is = behind.is;
      node = enters.0;
      there = enters.1;
      owes = enters.2;
      first = c.requires.first;
      room = behind.room;
      below = behind.below;
    }

pub returns-clause-claimed : goal.returns-clause-claimed
returns-clause-claimed c = subst (λ (l : List ℕ). Unclaims c.args.root.0 c.args.self.now.claimed.items l) (ap (λ v. v.items) (sym c.look_at_uncounted.ensures.same.claimed)) c.unclaim.ensures.less
