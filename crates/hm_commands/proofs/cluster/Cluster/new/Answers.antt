use Rattle.std.proofs.Common.{◌≡◌, Option, sym, subst}
use Rattle.hm_data.specs.declared.entry.Entry.{Entry}
use Rattle.hm_journal.specs.Since.{Since, with_tail}
use Rattle.hm_journal.specs.Stored.{AllStored}
use Rattle.hm_journal.specs.View.{JournalView}
use Rattle.hm_model.specs.Base.{IsBegun}
use Rattle.hm_model.specs.Journal.{back}
use Rattle.hm_model.specs.Rules.{IsLegal}
use Rattle.hm_commands.proofs.cluster.Cluster.new.Goals as goal

pub returns-in-Err-clause-left : goal.returns-in-Err-clause-left
returns-in-Err-clause-left g c =
    let same : c.in-Err.journal ≡ c.args.journal = c.in-Err.ensures.back in
    record {
      stored = subst (λ (j : JournalView _). g.D.Disk.tells → AllStored (g.D.Disk.image c.into_disk.result) j.kept) same c.into_disk.ensures.stored;
      since = subst (λ (j : JournalView _). Since g.D.Disk j.opened c.into_disk.result j.kept.entries j.kept.tail j.kept.halted) same c.into_disk.ensures.since;
      legal = subst (λ (tail : Option Entry). IsLegal (back (with_tail c.args.journal.kept.entries tail))) (sym c.requires.tailless) (subst IsLegal (sym c.requires.same) c.journal.ensures.legal);
      begun = subst (λ (tail : Option Entry). IsBegun (back (with_tail c.args.journal.kept.entries tail))) (sym c.requires.tailless) (subst IsBegun (sym c.requires.same) c.journal.ensures.begun);
    }
