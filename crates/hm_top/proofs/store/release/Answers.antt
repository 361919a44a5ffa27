use Rattle.std.proofs.Common.{Option, ap, ◌∙◌, subst, sym}
use Rattle.hm_data.specs.declared.entry.Entry.{Entry}
use Rattle.hm_journal.specs.Since.{with_tail}
use Rattle.hm_model.specs.Base.{IsBegun}
use Rattle.hm_model.specs.Journal.{back}
use Rattle.hm_model.specs.Rules.{IsLegal}
use Rattle.hm_top.proofs.store.release.Goals as goal

pub returns : goal.returns
returns g c =
    let kept = c.args.journal.kept in
    let past = ap (λ (tail : Option Entry). back (with_tail kept.entries tail)) c.requires.tailless ∙ c.requires.same in
    record {
      stored = c.into_disk.ensures.stored;
      since = c.into_disk.ensures.since;
      legal = subst IsLegal (sym past) c.journal.ensures.legal;
      begun = subst IsBegun (sym past) c.journal.ensures.begun;
    }
