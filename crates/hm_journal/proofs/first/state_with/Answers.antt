use Rattle.std.proofs.Common.{List, [], ◌∷◌, refl, sym, subst}
use Rattle.std.proofs.lemmas.Bool.{false≢true}
use Rattle.hm_data.specs.declared.entry.Entry.{Entry}
use Rattle.hm_data.specs.declared.sheet.Sheet.{Sheet}
use Rattle.hm_model.specs.Base.{AreSheets}
use Rattle.hm_journal.specs.Verdict.{AreIllegal, HasOthers, IsLowestDifference}
use Rattle.hm_journal.specs.Judged.{HasBegunWith}
use Rattle.hm_journal.specs.Stored.{SameSheets}
use Rattle.hm_journal.proofs.Judging.{begun_start, breaks_first, illegal_first, others_start, wrong_start}
use Rattle.hm_journal.proofs.first.state_with.Goals as goal

pub returns-in_default-clause-why : goal.returns-in_default-clause-why
returns-in_default-clause-why c more = illegal_first c.args.sheets.now c.args.first.now more 1 (breaks_first c.args.first.now c.in_default.not-Start c.requires)

pub returns-then-not-are_sheets-clause-why : goal.returns-then-not-are_sheets-clause-why
returns-then-not-are_sheets-clause-why c more =
    subst (λ (e : Entry). AreIllegal c.args.sheets.now (e ∷ more) 0 1) (sym c.in-Start.is)
    (wrong_start c.args.sheets.now c.in-Start.own more (λ are. false≢true (c.if-not-are_sheets.ensures.1 (subst AreSheets (sym c.as_slice.ensures) are))))

pub returns-in-Some-clause-why : goal.returns-in-Some-clause-why
returns-in-Some-clause-why c more =
    subst (λ (e : Entry). HasOthers c.args.sheets.now (e ∷ more) c.in-Some.kind) (sym c.in-Start.is)
    (others_start c.args.sheets.now c.in-Start.own more c.in-Some.kind (subst AreSheets c.as_slice.ensures (c.if-not-are_sheets.ensures.0 refl))
    (subst (λ (l : List Sheet). IsLowestDifference c.args.sheets.now l c.in-Some.kind) c.as_slice-2.ensures c.in-Some.ensures.some))

pub returns-clause-begun : goal.returns-clause-begun
returns-clause-begun c =
    subst (λ (e : Entry). HasBegunWith c.args.sheets.now (e ∷ [])) (sym c.in-Start.is)
    (begun_start c.args.sheets.now c.in-Start.own (subst AreSheets c.as_slice.ensures (c.if-not-are_sheets.ensures.0 refl))
    (subst (λ (l : List Sheet). SameSheets c.args.sheets.now l) c.as_slice-2.ensures c.in_default-lowest_difference.ensures.none))
