use Rattle.std.proofs.Common.{subst}
use Rattle.std.specs.Prelude.{MatchOption}
use Rattle.hm_model.specs.Base.{IsBegun}
use Rattle.hm_model.specs.Rules.{IsLegal}
use Rattle.hm_journal.specs.Judged.{head_sheets}
use Rattle.hm_journal.specs.Stored.{SameSheets}
use Rattle.hm_journal.specs.Verdict.{IsLowestDifference}
use Rattle.hm_journal.proofs.Halves.{others_whole}
use Rattle.hm_journal.proofs.Started.{begun_based}
use Rattle.hm_journal.proofs.based.with_same.Goals as goal

pub returns-in-None-clause-begun : goal.returns-in-None-clause-begun
returns-in-None-clause-begun c parts sheets is differs =
    begun_based sheets parts (subst IsLegal is c.journal.ensures.legal) (subst IsBegun is c.journal.ensures.begun)
    (subst (λ o. MatchOption o (SameSheets sheets (head_sheets parts)) (IsLowestDifference sheets (head_sheets parts))) c.in-None.is differs)

pub returns-in-Some-clause-why : goal.returns-in-Some-clause-why
returns-in-Some-clause-why c frames parts sheets entries is some leading differs spells =
    others_whole sheets frames parts entries c.in-Some.kind leading spells some (subst IsLegal is c.journal.ensures.legal)
    (subst (λ o. MatchOption o (SameSheets sheets (head_sheets parts)) (IsLowestDifference sheets (head_sheets parts))) c.in-Some.is differs)
