use Rattle.std.proofs.Common.{ℕ, sym, subst}
use Rattle.std.specs.Prelude.{MatchOption}
use Rattle.hm_journal.specs.Judged.{EndsAt, head_sheets}
use Rattle.hm_journal.specs.Stored.{SameSheets}
use Rattle.hm_journal.specs.Verdict.{AreIllegal, IsLowestDifference}
use Rattle.hm_journal.proofs.Halves.{others_at, wrong_first}
use Rattle.hm_journal.proofs.based.wrong_at.Goals as goal

pub returns-then-number-eq0 : goal.returns-then-number-eq0
returns-then-number-eq0 c parts sheets entries ends differs spells =
    let first = c.if-number-eq0.true in
    let frames = c.args.frames.now in
    subst (λ (n : ℕ). AreIllegal sheets entries n 18) (sym first) (wrong_first sheets frames parts entries ends.leading spells (subst (EndsAt frames parts) first ends))

pub returns-in-Some : goal.returns-in-Some
returns-in-Some c parts sheets entries ends differs spells =
    others_at sheets c.args.frames.now parts entries c.args.number c.in-Some.kind ends c.if-number-eq0.false spells
    (subst (λ o. MatchOption o (SameSheets sheets (head_sheets parts)) (IsLowestDifference sheets (head_sheets parts))) c.in-Some.is differs)

pub returns-in-None : goal.returns-in-None
returns-in-None c parts sheets entries ends differs spells =
    c.illegal_at.ensures parts sheets entries ends
    (subst (λ o. MatchOption o (SameSheets sheets (head_sheets parts)) (IsLowestDifference sheets (head_sheets parts))) c.in-None.is differs) spells
