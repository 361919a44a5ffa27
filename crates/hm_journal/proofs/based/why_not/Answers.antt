use Rattle.std.proofs.Common.{subst}
use Rattle.hm_base.specs.Read.{IsNoBase}
use Rattle.hm_journal.proofs.based.why_not.Goals as goal

pub returns-in-Part : goal.returns-in-Part
returns-in-Part c parts sheets entries some leading wrong differs spells =
    c.wrong_at.ensures parts sheets entries (record { some = some; leading = leading; wrong = subst (IsNoBase parts) c.in-Part.is wrong }) differs spells
