use Rattle.std.proofs.Common.{sym, ◌∙◌}
use Rattle.hm_records.proofs.Editions.{editions_leave, editions_more}
use Rattle.hm_records.proofs.lists.push_edition.Goals as goal

pub returns-in-Some-clause-editions : goal.returns-in-Some-clause-editions
returns-in-Some-clause-editions c =
    editions_more c.args.entry.now c.args.past.now.past c.in-Some.sheets (sym c.requires.sheets ∙ c.in-Some.is) c.args.editions.now.items c.push_reserved.new.self.items c.requires.editions c.push_reserved.ensures.items

pub returns-in_default-clause-editions : goal.returns-in_default-clause-editions
returns-in_default-clause-editions c =
    editions_leave c.args.entry.now c.args.past.now.past c.requires.legal c.requires.begun (sym c.requires.sheets ∙ c.in_default.is) c.args.editions.now.items c.requires.editions
