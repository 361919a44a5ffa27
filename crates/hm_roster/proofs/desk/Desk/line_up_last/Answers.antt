use Rattle.std.proofs.Common.{◌+◌, ap, refl, ◌∙◌}
use Rattle.hm_model.specs.Tree.{made}
use Rattle.hm_tied.specs.Entries.{root_debts}
use Rattle.hm_roster.specs.Roster.{paid_from}
use Rattle.hm_roster.proofs.Entries.{last_there, root_follows}
use Rattle.hm_roster.proofs.Ranging.{same_on}
use Rattle.hm_roster.proofs.desk.Desk.line_up_last.Goals as goal

pub line_up_from-requires-clause-there : goal.line_up_from-requires-clause-there
line_up_from-requires-clause-there g c q ge lt =
    last_there c.args.records.now.past c.args.late c.args.self.now c.requires c.last_pid-last.result q (c.last_pid-last.ensures.last ∙ ap made c.procedures.ensures.past) ge lt

pub returns-clause-follows : goal.returns-clause-follows
returns-clause-follows g c =
    let rooted = c.requires in
    let last = c.last_pid-last.result in
    root_follows c.args.records.now.past c.procedures.ensures.legal c.args.late c.args.self.now c.wake_if.new.self rooted last (c.last_pid-last.ensures.last ∙ ap made c.procedures.ensures.past)
    (same_on c.args.self.now c.line_up_from.new.self c.wake_if.new.self c.line_up_from.ensures.same c.wake_if.ensures.same)
    (c.wake_if.ensures.owes c.args.records.now.past (paid_from (root_debts rooted.before c.args.late) last (last + 1)) refl (c.line_up_from.ensures.owes (root_debts rooted.before c.args.late) rooted.owes))
