use Rattle.std.proofs.Common.{◌+◌, ap, ◌∙◌}
use Rattle.hm_model.specs.Tree.{made}
use Rattle.hm_roster.specs.Behind.{entry_debts}
use Rattle.hm_roster.specs.Roster.{finished, paid, paid_from, paid_if}
use Rattle.hm_sched.specs.Moves.{pid_in}
use Rattle.hm_roster.proofs.Entered.{follows_now, late_still, needs, needs_still, own_enlisted, root_enlisted}
use Rattle.hm_roster.proofs.Ranging.{same_on}
use Rattle.hm_roster.proofs.desk.Desk.look_at.Goals as goal

pub finish_both-requires-clause-known : goal.finish_both-requires-clause-known
finish_both-requires-clause-known g c = let n = needs c.args.records.now.past c.procedures.ensures.legal c.args.pid.0 c.args.low c.args.late c.args.self.now c.requires (c.last_pid-high.result + 1) c.kin_of-parent.result.0 c.kin_of-parent.result.1.0 (c.kin_of-parent.ensures.parent c.requires.node c.requires.there) (c.kin_of-parent.ensures.root c.requires.node c.requires.there) (ap (λ k. k + 1) (c.last_pid-high.ensures.last ∙ ap made c.procedures.ensures.past)) in n.known

pub finish_both-requires-clause-there : goal.finish_both-requires-clause-there
finish_both-requires-clause-there g c = let n = needs c.args.records.now.past c.procedures.ensures.legal c.args.pid.0 c.args.low c.args.late c.args.self.now c.requires (c.last_pid-high.result + 1) c.kin_of-parent.result.0 c.kin_of-parent.result.1.0 (c.kin_of-parent.ensures.parent c.requires.node c.requires.there) (c.kin_of-parent.ensures.root c.requires.node c.requires.there) (ap (λ k. k + 1) (c.last_pid-high.ensures.last ∙ ap made c.procedures.ensures.past)) in n.there

pub finish_both-requires-clause-root_known : goal.finish_both-requires-clause-root_known
finish_both-requires-clause-root_known g c = let n = needs c.args.records.now.past c.procedures.ensures.legal c.args.pid.0 c.args.low c.args.late c.args.self.now c.requires (c.last_pid-high.result + 1) c.kin_of-parent.result.0 c.kin_of-parent.result.1.0 (c.kin_of-parent.ensures.parent c.requires.node c.requires.there) (c.kin_of-parent.ensures.root c.requires.node c.requires.there) (ap (λ k. k + 1) (c.last_pid-high.ensures.last ∙ ap made c.procedures.ensures.past)) in n.root_known

pub finish_both-requires-clause-root_there : goal.finish_both-requires-clause-root_there
finish_both-requires-clause-root_there g c = let n = needs c.args.records.now.past c.procedures.ensures.legal c.args.pid.0 c.args.low c.args.late c.args.self.now c.requires (c.last_pid-high.result + 1) c.kin_of-parent.result.0 c.kin_of-parent.result.1.0 (c.kin_of-parent.ensures.parent c.requires.node c.requires.there) (c.kin_of-parent.ensures.root c.requires.node c.requires.there) (ap (λ k. k + 1) (c.last_pid-high.ensures.last ∙ ap made c.procedures.ensures.past)) in n.root_there

pub finish_both-requires-clause-enlisted : goal.finish_both-requires-clause-enlisted
finish_both-requires-clause-enlisted g c = own_enlisted c.args.records.now.past c.procedures.ensures.legal c.args.pid.0 c.args.low c.args.late c.args.self.now c.requires

pub finish_both-requires-clause-root_enlisted : goal.finish_both-requires-clause-root_enlisted
finish_both-requires-clause-root_enlisted g c = root_enlisted c.args.records.now.past c.procedures.ensures.legal c.args.pid.0 c.args.low c.args.late c.args.self.now c.requires c.kin_of-parent.result.1.0 (c.kin_of-parent.ensures.root c.requires.node c.requires.there)

pub line_up_from-requires-clause-order : goal.line_up_from-requires-clause-order
line_up_from-requires-clause-order g c = let n = needs_still c.args.records.now.past c.args.pid.0 c.args.low (c.last_pid-high.result + 1) c.kin_of-parent.result.0 c.kin_of-parent.result.1.0 c.args.self.now c.finish_both.new.self (needs c.args.records.now.past c.procedures.ensures.legal c.args.pid.0 c.args.low c.args.late c.args.self.now c.requires (c.last_pid-high.result + 1) c.kin_of-parent.result.0 c.kin_of-parent.result.1.0 (c.kin_of-parent.ensures.parent c.requires.node c.requires.there) (c.kin_of-parent.ensures.root c.requires.node c.requires.there) (ap (λ k. k + 1) (c.last_pid-high.ensures.last ∙ ap made c.procedures.ensures.past))) c.finish_both.ensures.same in n.new_order

pub line_up_from-requires-clause-known : goal.line_up_from-requires-clause-known
line_up_from-requires-clause-known g c = let n = needs_still c.args.records.now.past c.args.pid.0 c.args.low (c.last_pid-high.result + 1) c.kin_of-parent.result.0 c.kin_of-parent.result.1.0 c.args.self.now c.finish_both.new.self (needs c.args.records.now.past c.procedures.ensures.legal c.args.pid.0 c.args.low c.args.late c.args.self.now c.requires (c.last_pid-high.result + 1) c.kin_of-parent.result.0 c.kin_of-parent.result.1.0 (c.kin_of-parent.ensures.parent c.requires.node c.requires.there) (c.kin_of-parent.ensures.root c.requires.node c.requires.there) (ap (λ k. k + 1) (c.last_pid-high.ensures.last ∙ ap made c.procedures.ensures.past))) c.finish_both.ensures.same in n.new_known

pub line_up_from-requires-clause-there : goal.line_up_from-requires-clause-there
line_up_from-requires-clause-there g c = let n = needs_still c.args.records.now.past c.args.pid.0 c.args.low (c.last_pid-high.result + 1) c.kin_of-parent.result.0 c.kin_of-parent.result.1.0 c.args.self.now c.finish_both.new.self (needs c.args.records.now.past c.procedures.ensures.legal c.args.pid.0 c.args.low c.args.late c.args.self.now c.requires (c.last_pid-high.result + 1) c.kin_of-parent.result.0 c.kin_of-parent.result.1.0 (c.kin_of-parent.ensures.parent c.requires.node c.requires.there) (c.kin_of-parent.ensures.root c.requires.node c.requires.there) (ap (λ k. k + 1) (c.last_pid-high.ensures.last ∙ ap made c.procedures.ensures.past))) c.finish_both.ensures.same in n.new_there

pub line_up_from-requires-clause-below : goal.line_up_from-requires-clause-below
line_up_from-requires-clause-below g c = let n = needs_still c.args.records.now.past c.args.pid.0 c.args.low (c.last_pid-high.result + 1) c.kin_of-parent.result.0 c.kin_of-parent.result.1.0 c.args.self.now c.finish_both.new.self (needs c.args.records.now.past c.procedures.ensures.legal c.args.pid.0 c.args.low c.args.late c.args.self.now c.requires (c.last_pid-high.result + 1) c.kin_of-parent.result.0 c.kin_of-parent.result.1.0 (c.kin_of-parent.ensures.parent c.requires.node c.requires.there) (c.kin_of-parent.ensures.root c.requires.node c.requires.there) (ap (λ k. k + 1) (c.last_pid-high.ensures.last ∙ ap made c.procedures.ensures.past))) c.finish_both.ensures.same in n.below

pub line_up_kin-requires-clause-known : goal.line_up_kin-requires-clause-known
line_up_kin-requires-clause-known g c = let n = needs_still c.args.records.now.past c.args.pid.0 c.args.low (c.last_pid-high.result + 1) c.kin_of-parent.result.0 c.kin_of-parent.result.1.0 c.finish_both.new.self c.line_up_from.new.self (needs_still c.args.records.now.past c.args.pid.0 c.args.low (c.last_pid-high.result + 1) c.kin_of-parent.result.0 c.kin_of-parent.result.1.0 c.args.self.now c.finish_both.new.self (needs c.args.records.now.past c.procedures.ensures.legal c.args.pid.0 c.args.low c.args.late c.args.self.now c.requires (c.last_pid-high.result + 1) c.kin_of-parent.result.0 c.kin_of-parent.result.1.0 (c.kin_of-parent.ensures.parent c.requires.node c.requires.there) (c.kin_of-parent.ensures.root c.requires.node c.requires.there) (ap (λ k. k + 1) (c.last_pid-high.ensures.last ∙ ap made c.procedures.ensures.past))) c.finish_both.ensures.same) c.line_up_from.ensures.same in n.known

pub line_up_kin-requires-clause-there : goal.line_up_kin-requires-clause-there
line_up_kin-requires-clause-there g c = let n = needs_still c.args.records.now.past c.args.pid.0 c.args.low (c.last_pid-high.result + 1) c.kin_of-parent.result.0 c.kin_of-parent.result.1.0 c.finish_both.new.self c.line_up_from.new.self (needs_still c.args.records.now.past c.args.pid.0 c.args.low (c.last_pid-high.result + 1) c.kin_of-parent.result.0 c.kin_of-parent.result.1.0 c.args.self.now c.finish_both.new.self (needs c.args.records.now.past c.procedures.ensures.legal c.args.pid.0 c.args.low c.args.late c.args.self.now c.requires (c.last_pid-high.result + 1) c.kin_of-parent.result.0 c.kin_of-parent.result.1.0 (c.kin_of-parent.ensures.parent c.requires.node c.requires.there) (c.kin_of-parent.ensures.root c.requires.node c.requires.there) (ap (λ k. k + 1) (c.last_pid-high.ensures.last ∙ ap made c.procedures.ensures.past))) c.finish_both.ensures.same) c.line_up_from.ensures.same in n.there

pub line_up_kin-requires-clause-parent_known : goal.line_up_kin-requires-clause-parent_known
line_up_kin-requires-clause-parent_known g c = let n = needs_still c.args.records.now.past c.args.pid.0 c.args.low (c.last_pid-high.result + 1) c.kin_of-parent.result.0 c.kin_of-parent.result.1.0 c.finish_both.new.self c.line_up_from.new.self (needs_still c.args.records.now.past c.args.pid.0 c.args.low (c.last_pid-high.result + 1) c.kin_of-parent.result.0 c.kin_of-parent.result.1.0 c.args.self.now c.finish_both.new.self (needs c.args.records.now.past c.procedures.ensures.legal c.args.pid.0 c.args.low c.args.late c.args.self.now c.requires (c.last_pid-high.result + 1) c.kin_of-parent.result.0 c.kin_of-parent.result.1.0 (c.kin_of-parent.ensures.parent c.requires.node c.requires.there) (c.kin_of-parent.ensures.root c.requires.node c.requires.there) (ap (λ k. k + 1) (c.last_pid-high.ensures.last ∙ ap made c.procedures.ensures.past))) c.finish_both.ensures.same) c.line_up_from.ensures.same in n.parent_known

pub line_up_kin-requires-clause-parent_there : goal.line_up_kin-requires-clause-parent_there
line_up_kin-requires-clause-parent_there g c = let n = needs_still c.args.records.now.past c.args.pid.0 c.args.low (c.last_pid-high.result + 1) c.kin_of-parent.result.0 c.kin_of-parent.result.1.0 c.finish_both.new.self c.line_up_from.new.self (needs_still c.args.records.now.past c.args.pid.0 c.args.low (c.last_pid-high.result + 1) c.kin_of-parent.result.0 c.kin_of-parent.result.1.0 c.args.self.now c.finish_both.new.self (needs c.args.records.now.past c.procedures.ensures.legal c.args.pid.0 c.args.low c.args.late c.args.self.now c.requires (c.last_pid-high.result + 1) c.kin_of-parent.result.0 c.kin_of-parent.result.1.0 (c.kin_of-parent.ensures.parent c.requires.node c.requires.there) (c.kin_of-parent.ensures.root c.requires.node c.requires.there) (ap (λ k. k + 1) (c.last_pid-high.ensures.last ∙ ap made c.procedures.ensures.past))) c.finish_both.ensures.same) c.line_up_from.ensures.same in n.parent_there

pub line_up_kin-requires-clause-root_known : goal.line_up_kin-requires-clause-root_known
line_up_kin-requires-clause-root_known g c = let n = needs_still c.args.records.now.past c.args.pid.0 c.args.low (c.last_pid-high.result + 1) c.kin_of-parent.result.0 c.kin_of-parent.result.1.0 c.finish_both.new.self c.line_up_from.new.self (needs_still c.args.records.now.past c.args.pid.0 c.args.low (c.last_pid-high.result + 1) c.kin_of-parent.result.0 c.kin_of-parent.result.1.0 c.args.self.now c.finish_both.new.self (needs c.args.records.now.past c.procedures.ensures.legal c.args.pid.0 c.args.low c.args.late c.args.self.now c.requires (c.last_pid-high.result + 1) c.kin_of-parent.result.0 c.kin_of-parent.result.1.0 (c.kin_of-parent.ensures.parent c.requires.node c.requires.there) (c.kin_of-parent.ensures.root c.requires.node c.requires.there) (ap (λ k. k + 1) (c.last_pid-high.ensures.last ∙ ap made c.procedures.ensures.past))) c.finish_both.ensures.same) c.line_up_from.ensures.same in n.root_known

pub line_up_kin-requires-clause-root_there : goal.line_up_kin-requires-clause-root_there
line_up_kin-requires-clause-root_there g c = let n = needs_still c.args.records.now.past c.args.pid.0 c.args.low (c.last_pid-high.result + 1) c.kin_of-parent.result.0 c.kin_of-parent.result.1.0 c.finish_both.new.self c.line_up_from.new.self (needs_still c.args.records.now.past c.args.pid.0 c.args.low (c.last_pid-high.result + 1) c.kin_of-parent.result.0 c.kin_of-parent.result.1.0 c.args.self.now c.finish_both.new.self (needs c.args.records.now.past c.procedures.ensures.legal c.args.pid.0 c.args.low c.args.late c.args.self.now c.requires (c.last_pid-high.result + 1) c.kin_of-parent.result.0 c.kin_of-parent.result.1.0 (c.kin_of-parent.ensures.parent c.requires.node c.requires.there) (c.kin_of-parent.ensures.root c.requires.node c.requires.there) (ap (λ k. k + 1) (c.last_pid-high.ensures.last ∙ ap made c.procedures.ensures.past))) c.finish_both.ensures.same) c.line_up_from.ensures.same in n.root_there

pub line_up_kin-requires-clause-below : goal.line_up_kin-requires-clause-below
line_up_kin-requires-clause-below g c = let n = needs_still c.args.records.now.past c.args.pid.0 c.args.low (c.last_pid-high.result + 1) c.kin_of-parent.result.0 c.kin_of-parent.result.1.0 c.finish_both.new.self c.line_up_from.new.self (needs_still c.args.records.now.past c.args.pid.0 c.args.low (c.last_pid-high.result + 1) c.kin_of-parent.result.0 c.kin_of-parent.result.1.0 c.args.self.now c.finish_both.new.self (needs c.args.records.now.past c.procedures.ensures.legal c.args.pid.0 c.args.low c.args.late c.args.self.now c.requires (c.last_pid-high.result + 1) c.kin_of-parent.result.0 c.kin_of-parent.result.1.0 (c.kin_of-parent.ensures.parent c.requires.node c.requires.there) (c.kin_of-parent.ensures.root c.requires.node c.requires.there) (ap (λ k. k + 1) (c.last_pid-high.ensures.last ∙ ap made c.procedures.ensures.past))) c.finish_both.ensures.same) c.line_up_from.ensures.same in n.below

pub returns-clause-same : goal.returns-clause-same
returns-clause-same g c = same_on c.args.self.now c.line_up_kin.new.self c.wake_if.new.self (same_on c.args.self.now c.line_up_from.new.self c.line_up_kin.new.self (same_on c.args.self.now c.finish_both.new.self c.line_up_from.new.self c.finish_both.ensures.same c.line_up_from.ensures.same) c.line_up_kin.ensures.same) c.wake_if.ensures.same

pub returns-clause-follows : goal.returns-clause-follows
returns-clause-follows g c =
    let start = entry_debts c.requires.before c.args.pid.0 c.requires.node c.args.late in
    let ended = finished (finished start c.args.pid.0) c.kin_of-parent.result.1.0 in
    let made_ones = paid_from ended c.args.low (c.last_pid-high.result + 1) in
    let kin = paid (paid_if (paid made_ones c.args.pid.0) (pid_in c.kin_of-parent.result.0)) c.kin_of-parent.result.1.0 in
    follows_now c.args.records.now.past c.procedures.ensures.legal c.args.pid.0 c.args.low c.args.late c.args.self.now c.requires c.wake_if.new.self (pid_in c.kin_of-parent.result.0) c.kin_of-parent.result.1.0 (c.last_pid-high.result + 1) (c.kin_of-parent.ensures.parent c.requires.node c.requires.there) (c.kin_of-parent.ensures.root c.requires.node c.requires.there) (ap (λ k. k + 1) (c.last_pid-high.ensures.last ∙ ap made c.procedures.ensures.past))
    (same_on c.args.self.now c.line_up_kin.new.self c.wake_if.new.self (same_on c.args.self.now c.line_up_from.new.self c.line_up_kin.new.self (same_on c.args.self.now c.finish_both.new.self c.line_up_from.new.self c.finish_both.ensures.same c.line_up_from.ensures.same) c.line_up_kin.ensures.same) c.wake_if.ensures.same)
    (c.wake_if.ensures.owes c.args.records.now.past kin (late_still made_ones c.args.pid.0 (pid_in c.kin_of-parent.result.0) c.kin_of-parent.result.1.0) (c.line_up_kin.ensures.owes made_ones (c.line_up_from.ensures.owes ended (c.finish_both.ensures.owes start c.requires.owes))))
