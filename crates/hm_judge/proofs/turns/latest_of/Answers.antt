use Rattle.std.proofs.Common.{ap, sym, ◌∙◌}
use Rattle.std.specs.Option.{option_copied}
use Rattle.hm_judge.proofs.Undoing.{latest_there}
use Rattle.hm_judge.proofs.turns.latest_of.Goals as goal

pub unreachable-requires-in_default-find : goal.unreachable-requires-in_default-find
unreachable-requires-in_default-find c =
    latest_there c.args.records.now.past c.find.ensures.legal c.args.root c.requires c.stack.result.now.stacks c.stack.ensures.tells c.in-Some.pid c.in-Some.row (sym c.in-Some.is ∙ c.next_undo.ensures)
    (sym (ap option_copied c.in_default-find.is) ∙ c.find.ensures.found)
