use Rattle.std.proofs.Common.{◌++◌, ap, ◌∙◌}
use Rattle.hm_commands.proofs.Moving.{ends_otherwise}
use Rattle.hm_commands.proofs.balancing.ended.Goals as goal

pub returns-in_ok-append_all-in_default : goal.returns-in_ok-append_all-in_default
returns-in_ok-append_all-in_default c =
    ends_otherwise c.args.text.items c.args.answer c.append_all.new.text c.in_default.not-Halted (c.in_ok-append_all-in_default.ensures ∙ ap (λ l. c.args.text.items ++ l) c.pieces.ensures)
