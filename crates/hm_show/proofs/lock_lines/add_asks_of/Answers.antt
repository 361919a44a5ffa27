use Rattle.std.proofs.Common.{ap, sym, ◌∙◌}
use Rattle.std.specs.Option.{option_copied}
use Rattle.hm_show.proofs.Held.{first_of}
use Rattle.hm_show.proofs.lock_lines.add_asks_of.Goals as goal

pub add_asks-requires : goal.add_asks-requires
add_asks-requires c = first_of c.args.procedures.now.past c.last_pid-last.ensures.legal c.args.pid.0 c.in-Some.one.now (sym c.find.ensures ∙ ap option_copied c.in-Some.is)
