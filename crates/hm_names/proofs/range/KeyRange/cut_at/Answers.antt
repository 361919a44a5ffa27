use Rattle.std.proofs.Common.{refl}
use Rattle.hm_names.proofs.Ranges.{held_in_parts, held_apart, parts_hold_starts, inner_is, filled_not_nil}
use Rattle.hm_names.proofs.range.KeyRange.cut_at.Goals as goal

pub returns-clause-held : goal.returns-clause-held
returns-clause-held c = λ k. rw (c.in_ok-before.ensures, c.in_ok-behind.ensures) (held_in_parts c.args.self c.args.key.now c.requires k)

pub returns-clause-apart : goal.returns-clause-apart
returns-clause-apart c = λ k. rw (c.in_ok-before.ensures, c.in_ok-behind.ensures) (held_apart c.args.self c.args.key.now c.requires k)

pub returns-clause-starts : goal.returns-clause-starts
returns-clause-starts c = rw (c.in_ok-before.ensures, c.in_ok-behind.ensures) (parts_hold_starts c.args.self c.args.key.now c.requires)

pub returns-clause-next : goal.returns-clause-next
returns-clause-next c = rw (c.in_ok-before.ensures, c.in_ok-behind.ensures)
    (filled_not_nil c.args.key.now (inner_is c.args.self c.args.key.now c.requires).1, refl)
