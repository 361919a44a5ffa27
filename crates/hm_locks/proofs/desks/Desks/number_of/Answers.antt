use Rattle.std.proofs.Common.{◌∙◌, sym, ap, arith}
use Rattle.std.specs.Option.{option_copied}
use Rattle.hm_index.specs.Index.{find}
use Rattle.hm_locks.specs.Kept.{DesksView}
use Rattle.hm_locks.specs.Keys.{lock_cmp}
use Rattle.hm_locks.proofs.Keys.{desks_after, kept, numbered}
use Rattle.hm_locks.proofs.desks.Desks.number_of.Goals as goal

pub invariant_of-self : goal.invariant_of-self
invariant_of-self c =
    let s = c.self.inside in
    let room = c.requires in
    let view = ap (λ (v : DesksView). v.spare) c.self.view_is in
    desks_after _ c.locks_order_by_name.ensures s.numbers.pairs c.set.new.self.pairs c.args.key s.count s.limit
    (sym c.get.ensures ∙ ap option_copied c.in_default.is) c.self.invariant c.set.ensures.pairs (omega (arith, room, view))

pub returns-clause-number : goal.returns-clause-number
returns-clause-number c =
    let s = c.self.inside in
    numbered _ c.locks_order_by_name.ensures s.numbers.pairs c.set.new.self.pairs c.args.key s.count s.limit
    (sym c.get.ensures ∙ ap option_copied c.in_default.is) c.self.invariant c.set.ensures.pairs

pub returns-clause-kept : goal.returns-clause-kept
returns-clause-kept c other d was =
    let s = c.self.inside in
    kept _ c.locks_order_by_name.ensures s.numbers.pairs c.set.new.self.pairs c.args.key s.count s.limit
    (sym c.get.ensures ∙ ap option_copied c.in_default.is) c.self.invariant c.set.ensures.pairs
    other d (ap (λ (v : DesksView). find lock_cmp v.numbers other) c.self.view_is ∙ was)
