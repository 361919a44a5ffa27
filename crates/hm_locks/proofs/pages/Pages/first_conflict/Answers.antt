use Rattle.std.proofs.Common.{◌∙◌, length, sym, ap, arith}
use Rattle.std.specs.Option.{option_copied, option_map}
use Rattle.hm_locks.specs.Book.{asks_in}
use Rattle.hm_locks.specs.Entries.{rows_of}
use Rattle.hm_locks.specs.Kept.{row_for}
use Rattle.hm_locks.proofs.Blocking.{first_is, free_is, placed}
use Rattle.hm_locks.proofs.Found.{row_is}
use Rattle.hm_locks.proofs.pages.Pages.first_conflict.Goals as goal

pub returns-in_err-own-clause-first : goal.returns-in_err-own-clause-first
returns-in_err-own-clause-first g c =
    let p = c.args.self.now in
    let none = row_is p.places.pairs p.entries.items c.requires.index c.args.pid ∙ ap (option_map row_for) (sym c.entry_of.ensures ∙ ap option_copied c.in_err-own.was) in
    rw c.from_residual.ensures (free_is (rows_of p) c.args.pid none)

pub returns-in_err-own-clause-steps : goal.returns-in_err-own-clause-steps
returns-in_err-own-clause-steps g c =
    let p = c.args.self.now in
    let none = row_is p.places.pairs p.entries.items c.requires.index c.args.pid ∙ ap (option_map row_for) (sym c.entry_of.ensures ∙ ap option_copied c.in_err-own.was) in
    let count = ap (λ o. length (asks_in o)) none in omega (arith, count)

pub returns-clause-first : goal.returns-clause-first
returns-clause-first g c =
    let p = c.args.self.now in
    let at = placed p.places.pairs p.entries.items c.requires.index c.args.pid c.in_ok-own.own.now (sym c.entry_of.ensures ∙ ap option_copied c.in_ok-own.was) in
    first_is p.places.pairs p.entries.items p.wants.items p.desks.numbers p.lists.lists p.lists.spare c.requires c.are_apart.ensures.apart c.args.pid at.0 c.in_ok-own.own.now at.1 at.2
    c.lowest.result (rw (← c.deref.ensures.value, ← c.deref-2.ensures.value, ← c.as_slice.ensures) c.lowest.ensures.lowest)

pub returns-clause-steps : goal.returns-clause-steps
returns-clause-steps g c =
    let p = c.args.self.now in
    let row = row_is p.places.pairs p.entries.items c.requires.index c.args.pid ∙ ap (option_map row_for) (sym c.entry_of.ensures ∙ ap option_copied c.in_ok-own.was) in
    let count = ap (λ o. length (asks_in o)) row in
    let steps = c.lowest.ensures.steps in
    let same = ap length c.as_slice.ensures in omega (arith, count, steps, same)
