use Rattle.std.proofs.Common.{◌∙◌, sym, ap, None}
use Rattle.hm_locks.specs.Kept.{standing_of}
use Rattle.hm_locks.specs.Book.{is_holding}
use Rattle.hm_locks.proofs.Holders.{listed_leave}
use Rattle.hm_locks.proofs.Turns.{left_kept, row_stands, rows_left, stands, unstanding, unchanged}
use Rattle.hm_locks.proofs.pages.Pages.remove.Goals as goal

pub returns-in-Some-clause-kept : goal.returns-in-Some-clause-kept
returns-in-Some-clause-kept c =
    let p = c.args.self.now in
    left_kept p.places.pairs p.entries.items p.wants.items p.desks.numbers p.lists.lists p.lists.spare c.requires.kept c.args.pid c.in-Some.at
    (sym c.in-Some.is ∙ c.standing_of.ensures ∙ ap (λ es. standing_of p.places.pairs es c.args.pid) c.deref.ensures.value) c.requires.free

pub returns-in-Some-clause-rows : goal.returns-in-Some-clause-rows
returns-in-Some-clause-rows c =
    let p = c.args.self.now in
    rows_left p.places.pairs p.entries.items p.wants.items p.desks.numbers p.lists.lists p.lists.spare c.requires.kept c.args.pid c.in-Some.at
    (sym c.in-Some.is ∙ c.standing_of.ensures ∙ ap (λ es. standing_of p.places.pairs es c.args.pid) c.deref.ensures.value)

pub returns-in_default-clause-rows : goal.returns-in_default-clause-rows
returns-in_default-clause-rows c =
    let p = c.args.self.now in
    unchanged _ c.args.pid None (unstanding p.places.pairs p.entries.items c.args.pid c.requires.kept.index
    (sym c.in_default.is ∙ c.standing_of.ensures ∙ ap (λ es. standing_of p.places.pairs es c.args.pid) c.deref.ensures.value))

pub returns-in-Some-clause-held : goal.returns-in-Some-clause-held
returns-in-Some-clause-held c =
    let p = c.args.self.now in
    let s = stands p.places.pairs p.entries.items c.args.pid c.in-Some.at
    (sym c.in-Some.is ∙ c.standing_of.ensures ∙ ap (λ es. standing_of p.places.pairs es c.args.pid) c.deref.ensures.value) in
    listed_leave p.entries.items p.held.lists p.held.spare c.requires.held c.in-Some.at.place s.entry s.is
    (sym (ap is_holding (row_stands p.places.pairs p.entries.items p.wants.items p.desks.numbers p.lists.lists p.lists.spare c.requires.kept c.args.pid c.in-Some.at
    (sym c.in-Some.is ∙ c.standing_of.ensures ∙ ap (λ es. standing_of p.places.pairs es c.args.pid) c.deref.ensures.value))) ∙ c.requires.free)
