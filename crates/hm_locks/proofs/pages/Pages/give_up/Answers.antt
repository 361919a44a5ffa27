use Rattle.std.proofs.Common.{◌∙◌, sym, ap, subst, arith, false}
use Rattle.std.specs.Option.{option_map}
use Rattle.hm_locks.specs.Book.{holding, row_of, AreChanged}
use Rattle.hm_locks.specs.Entries.{rows_of}
use Rattle.hm_locks.specs.Kept.{standing_of, rows_in}
use Rattle.hm_locks.proofs.Holders.{listed_give, seat_held}
use Rattle.hm_locks.proofs.Turns.{off, on, nodes_within, nodes_held, stands, given_kept, rows_turned, rows_still, unstanding, unchanged}
use Rattle.hm_locks.proofs.pages.Pages.give_up.Goals as goal

pub returns-in_default-clause-rows : goal.returns-in_default-clause-rows
returns-in_default-clause-rows c =
    let p = c.args.self.now in
    let none = unstanding p.places.pairs p.entries.items c.args.pid c.requires.kept.index
    (sym c.in_default.is ∙ c.standing_of.ensures ∙ ap (λ es. standing_of p.places.pairs es c.args.pid) c.deref.ensures.value) in
    unchanged (rows_of p) c.args.pid (option_map (holding false) (row_of (rows_of p) c.args.pid)) (none ∙ sym (ap (option_map (holding false)) none))

pub returns-then-not-at-clause-rows : goal.returns-then-not-at-clause-rows
returns-then-not-at-clause-rows c =
    let p = c.args.self.now in
    rows_still p.places.pairs p.entries.items p.wants.items p.desks.numbers p.lists.lists p.lists.spare c.requires.kept c.args.pid c.in-Some.at
    (sym c.in-Some.is ∙ c.standing_of.ensures ∙ ap (λ es. standing_of c.args.self.now.places.pairs es c.args.pid) c.deref.ensures.value) false (off c.in-Some.at.holds c.if-not-at.true)

pub unseat-requires-clause-held : goal.unseat-requires-clause-held
unseat-requires-clause-held c =
    let p = c.args.self.now in
    nodes_held p.places.pairs p.entries.items p.wants.items p.desks.numbers p.lists.lists p.lists.spare c.requires.kept c.args.pid c.in-Some.at
    (sym c.in-Some.is ∙ c.standing_of.ensures ∙ ap (λ es. standing_of c.args.self.now.places.pairs es c.args.pid) c.deref.ensures.value) (on c.in-Some.at.holds c.if-not-at.false)

pub returns-clause-kept : goal.returns-clause-kept
returns-clause-kept c =
    let p = c.args.self.now in
    rw (c.set_holds.ensures.items, c.unseat.ensures.spare)
    (given_kept p.places.pairs p.entries.items p.wants.items p.desks.numbers p.lists.lists p.lists.spare c.requires.kept c.args.pid c.in-Some.at
    (sym c.in-Some.is ∙ c.standing_of.ensures ∙ ap (λ es. standing_of c.args.self.now.places.pairs es c.args.pid) c.deref.ensures.value) (on c.in-Some.at.holds c.if-not-at.false) c.unseat.new.lists.lists c.unseat.ensures.count c.unseat.ensures.lists)

pub returns-clause-rows : goal.returns-clause-rows
returns-clause-rows c =
    let p = c.args.self.now in
    subst (λ es. AreChanged (rows_of p) c.args.pid (option_map (holding false) (row_of (rows_of p) c.args.pid)) (rows_in es)) (sym c.set_holds.ensures.items)
    (rows_turned p.places.pairs p.entries.items p.wants.items p.desks.numbers p.lists.lists p.lists.spare c.requires.kept c.args.pid c.in-Some.at
    (sym c.in-Some.is ∙ c.standing_of.ensures ∙ ap (λ es. standing_of c.args.self.now.places.pairs es c.args.pid) c.deref.ensures.value) false)

pub unseat-requires-clause-small : goal.unseat-requires-clause-small
unseat-requires-clause-small c =
    let p = c.args.self.now in
    let le = nodes_within p.places.pairs p.entries.items p.wants.items p.desks.numbers p.lists.lists p.lists.spare c.requires.kept c.args.pid c.in-Some.at
    (sym c.in-Some.is ∙ c.standing_of.ensures ∙ ap (λ es. standing_of c.args.self.now.places.pairs es c.args.pid) c.deref.ensures.value) in
    let small = c.requires.kept.small in omega (arith, le, small)

pub unlink-requires-clause-held : goal.unlink-requires-clause-held
unlink-requires-clause-held c =
    let p = c.args.self.now in
    let s = stands p.places.pairs p.entries.items c.args.pid c.in-Some.at
    (sym c.in-Some.is ∙ c.standing_of.ensures ∙ ap (λ es. standing_of c.args.self.now.places.pairs es c.args.pid) c.deref.ensures.value) in
    seat_held p.entries.items p.held.lists p.held.spare c.requires.held c.in-Some.at.place s.entry s.is (sym s.holds ∙ on c.in-Some.at.holds c.if-not-at.false)

pub returns-clause-held : goal.returns-clause-held
returns-clause-held c =
    let p = c.args.self.now in
    let s = stands p.places.pairs p.entries.items c.args.pid c.in-Some.at
    (sym c.in-Some.is ∙ c.standing_of.ensures ∙ ap (λ es. standing_of c.args.self.now.places.pairs es c.args.pid) c.deref.ensures.value) in
    rw (c.set_holds.ensures.items, c.unlink.ensures.spare)
    (listed_give p.entries.items p.held.lists p.held.spare c.requires.held c.in-Some.at.place s.entry s.is c.unlink.new.lists.lists c.unlink.ensures.count c.unlink.ensures.lists)
