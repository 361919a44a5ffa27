use Rattle.std.proofs.Common.{◌∙◌, length, sym, ap, subst, arith, true}
use Rattle.std.specs.Option.{option_map}
use Rattle.hm_locks.specs.Book.{holding, row_of, AreChanged}
use Rattle.hm_locks.specs.Entries.{rows_of}
use Rattle.hm_locks.specs.Kept.{standing_of, rows_in}
use Rattle.hm_locks.proofs.Holders.{listed_take, seat_out}
use Rattle.hm_locks.proofs.Turns.{nodes_within, nodes_out, stands, taken_kept, rows_turned, rows_still, unstanding, unchanged}
use Rattle.hm_locks.proofs.pages.Pages.take.Goals as goal

pub returns-in_default-clause-rows : goal.returns-in_default-clause-rows
returns-in_default-clause-rows c =
    let p = c.args.self.now in
    let none = unstanding p.places.pairs p.entries.items c.args.pid c.requires.kept.index
    (sym c.in_default.is ∙ c.standing_of.ensures ∙ ap (λ es. standing_of p.places.pairs es c.args.pid) c.deref.ensures.value) in
    unchanged (rows_of p) c.args.pid (option_map (holding true) (row_of (rows_of p) c.args.pid)) (none ∙ sym (ap (option_map (holding true)) none))

pub returns-then-at-clause-rows : goal.returns-then-at-clause-rows
returns-then-at-clause-rows c =
    let p = c.args.self.now in
    rows_still p.places.pairs p.entries.items p.wants.items p.desks.numbers p.lists.lists p.lists.spare c.requires.kept c.args.pid c.in-Some.at
    (sym c.in-Some.is ∙ c.standing_of.ensures ∙ ap (λ es. standing_of c.args.self.now.places.pairs es c.args.pid) c.deref.ensures.value) true c.if-at.true

pub seat-requires-clause-out : goal.seat-requires-clause-out
seat-requires-clause-out c =
    let p = c.args.self.now in
    nodes_out p.places.pairs p.entries.items p.wants.items p.desks.numbers p.lists.lists p.lists.spare c.requires.kept c.args.pid c.in-Some.at
    (sym c.in-Some.is ∙ c.standing_of.ensures ∙ ap (λ es. standing_of c.args.self.now.places.pairs es c.args.pid) c.deref.ensures.value) c.if-at.false

pub returns-clause-kept : goal.returns-clause-kept
returns-clause-kept c =
    let p = c.args.self.now in
    rw (c.set_holds.ensures.items, c.seat.ensures.spare)
    (taken_kept p.places.pairs p.entries.items p.wants.items p.desks.numbers p.lists.lists p.lists.spare c.requires.kept c.args.pid c.in-Some.at
    (sym c.in-Some.is ∙ c.standing_of.ensures ∙ ap (λ es. standing_of c.args.self.now.places.pairs es c.args.pid) c.deref.ensures.value) c.if-at.false c.seat.new.lists.lists c.seat.ensures.count (rw (← c.deref-2.ensures.value) c.seat.ensures.lists))

pub returns-clause-rows : goal.returns-clause-rows
returns-clause-rows c =
    let p = c.args.self.now in
    subst (λ es. AreChanged (rows_of p) c.args.pid (option_map (holding true) (row_of (rows_of p) c.args.pid)) (rows_in es)) (sym c.set_holds.ensures.items)
    (rows_turned p.places.pairs p.entries.items p.wants.items p.desks.numbers p.lists.lists p.lists.spare c.requires.kept c.args.pid c.in-Some.at
    (sym c.in-Some.is ∙ c.standing_of.ensures ∙ ap (λ es. standing_of c.args.self.now.places.pairs es c.args.pid) c.deref.ensures.value) true)

pub seat-requires-clause-within : goal.seat-requires-clause-within
seat-requires-clause-within c =
    let p = c.args.self.now in
    let le = nodes_within p.places.pairs p.entries.items p.wants.items p.desks.numbers p.lists.lists p.lists.spare c.requires.kept c.args.pid c.in-Some.at
    (sym c.in-Some.is ∙ c.standing_of.ensures ∙ ap (λ es. standing_of c.args.self.now.places.pairs es c.args.pid) c.deref.ensures.value) in
    let same = ap length c.deref-2.ensures.value in omega (arith, le, same)

pub link-requires-clause-out : goal.link-requires-clause-out
link-requires-clause-out c =
    let p = c.args.self.now in
    let s = stands p.places.pairs p.entries.items c.args.pid c.in-Some.at
    (sym c.in-Some.is ∙ c.standing_of.ensures ∙ ap (λ es. standing_of c.args.self.now.places.pairs es c.args.pid) c.deref.ensures.value) in
    seat_out p.entries.items p.held.lists p.held.spare c.requires.held c.in-Some.at.place s.entry s.is (sym s.holds ∙ c.if-at.false)

pub returns-clause-held : goal.returns-clause-held
returns-clause-held c =
    let p = c.args.self.now in
    let s = stands p.places.pairs p.entries.items c.args.pid c.in-Some.at
    (sym c.in-Some.is ∙ c.standing_of.ensures ∙ ap (λ es. standing_of c.args.self.now.places.pairs es c.args.pid) c.deref.ensures.value) in
    rw (c.set_holds.ensures.items, c.link.ensures.spare)
    (listed_take p.entries.items p.held.lists p.held.spare c.requires.held c.in-Some.at.place s.entry s.is (sym s.holds ∙ c.if-at.false) c.link.new.lists.lists c.link.ensures.count c.link.ensures.lists)
