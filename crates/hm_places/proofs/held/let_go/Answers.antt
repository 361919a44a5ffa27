use Rattle.std.proofs.Common.{Some, Err, Ok, ap, sym, ◌∙◌}
use Rattle.hm_places.specs.Chosen.{cmp_if}
use Rattle.hm_places.specs.Places.{held_cmp, key_of, is_at_if}
use Rattle.hm_places.proofs.AtServers.{let_go-none, let_go-held, must_stand, held_nowhere}
use Rattle.hm_places.proofs.NameOrder.{held_total, total_if}
use Rattle.hm_places.proofs.Sorted.{searched}
use Rattle.hm_places.proofs.held.let_go.Goals as goal

pub returns-in_default-clause-held : goal.returns-in_default-clause-held
returns-in_default-clause-held c =
    let_go-none c.args.rows.now.came c.args.rows.now.pairs c.args.held.now.items c.args.region.now c.requires (λ server. ap (is_at_if server) (sym c.in_default.ensures))

pub returns-in_default-holder_of-clause-held : goal.returns-in_default-holder_of-clause-held
returns-in_default-holder_of-clause-held c =
    let_go-none c.args.rows.now.came c.args.rows.now.pairs c.args.held.now.items c.args.region.now c.requires
    (λ server. ap (is_at_if server) (sym c.in-Some.ensures) ∙ held_nowhere c.in-Some.place.now (sym c.in_default-holder_of.ensures) server)

pub returns-in-Ok-clause-held : goal.returns-in-Ok-clause-held
returns-in-Ok-clause-held c =
    let range = rw c.deref.ensures.value at c.in-Ok.ensures.range in
    let position = rw c.deref.ensures.value at c.in-Ok.ensures.position in
    rw c.remove-number.ensures.items
    (let_go-held c.args.rows.now.came c.args.rows.now.pairs c.args.held.now.items c.args.region.now c.in-Some.place.now c.in-Some-holder_of.server.now c.in-Ok.at c.requires (sym c.in-Some.ensures) (sym c.in-Some-holder_of.ensures)
    (searched (cmp_if held_cmp) (total_if held_cmp held_total) (key_of c.args.rows.now.came) (Some (c.in-Some-holder_of.server.now, c.args.region.now)) c.args.held.now.items c.requires.rises (Ok c.in-Ok.at) range position).found)

pub returns-in_default-seek-clause-held : goal.returns-in_default-seek-clause-held
returns-in_default-seek-clause-held c =
    let range = rw c.deref.ensures.value at c.in_default-seek.ensures.range in
    let position = rw c.deref.ensures.value at c.in_default-seek.ensures.position in
    absurd (must_stand c.args.rows.now.came c.args.rows.now.pairs c.args.held.now.items c.args.region.now c.in-Some.place.now c.in-Some-holder_of.server.now c.in_default-seek.field-0 c.requires (sym c.in-Some.ensures) (sym c.in-Some-holder_of.ensures)
    (searched (cmp_if held_cmp) (total_if held_cmp held_total) (key_of c.args.rows.now.came) (Some (c.in-Some-holder_of.server.now, c.args.region.now)) c.args.held.now.items c.requires.rises (Err c.in_default-seek.field-0) range position).absent)
