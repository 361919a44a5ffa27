use Rattle.std.proofs.Common.{◌∙◌, length, ap, sym, Some, if◌then◌else◌, arith}
use Rattle.std.specs.Ordering.{is_eq}
use Rattle.hm_index.specs.Index.{find}
use Rattle.hm_fleet.specs.Crew.{address_cmp}
use Rattle.hm_fleet.proofs.Starting.{crew_first, started_again, started_first}
use Rattle.hm_fleet.proofs.crew.Crew.start.Goals as goal

pub index_mut-requires : goal.index_mut-requires
index_mut-requires c =
    let lt = c.self.invariant.within c.parts-address.result.0 c.in-Some.place (sym c.get.ensures ∙ sym c.in-Some.ensures) in
    omega (arith, lt, c.self.inside.slots.ok.0)

pub returns-in-Some : goal.returns-in-Some
returns-in-Some c =
    let f = c.self.inside in
    let found = ap (find address_cmp f.places.pairs) (sym c.parts-address.ensures.address) ∙ sym c.get.ensures ∙ sym c.in-Some.ensures in
    rw (← c.self.view_is) (started_again f.places.pairs f.slots.items c.self.invariant c.args.newcomer c.in-Some.place c.parts-address.result.1 found c.parts-address.ensures.actor)

pub invariant_of-self-in-None : goal.invariant_of-self-in-None
invariant_of-self-in-None c =
    let f = c.self.inside in
    rw c.push_reserved.ensures.items (crew_first f.places.pairs c.set.new.self.pairs f.slots.items c.self.invariant c.parts-address.result.0 (Some c.parts-address.result.1)
    (λ other. c.set.ensures.pairs other ∙ ap (λ n. if is_eq (address_cmp c.parts-address.result.0 other) then Some n else find address_cmp f.places.pairs other) (c.len-place.ensures ∙ f.slots.ok.0)))

pub returns-in-None : goal.returns-in-None
returns-in-None c =
    let f = c.self.inside in
    rw (c.push_reserved.ensures.items, ← c.self.view_is) (started_first f.places.pairs c.set.new.self.pairs f.slots.items c.self.invariant c.args.newcomer c.parts-address.result.1
    (λ other. c.set.ensures.pairs other ∙ ap (λ n. if is_eq (address_cmp c.parts-address.result.0 other) then Some n else find address_cmp f.places.pairs other) (c.len-place.ensures ∙ f.slots.ok.0)
    ∙ ap (λ a. if is_eq (address_cmp a other) then Some (length f.slots.items) else find address_cmp f.places.pairs other) c.parts-address.ensures.address)
    c.parts-address.ensures.actor)
