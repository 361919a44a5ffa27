use Rattle.std.proofs.Common.{◌≡◌, ◌<◌, ◌≤◌, arith, length}
use Rattle.hm_sheet.specs.Learnt.{place_in}
use Rattle.hm_sheet.proofs.Editions.{others_push, others_set, own_push, own_set}
use Rattle.hm_sheet.proofs.learnt.Learnt.put.Goals as goal

pub returns-then-place-len-clause-own : goal.returns-then-place-len-clause-own
returns-then-place-len-clause-own c =
    let place : c.place_of-place.result ≡ place_in c.self.inside.editions.items c.args.number = rw c.deref.ensures.value at c.place_of-place.ensures in
    let lt : place_in c.self.inside.editions.items c.args.number < length c.self.inside.editions.items = omega (arith, place, c.if-place-len.true, c.len.ensures, c.self.inside.editions.ok.0) in
    rw place (own_set c.self.inside.editions.items (record { number = c.args.number; sheets = c.args.sheets }) lt)

pub returns-then-place-len-clause-others : goal.returns-then-place-len-clause-others
returns-then-place-len-clause-others c other differs =
    let place : c.place_of-place.result ≡ place_in c.self.inside.editions.items c.args.number = rw c.deref.ensures.value at c.place_of-place.ensures in
    rw (place, ← c.self.view_is) (others_set c.self.inside.editions.items (record { number = c.args.number; sheets = c.args.sheets }) other differs)

pub returns-in_ok-push-clause-own : goal.returns-in_ok-push-clause-own
returns-in_ok-push-clause-own c =
    let place : c.place_of-place.result ≡ place_in c.self.inside.editions.items c.args.number = rw c.deref.ensures.value at c.place_of-place.ensures in
    let le : length c.self.inside.editions.items ≤ place_in c.self.inside.editions.items c.args.number = omega (arith, place, c.if-place-len.false, c.len.ensures, c.self.inside.editions.ok.0) in
    rw c.in_ok-push.ensures.items (own_push c.self.inside.editions.items (record { number = c.args.number; sheets = c.args.sheets }) le)

pub returns-in_ok-push-clause-others : goal.returns-in_ok-push-clause-others
returns-in_ok-push-clause-others c other differs =
    rw (c.in_ok-push.ensures.items, ← c.self.view_is) (others_push c.self.inside.editions.items (record { number = c.args.number; sheets = c.args.sheets }) other differs)
