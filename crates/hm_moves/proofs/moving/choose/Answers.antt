use Rattle.std.proofs.Common.{◌≡◌, ◌++◌, ◌∷◌, ◌<◌, ◌≤◌, ◌+◌, [], None, Some, List, Vec, Bor, Global, length, map, slice_get, vec_len, refl, ap, sym, ◌∙◌, subst, arith, append-nil, append_assoc}
use Rattle.std.specs.Option.{option_copied}
use Rattle.std.specs.Vec.Iter.{into_iter_items}
use Rattle.hm_names.specs.declared.region.RegionName.{RegionName}
use Rattle.hm_balance.specs.Loads.{AreAmong, IsNamed, Loads, given}
use Rattle.hm_balance.specs.declared.shift.Shift.{Shift}
use Rattle.hm_moves.specs.Planned.{chosen}
use Rattle.hm_moves.specs.Opened.{region_in}
use Rattle.hm_moves.proofs.Choosing.{among_named, count_read, count_small, counts_next, moves_more, names, no_counts}
use Rattle.hm_moves.proofs.moving.choose.Goals as goal

pub loop-from-init : goal.loop-from-init
loop-from-init c =
    let all = c.into_iter-from-iterator.ensures.into_iter_gives.0 in
    record {
      counts = c.in_ok-next.ensures.each ∙ ap (λ (l : Loads). map (λ load. 0) l) c.deref.ensures.value ∙ no_counts c.args.held.now.loads.items;
      parts = all;
      long = (let first = c.into_iter-from-iterator.ensures.into_iter_gives.1 in let last = ap length all in let same = c.args.shifts.ok.0 in omega (arith, first, last, same));
      many = (let long = c.in_ok-next.ensures.many in let same = c.deref.ensures.len in long ∙ same);
      moves = λ opened servers are. ap (λ l. l ++ chosen opened [] (into_iter_items c.into_iter-from-iterator.result)) c.new-moves.ensures.items ∙ ap (chosen opened []) all;
    }

pub place_of-at-requires-clause-named : goal.place_of-at-requires-clause-named
place_of-at-requires-clause-named c =
    let rest = into_iter_items c.next.new.self in
    let parts : c.loop-from.yielded ++ c.in-Some.field-0 ∷ rest ≡ c.args.shifts.items = ap (λ (l : List Shift). c.loop-from.yielded ++ l) (sym c.in-Some.ensures.steps.0) ∙ c.loop-from.invariant.parts in
    subst (λ (l : Loads). IsNamed c.in-Some.field-0.from l) (sym c.deref-in-loop-from.ensures.value)
    (among_named c.args.held.now.loads.items c.loop-from.yielded c.in-Some.field-0 rest (subst (AreAmong c.args.held.now.loads.items) (sym parts) c.requires.among))

pub index-number-requires : goal.index-number-requires
index-number-requires c = let within = c.place_of-at.ensures.within in let long = c.deref-in-loop-from.ensures.len in let many = c.loop-from.invariant.many in omega (arith, within, long, many)

pub overflow_add-number : goal.overflow_add-number
overflow_add-number c =
    let rest = into_iter_items c.next.new.self in
    let parts : c.loop-from.yielded ++ c.in-Some.field-0 ∷ rest ≡ c.args.shifts.items = ap (λ (l : List Shift). c.loop-from.yielded ++ l) (sym c.in-Some.ensures.steps.0) ∙ c.loop-from.invariant.parts in
    let found = ap (λ (l : Loads). slice_get (names l) c.place_of-at.result) (sym c.deref-in-loop-from.ensures.value) ∙ c.place_of-at.ensures.found in
    let is = count_read c.args.held.now.loads.items c.loop-from.yielded c.loop-from.next.items c.place_of-at.result c.index-number.result.now c.loop-from.invariant.counts c.in-Some.field-0.from found c.index-number.ensures in
    let small = count_small c.args.held.now.loads.items c.loop-from.yielded c.loop-from.next.items c.place_of-at.result c.index-number.result.now c.loop-from.invariant.counts c.in-Some.field-0.from c.in-Some.field-0 rest c.args.shifts.items is parts in
    let most = c.len-most.ensures in
    let fits : c.len-most.result < 18446744073709551616 = c.len-most.type_inv in
    let long = c.args.shifts.ok.0 in
    omega (arith, small, most, fits, long)

pub index_mut-requires : goal.index_mut-requires
index_mut-requires c = let within = c.place_of-at.ensures.within in let long = c.deref-in-loop-from.ensures.len in let many = c.loop-from.invariant.many in omega (arith, within, long, many)

pub loop-from-preserved-in_ok-push-in-Some-region_at : goal.loop-from-preserved-in_ok-push-in-Some-region_at
loop-from-preserved-in_ok-push-in-Some-region_at c =
    let loads = c.args.held.now.loads.items in
    let at = c.place_of-at.result in
    let number = c.index-number.result.now in
    let rest = into_iter_items c.next.new.self in
    let steps = c.in-Some.ensures.steps.0 in
    let found = ap (λ (l : Loads). slice_get (names l) at) (sym c.deref-in-loop-from.ensures.value) ∙ c.place_of-at.ensures.found in
    let is = count_read loads c.loop-from.yielded c.loop-from.next.items at number c.loop-from.invariant.counts c.in-Some.field-0.from found c.index-number.ensures in
    record {
      counts = counts_next loads c.loop-from.yielded c.loop-from.next.items at number c.loop-from.invariant.counts c.in-Some.field-0 c.requires.rise found is;
      parts = append_assoc c.loop-from.yielded (c.in-Some.field-0 ∷ []) rest ∙ ap (λ (l : List Shift). c.loop-from.yielded ++ l) (sym steps) ∙ c.loop-from.invariant.parts;
      long = (let first = c.in-Some.ensures.steps.1 in let last = ap length steps in let was = c.loop-from.invariant.long in omega (arith, first, last, was));
      many = c.loop-from.invariant.many;
      moves = λ opened servers are. moves_more opened servers loads _ are c.loop-from.yielded c.in-Some.field-0 rest c.loop-from.moves.items c.push.new.self.items (chosen opened [] c.args.shifts.items) at number
          (Some c.in_ok-copy-in-Some-region_at.field-0) found is (ap Some c.in_ok-copy-in-Some-region_at.ensures ∙ c.in-Some-region_at.ensures ∙ ap (λ (l : List (Vec (Bor RegionName) Global)). region_in (map (λ v. map (λ r. r.now) v.items) l) at number) c.deref-in-loop-from-2.ensures.value) c.in_ok-push-in-Some-region_at.ensures.items (ap (λ (l : List Shift). c.loop-from.moves.items ++ chosen opened c.loop-from.yielded l) (sym steps) ∙ c.loop-from.invariant.moves opened servers are);
    }

pub loop-from-preserved : goal.loop-from-preserved
loop-from-preserved c =
    let loads = c.args.held.now.loads.items in
    let at = c.place_of-at.result in
    let number = c.index-number.result.now in
    let rest = into_iter_items c.next.new.self in
    let steps = c.in-Some.ensures.steps.0 in
    let found = ap (λ (l : Loads). slice_get (names l) at) (sym c.deref-in-loop-from.ensures.value) ∙ c.place_of-at.ensures.found in
    let is = count_read loads c.loop-from.yielded c.loop-from.next.items at number c.loop-from.invariant.counts c.in-Some.field-0.from found c.index-number.ensures in
    record {
      counts = counts_next loads c.loop-from.yielded c.loop-from.next.items at number c.loop-from.invariant.counts c.in-Some.field-0 c.requires.rise found is;
      parts = append_assoc c.loop-from.yielded (c.in-Some.field-0 ∷ []) rest ∙ ap (λ (l : List Shift). c.loop-from.yielded ++ l) (sym steps) ∙ c.loop-from.invariant.parts;
      long = (let first = c.in-Some.ensures.steps.1 in let last = ap length steps in let was = c.loop-from.invariant.long in omega (arith, first, last, was));
      many = c.loop-from.invariant.many;
      moves = λ opened servers are. moves_more opened servers loads _ are c.loop-from.yielded c.in-Some.field-0 rest c.loop-from.moves.items c.loop-from.moves.items (chosen opened [] c.args.shifts.items) at number
          None found is (c.in-None-region_at.ensures ∙ ap (λ (l : List (Vec (Bor RegionName) Global)). region_in (map (λ v. map (λ r. r.now) v.items) l) at number) c.deref-in-loop-from-2.ensures.value) (sym (append-nil c.loop-from.moves.items)) (ap (λ (l : List Shift). c.loop-from.moves.items ++ chosen opened c.loop-from.yielded l) (sym steps) ∙ c.loop-from.invariant.moves opened servers are);
    }

no_items : (shifts : List Shift) → length shifts ≡ 0 → shifts ≡ []
no_items [] none = refl
no_items (shift ∷ shifts) none = absurd (omega (arith, none))

pub returns : goal.returns
returns c opened servers are =
    let none = no_items (into_iter_items c.loop-from.from-iterator) (let no = c.in-None.ensures.steps.0 in let was = c.loop-from.invariant.long in omega (arith, no, was)) in
    sym (append-nil c.loop-from.moves.items) ∙ ap (λ (l : List Shift). c.loop-from.moves.items ++ chosen opened c.loop-from.yielded l) (sym none) ∙ c.loop-from.invariant.moves opened servers are
