-- Locks that are sorted by resource, ties as they stood, are those that are put in one by one.
use Rattle.std.proofs.Common.{◌≡◌, List, [], ◌∷◌, Bool, true, false, not, ◌&&◌, cond, filter, is_lt, refl, ap, sym, ◌∙◌}
use Rattle.std.specs.Cmp.{IsStrictWeakOrder}
use Rattle.std.specs.List.{AllByRecursion}
use Rattle.std.specs.List.Sorted.{IsSortedBy, IsStableBy, ties}
use Rattle.std.specs.Ordering.{ordering_reverse}
use Rattle.std.specs.declared.cmp.Ordering.{Ordering}
use Rattle.std.specs.declared.cmp.Ordering.TheVariants.{Less, Equal, Greater}
use Rattle.std.proofs.lemmas.List.Sorted.{ranks_by}
use Rattle.hm_show.specs.Locks.{by_resource, resource_cmp, with_lock, with_lock_at}
use Rattle.hm_show.specs.declared.lock_lines.Lock.{Lock}
use Rattle.hm_show.proofs.InOrder.{Rises, one_order, rises}
use Rattle.hm_show.proofs.ResourceOrder.{resources_total}

-- two that don't both pass may change places
change_places : {X : Type 0} (f l : X) (xs : List X) (a b : Bool) → (a ≡ true → b ≡ true → ⊥)
    → cond b (f ∷ cond a (l ∷ xs) xs) (cond a (l ∷ xs) xs) ≡ cond a (l ∷ cond b (f ∷ xs) xs) (cond b (f ∷ xs) xs)
change_places f l xs false b not_both = refl
change_places f l xs true false not_both = refl
change_places f l xs true true not_both = absurd (not_both refl refl)

-- those that tie with one tie
both_tie : (a b c d : Bool) → (not a && not b) ≡ true → (not c && not d) ≡ true → (b ≡ false) × (c ≡ false)
both_tie a false false d e f = (refl, refl)
both_tie true false true d e f = cc
both_tie false false true d e f = cc
both_tie true true c d e f = cc
both_tie false true c d e f = cc

-- a lock's resource stands before another's
abbrev pub is_below : Lock → Lock → Bool
is_below one other = is_lt (resource_cmp one.ask.resource other.ask.resource)

pub order : IsStrictWeakOrder is_below
order = ranks_by resources_total (λ (lock : Lock). lock.ask.resource)

-- the same, told from the other side
turned : (a b : Lock) (o : Ordering) → resource_cmp a.ask.resource b.ask.resource ≡ o → is_below b a ≡ is_lt (ordering_reverse o)
turned a b o e = ap is_lt (resources_total.antisymm b.ask.resource a.ask.resource) ∙ ap (λ p. is_lt (ordering_reverse p)) e

-- what holds of a lock and of others holds of all of them together
all_with : (P : Lock → Type 0) (lock : Lock) (locks : List Lock) → P lock → AllByRecursion P locks → AllByRecursion P (with_lock lock locks)
all_with P lock [] one all = (one, tt)
all_with P lock (first ∷ more) one all = by (resource_cmp lock.ask.resource first.ask.resource) (all_with P lock more one all.1)
  where
    by : (o : Ordering) → AllByRecursion P (with_lock lock more) → AllByRecursion P (with_lock_at o lock first more (with_lock lock more))
    by Less rest = (one, all)
    by Equal rest = (one, all)
    by Greater rest = (all.0, rest)

-- what none is below, none is below where it stands no higher
below_all : (lock first : Lock) (locks : List Lock) → is_below first lock ≡ false → AllByRecursion (λ y. is_below y first ≡ false) locks → AllByRecursion (λ y. is_below y lock ≡ false) locks
below_all lock first [] e all = tt
below_all lock first (other ∷ more) e all = (order.chain other first lock all.0 e, below_all lock first more e all.1)

-- one that is put in keeps the order
rises_with : (lock : Lock) (locks : List Lock) → Rises is_below locks → Rises is_below (with_lock lock locks)
rises_with lock [] up = (tt, tt)
rises_with lock (first ∷ more) up = by (resource_cmp lock.ask.resource first.ask.resource) refl (rises_with lock more up.1)
  where
    front : is_below first lock ≡ false → Rises is_below (lock ∷ first ∷ more)
    front e = ((e, below_all lock first more e up.0), up)

    by : (o : Ordering) → resource_cmp lock.ask.resource first.ask.resource ≡ o → Rises is_below (with_lock lock more) → Rises is_below (with_lock_at o lock first more (with_lock lock more))
    by Less e rest = front (turned lock first Less e)
    by Equal e rest = front (turned lock first Equal e)
    by Greater e rest = (all_with (λ y. is_below y first ≡ false) lock more (ap is_lt e) up.0, rest)

-- the tied stand as before, with the new one in front
ties_with : (z lock : Lock) (locks : List Lock) → filter (ties is_below z) (with_lock lock locks) ≡ filter (ties is_below z) (lock ∷ locks)
ties_with z lock [] = refl
ties_with z lock (first ∷ more) = by (resource_cmp lock.ask.resource first.ask.resource) refl (ties_with z lock more)
  where
    not_both : is_below first lock ≡ true → ties is_below z lock ≡ true → ties is_below z first ≡ true → ⊥
    not_both over e f =
        let here = both_tie (is_below z first) (is_below first z) (is_below z lock) (is_below lock z) f e in
        let no = order.chain first z lock here.0 here.1 in
        cc

    by : (o : Ordering) → resource_cmp lock.ask.resource first.ask.resource ≡ o → filter (ties is_below z) (with_lock lock more) ≡ filter (ties is_below z) (lock ∷ more)
        → filter (ties is_below z) (with_lock_at o lock first more (with_lock lock more)) ≡ filter (ties is_below z) (lock ∷ first ∷ more)
    by Less e rest = refl
    by Equal e rest = refl
    by Greater e rest =
        ap (λ l. cond (ties is_below z first) (first ∷ l) l) rest
        ∙ change_places first lock (filter (ties is_below z) more) (ties is_below z lock) (ties is_below z first) (not_both (turned lock first Greater e))

all_rise : (locks : List Lock) → Rises is_below (by_resource locks)
all_rise [] = tt
all_rise (lock ∷ more) = rises_with lock (by_resource more) (all_rise more)

all_tie : (z : Lock) (locks : List Lock) → filter (ties is_below z) (by_resource locks) ≡ filter (ties is_below z) locks
all_tie z [] = refl
all_tie z (lock ∷ more) = ties_with z lock (by_resource more) ∙ ap (λ l. cond (ties is_below z lock) (lock ∷ l) l) (all_tie z more)

-- what a stable sort makes
pub sorted_once : (old new : List Lock) → IsSortedBy is_below new → IsStableBy is_below old new → new ≡ by_resource old
sorted_once old new up stable = one_order is_below order new (by_resource old) (rises is_below order new up) (all_rise old) (λ z. stable z ∙ sym (all_tie z old))
