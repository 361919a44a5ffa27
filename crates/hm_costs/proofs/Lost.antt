-- The regions at a server that went down: what a crash may cost for so many, and that they are counted once each.
use Rattle.std.proofs.Common.{◌≡◌, ◌≢◌, ℕ, zero, suc, ◌+◌, ◌*◌, ◌-◌, ◌≤◌, List, [], ◌∷◌, length, take, drop, Bool, true, false, cond, Option, Some, None, refl, ap, sym, ◌∙◌, subst, arith, inl, inr, ◌⊎◌}
use Rattle.std.specs.List.{filter}
use Rattle.std.specs.declared.cmp.Ordering.{Ordering}
use Rattle.std.specs.declared.cmp.Ordering.TheVariants.{Equal, Greater, Less}
use Rattle.std.proofs.lemmas.Bool.{cases_Bool, cond-false, false≢true}
use Rattle.hm_names.specs.Order.{region_cmp}
use Rattle.hm_names.specs.Region.{Region}
use Rattle.hm_names.specs.Server.{Server}
use Rattle.hm_data.specs.declared.entry.Entry.TheVariants as entry_is
use Rattle.hm_data.specs.declared.part.Part.{Part}
use Rattle.hm_data.specs.declared.part.Part.TheVariants as part_is
use Rattle.hm_data.specs.declared.place.Place.{Place}
use Rattle.hm_model.specs.Costs.{by_64s}
use Rattle.hm_model.specs.Journal.{Past}
use Rattle.hm_model.specs.Keys.{same_region}
use Rattle.hm_model.specs.Locks.{IsIn}
use Rattle.hm_model.specs.Places.{at_server, is_at, joined_at, joined_by, joined_if, part_place, part_placed, place_of, placed, placed_by, region_if}
use Rattle.hm_model.specs.Tree.{Node, child_of, node_of}
use Rattle.hm_model.specs.Answers.{is_stopped, last_answer}
use Rattle.hm_model.specs.Fleet.{is_fenced}
use Rattle.hm_data.specs.declared.answer.Answer.{Answer}
use Rattle.hm_data.specs.declared.answer.Answer.TheVariants as answer_is
use Rattle.hm_data.specs.declared.args.Args.TheVariants as args_are
use Rattle.hm_data.specs.declared.place.Goal.TheVariants as goal_is
use Rattle.hm_model.proofs.KeyTests.{region_cmp-is, same_region-is}
use Rattle.hm_model.proofs.InOrder.{InOrder, filter_if, not_later}

-- what is left of a crash whose server is fenced: the regions in pieces of 64, each with its transits, and the end
abbrev pub moving_due : ℕ → ℕ
moving_due k = 1 + by_64s k + 6 * k

-- a piece, its transits, and what is left of the others; the end where there are none
pub piece_due : (k : ℕ) → 1 ≤ k → k ≤ 64 → 1 + 6 * k + moving_due 0 ≤ moving_due k
piece_due k some few = omega (arith, some, few)

pub pieces_due : (k : ℕ) → 64 ≤ k → 1 + 6 * 64 + moving_due (k - 64) ≤ moving_due k
pieces_due k many = omega (arith, many)

-- regions without one of them
without : (x : Region) (list : List Region) → IsIn x list → (rest : List Region) × (length list ≡ 1 + length rest) × ((y : Region) → IsIn y list → y ≢ x → IsIn y rest)
without x [] h = elim h [ ]
without x (first ∷ more) (inl here) = (more, omega arith, λ y among differs. elim among [ inl same ↦ absurd (differs (same ∙ sym here)) | inr later ↦ later ])
without x (first ∷ more) (inr later) =
    let w = without x more later in
    let shorter = w.1 in
    (first ∷ w.0, omega (arith, shorter), λ y among differs. elim among [ inl same ↦ inl same | inr on ↦ inr (w.2 y on differs) ])

-- regions in order, each among others, are at most as many
pub at_most : (list rest : List Region) → InOrder list → ((y : Region) → IsIn y list → IsIn y rest) → length list ≤ length rest
at_most [] rest order among = omega arith
at_most (x ∷ list) rest order among =
    let w = without x rest (among x (inl refl)) in
    let shorter = w.1 in
    let on = at_most list w.0 order.1 (λ y h. w.2 y (among y (inr h)) (λ same. not_later x list order.0 (subst (λ z. IsIn z list) same h))) in
    omega (arith, shorter, on)

in_joined_at : (y region first : Region) (more rest : List Region) → ((y ≡ region) ⊎ IsIn y more → IsIn y rest) → (o : Ordering) → region_cmp region first ≡ o → (y ≡ region) ⊎ IsIn y (first ∷ more) → IsIn y (joined_at o region first more rest)
in_joined_at y region first more rest on Less e h = h
in_joined_at y region first more rest on Equal e h = elim h [ inl new ↦ inl (new ∙ region_cmp-is region first e) | inr old ↦ old ]
in_joined_at y region first more rest on Greater e h = elim h [
  | inl new ↦ inr (on (inl new))
  | inr old ↦ elim old [ inl here ↦ inl here | inr later ↦ inr (on (inr later)) ]
]

in_joined : (y region : Region) (list : List Region) → (y ≡ region) ⊎ IsIn y list → IsIn y (joined_by region list)
in_joined y region [] h = h
in_joined y region (first ∷ more) h = in_joined_at y region first more (joined_by region more) (in_joined y region more) (region_cmp region first) refl h

in_joined_if : (y : Region) (own : Option Region) (place : Option Place) (list : List Region) → IsIn y list → IsIn y (joined_if own place list)
in_joined_if y own None list h = h
in_joined_if y None (Some place) list h = h
in_joined_if y (Some region) (Some place) list h = in_joined y region list (inr h)

-- a region at a server had a place once
at_placed : (J : Past) (server : Server) (y : Region) → is_at server (place_of J y) ≡ true → IsIn y (placed J)
at_placed [] server y at = absurd (false≢true at)
at_placed (entry_is.Step pid pick out ∷ J) server y at = by (at_placed J server y) out.place (region_if (node_of J pid.0)) at
  where
    by : (is_at server (place_of J y) ≡ true → IsIn y (placed J)) → (place : Option Place) (own : Option Region) → is_at server (placed_by y own place (place_of J y)) ≡ true → IsIn y (joined_if own place (placed J))
    by on None own at = on at
    by on (Some place) None at = on at
    by on (Some place) (Some region) at = elim (cases_Bool (same_region y region)) [
      | inl same ↦ in_joined y region (placed J) (inl (same_region-is y region same))
      | inr differs ↦ in_joined y region (placed J) (inr (on (ap (is_at server) (sym (cond-false (same_region y region) place (place_of J y) differs)) ∙ at)))
    ]
at_placed (entry_is.Base part ∷ J) server y at = by part (at_placed J server y) at
  where
    by : (part : Part) → (is_at server (place_of J y) ≡ true → IsIn y (placed J)) → is_at server (part_place part y (place_of J y)) ≡ true → IsIn y (part_placed part (placed J))
    by (part_is.Region region range status parents given) on at = elim (cases_Bool (same_region y region)) [
      | inl same ↦ in_joined y region (placed J) (inl (same_region-is y region same))
      | inr differs ↦ in_joined y region (placed J) (inr (on (ap (is_at server) (sym (cond-false (same_region y region) given (place_of J y) differs)) ∙ at)))
    ]
    by part on at = on at
at_placed (entry ∷ J) server y at = at_placed J server y at

in_filter : (test : Region → Bool) (y : Region) (list : List Region) → IsIn y list → test y ≡ true → IsIn y (filter test list)
in_filter test y [] h on = elim h [ ]
in_filter test y (first ∷ more) h on = subst (IsIn y) (sym (filter_if test first more (test first) refl)) (elim h [
  | inl here ↦ subst (λ b. IsIn y (cond b (first ∷ filter test more) (filter test more))) (sym (ap test (sym here) ∙ on)) (inl here)
  | inr later ↦ by (test first) (in_filter test y more later on)
])
  where
    by : (b : Bool) → IsIn y (filter test more) → IsIn y (cond b (first ∷ filter test more) (filter test more))
    by true among = inr among
    by false among = among

-- and is listed there
pub at_listed : (J : Past) (server : Server) (y : Region) → is_at server (place_of J y) ≡ true → IsIn y (at_server J server)
at_listed J server y at = in_filter (λ region. is_at server (place_of J region)) y (placed J) (at_placed J server y at) at

-- the first few, and the rest
pub take_or_drop : {A : Type 0} (y : A) (n : ℕ) (list : List A) → IsIn y list → IsIn y (take n list) ⊎ IsIn y (drop n list)
take_or_drop y zero list h = inr h
take_or_drop y (suc n) [] h = elim h [ ]
take_or_drop y (suc n) (x ∷ list) (inl here) = inl (inl here)
take_or_drop y (suc n) (x ∷ list) (inr later) = elim (take_or_drop y n list later) [ inl first ↦ inl (inr first) | inr rest ↦ inr rest ]

pub both_lengths : {A : Type 0} (n : ℕ) (list : List A) → length (take n list) + length (drop n list) ≡ length list
both_lengths zero list = omega arith
both_lengths (suc n) [] = omega arith
both_lengths (suc n) (x ∷ list) = let on = both_lengths n list in omega (arith, on)

-- each region at the server is one of these
abbrev pub Within : Past → Server → List Region → Type 0
Within J server rest = (y : Region) → is_at server (place_of J y) ≡ true → IsIn y rest

-- or is moved by a child that hasn't ended
abbrev pub Covered : Past → ℕ → Node → Server → List Region → Type 0
Covered J r x server rest =
    (y : Region) → is_at server (place_of J y) ≡ true
    → IsIn y rest ⊎ ((child : ℕ) × (node_of J child ≡ Some (child_of r x (args_are.Transit y goal_is.Assign None))) × (is_stopped (last_answer J child) ≡ false))

-- its server is being fenced, or is fenced and its regions are being moved
abbrev pub Moving : Past → ℕ → Node → Server → List Region → Type 0
Moving J r x server rest =
    (Within J server rest × (child : ℕ) × (node_of J child ≡ Some (child_of r x (args_are.FenceCall server))))
    ⊎ ((is_fenced J server ≡ true) × Covered J r x server rest)

abbrev pub CrashDue : Past → ℕ → Node → Server → ℕ → Option Answer → Type 0
CrashDue J r x server budget None = (rest : List Region) × (4 + moving_due (length rest) ≤ budget) × Within J server rest
CrashDue J r x server budget (Some (answer_is.Wait n)) = (n ≡ 1) × (rest : List Region) × (moving_due (length rest) ≤ budget) × Moving J r x server rest
CrashDue J r x server budget (Some (answer_is.Done told)) = Unit {0}
CrashDue J r x server budget (Some answer) = ⊥

filtered : (test : Region → Bool) (y : Region) (list : List Region) → IsIn y (filter test list) → test y ≡ true
filtered test y [] h = elim h [ ]
filtered test y (first ∷ more) h = by (test first) refl (subst (IsIn y) (filter_if test first more (test first) refl) h) (filtered test y more)
  where
    by : (b : Bool) → test first ≡ b → IsIn y (cond b (first ∷ filter test more) (filter test more)) → (IsIn y (filter test more) → test y ≡ true) → test y ≡ true
    by true e among on = elim among [ inl here ↦ ap test here ∙ e | inr later ↦ on later ]
    by false e among on = on among

-- who is listed at a server is there
pub listed_at : (J : Past) (server : Server) (y : Region) → IsIn y (at_server J server) → is_at server (place_of J y) ≡ true
listed_at J server y among = filtered (λ region. is_at server (place_of J region)) y (placed J) among
