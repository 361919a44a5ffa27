-- The rule of the gate.
use Rattle.std.specs.Prelude.{◌≡◌, ◌⊎◌, ℕ, ◌+◌, ◌%◌, ◌^◌, ◌<◌, ◌≤◌, true, List, [], ◌∷◌, ◌++◌, length, Option, Some, slice_get}
use mathlib.Core.Option.{some, none}
use lib.ListN.{get_elem?}
use Rattle.atomic_table.specs.Table.{State}
use Rattle.hm_gate.specs.declared.view.View.{View}
use Rattle.hm_gate.specs.declared.view.Position.{Position}
use Rattle.hm_gate.specs.declared.view.Position.TheVariants.{Out, Waits, Inside}
use Rattle.hm_gate.specs.Whole.{Whole}
use Rattle.hm_gate.specs.Total.{total, same, under, times, entries}

-- the list begins with the other one
abbrev pub Begins : {I : Type 0} → List I → List I → Type 0
Begins {I} xs front = (rest : List I) × (xs ≡ front ++ rest)

-- each pair names an item and its number in the list
abbrev pub Stand : {I : Type 0} → List I → List (ℕ × I) → Type 0
Stand items [] = Unit {0}
Stand items (x ∷ xs) = (slice_get items x.0 ≡ Some x.1) × Stand items xs

module _ {I T : Type 0} where
  -- it has no ticket
  abbrev pub IsOutside : View I T → Type 0
  IsOutside v = v.position ≡ Out

  -- 1 where the view has the ticket t
  abbrev pub has : ℕ → View I T → ℕ
  has t v = elim v.position as (λ _. ℕ) [ Out ↦ 0 | Waits k ↦ same t k | Inside k o ↦ same t k ]

  -- 1 where it has a ticket
  abbrev pub drew : View I T → ℕ
  drew v = elim v.position as (λ _. ℕ) [ Out ↦ 0 | Waits k ↦ 1 | Inside k o ↦ 1 ]

  -- 1 where it has the turn
  abbrev pub turn : View I T → ℕ
  turn v = elim v.position as (λ _. ℕ) [ Out ↦ 0 | Waits k ↦ 0 | Inside k o ↦ 1 ]

  -- its parts
  abbrev pub parts : View I T → ℕ
  parts v = v.parts

  -- how often it added the item of the number n
  abbrev pub wrote : ℕ → View I T → ℕ
  wrote n v = entries n v.mine

  -- how often it owes n
  abbrev pub owing : ℕ → View I T → ℕ
  owing n v = times n v.owes

  module _ (served drawn : ℕ) (whole : Whole I T) where
    -- its ticket is drawn and not served yet; with the turn it is the one that is served, and the view knows the whole
    abbrev pub FitsAt : View I T → Position → Type 0
    FitsAt v Out = Unit {0}
    FitsAt v (Waits t) = (served ≤ t) × (t < drawn)
    FitsAt v (Inside t o) = (t ≡ served) × (served < drawn) × (v.front ≡ whole.items) × (o ≡ whole.outs) × (v.stopped ≡ whole.stopped)

    -- a view is of this gate: its front and its items are the whole's, and a spent one has nothing
    pub record Fits (opening : List I) (seats : ℕ) (terms : T) (v : View I T) : Type 0 where
      pub front : Begins whole.items v.front
      pub mine : Stand whole.items v.mine
      pub position : FitsAt v v.position
      pub stopped : v.stopped ≡ true → whole.stopped ≡ true
      pub spent : v.parts ≡ 0 → (v.mine ≡ []) × (v.owes ≡ []) × (v.position ≡ Out)
      pub opening_is : 0 < v.parts → v.opening ≡ opening
      pub seats_is : 0 < v.parts → v.seats ≡ seats
      pub terms_is : 0 < v.parts → v.terms ≡ Some terms

module _ {I T S : Type 0} (shown : S → Whole I T) where
  -- the value is at home and is this whole, or is out with the one view that has the turn
  abbrev pub Lies : Whole I T → List (mathlib.Core.Option.Option (Option S)) → ℕ → Type 0
  Lies w homes turns = ((x : S) × (homes ≡ some (Some x) ∷ []) × (shown x ≡ w) × (turns ≡ 0)) ⊎ ((homes ≡ none ∷ []) × (turns ≡ 1))

  -- the rule. Tickets are counted without end here, and modulo 2^64 in the words
  pub record Ruled (start : S) (seats : ℕ) (s : State (Option S) (View I T)) : Type 0 where
    -- the ticket that is served, the next to be drawn, and the one whole
    pub served : ℕ
    pub drawn : ℕ
    pub whole : Whole I T
    pub terms_are : whole.terms ≡ (shown start).terms
    pub words : s.words ≡ length whole.items ∷ drawn % 2 ^ 64 ∷ served % 2 ^ 64 ∷ []
    -- each ticket from the one that is served up to the next is one view's
    pub line : drawn ≡ served + total drew s.views
    pub apart : (t : ℕ) → total (has t) s.views ≤ 1
    pub lies : Lies whole s.homes (total turn s.views)
    pub each : (i : ℕ) (v : View I T) → get_elem? s.views i ≡ some v → Fits served drawn whole ((shown start).items) seats ((shown start).terms) v
    pub begun : Begins whole.items ((shown start).items)
    -- parts add up
    pub shares : total parts s.views ≡ seats
    pub few : seats < 2 ^ 32
    -- each number after the opening list is in one view's items, each out is owed by one view
    pub written : (n : ℕ) → total (wrote n) s.views + under (length ((shown start).items)) n ≡ under (length whole.items) n
    pub owed : (n : ℕ) → total (owing n) s.views ≡ times n whole.outs
    pub distinct : (n : ℕ) → times n whole.outs ≤ 1

  -- the first seat's view
  abbrev pub opened : S → ℕ → View I T
  opened x seats = record { front = (shown x).items; mine = []; owes = []; position = Out; stopped = (shown x).stopped; parts = seats; seats = seats; opening = (shown x).items; terms = Some ((shown x).terms) }
