-- What each step on the gate's table tells.
use Rattle.std.specs.Prelude.{◌≡◌, ◌≢◌, ℕ, ◌%◌, ◌^◌, ◌≤◌, true, List, [], ◌∷◌, ◌++◌, length, drop, Option, Some}
use Rattle.atomic_table.specs.Table.{Me, Step}
use Rattle.hm_gate.specs.declared.view.View.{View}
use Rattle.hm_gate.specs.declared.view.Position.{Position}
use Rattle.hm_gate.specs.declared.view.Position.TheVariants.{Out, Waits, Inside}
use Rattle.hm_gate.specs.Whole.{Whole}
use Rattle.hm_gate.specs.Total.{times, entries, numbered, among, beyond}
use Rattle.hm_gate.specs.Gate.{Begins, Stand}

-- a view, and the slots that are out with its seat
abbrev pub Token : Type 0 → Type 0 → Type 0 → Type 0
Token I T S = Me (Option S) (View I T)

-- inside, other outs are noted
abbrev pub repositioned : List ℕ → Position → Position
repositioned o Out = Out
repositioned o (Waits t) = Waits t
repositioned o (Inside t old) = Inside t o

module _ {I T : Type 0} where
  -- the seat is inside, and has seen these items and noted these outs
  abbrev pub IsInside : List I → List ℕ → View I T → Type 0
  IsInside items outs v = (v.front ≡ items) × ((t : ℕ) × (v.position ≡ Inside t outs))

  -- the view at another position
  abbrev pub positioned : View I T → Position → View I T
  positioned v position = record v { position = position }

  -- the outs that were noted
  abbrev pub noted : View I T → List ℕ
  noted v = elim v.position as (λ _. List ℕ) [ Out ↦ [] | Waits k ↦ [] | Inside k o ↦ o ]

module _ {I T S : Type 0} where
  -- a ticket was drawn, the number found
  abbrev pub drew_one : Step (Option S) → Token I T S → ℕ → Token I T S → Type 0
  drew_one st m found m' = (t : ℕ) × (found ≡ t % 2 ^ 64) × (m' ≡ (positioned m.0 (Waits t), m.1))

  -- the ticket, the turn and the note are given up
  abbrev pub went : Step (Option S) → Token I T S → ℕ → Token I T S → Type 0
  went st m found m' = m' ≡ (positioned m.0 Out, [])

module _ {I T S : Type 0} (shown : S → Whole I T) where
  -- the view of a seat that went in with the ticket t and found x
  abbrev pub entered : View I T → ℕ → S → View I T
  entered v t x = record v { front = (shown x).items; position = Inside t ((shown x).outs); stopped = (shown x).stopped }

  -- what a seat owes that leaves x: what it owed and is out still, and what came to the outs
  abbrev pub owing_after : View I T → S → List ℕ
  owing_after v x = among ((shown x).outs) v.owes ++ beyond (noted v) ((shown x).outs)

  -- the items that came to those that were entered, with their numbers
  abbrev pub added : View I T → S → List (ℕ × I)
  added v x = numbered (length v.front) (drop (length v.front) ((shown x).items))

  -- the view of a seat that is to leave x
  abbrev pub changed : View I T → S → View I T
  changed v x = record v { front = (shown x).items; mine = v.mine ++ added v x; owes = owing_after v x; position = repositioned ((shown x).outs) v.position; stopped = (shown x).stopped }

  -- the view of a seat that left x
  abbrev pub left : View I T → S → View I T
  left v x = positioned (changed v x) Out

  -- the items, the outs and whether it is stopped become those of the value in hand
  abbrev pub raised : Step (Option S) → Token I T S → ℕ → Token I T S → Type 0
  raised st m found m' = (x : S) → m.1 ≡ (0, Some x) ∷ [] → m' ≡ (changed m.0 x, m.1)

  -- what a seat knows of the value that it found: it begins with all that the seat had seen, and has what it owes
  pub record Found (v : View I T) (x : S) : Type 0 where
    pub items_begin : Begins ((shown x).items) v.front
    pub stand : Stand ((shown x).items) v.mine
    pub once : (n : ℕ) → entries n v.mine ≤ 1
    pub owed : (n : ℕ) → times n v.owes ≤ times n ((shown x).outs)
    pub distinct : (n : ℕ) → times n ((shown x).outs) ≤ 1
    pub stopped_is : v.stopped ≡ true → (shown x).stopped ≡ true
    pub terms_is : v.terms ≡ Some ((shown x).terms)

  -- what x has to be, for the seat to leave it: it begins with what was entered, and only what the seat owes is gone
  pub record May (v : View I T) (x : S) : Type 0 where
    pub items_begin : Begins ((shown x).items) v.front
    pub gone : (n : ℕ) → times n (noted v) ≡ 1 → times n ((shown x).outs) ≡ 0 → times n v.owes ≡ 1
    pub distinct : (n : ℕ) → times n ((shown x).outs) ≤ 1
    pub stopped_is : v.stopped ≡ true → (shown x).stopped ≡ true
    pub terms_is : v.terms ≡ Some ((shown x).terms)

  -- where the number found is its ticket, it has its turn and the value
  abbrev pub looked : Step (Option S) → Token I T S → ℕ → Token I T S → Type 0
  looked st m found m' = (t : ℕ) → m.0.position ≡ Waits t
      → (found ≡ t % 2 ^ 64 → (x : S) × Found m.0 x × (m' ≡ (entered m.0 t x, (0, Some x) ∷ []))) × (found ≢ t % 2 ^ 64 → m' ≡ m)
