-- What callers know of a seat, said of the view that lies in it.
use Rattle.std.proofs.Common.{◌≡◌, ℕ, ◌+◌, ◌%◌, ◌^◌, ◌≤◌, List, [], ◌∷◌, length, sym, ap, subst, ◌∙◌}
use Rattle.std.specs.Prelude.{Option, Some}
use mathlib.Core.Option.{none}
use Rattle.atomic_table.specs.Table.{Allows, step, rest}
use Rattle.hm_gate.specs.declared.view.Position.TheVariants.{Out, Waits, Inside}
use Rattle.hm_gate.specs.Chair.{Chair}
use Rattle.hm_gate.specs.Gate.{Ruled}
use Rattle.hm_gate.specs.Hand.{hand}
use Rattle.hm_gate.specs.Plays.{May, Token, raised, changed, went}
use Rattle.hm_gate.specs.Seats.{Ends}
use Rattle.hm_gate.specs.Whole.{Whole}
use Rattle.hm_gate.proofs.Keeps.{raises-from, advances-after, put-in}

module _ {I T : Type 0} where
  pub out-in : (s t : Chair I T) → s ≡ t → t.view.position ≡ Out → s.view.position ≡ Out
  out-in s t e out = ap (λ (z : Chair I T). z.view.position) e ∙ out

  pub waits-in : (s t : Chair I T) (k : ℕ) → s ≡ t → t.view.position ≡ Waits k → s.view.position ≡ Waits k
  waits-in s t k e waits = ap (λ (z : Chair I T). z.view.position) e ∙ waits

  pub inside-in : (s t : Chair I T) (k : ℕ) (o : List ℕ) → s ≡ t → t.view.position ≡ Inside k o → s.view.position ≡ Inside k o
  inside-in s t k o e inside = ap (λ (z : Chair I T). z.view.position) e ∙ inside

  pub parts-in : (s t : Chair I T) → s ≡ t → 2 ≤ t.view.parts → 2 ≤ s.view.parts
  parts-in s t e two = subst (λ (z : Chair I T). 2 ≤ z.view.parts) (sym e) two

  pub whole-in : (s t : Chair I T) → s ≡ t → t.view.parts ≡ t.view.seats → s.view.parts ≡ s.view.seats
  whole-in s t e whole = subst (λ (z : Chair I T). z.view.parts ≡ z.view.seats) (sym e) whole

  pub may-in : {S : Type 0} (shown : S → Whole I T) (s t : Chair I T) (x : S) → s ≡ t → May shown t.view x → May shown s.view x
  may-in shown s t x e may = subst (λ (z : Chair I T). May shown z.view x) (sym e) may

  pub ends-out : {S : Type 0} (shown : S → Whole I T) (s t : Chair I T) (x : S) → s ≡ t → Ends shown s.view x → Ends shown t.view x
  ends-out shown s t x e ends = subst (λ (z : Chair I T). Ends shown z.view x) e ends

-- the steps of a seat that leaves: s is what lies in it, t what callers see, l what it had in hand, x the value that it put back
module _ {I T S : Type 0} (shown : S → Whole I T) (start : S) (seats slots id : ℕ) (s t : Chair I T) (l : List (ℕ × Option S)) (k : ℕ) (x : S) (o : List ℕ) (seen : s ≡ t) (handed : l ≡ hand s.view) (inside : t.view.position ≡ Inside k o) (may : May shown t.view x) where
  pub raises-in : (me : Token I T S) (count : ℕ) → me ≡ (s.view, (0, Some x) ∷ rest l) → count ≡ length ((shown x).items)
      → Allows (Ruled shown start seats) slots id me 0 (λ _. count) (λ _. raised shown (step slots 0 count 0 none) me count)
  raises-in me count put count_is =
      let here = inside-in s t k o seen inside in
      raises-from shown start seats slots id me s.view k count x o (put-in me s.view l k o x here handed put) here count_is (may-in shown s t x seen may)

  pub advances-in : (me before : Token I T S) → before ≡ (s.view, (0, Some x) ∷ rest l) → ((y : S) → before.1 ≡ (0, Some y) ∷ [] → me ≡ (changed shown before.0 y, before.1))
      → Allows (Ruled shown start seats) slots id me 2 (λ n. (n + 1) % 2 ^ 64) (went (step slots 2 1 0 none) me)
  advances-in me before put told =
      let here = inside-in s t k o seen inside in
      advances-after shown start seats slots id me before s.view k x o (put-in before s.view l k o x here handed put) told here (may-in shown s t x seen may).terms_is
