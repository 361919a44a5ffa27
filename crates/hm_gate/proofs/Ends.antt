-- The first seat, the cuts and joins of seats, and the end.
use Rattle.std.proofs.Common.{◌≡◌, ◌⊎◌, ℕ, zero, suc, ◌+◌, ◌^◌, ◌<◌, ◌≤◌, Bool, true, false, ◌||◌, List, [], ◌∷◌, ◌++◌, length, set, sym, refl, ap, subst, ◌∙◌, inl, inr, ⊎_elim, arith}
use Rattle.std.specs.Prelude.{Option, Some}
use Rattle.std.proofs.lemmas.Bool.{false≢true}
use mathlib.Core.Option.{none, some, some-injective, some-ne-none}
use lib.ListN.{get_elem?}
use Rattle.atomic_table.specs.Table.{State, Splits, Joins, Final, Seen, opening}
use Rattle.atomic_table.proofs.Lists.{at_set, at_snoc}
use Rattle.hm_gate.specs.declared.view.View.{View}
use Rattle.hm_gate.specs.declared.view.Position.{Position}
use Rattle.hm_gate.specs.declared.view.Position.TheVariants.{Out, Waits, Inside}
use Rattle.hm_gate.specs.Whole.{Whole}
use Rattle.hm_gate.specs.Total.{total, same, under, times, entries, either}
use Rattle.hm_gate.specs.Gate.{Begins, Stand, FitsAt, Fits, Ruled, Lies, opened, has, drew, turn, parts, wrote, owing}
use Rattle.hm_gate.specs.Hand.{hand}
use Rattle.hm_gate.specs.Seats.{longer, fewer, fresh, merged, spent, Ends}
use Rattle.hm_gate.proofs.Prefixes.{begins-all, stand-append}
use Rattle.hm_gate.proofs.Totals.{total-set, total-has, total-zero, total-snoc, entries-append, times-append}

under-cases : (b n : ℕ) → ((n < b) × (under b n ≡ 1)) ⊎ ((b ≤ n) × (under b n ≡ 0))
under-cases zero n = inr (omega arith, refl)
under-cases (suc b) zero = inl (omega arith, refl)
under-cases (suc b) (suc n) = ⊎_elim (λ t. let a = t.0 in inl (omega arith, t.1)) (λ t. let a = t.0 in inr (omega arith, t.1)) (under-cases b n)

-- a number that lies after the one list and in the other
once-of : (n a b k : ℕ) → k + under a n ≡ under b n → a ≤ n → n < b → k ≡ 1
once-of n a b k e le lt = ⊎_elim (λ t. let p = t.0 in absurd (omega arith)) (λ t. let p = t.1 in ⊎_elim (λ u. let q = u.1 in omega arith) (λ u. let q = u.0 in absurd (omega arith)) (under-cases b n)) (under-cases a n)

-- any other number
none-of : (n a b k : ℕ) → k + under a n ≡ under b n → (n < a) ⊎ (b ≤ n) → k ≡ 0
none-of n a b k e (inl lt) = ⊎_elim (λ t. let p = t.1 in ⊎_elim (λ u. let q = u.1 in omega arith) (λ u. let q = u.1 in omega arith) (under-cases b n)) (λ t. let p = t.0 in absurd (omega arith)) (under-cases a n)
none-of n a b k e (inr le) = ⊎_elim (λ u. let q = u.0 in absurd (omega arith)) (λ u. let q = u.1 in omega arith) (under-cases b n)

module _ {I : Type 0} where
  -- which of the two is the longer one
  longer-is : (xs ys : List I) → ((length xs < length ys) × (longer xs ys ≡ ys)) ⊎ ((length ys ≤ length xs) × (longer xs ys ≡ xs))
  longer-is xs ys = ⊎_elim (λ t. inl (t.0, ap (λ (k : ℕ). either k ys xs) t.1)) (λ t. inr (t.0, ap (λ (k : ℕ). either k ys xs) t.1)) (under-cases (length ys) (length xs))

  pub longer-first : (xs ys : List I) → length ys ≤ length xs → length xs ≡ length (longer xs ys)
  longer-first xs ys le = ⊎_elim (λ t. let a = t.0 in absurd (omega arith)) (λ t. ap (λ (l : List I). length l) (sym t.1)) (longer-is xs ys)

  pub longer-second : (xs ys : List I) → length xs < length ys → length ys ≡ length (longer xs ys)
  longer-second xs ys lt = ⊎_elim (λ t. ap (λ (l : List I). length l) (sym t.1)) (λ t. let a = t.0 in absurd (omega arith)) (longer-is xs ys)

  begins-longer : (zs xs ys : List I) → Begins zs xs → Begins zs ys → Begins zs (longer xs ys)
  begins-longer zs xs ys p q = ⊎_elim (λ t. subst (λ (l : List I). Begins zs l) (sym t.1) q) (λ t. subst (λ (l : List I). Begins zs l) (sym t.1) p) (longer-is xs ys)

or-true : (a b : Bool) → a || b ≡ true → (a ≡ true) ⊎ (b ≡ true)
or-true true b e = inl refl
or-true false b e = inr e

module _ {A : Type 0} where
  total-cut : (f : A → ℕ) (l : List A) (i : ℕ) (v a b : A) → get_elem? l i ≡ some v → f a + f b ≡ f v → total f (set l i a ++ b ∷ []) ≡ total f l
  total-cut f l i v a b at e = let p = total-set f l i v a at in let q = total-snoc f (set l i a) b in omega arith

  total-joined : (f : A → ℕ) (l : List A) (i j : ℕ) (v w a b : A) → get_elem? l i ≡ some v → get_elem? (set l i a) j ≡ some w → f a + f b ≡ f v + f w → total f (set (set l i a) j b) ≡ total f l
  total-joined f l i j v w a b at at' e = let p = total-set f l i v a at in let q = total-set f (set l i a) j w b at' in omega arith

  -- where all of g is one element's, and f is nothing where g is, all of f is its
  total-alone : (f g : A → ℕ) (l : List A) (i : ℕ) (v : A) → get_elem? l i ≡ some v → total g l ≡ g v → ((j : ℕ) (u : A) → get_elem? l j ≡ some u → g u ≡ 0 → f u ≡ 0) → total f l ≡ f v
  total-alone f g [] i v at e h = absurd (some-ne-none v (sym at))
  total-alone f g (x ∷ xs) zero v at e h =
      let fx : f x ≡ f v = ap f (some-injective x v at) in let gx : g x ≡ g v = ap g (some-injective x v at) in
      let rest : total f xs ≡ 0 = total-zero f xs (λ j u b. h (suc j) u b (let k = total-has g xs j u b in omega arith)) in omega arith
  total-alone f g (x ∷ xs) (suc i) v at e h =
      let k = total-has g xs i v at in let gx : g x ≡ 0 = omega arith in let fx = h 0 x refl gx in
      let r = total-alone f g xs i v at (omega arith) (λ j u b. h (suc j) u b) in omega arith

module _ {I T S : Type 0} (shown : S → Whole I T) (start : S) (seats : ℕ) where
  abbrev Holds : State (Option S) (View I T) → Type 0
  Holds = Ruled shown start seats

  abbrev Fit : ℕ → ℕ → Whole I T → View I T → Type 0
  Fit served drawn whole v = Fits served drawn whole ((shown start).items) seats ((shown start).terms) v

  only : (i : ℕ) (u : View I T) → get_elem? (opened shown start seats ∷ []) i ≡ some u → 1 ≤ seats → Fit 0 0 (shown start) u
  only zero u b some_seat = subst (Fit 0 0 (shown start)) (some-injective (opened shown start seats) u b)
      (record { front = begins-all ((shown start).items) ((shown start).items) refl; mine = tt; position = tt; stopped = λ h. h; spent = λ z. (refl, refl, refl); opening_is = λ _. refl; seats_is = λ _. refl; terms_is = λ _. refl })
  only (suc i) u b some_seat = absurd (some-ne-none u (sym b))

  pub opens : (count : ℕ) → count ≡ length ((shown start).items) → (shown start).outs ≡ [] → seats < 2 ^ 32 → 1 ≤ seats → Holds (opening (count ∷ 0 ∷ 0 ∷ []) (Some start ∷ []) (opened shown start seats))
  opens count is none_out few some_seat =
      let v : View I T = opened shown start seats in
      record {
        served = 0;
        drawn = 0;
        whole = shown start;
        terms_are = refl;
        words = ap (λ (n : ℕ). n ∷ 0 ∷ 0 ∷ []) is;
        line = refl;
        apart = λ t. omega arith;
        lies = inl (start, refl, refl, refl);
        each = λ i u b. only i u b some_seat;
        begun = begins-all ((shown start).items) ((shown start).items) refl;
        shares = omega arith;
        few = few;
        written = λ n. omega arith;
        owed = λ n. ap (times n) (sym none_out);
        distinct = λ n. let e : times n ((shown start).outs) ≡ 0 = ap (times n) none_out in omega arith;
      }

  pub cuts : (id : ℕ) (v : View I T) → v.position ≡ Out → 2 ≤ v.parts → Splits Holds id v (fewer v) (fresh v)
  cuts id v out two s r at =
      let fit = r.each id v at in
      let cut : (f : View I T → ℕ) → f (fewer v) + f (fresh v) ≡ f v → total f (set s.views id (fewer v) ++ fresh v ∷ []) ≡ total f s.views = λ f e. total-cut f s.views id v (fewer v) (fresh v) at e in
      record {
        served = r.served;
        drawn = r.drawn;
        whole = r.whole;
        terms_are = r.terms_are;
        words = r.words;
        line = r.line ∙ ap (λ (k : ℕ). r.served + k) (sym (cut drew (omega arith)));
        apart = λ t. subst (λ (k : ℕ). k ≤ 1) (sym (cut (has t) (omega arith))) (r.apart t);
        lies = subst (Lies shown r.whole s.homes) (sym (cut turn (omega arith))) r.lies;
        each = λ i u b. ⊎_elim
            (λ e. ⊎_elim
            (λ p. subst (Fit r.served r.drawn r.whole) p.1 (record { front = fit.front; mine = fit.mine; position = fit.position; stopped = fit.stopped; spent = λ z. absurd (omega arith); opening_is = λ _. fit.opening_is (omega arith); seats_is = λ _. fit.seats_is (omega arith); terms_is = λ _. fit.terms_is (omega arith) }))
            (λ p. r.each i u p.1)
            (at_set s.views id i (fewer v) u e))
            (λ e. subst (Fit r.served r.drawn r.whole) e (record { front = fit.front; mine = tt; position = tt; stopped = fit.stopped; spent = λ z. absurd (omega arith); opening_is = λ _. fit.opening_is (omega arith); seats_is = λ _. fit.seats_is (omega arith); terms_is = λ _. fit.terms_is (omega arith) }))
            (at_snoc (set s.views id (fewer v)) (fresh v) u i b);
        begun = r.begun;
        shares = cut parts (omega arith) ∙ r.shares;
        few = r.few;
        written = λ n. ap (λ (k : ℕ). k + under (length ((shown start).items)) n) (cut (wrote n) (omega arith)) ∙ r.written n;
        owed = λ n. cut (owing n) (omega arith) ∙ r.owed n;
        distinct = r.distinct;
      }

  pub glues : (id : ℕ) (v : View I T) (other : ℕ) (w : View I T) → v.position ≡ Out → w.position ≡ Out → 0 < v.parts → Joins Holds id v other w (merged v w) spent
  glues id v other w out out' some_part s r at ne at' =
      let a : View I T = merged v w in
      let fit = r.each id v at in
      let was : get_elem? s.views other ≡ some w = ⊎_elim (λ p. absurd (ne p.0)) (λ p. p.1) (at_set s.views id other a w at') in
      let fit' = r.each other w was in
      let joined : (f : View I T → ℕ) → f a + f spent ≡ f v + f w → total f (set (set s.views id a) other spent) ≡ total f s.views = λ f e. total-joined f s.views id other v w a spent at at' e in
      let none_drew : drew w ≡ 0 = ap (λ (g : Position). elim g as (λ _. ℕ) [ Out ↦ 0 | Waits k ↦ 1 | Inside k o ↦ 1 ]) out' in
      let none_turn : turn w ≡ 0 = ap (λ (g : Position). elim g as (λ _. ℕ) [ Out ↦ 0 | Waits k ↦ 0 | Inside k o ↦ 1 ]) out' in
      record {
        served = r.served;
        drawn = r.drawn;
        whole = r.whole;
        terms_are = r.terms_are;
        words = r.words;
        line = r.line ∙ ap (λ (k : ℕ). r.served + k) (sym (joined drew (omega arith)));
        apart = λ t. let none_has : has t w ≡ 0 = ap (λ (g : Position). elim g as (λ _. ℕ) [ Out ↦ 0 | Waits k ↦ same t k | Inside k o ↦ same t k ]) out' in subst (λ (k : ℕ). k ≤ 1) (sym (joined (has t) (omega arith))) (r.apart t);
        lies = subst (Lies shown r.whole s.homes) (sym (joined turn (omega arith))) r.lies;
        each = λ i u b. ⊎_elim
            (λ e. subst (Fit r.served r.drawn r.whole) e.1 (record { front = (r.whole.items, refl); mine = tt; position = tt; stopped = λ h. absurd (false≢true h); spent = λ _. (refl, refl, refl); opening_is = λ h. absurd (omega arith); seats_is = λ h. absurd (omega arith); terms_is = λ h. absurd (omega arith) }))
            (λ e. ⊎_elim
            (λ p. subst (Fit r.served r.drawn r.whole) p.1 (record {
              front = begins-longer r.whole.items v.front w.front fit.front fit'.front;
              mine = stand-append r.whole.items v.mine w.mine fit.mine fit'.mine;
              position = subst (FitsAt r.served r.drawn r.whole a) (sym out) tt;
              stopped = λ h. ⊎_elim fit.stopped fit'.stopped (or-true v.stopped w.stopped h);
              spent = λ z. absurd (omega arith);
              opening_is = λ _. fit.opening_is some_part;
              seats_is = λ _. fit.seats_is some_part;
              terms_is = λ _. fit.terms_is some_part;
            }))
            (λ p. r.each i u p.1)
            (at_set s.views id i a u e.1))
            (at_set (set s.views id a) other i spent u b);
        begun = r.begun;
        shares = joined parts (omega arith) ∙ r.shares;
        few = r.few;
        written = λ n. ap (λ (k : ℕ). k + under (length ((shown start).items)) n) (joined (wrote n) (let e = entries-append n v.mine w.mine in omega arith)) ∙ r.written n;
        owed = λ n. joined (owing n) (let e = times-append n v.owes w.owes in omega arith) ∙ r.owed n;
        distinct = r.distinct;
      }

  pub ends : (id : ℕ) (v : View I T) (ws : List ℕ) (xs : List (Option S)) → v.position ≡ Out → v.parts ≡ v.seats → 0 < v.parts → Final (Seen Holds id v) ws xs → (x : S) × (get_elem? xs 0 ≡ some (Some x)) × Ends shown v x
  ends id v ws xs out all some_part f =
      let s = f.0 in let r = f.1.0 in let at = f.1.1 in
      let fit = r.each id v at in
      let sum : total parts s.views ≡ v.parts = r.shares ∙ sym (fit.seats_is some_part) ∙ sym all in
      let none_turn : turn v ≡ 0 = ap (λ (g : Position). elim g as (λ _. ℕ) [ Out ↦ 0 | Waits k ↦ 0 | Inside k o ↦ 1 ]) out in
      let turns = total-alone turn parts s.views id v at sum (λ j u b z. ap (λ (g : Position). elim g as (λ _. ℕ) [ Out ↦ 0 | Waits k ↦ 0 | Inside k o ↦ 1 ]) ((r.each j u b).spent z).2) in
      let written : (n : ℕ) → total (wrote n) s.views ≡ entries n v.mine = λ n. total-alone (wrote n) parts s.views id v at sum (λ j u b z. ap (entries n) ((r.each j u b).spent z).0) in
      let owed : (n : ℕ) → total (owing n) s.views ≡ times n v.owes = λ n. total-alone (owing n) parts s.views id v at sum (λ j u b z. ap (times n) ((r.each j u b).spent z).1) in
      ⊎_elim
      (λ home. let x = home.0 in
      let same_items : (shown x).items ≡ r.whole.items = ap (λ (z : Whole I T). z.items) home.2 in
      let same_outs : (shown x).outs ≡ r.whole.outs = ap (λ (z : Whole I T). z.outs) home.2 in
      let same_stop : (shown x).stopped ≡ r.whole.stopped = ap (λ (z : Whole I T). z.stopped) home.2 in
      let numbers : (n : ℕ) → entries n v.mine + under (length v.opening) n ≡ under (length ((shown x).items)) n = λ n. let a = written n in let b = r.written n in
      let c : under (length v.opening) n ≡ under (length ((shown start).items)) n = ap (λ (l : List I). under (length l) n) (fit.opening_is some_part) in
      let d : under (length ((shown x).items)) n ≡ under (length r.whole.items) n = ap (λ (l : List I). under (length l) n) same_items in omega arith in (
        x,
        f.4 0 (Some x) (ap (λ (h : List (mathlib.Core.Option.Option (Option S))). get_elem? h 0) home.1),
        record {
          items_begin = subst (λ (l : List I). Begins l v.front) (sym same_items) fit.front;
          begun = subst (λ (z : List I × List I). Begins z.0 z.1) (λ i. (sym same_items i, sym (fit.opening_is some_part) i)) r.begun;
          once = λ n behind before. once-of n (length v.opening) (length ((shown x).items)) (entries n v.mine) (numbers n) behind before;
          no_other = λ n where_else. none-of n (length v.opening) (length ((shown x).items)) (entries n v.mine) (numbers n) where_else;
          stand = subst (λ (l : List I). Stand l v.mine) (sym same_items) fit.mine;
          owed = λ n. sym (owed n) ∙ r.owed n ∙ ap (times n) (sym same_outs);
          stopped_is = λ h. same_stop ∙ fit.stopped h;
          terms_is = fit.terms_is some_part ∙ ap (λ (t : T). Some t) (sym (ap (λ (z : Whole I T). z.terms) home.2 ∙ r.terms_are));
        },
      ))
      (λ away. absurd (let a = away.1 in omega arith))
      r.lies

  pub opens-at : (x : S) (xs : List (Option S)) (count : ℕ) → x ≡ start → xs ≡ Some start ∷ [] → count ≡ length ((shown start).items) → (shown start).outs ≡ [] → seats < 2 ^ 32 → 1 ≤ seats
      → Ruled shown x seats (opening (count ∷ 0 ∷ 0 ∷ []) xs (opened shown x seats))
  opens-at x xs count e f is none_out few some_seat =
      subst (λ (z : S × List (Option S)). Ruled shown z.0 seats (opening (count ∷ 0 ∷ 0 ∷ []) z.1 (opened shown z.0 seats))) (λ i. (sym e i, sym f i)) (opens count is none_out few some_seat)

  -- what was taken out at the end is the value
  pub ends-taken : (id : ℕ) (v : View I T) (ws : List ℕ) (xs : List (Option S)) (y : Option S) → v.position ≡ Out → v.parts ≡ v.seats → 0 < v.parts → Final (Seen Holds id v) ws xs → get_elem? xs 0 ≡ some y → (x : S) × (y ≡ Some x) × Ends shown v x
  ends-taken id v ws xs y out all some_part f got = let r = ends id v ws xs out all some_part f in (r.0, some-injective y (Some r.0) (sym got ∙ r.1), r.2)

module _ {I T S : Type 0} where
  pub joined-seen : (m : View I T × List (ℕ × Option S)) (v w : View I T) (l : List (ℕ × Option S)) (a b : ℕ) → a ≡ length v.front → b ≡ length w.front → m ≡ (merged v w, l) → a < b → b ≡ length m.0.front
  joined-seen m v w l a b p q e lt = q ∙ longer-second v.front w.front (omega arith) ∙ ap (λ (z : View I T × List (ℕ × Option S)). length z.0.front) (sym e)

  pub joined-seen-else : (m : View I T × List (ℕ × Option S)) (v w : View I T) (l : List (ℕ × Option S)) (a b : ℕ) → a ≡ length v.front → b ≡ length w.front → m ≡ (merged v w, l) → b ≤ a → a ≡ length m.0.front
  joined-seen-else m v w l a b p q e le = p ∙ longer-first v.front w.front (omega arith) ∙ ap (λ (z : View I T × List (ℕ × Option S)). length z.0.front) (sym e)

  pub joined-hand : (m : View I T × List (ℕ × Option S)) (v w : View I T) (l : List (ℕ × Option S)) → l ≡ hand v → m ≡ (merged v w, l) → m.1 ≡ hand m.0
  joined-hand m v w l h e = ap (λ (z : View I T × List (ℕ × Option S)). z.1) e ∙ h ∙ ap (λ (z : View I T × List (ℕ × Option S)). hand {S = S} z.0) (sym e)

  pub joined-parts : (m : View I T × List (ℕ × Option S)) (v w : View I T) (l : List (ℕ × Option S)) → 0 < v.parts → m ≡ (merged v w, l) → 0 < m.0.parts
  joined-parts m v w l h e = let p : m.0.parts ≡ v.parts + w.parts = ap (λ (z : View I T × List (ℕ × Option S)). z.0.parts) e in omega arith
