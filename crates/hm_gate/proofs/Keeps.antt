-- Each step of the gate keeps its rule.
use Rattle.std.proofs.Common.{◌≡◌, suc, zero, ◌≢◌, ℕ, ◌+◌, ◌%◌, ◌^◌, ◌<◌, ◌≤◌, true, List, [], ◌∷◌, ◌++◌, length, drop, get_or, set, length-append, sym, refl, ap, subst, ◌∙◌, inl, inr, ⊎_elim, arith}
use Rattle.std.specs.Prelude.{Option, Some, None}
use mathlib.Core.Option.{none, some, some-injective, some-ne-none}
use mathlib.Core.Logic.{dite}
use native.Mathlib.Decide.{ℕ_discrete, dec_le}
use lib.ListN.{get_elem?}
use Rattle.atomic_table.specs.Table.{State, Me, Step, step, keeps, takes, gives, stepped, Allows}
use Rattle.atomic_table.proofs.Lists.{at_set, set_again, one_turn}
use Rattle.hm_gate.specs.declared.view.View.{View}
use Rattle.hm_gate.specs.declared.view.Position.{Position}
use Rattle.hm_gate.specs.declared.view.Position.TheVariants.{Out, Waits, Inside}
use Rattle.hm_gate.specs.Hand.{hand}
use Rattle.hm_gate.specs.Whole.{Whole}
use Rattle.hm_gate.specs.Total.{total, same, under, times}
use Rattle.hm_gate.specs.Gate.{Begins, Stand, FitsAt, Fits, Ruled, Lies, has, drew, turn, parts, wrote, owing}
use Rattle.hm_gate.specs.Plays.{Token, positioned, drew_one, looked, entered, May, raised, changed, went, repositioned, noted, added}
use Rattle.hm_gate.proofs.Prefixes.{begins-all, begins-trans, begins-drop, stand-longer, stand-append, stand-numbered}
use Rattle.hm_gate.proofs.Owed.{owed-after}
use Rattle.hm_gate.proofs.Totals.{total-set, total-kept, total-has, total-two, total-le, total-zero, total-add, same-cases, entries-append, entries-numbered}

one : (a b : ℕ) → b ≡ a → same a b ≡ 1
one a b e = ⊎_elim (λ t. t.1) (λ t. absurd (t.0 (sym e))) (same-cases a b)

lt-of-le : (a b : ℕ) → a ≤ b → a ≢ b → a + 1 ≤ b
lt-of-le a b le ne = dite (dec_le (a + 1) b) (λ h. h) (λ h. absurd (ne (omega arith)))

abbrev from-some : {S : Type 0} → S → Option S → S
from-some d None = d
from-some d (Some x) = x

pub some-one : {A : Type 0} (x y : A) → Some x ≡ Some y → x ≡ y
some-one {A = A} x y e = ap (λ (o : Option A). from-some x o) e

abbrev first-of : {S : Type 0} → S → List (ℕ × Option S) → Option S
first-of d [] = Some d
first-of d (x ∷ xs) = x.1

carried-one : {S : Type 0} (x y : S) → ◌≡◌ {A = List (ℕ × Option S)} ((0, Some x) ∷ []) ((0, Some y) ∷ []) → x ≡ y
carried-one {S = S} x y e = ap (λ (l : List (ℕ × Option S)). from-some x (first-of x l)) e

under-one : (b n : ℕ) → under b n ≤ 1
under-one zero n = omega arith
under-one (suc b) zero = omega arith
under-one (suc b) (suc n) = under-one b n

drew-one : (g : Position) → elim g as (λ _. ℕ) [ Out ↦ 0 | Waits k ↦ 1 | Inside k o ↦ 1 ] ≤ 1
drew-one Out = omega arith
drew-one (Waits t) = omega arith
drew-one (Inside t o) = omega arith

module _ {I T : Type 0} where
  -- one more ticket is drawn
  later : (served drawn : ℕ) (whole : Whole I T) (v : View I T) (g : Position) → FitsAt served drawn whole v g → FitsAt served (drawn + 1) whole v g
  later served drawn whole v Out p = tt
  later served drawn whole v (Waits t) p = let a = p.0 in let b = p.1 in (a, omega arith)
  later served drawn whole v (Inside t o) p = let b = p.1 in (p.0, omega arith, p.2, p.3, p.4)

  not-drawn : (served drawn : ℕ) (whole : Whole I T) (v : View I T) (g : Position) → FitsAt served drawn whole v g → elim g as (λ _. ℕ) [ Out ↦ 0 | Waits k ↦ same drawn k | Inside k o ↦ same drawn k ] ≡ 0
  not-drawn served drawn whole v Out p = refl
  not-drawn served drawn whole v (Waits t) p = let b = p.1 in ⊎_elim (λ q. let e = q.0 in omega arith) (λ q. q.1) (same-cases drawn t)
  not-drawn served drawn whole v (Inside t o) p = let a = p.0 in let b = p.1 in ⊎_elim (λ q. let e = q.0 in omega arith) (λ q. q.1) (same-cases drawn t)

  -- 1 where the view waits with the ticket t
  abbrev early : ℕ → View I T → ℕ
  early t v = elim v.position as (λ _. ℕ) [ Out ↦ 0 | Waits k ↦ same t k | Inside k o ↦ 0 ]

  turn-early : (served drawn : ℕ) (whole : Whole I T) (v : View I T) (g : Position) → FitsAt served drawn whole v g
      → elim g as (λ _. ℕ) [ Out ↦ 0 | Waits k ↦ 0 | Inside k o ↦ 1 ] + elim g as (λ _. ℕ) [ Out ↦ 0 | Waits k ↦ same served k | Inside k o ↦ 0 ] ≤ elim g as (λ _. ℕ) [ Out ↦ 0 | Waits k ↦ same served k | Inside k o ↦ same served k ]
  turn-early served drawn whole v Out p = omega arith
  turn-early served drawn whole v (Waits t) p = omega arith
  turn-early served drawn whole v (Inside t o) p = let e = one served t p.0 in omega arith

  drew-parts : (v : View I T) → (v.parts ≡ 0 → (v.mine ≡ []) × (v.owes ≡ []) × (v.position ≡ Out)) → drew v ≤ v.parts
  drew-parts v spent = dite (ℕ_discrete v.parts 0)
      (λ z. let e : drew v ≡ 0 = ap (λ (g : Position). elim g as (λ _. ℕ) [ Out ↦ 0 | Waits k ↦ 1 | Inside k o ↦ 1 ]) (spent z).2 in omega arith)
      (λ nz. let b = drew-one v.position in omega arith)

  unspent-drew : (v : View I T) → (v.parts ≡ 0 → (v.mine ≡ []) × (v.owes ≡ []) × (v.position ≡ Out)) → drew v ≡ 1 → 0 < v.parts
  unspent-drew v spent one = let le = drew-parts v spent in omega arith

  -- a view that doesn't have the turn says nothing of the value
  still-out : (served drawn : ℕ) (whole whole' : Whole I T) (v : View I T) (g : Position) → FitsAt served drawn whole v g → elim g as (λ _. ℕ) [ Out ↦ 0 | Waits k ↦ 0 | Inside k o ↦ 1 ] ≡ 0 → FitsAt served drawn whole' v g
  still-out served drawn whole whole' v Out p z = tt
  still-out served drawn whole whole' v (Waits t) p z = p
  still-out served drawn whole whole' v (Inside t o) p z = absurd (omega arith)

  -- the ticket that was served is given up
  served-one : (served drawn : ℕ) (whole : Whole I T) (v : View I T) (g : Position) → FitsAt served drawn whole v g → elim g as (λ _. ℕ) [ Out ↦ 0 | Waits k ↦ 0 | Inside k o ↦ 1 ] ≡ 0
      → elim g as (λ _. ℕ) [ Out ↦ 0 | Waits k ↦ same served k | Inside k o ↦ same served k ] ≡ 0 → FitsAt (served + 1) drawn whole v g
  served-one served drawn whole v Out p z h = tt
  served-one served drawn whole v (Waits t) p z h = let lo = p.0 in let hi = p.1 in ⊎_elim (λ e. let q = e.1 in absurd (omega arith)) (λ e. (lt-of-le served t lo e.0, hi)) (same-cases served t)
  served-one served drawn whole v (Inside t o) p z h = absurd (omega arith)

module _ {I T S : Type 0} (shown : S → Whole I T) (start : S) (seats : ℕ) where
  abbrev Holds : State (Option S) (View I T) → Type 0
  Holds = Ruled shown start seats

  abbrev Fit : ℕ → ℕ → Whole I T → View I T → Type 0
  Fit served drawn whole v = Fits served drawn whole ((shown start).items) seats ((shown start).terms) v

  pub draws : (slots id : ℕ) (me : Token I T S) → me.0.position ≡ Out → 0 < me.0.parts → Allows Holds slots id me 1 (λ n. (n + 1) % 2 ^ 64) (drew_one (step slots 1 1 0 none) me)
  draws slots id me out some_part s r _ at _ =
      let w : View I T = positioned me.0 (Waits r.drawn) in
      let v = me.0 in
      let fit = r.each id v at in
      let line : r.drawn ≡ r.served + total drew s.views = r.line in
      let none_drawn : drew v ≡ 0 = ap (λ (g : Position). elim g as (λ _. ℕ) [ Out ↦ 0 | Waits k ↦ 1 | Inside k o ↦ 1 ]) out in
      let none_turn : turn v ≡ 0 = ap (λ (g : Position). elim g as (λ _. ℕ) [ Out ↦ 0 | Waits k ↦ 0 | Inside k o ↦ 1 ]) out in
      let d = total-set drew s.views id v w at in (
        w,
        keeps,
        tt,
        record {
          served = r.served;
          drawn = r.drawn + 1;
          whole = r.whole;
          terms_are = r.terms_are;
          words = ap (λ (ws : List ℕ). set ws 1 ((get_or ws 1 0 + 1) % 2 ^ 64)) r.words ∙ ap (λ (n : ℕ). length r.whole.items ∷ n ∷ r.served % 2 ^ 64 ∷ []) (omega arith);
          line = omega arith;
          apart = λ t. let h = total-set (has t) s.views id v w at in let a = r.apart t in
              let q : has t v ≡ 0 = ap (λ (g : Position). elim g as (λ _. ℕ) [ Out ↦ 0 | Waits k ↦ same t k | Inside k o ↦ same t k ]) out in
              ⊎_elim
              (λ e. let z : total (has t) s.views ≡ 0 = subst (λ (k : ℕ). total (has k) s.views ≡ 0) (sym e.0) (total-zero (has r.drawn) s.views (λ i u b. not-drawn r.served r.drawn r.whole u u.position (r.each i u b).position)) in
              let one = e.1 in omega arith)
              (λ e. let one = e.1 in omega arith) (same-cases t r.drawn);
          lies = subst (Lies shown r.whole s.homes) (sym (total-kept turn s.views id v w at (sym none_turn))) r.lies;
          each = λ i u b. ⊎_elim
              (λ e. subst (Fit r.served (r.drawn + 1) r.whole) e.1 (record { front = fit.front; mine = fit.mine; position = (omega arith, omega arith); stopped = fit.stopped; spent = λ z. absurd (omega arith); opening_is = fit.opening_is; seats_is = fit.seats_is; terms_is = fit.terms_is }))
              (λ e. let f = r.each i u e.1 in record { front = f.front; mine = f.mine; position = later r.served r.drawn r.whole u u.position f.position; stopped = f.stopped; spent = f.spent; opening_is = f.opening_is; seats_is = f.seats_is; terms_is = f.terms_is })
              (at_set s.views id i w u b);
          begun = r.begun;
          shares = total-kept parts s.views id v w at refl ∙ r.shares;
          few = r.few;
          written = λ n. ap (λ (k : ℕ). k + under (length ((shown start).items)) n) (total-kept (wrote n) s.views id v w at refl) ∙ r.written n;
          owed = λ n. total-kept (owing n) s.views id v w at refl ∙ r.owed n;
          distinct = r.distinct;
        },
        (r.drawn, ap (λ (ws : List ℕ). get_or ws 1 0) r.words, refl),
      )

  unmoved : (s : State (Option S) (View I T)) (r : Holds s) (id : ℕ) (me : Token I T S) → get_elem? s.views id ≡ some me.0 → Holds (stepped s 2 (get_or s.words 2 0) id me.1 me.0 keeps)
  unmoved s r id me at =
      let same_words : set s.words 2 (get_or s.words 2 0) ≡ s.words = ap (λ (ws : List ℕ). set ws 2 (get_or ws 2 0)) r.words ∙ sym r.words in
      subst (λ (z : List ℕ × List (View I T)). Holds (record { words = z.0; homes = s.homes; views = z.1 })) (λ i. (sym same_words i, sym (set_again s.views id me.0 at) i)) r

  -- a seat whose ticket is served, and which waits, has its turn now: no other has it
  none-inside : (s : State (Option S) (View I T)) (r : Holds s) (id : ℕ) (v : View I T) (t : ℕ) → get_elem? s.views id ≡ some v → v.position ≡ Waits t → t ≡ r.served → total turn s.views ≡ 0
  none-inside s r id v t at waits is =
      let h = total-has (λ (u : View I T). early r.served u) s.views id v at in
      let e : early r.served v ≡ 1 = ap (λ (g : Position). elim g as (λ _. ℕ) [ Out ↦ 0 | Waits k ↦ same r.served k | Inside k o ↦ 0 ]) waits ∙ one r.served t is in
      let add = total-add turn (early r.served) s.views in
      let le = total-le (λ (u : View I T). turn u + early r.served u) (has r.served) s.views (λ i u b. turn-early r.served r.drawn r.whole u u.position (r.each i u b).position) in
      let a = r.apart r.served in omega arith

  -- the ticket of a seat that waits, where its number is served
  its-turn : (s : State (Option S) (View I T)) (r : Holds s) (id : ℕ) (v : View I T) (t : ℕ) → get_elem? s.views id ≡ some v → v.position ≡ Waits t → r.served % 2 ^ 64 ≡ t % 2 ^ 64 → t ≡ r.served
  its-turn s r id v t at waits is =
      let p : FitsAt r.served r.drawn r.whole v (Waits t) = subst (FitsAt r.served r.drawn r.whole v) waits (r.each id v at).position in
      let few = total-le drew parts s.views (λ i u b. drew-parts u (r.each i u b).spent) in
      let shares = r.shares in let small = r.few in let line = r.line in let lo = p.0 in let hi = p.1 in
      sym (one_turn r.served t (2 ^ 64) lo (omega arith) is)

  enters : (slots id : ℕ) (me : Token I T S) (t : ℕ) → me.0.position ≡ Waits t → me.1 ≡ [] → (s : State (Option S) (View I T)) (r : Holds s) → get_elem? s.views id ≡ some me.0 → t ≡ r.served
      → (x : S) → s.homes ≡ some (Some x) ∷ [] → shown x ≡ r.whole → total turn s.views ≡ 0
      → get_or s.words 2 0 ≡ t % 2 ^ 64 → ((k : ℕ) → me.0.position ≡ Waits k → k ≡ t)
      → (w : View I T) × (a : Rattle.atomic_table.specs.Table.Act (Option S)) × Rattle.atomic_table.specs.Table.Valid s.homes me.1 a × Holds (stepped s 2 (get_or s.words 2 0) id me.1 w a) × looked shown (step slots 2 0 0 none) me (get_or s.words 2 0) (w, Rattle.atomic_table.specs.Table.carried_after me.1 a)
  enters slots id me t waits empty s r at is x home whole none_turn hit same_t =
      let v = me.0 in
      let w : View I T = entered shown v t x in
      let fit = r.each id v at in
      let p : FitsAt r.served r.drawn r.whole v (Waits t) = subst (FitsAt r.served r.drawn r.whole v) waits fit.position in
      let same_items : (shown x).items ≡ r.whole.items = ap (λ (z : Whole I T). z.items) whole in
      let same_outs : (shown x).outs ≡ r.whole.outs = ap (λ (z : Whole I T). z.outs) whole in
      let same_stop : (shown x).stopped ≡ r.whole.stopped = ap (λ (z : Whole I T). z.stopped) whole in
      let words : set s.words 2 (get_or s.words 2 0) ≡ s.words = ap (λ (ws : List ℕ). set ws 2 (get_or ws 2 0)) r.words ∙ sym r.words in
      let was_turn : turn v ≡ 0 = ap (λ (g : Position). elim g as (λ _. ℕ) [ Out ↦ 0 | Waits k ↦ 0 | Inside k o ↦ 1 ]) waits in
      let was_drew : drew v ≡ 1 = ap (λ (g : Position). elim g as (λ _. ℕ) [ Out ↦ 0 | Waits k ↦ 1 | Inside k o ↦ 1 ]) waits in (
        w,
        takes 0 (Some x),
        ap (λ (h : List (mathlib.Core.Option.Option (Option S))). get_elem? h 0) home,
        record {
          served = r.served;
          drawn = r.drawn;
          whole = r.whole;
          terms_are = r.terms_are;
          words = words ∙ r.words;
          line = r.line ∙ ap (λ (k : ℕ). r.served + k) (sym (total-kept drew s.views id v w at (sym was_drew)));
          apart = λ k. subst (λ (n : ℕ). n ≤ 1) (sym (total-kept (has k) s.views id v w at (sym (ap (λ (g : Position). elim g as (λ _. ℕ) [ Out ↦ 0 | Waits l ↦ same k l | Inside l o ↦ same k l ]) waits)))) (r.apart k);
          lies = inr (ap (λ (h : List (mathlib.Core.Option.Option (Option S))). set h 0 none) home, (let q = total-set turn s.views id v w at in omega arith));
          each = λ i u b. ⊎_elim
              (λ e. subst (Fit r.served r.drawn r.whole) e.1 (record {
                front = begins-all r.whole.items ((shown x).items) (sym same_items);
                mine = fit.mine;
                position = (is, (let lo = p.0 in let hi = p.1 in omega arith), same_items, same_outs, same_stop);
                stopped = λ h. sym same_stop ∙ h;
                spent = λ z. let q : drew v ≡ 0 = ap (λ (g : Position). elim g as (λ _. ℕ) [ Out ↦ 0 | Waits k ↦ 1 | Inside k o ↦ 1 ]) (fit.spent z).2 in absurd (omega arith);
                opening_is = fit.opening_is;
                seats_is = fit.seats_is;
                terms_is = fit.terms_is;
              }))
              (λ e. r.each i u e.1)
              (at_set s.views id i w u b);
          begun = r.begun;
          shares = total-kept parts s.views id v w at refl ∙ r.shares;
          few = r.few;
          written = λ n. ap (λ (k : ℕ). k + under (length ((shown start).items)) n) (total-kept (wrote n) s.views id v w at refl) ∙ r.written n;
          owed = λ n. total-kept (owing n) s.views id v w at refl ∙ r.owed n;
          distinct = r.distinct;
        },
        λ k e. (
          (λ _. (
            x,
            record {
              items_begin = subst (λ (l : List I). Begins l v.front) (sym same_items) fit.front;
              stand = subst (λ (l : List I). Stand l v.mine) (sym same_items) fit.mine;
              once = λ n. let h = total-has (wrote n) s.views id v at in let a = r.written n in let b = under-one (length r.whole.items) n in omega arith;
              owed = λ n. let h = total-has (owing n) s.views id v at in let o = r.owed n in let q : times n ((shown x).outs) ≡ times n r.whole.outs = ap (times n) same_outs in omega arith;
              distinct = λ n. let d = r.distinct n in let q : times n ((shown x).outs) ≡ times n r.whole.outs = ap (times n) same_outs in omega arith;
              stopped_is = λ h. same_stop ∙ fit.stopped h;
              terms_is = fit.terms_is (unspent-drew v fit.spent was_drew) ∙ ap (λ (z : T). Some z) (sym (ap (λ (z : Whole I T). z.terms) whole ∙ r.terms_are));
            },
            (λ i. (entered shown v (sym (same_t k e) i) x, (0, Some x) ∷ empty i)),
          )),
          λ miss. absurd (miss (hit ∙ ap (λ (n : ℕ). n % 2 ^ 64) (sym (same_t k e)))),
        ),
      )

  pub looks : (slots id : ℕ) (me : Token I T S) (t : ℕ) → me.0.position ≡ Waits t → me.1 ≡ [] → Allows Holds slots id me 2 (λ n. n) (looked shown (step slots 2 0 0 none) me)
  looks slots id me t waits empty s r _ at _ = let v = me.0 in let x : ℕ = get_or s.words 2 0 in
      let found : x ≡ r.served % 2 ^ 64 = ap (λ (ws : List ℕ). get_or ws 2 0) r.words in
      let same_t : (k : ℕ) → v.position ≡ Waits k → k ≡ t = λ k e. ap (λ (g : Position). elim g as (λ _. ℕ) [ Out ↦ 0 | Waits k ↦ k | Inside k o ↦ k ]) (sym e ∙ waits) in
      dite (ℕ_discrete x (t % 2 ^ 64))
      (λ hit.
      let is : t ≡ r.served = its-turn s r id v t at waits (sym found ∙ hit) in
      let none_turn = none-inside s r id v t at waits is in
      ⊎_elim
      (λ home. enters slots id me t waits empty s r at is home.0 home.1 home.2 none_turn hit same_t)
      (λ away. absurd (let a = away.1 in omega arith))
      r.lies)
      (λ miss. (me.0, keeps, tt, unmoved s r id me at, λ k e. ((λ hit. absurd (miss (hit ∙ ap (λ (n : ℕ). n % 2 ^ 64) (same_t k e)))), λ _. refl)))

  one-turn-at-most : (s : State (Option S) (View I T)) (r : Holds s) → total turn s.views ≤ 1
  one-turn-at-most s r = ⊎_elim (λ home. let z = home.3 in omega arith) (λ away. let z = away.1 in omega arith) r.lies

  -- the ticket that is served is no other view's
  not-its : (s : State (Option S) (View I T)) (r : Holds s) (id : ℕ) (v : View I T) (t : ℕ) (o : List ℕ) → get_elem? s.views id ≡ some v → v.position ≡ Inside t o → t ≡ r.served
      → (i : ℕ) (u : View I T) → get_elem? s.views i ≡ some u → i ≢ id → has r.served u ≡ 0
  not-its s r id v t o at inside is i u b n =
      let two = total-two (has r.served) s.views id i v u at b n in let most = r.apart r.served in
      let e : has r.served v ≡ 1 = ap (λ (g : Position). elim g as (λ _. ℕ) [ Out ↦ 0 | Waits k ↦ same r.served k | Inside k o ↦ same r.served k ]) inside ∙ one r.served t is in omega arith

  -- the other views don't have the turn
  others-out : (s : State (Option S) (View I T)) (r : Holds s) (id : ℕ) (v : View I T) → get_elem? s.views id ≡ some v → turn v ≡ 1 → (i : ℕ) (u : View I T) → get_elem? s.views i ≡ some u → i ≢ id → turn u ≡ 0
  others-out s r id v at on i u b n = let two = total-two turn s.views id i v u at b n in let most = one-turn-at-most s r in omega arith

  -- the slot is out with the one view that has the turn
  is-away : (s : State (Option S) (View I T)) (r : Holds s) (id : ℕ) (v : View I T) → get_elem? s.views id ≡ some v → turn v ≡ 1 → (s.homes ≡ none ∷ []) × (total turn s.views ≡ 1)
  is-away s r id v at on = let h = total-has turn s.views id v at in ⊎_elim (λ home. absurd (let z = home.3 in omega arith)) (λ away. away) r.lies

  pub raises : (slots id : ℕ) (me : Token I T S) (t count : ℕ) (x : S) (o : List ℕ) → me.0.position ≡ Inside t o → me.1 ≡ (0, Some x) ∷ [] → count ≡ length ((shown x).items)
      → May shown me.0 x
      → Allows Holds slots id me 0 (λ _. count) (λ _. raised shown (step slots 0 count 0 none) me count)
  raises slots id me t count x o inside carries count_is may s r _ at _ =
      let v = me.0 in
      let w : View I T = changed shown v x in
      let fit = r.each id v at in
      let p : FitsAt r.served r.drawn r.whole v (Inside t o) = subst (FitsAt r.served r.drawn r.whole v) inside fit.position in
      let whole : Whole I T = shown x in
      let now_turn : turn v ≡ 1 = ap (λ (g : Position). elim g as (λ _. ℕ) [ Out ↦ 0 | Waits k ↦ 0 | Inside k o ↦ 1 ]) inside in
      let now_drew : drew v ≡ 1 = ap (λ (g : Position). elim g as (λ _. ℕ) [ Out ↦ 0 | Waits k ↦ 1 | Inside k o ↦ 1 ]) inside in
      let new_position : w.position ≡ Inside t ((shown x).outs) = ap (λ (g : Position). repositioned ((shown x).outs) g) inside in
      let is_noted : noted v ≡ o = ap (λ (g : Position). elim g as (λ _. List ℕ) [ Out ↦ [] | Waits k ↦ [] | Inside k o ↦ o ]) inside in
      let grown : (shown x).items ≡ v.front ++ drop (length v.front) ((shown x).items) = begins-drop ((shown x).items) v.front may.items_begin in
      let from : Begins ((shown x).items) r.whole.items = (drop (length v.front) ((shown x).items), grown ∙ ap (λ (l : List I). l ++ drop (length v.front) ((shown x).items)) p.2) in
      let same_drew : drew w ≡ drew v = ap (λ (g : Position). elim g as (λ _. ℕ) [ Out ↦ 0 | Waits k ↦ 1 | Inside k o ↦ 1 ]) new_position ∙ sym now_drew in
      let same_turn : turn w ≡ turn v = ap (λ (g : Position). elim g as (λ _. ℕ) [ Out ↦ 0 | Waits k ↦ 0 | Inside k o ↦ 1 ]) new_position ∙ sym now_turn in
      let away = is-away s r id v at now_turn in
      let stands_old : (m : List (ℕ × I)) → Stand r.whole.items m → Stand ((shown x).items) m = λ m h. subst (λ (l : List I). Stand l m) (sym from.1) (stand-longer r.whole.items from.0 m h) in
      let stop_up : r.whole.stopped ≡ true → (shown x).stopped ≡ true = λ h. may.stopped_is (p.4 ∙ h) in (
        w,
        keeps,
        tt,
        record {
          served = r.served;
          drawn = r.drawn;
          whole = whole;
          terms_are = some-one (shown x).terms (shown start).terms (sym may.terms_is ∙ fit.terms_is (unspent-drew v fit.spent now_drew));
          words = ap (λ (ws : List ℕ). set ws 0 count) r.words ∙ ap (λ (n : ℕ). n ∷ r.drawn % 2 ^ 64 ∷ r.served % 2 ^ 64 ∷ []) count_is;
          line = r.line ∙ ap (λ (k : ℕ). r.served + k) (sym (total-kept drew s.views id v w at same_drew));
          apart = λ k. subst (λ (n : ℕ). n ≤ 1) (sym (total-kept (has k) s.views id v w at (ap (λ (g : Position). elim g as (λ _. ℕ) [ Out ↦ 0 | Waits l ↦ same k l | Inside l o ↦ same k l ]) new_position ∙ sym (ap (λ (g : Position). elim g as (λ _. ℕ) [ Out ↦ 0 | Waits l ↦ same k l | Inside l o ↦ same k l ]) inside)))) (r.apart k);
          lies = inr (away.0, total-kept turn s.views id v w at same_turn ∙ away.1);
          each = λ i u b. ⊎_elim
              (λ e. subst (Fit r.served r.drawn whole) e.1 (record {
                front = begins-all ((shown x).items) ((shown x).items) refl;
                mine = stand-append ((shown x).items) v.mine (added shown v x) (stands_old v.mine fit.mine) (subst (λ (l : List I). Stand l (added shown v x)) (sym grown) (stand-numbered v.front (drop (length v.front) ((shown x).items))));
                position = subst (FitsAt r.served r.drawn whole w) (sym new_position) (p.0, p.1, refl, refl, refl);
                stopped = λ h. h;
                spent = λ z. let q : drew v ≡ 0 = ap (λ (g : Position). elim g as (λ _. ℕ) [ Out ↦ 0 | Waits k ↦ 1 | Inside k o ↦ 1 ]) (fit.spent z).2 in absurd (omega arith);
                opening_is = fit.opening_is;
                seats_is = fit.seats_is;
                terms_is = fit.terms_is;
              }))
              (λ e. let f = r.each i u e.1 in record {
                front = begins-trans ((shown x).items) r.whole.items u.front from f.front;
                mine = stands_old u.mine f.mine;
                position = still-out r.served r.drawn r.whole whole u u.position f.position (others-out s r id v at now_turn i u e.1 e.0);
                stopped = λ h. stop_up (f.stopped h);
                spent = f.spent;
                opening_is = f.opening_is;
                seats_is = f.seats_is;
                terms_is = f.terms_is;
              })
              (at_set s.views id i w u b);
          begun = begins-trans ((shown x).items) r.whole.items ((shown start).items) from r.begun;
          shares = total-kept parts s.views id v w at refl ∙ r.shares;
          few = r.few;
          written = λ n. let h = total-set (wrote n) s.views id v w at in let was = r.written n in
              let a = entries-append n v.mine (added shown v x) in
              let b = entries-numbered n (length v.front) (drop (length v.front) ((shown x).items)) in
              let l : under (length v.front) n ≡ under (length r.whole.items) n = ap (λ (z : List I). under (length z) n) p.2 in
              let m : under (length v.front + length (drop (length v.front) ((shown x).items))) n ≡ under (length ((shown x).items)) n = ap (λ (k : ℕ). under k n) (sym (length-append v.front (drop (length v.front) ((shown x).items))) ∙ ap (λ (z : List I). length z) (sym grown)) in
              omega arith;
          owed = λ n. let h = total-set (owing n) s.views id v w at in let was = r.owed n in let most = r.distinct n in
              let same_outs : times n o ≡ times n r.whole.outs = ap (times n) p.3 in
              let note : times n (noted v) ≡ times n o = ap (times n) is_noted in
              owed-after n (total (owing n) s.views) (total (owing n) (set s.views id w)) v.owes (noted v) ((shown x).outs) (omega arith) (omega arith) (may.distinct n) (total-has (owing n) s.views id v at) (may.gone n) (omega arith);
          distinct = may.distinct;
        },
        λ y e. (λ i. (changed shown v (carried-one x y (sym carries ∙ e) i), me.1)),
      )

  pub advances : (slots id : ℕ) (me : Token I T S) (t : ℕ) (x : S) → me.0.position ≡ Inside t ((shown x).outs) → me.1 ≡ (0, Some x) ∷ [] → me.0.front ≡ (shown x).items → me.0.stopped ≡ (shown x).stopped → me.0.terms ≡ Some ((shown x).terms)
      → Allows Holds slots id me 2 (λ n. (n + 1) % 2 ^ 64) (went (step slots 2 1 0 none) me)
  advances slots id me t x inside carries front_is stopped_is terms_is s r _ at _ =
      let v = me.0 in
      let w : View I T = positioned v Out in
      let fit = r.each id v at in
      let p : FitsAt r.served r.drawn r.whole v (Inside t ((shown x).outs)) = subst (FitsAt r.served r.drawn r.whole v) inside fit.position in
      let now_turn : turn v ≡ 1 = ap (λ (g : Position). elim g as (λ _. ℕ) [ Out ↦ 0 | Waits k ↦ 0 | Inside k o ↦ 1 ]) inside in
      let now_drew : drew v ≡ 1 = ap (λ (g : Position). elim g as (λ _. ℕ) [ Out ↦ 0 | Waits k ↦ 1 | Inside k o ↦ 1 ]) inside in
      let away = is-away s r id v at now_turn in
      let d = total-set drew s.views id v w at in
      let n = total-set turn s.views id v w at in
      let line = r.line in (
        w,
        gives,
        tt,
        record {
          served = r.served + 1;
          drawn = r.drawn;
          whole = r.whole;
          terms_are = r.terms_are;
          words = ap (λ (ws : List ℕ). set ws 2 ((get_or ws 2 0 + 1) % 2 ^ 64)) r.words ∙ ap (λ (k : ℕ). length r.whole.items ∷ r.drawn % 2 ^ 64 ∷ k ∷ []) (omega arith);
          line = omega arith;
          apart = λ k. let h = total-set (has k) s.views id v w at in let a = r.apart k in omega arith;
          lies = inl (
            x,
            ap (λ (z : List (mathlib.Core.Option.Option (Option S)) × List (ℕ × Option S)). Rattle.atomic_table.specs.Table.put_back z.0 z.1) (λ i. (away.0 i, carries i)),
            (λ i. record { items = (sym front_is ∙ p.2) i; outs = p.3 i; stopped = (sym stopped_is ∙ p.4) i; terms = (some-one (shown x).terms (shown start).terms (sym terms_is ∙ fit.terms_is (unspent-drew v fit.spent now_drew)) ∙ sym r.terms_are) i }),
            (let z = away.1 in omega arith),
          );
          each = λ i u b. ⊎_elim
              (λ e. subst (Fit (r.served + 1) r.drawn r.whole) e.1 (record { front = fit.front; mine = fit.mine; position = tt; stopped = fit.stopped; spent = λ z. let q = fit.spent z in (q.0, q.1, refl); opening_is = fit.opening_is; seats_is = fit.seats_is; terms_is = fit.terms_is }))
              (λ e. let f = r.each i u e.1 in record {
                front = f.front;
                mine = f.mine;
                position = served-one r.served r.drawn r.whole u u.position f.position (others-out s r id v at now_turn i u e.1 e.0) (not-its s r id v t ((shown x).outs) at inside p.0 i u e.1 e.0);
                stopped = f.stopped;
                spent = f.spent;
                opening_is = f.opening_is;
                seats_is = f.seats_is;
                terms_is = f.terms_is;
              })
              (at_set s.views id i w u b);
          begun = r.begun;
          shares = total-kept parts s.views id v w at refl ∙ r.shares;
          few = r.few;
          written = λ k. ap (λ (m : ℕ). m + under (length ((shown start).items)) k) (total-kept (wrote k) s.views id v w at refl) ∙ r.written k;
          owed = λ k. total-kept (owing k) s.views id v w at refl ∙ r.owed k;
          distinct = r.distinct;
        },
        (λ i. (w, Rattle.atomic_table.specs.Table.rest (carries i))),
      )

module _ {I T S : Type 0} where
  pub hand-out : (v : View I T) → v.position ≡ Out → hand {S = S} v ≡ []
  hand-out v out = ap (λ (g : Position). elim g as (λ _. List (ℕ × Option S)) [ Out ↦ [] | Waits k ↦ [] | Inside k o ↦ (0, None) ∷ [] ]) out

module _ {S : Type 0} where
  -- one slot in hand
  pub in-hand : (l : List (ℕ × Option S)) (x : Option S) → l ≡ (0, x) ∷ [] → l ≡ (0, x) ∷ Rattle.atomic_table.specs.Table.rest l
  in-hand l x e = e ∙ ap (λ (m : List (ℕ × Option S)). (0, x) ∷ Rattle.atomic_table.specs.Table.rest m) (sym e)

module _ {I T S : Type 0} where
  pub hand-waits : (v : View I T) (t : ℕ) → v.position ≡ Waits t → hand {S = S} v ≡ []
  hand-waits v t waits = ap (λ (g : Position). elim g as (λ _. List (ℕ × Option S)) [ Out ↦ [] | Waits k ↦ [] | Inside k o ↦ (0, None) ∷ [] ]) waits

  pub hand-inside : (v : View I T) (t : ℕ) (o : List ℕ) → v.position ≡ Inside t o → hand {S = S} v ≡ (0, None) ∷ []
  hand-inside v t o inside = ap (λ (g : Position). elim g as (λ _. List (ℕ × Option S)) [ Out ↦ [] | Waits k ↦ [] | Inside k o ↦ (0, None) ∷ [] ]) inside

  -- what lies in hand after the value was put back
  pub put-in : (m : Token I T S) (v : View I T) (l : List (ℕ × Option S)) (t : ℕ) (o : List ℕ) (x : S) → v.position ≡ Inside t o → l ≡ hand v → m ≡ (v, (0, Some x) ∷ Rattle.atomic_table.specs.Table.rest l) → m ≡ (v, (0, Some x) ∷ [])
  put-in m v l t o x inside handed e = e ∙ ap (λ (z : List (ℕ × Option S)). (v, (0, Some x) ∷ Rattle.atomic_table.specs.Table.rest z)) (handed ∙ hand-inside v t o inside)

module _ {I T S : Type 0} (shown : S → Whole I T) (start : S) (seats : ℕ) where
  pub raises-from : (slots id : ℕ) (me : Token I T S) (v : View I T) (t count : ℕ) (x : S) (o : List ℕ) → me ≡ (v, (0, Some x) ∷ []) → v.position ≡ Inside t o → count ≡ length ((shown x).items) → May shown v x
      → Allows (Ruled shown start seats) slots id me 0 (λ _. count) (λ _. raised shown (step slots 0 count 0 none) me count)
  raises-from slots id me v t count x o e inside count_is may =
      raises shown start seats slots id me t count x o (ap (λ (m : Token I T S). m.0.position) e ∙ inside) (ap (λ (m : Token I T S). m.1) e) count_is (subst (λ (u : View I T). May shown u x) (sym (ap (λ (m : Token I T S). m.0) e)) may)

  pub advances-from : (slots id : ℕ) (me : Token I T S) (v : View I T) (t : ℕ) (x : S) (o : List ℕ) → me ≡ (changed shown v x, (0, Some x) ∷ []) → v.position ≡ Inside t o → v.terms ≡ Some ((shown x).terms)
      → Allows (Ruled shown start seats) slots id me 2 (λ n. (n + 1) % 2 ^ 64) (went (step slots 2 1 0 none) me)
  advances-from slots id me v t x o e inside terms_is =
      advances shown start seats slots id me t x (ap (λ (m : Token I T S). m.0.position) e ∙ ap (λ (g : Position). repositioned ((shown x).outs) g) inside) (ap (λ (m : Token I T S). m.1) e) (ap (λ (m : Token I T S). m.0.front) e) (ap (λ (m : Token I T S). m.0.stopped) e) (ap (λ (m : Token I T S). m.0.terms) e ∙ terms_is)

  pub advances-after : (slots id : ℕ) (me before : Token I T S) (v : View I T) (t : ℕ) (x : S) (o : List ℕ) → before ≡ (v, (0, Some x) ∷ []) → ((y : S) → before.1 ≡ (0, Some y) ∷ [] → me ≡ (changed shown before.0 y, before.1))
      → v.position ≡ Inside t o → v.terms ≡ Some ((shown x).terms) → Allows (Ruled shown start seats) slots id me 2 (λ n. (n + 1) % 2 ^ 64) (went (step slots 2 1 0 none) me)
  advances-after slots id me before v t x o e told inside terms_is =
      advances-from slots id me v t x o (told x (ap (λ (m : Token I T S). m.1) e) ∙ ap (λ (m : Token I T S). (changed shown m.0 x, m.1)) e) inside terms_is
