-- The codecs of values by their kinds, of options and of lists.
use Rattle.std.proofs.Common.{◌≡◌, ℕ, zero, suc, ◌^◌, ◌<◌, Bool, true, false, cond, eqb, List, [], ◌∷◌, ◌++◌, length, Option, Some, None, Result, Ok, Err, refl, sym, ap, subst, ◌∙◌, append_assoc, arith}
use Rattle.std.specs.Prelude.{IfSome}
use Rattle.std.specs.List.{flat_map, AllByRecursion}
use Rattle.std.proofs.lemmas.Bool.{eqb-true}
use Rattle.std.proofs.lemmas.List.Elements.{All-from_recursion, recursion_from_All}
use Rattle.byteorder.specs.Endian.{little_bytes}
use Rattle.hm_wire.specs.Input.{Input}
use Rattle.hm_wire.specs.Wire.{Takes}
use Rattle.hm_wire.specs.Laws.{IsBytes, then_takes}
use Rattle.hm_entry.specs.declared.fault.EntryFault.{EntryFault}
use Rattle.hm_entry.specs.declared.fault.EntryFault.TheVariants.{Field}
use Rattle.hm_entry.specs.Spelling.{byte, option, list}
use Rattle.hm_entry.specs.Fits.{AllFit}
use Rattle.hm_entry.specs.Reading.{◌>>=◌, ReaderOf, of_one, of_two, of_three, of_four, of_five, by_kind, option_of, option_at, items_at, list_at}
use Rattle.hm_entry.proofs.Codec.{IsCodec, Again, input, done, ok_is, bind_ok, first, takes_one, takes_two, takes_three, takes_four, takes_five, again_one}
use Rattle.hm_entry.proofs.FieldCodecs.{byte_codec, byte_again, u16_codec}

-- what is read after a kind is a value of that kind
pub record IsArm {R : Type 0} (kind : ℕ) (spell : R → List ℕ) (fits : R → Type 0) (i : Input) (read : Result (R × Input) EntryFault) : Type 0 where
  pub takes : (y : R × Input) → read ≡ Ok y → (text : List ℕ) × (spell y.0 ≡ byte kind ++ text) × Takes i text y.1 × fits y.0

pub no_arm : {R : Type 0} {kind : ℕ} {spell : R → List ℕ} {fits : R → Type 0} {i : Input} (e : EntryFault) → IsArm kind spell fits i (Err e)
no_arm e = record { takes = λ y is. absurd cc }

pub empty_arm : {R : Type 0} {kind : ℕ} {spell : R → List ℕ} {fits : R → Type 0} (i : Input) (v : R) → spell v ≡ byte kind ++ [] → fits v → IsArm kind spell fits i (Ok (v, i))
empty_arm {R} {kind = kind} {spell = spell} {fits = fits} i v spelled f = record {
  takes = λ y is.
      let e = ok_is (v, i) y is in
      let none : Takes i [] i = record { parts = refl; place = omega arith } in
      ([], ap (λ (p : R × Input). spell p.0) (sym e) ∙ spelled, subst (λ (p : R × Input). Takes i [] p.1) e none, subst (λ (p : R × Input). fits p.0) e f);
}

pub one_arm : {A R : Type 0} {kind : ℕ} {spell : R → List ℕ} {fits : R → Type 0} {a : ReaderOf A} {sa : A → List ℕ} {fa : A → Type 0} → IsCodec a sa fa
    → (make : A → R) → ((p : A) → fa p → (spell (make p) ≡ byte kind ++ sa p) × fits (make p))
    → (i : Input) → IsBytes i.rest → IsArm kind spell fits i (of_one make a i)
one_arm {spell = spell} {fits = fits} {sa = sa} ca make good i bytes = record {
  takes = λ y is.
      let t = takes_one ca make i y bytes is in
      let g = good t.0 t.3 in
      (sa t.0, ap spell (sym t.1) ∙ g.0, t.2, subst fits t.1 g.1);
}

pub two_arm : {A B R : Type 0} {kind : ℕ} {spell : R → List ℕ} {fits : R → Type 0} {a : ReaderOf A} {sa : A → List ℕ} {fa : A → Type 0} {b : ReaderOf B} {sb : B → List ℕ} {fb : B → Type 0} → IsCodec a sa fa → IsCodec b sb fb
    → (make : A → B → R) → ((p : A) (q : B) → fa p → fb q → (spell (make p q) ≡ byte kind ++ (sa p ++ sb q)) × fits (make p q))
    → (i : Input) → IsBytes i.rest → IsArm kind spell fits i (of_two make a b i)
two_arm {spell = spell} {fits = fits} {sa = sa} {sb = sb} ca cb make good i bytes = record {
  takes = λ y is.
      let t = takes_two ca cb make i y bytes is in
      let g = good t.0 t.1 t.4 t.5 in
      (sa t.0 ++ sb t.1, ap spell (sym t.2) ∙ g.0, t.3, subst fits t.2 g.1);
}

pub three_arm : {A B C R : Type 0} {kind : ℕ} {spell : R → List ℕ} {fits : R → Type 0} {a : ReaderOf A} {sa : A → List ℕ} {fa : A → Type 0} {b : ReaderOf B} {sb : B → List ℕ} {fb : B → Type 0} {c : ReaderOf C} {sc : C → List ℕ} {fc : C → Type 0} → IsCodec a sa fa → IsCodec b sb fb → IsCodec c sc fc
    → (make : A → B → C → R) → ((p : A) (q : B) (r : C) → fa p → fb q → fc r → (spell (make p q r) ≡ byte kind ++ (sa p ++ (sb q ++ sc r))) × fits (make p q r))
    → (i : Input) → IsBytes i.rest → IsArm kind spell fits i (of_three make a b c i)
three_arm {spell = spell} {fits = fits} {sa = sa} {sb = sb} {sc = sc} ca cb cc' make good i bytes = record {
  takes = λ y is.
      let t = takes_three ca cb cc' make i y bytes is in
      let g = good t.0 t.1 t.2 t.5 t.6 t.7 in
      (sa t.0 ++ (sb t.1 ++ sc t.2), ap spell (sym t.3) ∙ g.0, t.4, subst fits t.3 g.1);
}

pub four_arm : {A B C D R : Type 0} {kind : ℕ} {spell : R → List ℕ} {fits : R → Type 0} {a : ReaderOf A} {sa : A → List ℕ} {fa : A → Type 0} {b : ReaderOf B} {sb : B → List ℕ} {fb : B → Type 0} {c : ReaderOf C} {sc : C → List ℕ} {fc : C → Type 0} {d : ReaderOf D} {sd : D → List ℕ} {fd : D → Type 0} → IsCodec a sa fa → IsCodec b sb fb → IsCodec c sc fc → IsCodec d sd fd
    → (make : A → B → C → D → R) → ((p : A) (q : B) (r : C) (s : D) → fa p → fb q → fc r → fd s → (spell (make p q r s) ≡ byte kind ++ (sa p ++ (sb q ++ (sc r ++ sd s)))) × fits (make p q r s))
    → (i : Input) → IsBytes i.rest → IsArm kind spell fits i (of_four make a b c d i)
four_arm {spell = spell} {fits = fits} {sa = sa} {sb = sb} {sc = sc} {sd = sd} ca cb cc' cd make good i bytes = record {
  takes = λ y is.
      let t = takes_four ca cb cc' cd make i y bytes is in
      let g = good t.0 t.1 t.2 t.3 t.6 t.7 t.8 t.9 in
      (sa t.0 ++ (sb t.1 ++ (sc t.2 ++ sd t.3)), ap spell (sym t.4) ∙ g.0, t.5, subst fits t.4 g.1);
}

pub five_arm : {A B C D E R : Type 0} {kind : ℕ} {spell : R → List ℕ} {fits : R → Type 0} {a : ReaderOf A} {sa : A → List ℕ} {fa : A → Type 0} {b : ReaderOf B} {sb : B → List ℕ} {fb : B → Type 0} {c : ReaderOf C} {sc : C → List ℕ} {fc : C → Type 0} {d : ReaderOf D} {sd : D → List ℕ} {fd : D → Type 0} {e : ReaderOf E} {se : E → List ℕ} {fe : E → Type 0} → IsCodec a sa fa → IsCodec b sb fb → IsCodec c sc fc → IsCodec d sd fd → IsCodec e se fe
    → (make : A → B → C → D → E → R) → ((p : A) (q : B) (r : C) (s : D) (u : E) → fa p → fb q → fc r → fd s → fe u → (spell (make p q r s u) ≡ byte kind ++ (sa p ++ (sb q ++ (sc r ++ (sd s ++ se u))))) × fits (make p q r s u))
    → (i : Input) → IsBytes i.rest → IsArm kind spell fits i (of_five make a b c d e i)
five_arm {spell = spell} {fits = fits} {sa = sa} {sb = sb} {sc = sc} {sd = sd} {se = se} ca cb cc' cd ce make good i bytes = record {
  takes = λ y is.
      let t = takes_five ca cb cc' cd ce make i y bytes is in
      let g = good t.0 t.1 t.2 t.3 t.4 t.7 t.8 t.9 t.10 t.11 in
      (sa t.0 ++ (sb t.1 ++ (sc t.2 ++ (sd t.3 ++ se t.4))), ap spell (sym t.5) ∙ g.0, t.6, subst fits t.5 g.1);
}

decided : {R : Type 0} {spell : R → List ℕ} {fits : R → Type 0} {i : Input} (b : Bool) (kind n : ℕ) (x y : Result (R × Input) EntryFault) → (b ≡ true → kind ≡ n) → IsArm n spell fits i x → IsArm kind spell fits i y → IsArm kind spell fits i (cond b x y)
decided {spell = spell} {fits = fits} {i = i} true kind n x y same here others = subst (λ (k : ℕ). IsArm k spell fits i x) (sym (same refl)) here
decided false kind n x y same here others = others

-- a test on the kind
pub or_else : {R : Type 0} {spell : R → List ℕ} {fits : R → Type 0} {i : Input} (kind n : ℕ) {x y : Result (R × Input) EntryFault} → IsArm n spell fits i x → IsArm kind spell fits i y → IsArm kind spell fits i (cond (eqb kind n) x y)
or_else kind n {x} {y} here others = decided (eqb kind n) kind n x y (eqb-true kind n) here others

-- a value is read again by its kind
abbrev pub Chosen : {R : Type 0} → (ℕ → ℕ → ReaderOf R) → (R → List ℕ) → R → Type 0
Chosen fields spell v = (kind : ℕ) × (kind < 256) × (text : List ℕ) × (spell v ≡ byte kind ++ text) × ((place : ℕ) → Again (fields place kind) text v)

pub kind_codec : {R : Type 0} (fields : ℕ → ℕ → ReaderOf R) (spell : R → List ℕ) (fits : R → Type 0)
    → ((place kind : ℕ) (i : Input) → IsBytes i.rest → IsArm kind spell fits i (fields place kind i))
    → ((v : R) → fits v → Chosen fields spell v)
    → IsCodec (by_kind fields) spell fits
kind_codec {R} fields spell fits arms chosen = record {
  takes = λ i y bytes e.
      let x = first byte_codec (λ k. fields i.at k.0 k.1) i y bytes e in
      let t = (arms i.at x.0.0 x.0.1 x.3).takes y x.4 in
      (subst (λ (s : List ℕ). Takes i s y.1) (sym t.1) (then_takes i (byte x.0.0) x.0.1 t.0 y.1 x.1 t.2), t.3);
  again = λ v f at rest.
      let s = chosen v f in
      let b = byte_again s.0 s.1 at (s.2 ++ rest) in
      let w = s.4 at b.0 rest in (
        w.0,
        ap (λ (t : List ℕ). by_kind fields (input at (t ++ rest))) s.3
            ∙ ap (λ (r : Result (ℕ × Input) EntryFault). r >>= λ k. fields at k.0 k.1) b.1
            ∙ w.1,
      );
}

-- ---- options

pub option_codec : {A : Type 0} {read : ReaderOf A} {spell : A → List ℕ} {fits : A → Type 0} → IsCodec read spell fits → IsCodec (option_at read) (option spell) (λ o. IfSome o fits)
unfolding option_at
option_codec {A} {read = read} {spell = spell} {fits = fits} c = kind_codec (option_of read) (option spell) (λ o. IfSome o fits)
    (λ place kind i bytes. or_else kind 0 (empty_arm i None refl tt) (or_else kind 1 (one_arm c (λ x. Some x) (λ p f. (refl, f)) i bytes) (no_arm (Field place))))
    (chosen)
  where
    chosen : (o : Option A) → IfSome o fits → Chosen (option_of read) (option spell) o
    chosen None f = (0, omega arith, [], refl, λ place at rest. (at, refl))
    chosen (Some x) f = (1, omega arith, spell x, refl, λ place. again_one c (λ x. Some x) x f)

-- ---- lists

items_take : {A : Type 0} {read : ReaderOf A} {spell : A → List ℕ} {fits : A → Type 0} → IsCodec read spell fits
    → (n : ℕ) (i : Input) (y : List A × Input) → IsBytes i.rest → items_at read n i ≡ Ok y → Takes i (flat_map spell y.0) y.1 × (length y.0 ≡ n) × AllByRecursion fits y.0
unfolding items_at
items_take {A} {spell = spell} {fits = fits} c zero i y bytes e =
    let none : Takes i [] i = record { parts = refl; place = omega arith } in
    subst (λ (p : List A × Input). Takes i (flat_map spell p.0) p.1 × (length p.0 ≡ 0) × AllByRecursion fits p.0) (ok_is ([], i) y e) (none, refl, tt)
items_take {A} {read = read} {spell = spell} {fits = fits} c (suc n) i y bytes e =
    let x = first c (λ first. items_at read n first.1 >>= λ others. done (first.0 ∷ others.0, others.1)) i y bytes e in
    let b = bind_ok (items_at read n x.0.1) (λ others. done (x.0.0 ∷ others.0, others.1)) y x.4 in
    let t = items_take c n x.0.1 b.0 x.3 b.1 in
    let both = then_takes i (spell x.0.0) x.0.1 (flat_map spell b.0.0) b.0.1 x.1 t.0 in
    let made : List A × Input = (x.0.0 ∷ b.0.0, b.0.1) in
    subst (λ (p : List A × Input). Takes i (flat_map spell p.0) p.1 × (length p.0 ≡ suc n) × AllByRecursion fits p.0) (ok_is made y b.2) (both, ap suc t.1, (x.2, t.2))

items_again : {A : Type 0} {read : ReaderOf A} {spell : A → List ℕ} {fits : A → Type 0} → IsCodec read spell fits
    → (vs : List A) → AllByRecursion fits vs → Again (items_at read (length vs)) (flat_map spell vs) vs
unfolding items_at
items_again c [] f at rest = (at, refl)
items_again {A} {read = read} {spell = spell} c (v ∷ vs) f at rest =
    let x = c.again v f.0 at (flat_map spell vs ++ rest) in
    let y = items_again c vs f.1 x.0 rest in (
      y.0,
      ap (λ (t : List ℕ). items_at read (suc (length vs)) (input at t)) (append_assoc (spell v) (flat_map spell vs) rest)
          ∙ ap (λ (r : Result (A × Input) EntryFault). r >>= λ first. items_at read (length vs) first.1 >>= λ others. done (first.0 ∷ others.0, others.1)) x.1
          ∙ ap (λ (r : Result (List A × Input) EntryFault). r >>= λ others. done (v ∷ others.0, others.1)) y.1,
    )

pub list_codec : {A : Type 0} {read : ReaderOf A} {spell : A → List ℕ} {fits : A → Type 0} → IsCodec read spell fits → IsCodec (list_at read) (list spell) (AllFit fits)
unfolding list_at
list_codec {A} {read = read} {spell = spell} {fits = fits} c = record {
  takes = λ i y bytes e.
      let x = first u16_codec (λ n. items_at read n.0 n.1) i y bytes e in
      let t = items_take c x.0.0 x.0.1 y x.3 x.4 in
      let both = then_takes i (little_bytes 2 x.0.0) x.0.1 (flat_map spell y.0) y.1 x.1 t.0 in
      let few : length y.0 < 2 ^ 16 = omega (arith, t.1, x.2) in
      (subst (λ (n : ℕ). Takes i (little_bytes 2 n ++ flat_map spell y.0) y.1) (sym t.1) both, (few, All-from_recursion fits y.0 t.2));
  again = λ vs f at rest.
      let x = u16_codec.again (length vs) f.0 at (flat_map spell vs ++ rest) in
      let y = items_again c vs (recursion_from_All fits vs f.1) x.0 rest in (
        y.0,
        ap (λ (t : List ℕ). list_at read (input at t)) (append_assoc (little_bytes 2 (length vs)) (flat_map spell vs) rest)
            ∙ ap (λ (r : Result (ℕ × Input) EntryFault). r >>= λ n. items_at read n.0 n.1) x.1
            ∙ y.1,
      );
}
