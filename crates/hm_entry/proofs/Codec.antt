-- A codec: what is read is spelled so, and what is spelled so is read.
use Rattle.std.proofs.Common.{◌≡◌, ℕ, List, ◌++◌, Result, Ok, Err, refl, sym, ap, subst, ◌∙◌, append_assoc}
use Rattle.hm_wire.specs.Input.{Input}
use Rattle.hm_wire.specs.Wire.{Takes}
use Rattle.hm_wire.specs.Laws.{IsBytes, taken_fits, then_takes}
use Rattle.hm_entry.specs.declared.fault.EntryFault.{EntryFault}
use Rattle.hm_entry.specs.Reading.{◌>>=◌, ReaderOf, of_one, of_two, of_three, of_four, of_five}

abbrev pub input : ℕ → List ℕ → Input
input at rest = record { at = at; rest = rest }

abbrev pub done : {A : Type 0} → A → Result A EntryFault
done x = Ok x

-- the text in front is read as the value, whatever follows
abbrev pub Again : {A : Type 0} → ReaderOf A → List ℕ → A → Type 0
Again read text v = (at : ℕ) (rest : List ℕ) → (next : ℕ) × (read (input at (text ++ rest)) ≡ Ok (v, input next rest))

-- the reader reads what is spelled so, for the values that fit, and nothing else
pub record IsCodec {A : Type 0} (read : ReaderOf A) (spell : A → List ℕ) (fits : A → Type 0) : Type 0 where
  pub takes : (i : Input) (x : A × Input) → IsBytes i.rest → read i ≡ Ok x → Takes i (spell x.0) x.1 × fits x.0
  pub again : (v : A) → fits v → Again read (spell v) v

pub ok_is : {A : Type 0} (x y : A) → done x ≡ done y → x ≡ y
ok_is x y e = cc

-- the value of a step that did not fail
pub bind_ok : {A B : Type 0} (r : Result A EntryFault) (f : A → Result B EntryFault) (y : B) → (r >>= f) ≡ Ok y → (x : A) × (r ≡ Ok x) × (f x ≡ Ok y)
bind_ok (Ok x) f y e = (x, refl, e)
bind_ok (Err d) f y e = absurd cc

-- a field in front of others: its value, what it took, and what is read after it
pub first : {A R : Type 0} {read : ReaderOf A} {spell : A → List ℕ} {fits : A → Type 0} → IsCodec read spell fits
    → (f : A × Input → Result (R × Input) EntryFault) (i : Input) (y : R × Input) → IsBytes i.rest → (read i >>= f) ≡ Ok y
    → (x : A × Input) × Takes i (spell x.0) x.1 × fits x.0 × IsBytes x.1.rest × (f x ≡ Ok y)
first {read = read} {spell = spell} c f i y bytes e =
    let b = bind_ok (read i) f y e in
    let t = c.takes i b.0 bytes b.1 in
    (b.0, t.0, t.1, (taken_fits i (spell b.0.0) b.0.1 bytes t.0).1, b.2)

-- ---- values of some fields: what they took

pub takes_one : {A R : Type 0} {a : ReaderOf A} {sa : A → List ℕ} {fa : A → Type 0} → IsCodec a sa fa
    → (make : A → R) (i : Input) (y : R × Input) → IsBytes i.rest → of_one make a i ≡ Ok y
    → (p : A) × (make p ≡ y.0) × Takes i (sa p) y.1 × fa p
takes_one {R = R} {sa = sa} ca make i y bytes e =
    let x = first ca (λ x. done (make x.0, x.1)) i y bytes e in
    let made : R × Input = (make x.0.0, x.0.1) in
    let is = ok_is made y x.4 in
    (x.0.0, ap (λ (p : R × Input). p.0) is, subst (λ (p : R × Input). Takes i (sa x.0.0) p.1) is x.1, x.2)

pub takes_two : {A B R : Type 0} {a : ReaderOf A} {sa : A → List ℕ} {fa : A → Type 0} {b : ReaderOf B} {sb : B → List ℕ} {fb : B → Type 0} → IsCodec a sa fa → IsCodec b sb fb
    → (make : A → B → R) (i : Input) (y : R × Input) → IsBytes i.rest → of_two make a b i ≡ Ok y
    → (p : A) × (q : B) × (make p q ≡ y.0) × Takes i (sa p ++ sb q) y.1 × fa p × fb q
takes_two {R = R} {sa = sa} {b = b} {sb = sb} ca cb make i y bytes e =
    let x = first ca (λ x. b x.1 >>= λ y. done (make x.0 y.0, y.1)) i y bytes e in
    let z = takes_one cb (λ q. make x.0.0 q) x.0.1 y x.3 x.4 in
    (x.0.0, z.0, z.1, then_takes i (sa x.0.0) x.0.1 (sb z.0) y.1 x.1 z.2, x.2, z.3)

pub takes_three : {A B C R : Type 0} {a : ReaderOf A} {sa : A → List ℕ} {fa : A → Type 0} {b : ReaderOf B} {sb : B → List ℕ} {fb : B → Type 0} {c : ReaderOf C} {sc : C → List ℕ} {fc : C → Type 0} → IsCodec a sa fa → IsCodec b sb fb → IsCodec c sc fc
    → (make : A → B → C → R) (i : Input) (y : R × Input) → IsBytes i.rest → of_three make a b c i ≡ Ok y
    → (p : A) × (q : B) × (r : C) × (make p q r ≡ y.0) × Takes i (sa p ++ (sb q ++ sc r)) y.1 × fa p × fb q × fc r
takes_three {sa = sa} {b = b} {sb = sb} {c = c} {sc = sc} ca cb cc' make i y bytes e =
    let x = first ca (λ x. b x.1 >>= λ y. c y.1 >>= λ z. done (make x.0 y.0 z.0, z.1)) i y bytes e in
    let z = takes_two cb cc' (λ q r. make x.0.0 q r) x.0.1 y x.3 x.4 in
    (x.0.0, z.0, z.1, z.2, then_takes i (sa x.0.0) x.0.1 (sb z.0 ++ sc z.1) y.1 x.1 z.3, x.2, z.4, z.5)

-- ---- values of some fields: they are read again

pub again_one : {A R : Type 0} {a : ReaderOf A} {sa : A → List ℕ} {fa : A → Type 0} → IsCodec a sa fa
    → (make : A → R) (p : A) → fa p → Again (of_one make a) (sa p) (make p)
again_one {A} {R} {a = a} ca make p fp at rest =
    let x = ca.again p fp at rest in
    (x.0, ap (λ (r : Result (A × Input) EntryFault). r >>= λ x. done (make x.0, x.1)) x.1)

pub again_two : {A B R : Type 0} {a : ReaderOf A} {sa : A → List ℕ} {fa : A → Type 0} {b : ReaderOf B} {sb : B → List ℕ} {fb : B → Type 0} → IsCodec a sa fa → IsCodec b sb fb
    → (make : A → B → R) (p : A) (q : B) → fa p → fb q → Again (of_two make a b) (sa p ++ sb q) (make p q)
again_two {A} {B} {R} {a = a} {sa = sa} {b = b} {sb = sb} ca cb make p q fp fq at rest =
    let x = ca.again p fp at (sb q ++ rest) in
    let y = again_one cb (λ q. make p q) q fq x.0 rest in (
      y.0,
      ap (λ (t : List ℕ). of_two make a b (input at t)) (append_assoc (sa p) (sb q) rest)
          ∙ ap (λ (r : Result (A × Input) EntryFault). r >>= λ x. b x.1 >>= λ y. done (make x.0 y.0, y.1)) x.1
          ∙ y.1,
    )

pub again_three : {A B C R : Type 0} {a : ReaderOf A} {sa : A → List ℕ} {fa : A → Type 0} {b : ReaderOf B} {sb : B → List ℕ} {fb : B → Type 0} {c : ReaderOf C} {sc : C → List ℕ} {fc : C → Type 0} → IsCodec a sa fa → IsCodec b sb fb → IsCodec c sc fc
    → (make : A → B → C → R) (p : A) (q : B) (r : C) → fa p → fb q → fc r → Again (of_three make a b c) (sa p ++ (sb q ++ sc r)) (make p q r)
again_three {A} {B} {C} {R} {a = a} {sa = sa} {b = b} {sb = sb} {c = c} {sc = sc} ca cb cc' make p q r fp fq fr at rest =
    let x = ca.again p fp at ((sb q ++ sc r) ++ rest) in
    let y = again_two cb cc' (λ q r. make p q r) q r fq fr x.0 rest in (
      y.0,
      ap (λ (t : List ℕ). of_three make a b c (input at t)) (append_assoc (sa p) (sb q ++ sc r) rest)
          ∙ ap (λ (r : Result (A × Input) EntryFault). r >>= λ x. b x.1 >>= λ y. c y.1 >>= λ z. done (make x.0 y.0 z.0, z.1)) x.1
          ∙ y.1,
    )

-- ---- codecs of such values

-- a value that is read from its text again, whatever its parts are called
moved : {R : Type 0} (read : ReaderOf R) (spell : R → List ℕ) (text : List ℕ) (made v : R) → made ≡ v → spell made ≡ text → Again read text made → Again read (spell v) v
moved {R} read spell text made v is spelled again =
    subst (λ (w : R). Again read (spell w) w) is (subst (λ (t : List ℕ). Again read t made) (sym spelled) again)

pub one_codec : {A R : Type 0} {a : ReaderOf A} {sa : A → List ℕ} {fa : A → Type 0} → IsCodec a sa fa
    → (make : A → R) (spell : R → List ℕ) (fits : R → Type 0)
    → ((p : A) → fa p → (spell (make p) ≡ sa p) × fits (make p))
    → ((v : R) → fits v → (p : A) × fa p × (make p ≡ v))
    → IsCodec (of_one make a) spell fits
one_codec {R = R} {a = a} {sa = sa} ca make spell fits good parts = record {
  takes = λ i y bytes e.
      let t = takes_one ca make i y bytes e in
      let g = good t.0 t.3 in
      (subst (λ (s : List ℕ). Takes i s y.1) (sym g.0 ∙ ap spell t.1) t.2, subst fits t.1 g.1);
  again = λ v f. let s = parts v f in moved (of_one make a) spell (sa s.0) (make s.0) v s.2 (good s.0 s.1).0 (again_one ca make s.0 s.1);
}

pub two_codec : {A B R : Type 0} {a : ReaderOf A} {sa : A → List ℕ} {fa : A → Type 0} {b : ReaderOf B} {sb : B → List ℕ} {fb : B → Type 0} → IsCodec a sa fa → IsCodec b sb fb
    → (make : A → B → R) (spell : R → List ℕ) (fits : R → Type 0)
    → ((p : A) (q : B) → fa p → fb q → (spell (make p q) ≡ sa p ++ sb q) × fits (make p q))
    → ((v : R) → fits v → (p : A) × (q : B) × fa p × fb q × (make p q ≡ v))
    → IsCodec (of_two make a b) spell fits
two_codec {R = R} {a = a} {sa = sa} {b = b} {sb = sb} ca cb make spell fits good parts = record {
  takes = λ i y bytes e.
      let t = takes_two ca cb make i y bytes e in
      let g = good t.0 t.1 t.4 t.5 in
      (subst (λ (s : List ℕ). Takes i s y.1) (sym g.0 ∙ ap spell t.2) t.3, subst fits t.2 g.1);
  again = λ v f. let s = parts v f in moved (of_two make a b) spell (sa s.0 ++ sb s.1) (make s.0 s.1) v s.4 (good s.0 s.1 s.2 s.3).0 (again_two ca cb make s.0 s.1 s.2 s.3);
}

pub three_codec : {A B C R : Type 0} {a : ReaderOf A} {sa : A → List ℕ} {fa : A → Type 0} {b : ReaderOf B} {sb : B → List ℕ} {fb : B → Type 0} {c : ReaderOf C} {sc : C → List ℕ} {fc : C → Type 0} → IsCodec a sa fa → IsCodec b sb fb → IsCodec c sc fc
    → (make : A → B → C → R) (spell : R → List ℕ) (fits : R → Type 0)
    → ((p : A) (q : B) (r : C) → fa p → fb q → fc r → (spell (make p q r) ≡ sa p ++ (sb q ++ sc r)) × fits (make p q r))
    → ((v : R) → fits v → (p : A) × (q : B) × (r : C) × fa p × fb q × fc r × (make p q r ≡ v))
    → IsCodec (of_three make a b c) spell fits
three_codec {R = R} {a = a} {sa = sa} {b = b} {sb = sb} {c = c} {sc = sc} ca cb cc' make spell fits good parts = record {
  takes = λ i y bytes e.
      let t = takes_three ca cb cc' make i y bytes e in
      let g = good t.0 t.1 t.2 t.5 t.6 t.7 in
      (subst (λ (s : List ℕ). Takes i s y.1) (sym g.0 ∙ ap spell t.3) t.4, subst fits t.3 g.1);
  again = λ v f. let s = parts v f in moved (of_three make a b c) spell (sa s.0 ++ (sb s.1 ++ sc s.2)) (make s.0 s.1 s.2) v s.6 (good s.0 s.1 s.2 s.3 s.4 s.5).0 (again_three ca cb cc' make s.0 s.1 s.2 s.3 s.4 s.5);
}

-- ---- of four

pub takes_four : {A B C D R : Type 0} {a : ReaderOf A} {sa : A → List ℕ} {fa : A → Type 0} {b : ReaderOf B} {sb : B → List ℕ} {fb : B → Type 0} {c : ReaderOf C} {sc : C → List ℕ} {fc : C → Type 0} {d : ReaderOf D} {sd : D → List ℕ} {fd : D → Type 0} → IsCodec a sa fa → IsCodec b sb fb → IsCodec c sc fc → IsCodec d sd fd
    → (make : A → B → C → D → R) (i : Input) (y : R × Input) → IsBytes i.rest → of_four make a b c d i ≡ Ok y
    → (p : A) × (q : B) × (r : C) × (s : D) × (make p q r s ≡ y.0) × Takes i (sa p ++ (sb q ++ (sc r ++ sd s))) y.1 × fa p × fb q × fc r × fd s
takes_four {sa = sa} {b = b} {sb = sb} {c = c} {sc = sc} {d = d} {sd = sd} ca cb cc' cd make i y bytes e =
    let x = first ca (λ x. b x.1 >>= λ y. c y.1 >>= λ z. d z.1 >>= λ w. done (make x.0 y.0 z.0 w.0, w.1)) i y bytes e in
    let z = takes_three cb cc' cd (λ q r s. make x.0.0 q r s) x.0.1 y x.3 x.4 in
    (x.0.0, z.0, z.1, z.2, z.3, then_takes i (sa x.0.0) x.0.1 (sb z.0 ++ (sc z.1 ++ sd z.2)) y.1 x.1 z.4, x.2, z.5, z.6, z.7)

pub again_four : {A B C D R : Type 0} {a : ReaderOf A} {sa : A → List ℕ} {fa : A → Type 0} {b : ReaderOf B} {sb : B → List ℕ} {fb : B → Type 0} {c : ReaderOf C} {sc : C → List ℕ} {fc : C → Type 0} {d : ReaderOf D} {sd : D → List ℕ} {fd : D → Type 0} → IsCodec a sa fa → IsCodec b sb fb → IsCodec c sc fc → IsCodec d sd fd
    → (make : A → B → C → D → R) (p : A) (q : B) (r : C) (s : D) → fa p → fb q → fc r → fd s → Again (of_four make a b c d) (sa p ++ (sb q ++ (sc r ++ sd s))) (make p q r s)
again_four {A} {B} {C} {D} {R} {a = a} {sa = sa} {b = b} {sb = sb} {c = c} {sc = sc} {d = d} {sd = sd} ca cb cc' cd make p q r s fp fq fr fs at rest =
    let x = ca.again p fp at ((sb q ++ (sc r ++ sd s)) ++ rest) in
    let y = again_three cb cc' cd (λ q r s. make p q r s) q r s fq fr fs x.0 rest in (
      y.0,
      ap (λ (t : List ℕ). of_four make a b c d (input at t)) (append_assoc (sa p) (sb q ++ (sc r ++ sd s)) rest)
          ∙ ap (λ (r : Result (A × Input) EntryFault). r >>= λ x. b x.1 >>= λ y. c y.1 >>= λ z. d z.1 >>= λ w. done (make x.0 y.0 z.0 w.0, w.1)) x.1
          ∙ y.1,
    )

pub four_codec : {A B C D R : Type 0} {a : ReaderOf A} {sa : A → List ℕ} {fa : A → Type 0} {b : ReaderOf B} {sb : B → List ℕ} {fb : B → Type 0} {c : ReaderOf C} {sc : C → List ℕ} {fc : C → Type 0} {d : ReaderOf D} {sd : D → List ℕ} {fd : D → Type 0} → IsCodec a sa fa → IsCodec b sb fb → IsCodec c sc fc → IsCodec d sd fd
    → (make : A → B → C → D → R) (spell : R → List ℕ) (fits : R → Type 0)
    → ((p : A) (q : B) (r : C) (s : D) → fa p → fb q → fc r → fd s → (spell (make p q r s) ≡ sa p ++ (sb q ++ (sc r ++ sd s))) × fits (make p q r s))
    → ((v : R) → fits v → (p : A) × (q : B) × (r : C) × (s : D) × fa p × fb q × fc r × fd s × (make p q r s ≡ v))
    → IsCodec (of_four make a b c d) spell fits
four_codec {R = R} {a = a} {sa = sa} {b = b} {sb = sb} {c = c} {sc = sc} {d = d} {sd = sd} ca cb cc' cd make spell fits good parts = record {
  takes = λ i y bytes e.
      let t = takes_four ca cb cc' cd make i y bytes e in
      let g = good t.0 t.1 t.2 t.3 t.6 t.7 t.8 t.9 in
      (subst (λ (s : List ℕ). Takes i s y.1) (sym g.0 ∙ ap spell t.4) t.5, subst fits t.4 g.1);
  again = λ v f. let s = parts v f in moved (of_four make a b c d) spell (sa s.0 ++ (sb s.1 ++ (sc s.2 ++ sd s.3))) (make s.0 s.1 s.2 s.3) v s.8 (good s.0 s.1 s.2 s.3 s.4 s.5 s.6 s.7).0 (again_four ca cb cc' cd make s.0 s.1 s.2 s.3 s.4 s.5 s.6 s.7);
}

-- ---- of five

pub takes_five : {A B C D E R : Type 0} {a : ReaderOf A} {sa : A → List ℕ} {fa : A → Type 0} {b : ReaderOf B} {sb : B → List ℕ} {fb : B → Type 0} {c : ReaderOf C} {sc : C → List ℕ} {fc : C → Type 0} {d : ReaderOf D} {sd : D → List ℕ} {fd : D → Type 0} {e : ReaderOf E} {se : E → List ℕ} {fe : E → Type 0} → IsCodec a sa fa → IsCodec b sb fb → IsCodec c sc fc → IsCodec d sd fd → IsCodec e se fe
    → (make : A → B → C → D → E → R) (i : Input) (y : R × Input) → IsBytes i.rest → of_five make a b c d e i ≡ Ok y
    → (p : A) × (q : B) × (r : C) × (s : D) × (t : E) × (make p q r s t ≡ y.0) × Takes i (sa p ++ (sb q ++ (sc r ++ (sd s ++ se t)))) y.1 × fa p × fb q × fc r × fd s × fe t
takes_five {sa = sa} {b = b} {sb = sb} {c = c} {sc = sc} {d = d} {sd = sd} {e = e} {se = se} ca cb cc' cd ce make i y bytes is =
    let x = first ca (λ x. of_four (λ q r s t. make x.0 q r s t) b c d e x.1) i y bytes is in
    let z = takes_four cb cc' cd ce (λ q r s t. make x.0.0 q r s t) x.0.1 y x.3 x.4 in
    (x.0.0, z.0, z.1, z.2, z.3, z.4, then_takes i (sa x.0.0) x.0.1 (sb z.0 ++ (sc z.1 ++ (sd z.2 ++ se z.3))) y.1 x.1 z.5, x.2, z.6, z.7, z.8, z.9)

pub again_five : {A B C D E R : Type 0} {a : ReaderOf A} {sa : A → List ℕ} {fa : A → Type 0} {b : ReaderOf B} {sb : B → List ℕ} {fb : B → Type 0} {c : ReaderOf C} {sc : C → List ℕ} {fc : C → Type 0} {d : ReaderOf D} {sd : D → List ℕ} {fd : D → Type 0} {e : ReaderOf E} {se : E → List ℕ} {fe : E → Type 0} → IsCodec a sa fa → IsCodec b sb fb → IsCodec c sc fc → IsCodec d sd fd → IsCodec e se fe
    → (make : A → B → C → D → E → R) (p : A) (q : B) (r : C) (s : D) (t : E) → fa p → fb q → fc r → fd s → fe t → Again (of_five make a b c d e) (sa p ++ (sb q ++ (sc r ++ (sd s ++ se t)))) (make p q r s t)
again_five {A} {a = a} {sa = sa} {b = b} {sb = sb} {c = c} {sc = sc} {d = d} {sd = sd} {e = e} {se = se} ca cb cc' cd ce make p q r s t fp fq fr fs ft at rest =
    let text : List ℕ = sb q ++ (sc r ++ (sd s ++ se t)) in
    let x = ca.again p fp at (text ++ rest) in
    let y = again_four cb cc' cd ce (λ q r s t. make p q r s t) q r s t fq fr fs ft x.0 rest in (
      y.0,
      ap (λ (l : List ℕ). of_five make a b c d e (input at l)) (append_assoc (sa p) text rest)
          ∙ ap (λ (g : Result (A × Input) EntryFault). g >>= λ x. of_four (λ q r s t. make x.0 q r s t) b c d e x.1) x.1
          ∙ y.1,
    )

-- ---- of six

abbrev pub of_six : {A B C D E F R : Type 0} → (A → B → C → D → E → F → R) → ReaderOf A → ReaderOf B → ReaderOf C → ReaderOf D → ReaderOf E → ReaderOf F → ReaderOf R
of_six make a b c d e f = λ i. a i >>= λ x. b x.1 >>= λ y. of_four (λ r s t u. make x.0 y.0 r s t u) c d e f y.1

takes_six : {A B C D E F R : Type 0} {a : ReaderOf A} {sa : A → List ℕ} {fa : A → Type 0} {b : ReaderOf B} {sb : B → List ℕ} {fb : B → Type 0} {c : ReaderOf C} {sc : C → List ℕ} {fc : C → Type 0} {d : ReaderOf D} {sd : D → List ℕ} {fd : D → Type 0} {e : ReaderOf E} {se : E → List ℕ} {fe : E → Type 0} {f : ReaderOf F} {sf : F → List ℕ} {ff : F → Type 0}
    → IsCodec a sa fa → IsCodec b sb fb → IsCodec c sc fc → IsCodec d sd fd → IsCodec e se fe → IsCodec f sf ff
    → (make : A → B → C → D → E → F → R) (i : Input) (y : R × Input) → IsBytes i.rest → of_six make a b c d e f i ≡ Ok y
    → (p : A) × (q : B) × (r : C) × (s : D) × (t : E) × (u : F) × (make p q r s t u ≡ y.0) × Takes i (sa p ++ (sb q ++ (sc r ++ (sd s ++ (se t ++ sf u))))) y.1 × fa p × fb q × fc r × fd s × fe t × ff u
takes_six {sa = sa} {b = b} {sb = sb} {c = c} {sc = sc} {d = d} {sd = sd} {e = e} {se = se} {f = f} {sf = sf} ca cb cc' cd ce cf make i y bytes is =
    let x = first ca (λ x. b x.1 >>= λ y. of_four (λ r s t u. make x.0 y.0 r s t u) c d e f y.1) i y bytes is in
    let z = first cb (λ y. of_four (λ r s t u. make x.0.0 y.0 r s t u) c d e f y.1) x.0.1 y x.3 x.4 in
    let w = takes_four cc' cd ce cf (λ r s t u. make x.0.0 z.0.0 r s t u) z.0.1 y z.3 z.4 in
    let text : List ℕ = sc w.0 ++ (sd w.1 ++ (se w.2 ++ sf w.3)) in
    let behind = then_takes x.0.1 (sb z.0.0) z.0.1 text y.1 z.1 w.5 in
    (x.0.0, z.0.0, w.0, w.1, w.2, w.3, w.4, then_takes i (sa x.0.0) x.0.1 (sb z.0.0 ++ text) y.1 x.1 behind, x.2, z.2, w.6, w.7, w.8, w.9)

again_six : {A B C D E F R : Type 0} {a : ReaderOf A} {sa : A → List ℕ} {fa : A → Type 0} {b : ReaderOf B} {sb : B → List ℕ} {fb : B → Type 0} {c : ReaderOf C} {sc : C → List ℕ} {fc : C → Type 0} {d : ReaderOf D} {sd : D → List ℕ} {fd : D → Type 0} {e : ReaderOf E} {se : E → List ℕ} {fe : E → Type 0} {f : ReaderOf F} {sf : F → List ℕ} {ff : F → Type 0}
    → IsCodec a sa fa → IsCodec b sb fb → IsCodec c sc fc → IsCodec d sd fd → IsCodec e se fe → IsCodec f sf ff
    → (make : A → B → C → D → E → F → R) (p : A) (q : B) (r : C) (s : D) (t : E) (u : F) → fa p → fb q → fc r → fd s → fe t → ff u → Again (of_six make a b c d e f) (sa p ++ (sb q ++ (sc r ++ (sd s ++ (se t ++ sf u))))) (make p q r s t u)
again_six {A} {B} {a = a} {sa = sa} {b = b} {sb = sb} {c = c} {sc = sc} {d = d} {sd = sd} {e = e} {se = se} {f = f} {sf = sf} ca cb cc' cd ce cf make p q r s t u fp fq fr fs ft fu at rest =
    let text : List ℕ = sc r ++ (sd s ++ (se t ++ sf u)) in
    let x = ca.again p fp at ((sb q ++ text) ++ rest) in
    let y = cb.again q fq x.0 (text ++ rest) in
    let w = again_four cc' cd ce cf (λ r s t u. make p q r s t u) r s t u fr fs ft fu y.0 rest in (
      w.0,
      ap (λ (l : List ℕ). of_six make a b c d e f (input at l)) (append_assoc (sa p) (sb q ++ text) rest)
          ∙ ap (λ (g : Result (A × Input) EntryFault). g >>= λ x. b x.1 >>= λ y. of_four (λ r s t u. make x.0 y.0 r s t u) c d e f y.1) x.1
          ∙ ap (λ (l : List ℕ). b (input x.0 l) >>= λ y. of_four (λ r s t u. make p y.0 r s t u) c d e f y.1) (append_assoc (sb q) text rest)
          ∙ ap (λ (g : Result (B × Input) EntryFault). g >>= λ y. of_four (λ r s t u. make p y.0 r s t u) c d e f y.1) y.1
          ∙ w.1,
    )

pub six_codec : {A B C D E F R : Type 0} {a : ReaderOf A} {sa : A → List ℕ} {fa : A → Type 0} {b : ReaderOf B} {sb : B → List ℕ} {fb : B → Type 0} {c : ReaderOf C} {sc : C → List ℕ} {fc : C → Type 0} {d : ReaderOf D} {sd : D → List ℕ} {fd : D → Type 0} {e : ReaderOf E} {se : E → List ℕ} {fe : E → Type 0} {f : ReaderOf F} {sf : F → List ℕ} {ff : F → Type 0}
    → IsCodec a sa fa → IsCodec b sb fb → IsCodec c sc fc → IsCodec d sd fd → IsCodec e se fe → IsCodec f sf ff
    → (make : A → B → C → D → E → F → R) (spell : R → List ℕ) (fits : R → Type 0)
    → ((p : A) (q : B) (r : C) (s : D) (t : E) (u : F) → fa p → fb q → fc r → fd s → fe t → ff u → (spell (make p q r s t u) ≡ sa p ++ (sb q ++ (sc r ++ (sd s ++ (se t ++ sf u))))) × fits (make p q r s t u))
    → ((v : R) → fits v → (p : A) × (q : B) × (r : C) × (s : D) × (t : E) × (u : F) × fa p × fb q × fc r × fd s × fe t × ff u × (make p q r s t u ≡ v))
    → IsCodec (of_six make a b c d e f) spell fits
six_codec {a = a} {sa = sa} {b = b} {sb = sb} {c = c} {sc = sc} {d = d} {sd = sd} {e = e} {se = se} {f = f} {sf = sf} ca cb cc' cd ce cf make spell fits good parts = record {
  takes = λ i y bytes is.
      let t = takes_six ca cb cc' cd ce cf make i y bytes is in
      let g = good t.0 t.1 t.2 t.3 t.4 t.5 t.8 t.9 t.10 t.11 t.12 t.13 in
      (subst (λ (s : List ℕ). Takes i s y.1) (sym g.0 ∙ ap spell t.6) t.7, subst fits t.6 g.1);
  again = λ v fit.
      let w = parts v fit in
      moved (of_six make a b c d e f) spell (sa w.0 ++ (sb w.1 ++ (sc w.2 ++ (sd w.3 ++ (se w.4 ++ sf w.5))))) (make w.0 w.1 w.2 w.3 w.4 w.5) v w.12 (good w.0 w.1 w.2 w.3 w.4 w.5 w.6 w.7 w.8 w.9 w.10 w.11).0 (again_six ca cb cc' cd ce cf make w.0 w.1 w.2 w.3 w.4 w.5 w.6 w.7 w.8 w.9 w.10 w.11);
}
