-- The codecs of numbers, of names and of values that are spelled by a number.
use Rattle.std.proofs.Common.{◌≡◌, ℕ, zero, suc, ◌+◌, ◌%◌, ◌^◌, ◌<◌, ◌≤◌, Bool, true, false, cond, eqb, List, [], ◌∷◌, ◌++◌, length, Option, Some, None, Result, Ok, Err, refl, sym, ap, subst, ◌∙◌, arith}
use Rattle.std.proofs.lemmas.Bool.{eqb-false, ne_eqb}
use Rattle.byteorder.specs.Endian.{little_bytes}
use Rattle.hm_wire.specs.Input.{Input}
use Rattle.hm_wire.specs.Wire.{Takes, number_at, text_at, text}
use Rattle.hm_wire.specs.Laws.{IsBytes, taken_fits, number_takes, number_fits, number_again, text_takes, text_fits, text_again}
use Rattle.hm_wire.specs.declared.fault.WireFault.{WireFault}
use Rattle.hm_wire.specs.declared.fault.WireFault.TheVariants as wire_is
use Rattle.hm_names.specs.declared.fault.NameFault.{NameFault}
use Rattle.hm_entry.specs.declared.fault.EntryFault.{EntryFault}
use Rattle.hm_entry.specs.declared.fault.EntryFault.TheVariants.{Field}
use Rattle.hm_entry.specs.Spelling.{byte, number}
use Rattle.hm_entry.specs.Fits.{IsByte, IsNumber}
use Rattle.hm_entry.specs.Reading.{◌>>=◌, ReaderOf, wire, byte_at, u16_at, u64_at, text_of, from_one, known, coded, judged, named}
use Rattle.hm_entry.proofs.Codec.{IsCodec, Again, input, done, ok_is, first}

abbrev read_as : {A : Type 0} → A → Result A WireFault
read_as x = Ok x

-- a field that was read was read by the wire
pub wire_ok : {A : Type 0} (r : Result A WireFault) (x : A) → wire r ≡ Ok x → r ≡ Ok x
wire_ok (Ok y) x e = ap read_as (ok_is y x e)
wire_ok (Err (wire_is.Short p)) x e = absurd cc
wire_ok (Err (wire_is.Range p)) x e = absurd cc

-- ---- numbers

-- a number of n bytes
width_codec : (n : ℕ) → IsCodec (λ i. wire (number_at n i)) (little_bytes n) (λ v. v < 256 ^ n)
width_codec n = record {
  takes = λ i x bytes e.
      let r = wire_ok (number_at n i) x e in
      (number_takes n i x.0 x.1 bytes r, number_fits n i x.0 x.1 bytes r);
  again = λ v f at rest. (at + n, ap (λ (r : Result (ℕ × Input) WireFault). wire r) (number_again n v at rest f));
}

-- the same limit, told in another way
other_limit : {A : Type 0} {read : ReaderOf A} {spell : A → List ℕ} {fits : A → Type 0} → IsCodec read spell fits → (other : A → Type 0) → ((v : A) → fits v → other v) → ((v : A) → other v → fits v) → IsCodec read spell other
other_limit c other to from = record {
  takes = λ i x bytes e. let t = c.takes i x bytes e in (t.0, to x.0 t.1);
  again = λ v f. c.again v (from v f);
}

-- a byte is a number of one byte
byte_is : (n : ℕ) → n < 256 → little_bytes 1 n ≡ byte n
byte_is n lt = let low : n % 256 ≡ n = omega arith in ap (λ (b : ℕ). b ∷ []) low

pub byte_again : (n : ℕ) → n < 256 → Again byte_at (byte n) n
unfolding byte_at
byte_again n lt at rest =
    let x = (width_codec 1).again n lt at rest in
    (x.0, ap (λ (t : List ℕ). wire (number_at 1 (input at (t ++ rest)))) (sym (byte_is n lt)) ∙ x.1)

pub byte_codec : IsCodec byte_at byte IsByte
unfolding byte_at
byte_codec = record {
  takes = λ i x bytes e. let t = (width_codec 1).takes i x bytes e in (subst (λ (s : List ℕ). Takes i s x.1) (byte_is x.0 t.1) t.0, t.1);
  again = byte_again;
}

pub u16_codec : IsCodec u16_at (little_bytes 2) (λ n. n < 2 ^ 16)
unfolding u16_at
u16_codec = width_codec 2

pub u64_codec : IsCodec u64_at number IsNumber
unfolding u64_at
u64_codec = width_codec 8

-- a number from 1
pub from_one_codec : {read : ReaderOf ℕ} {spell : ℕ → List ℕ} {fits : ℕ → Type 0} → IsCodec read spell fits → IsCodec (from_one read) spell (λ n. (1 ≤ n) × fits n)
from_one_codec {read = read} {spell = spell} {fits = fits} c = record {
  takes = λ i y bytes e.
      let x = first c (λ n. cond (eqb n.0 0) (Err (Field i.at)) (done n)) i y bytes e in
      let g = not_zero (eqb x.0.0 0) (Field i.at) x.0 y x.4 in
      let one : 1 ≤ x.0.0 = from_test x.0.0 g.0 in
      subst (λ (p : ℕ × Input). Takes i (spell p.0) p.1 × ((1 ≤ p.0) × fits p.0)) g.1 (x.1, (one, x.2));
  again = λ v f at rest.
      let x = c.again v f.1 at rest in
      (x.0, ap (λ (r : Result (ℕ × Input) EntryFault). r >>= λ n. cond (eqb n.0 0) (Err (Field at)) (done n)) x.1 ∙ ap (λ (b : Bool). cond b (Err (Field at)) (done (v, input x.0 rest))) (ne_eqb v 0 (λ z. omega (arith, z, f.0))));
} where
  not_zero : {A : Type 0} (b : Bool) (d : EntryFault) (x y : A) → cond b (Err d) (Ok x) ≡ Ok y → (b ≡ false) × (x ≡ y)
  not_zero true d x y e = absurd cc
  not_zero false d x y e = (refl, cc)

  from_test : (n : ℕ) → eqb n 0 ≡ false → 1 ≤ n
  from_test zero e = absurd (eqb-false 0 0 e refl)
  from_test (suc n) e = omega arith

-- ---- values by their numbers

known_ok : {A : Type 0} (place : ℕ) (o : Option A) (i : Input) (y : A × Input) → known place o i ≡ Ok y → (o ≡ Some y.0) × (i ≡ y.1)
known_ok place None i y e = absurd cc
known_ok {A} place (Some x) i y e =
    let is = ok_is (x, i) y e in
    let same : x ≡ y.0 = ap (λ (p : A × Input). p.0) is in
    (ap (λ (v : A). Some v) same, ap (λ (p : A × Input). p.1) is)

pub coded_takes : {A : Type 0} (of : ℕ → Option A) (i : Input) (y : A × Input) → IsBytes i.rest → coded of i ≡ Ok y → (n : ℕ) × (of n ≡ Some y.0) × Takes i (byte n) y.1
coded_takes of i y bytes e =
    let x = first byte_codec (λ n. known i.at (of n.0) n.1) i y bytes e in
    let k = known_ok i.at (of x.0.0) x.0.1 y x.4 in
    (x.0.0, k.0, subst (λ (j : Input). Takes i (byte x.0.0) j) k.1 x.1)

pub coded_again : {A : Type 0} (of : ℕ → Option A) (n : ℕ) (v : A) → n < 256 → of n ≡ Some v → Again (coded of) (byte n) v
coded_again {A} of n v lt is at rest =
    let x = byte_again n lt at rest in
    (x.0, ap (λ (r : Result (ℕ × Input) EntryFault). r >>= λ n. known at (of n.0) n.1) x.1 ∙ ap (λ (o : Option A). known at o (input x.0 rest)) is)

pub coded_codec : {A : Type 0} (of : ℕ → Option A) (spell : A → List ℕ)
    → ((n : ℕ) (x : A) → of n ≡ Some x → spell x ≡ byte n)
    → ((x : A) → (n : ℕ) × (n < 256) × (of n ≡ Some x) × (spell x ≡ byte n))
    → IsCodec (coded of) spell (λ x. Unit {0})
coded_codec of spell back on = record {
  takes = λ i y bytes e. let t = coded_takes of i y bytes e in (subst (λ (s : List ℕ). Takes i s y.1) (sym (back t.0 y.0 t.1)) t.2, tt);
  again = λ v f. let o = on v in subst (λ (s : List ℕ). Again (coded of) s v) (sym o.3) (coded_again of o.0 v o.1 o.2);
}

-- ---- texts

text_of_again : (most : ℕ) (v : List ℕ) → length v ≤ most → length v < 2 ^ 16 → Again (text_of most) (text v) v
unfolding text_of
text_of_again most v short small at rest = (at + (2 + length v), ap (λ (r : Result (List ℕ × Input) WireFault). wire r) (text_again most v at rest short small))

pub text_codec : (most : ℕ) → most < 2 ^ 16 → IsCodec (text_of most) text (λ s. (length s ≤ most) × IsBytes s)
unfolding text_of
text_codec most lt = record {
  takes = λ i x bytes e.
      let r = wire_ok (text_at most i) x e in
      let t = text_takes most i x.0 x.1 bytes r in
      let b = taken_fits i (text x.0) x.1 bytes t in
      (t, (text_fits most i x.0 x.1 r, λ (k : ℕ). b.0 (suc (suc k))));
  again = λ v f. text_of_again most v f.0 (omega (arith, f.0));
}

judged_ok : (place : ℕ) (r : Result (List ℕ) NameFault) (i : Input) (y : List ℕ × Input) → judged place r i ≡ Ok y → (r ≡ Ok y.0) × (i ≡ y.1)
judged_ok place (Err f) i y e = absurd cc
judged_ok place (Ok x) i y e =
    let is = ok_is (x, i) y e in
    let good : List ℕ → Result (List ℕ) NameFault = λ v. Ok v in
    (ap good (ap (λ (p : List ℕ × Input). p.0) is), ap (λ (p : List ℕ × Input). p.1) is)

-- a name in a text, which is the name
pub named_codec : (most : ℕ) (judge : List ℕ → Result (List ℕ) NameFault) (fits : List ℕ → Type 0) → most < 2 ^ 16
    → ((t v : List ℕ) → IsBytes t → judge t ≡ Ok v → (t ≡ v) × fits v)
    → ((v : List ℕ) → fits v → (length v ≤ most) × (judge v ≡ Ok v))
    → IsCodec (named most judge) text fits
named_codec most judge fits lt back on = record {
  takes = λ i y bytes e.
      let x = first (text_codec most lt) (λ t. judged i.at (judge t.0) t.1) i y bytes e in
      let k = judged_ok i.at (judge x.0.0) x.0.1 y x.4 in
      let b = back x.0.0 y.0 x.2.1 k.0 in
      (subst (λ (j : Input). Takes i (text y.0) j) k.1 (subst (λ (v : List ℕ). Takes i (text v) x.0.1) b.0 x.1), b.1);
  again = λ v f at rest.
      let o = on v f in
      let x = text_of_again most v o.0 (omega (arith, o.0)) at rest in
      (x.0, ap (λ (r : Result (List ℕ × Input) EntryFault). r >>= λ t. judged at (judge t.0) t.1) x.1 ∙ ap (λ (r : Result (List ℕ) NameFault). judged at r (input x.0 rest)) o.1);
}
