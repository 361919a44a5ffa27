-- Which numbers those have whom an entry makes; nobody has one up to the last of a base.
use Rattle.std.proofs.Common.{◌≡◌, ℕ, ◌+◌, ◌<◌, ◌≤◌, [], ◌∷◌, Option, Some, None, false, refl, inl, inr, sym, ◌∙◌, arith}
use Rattle.std.proofs.lemmas.Bool.{cases_eq, cases_lt, true≢false}
use Rattle.std.proofs.lemmas.Option.{none-some}
use Rattle.hm_data.specs.declared.entry.Entry.{Entry}
use Rattle.hm_data.specs.declared.entry.Entry.TheVariants as entry_is
use Rattle.hm_model.specs.Journal.{Past}
use Rattle.hm_model.specs.Laws.{is_part}
use Rattle.hm_model.specs.Procedures.{offset}
use Rattle.hm_model.specs.Rules.{IsLegal}
use Rattle.hm_model.specs.Tree.{Node, made, node_of}
use Rattle.hm_model.proofs.Grown.{down_old, grown_all, step_old, submit_old, undo_old}

-- after a part of a base nobody is there
pub no_part : (entry : Entry) (J : Past) (p : ℕ) (x : Node) → node_of (entry ∷ J) p ≡ Some x → is_part entry ≡ false
no_part (entry_is.Base part) J p x is = absurd (none-some x is)
no_part entry J p x is = refl

-- after an entry that is none numbers begin where they began
pub offset_stays : (entry : Entry) (J : Past) → is_part entry ≡ false → offset (entry ∷ J) ≡ offset J
offset_stays (entry_is.Base part) J off = absurd (true≢false off)
offset_stays entry J off = refl

-- and no fewer are made
pub made_rises : (entry : Entry) (J : Past) → is_part entry ≡ false → made J ≤ made (entry ∷ J)
made_rises (entry_is.Base part) J off = absurd (true≢false off)
made_rises entry J off = omega arith

-- whom an entry makes has a number behind those before
pub made_behind : (entry : Entry) (J : Past) (p : ℕ) (x : Node) → node_of J p ≡ None → node_of (entry ∷ J) p ≡ Some x → made J < p
made_behind (entry_is.Submit nonce request) J p x none is = elim (cases_eq p (made J + 1)) [
  | inl own ↦ omega (arith, own)
  | inr other ↦ absurd (none-some x (sym none ∙ sym (submit_old nonce request J p other) ∙ is))
]
made_behind (entry_is.Step pid pick out) J p x none is = elim (cases_lt (made J) p) [
  | inl lt ↦ lt
  | inr le ↦ absurd (none-some x (sym none ∙ sym (step_old pid pick out J p le) ∙ is))
]
made_behind (entry_is.Undo pid row out) J p x none is = elim (cases_lt (made J) p) [
  | inl lt ↦ lt
  | inr le ↦ absurd (none-some x (sym none ∙ sym (undo_old pid row out J p le) ∙ is))
]
made_behind (entry_is.Down server) J p x none is = elim (cases_eq p (made J + 1)) [
  | inl own ↦ omega (arith, own)
  | inr other ↦ absurd (none-some x (sym none ∙ sym (down_old server J p other) ∙ is))
]
made_behind (entry_is.Base part) J p x none is = absurd (none-some x is)
made_behind entry J p x none is = absurd (none-some x (sym none ∙ is))

-- so nobody is made with a number of a base
low_on : (entry : Entry) (J : Past) (p : ℕ) → p ≤ made J → node_of J p ≡ None → node_of (entry ∷ J) p ≡ None
low_on entry J p le none = by (node_of (entry ∷ J) p) refl
  where
    by : (o : Option Node) → node_of (entry ∷ J) p ≡ o → o ≡ None
    by None e = refl
    by (Some x) e = let lt = made_behind entry J p x none e in absurd (omega (arith, lt, le))

-- and nobody has one
pub nobody_low : (J : Past) → IsLegal J → (p : ℕ) → p ≤ offset J → node_of J p ≡ None
nobody_low [] legal p le = refl
nobody_low (entry_is.Base part ∷ J) legal p le = refl
nobody_low (entry ∷ J) legal p le = let few = (grown_all J legal.0).low in low_on entry J p (omega (arith, le, few)) (nobody_low J legal.0 p le)
