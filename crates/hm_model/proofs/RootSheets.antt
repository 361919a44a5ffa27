-- The sheets of a root, and its edition, stay as they were when it was made.
use Rattle.std.proofs.Common.{◌≡◌, ◌≢◌, ◌≤◌, ◌+◌, ℕ, List, [], ◌∷◌, Bool, true, false, ◌==◌, nat_lt, cond, refl, ap, sym, ◌∙◌, arith}
use Rattle.std.proofs.lemmas.Bool.{cond-false, le-ltb, ne_eqb}
use Rattle.hm_data.specs.declared.entry.Entry.{Entry}
use Rattle.hm_data.specs.declared.entry.Entry.TheVariants as entry_is
use Rattle.hm_data.specs.declared.part.Part.{Part}
use Rattle.hm_data.specs.declared.sheet.Sheet.{Sheet}
use Rattle.hm_model.specs.Base.{PartFits}
use Rattle.hm_model.specs.Editions.{edition_of, editions, sheets_in}
use Rattle.hm_model.specs.Journal.{Past}
use Rattle.hm_model.specs.Rules.{IsLegal}
use Rattle.hm_model.specs.Sheets.{sheets_by, sheets_of}
use Rattle.hm_model.specs.Tree.{made}
use Rattle.hm_model.proofs.Parted.{by_parts}

-- a number up to a count isn't the next, and isn't above it
pub not_next : (root n : ℕ) → root ≤ n → (root == n + 1) ≡ false
not_next root n le = ne_eqb root (n + 1) (λ e. omega (arith, le, e))

-- what an entry leaves alone
abbrev pub Stays : Entry → Past → ℕ → Type 0
Stays entry J root = (sheets_by (entry ∷ J) root ≡ sheets_by J root) × (edition_of (entry ∷ J) root ≡ edition_of J root)

stays_if : (new : Bool) (now was : List Sheet) (last own : ℕ) → new ≡ false → (cond new now was ≡ was) × (cond new last own ≡ own)
stays_if new now was last own off = (cond-false new now was off, cond-false new last own off)

none_parted : (part : Part) (before : Past) → PartFits part before → (root : ℕ) → ([] ≡ sheets_by before root) × (0 ≡ edition_of before root)
none_parted = by_parts (λ J. (root : ℕ) → ([] ≡ sheets_by J root) × (0 ≡ edition_of J root)) (λ root. (refl, refl)) (λ own older root. (refl, refl))

pub stays : (entry : Entry) (J : Past) → IsLegal (entry ∷ J) → (root : ℕ) → root ≤ made J → Stays entry J root
stays (entry_is.Submit nonce request) J legal root le = stays_if (root == made J + 1) (sheets_of J) (sheets_by J root) (editions J) (edition_of J root) (not_next root (made J) le)
stays (entry_is.Undo pid row out) J legal root le = stays_if (nat_lt (made J) root) (sheets_of J) (sheets_by J root) (editions J) (edition_of J root) (le-ltb (made J) root le)
stays (entry_is.Down server) J legal root le = stays_if (root == made J + 1) (sheets_of J) (sheets_by J root) (editions J) (edition_of J root) (not_next root (made J) le)
stays (entry_is.Base part) J legal root le = none_parted part J legal.1.0 root
stays entry J legal root le = (refl, refl)

pub by_stays : (entry : Entry) (J : Past) → IsLegal (entry ∷ J) → (root : ℕ) → root ≤ made J → sheets_by (entry ∷ J) root ≡ sheets_by J root
by_stays entry J legal root le = (stays entry J legal root le).0
