-- Edits of other tables, and edits of different keys that tell what was there.
use Rattle.std.proofs.Common.{◌≡◌, ◌≢◌, ℕ, Bool, true, false, cond, is_some, List, [], ◌∷◌, ◌++◌, Option, Some, None, refl, sym, ap, ◌∙◌, inl, inr}
use Rattle.std.proofs.lemmas.Bool.{cond-false, true≢false}
use Rattle.hm_names.specs.declared.table.TableName.{TableName}
use Rattle.hm_data.specs.declared.answer.Cause.{Cause}
use Rattle.hm_data.specs.declared.catalog.CatKey.{CatKey}
use Rattle.hm_data.specs.declared.catalog.CatKey.TheVariants as key_is
use Rattle.hm_data.specs.declared.catalog.CatRow.{CatRow}
use Rattle.hm_data.specs.declared.catalog.Edit.{Edit}
use Rattle.hm_model.proofs.KeyTests.{cases_key, same_table-refl}
use Rattle.hm_model.specs.Catalog.{Catalog, edited}
use Rattle.hm_model.specs.Changes.{region_key}
use Rattle.hm_model.specs.Deeds.{unless}
use Rattle.hm_model.specs.Keys.{same_key}
use Rattle.hm_model.specs.Reads.{is_over}
use Rattle.hm_model.specs.Serial.{edits_in}
use Rattle.hm_model.specs.declared.lock.Resource.TheVariants as resource_is
use Rattle.std.specs.declared.result.Result.TheVariants.{Ok}
use Rattle.hm_model.specs.GoingBack.{Tells}
use Rattle.hm_cover.proofs.Whole.{Whole, whole_same}

-- the key is the table's or one of its regions'
abbrev pub is_of : TableName → CatKey → Bool
is_of t key = is_over (resource_is.Table t) key

-- no edit is of the table
abbrev pub IsOff : TableName → List Edit → Type 0
IsOff t [] = Unit {0}
IsOff t (edit ∷ edits) = (is_of t edit.key ≡ false) × IsOff t edits

pub off_append : (t : TableName) (xs ys : List Edit) → IsOff t xs → IsOff t ys → IsOff t (xs ++ ys)
off_append t [] ys one two = two
off_append t (x ∷ xs) ys one two = (one.0, off_append t xs ys one.1 two)

pub off_edited : (t : TableName) (edits : List Edit) (key : CatKey) (row : Option CatRow) → IsOff t edits → is_of t key ≡ true → edited edits key row ≡ row
off_edited t [] key row off of = refl
off_edited t (edit ∷ edits) key row off of = elim (cases_key key edit.key) [
  | inl same ↦ absurd (true≢false (sym of ∙ ap (is_of t) same.1 ∙ off.0))
  | inr differs ↦ ap (edited edits key) (cond-false (same_key key edit.key) edit.after row differs.0) ∙ off_edited t edits key row off.1 of
]

-- such edits leave the table as it is
pub whole_off : (n : ℕ) (edits : List Edit) (there : Catalog) (t : TableName) → IsOff t edits → Whole n there t → Whole n (λ key. edited edits key (there key)) t
whole_off n edits there t off whole =
    whole_same n there (λ key. edited edits key (there key)) t (λ id. off_edited t edits (region_key t id) (there (region_key t id)) off (same_table-refl t)) (ap is_some (off_edited t edits (key_is.Table t) (there (key_is.Table t)) off (same_table-refl t))) whole

-- each edit tells what a catalog has
abbrev pub Reads : List Edit → Catalog → Type 0
Reads [] there = Unit {0}
Reads (edit ∷ edits) there = (edit.before ≡ there edit.key) × Reads edits there

-- no edit is of the key
abbrev pub HasNot : CatKey → List Edit → Type 0
HasNot key [] = Unit {0}
HasNot key (edit ∷ edits) = (edit.key ≢ key) × HasNot key edits

-- the edits are of different keys
abbrev pub AreApart : List Edit → Type 0
AreApart [] = Unit {0}
AreApart (edit ∷ edits) = HasNot edit.key edits × AreApart edits

reads_on : (edit : Edit) (edits : List Edit) (there : Catalog) → HasNot edit.key edits → Reads edits there → Reads edits (λ key. cond (same_key key edit.key) edit.after (there key))
reads_on edit [] there none reads = tt
reads_on edit (next ∷ edits) there none reads = (
  reads.0 ∙ sym (elim (cases_key next.key edit.key) [
    | inl same ↦ absurd (none.0 same.1)
    | inr differs ↦ cond-false (same_key next.key edit.key) edit.after (there next.key) differs.0
  ]),
  reads_on edit edits there none.1 reads.1,
)

-- edits of different keys that tell what a catalog has tell what they find, one after another
pub tells_apart : (edits : List Edit) (there : Catalog) → Reads edits there → AreApart edits → Tells edits there
tells_apart [] there reads apart = tt
tells_apart (edit ∷ edits) there reads apart = (reads.0, tells_apart edits (λ key. cond (same_key key edit.key) edit.after (there key)) (reads_on edit edits there apart.0 reads.1) apart.1)

-- a deed that nothing stands against
pub unless_ok : (cause : Option Cause) (edits done : List Edit) → unless cause edits ≡ Ok done → (cause ≡ None) × (edits ≡ done)
unless_ok None edits done e = (refl, ap edits_in e)
unless_ok (Some cause) edits done e = absurd (cc)
