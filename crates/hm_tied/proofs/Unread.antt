-- What is read stays by edits of other rows.
use Rattle.std.proofs.Common.{Bool, List, [], ap, false, inl, inr, refl, sym, true, ◌∙◌, ◌∷◌, ◌≡◌}
use Rattle.std.specs.List.{list_any}
use Rattle.std.specs.declared.cmp.Ordering.{Ordering}
use Rattle.std.specs.declared.cmp.Ordering.TheVariants.{Equal, Greater, Less}
use Rattle.std.proofs.lemmas.Bool.{cases_Bool, cond-false, or_parts, true≢false}
use Rattle.hm_data.specs.declared.args.Args.{Args}
use Rattle.hm_data.specs.declared.catalog.CatKey.{CatKey}
use Rattle.hm_data.specs.declared.catalog.Edit.{Edit}
use Rattle.hm_model.specs.Catalog.{Catalog, cat, edited, keep, keys_of, rows_at, with_key, with_key_at, with_keys}
use Rattle.hm_data.specs.Keys.{key_cmp}
use Rattle.hm_model.specs.Keys.{same_key}
use Rattle.hm_model.specs.Reads.{reads}
use Rattle.hm_model.proofs.KeyTests.{same_key-is}
use Rattle.hm_tied.specs.Unread.{UnreadStay}

-- a key that isn't asked for adds no row
key_unasked : (asked : CatKey → Bool) (there : Catalog) (key : CatKey) (keys : List CatKey) → asked key ≡ false → rows_at asked there (with_key key keys) ≡ rows_at asked there keys
key_unasked asked there key [] off = ap (λ b. keep b key (there key) []) off
key_unasked asked there key (first ∷ more) off = by (key_cmp key first) (key_unasked asked there key more off)
  where
    by : (o : Ordering) → rows_at asked there (with_key key more) ≡ rows_at asked there more → rows_at asked there (with_key_at o key first more (with_key key more)) ≡ rows_at asked there (first ∷ more)
    by Less rest = ap (λ b. keep b key (there key) (rows_at asked there (first ∷ more))) off
    by Equal rest = refl
    by Greater rest = ap (keep (asked first) first (there first)) rest

-- nor do those of edits
keys_unasked : (asked : CatKey → Bool) (there : Catalog) (edits : List Edit) (keys : List CatKey) → list_any (λ edit. asked edit.key) edits ≡ false
    → rows_at asked there (with_keys edits keys) ≡ rows_at asked there keys
keys_unasked asked there [] keys none = refl
keys_unasked asked there (edit ∷ edits) keys none =
    let parts = or_parts (asked edit.key) (list_any (λ more. asked more.key) edits) none in
    keys_unasked asked there edits (with_key edit.key keys) parts.1 ∙ key_unasked asked there edit.key keys parts.0

-- rows are the same where those are that are asked for
rows_alike : (asked : CatKey → Bool) (there other : Catalog) (keys : List CatKey) → ((key : CatKey) → asked key ≡ true → there key ≡ other key) → rows_at asked there keys ≡ rows_at asked other keys
rows_alike asked there other [] same = refl
rows_alike asked there other (key ∷ keys) same =
    ap (keep (asked key) key (there key)) (rows_alike asked there other keys same)
    ∙ elim (cases_Bool (asked key)) [
      | inl on ↦ ap (λ o. keep (asked key) key o (rows_at asked other keys)) (same key on)
      | inr off ↦ ap (λ b. keep b key (there key) (rows_at asked other keys)) off ∙ sym (ap (λ b. keep b key (other key) (rows_at asked other keys)) off)
    ]

-- the row of a key that is read isn't edited
row_unedited : (edits : List Edit) (args : Args) (key : CatKey) (there : Catalog) → list_any (λ edit. reads args edit.key) edits ≡ false → reads args key ≡ true → edited edits key (there key) ≡ there key
row_unedited edits args key there none on = by edits none
  where
    by : (edits : List Edit) → list_any (λ edit. reads args edit.key) edits ≡ false → edited edits key (there key) ≡ there key
    by [] none = refl
    by (edit ∷ edits) none =
        let parts = or_parts (reads args edit.key) (list_any (λ more. reads args more.key) edits) none in
        let off : same_key key edit.key ≡ false = elim (cases_Bool (same_key key edit.key)) [
          | inl same ↦ absurd (true≢false (sym on ∙ ap (reads args) (same_key-is key edit.key same) ∙ parts.0))
          | inr off ↦ off
        ] in
        ap (edited edits key) (cond-false (same_key key edit.key) edit.after (there key) off) ∙ by edits parts.1

pub unread_stay : UnreadStay
unread_stay J edits args none =
    keys_unasked (reads args) (λ key. edited edits key (cat J key)) edits (keys_of J) none
    ∙ rows_alike (reads args) (λ key. edited edits key (cat J key)) (cat J) (keys_of J) (λ key on. row_unedited edits args key (cat J) none on)
