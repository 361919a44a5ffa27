-- Sheets that are valid.
use Rattle.std.proofs.Common.{◌≡◌, ℕ, zero, suc, ◌+◌, List, [], ◌∷◌, ◌++◌, take, slice_get, Some, ap, sym, ◌∙◌, subst}
use Rattle.std.proofs.lemmas.List.{take_more}
use Rattle.std.proofs.lemmas.Option.{get_or_from_slice_get, none-some, same_Some, slice_get_within}
use Rattle.hm_data.specs.declared.sheet.Sheet.{Sheet}
use Rattle.hm_model.specs.Validity.{AllValid, IsValid}
use Rattle.hm_sheet.proofs.Copies.{all_valid-push}

-- one item more
pub take_item : {X : Type 0} (items : List X) (place : ℕ) (item : X) → slice_get items place ≡ Some item → take (place + 1) items ≡ take place items ++ item ∷ []
take_item items place item here =
    take_more items place item (slice_get_within items place item here) ∙ ap (λ i. take place items ++ i ∷ []) (get_or_from_slice_get items place item item here)

-- each of valid sheets is valid
pub valid_at : (sheets : List Sheet) (place : ℕ) (sheet : Sheet) → slice_get sheets place ≡ Some sheet → AllValid sheets → IsValid sheet
valid_at [] place sheet here all = absurd (none-some sheet here)
valid_at (first ∷ sheets) zero sheet here all = subst IsValid (same_Some first sheet here) all.0
valid_at (first ∷ sheets) (suc place) sheet here all = valid_at sheets place sheet here all.1

-- one valid sheet more
pub valid_more : (sheets : List Sheet) (place : ℕ) (sheet : Sheet) → slice_get sheets place ≡ Some sheet → AllValid (take place sheets) → IsValid sheet → AllValid (take (place + 1) sheets)
valid_more sheets place sheet here all valid = subst AllValid (sym (take_item sheets place sheet here)) (all_valid-push (take place sheets) sheet all valid)
