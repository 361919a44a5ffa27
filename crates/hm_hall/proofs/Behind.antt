-- A journal is its base and what stands behind it.
use Rattle.std.proofs.Common.{◌≡◌, List, [], ◌∷◌, ◌++◌, true, false, refl, ap}
use Rattle.std.proofs.lemmas.Bool.{true≢false}
use Rattle.hm_data.specs.declared.entry.Entry.{Entry}
use Rattle.hm_data.specs.declared.entry.Entry.TheVariants as entry_is
use Rattle.hm_hall.specs.Recording.{behind, parts_of}
use Rattle.hm_model.specs.Laws.{is_part}

-- the parts, and what is behind them
pub both_are_all : (entries : List Entry) → parts_of entries ++ behind entries ≡ entries
both_are_all [] = refl
both_are_all (entry_is.Base part ∷ entries) = ap (λ (more : List Entry). entry_is.Base part ∷ more) (both_are_all entries)
both_are_all (entry ∷ entries) = refl

-- another entry is no part more
pub parts_stay : (entries : List Entry) (entry : Entry) → is_part entry ≡ false → parts_of (entries ++ entry ∷ []) ≡ parts_of entries
parts_stay [] (entry_is.Base part) other = absurd (true≢false other)
parts_stay [] entry other = refl
parts_stay (entry_is.Base part ∷ entries) entry other = ap (λ (more : List Entry). entry_is.Base part ∷ more) (parts_stay entries entry other)
parts_stay (first ∷ entries) entry other = refl

-- and comes behind them
pub behind_grows : (entries : List Entry) (entry : Entry) → is_part entry ≡ false → behind (entries ++ entry ∷ []) ≡ behind entries ++ entry ∷ []
behind_grows [] (entry_is.Base part) other = absurd (true≢false other)
behind_grows [] entry other = refl
behind_grows (entry_is.Base part ∷ entries) entry other = behind_grows entries entry other
behind_grows (first ∷ entries) entry other = refl
