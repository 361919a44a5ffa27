-- The order of keys.
use Rattle.std.specs.Prelude.{Bool, true, [], ◌∷◌, ◌&&◌}
use Rattle.std.specs.Ordering.{is_lt}
use Rattle.hm_data.specs.Keys.{key_cmp}
use Rattle.hm_data.specs.declared.catalog.CatKey.{CatKey}
use Rattle.hm_model.specs.RowsSaid.{Rows}

-- each key is below the next, from one on
abbrev pub keys_rise_from : CatKey → Rows → Bool
keys_rise_from key [] = true
keys_rise_from key ((next, row) ∷ more) = is_lt (key_cmp key next) && keys_rise_from next more

-- each key is below the next
abbrev pub keys_rise : Rows → Bool
keys_rise [] = true
keys_rise ((key, row) ∷ more) = keys_rise_from key more
