-- Hints don't fall in the order of the catalog's keys.
use Rattle.std.proofs.Common.{◌≡◌, ℕ, ◌<◌, List, refl, arith}
use Rattle.std.specs.declared.cmp.Ordering.TheVariants.{Less}
use Rattle.hm_names.specs.Hints.{front}
use Rattle.hm_names.specs.HintLaws.{apart, rises}
use Rattle.hm_data.specs.Keys.{key_cmp, key_hint}
use Rattle.hm_data.specs.declared.catalog.CatKey.{CatKey}
use Rattle.hm_data.specs.declared.catalog.CatKey.TheVariants.{Ns, Table, Region}

-- hints of keys are below those that begin with a greater byte
pub keys_below : (key : CatKey) (before : ℕ) (bytes : List ℕ) → 2 < before → key_hint key < front 7 before bytes
keys_below (Ns a) before bytes lt = apart 7 0 before a bytes (omega (arith, lt))
keys_below (Table a) before bytes lt = apart 7 1 before a.ns bytes (omega (arith, lt))
keys_below (Region a) before bytes lt = apart 7 2 before a.table.ns bytes lt

-- a key with a lesser hint is lesser
pub keys_rise : (a b : CatKey) → key_hint a < key_hint b → key_cmp a b ≡ Less
keys_rise (Ns a) (Ns b) lt = rises 7 0 a b lt
keys_rise (Ns a) (Table b) lt = refl
keys_rise (Ns a) (Region b) lt = refl
keys_rise (Table a) (Ns b) lt = absurd (omega (arith, lt, apart 7 0 1 b a.ns (omega arith)))
keys_rise (Table a) (Table b) lt = let first = rises 7 1 a.ns b.ns lt in rw first refl
keys_rise (Table a) (Region b) lt = refl
keys_rise (Region a) (Ns b) lt = absurd (omega (arith, lt, apart 7 0 2 b a.table.ns (omega arith)))
keys_rise (Region a) (Table b) lt = absurd (omega (arith, lt, apart 7 1 2 b.ns a.table.ns (omega arith)))
keys_rise (Region a) (Region b) lt = let first = rises 7 2 a.table.ns b.table.ns lt in rw first refl
