-- How many regions of a table pass a test, and what edits change of that number.
use Rattle.std.proofs.Common.{◌≡◌, ◌≢◌, ℕ, zero, suc, ◌+◌, ◌<◌, ◌≤◌, Bool, true, false, ◌==◌, ◌&&◌, if◌then◌else◌, is_some, List, [], ◌∷◌, ◌++◌, Option, Some, None, refl, sym, ap, ◌∙◌, inl, inr, arith}
use Rattle.std.proofs.lemmas.Bool.{cases_eq, cond-true, cond-false, and_left, and_right, and_from, eq-eqb, ne_eqb}
use Rattle.hm_names.specs.Region.{Region}
use Rattle.hm_names.specs.Ranges.{holds}
use Rattle.hm_names.specs.declared.table.TableName.{TableName}
use Rattle.hm_data.specs.declared.catalog.CatKey.{CatKey}
use Rattle.hm_data.specs.declared.catalog.CatKey.TheVariants as key_is
use Rattle.hm_data.specs.declared.catalog.CatRow.{CatRow}
use Rattle.hm_data.specs.declared.catalog.CatRow.TheVariants as row_is
use Rattle.hm_data.specs.declared.catalog.Edit.{Edit}
use Rattle.hm_data.specs.declared.catalog.Status.{Status}
use Rattle.hm_data.specs.declared.catalog.Status.TheVariants as status_is
use Rattle.hm_model.proofs.Counting.{count_same}
use Rattle.hm_model.proofs.KeyTests.{same_table-is, same_table-refl}
use Rattle.hm_model.specs.Catalog.{Catalog, edited}
use Rattle.hm_model.specs.Changes.{region_key}
use Rattle.hm_model.specs.Counts.{count_below, one_if}
use Rattle.hm_model.specs.Keys.{same_key, same_table}
use Rattle.hm_model.specs.Undoing.{turned, turned_round}
use Rattle.hm_model.specs.GoingBack.{Tells}

-- a live region with this range has the key
abbrev pub if_live : Status → Bool → Bool
if_live status_is.Live has = has
if_live status has = false

-- the row is of a live region that has the key
abbrev pub serves : List ℕ → Option CatRow → Bool
serves k None = false
serves k (Some row_is.Ns) = false
serves k (Some (row_is.Table state version)) = false
serves k (Some (row_is.Region range status parents)) = if_live status (holds range k)

-- what is counted in a table: its own row, or its regions' rows that pass a test
pub data What : Type 0 where
  Row : What
  Regions : (passes : Option CatRow → Bool) → What

abbrev pub total : What → Catalog → TableName → ℕ → ℕ
total Row there t n = one_if (is_some (there (key_is.Table t)))
total (Regions passes) there t n = count_below (λ i. passes (there (region_key t i))) n

-- it counts the row at a key
abbrev pub counts : What → TableName → CatKey → Option CatRow → Bool
counts Row t (key_is.Ns m) row = false
counts Row t (key_is.Table u) row = same_table t u && is_some row
counts Row t (key_is.Region r) row = false
counts (Regions passes) t (key_is.Ns m) row = false
counts (Regions passes) t (key_is.Table u) row = false
counts (Regions passes) t (key_is.Region r) row = same_table t r.table && passes row

-- how many of the rows that edits find are counted, and of those that they leave
abbrev pub found : What → TableName → List Edit → ℕ
found what t [] = 0
found what t (edit ∷ edits) = one_if (counts what t edit.key edit.before) + found what t edits

abbrev pub left : What → TableName → List Edit → ℕ
left what t [] = 0
left what t (edit ∷ edits) = one_if (counts what t edit.key edit.after) + left what t edits

-- the edits are of regions with ids below n, or of other rows
abbrev pub id_below : ℕ → CatKey → Type 0
id_below n (key_is.Region r) = r.id < n
id_below n key = Unit {0}

abbrev pub AllBelow : ℕ → List Edit → Type 0
AllBelow n [] = Unit {0}
AllBelow n (edit ∷ edits) = id_below n edit.key × AllBelow n edits

-- a row of numbers that differs at one place
count_at : (n i : ℕ) (g h : ℕ → Bool) → i < n → ((j : ℕ) → j ≢ i → h j ≡ g j) → count_below h n + one_if (g i) ≡ count_below g n + one_if (h i)
count_at zero i g h lt same = absurd (omega (arith, lt))
count_at (suc n) i g h lt same = elim (cases_eq i n) [
  | inl e ↦
      let rest = count_same n h g (λ j less. same j (λ q. omega (arith, less, q, e))) in
      let one : one_if (g i) ≡ one_if (g n) = ap (λ x. one_if (g x)) e in
      let two : one_if (h i) ≡ one_if (h n) = ap (λ x. one_if (h x)) e in
      omega (arith, rest, one, two)
  | inr ne ↦
      let rest = count_at n i g h (omega (arith, lt, ne)) same in
      let here : one_if (h n) ≡ one_if (g n) = ap one_if (same n (λ q. ne (sym q))) in
      omega (arith, rest, here)
]

pub one_place : (n i : ℕ) (g : ℕ → Bool) → i < n → one_if (g i) ≤ count_below g n
one_place zero i g lt = absurd (omega (arith, lt))
one_place (suc n) i g lt = elim (cases_eq i n) [
  | inl e ↦ (let one : one_if (g i) ≡ one_if (g n) = ap (λ x. one_if (g x)) e in omega (arith, one))
  | inr ne ↦ (let rest = one_place n i g (omega (arith, lt, ne)) in omega (arith, rest))
]

-- two places of a row of numbers, and its sum
pub two_places : (n i j : ℕ) (g : ℕ → Bool) → i < n → j < n → i ≢ j → one_if (g i) + one_if (g j) ≤ count_below g n
two_places zero i j g li lj ne = absurd (omega (arith, li))
two_places (suc n) i j g li lj ne = elim (cases_eq i n) [
  | inl e ↦
      let other = one_place n j g (omega (arith, lj, ne, e)) in
      let one : one_if (g i) ≡ one_if (g n) = ap (λ x. one_if (g x)) e in
      omega (arith, one, other)
  | inr off ↦ elim (cases_eq j n) [
    | inl e ↦
        let other = one_place n i g (omega (arith, li, off)) in
        let one : one_if (g j) ≡ one_if (g n) = ap (λ x. one_if (g x)) e in
        omega (arith, one, other)
    | inr both ↦ (let rest = two_places n i j g (omega (arith, li, off)) (omega (arith, lj, both)) ne in omega (arith, rest))
  ]
]

-- the row of a region set: of its table
region_set : (f : Option CatRow → Bool) (r : Region) (after : Option CatRow) (there : Catalog) (t : TableName) (n : ℕ) → r.id < n → t ≡ r.table
    → count_below (λ i. f (if same_key (region_key t i) (key_is.Region r) then after else there (region_key t i))) n + one_if (f (there (key_is.Region r))) ≡ count_below (λ i. f (there (region_key t i))) n + one_if (f after)
region_set f r after there t n lt e =
    let g : ℕ → Bool = λ i. f (there (region_key t i)) in
    let h : ℕ → Bool = λ i. f (if same_key (region_key t i) (key_is.Region r) then after else there (region_key t i)) in
    let is : region_key t r.id ≡ key_is.Region r = ap (λ x. key_is.Region (let one : Region = record { table = x; id = r.id } in one)) e in
    let here : one_if (h r.id) ≡ one_if (f after) = ap (λ o. one_if (f o)) (cond-true (same_key (region_key t r.id) (key_is.Region r)) after (there (region_key t r.id)) (and_from (same_table t r.table) (r.id == r.id) (ap (same_table t) (sym e) ∙ same_table-refl t) (eq-eqb r.id r.id refl))) in
    let before : one_if (g r.id) ≡ one_if (f (there (key_is.Region r))) = ap (λ k. one_if (f (there k))) is in
    let others : (j : ℕ) → j ≢ r.id → h j ≡ g j = λ j ne. ap f (cond-false (same_key (region_key t j) (key_is.Region r)) after (there (region_key t j)) (and_right (same_table t r.table) (j == r.id) (ne_eqb j r.id ne))) in
    let at = count_at n r.id g h lt others in
    omega (arith, at, here, before)

-- and of another table
region_off : (f : Option CatRow → Bool) (r : Region) (after : Option CatRow) (there : Catalog) (t : TableName) (n : ℕ) → same_table t r.table ≡ false
    → count_below (λ i. f (if same_key (region_key t i) (key_is.Region r) then after else there (region_key t i))) n ≡ count_below (λ i. f (there (region_key t i))) n
region_off f r after there t n off =
    count_same n (λ i. f (if same_key (region_key t i) (key_is.Region r) then after else there (region_key t i))) (λ i. f (there (region_key t i))) (λ i lt. ap f (cond-false (same_key (region_key t i) (key_is.Region r)) after (there (region_key t i)) (and_left (same_table t r.table) (i == r.id) off)))

tally_region : (f : Option CatRow → Bool) (r : Region) (before after : Option CatRow) (there : Catalog) (t : TableName) (n : ℕ) → r.id < n → before ≡ there (key_is.Region r) → (b : Bool) → same_table t r.table ≡ b
    → count_below (λ i. f (if same_key (region_key t i) (key_is.Region r) then after else there (region_key t i))) n + one_if (b && f before) ≡ count_below (λ i. f (there (region_key t i))) n + one_if (b && f after)
tally_region f r before after there t n lt e true same =
    ap (λ o. count_below (λ i. f (if same_key (region_key t i) (key_is.Region r) then after else there (region_key t i))) n + one_if (f o)) e ∙ region_set f r after there t n lt (same_table-is t r.table same)
tally_region f r before after there t n lt e false off = ap (λ x. x + 0) (region_off f r after there t n off)

row_set : (u : TableName) (before after : Option CatRow) (there : Catalog) (t : TableName) → before ≡ there (key_is.Table u) → (b : Bool) → same_table t u ≡ b
    → one_if (is_some (if same_table t u then after else there (key_is.Table t))) + one_if (b && is_some before) ≡ one_if (is_some (there (key_is.Table t))) + one_if (b && is_some after)
row_set u before after there t e true same =
    let now : one_if (is_some (if same_table t u then after else there (key_is.Table t))) ≡ one_if (is_some after) = ap (λ o. one_if (is_some o)) (cond-true (same_table t u) after (there (key_is.Table t)) same) in
    let was : one_if (is_some before) ≡ one_if (is_some (there (key_is.Table t))) = ap (λ o. one_if (is_some o)) (e ∙ ap (λ x. there (key_is.Table x)) (sym (same_table-is t u same))) in
    omega (arith, now, was)
row_set u before after there t e false off = ap (λ o. one_if (is_some o) + 0) (cond-false (same_table t u) after (there (key_is.Table t)) off)

-- one edit that tells what was there
total_one : (what : What) (key : CatKey) (before after : Option CatRow) (there : Catalog) (t : TableName) (n : ℕ) → id_below n key → before ≡ there key
    → total what (λ k. if same_key k key then after else there k) t n + one_if (counts what t key before) ≡ total what there t n + one_if (counts what t key after)
total_one Row (key_is.Ns m) before after there t n lt e = refl
total_one Row (key_is.Table u) before after there t n lt e = row_set u before after there t e (same_table t u) refl
total_one Row (key_is.Region r) before after there t n lt e = refl
total_one (Regions f) (key_is.Ns m) before after there t n lt e = refl
total_one (Regions f) (key_is.Table u) before after there t n lt e = refl
total_one (Regions f) (key_is.Region r) before after there t n lt e = tally_region f r before after there t n lt e (same_table t r.table) refl

-- edits that tell what was there change a count by what they leave and what they find
pub total_edits : (what : What) (edits : List Edit) (there : Catalog) (t : TableName) (n : ℕ) → AllBelow n edits → Tells edits there
    → total what (λ key. edited edits key (there key)) t n + found what t edits ≡ total what there t n + left what t edits
total_edits what [] there t n low told = refl
total_edits what (edit ∷ edits) there t n low told =
    let one = total_one what edit.key edit.before edit.after there t n low.0 told.0 in
    let rest = total_edits what edits (λ k. if same_key k edit.key then edit.after else there k) t n low.1 told.1 in
    omega (arith, one, rest)

pub found-append : (what : What) (t : TableName) (xs ys : List Edit) → found what t (xs ++ ys) ≡ found what t xs + found what t ys
found-append what t [] ys = omega arith
found-append what t (x ∷ xs) ys = let rest = found-append what t xs ys in omega (arith, rest)

pub left-append : (what : What) (t : TableName) (xs ys : List Edit) → left what t (xs ++ ys) ≡ left what t xs + left what t ys
left-append what t [] ys = omega arith
left-append what t (x ∷ xs) ys = let rest = left-append what t xs ys in omega (arith, rest)

-- edits turned round find what they left
pub found-turned : (what : What) (t : TableName) (edits : List Edit) → found what t (turned_round edits) ≡ left what t edits
found-turned what t [] = refl
found-turned what t (edit ∷ edits) =
    let rest = found-turned what t edits in
    let joined = found-append what t (turned_round edits) (turned edit ∷ []) in
    omega (arith, rest, joined)

pub left-turned : (what : What) (t : TableName) (edits : List Edit) → left what t (turned_round edits) ≡ found what t edits
left-turned what t [] = refl
left-turned what t (edit ∷ edits) =
    let rest = left-turned what t edits in
    let joined = left-append what t (turned_round edits) (turned edit ∷ []) in
    omega (arith, rest, joined)
