-- Tables whose live regions have each key once, and edits that leave them so.
use Rattle.std.proofs.Common.{◌≡◌, ◌≢◌, ℕ, ◌+◌, ◌<◌, ◌≤◌, Bool, true, false, if◌then◌else◌, is_some, List, [], ◌∷◌, Option, Some, None, refl, sym, ap, subst, ◌∙◌, inl, inr, ◌⊎◌, arith}
use Rattle.std.proofs.lemmas.Bool.{cond-false, false≢true, false_from_ne_true}
use Rattle.std.proofs.lemmas.Option.{none-some}
use Rattle.hm_names.specs.Region.{Region}
use Rattle.hm_names.specs.Ranges.{holds, overlaps}
use Rattle.hm_names.specs.declared.range.KeyRange.{KeyRange}
use Rattle.hm_names.specs.declared.table.TableName.{TableName}
use Rattle.hm_names.proofs.Ranges.{common_key}
use Rattle.hm_data.specs.declared.catalog.CatKey.{CatKey}
use Rattle.hm_data.specs.declared.catalog.CatKey.TheVariants as key_is
use Rattle.hm_data.specs.declared.catalog.CatRow.{CatRow}
use Rattle.hm_data.specs.declared.catalog.CatRow.TheVariants as row_is
use Rattle.hm_data.specs.declared.catalog.Edit.{Edit}
use Rattle.hm_data.specs.declared.catalog.Status.{Status}
use Rattle.hm_data.specs.declared.catalog.Status.TheVariants as status_is
use Rattle.hm_model.proofs.Counting.{count_same, count_none, find_below}
use Rattle.hm_model.proofs.KeyTests.{cases_key}
use Rattle.hm_model.proofs.Small.{none_told, some_one}
use Rattle.hm_model.specs.Catalog.{Catalog, edited}
use Rattle.hm_model.specs.Changes.{region_key}
use Rattle.hm_model.specs.Counts.{count_below, one_if}
use Rattle.hm_model.specs.Keys.{same_key}
use Rattle.hm_model.specs.Ranges.{IsBare, IsCovered, IsLiveWith, NoneOverlap}
use Rattle.hm_model.specs.GoingBack.{Tells}
use Rattle.hm_cover.proofs.Chains.{HasKey}
use Rattle.hm_cover.proofs.Tally.{Row, Regions, total, found, left, serves, AllBelow, id_below, total_edits, one_place, two_places}

-- a live region's range has a key
abbrev pub if_live_filled : Status → KeyRange → Type 0
if_live_filled status_is.Live range = HasKey range
if_live_filled status range = Unit {0}

abbrev pub IsFilled : Option CatRow → Type 0
IsFilled None = Unit {0}
IsFilled (Some row_is.Ns) = Unit {0}
IsFilled (Some (row_is.Table state version)) = Unit {0}
IsFilled (Some (row_is.Region range status parents)) = if_live_filled status range

abbrev pub AllFilled : List Edit → Type 0
AllFilled [] = Unit {0}
AllFilled (edit ∷ edits) = IsFilled edit.after × AllFilled edits

-- each key is served by one region where the table is there, and by none where it isn't; then it has no rows at all
pub record Whole (n : ℕ) (there : Catalog) (t : TableName) : Type 0 where
  pub once : (k : List ℕ) → total (Regions (serves k)) there t n ≡ total Row there t n
  pub bare : total Row there t n ≡ 0 → total (Regions is_some) there t n ≡ 0
  pub filled : (id : ℕ) → IsFilled (there (region_key t id))
  pub low : (id : ℕ) → n ≤ id → there (region_key t id) ≡ None

-- the same of another catalog with the same regions' rows, and the table's there or not as there
pub whole_same : (n : ℕ) (a b : Catalog) (t : TableName) → ((id : ℕ) → b (region_key t id) ≡ a (region_key t id)) → is_some (b (key_is.Table t)) ≡ is_some (a (key_is.Table t)) → Whole n a t → Whole n b t
whole_same n a b t same row whole =
    let rows : one_if (is_some (b (key_is.Table t))) ≡ one_if (is_some (a (key_is.Table t))) = ap one_if row in
    let regions : (f : Option CatRow → Bool) → count_below (λ i. f (b (region_key t i))) n ≡ count_below (λ i. f (a (region_key t i))) n = (λ f. count_same n (λ i. f (b (region_key t i))) (λ i. f (a (region_key t i))) (λ i lt. ap f (same i))) in
    record {
      once = λ k. regions (serves k) ∙ whole.once k ∙ sym rows;
      bare = λ none. regions is_some ∙ whole.bare (sym rows ∙ none);
      filled = λ id. subst IsFilled (sym (same id)) (whole.filled id);
      low = λ id le. same id ∙ whole.low id le;
    }

-- a table that isn't there and has no regions' rows
pub whole_none : (n : ℕ) (there : Catalog) (t : TableName) → there (key_is.Table t) ≡ None → ((id : ℕ) → there (region_key t id) ≡ None) → Whole n there t
whole_none n there t gone none =
    let row : total Row there t n ≡ 0 = ap (λ o. one_if (is_some o)) gone in
    record {
      once = λ k. count_none n (λ i. serves k (there (region_key t i))) (λ i lt. ap (serves k) (none i)) ∙ sym row;
      bare = λ e. count_none n (λ i. is_some (there (region_key t i))) (λ i lt. ap is_some (none i));
      filled = λ id. subst IsFilled (sym (none id)) tt;
      low = λ id le. none id;
    }

pub edited_filled : (edits : List Edit) (key : CatKey) (row : Option CatRow) → AllFilled edits → IsFilled row → IsFilled (edited edits key row)
edited_filled [] key row all here = here
edited_filled (edit ∷ edits) key row all here = edited_filled edits key (if same_key key edit.key then edit.after else row) all.1 (by (same_key key edit.key))
  where
    by : (b : Bool) → IsFilled (if b then edit.after else row)
    by true = all.0
    by false = here

low_key : (n id : ℕ) (t : TableName) (key : CatKey) → n ≤ id → id_below n key → region_key t id ≡ key → ⊥
low_key n id t key le low e = let lt : id < n = subst (id_below n) (sym e) low in omega (arith, le, lt)

edited_high : (n id : ℕ) (t : TableName) (edits : List Edit) (row : Option CatRow) → n ≤ id → AllBelow n edits → edited edits (region_key t id) row ≡ row
edited_high n id t [] row le low = refl
edited_high n id t (edit ∷ edits) row le low = elim (cases_key (region_key t id) edit.key) [
  | inl same ↦ absurd (low_key n id t edit.key le low.0 same.1)
  | inr differs ↦ ap (edited edits (region_key t id)) (cond-false (same_key (region_key t id) edit.key) edit.after row differs.0) ∙ edited_high n id t edits row le low.1
]

-- edits that tell what was there leave a table whole where the counts come out so
pub whole_after : (n : ℕ) (edits : List Edit) (there : Catalog) (t : TableName) → Whole n there t → Tells edits there → AllBelow n edits → AllFilled edits
    → ((k : List ℕ) → total (Regions (serves k)) there t n + left (Regions (serves k)) t edits + found Row t edits ≡ total Row there t n + left Row t edits + found (Regions (serves k)) t edits)
    → (total Row there t n + left Row t edits ≡ found Row t edits → total (Regions is_some) there t n + left (Regions is_some) t edits ≡ found (Regions is_some) t edits)
    → Whole n (λ key. edited edits key (there key)) t
whole_after n edits there t whole told low full once bare =
    let rows = total_edits Row edits there t n low told in
    record {
      once = λ k. (
          let one = total_edits (Regions (serves k)) edits there t n low told in
          let o = once k in
          omega (arith, one, rows, o));
      bare = λ none. (
          let some = total_edits (Regions is_some) edits there t n low told in
          let b = bare (omega (arith, rows, none)) in
          omega (arith, some, b));
      filled = λ id. edited_filled edits (region_key t id) (there (region_key t id)) full (whole.filled id);
      low = λ id le. edited_high n id t edits (there (region_key t id)) le low ∙ whole.low id le;
    }

-- edits that leave each key served as often as before, and the table's own row alone
pub record IsEven (n : ℕ) (t : TableName) (edits : List Edit) : Type 0 where
  pub low : AllBelow n edits
  pub full : AllFilled edits
  pub same : (k : List ℕ) → found (Regions (serves k)) t edits ≡ left (Regions (serves k)) t edits
  pub found_row : found Row t edits ≡ 0
  pub left_row : left Row t edits ≡ 0

pub whole_even : (n : ℕ) (edits : List Edit) (there : Catalog) (t : TableName) → Whole n there t → Tells edits there → IsEven n t edits
    → (there (key_is.Table t) ≢ None) ⊎ (left (Regions is_some) t edits ≤ found (Regions is_some) t edits)
    → Whole n (λ key. edited edits key (there key)) t
whole_even n edits there t whole told even present =
    let fr = even.found_row in
    let lr = even.left_row in
    whole_after n edits there t whole told even.low even.full
    (λ k. (let o = whole.once k in let s = even.same k in omega (arith, o, s, fr, lr)))
    (λ e. (
    let none : total Row there t n ≡ 0 = omega (arith, e, fr, lr) in
    elim present [
      | inl some ↦ absurd (there_one (there (key_is.Table t)) some none)
      | inr fewer ↦ (
          let b = whole.bare none in
          let after = total_edits (Regions is_some) edits there t n even.low told in
          omega (arith, b, fewer, after))
    ]))
  where
    there_one : (o : Option CatRow) → o ≢ None → one_if (is_some o) ≡ 0 → ⊥
    there_one None some e = some refl
    there_one (Some row) some e = omega (arith, e)

-- from counts to words

serves_live : (k : List ℕ) (range : KeyRange) (parents : List ℕ) (o : Option CatRow) → o ≡ Some (row_is.Region range status_is.Live parents) → serves k o ≡ holds range k
serves_live k range parents o e = ap (serves k) e

pub key_of_id : (region : Region) (t : TableName) → region.table ≡ t → region_key t region.id ≡ key_is.Region region
key_of_id region t e = ap (λ x. key_is.Region (let one : Region = record { table = x; id = region.id } in one)) (sym e)

row_at_most : (o : Option CatRow) → one_if (is_some o) ≤ 1
row_at_most None = omega arith
row_at_most (Some row) = omega arith

low_id : (n : ℕ) (there : Catalog) (t : TableName) → Whole n there t → (region : Region) (range : KeyRange) → region.table ≡ t → IsLiveWith there region range → region.id < n
low_id n there t whole region range e live = elim (Rattle.hm_model.proofs.Trees.le_or_lt n region.id) [
  | inl le ↦ absurd (none-some (row_is.Region range status_is.Live live.0) (sym (whole.low region.id le) ∙ ap there (key_of_id region t e) ∙ live.1))
  | inr lt ↦ lt
]

-- a region that is live and has the key is one of a table that serves it
serving : (there : Catalog) (t : TableName) (region : Region) (range : KeyRange) (k : List ℕ) → region.table ≡ t → IsLiveWith there region range → holds range k ≡ true → serves k (there (region_key t region.id)) ≡ true
serving there t region range k e live has = serves_live k range live.0 (there (region_key t region.id)) (ap there (key_of_id region t e) ∙ live.1) ∙ has

pub none_shared : (n : ℕ) (there : Catalog) (t : TableName) → Whole n there t → (a b : Region) (one other : KeyRange) → a.table ≡ t → b.table ≡ t → a ≢ b → IsLiveWith there a one → IsLiveWith there b other → (k : List ℕ) → holds one k ≡ true → holds other k ≡ true → ⊥
none_shared n there t whole a b one other ta tb ne la lb k ha hb =
    let ids : a.id ≢ b.id = (λ e. ne (ap (λ x. let r : Region = record { table = x; id = a.id } in r) (ta ∙ sym tb) ∙ ap (λ i. let r : Region = record { table = b.table; id = i } in r) e)) in
    let g : ℕ → Bool = λ i. serves k (there (region_key t i)) in
    let two = two_places n a.id b.id g (low_id n there t whole a one ta la) (low_id n there t whole b other tb lb) ids in
    let first : one_if (g a.id) ≡ 1 = ap one_if (serving there t a one k ta la ha) in
    let second : one_if (g b.id) ≡ 1 = ap one_if (serving there t b other k tb lb hb) in
    let once = whole.once k in
    let most = row_at_most (there (key_is.Table t)) in
    omega (arith, two, first, second, once, most)

live_has_key : (o : Option CatRow) (range : KeyRange) (parents : List ℕ) → o ≡ Some (row_is.Region range status_is.Live parents) → IsFilled o → HasKey range
live_has_key o range parents e filled = subst IsFilled e filled

pub filled_key : (there : Catalog) (t : TableName) → ((id : ℕ) → IsFilled (there (region_key t id))) → (region : Region) (range : KeyRange) → region.table ≡ t → IsLiveWith there region range → HasKey range
filled_key there t filled region range e live = live_has_key (there (region_key t region.id)) range live.0 (ap there (key_of_id region t e) ∙ live.1) (filled region.id)

pub none_overlap : (n : ℕ) (there : Catalog) (t : TableName) → Whole n there t → NoneOverlap there t
none_overlap n there t whole a b one other ta tb ne la lb = false_from_ne_true (overlaps one other) (λ over.
    let k = common_key one other one.start other.start (filled_key there t whole.filled a one ta la) (filled_key there t whole.filled b other tb lb) over in
    none_shared n there t whole a b one other ta tb ne la lb k.0 k.1 k.2)

-- a row that serves a key is of a live region
pub serves_is : (k : List ℕ) (o : Option CatRow) → serves k o ≡ true → (range : KeyRange) × (parents : List ℕ) × (o ≡ Some (row_is.Region range status_is.Live parents)) × (holds range k ≡ true)
serves_is k None e = absurd (false≢true e)
serves_is k (Some row_is.Ns) e = absurd (false≢true e)
serves_is k (Some (row_is.Table state version)) e = absurd (false≢true e)
serves_is k (Some (row_is.Region range status_is.Live parents)) e = (range, parents, refl, e)
serves_is k (Some (row_is.Region range status_is.Split parents)) e = absurd (false≢true e)
serves_is k (Some (row_is.Region range status_is.Merged parents)) e = absurd (false≢true e)

pub covered : (n : ℕ) (there : Catalog) (t : TableName) → Whole n there t → there (key_is.Table t) ≢ None → IsCovered there t
covered n there t whole some k = elim (find_below n (λ i. serves k (there (region_key t i)))) [
  | inl at ↦
      let is = serves_is k (there (region_key t at.0)) at.2 in
      let region : Region = record { table = t; id = at.0 } in
      (region, is.0, refl, (is.1, is.2), is.3)
  | inr none ↦
      let zero_now = count_none n (λ i. serves k (there (region_key t i))) none in
      let once = whole.once k in
      let one = some_one (there (key_is.Table t)) some in
      absurd (omega (arith, zero_now, once, one))
]

pub bare_all : (n : ℕ) (there : Catalog) (t : TableName) → Whole n there t → there (key_is.Table t) ≡ None → (id : ℕ) → there (region_key t id) ≡ None
bare_all n there t whole gone id = elim (Rattle.hm_model.proofs.Trees.le_or_lt n id) [
  | inl le ↦ whole.low id le
  | inr lt ↦
      let zero_now = whole.bare (ap (λ o. one_if (is_some o)) gone) in
      let here = one_place n id (λ i. is_some (there (region_key t i))) lt in
      none_told (there (region_key t id)) (none_by (is_some (there (region_key t id))) (omega (arith, zero_now, here)))
]
  where
    none_by : (b : Bool) → one_if b ≤ 0 → b ≡ false
    none_by true le = absurd (omega (arith, le))
    none_by false le = refl

pub bare_at : (n : ℕ) (there : Catalog) (t : TableName) → Whole n there t → there (key_is.Table t) ≡ None → IsBare there t
bare_at n there t whole gone region e = ap there (sym (key_of_id region t e)) ∙ bare_all n there t whole gone region.id
