-- The regions of a base.
use Rattle.std.proofs.Common.{◌≡◌, ◌≢◌, ℕ, ◌<◌, ◌≤◌, [], ◌∷◌, List, Option, Some, None, true, false, is_some, refl, sym, ap, subst, ◌∙◌, arith, inl, inr, ◌⊎◌}
use Rattle.std.proofs.lemmas.Bool.{and_from, cases_eq, cond-false, cond-true, false≢true, true≢false}
use Rattle.std.proofs.lemmas.Option.{none-some}
use Rattle.hm_names.specs.Ranges.{ends_behind, overlaps}
use Rattle.hm_names.specs.Region.{Region}
use Rattle.hm_names.proofs.Ranges.{shared_ends}
use Rattle.hm_names.specs.declared.range.KeyRange.{KeyRange}
use Rattle.hm_names.specs.declared.table.TableName.{TableName}
use Rattle.hm_data.specs.declared.catalog.CatKey.{CatKey}
use Rattle.hm_data.specs.declared.catalog.CatKey.TheVariants as key_is
use Rattle.hm_data.specs.declared.catalog.CatRow.{CatRow}
use Rattle.hm_data.specs.declared.catalog.CatRow.TheVariants as row_is
use Rattle.hm_data.specs.declared.catalog.Status.{Status}
use Rattle.hm_data.specs.declared.catalog.Status.TheVariants as status_is
use Rattle.hm_data.specs.declared.place.Place.{Place}
use Rattle.hm_model.proofs.Rising.{table_new}
use Rattle.hm_model.specs.Base.{HasNoHalfBase, IsWhole, PartFits, RangeFits}
use Rattle.hm_model.specs.Catalog.{cat}
use Rattle.hm_model.specs.Changes.{region_key}
use Rattle.hm_model.specs.Counts.{count_below, one_if}
use Rattle.hm_data.specs.declared.entry.Entry.TheVariants as entry_is
use Rattle.hm_model.specs.Journal.{Past}
use Rattle.hm_model.specs.Keys.{same_key}
use Rattle.hm_model.specs.Laws.{are_parts}
use Rattle.hm_data.specs.declared.part.Part.{Part}
use Rattle.hm_data.specs.declared.part.Part.TheVariants as part_is
use Rattle.hm_model.specs.Parts.{part_row}
use Rattle.hm_model.specs.Ranges.{IsLiveWith, NoneOverlap}
use Rattle.hm_model.specs.Rules.{IsLegal}
use Rattle.hm_model.proofs.Grown.{all_parts, ids_within}
use Rattle.hm_model.specs.Serial.{serial}
use Rattle.hm_model.proofs.KeyTests.{cases_key, same_key-refl}
use Rattle.hm_model.proofs.Counting.{count_most, count_none}
use Rattle.hm_ids.proofs.DrawnAll.{ids_are_drawn}
use Rattle.hm_cover.proofs.Tally.{one_place, serves}
use Rattle.hm_cover.proofs.Whole.{IsFilled, Whole, serves_is}

-- a part is of the region, or leaves its row
abbrev pub IsOwn : Part → Region → Type 0
IsOwn part r = (range : KeyRange) × (status : Status) × (parents : List ℕ) × (place : Place) × (part ≡ part_is.Region r range status parents place)

own_or : (part : Part) (J : Past) → PartFits part J → (r : Region) → IsOwn part r ⊎ (part_row part (key_is.Region r) (cat J (key_is.Region r)) ≡ cat J (key_is.Region r))
own_or (part_is.Head entries last parts sheets) J fits r = inr (sym (ap (λ j. cat j (key_is.Region r)) fits.0))
own_or (part_is.Region own range status parents place) J fits r = elim (cases_key (key_is.Region r) (key_is.Region own)) [
  | inl same ↦ inl (range, status, parents, place, ap (λ k. part_is.Region k range status parents place) (own_is same.1))
  | inr differs ↦ inr (cond-false (same_key (key_is.Region r) (key_is.Region own)) (Some (row_is.Region range status parents)) (cat J (key_is.Region r)) differs.0)
]
  where
    own_is : key_is.Region r ≡ key_is.Region own → own ≡ r
    own_is e = cc
own_or part J fits r = inr refl

own_row : (r : Region) (range : KeyRange) (status : Status) (parents : List ℕ) (place : Place) (row : Option CatRow) → part_row (part_is.Region r range status parents place) (key_is.Region r) row ≡ Some (row_is.Region range status parents)
own_row r range status parents place row = cond-true (same_key (key_is.Region r) (key_is.Region r)) (Some (row_is.Region range status parents)) row (same_key-refl (key_is.Region r))

-- the regions of some parts
pub record Regions (J : Past) : Type 0 where
  pub apart : (t : TableName) → NoneOverlap (cat J) t
  pub filled : (r : Region) → IsFilled (cat J (key_is.Region r))
  pub homed : (r : Region) → cat J (key_is.Region r) ≢ None → cat J (key_is.Table r.table) ≢ None

live_row : (range one : KeyRange) (status : Status) (parents more : List ℕ) → Some (row_is.Region range status parents) ≡ Some (row_is.Region one status_is.Live more) → (range ≡ one) × (status ≡ status_is.Live)
live_row range one status parents more e = (cc, cc)

filled_by : (J : Past) (r : Region) (range : KeyRange) (status : Status) (parents : List ℕ) → RangeFits J r range status → IsFilled (Some (row_is.Region range status parents))
filled_by J r range status_is.Live parents fits = (fits refl).0
filled_by J r range status parents fits = tt

module _ (part : Part) (J : Past) (legal : IsLegal (entry_is.Base part ∷ J)) (was : Regions J) where
  fits_own : (r : Region) (own : IsOwn part r) → PartFits (part_is.Region r own.0 own.1 own.2 own.3) J
  fits_own r own = subst (λ p. PartFits p J) own.4 legal.1.0

  row_own : (r : Region) (own : IsOwn part r) → cat (entry_is.Base part ∷ J) (key_is.Region r) ≡ Some (row_is.Region own.0 own.1 own.2)
  row_own r own = ap (λ p. part_row p (key_is.Region r) (cat J (key_is.Region r))) own.4 ∙ own_row r own.0 own.1 own.2 own.3 (cat J (key_is.Region r))

  same_region : (a b : Region) → IsOwn part a → IsOwn part b → a ≡ b
  same_region a b one other = by (sym one.4 ∙ other.4)
    where
      by : part_is.Region a one.0 one.1 one.2 one.3 ≡ part_is.Region b other.0 other.1 other.2 other.3 → a ≡ b
      by e = cc

  apart_now : (t : TableName) → NoneOverlap (cat (entry_is.Base part ∷ J)) t
  apart_now t a b one other ta tb differs la lb = by (own_or part J legal.1.0 a) (own_or part J legal.1.0 b)
    where
      by : IsOwn part a ⊎ (part_row part (key_is.Region a) (cat J (key_is.Region a)) ≡ cat J (key_is.Region a)) → IsOwn part b ⊎ (part_row part (key_is.Region b) (cat J (key_is.Region b)) ≡ cat J (key_is.Region b)) → overlaps one other ≡ false
      by (inl x) (inl y) = absurd (differs (same_region a b x y))
      by (inr x) (inr y) = was.apart t a b one other ta tb differs (la.0, sym x ∙ la.1) (lb.0, sym y ∙ lb.1)
      by (inl x) (inr y) =
          let is = live_row x.0 one x.1 x.2 la.0 (sym (row_own a x) ∙ la.1) in
          subst (λ r. overlaps r other ≡ false) is.0 (((fits_own a x).5 is.1).1 b other (tb ∙ sym ta) (lb.0, sym y ∙ lb.1)).0
      by (inr x) (inl y) =
          let is = live_row y.0 other y.1 y.2 lb.0 (sym (row_own b y) ∙ lb.1) in
          subst (λ r. overlaps one r ≡ false) is.0 (((fits_own b y).5 is.1).1 a one (ta ∙ sym tb) (la.0, sym x ∙ la.1)).1

  filled_now : (r : Region) → IsFilled (cat (entry_is.Base part ∷ J) (key_is.Region r))
  filled_now r = elim (own_or part J legal.1.0 r) [
    | inl x ↦ subst IsFilled (sym (row_own r x)) (filled_by J r x.0 x.1 x.2 (fits_own r x).5)
    | inr x ↦ subst IsFilled (sym x) (was.filled r)
  ]

  -- a table's row stays while regions come
  table_stays : (t : TableName) → cat J (key_is.Table t) ≢ None → cat (entry_is.Base part ∷ J) (key_is.Table t) ≢ None
  table_stays t some = by part legal.1.0
    where
      by : (p : Part) → PartFits p J → part_row p (key_is.Table t) (cat J (key_is.Table t)) ≢ None
      by (part_is.Head entries last parts sheets) fits = absurd (some (ap (λ j. cat j (key_is.Table t)) fits.0))
      by (part_is.Table own ids row) fits = elim (cases_key (key_is.Table t) (key_is.Table own)) [
        | inl same ↦ absurd (some (ap (cat J) same.1 ∙ (table_new own ids row J legal.0 fits).0))
        | inr differs ↦ λ none. some (sym (cond-false (same_key (key_is.Table t) (key_is.Table own)) _ (cat J (key_is.Table t)) differs.0) ∙ none)
      ]
      by part fits = some

  homed_now : (r : Region) → cat (entry_is.Base part ∷ J) (key_is.Region r) ≢ None → cat (entry_is.Base part ∷ J) (key_is.Table r.table) ≢ None
  homed_now r some = elim (own_or part J legal.1.0 r) [
    | inl x ↦ let home = (fits_own r x).4 in table_stays r.table (λ none. none-some _ (sym none ∙ home.2))
    | inr x ↦ table_stays r.table (was.homed r (λ none. some (x ∙ none)))
  ]

pub regions_of_parts : (J : Past) → IsLegal J → are_parts J ≡ true → Regions J
regions_of_parts [] legal is = record { apart = λ t a b one other ta tb differs la lb. absurd (none-some _ la.1); filled = λ r. tt; homed = λ r some. absurd (some refl) }
regions_of_parts (entry_is.Base part ∷ J) legal is = let was = regions_of_parts J legal.0 is in record { apart = apart_now part J legal was; filled = filled_now part J legal was; homed = homed_now part J legal was }
regions_of_parts (entry ∷ J) legal is = absurd (false≢true is)

-- a legal journal is parts alone, or has no unfinished base
pub half_or : (J : Past) → IsLegal J → (are_parts J ≡ true) ⊎ HasNoHalfBase J
half_or [] legal = inr tt
half_or (entry_is.Base part ∷ J) legal = inl (all_parts (entry_is.Base part ∷ J) legal refl)
half_or (entry ∷ J) legal = inr tt

-- of parts alone the catalog is that of the deeds
pub parts_serial : (J : Past) → are_parts J ≡ true → (key : CatKey) → serial J key ≡ cat J key
parts_serial [] is key = refl
parts_serial (entry_is.Base part ∷ J) is key = ap (part_row part key) (parts_serial J is key)
parts_serial (entry ∷ J) is key = absurd (false≢true is)

-- a whole base leaves each table whole
pub base_whole : (n : ℕ) → 4096 < n → (J : Past) → IsLegal J → are_parts J ≡ true → IsWhole J → (t : TableName) → Whole n (cat J) t
base_whole n big J legal is whole t = record {
  once = λ k. by k (cat J (key_is.Table t)) refl;
  bare = λ none. count_none n (λ i. is_some (cat J (region_key t i))) (λ i lt. none_at i (cat J (key_is.Table t)) refl none);
  filled = λ id. regions.filled (record { table = t; id = id });
  low = low;
}
  where
    regions : Regions J
    regions = regions_of_parts J legal is

    low : (id : ℕ) → n ≤ id → cat J (region_key t id) ≡ None
    low id le = by_row (cat J (region_key t id)) refl
      where
        by_row : (o : Option CatRow) → cat J (region_key t id) ≡ o → o ≡ None
        by_row None e = refl
        by_row (Some row) e =
            let drew = ids_are_drawn J legal t id (λ none. none-some row (sym none ∙ e)) in
            let within = ids_within J legal t in
            absurd (omega (arith, le, big, drew.1, within))

    none_at : (i : ℕ) (o : Option CatRow) → cat J (key_is.Table t) ≡ o → one_if (is_some o) ≡ 0 → is_some (cat J (region_key t i)) ≡ false
    none_at i (Some row) e none = absurd (omega (arith, none))
    none_at i None e none = by_row (cat J (region_key t i)) refl
      where
        by_row : (o : Option CatRow) → cat J (region_key t i) ≡ o → is_some o ≡ false
        by_row None f = refl
        by_row (Some row) f = absurd (regions.homed (record { table = t; id = i }) (λ none. none-some row (sym none ∙ f)) e)

    unique : (k : List ℕ) (i j : ℕ) → serves k (cat J (region_key t i)) ≡ true → serves k (cat J (region_key t j)) ≡ true → i ≡ j
    unique k i j on up = elim (cases_eq i j) [
      | inl same ↦ same
      | inr differs ↦
          let a = serves_is k (cat J (region_key t i)) on in
          let b = serves_is k (cat J (region_key t j)) up in
          let off = regions.apart t (record { table = t; id = i }) (record { table = t; id = j }) a.0 b.0 refl refl (λ e. differs (ap (λ (r : Region). r.id) e)) (a.1, a.2) (b.1, b.2) in
          absurd (true≢false (sym (and_from (ends_behind a.0 b.0.start) (ends_behind b.0 a.0.start) (shared_ends a.0 b.0 k a.3 b.3) (shared_ends b.0 a.0 k b.3 a.3)) ∙ off))
    ]

    by : (k : List ℕ) (o : Option CatRow) → cat J (key_is.Table t) ≡ o → count_below (λ i. serves k (cat J (region_key t i))) n ≡ one_if (is_some o)
    by k None e = count_none n (λ i. serves k (cat J (region_key t i))) (λ i lt. ap (serves k) (row_none i (cat J (region_key t i)) refl))
      where
        row_none : (i : ℕ) (o : Option CatRow) → cat J (region_key t i) ≡ o → cat J (region_key t i) ≡ None
        row_none i None f = f
        row_none i (Some row) f = absurd (regions.homed (record { table = t; id = i }) (λ none. none-some row (sym none ∙ f)) e)
    by k (Some row) e =
        let at = whole.covered t (λ none. none-some row (sym none ∙ e)) k in
        let most = count_most n (λ i. serves k (cat J (region_key t i))) (λ i j lt less on up. unique k i j on up) in
        let few = id_low at.0 at.1 at.2 at.3 in
        let here : serves k (cat J (region_key t at.0.id)) ≡ true = ap (λ o. serves k o) (row_at at.0 at.1 at.2 at.3) ∙ at.4 in
        let least = one_place n at.0.id (λ i. serves k (cat J (region_key t i))) few in
        let one : one_if (serves k (cat J (region_key t at.0.id))) ≡ 1 = ap one_if here in
        omega (arith, most, least, one)
      where
        row_at : (r : Region) (range : KeyRange) → r.table ≡ t → (live : IsLiveWith (cat J) r range) → cat J (region_key t r.id) ≡ Some (row_is.Region range status_is.Live live.0)
        row_at r range same live = ap (λ u. cat J (region_key u r.id)) (sym same) ∙ live.1

        id_low : (r : Region) (range : KeyRange) → r.table ≡ t → IsLiveWith (cat J) r range → r.id < n
        id_low r range same live =
            let drew = ids_are_drawn J legal r.table r.id (λ none. none-some _ (sym none ∙ live.1)) in
            let within = ids_within J legal r.table in
            omega (arith, big, drew.1, within)
