-- What a child does to the catalog: the rows that it changes, and what they become.
use Rattle.std.proofs.Common.{◌≡◌, ◌≢◌, ℕ, zero, suc, ◌+◌, ◌-◌, ◌<◌, ◌≤◌, List, [], ◌∷◌, Bool, true, false, ◌&&◌, ◌||◌, ◌==◌, nat_le, cond, length, take, drop, map, Option, Some, None, is_some, refl, ap, sym, ◌∙◌, subst, inl, inr, ◌⊎◌, slice_get, arith}
use Rattle.std.specs.List.{list_any}
use Rattle.std.proofs.lemmas.Bool.{and_from, and_left, and_parts, cases_Bool, cases_eq, cond-false, cond-true, eq-eqb, eqb-true, false≢true, le-leb, leb-true, ne_eqb, or_cases, or_left, or_right, true≢false}
use Rattle.std.proofs.lemmas.Option.{none-some, same_Some, slice_get_within}
use Rattle.hm_names.specs.Region.{Region}
use Rattle.hm_names.specs.declared.range.KeyRange.{KeyRange}
use Rattle.hm_names.specs.declared.table.TableName.{TableName}
use Rattle.hm_data.specs.declared.args.Args.{Args}
use Rattle.hm_data.specs.declared.args.Args.TheVariants as args_are
use Rattle.hm_data.specs.declared.args.Child.{Child}
use Rattle.hm_data.specs.declared.args.Child.TheVariants as child_is
use Rattle.hm_data.specs.declared.catalog.CatKey.{CatKey}
use Rattle.hm_data.specs.declared.catalog.CatKey.TheVariants as key_is
use Rattle.hm_data.specs.declared.catalog.CatRow.{CatRow}
use Rattle.hm_model.specs.Catalog.{Catalog, edited}
use Rattle.hm_model.specs.Changes.{add_ranges, live_row, region_key, remove_regions}
use Rattle.hm_model.specs.Keys.{same_key, same_table}
use Rattle.hm_model.specs.Reads.{is_region_in}
use Rattle.hm_model.specs.Pieces.{adding, dropping, pieces_of, ranges_between, ranges_from}
use Rattle.hm_model.specs.Tree.{args_in}
use Rattle.hm_model.specs.Views.{regions_in}
use Rattle.hm_model.proofs.KeyTests.{same_table-is, same_table-refl}

-- a live region between two bounds, if both are there: its end, and its start
abbrev pub row_between : Option (List ℕ) → Option (List ℕ) → Option CatRow
row_between None start = None
row_between (Some end) None = None
row_between (Some end) (Some start) = Some (live_row (record { start = start; end = end }) [])

-- the region at a place among bounds
abbrev pub between : List (List ℕ) → ℕ → Option CatRow
between bounds place = row_between (slice_get bounds (suc place)) (slice_get bounds place)

-- the row of a key, if it is one of the regions between bounds, with ids from the first on
abbrev pub added_row : TableName → ℕ → List (List ℕ) → CatKey → Option CatRow
added_row table first bounds (key_is.Region region) =
    cond (same_table region.table table && nat_le first region.id) (between bounds (region.id - first)) None
added_row table first bounds key = None

-- a number is among others
abbrev pub is_one_of : ℕ → List ℕ → Bool
is_one_of id ids = list_any (λ own. own == id) ids

-- a procedure changes the row
abbrev pub touches : Args → CatKey → Bool
touches (args_are.AddRegions table first bounds) key = is_some (added_row table first bounds key)
touches (args_are.DropRegions table ids) key = is_region_in table (λ id. is_one_of id ids) key
touches args key = false

-- what the row becomes
abbrev pub value : Args → CatKey → Option CatRow
value (args_are.AddRegions table first bounds) key = added_row table first bounds key
value args key = None

-- the first of two rows that is there
abbrev pub row_or : Option CatRow → Option CatRow → Option CatRow
row_or None row = row
row_or (Some new) row = Some new

pub row_or-cond : (new row : Option CatRow) → row_or new row ≡ cond (is_some new) new row
row_or-cond None row = refl
row_or-cond (Some new) row = refl

-- regions that are added change no other row
pub add_elsewhere : (there : Catalog) (table : TableName) (ranges : List KeyRange) (first : ℕ) (key : CatKey) (row : Option CatRow) → ((id : ℕ) → first ≤ id → same_key key (region_key table id) ≡ false) → edited (add_ranges there table first ranges) key row ≡ row
add_elsewhere there table [] first key row off = refl
add_elsewhere there table (range ∷ ranges) first key row off =
    ap (edited (add_ranges there table (first + 1) ranges) key) (cond-false (same_key key (region_key table first)) (Some (live_row range [])) row (off first (omega arith)))
    ∙ add_elsewhere there table ranges (first + 1) key row (λ id le. off id (omega (arith, le)))

key_there : (table : TableName) (id : ℕ) → same_key (region_key table id) (region_key table id) ≡ true
key_there table id = and_from (same_table table table) (id == id) (same_table-refl table) (eq-eqb id id refl)

key_other : (table : TableName) (id other : ℕ) → id ≢ other → same_key (region_key table id) (region_key table other) ≡ false
key_other table id other differs = Rattle.std.proofs.lemmas.Bool.and_right (same_table table table) (id == other) (ne_eqb id other differs)

-- the row of a region at a place after the first
add_at : (there : Catalog) (table : TableName) (bounds : List (List ℕ)) (start : List ℕ) (first place id : ℕ) → id ≡ first + place → (row : Option CatRow) → edited (add_ranges there table first (ranges_from start bounds)) (region_key table id) row ≡ row_or (between (start ∷ bounds) place) row
add_at there table [] start first place id e row = refl
add_at there table (end ∷ bounds) start first zero id e row =
    ap (edited (add_ranges there table (first + 1) (ranges_from end bounds)) (region_key table id)) (cond-true (same_key (region_key table id) (region_key table first)) (Some (live_row (record { start = start; end = end }) [])) row (here (omega (arith, e))))
    ∙ add_elsewhere there table (ranges_from end bounds) (first + 1) (region_key table id) (Some (live_row (record { start = start; end = end }) [])) (λ other le. key_other table id other (λ same. omega (arith, e, le, same)))
  where
    here : id ≡ first → same_key (region_key table id) (region_key table first) ≡ true
    here same = ap (λ n. same_key (region_key table id) (region_key table n)) (sym same) ∙ key_there table id
add_at there table (end ∷ bounds) start first (suc place) id e row =
    ap (edited (add_ranges there table (first + 1) (ranges_from end bounds)) (region_key table id)) (cond-false (same_key (region_key table id) (region_key table first)) (Some (live_row (record { start = start; end = end }) [])) row (key_other table id first (λ same. omega (arith, e, same))))
    ∙ add_at there table bounds end (first + 1) place id (omega (arith, e)) row

none_between : (there : Catalog) (table : TableName) (first : ℕ) (bounds : List (List ℕ)) (key : CatKey) (row : Option CatRow) → ((id : ℕ) → first ≤ id → same_key key (region_key table id) ≡ false) → edited (add_ranges there table first (ranges_between bounds)) key row ≡ row
none_between there table first bounds key row off = add_elsewhere there table (ranges_between bounds) first key row off

-- what regions that are added leave of a row
pub add_effect : (there : Catalog) (table : TableName) (first : ℕ) (bounds : List (List ℕ)) (key : CatKey) (row : Option CatRow) → edited (add_ranges there table first (ranges_between bounds)) key row ≡ row_or (added_row table first bounds key) row
add_effect there table first bounds (key_is.Region region) row = elim (cases_Bool (same_table region.table table)) [
  | inr off ↦
      none_between there table first bounds (key_is.Region region) row (λ id le. and_left (same_table region.table table) (region.id == id) off)
      ∙ ap (λ o. row_or o row) (sym (cond-false (same_table region.table table && nat_le first region.id) (between bounds (region.id - first)) None (and_left (same_table region.table table) (nat_le first region.id) off)))
  | inl on ↦ elim (cases_Bool (nat_le first region.id)) [
    | inr below ↦
        none_between there table first bounds (key_is.Region region) row (λ id le. Rattle.std.proofs.lemmas.Bool.and_right (same_table region.table table) (region.id == id) (ne_eqb region.id id (λ same. true≢false (sym (le-leb first region.id (omega (arith, le, same))) ∙ below))))
        ∙ ap (λ o. row_or o row) (sym (cond-false (same_table region.table table && nat_le first region.id) (between bounds (region.id - first)) None (Rattle.std.proofs.lemmas.Bool.and_right (same_table region.table table) (nat_le first region.id) below)))
    | inl high ↦
        let named : key_is.Region region ≡ region_key table region.id = ap (λ t. region_key t region.id) (same_table-is region.table table on) in
        let le = leb-true first region.id high in
        ap (λ k. edited (add_ranges there table first (ranges_between bounds)) k row) named
        ∙ at bounds (omega (arith, le))
        ∙ ap (λ o. row_or o row) (sym (cond-true (same_table region.table table && nat_le first region.id) (between bounds (region.id - first)) None (and_from (same_table region.table table) (nat_le first region.id) on high)))
  ]
]
  where
    at : (list : List (List ℕ)) → region.id ≡ first + (region.id - first) → edited (add_ranges there table first (ranges_between list)) (region_key table region.id) row ≡ row_or (between list (region.id - first)) row
    at [] e = refl
    at (start ∷ list) e = add_at there table list start first (region.id - first) region.id e row
add_effect there table first bounds key row = none_between there table first bounds key row (λ id le. refl)

-- parts of lists
take_in : {A : Type 0} (n k : ℕ) (xs : List A) → k < n → slice_get (take n xs) k ≡ slice_get xs k
take_in zero k xs lt = absurd (omega (arith, lt))
take_in (suc n) k [] lt = refl
take_in (suc n) zero (x ∷ xs) lt = refl
take_in (suc n) (suc k) (x ∷ xs) lt = take_in n k xs (omega (arith, lt))

take_out : {A : Type 0} (n k : ℕ) (xs : List A) → n ≤ k → slice_get (take n xs) k ≡ None
take_out zero k xs le = refl
take_out (suc n) k [] le = refl
take_out (suc n) zero (x ∷ xs) le = absurd (omega (arith, le))
take_out (suc n) (suc k) (x ∷ xs) le = take_out n k xs (omega (arith, le))

drop_at : {A : Type 0} (n k : ℕ) (xs : List A) → slice_get (drop n xs) k ≡ slice_get xs (n + k)
drop_at zero k xs = ap (slice_get xs) (omega arith)
drop_at (suc n) k [] = refl
drop_at (suc n) k (x ∷ xs) = drop_at n k xs ∙ sym (ap (slice_get (x ∷ xs)) (by_suc n k))
  where
    by_suc : (n k : ℕ) → suc n + k ≡ suc (n + k)
    by_suc n k = omega arith

length_drop : {A : Type 0} (n : ℕ) (xs : List A) → length (drop n xs) ≡ length xs - n
length_drop zero xs = omega arith
length_drop (suc n) [] = omega arith
length_drop (suc n) (x ∷ xs) = (let e = length_drop n xs in omega (arith, e))

some_between : (bounds : List (List ℕ)) (place : ℕ) → is_some (between bounds place) ≡ true → suc place < length bounds
some_between bounds place some = by (slice_get bounds (suc place)) refl
  where
    by : (o : Option (List ℕ)) → slice_get bounds (suc place) ≡ o → suc place < length bounds
    by None e = absurd (false≢true (ap (λ o. is_some (row_between o (slice_get bounds place))) (sym e) ∙ some))
    by (Some end) e = slice_get_within bounds (suc place) end e

head_between : (n place : ℕ) (bounds : List (List ℕ)) → suc place < n → between (take n bounds) place ≡ between bounds place
head_between n place bounds lt = ap (λ o. row_between o (slice_get (take n bounds) place)) (take_in n (suc place) bounds lt) ∙ ap (row_between (slice_get bounds (suc place))) (take_in n place bounds (omega (arith, lt)))

tail_between : (n place : ℕ) (bounds : List (List ℕ)) → between (drop n bounds) place ≡ between bounds (n + place)
tail_between n place bounds = ap (λ o. row_between o (slice_get (drop n bounds) place)) (drop_at n (suc place) bounds ∙ ap (slice_get bounds) (omega arith)) ∙ ap (row_between (slice_get bounds (suc (n + place)))) (drop_at n place bounds)

-- what is known of a region that is one of those between bounds
record IsAdded (table : TableName) (first : ℕ) (bounds : List (List ℕ)) (region : Region) : Type 0 where
  on : (same_table region.table table && nat_le first region.id) ≡ true
  low : first ≤ region.id
  some : is_some (between bounds (region.id - first)) ≡ true
  is : added_row table first bounds (key_is.Region region) ≡ between bounds (region.id - first)

is_added : (table : TableName) (first : ℕ) (bounds : List (List ℕ)) (region : Region) → is_some (added_row table first bounds (key_is.Region region)) ≡ true → IsAdded table first bounds region
is_added table first bounds region some = elim (cases_Bool (same_table region.table table && nat_le first region.id)) [
  | inl on ↦
      let is = cond-true (same_table region.table table && nat_le first region.id) (between bounds (region.id - first)) None on in
      record { on = on; low = leb-true first region.id (and_parts (same_table region.table table) (nat_le first region.id) on).1; some = ap is_some (sym is) ∙ some; is = is }
  | inr off ↦ absurd (false≢true (ap is_some (sym (cond-false (same_table region.table table && nat_le first region.id) (between bounds (region.id - first)) None off)) ∙ some))
]

added_is : (table : TableName) (first : ℕ) (bounds : List (List ℕ)) (region : Region) → same_table region.table table ≡ true → first ≤ region.id → added_row table first bounds (key_is.Region region) ≡ between bounds (region.id - first)
added_is table first bounds region same low = cond-true (same_table region.table table && nat_le first region.id) (between bounds (region.id - first)) None (and_from (same_table region.table table) (nat_le first region.id) same (le-leb first region.id low))

-- a child will change the row
abbrev pub Touched : List Args → CatKey → Type 0
Touched children key = (i : ℕ) × (made : Args) × (slice_get children i ≡ Some made) × (touches made key ≡ true)

touched_later : (first : Args) (more : List Args) (key : CatKey) → Touched more key → Touched (first ∷ more) key
touched_later first more key t = (suc t.0, t.1, t.2, t.3)

-- each of children that adds regions gives those of its rows that all of them are to have
abbrev pub GivesRow : (CatKey → Option CatRow) → Args → Type 0
GivesRow rows made = (key : CatKey) → touches made key ≡ true → rows key ≡ value made key

head_gives : (table : TableName) (first : ℕ) (bounds : List (List ℕ)) → GivesRow (added_row table first bounds) (args_are.AddRegions table first (take 65 bounds))
head_gives table first bounds (key_is.Region region) on =
    let a = is_added table first (take 65 bounds) region on in
    let short = some_between (take 65 bounds) (region.id - first) a.some in
    let most = take_length 65 bounds in
    added_is table first bounds region (and_parts (same_table region.table table) (nat_le first region.id) a.on).0 a.low
    ∙ sym (head_between 65 (region.id - first) bounds (omega (arith, short, most))) ∙ sym a.is
  where
    take_length : {A : Type 0} (n : ℕ) (xs : List A) → length (take n xs) ≤ n
    take_length zero xs = omega arith
    take_length (suc n) [] = omega arith
    take_length (suc n) (x ∷ xs) = (let e = take_length n xs in omega (arith, e))
head_gives table first bounds key on = refl

tail_gives : (table : TableName) (first : ℕ) (bounds : List (List ℕ)) (made : Args) → GivesRow (added_row table (first + 64) (drop 64 bounds)) made → ((key : CatKey) → touches made key ≡ true → is_some (added_row table (first + 64) (drop 64 bounds) key) ≡ true) → GivesRow (added_row table first bounds) made
tail_gives table first bounds made gives within (key_is.Region region) on =
    let a = is_added table (first + 64) (drop 64 bounds) region (within (key_is.Region region) on) in
    let low = a.low in
    added_is table first bounds region (and_parts (same_table region.table table) (nat_le (first + 64) region.id) a.on).0 (omega (arith, low))
    ∙ ap (between bounds) (shift region.id first low) ∙ sym (tail_between 64 (region.id - (first + 64)) bounds) ∙ sym a.is ∙ gives (key_is.Region region) on
  where
    shift : (id first : ℕ) → first + 64 ≤ id → id - first ≡ 64 + (id - (first + 64))
    shift id first low = omega (arith, low)
tail_gives table first bounds made gives within key on = absurd (false≢true (within key on))

abbrev GivesIn : TableName → ℕ → List (List ℕ) → Args → Type 0
GivesIn table first bounds made = GivesRow (added_row table first bounds) made × ((key : CatKey) → touches made key ≡ true → is_some (added_row table first bounds key) ≡ true)

value_some : (made : Args) (key : CatKey) (rows : CatKey → Option CatRow) → ((args : Args) → made ≡ args → is_some (value made key) ≡ touches made key) → rows key ≡ value made key → touches made key ≡ true → is_some (rows key) ≡ true
value_some made key rows tells is on = ap is_some is ∙ tells made refl ∙ on

-- those between bounds that are added in pieces
adding_gives : (table : TableName) (most first : ℕ) (bounds : List (List ℕ)) (i : ℕ) (made : Args) → slice_get (args_in (adding most table first bounds)) i ≡ Some made → GivesIn table first bounds made
adding_gives table zero first bounds i made is = absurd (none-some made is)
adding_gives table (suc most) first bounds i made is = by (λ j g. adding_gives table most (first + 64) (drop 64 bounds) j made g) (nat_le (length bounds) 1) i is
  where
    by : ((j : ℕ) → slice_get (args_in (adding most table (first + 64) (drop 64 bounds))) j ≡ Some made → GivesIn table (first + 64) (drop 64 bounds) made) → (b : Bool) (i : ℕ) → slice_get (args_in (cond b [] (child_is.One (args_are.AddRegions table first (take 65 bounds)) ∷ adding most table (first + 64) (drop 64 bounds)))) i ≡ Some made → GivesIn table first bounds made
    by again true i g = absurd (none-some made g)
    by again false zero g =
        let mine : args_are.AddRegions table first (take 65 bounds) ≡ made = same_Some (args_are.AddRegions table first (take 65 bounds)) made g in
        subst (GivesIn table first bounds) mine (head_gives table first bounds, λ key on. ap is_some (head_gives table first bounds key on) ∙ on)
    by again false (suc i) g =
        let later = again i g in
        let gives = tail_gives table first bounds made later.0 later.1 in
        (gives, λ key on. ap is_some (gives key on ∙ sym (later.0 key on)) ∙ later.1 key on)

pub adding_owes : (table : TableName) (most first : ℕ) (bounds : List (List ℕ)) (i : ℕ) (made : Args) → slice_get (args_in (adding most table first bounds)) i ≡ Some made → (key : CatKey) → touches made key ≡ true → (added_row table first bounds key ≡ value made key) × (is_some (added_row table first bounds key) ≡ true)
adding_owes table most first bounds i made is key on = let g = adding_gives table most first bounds i made is in (g.0 key on, g.1 key on)

pub adding_touches : (table : TableName) (most first : ℕ) (bounds : List (List ℕ)) → length bounds ≤ most → (key : CatKey) → is_some (added_row table first bounds key) ≡ true → Touched (args_in (adding most table first bounds)) key
adding_touches table most first bounds short (key_is.Ns ns) on = absurd (false≢true on)
adding_touches table most first bounds short (key_is.Table other) on = absurd (false≢true on)
adding_touches table zero first bounds short (key_is.Region region) on =
    let a = is_added table first bounds region on in
    let long = some_between bounds (region.id - first) a.some in
    absurd (omega (arith, short, long))
adding_touches table (suc most) first bounds short (key_is.Region region) on = by (λ low. adding_touches table most (first + 64) (drop 64 bounds) low (key_is.Region region)) (nat_le (length bounds) 1) refl
  where
    a : IsAdded table first bounds region
    a = is_added table first bounds region on

    long : suc (region.id - first) < length bounds
    long = some_between bounds (region.id - first) a.some

    shift : (id first : ℕ) → first + 64 ≤ id → 64 + (id - (first + 64)) ≡ id - first
    shift id first low = omega (arith, low)

    by : (length (drop 64 bounds) ≤ most → is_some (added_row table (first + 64) (drop 64 bounds) (key_is.Region region)) ≡ true → Touched (args_in (adding most table (first + 64) (drop 64 bounds))) (key_is.Region region)) → (b : Bool) → nat_le (length bounds) 1 ≡ b → Touched (args_in (cond b [] (child_is.One (args_are.AddRegions table first (take 65 bounds)) ∷ adding most table (first + 64) (drop 64 bounds)))) (key_is.Region region)
    by again true e = (let le = leb-true (length bounds) 1 e in let l = long in absurd (omega (arith, le, l)))
    by again false e = elim (cases_Bool (nat_le (first + 64) region.id)) [
      | inl far ↦
          let low = leb-true (first + 64) region.id far in
          let len = length_drop 64 bounds in
          let l = long in
          touched_later (args_are.AddRegions table first (take 65 bounds)) (args_in (adding most table (first + 64) (drop 64 bounds))) (key_is.Region region)
          (again (omega (arith, len, short, l))
          (ap is_some (added_is table (first + 64) (drop 64 bounds) region (and_parts (same_table region.table table) (nat_le first region.id) a.on).0 low ∙ tail_between 64 (region.id - (first + 64)) bounds ∙ ap (between bounds) (shift region.id first low)) ∙ a.some))
      | inr near ↦ (
        0,
        args_are.AddRegions table first (take 65 bounds),
        refl,
        ap is_some (added_is table first (take 65 bounds) region (and_parts (same_table region.table table) (nat_le first region.id) a.on).0 a.low ∙ head_between 65 (region.id - first) bounds (close near)) ∙ a.some,
      )
    ]
      where
        close : nat_le (first + 64) region.id ≡ false → suc (region.id - first) < 65
        close near = elim (Rattle.hm_model.proofs.Trees.le_or_lt (first + 64) region.id) [
          | inl le ↦ absurd (true≢false (sym (le-leb (first + 64) region.id le) ∙ near))
          | inr lt ↦ omega (arith, lt)
        ]

-- regions that are removed
pub remove_effect : (there : Catalog) (table : TableName) (ids : List ℕ) (key : CatKey) (row : Option CatRow) → edited (remove_regions there (regions_in table ids)) key row ≡ cond (touches (args_are.DropRegions table ids) key) None row
remove_effect there table [] (key_is.Ns ns) row = refl
remove_effect there table [] (key_is.Table other) row = refl
remove_effect there table [] (key_is.Region region) row = sym (cond-false (same_table table region.table && false) None row (Rattle.std.proofs.lemmas.Bool.and_right (same_table table region.table) false refl))
remove_effect there table (id ∷ ids) (key_is.Ns ns) row = remove_effect there table ids (key_is.Ns ns) row
remove_effect there table (id ∷ ids) (key_is.Table other) row = remove_effect there table ids (key_is.Table other) row
remove_effect there table (id ∷ ids) (key_is.Region region) row =
    remove_effect there table ids (key_is.Region region) (cond (same_key (key_is.Region region) (region_key table id)) None row)
    ∙ by (same_table table region.table) refl (id == region.id) refl (is_one_of region.id ids)
  where
    flip : (a b : TableName) → same_table a b ≡ true → same_table b a ≡ true
    flip a b h = ap (λ x. same_table x a) (sym (same_table-is a b h)) ∙ same_table-refl a

    joined : (t i : Bool) → same_table table region.table ≡ t → (id == region.id) ≡ i → same_key (key_is.Region region) (region_key table id) ≡ (t && i)
    joined true true e f = and_from (same_table region.table table) (region.id == id) (flip table region.table e) (eq-eqb region.id id (sym (eqb-true id region.id f)))
    joined true false e f = Rattle.std.proofs.lemmas.Bool.and_right (same_table region.table table) (region.id == id) (ne_eqb region.id id (λ same. true≢false (sym (eq-eqb id region.id (sym same)) ∙ f)))
    joined false i e f = and_left (same_table region.table table) (region.id == id) (off (cases_Bool (same_table region.table table)))
      where
        off : (same_table region.table table ≡ true) ⊎ (same_table region.table table ≡ false) → same_table region.table table ≡ false
        off (inl on) = absurd (true≢false (sym (flip region.table table on) ∙ e))
        off (inr stays) = stays

    by : (t : Bool) → same_table table region.table ≡ t → (i : Bool) → (id == region.id) ≡ i → (more : Bool) → cond (same_table table region.table && more) None (cond (same_key (key_is.Region region) (region_key table id)) None row) ≡ cond (same_table table region.table && ((id == region.id) || more)) None row
    by t e i f more = rw (e, f, joined t i e f) (all t i more)
      where
        all : (t i more : Bool) → cond (t && more) None (cond (t && i) None row) ≡ cond (t && (i || more)) None row
        all true true true = refl
        all true true false = refl
        all true false true = refl
        all true false false = refl
        all false i more = refl

-- one of the numbers is in a piece of them, and each of a piece is one of them
one_of_append : (id : ℕ) (n : ℕ) (ids : List ℕ) → is_one_of id ids ≡ true → (is_one_of id (take n ids) ≡ true) ⊎ (is_one_of id (drop n ids) ≡ true)
one_of_append id zero ids h = inr h
one_of_append id (suc n) [] h = inr h
one_of_append id (suc n) (x ∷ xs) h = elim (or_cases (x == id) (is_one_of id xs) h) [
  | inl here ↦ inl (or_left (x == id) (is_one_of id (take n xs)) here)
  | inr later ↦ elim (one_of_append id n xs later) [ inl t ↦ inl (or_right (x == id) (is_one_of id (take n xs)) t) | inr d ↦ inr d ]
]

one_of_take : (id n : ℕ) (ids : List ℕ) → is_one_of id (take n ids) ≡ true → is_one_of id ids ≡ true
one_of_take id zero ids h = absurd (false≢true h)
one_of_take id (suc n) [] h = h
one_of_take id (suc n) (x ∷ xs) h = elim (or_cases (x == id) (is_one_of id (take n xs)) h) [
  | inl here ↦ or_left (x == id) (is_one_of id xs) here
  | inr later ↦ or_right (x == id) (is_one_of id xs) (one_of_take id n xs later)
]

one_of_drop : (id n : ℕ) (ids : List ℕ) → is_one_of id (drop n ids) ≡ true → is_one_of id ids ≡ true
one_of_drop id zero ids h = h
one_of_drop id (suc n) [] h = h
one_of_drop id (suc n) (x ∷ xs) h = or_right (x == id) (is_one_of id xs) (one_of_drop id n xs h)

abbrev pub drop_child : TableName → List ℕ → Child
drop_child table piece = child_is.One (args_are.DropRegions table piece)

touches_in : (table : TableName) (ids : List ℕ) (region : Region) → touches (args_are.DropRegions table ids) (key_is.Region region) ≡ true → (same_table table region.table ≡ true) × (is_one_of region.id ids ≡ true)
touches_in table ids region on = and_parts (same_table table region.table) (is_one_of region.id ids) on

pieces_touch : (table : TableName) (size most : ℕ) (ids : List ℕ) → length ids ≤ most → 1 ≤ size → (region : Region) → same_table table region.table ≡ true → is_one_of region.id ids ≡ true → Touched (args_in (map (drop_child table) (pieces_of size most ids))) (key_is.Region region)
pieces_touch table size zero [] short some region same on = absurd (false≢true on)
pieces_touch table size zero (id ∷ ids) short some region same on = absurd (omega (arith, short))
pieces_touch table size (suc most) [] short some region same on = absurd (false≢true on)
pieces_touch table size (suc most) (id ∷ ids) short some region same on = elim (one_of_append region.id size (id ∷ ids) on) [
  | inl here ↦ (0, args_are.DropRegions table (take size (id ∷ ids)), refl, and_from (same_table table region.table) (is_one_of region.id (take size (id ∷ ids))) same here)
  | inr later ↦
      let len = length_drop size (id ∷ ids) in
      touched_later (args_are.DropRegions table (take size (id ∷ ids))) (args_in (map (drop_child table) (pieces_of size most (drop size (id ∷ ids))))) (key_is.Region region)
      (pieces_touch table size most (drop size (id ∷ ids)) (omega (arith, len, short, some)) some region same later)
]

pub dropping_touches : (table : TableName) (ids : List ℕ) (key : CatKey) → touches (args_are.DropRegions table ids) key ≡ true → Touched (args_in (dropping table ids)) key
dropping_touches table ids (key_is.Region region) on = let t = touches_in table ids region on in pieces_touch table 64 (length ids) ids (omega arith) (omega arith) region t.0 t.1
dropping_touches table ids key on = absurd (false≢true on)

pieces_within : (table : TableName) (size most : ℕ) (ids : List ℕ) (i : ℕ) (made : Args) → slice_get (args_in (map (drop_child table) (pieces_of size most ids))) i ≡ Some made → (piece : List ℕ) × (made ≡ args_are.DropRegions table piece) × ((id : ℕ) → is_one_of id piece ≡ true → is_one_of id ids ≡ true)
pieces_within table size zero ids i made is = absurd (none-some made is)
pieces_within table size (suc most) [] i made is = absurd (none-some made is)
pieces_within table size (suc most) (id ∷ ids) zero made is = (take size (id ∷ ids), sym (same_Some (args_are.DropRegions table (take size (id ∷ ids))) made is), λ n on. one_of_take n size (id ∷ ids) on)
pieces_within table size (suc most) (id ∷ ids) (suc i) made is =
    let later = pieces_within table size most (drop size (id ∷ ids)) i made is in
    (later.0, later.1, λ n on. one_of_drop n size (id ∷ ids) (later.2 n on))

pub dropping_owes : (table : TableName) (ids : List ℕ) (i : ℕ) (made : Args) → slice_get (args_in (dropping table ids)) i ≡ Some made → (key : CatKey) → touches made key ≡ true → (value made key ≡ None) × (touches (args_are.DropRegions table ids) key ≡ true)
dropping_owes table ids i made is key on =
    let w = pieces_within table 64 (length ids) ids i made is in
    (ap (λ a. value a key) w.1, by w.0 key (ap (λ a. touches a key) (sym w.1) ∙ on) w.2)
  where
    by : (piece : List ℕ) (key : CatKey) → touches (args_are.DropRegions table piece) key ≡ true → ((id : ℕ) → is_one_of id piece ≡ true → is_one_of id ids ≡ true) → touches (args_are.DropRegions table ids) key ≡ true
    by piece (key_is.Region region) on within = let t = touches_in table piece region on in and_from (same_table table region.table) (is_one_of region.id ids) t.0 (within region.id t.1)
    by piece key on within = absurd (false≢true on)
