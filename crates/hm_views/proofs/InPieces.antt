-- Lists in pieces, and what transits of regions are.
use Rattle.std.proofs.Common.{◌≡◌, ◌≤◌, ◌<◌, ℕ, zero, suc, ◌+◌, ◌-◌, List, [], ◌∷◌, ◌++◌, length, map, take, drop, refl, ap, ◌∙◌, sym, arith, Bool, true, false, inl, inr, min, get_or, subst, nat_le, if◌then◌else◌, add-one, append_assoc, length-drop}
use Rattle.std.proofs.lemmas.Bool.{cases_lt, cond-false, cond-true, le-leb, lt-leb}
use Rattle.std.proofs.lemmas.List.{length-take}
use Rattle.hm_names.specs.Region.{Region}
use Rattle.hm_names.specs.declared.table.TableName.{TableName}
use Rattle.hm_data.specs.declared.args.Args.TheVariants as args_are
use Rattle.hm_data.specs.declared.args.Child.{Child}
use Rattle.hm_data.specs.declared.args.Child.TheVariants as child_is
use Rattle.hm_data.specs.declared.place.Goal.{Goal}
use Rattle.hm_model.proofs.KeyTests.{same_table-is, same_table-refl}
use Rattle.hm_model.specs.Keys.{same_table}
use Rattle.hm_model.specs.Pieces.{Batch, numbers_from, pieces_of, by_64, batches, with_batch, dropping, adding, transits}
use Rattle.hm_model.specs.Views.{regions_in}
use Rattle.hm_views.proofs.Ordered.{rising_ordered}
use Rattle.hm_views.specs.Runs.{leading}

-- one more was put after those so far
pub one_more : {X : Type 0} (so_far new : List X) (one : X) (left rest all : List X) → new ≡ so_far ++ one ∷ [] → left ≡ one ∷ rest → so_far ++ left ≡ all → new ++ rest ≡ all
one_more so_far new one left rest all grown is kept = ap (λ l. l ++ rest) grown ∙ append_assoc so_far (one ∷ []) rest ∙ ap (λ l. so_far ++ l) (sym is) ∙ kept

numbers_snoc : (first n : ℕ) → numbers_from first (suc n) ≡ numbers_from first n ++ (first + n) ∷ []
numbers_snoc first zero = let same : first ≡ first + 0 = omega arith in ap (λ k. k ∷ []) same
numbers_snoc first (suc n) =
    let same : first + 1 + n ≡ first + suc n = omega arith in
    ap (λ ns. first ∷ ns) (numbers_snoc (first + 1) n ∙ ap (λ k. numbers_from (first + 1) n ++ k ∷ []) same)

-- one number more
pub numbers_more : (first n : ℕ) → numbers_from first (n + 1) ≡ numbers_from first n ++ (first + n) ∷ []
numbers_more first n = ap (numbers_from first) (add-one n) ∙ numbers_snoc first n

-- so many pieces at most are enough
pieces_enough : {A : Type 0} (size most other : ℕ) (items : List A) → 0 < size → length items ≤ most → length items ≤ other → pieces_of size most items ≡ pieces_of size other items
pieces_enough size zero zero items some le more = refl
pieces_enough size zero (suc other) [] some le more = refl
pieces_enough size zero (suc other) (item ∷ items) some le more = absurd (omega (arith, le))
pieces_enough size (suc most) zero [] some le more = refl
pieces_enough size (suc most) zero (item ∷ items) some le more = absurd (omega (arith, more))
pieces_enough size (suc most) (suc other) [] some le more = refl
pieces_enough size (suc most) (suc other) (item ∷ items) some le more =
    let less : length (drop size (item ∷ items)) ≤ most = omega (arith, le, some, length-drop size (item ∷ items)) in
    let few : length (drop size (item ∷ items)) ≤ other = omega (arith, more, some, length-drop size (item ∷ items)) in
    ap (λ rest. take size (item ∷ items) ∷ rest) (pieces_enough size most other (drop size (item ∷ items)) some less few)

by_64_on : {A : Type 0} (items : List A) → 0 < length items → by_64 items ≡ take 64 items ∷ by_64 (drop 64 items)
by_64_on [] some = absurd (omega (arith, some))
by_64_on (item ∷ items) some =
    let less : length (drop 64 (item ∷ items)) ≤ length items = omega (arith, length-drop 64 (item ∷ items)) in
    ap (λ rest. take 64 (item ∷ items) ∷ rest) (pieces_enough 64 (length items) (length (drop 64 (item ∷ items))) (drop 64 (item ∷ items)) (omega arith) less (omega arith))

-- one piece more is dropped
pub dropping_on : (table : TableName) (ids : List ℕ) → 0 < length ids → dropping table ids ≡ child_is.One (args_are.DropRegions table (take 64 ids)) ∷ dropping table (drop 64 ids)
dropping_on table ids some = ap (map (λ piece. child_is.One (args_are.DropRegions table piece))) (by_64_on ids some)

take_most : {A : Type 0} (k : ℕ) (items : List A) → take (min (length items) k) items ≡ take k items
take_most zero items = let none : min (length items) 0 ≡ 0 = omega arith in ap (λ n. take n items) none
take_most (suc k) [] = let none : min 0 (suc k) ≡ 0 = omega arith in ap (λ n. take n []) none
take_most (suc k) (item ∷ items) =
    let least : min (length (item ∷ items)) (suc k) ≡ suc (min (length items) k) = omega arith in
    ap (λ n. take n (item ∷ items)) least ∙ ap (λ rest. item ∷ rest) (take_most k items)

drop_most : {A : Type 0} (k : ℕ) (items : List A) → drop (min (length items) k) items ≡ drop k items
drop_most zero items = let none : min (length items) 0 ≡ 0 = omega arith in ap (λ n. drop n items) none
drop_most (suc k) [] = let none : min 0 (suc k) ≡ 0 = omega arith in ap (λ n. drop n []) none
drop_most (suc k) (item ∷ items) =
    let least : min (length (item ∷ items)) (suc k) ≡ suc (min (length items) k) = omega arith in
    ap (λ n. drop n (item ∷ items)) least ∙ drop_most k items

-- the same, with no more than there are
pub dropping_by : (table : TableName) (ids : List ℕ) → 0 < length ids → dropping table ids ≡ child_is.One (args_are.DropRegions table (take (min (length ids) 64) ids)) ∷ dropping table (drop (min (length ids) 64) ids)
dropping_by table ids some =
    dropping_on table ids some
    ∙ ap (λ piece. child_is.One (args_are.DropRegions table piece) ∷ dropping table (drop 64 ids)) (sym (take_most 64 ids))
    ∙ ap (λ rest. child_is.One (args_are.DropRegions table (take (min (length ids) 64) ids)) ∷ dropping table rest) (sym (drop_most 64 ids))

-- the same, as the piece was cut off
pub dropping_cut : (table : TableName) (ids piece behind : List ℕ) (size : ℕ) (child : Child) → 0 < length ids → size ≡ min (length ids) 64 → piece ≡ take size ids → behind ≡ drop size ids → child ≡ child_is.One (args_are.DropRegions table piece) → dropping table ids ≡ child ∷ dropping table behind
dropping_cut table ids piece behind size child some least is left one = rw (one, is, left, least) (dropping_by table ids some)

-- so many procedures at most are enough
adding_enough : (most other : ℕ) (table : TableName) (first : ℕ) (bounds : List (List ℕ)) → length bounds ≤ most → length bounds ≤ other → adding most table first bounds ≡ adding other table first bounds
adding_enough zero zero table first bounds le more = refl
adding_enough zero (suc other) table first bounds le more = sym (cond-true (nat_le (length bounds) 1) [] (child_is.One (args_are.AddRegions table first (take 65 bounds)) ∷ adding other table (first + 64) (drop 64 bounds)) (le-leb (length bounds) 1 (omega (arith, le))))
adding_enough (suc most) zero table first bounds le more = cond-true (nat_le (length bounds) 1) [] (child_is.One (args_are.AddRegions table first (take 65 bounds)) ∷ adding most table (first + 64) (drop 64 bounds)) (le-leb (length bounds) 1 (omega (arith, more)))
adding_enough (suc most) (suc other) table first bounds le more = elim (cases_lt 1 (length bounds)) [
  | inl some ↦ ap (λ rest. if nat_le (length bounds) 1 then [] else (child_is.One (args_are.AddRegions table first (take 65 bounds)) ∷ rest)) (adding_enough most other table (first + 64) (drop 64 bounds) (omega (arith, le, some, length-drop 64 bounds)) (omega (arith, more, some, length-drop 64 bounds)))
  | inr none ↦
      let few : nat_le (length bounds) 1 ≡ true = le-leb (length bounds) 1 none in
      cond-true (nat_le (length bounds) 1) [] (child_is.One (args_are.AddRegions table first (take 65 bounds)) ∷ adding most table (first + 64) (drop 64 bounds)) few
      ∙ sym (cond-true (nat_le (length bounds) 1) [] (child_is.One (args_are.AddRegions table first (take 65 bounds)) ∷ adding other table (first + 64) (drop 64 bounds)) few)
]

-- nothing is added between fewer than two bounds
adding_none : (most : ℕ) (table : TableName) (first other : ℕ) (bounds : List (List ℕ)) → length bounds ≤ 1 → adding most table first bounds ≡ adding most table other bounds
adding_none zero table first other bounds few = refl
adding_none (suc most) table first other bounds few =
    let le : nat_le (length bounds) 1 ≡ true = le-leb (length bounds) 1 few in
    cond-true (nat_le (length bounds) 1) [] (child_is.One (args_are.AddRegions table first (take 65 bounds)) ∷ adding most table (first + 64) (drop 64 bounds)) le
    ∙ sym (cond-true (nat_le (length bounds) 1) [] (child_is.One (args_are.AddRegions table other (take 65 bounds)) ∷ adding most table (other + 64) (drop 64 bounds)) le)

adding_behind : (most : ℕ) (table : TableName) (first : ℕ) (bounds : List (List ℕ)) → adding most table (first + 64) (drop 64 bounds) ≡ adding most table (first + min (length bounds) 64) (drop 64 bounds)
adding_behind most table first bounds = elim (cases_lt (length bounds) 64) [
  | inl few ↦ adding_none most table (first + 64) (first + min (length bounds) 64) (drop 64 bounds) (omega (arith, few, length-drop 64 bounds))
  | inr many ↦ let all : 64 ≡ min (length bounds) 64 = omega (arith, many) in ap (λ n. adding most table (first + n) (drop 64 bounds)) all
]

adding_on : (most : ℕ) (table : TableName) (first : ℕ) (bounds : List (List ℕ)) → length bounds ≡ suc most → 1 < length bounds → adding (length bounds) table first bounds ≡ child_is.One (args_are.AddRegions table first (take 65 bounds)) ∷ adding most table (first + 64) (drop 64 bounds)
adding_on most table first bounds is some =
    ap (λ n. adding n table first bounds) is
    ∙ cond-false (nat_le (length bounds) 1) [] (child_is.One (args_are.AddRegions table first (take 65 bounds)) ∷ adding most table (first + 64) (drop 64 bounds)) (lt-leb (length bounds) 1 some)

-- one piece more is added, with no more than there are
pub adding_by : (table : TableName) (first : ℕ) (bounds : List (List ℕ)) → 1 < length bounds
    → adding (length bounds) table first bounds
    ≡ child_is.One (args_are.AddRegions table first (take (min (length bounds) 65) bounds))
    ∷ adding (length (drop (min (length bounds) 64) bounds)) table (first + length (take (min (length bounds) 64) bounds)) (drop (min (length bounds) 64) bounds)
adding_by table first bounds some =
    let most = length bounds - 1 in
    let taken : min (length bounds) 64 ≡ length (take (min (length bounds) 64) bounds) = omega (arith, length-take (min (length bounds) 64) bounds) in
    adding_on most table first bounds (omega (arith, some)) some
    ∙ ap (λ rest. child_is.One (args_are.AddRegions table first (take 65 bounds)) ∷ rest) (adding_behind most table first bounds)
    ∙ ap (λ piece. child_is.One (args_are.AddRegions table first piece) ∷ adding most table (first + min (length bounds) 64) (drop 64 bounds)) (sym (take_most 65 bounds))
    ∙ ap (λ rest. child_is.One (args_are.AddRegions table first (take (min (length bounds) 65) bounds)) ∷ rest) (
    adding_enough most (length (drop 64 bounds)) table (first + min (length bounds) 64) (drop 64 bounds) (omega (arith, some, length-drop 64 bounds)) (omega arith)
    ∙ ap (λ n. adding (length (drop 64 bounds)) table (first + n) (drop 64 bounds)) taken
    ∙ ap (λ rest. adding (length rest) table (first + length (take (min (length bounds) 64) bounds)) rest) (sym (drop_most 64 bounds))
    )

abbrev batch_of : TableName → List ℕ → Batch
batch_of table ids = record { table = table; ids = ids }

-- the same, as the piece was cut off
pub adding_cut : (table : TableName) (first next : ℕ) (bounds piece done behind : List (List ℕ)) (size most : ℕ) (child : Child) → 1 < length bounds → most ≡ min (length bounds) 65 → size ≡ min (length bounds) 64 → piece ≡ take most bounds → done ≡ take size bounds → behind ≡ drop size bounds → next ≡ first + length done → child ≡ child_is.One (args_are.AddRegions table first piece) → adding (length bounds) table first bounds ≡ child ∷ adding (length behind) table next behind
adding_cut table first next bounds piece done behind size most child some least few is did left on one = rw (one, is, left, on, did, least, few) (adding_by table first bounds some)

-- the first regions of a table make one batch
batches_run : (region : Region) (more : List Region) → batches (region ∷ more) ≡ record { table = region.table; ids = region.id ∷ map (λ r. r.id) (take (leading region.table more) more) } ∷ batches (drop (leading region.table more) more)
batches_run region [] = refl
batches_run region (next ∷ more) = by (batches_run next more) (same_table region.table next.table) refl
  where
    by : batches (next ∷ more) ≡ batch_of next.table (next.id ∷ map (λ r. r.id) (take (leading next.table more) more)) ∷ batches (drop (leading next.table more) more) → (b : Bool) → same_table region.table next.table ≡ b → batches (region ∷ next ∷ more) ≡ record { table = region.table; ids = region.id ∷ map (λ r. r.id) (take (leading region.table (next ∷ more)) (next ∷ more)) } ∷ batches (drop (leading region.table (next ∷ more)) (next ∷ more))
    by run true on =
        let one : region.table ≡ next.table = same_table-is region.table next.table on in
        let lead : leading region.table (next ∷ more) ≡ suc (leading next.table more) =
        cond-true (same_table region.table next.table) (leading region.table more + 1) 0 on
        ∙ add-one (leading region.table more)
        ∙ ap (λ t. suc (leading t more)) one
        in
        let behind = batches (drop (leading next.table more) more) in
        ap (with_batch region) run
        ∙ cond-true (same_table region.table next.table) (batch_of next.table (region.id ∷ next.id ∷ map (λ r. r.id) (take (leading next.table more) more)) ∷ behind) (batch_of region.table (region.id ∷ []) ∷ batch_of next.table (next.id ∷ map (λ r. r.id) (take (leading next.table more) more)) ∷ behind) on
        ∙ ap (λ t. batch_of t (region.id ∷ next.id ∷ map (λ r. r.id) (take (leading next.table more) more)) ∷ behind) (sym one)
        ∙ ap (λ n. batch_of region.table (region.id ∷ map (λ r. r.id) (take n (next ∷ more))) ∷ batches (drop n (next ∷ more))) (sym lead)
    by run false off =
        let lead : leading region.table (next ∷ more) ≡ 0 = cond-false (same_table region.table next.table) (leading region.table more + 1) 0 off in
        let behind = batches (drop (leading next.table more) more) in
        ap (with_batch region) run
        ∙ cond-false (same_table region.table next.table) (batch_of next.table (region.id ∷ next.id ∷ map (λ r. r.id) (take (leading next.table more) more)) ∷ behind) (batch_of region.table (region.id ∷ []) ∷ batch_of next.table (next.id ∷ map (λ r. r.id) (take (leading next.table more) more)) ∷ behind) off
        ∙ ap (λ bs. batch_of region.table (region.id ∷ []) ∷ bs) (sym run)
        ∙ ap (λ n. batch_of region.table (region.id ∷ map (λ r. r.id) (take n (next ∷ more))) ∷ batches (drop n (next ∷ more))) (sym lead)

leads_self : (region : Region) (more : List Region) → leading region.table (region ∷ more) ≡ suc (leading region.table more)
leads_self region more = cond-true (same_table region.table region.table) (leading region.table more + 1) 0 (same_table-refl region.table) ∙ add-one (leading region.table more)

-- the same of a list that isn't empty
pub batches_by : (regions : List Region) (first : Region) → 0 < length regions → first ≡ get_or regions 0 first → batches regions ≡ record { table = first.table; ids = map (λ r. r.id) (take (leading first.table regions) regions) } ∷ batches (drop (leading first.table regions) regions)
batches_by [] first some is = absurd (omega (arith, some))
batches_by (region ∷ more) first some is = subst (λ (f : Region). batches (region ∷ more) ≡ record { table = f.table; ids = map (λ r. r.id) (take (leading f.table (region ∷ more)) (region ∷ more)) } ∷ batches (drop (leading f.table (region ∷ more)) (region ∷ more))) (sym is) (
    batches_run region more
    ∙ ap (λ n. batch_of region.table (map (λ r. r.id) (take n (region ∷ more))) ∷ batches (drop n (region ∷ more))) (sym (leads_self region more)))

-- the same, as the run was cut off
pub batches_cut : (goal : Goal) (regions run behind : List Region) (first : Region) (table : TableName) (count : ℕ) (ids : List ℕ) (child : Child) → 0 < length regions → first ≡ get_or regions 0 first → table ≡ first.table → count ≡ leading table regions → run ≡ take count regions → behind ≡ drop count regions → ids ≡ map (λ r. r.id) run → child ≡ child_is.Transits table ids goal → map (λ batch. child_is.Transits batch.table batch.ids goal) (batches regions) ≡ child ∷ map (λ batch. child_is.Transits batch.table batch.ids goal) (batches behind)
batches_cut goal regions run behind first table count ids child some is own many front back named one = rw (one, named, front, back, many, own) (ap (map (λ batch. child_is.Transits batch.table batch.ids goal)) (batches_by regions first some is))

-- the first region of a list leads it
pub leads_first : (regions : List Region) (first : Region) → 0 < length regions → first ≡ get_or regions 0 first → 0 < leading first.table regions
leads_first [] first some is = absurd (omega (arith, some))
leads_first (region ∷ more) first some is = subst (λ (f : Region). 0 < leading f.table (region ∷ more)) (sym is) (omega (arith, leads_self region more))

-- regions of one table make one batch
one_batch : (table : TableName) (id : ℕ) (more : List ℕ) → batches (regions_in table (id ∷ more)) ≡ record { table = table; ids = id ∷ more } ∷ []
one_batch table id [] = refl
one_batch table id (next ∷ more) =
    ap (with_batch (record { table = table; id = id })) (one_batch table next more)
    ∙ cond-true (same_table table table) (batch_of table (id ∷ next ∷ more) ∷ []) (batch_of table (id ∷ []) ∷ batch_of table (next ∷ more) ∷ []) (same_table-refl table)

-- transits of regions of one table with rising ids
pub transits_on : (goal : Goal) (table : TableName) (first count : ℕ) → 0 < count → transits goal (regions_in table (numbers_from first count)) ≡ child_is.Transits table (numbers_from first count) goal ∷ []
transits_on goal table first zero some = absurd (omega (arith, some))
transits_on goal table first (suc count) some =
    ap (λ regions. map (λ batch. child_is.Transits batch.table batch.ids goal) (batches regions)) (rising_ordered table first (suc count))
    ∙ ap (map (λ batch. child_is.Transits batch.table batch.ids goal)) (one_batch table first (numbers_from (first + 1) count))
