-- Live regions of one table never overlap, also while the table is made, changed or deleted.
use Rattle.hm_model.specs.Base.{HasNoHalfBase}
use Rattle.hm_cover.proofs.Based.{half_or, parts_serial, regions_of_parts}
use Rattle.std.proofs.Common.{◌≡◌, ◌≢◌, ℕ, ◌+◌, ◌<◌, ◌≤◌, List, [], ◌∷◌, ◌++◌, length, true, false, is_some, Option, Some, None, refl, ap, sym, ◌∙◌, subst, inl, inr, ◌⊎◌, arith}
use Rattle.std.proofs.lemmas.Bool.{cases_Bool, false≢true, true≢false}
use Rattle.std.proofs.lemmas.Option.{none-some}
use Rattle.hm_names.specs.Region.{Region}
use Rattle.hm_names.specs.declared.range.KeyRange.{KeyRange}
use Rattle.hm_names.specs.declared.table.TableName.{TableName}
use Rattle.hm_data.specs.declared.args.Args.{Args}
use Rattle.hm_data.specs.declared.args.Args.TheVariants as args_are
use Rattle.hm_data.specs.declared.catalog.CatKey.TheVariants as key_is
use Rattle.hm_data.specs.declared.catalog.CatRow.{CatRow}
use Rattle.hm_data.specs.declared.catalog.CatRow.TheVariants as row_is
use Rattle.hm_data.specs.declared.catalog.Status.TheVariants as status_is
use Rattle.hm_data.specs.declared.catalog.Edit.{Edit}
use Rattle.hm_data.specs.declared.catalog.TableState.TheVariants as state_is
use Rattle.hm_data.specs.declared.request.Request.{Request}
use Rattle.hm_data.specs.declared.request.Request.TheVariants as request_is
use Rattle.hm_model.specs.Catalog.{Catalog, cat, edited, set_to, was}
use Rattle.hm_model.specs.Changes.{add_ranges, region_key}
use Rattle.hm_model.specs.Checks.{namespace_there, table_absent, table_free}
use Rattle.hm_model.specs.Journal.{Past}
use Rattle.hm_model.specs.Lists.{Line}
use Rattle.hm_model.specs.Pieces.{ranges_between}
use Rattle.hm_model.specs.Ranges.{IsLiveWith, NoneOverlap}
use Rattle.hm_model.specs.Reads.{covers}
use Rattle.hm_model.specs.Requests.{rise}
use Rattle.hm_model.specs.Rules.{IsLegal}
use Rattle.hm_model.specs.Serial.{serial}
use Rattle.hm_model.specs.Keys.{same_table}
use Rattle.hm_model.specs.Tree.{Node, made}
use Rattle.hm_model.specs.Views.{asked_of}
use Rattle.hm_model.proofs.Grown.{ids_within}
use Rattle.hm_model.proofs.KeyTests.{same_table-is}
use Rattle.hm_model.proofs.Trees.{grown_all, is_there}
use Rattle.hm_kinds.proofs.CreateTable.{bounds_for}
use Rattle.hm_kinds.proofs.Roots.{StageOf}
use Rattle.hm_kinds.proofs.Shares.{add_effect}
use Rattle.hm_serial.proofs.Frame.{cover_guards}
use Rattle.hm_model.proofs.Tops.{TopHolds}
use Rattle.hm_model.proofs.Answered.{or_none}
use Rattle.hm_serial.proofs.StandAll.{stands_all}
use Rattle.hm_cover.proofs.CatWhole.{cat_whole, wide_rows}
use Rattle.hm_cover.proofs.Deeds.{absent_is, between_length, keys_rise}
use Rattle.hm_ids.proofs.DrawnAll.{DrawnIn, drawn_all}
use Rattle.hm_cover.proofs.Holding.{covered_or}
use Rattle.hm_cover.proofs.Local.{asks_regions, local_free}
use Rattle.hm_cover.proofs.Mixed.{IsMixed, mixed_all}
use Rattle.hm_cover.proofs.SerialWhole.{asked_ids, whole_all}
use Rattle.hm_cover.proofs.Stages.{IsAdded, IsLess, creating_row, deleting_row, disabling_row, enabling_row, modifying_row}
use Rattle.hm_cover.proofs.TableDeeds.{created_own}
use Rattle.hm_cover.proofs.Whole.{IsFilled, Whole, bare_all, filled_key, key_of_id, none_overlap, whole_same}
use Rattle.hm_cover.specs.Theorem.{LiveRangesHaveKeys, LiveRegionsNeverOverlap, RangesHaveKeys}
use Rattle.std.proofs.Math.Bool.{or-false}

-- each row of a table's regions is none, or that of another catalog
abbrev IsPart : Catalog → Catalog → TableName → Type 0
IsPart there over t = (id : ℕ) → IsLess over (region_key t id) (there (region_key t id))

-- its live regions don't overlap, and each has a key
abbrev IsTidy : Catalog → TableName → Type 0
IsTidy there t = NoneOverlap there t × ((id : ℕ) → IsFilled (there (region_key t id)))

whole_tidy : (n : ℕ) (there : Catalog) (t : TableName) → Whole n there t → IsTidy there t
whole_tidy n there t whole = (none_overlap n there t whole, whole.filled)

part_tidy : (there over : Catalog) (t : TableName) → IsPart there over t → IsTidy over t → IsTidy there t
part_tidy there over t part tidy = (
  (λ a b one other ta tb ne la lb. tidy.0 a b one other ta tb ne (live_over a one ta la) (live_over b other tb lb)),
  (λ id. elim (part id) [ inl gone ↦ subst IsFilled (sym gone) tt | inr is ↦ subst IsFilled (sym is) (tidy.1 id) ]),
)
  where
    live_over : (r : Region) (range : KeyRange) → r.table ≡ t → IsLiveWith there r range → IsLiveWith over r range
    live_over r range own live =
        let key = key_of_id r t own in
        elim (part r.id) [
          | inl gone ↦ absurd (none-some (row_is.Region range status_is.Live live.0) (sym gone ∙ ap there key ∙ live.1))
          | inr is ↦ (live.0, ap over (sym key) ∙ sym is ∙ ap there key ∙ live.1)
        ]

free_absent : (there : Catalog) (u : TableName) → table_free (there (key_is.Ns u.ns)) (there (key_is.Table u)) ≡ None → there (key_is.Table u) ≡ None
free_absent there u none = absent_is (there (key_is.Table u)) (or_none (namespace_there (there (key_is.Ns u.ns))) (table_absent (there (key_is.Table u))) none).1

-- a root that holds and asks for the table alone
module _ (n : ℕ) (big : 4096 < n) (J : Past) (legal : IsLegal J) (begun : HasNoHalfBase J) (r : ℕ) (node : Node) (holds : TopHolds J r node) (wide : asks_regions node.args ≡ false) (t : TableName) (c : covers node.args (key_is.Table t) ≡ true) where
  covered_row : (id : ℕ) → covers node.args (region_key t id) ≡ true
  covered_row id = wide_rows node.args wide t id ∙ c

  -- what stood before its first step is what the deeds give
  whole_was : Whole n (was J r) t
  whole_was =
      let base = ((stands_all J legal).tree r node holds).base in
      whole_same n (serial J) (was J r) t (λ id. sym (base (region_key t id) (cover_guards node.args (region_key t id) (covered_row id)))) (ap is_some (sym (base (key_is.Table t) (cover_guards node.args (key_is.Table t) c)))) ((whole_all n big J legal begun).whole t)

  mixed : (id : ℕ) → IsMixed node.args (was J r) (region_key t id) (cat J (region_key t id))
  mixed id = (mixed_all J legal r node holds wide).rows (region_key t id) refl (covered_row id)

  -- a root whose stages only take rows away
  less_apart : ((id : ℕ) → IsLess (was J r) (region_key t id) (cat J (region_key t id))) → IsTidy (cat J) t
  less_apart less = part_tidy (cat J) (was J r) t less (whole_tidy n (was J r) t whole_was)

  lessens : (request : Request) (first : ℕ) → node.args ≡ args_are.Root request first → ((lines : List Line) (then : List Edit) (id : ℕ) → StageOf request first (was J r) lines then → IsLess (was J r) (region_key t id) (edited then (region_key t id) (was J r (region_key t id)))) → IsTidy (cat J) t
  lessens request first own stages = less_apart (λ id. elim (subst (λ a. IsMixed a (was J r) (region_key t id) (cat J (region_key t id))) own (mixed id)) [
    | inl none ↦ inl none
    | inr (inl same) ↦ inr same
    | inr (inr staged) ↦ elim (stages staged.0 staged.1 id staged.2) [ inl none ↦ inl (staged.3 ∙ none) | inr same ↦ inr (staged.3 ∙ same) ]
  ])

  -- a root that creates the table
  module _ (split : List (List ℕ)) (first : ℕ) (own : node.args ≡ args_are.Root (request_is.CreateTable t split) first) where
    asked : asked_of node.args ≡ Some (record { request = request_is.CreateTable t split; first = first })
    asked = ap asked_of own

    rises : rise [] split ≡ true
    rises = keys_rise split ((whole_all n big J legal begun).sound r node (record { request = request_is.CreateTable t split; first = first }) holds.0.0 asked)

    low : first + length (ranges_between ([] ∷ split ++ [] ∷ [])) ≤ n
    low =
        let le = (asked_ids (DrawnIn J) node.args (record { request = request_is.CreateTable t split; first = first }) ((drawn_all J legal).args r node holds.0.0) asked t (first + length split) (refl, (omega arith), (omega arith))).1 in
        let few = ids_within J legal t in
        let size = between_length split in
        omega (arith, le, few, big, size)

    each : (id : ℕ) → IsLess (was J r) (region_key t id) (cat J (region_key t id)) ⊎ IsAdded t split first (was J r) (region_key t id) (cat J (region_key t id))
    each id = elim (subst (λ a. IsMixed a (was J r) (region_key t id) (cat J (region_key t id))) own (mixed id)) [
      | inl none ↦ inl (inl none)
      | inr (inl same) ↦ inl (inr same)
      | inr (inr staged) ↦ subst (λ o. IsLess (was J r) (region_key t id) o ⊎ IsAdded t split first (was J r) (region_key t id) o) (sym staged.3) (creating_row (was J r) t id t split first staged.0 staged.1 staged.2)
    ]

    -- the table with all its new regions
    abbrev full : Catalog
    full key = edited (set_to (was J r) (key_is.Table t) (Some (row_is.Table state_is.Enabled 1)) ∷ add_ranges (was J r) t first (ranges_between ([] ∷ split ++ [] ∷ []))) key (was J r key)

    new_apart : was J r (key_is.Table t) ≡ None → IsTidy (cat J) t
    new_apart gone = part_tidy (cat J) full t part (whole_tidy n full t (created_own n (was J r) t split first gone rises low whole_was))
      where
        part : IsPart (cat J) full t
        part id = elim (each id) [
          | inl (inl none) ↦ inl none
          | inl (inr same) ↦ inl (same ∙ bare_all n (was J r) t whole_was gone id)
          | inr added ↦ inr (added.1 ∙ sym (add_effect (was J r) t first (bounds_for split) (region_key t id) (was J r (region_key t id))))
        ]

    there_apart : was J r (key_is.Table t) ≢ None → IsTidy (cat J) t
    there_apart some = less_apart (λ id. elim (each id) [ inl less ↦ less | inr added ↦ absurd (some (free_absent (was J r) t added.0)) ])

    create_apart : IsTidy (cat J) t
    create_apart = by (was J r (key_is.Table t)) refl
      where
        by : (o : Option CatRow) → was J r (key_is.Table t) ≡ o → IsTidy (cat J) t
        by None e = new_apart e
        by (Some row) e = there_apart (λ none. none-some row (sym none ∙ e))

  by_args : (args : Args) → node.args ≡ args → IsTidy (cat J) t
  by_args (args_are.Root (request_is.CreateTable u split) first) own = create_apart split first (own ∙ ap (λ x. args_are.Root (request_is.CreateTable x split) first) (same_table-is u t (sym (or-false (same_table u t)) ∙ ap (λ a. covers a (key_is.Table t)) (sym own) ∙ c)))
  by_args (args_are.Root (request_is.DeleteTable u) first) own = lessens (request_is.DeleteTable u) first own (λ lines then id stage. deleting_row (was J r) t id u lines then stage)
  by_args (args_are.Root (request_is.EnableTable u) first) own = lessens (request_is.EnableTable u) first own (λ lines then id stage. enabling_row (was J r) t id u lines then stage)
  by_args (args_are.Root (request_is.DisableTable u) first) own = lessens (request_is.DisableTable u) first own (λ lines then id stage. disabling_row (was J r) t id u lines then stage)
  by_args (args_are.Root (request_is.ModifyTable u version) first) own = lessens (request_is.ModifyTable u version) first own (λ lines then id stage. modifying_row (was J r) t id u lines then stage)
  by_args (args_are.Root (request_is.CreateNamespace ns) first) own = absurd (false≢true (ap (λ a. covers a (key_is.Table t)) (sym own) ∙ c))
  by_args (args_are.Root (request_is.DropNamespace ns) first) own = absurd (false≢true (ap (λ a. covers a (key_is.Table t)) (sym own) ∙ c))
  by_args (args_are.Root (request_is.SplitRegion region key) first) own = absurd (true≢false (ap asks_regions (sym own) ∙ wide))
  by_args (args_are.Root (request_is.MergeRegions regions) first) own = absurd (true≢false (ap asks_regions (sym own) ∙ wide))
  by_args (args_are.Root (request_is.Move region to) first) own = absurd (true≢false (ap asks_regions (sym own) ∙ wide))
  by_args args own = absurd (true≢false (ap asks_regions (sym own) ∙ wide))

  busy_apart : IsTidy (cat J) t
  busy_apart = by_args node.args refl

never_at : (n : ℕ) → 4096 < n → (J : Past) → IsLegal J → HasNoHalfBase J → (t : TableName) → IsTidy (cat J) t
never_at n big J legal begun t = elim (covered_or J (key_is.Table t) (made J + 1)) [
  | inl busy ↦ elim (cases_Bool (asks_regions busy.1.args)) [
    | inl local ↦ absurd (true≢false (sym busy.3 ∙ local_free busy.1.args local t))
    | inr wide ↦ busy_apart n big J legal begun busy.0 busy.1 busy.2 wide t busy.3
  ]
  | inr free ↦ whole_tidy n (cat J) t (cat_whole n big J legal begun t (λ r node h. free r node (let le = is_there J (grown_all J legal) r node h.0.0 in omega (arith, le)) h))
]

pub never_overlap : LiveRegionsNeverOverlap
never_overlap J legal table = elim (half_or J legal) [
  | inl parts ↦ (regions_of_parts J legal parts).apart table
  | inr whole ↦ (never_at 4097 (omega arith) J legal whole table).0
]

pub have_keys : LiveRangesHaveKeys
have_keys J legal table = elim (half_or J legal) [
  | inl parts ↦
      let filled = (regions_of_parts J legal parts).filled in (
        filled_key (cat J) table (λ id. filled (record { table = table; id = id })),
        filled_key (serial J) table (λ id. subst IsFilled (sym (parts_serial J parts (region_key table id))) (filled (record { table = table; id = id }))),
      )
  | inr whole ↦ (filled_key (cat J) table (never_at 4097 (omega arith) J legal whole table).1, deeds_have_keys 4097 (omega arith) whole)
]
  where
    deeds_have_keys : (n : ℕ) → 4096 < n → HasNoHalfBase J → RangesHaveKeys (serial J) table
    deeds_have_keys n big whole = filled_key (serial J) table ((whole_all n big J legal whole).whole table).filled
