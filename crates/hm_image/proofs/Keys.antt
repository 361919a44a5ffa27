-- The parts of the catalog: those of its namespaces, of the tables for which region ids were drawn, and of its regions.
use Rattle.std.proofs.Common.{◌≡◌, ◌≢◌, ℕ, List, [], ◌∷◌, ◌++◌, map, Bool, true, false, Option, Some, None, refl, ap, sym, ◌∙◌, inl, inr, ◌⊎◌}
use Rattle.std.specs.List.{filter, flat_map}
use Rattle.std.specs.declared.cmp.Ordering.TheVariants.{Equal, Less}
use Rattle.std.proofs.lemmas.Bool.{false≢true, true≢false}
use Rattle.std.proofs.lemmas.Grind.{flat_map-append}
use Rattle.std.proofs.lemmas.List.{append_assoc}
use Rattle.std.proofs.lemmas.Option.{none-some}
use Rattle.hm_names.specs.Order.{table_cmp}
use Rattle.hm_names.specs.Region.{Region}
use Rattle.hm_names.specs.declared.table.TableName.{TableName}
use Rattle.hm_data.specs.Keys.{key_cmp}
use Rattle.hm_data.specs.declared.catalog.CatKey.{CatKey}
use Rattle.hm_data.specs.declared.catalog.CatKey.TheVariants as key_is
use Rattle.hm_data.specs.declared.catalog.CatRow.{CatRow}
use Rattle.hm_data.specs.declared.catalog.CatRow.TheVariants as row_is
use Rattle.hm_data.specs.declared.part.Part.{Part}
use Rattle.hm_data.specs.declared.part.Part.TheVariants as part_is
use Rattle.hm_data.specs.declared.place.Place.{Place}
use Rattle.hm_data.proofs.KeyOrder.{keys_total}
use Rattle.hm_index.specs.Index.{IsRising, find}
use Rattle.hm_model.specs.Base.{IsBegun}
use Rattle.hm_model.specs.Catalog.{cat, keys_of, row_at}
use Rattle.hm_model.specs.Image.{catalog_parts, key_parts, named_keys, table_in, table_parts}
use Rattle.hm_model.specs.Journal.{Past}
use Rattle.hm_model.specs.Loads.{places_of}
use Rattle.hm_model.specs.Locks.{IsIn}
use Rattle.hm_model.specs.Rebase.{under_way}
use Rattle.hm_model.specs.RowsSaid.{Rows}
use Rattle.hm_model.specs.Rules.{IsLegal}
use Rattle.hm_model.specs.Tree.{drawn}
use Rattle.hm_model.proofs.KeyTests.{key_cmp-refl, table_cmp-is}
use Rattle.hm_model.proofs.Rows.{has_key, keys_in_order}
use Rattle.hm_model.proofs.Small.{in_left, in_map, in_right}
use Rattle.hm_catalog.specs.Laws.{RowsTell}
use Rattle.hm_catalog.specs.Rows.{rows_in}
use Rattle.hm_cover.specs.Theorem.{LiveRegionsCover}
use Rattle.hm_ids.specs.Drawn.{RegionIdsAreDrawn}
use Rattle.hm_places.specs.Laws.{PlacesTell}
use Rattle.hm_rebase.proofs.Named.{named_order}
use Rattle.hm_rebase.proofs.Orders.{AllLater, InOrder, from_kept, in_kept, order_kept, same_kept}
use Rattle.hm_rebase.proofs.Shown.{flat_map_kept, is_some_of, told, told_listed}
use Rattle.hm_records.specs.Records.{AreDrawn, count_if}
use Rattle.hm_image.specs.Catalog.{region_parts, space_parts, table_told}
use Rattle.hm_image.proofs.Rising.{found_in, keys, rising_order, told_each}
use Rattle.hm_image.proofs.Tables.{drawn_some}
use Rattle.hm_image.proofs.Told.{by_keys, order_append}

-- it is the key of a namespace, and of a region
abbrev is_space : CatKey → Bool
is_space (key_is.Ns ns) = true
is_space key = false

abbrev is_region : CatKey → Bool
is_region (key_is.Region region) = true
is_region key = false

abbrev table_keys : List TableName → List CatKey
table_keys tables = map (λ table. key_is.Table table) tables

-- namespaces come first, then tables, then regions
space_first : (x y : CatKey) → is_space x ≡ true → is_space y ≡ false → key_cmp x y ≡ Less
space_first (key_is.Ns a) (key_is.Ns b) one other = absurd (true≢false other)
space_first (key_is.Ns a) (key_is.Table b) one other = refl
space_first (key_is.Ns a) (key_is.Region b) one other = refl
space_first (key_is.Table a) y one other = absurd (false≢true one)
space_first (key_is.Region a) y one other = absurd (false≢true one)

region_last : (x y : CatKey) → is_region x ≡ false → is_region y ≡ true → key_cmp x y ≡ Less
region_last x (key_is.Ns b) one other = absurd (false≢true other)
region_last x (key_is.Table b) one other = absurd (false≢true other)
region_last (key_is.Ns a) (key_is.Region b) one other = refl
region_last (key_is.Table a) (key_is.Region b) one other = refl
region_last (key_is.Region a) (key_is.Region b) one other = absurd (true≢false one)

among_tables : (tables : List TableName) (key : CatKey) → IsIn key (table_keys tables) → (is_space key ≡ false) × (is_region key ≡ false)
among_tables [] key h = elim h [ ]
among_tables (table ∷ more) key (inl here) = (ap is_space here, ap is_region here)
among_tables (table ∷ more) key (inr later) = among_tables more key later

region_no_space : (key : CatKey) → is_region key ≡ true → is_space key ≡ false
region_no_space (key_is.Ns ns) h = absurd (false≢true h)
region_no_space (key_is.Table table) h = refl
region_no_space (key_is.Region region) h = refl

later_tables : (one : TableName) (tables : List TableName) → AllLater table_cmp one tables → AllLater key_cmp (key_is.Table one) (table_keys tables)
later_tables one [] all = tt
later_tables one (table ∷ more) all = (all.0, later_tables one more all.1)

order_tables : (tables : List TableName) → InOrder table_cmp tables → InOrder key_cmp (table_keys tables)
order_tables [] order = tt
order_tables (table ∷ more) order = (later_tables table more order.0, order_tables more order.1)

map_tables : (G : CatKey → List Part) (tables : List TableName) → flat_map (λ table. G (key_is.Table table)) tables ≡ flat_map G (table_keys tables)
map_tables G [] = refl
map_tables G (table ∷ more) = ap (λ l. G (key_is.Table table) ++ l) (map_tables G more)

tied_table : (x : TableName) → table_cmp x x ≡ Equal
tied_table x = key_cmp-refl (key_is.Table x)

module _ (J : Past) where
  -- keys in order that have each that gives parts give those of the catalog
  of_keys : (list : List CatKey) → InOrder key_cmp list → ((key : CatKey) → is_some_of (told J key) ≡ true → IsIn key list) → flat_map (told J) list ≡ catalog_parts J
  of_keys list order has =
      flat_map_kept (told J) list
      ∙ ap (flat_map (told J)) (same_kept key_cmp keys_total (λ key. is_some_of (told J key)) list (named_keys J) order (named_order J) has (told_listed J))
      ∙ sym (flat_map_kept (told J) (named_keys J))

  spaces_told : flat_map (λ row. space_parts row.0) (rows_in J) ≡ flat_map (told J) (filter is_space (keys_of J))
  spaces_told = by_keys (cat J) is_space (λ row. space_parts row.0) (told J) passes fails bare (keys_of J)
    where
      passes : (key : CatKey) (row : CatRow) → cat J key ≡ Some row → is_space key ≡ true → space_parts key ≡ told J key
      passes (key_is.Ns ns) row is on = ap (key_parts J (key_is.Ns ns)) (sym is)
      passes (key_is.Table table) row is on = absurd (false≢true on)
      passes (key_is.Region region) row is on = absurd (false≢true on)

      fails : (key : CatKey) (row : CatRow) → is_space key ≡ false → space_parts key ≡ []
      fails (key_is.Ns ns) row off = absurd (true≢false off)
      fails (key_is.Table table) row off = refl
      fails (key_is.Region region) row off = refl

      bare : (key : CatKey) → cat J key ≡ None → is_space key ≡ true → told J key ≡ []
      bare (key_is.Ns ns) is on = ap (key_parts J (key_is.Ns ns)) is
      bare (key_is.Table table) is on = absurd (false≢true on)
      bare (key_is.Region region) is on = absurd (false≢true on)

  regions_told : PlacesTell → flat_map (λ row. region_parts (places_of J) row.0 row.1) (rows_in J) ≡ flat_map (told J) (filter is_region (keys_of J))
  regions_told places = by_keys (cat J) is_region (λ row. region_parts (places_of J) row.0 row.1) (told J) passes fails bare (keys_of J)
    where
      one : (region : Region) (row : CatRow) → region_parts (places_of J) (key_is.Region region) row ≡ key_parts J (key_is.Region region) (Some row)
      one region row_is.Ns = refl
      one region (row_is.Table state version) = refl
      one region (row_is.Region range status parents) =
          ap (λ place. part_is.Region region range status parents place ∷ []) ((places J).0 region)

      passes : (key : CatKey) (row : CatRow) → cat J key ≡ Some row → is_region key ≡ true → region_parts (places_of J) key row ≡ told J key
      passes (key_is.Ns ns) row is on = absurd (false≢true on)
      passes (key_is.Table table) row is on = absurd (false≢true on)
      passes (key_is.Region region) row is on = one region row ∙ ap (key_parts J (key_is.Region region)) (sym is)

      fails : (key : CatKey) (row : CatRow) → is_region key ≡ false → region_parts (places_of J) key row ≡ []
      fails (key_is.Ns ns) row off = refl
      fails (key_is.Table table) row off = refl
      fails (key_is.Region region) row off = absurd (true≢false off)

      bare : (key : CatKey) → cat J key ≡ None → is_region key ≡ true → told J key ≡ []
      bare (key_is.Ns ns) is on = absurd (false≢true on)
      bare (key_is.Table table) is on = absurd (false≢true on)
      bare (key_is.Region region) is on = ap (key_parts J (key_is.Region region)) is

  module _ (tables : List (TableName × ℕ)) (rises : IsRising table_cmp tables) (are : AreDrawn J tables) where
    abbrev names : List TableName
    names = keys table_cmp tables

    names_order : InOrder table_cmp names
    names_order = rising_order table_cmp tables rises

    tables_told : RowsTell → flat_map (table_told (rows_in J)) tables ≡ flat_map (told J) (table_keys names)
    tables_told rows =
        told_each table_cmp table_cmp-is tied_table (table_told (rows_in J)) (λ table. told J (key_is.Table table)) tables names_order each
        ∙ map_tables (told J) names
      where
        each : (table : TableName) (count : ℕ) → find table_cmp tables table ≡ Some count → table_told (rows_in J) (table, count) ≡ told J (key_is.Table table)
        each table count at =
            ap (λ n. table_parts table n (table_in (row_at (rows_in J) (key_is.Table table)))) (ap count_if (sym at) ∙ are table)
            ∙ ap (λ there. table_parts table (drawn J table) (table_in (there (key_is.Table table)))) (rows J)

    -- a table for which ids were drawn is among them
    drawn_named : (table : TableName) → drawn J table ≢ 0 → IsIn table names
    drawn_named table some = by (find table_cmp tables table) refl
      where
        by : (o : Option ℕ) → find table_cmp tables table ≡ o → IsIn table names
        by None e = absurd (some (sym (are table) ∙ ap count_if e))
        by (Some count) e = found_in table_cmp table_cmp-is tied_table tables table count e

    abbrev all : List CatKey
    all = filter is_space (keys_of J) ++ (table_keys names ++ filter is_region (keys_of J))

    all_order : InOrder key_cmp all
    all_order =
        order_append key_cmp (filter is_space (keys_of J)) (table_keys names ++ filter is_region (keys_of J))
        (order_kept key_cmp is_space (keys_of J) (keys_in_order J))
        (order_append key_cmp (table_keys names) (filter is_region (keys_of J)) (order_tables names names_order) (order_kept key_cmp is_region (keys_of J) (keys_in_order J))
        (λ x y one other. region_last x y (among_tables names x one).1 (from_kept is_region y (keys_of J) other)))
        (λ x y one other. space_first x y (from_kept is_space x (keys_of J) one) (behind y (parted y (table_keys names) (filter is_region (keys_of J)) other)))
      where
        parted : (y : CatKey) (xs ys : List CatKey) → IsIn y (xs ++ ys) → IsIn y xs ⊎ IsIn y ys
        parted y [] ys h = inr h
        parted y (x ∷ xs) ys (inl here) = inl (inl here)
        parted y (x ∷ xs) ys (inr later) = elim (parted y xs ys later) [ inl one ↦ inl (inr one) | inr other ↦ inr other ]

        behind : (y : CatKey) → IsIn y (table_keys names) ⊎ IsIn y (filter is_region (keys_of J)) → is_space y ≡ false
        behind y (inl table) = (among_tables names y table).0
        behind y (inr region) = region_no_space y (from_kept is_region y (keys_of J) region)

    module _ (legal : IsLegal J) (begun : IsBegun J) (none : under_way J ≡ 0) (cover : LiveRegionsCover) (ids : RegionIdsAreDrawn) where
      all_has : (key : CatKey) → is_some_of (told J key) ≡ true → IsIn key all
      all_has key some = by key (cat J key) refl some
        where
          table_in_all : (table : TableName) → drawn J table ≢ 0 → IsIn (key_is.Table table) all
          table_in_all table has =
              in_right (key_is.Table table) (filter is_space (keys_of J)) (table_keys names ++ filter is_region (keys_of J))
              (in_left (key_is.Table table) (table_keys names) (filter is_region (keys_of J)) (in_map (λ t. key_is.Table t) table names (drawn_named table has)))

          by : (key : CatKey) (o : Option CatRow) → cat J key ≡ o → is_some_of (key_parts J key (cat J key)) ≡ true → IsIn key all
          by (key_is.Ns ns) None e some = absurd (false≢true (ap (λ o. is_some_of (key_parts J (key_is.Ns ns) o)) (sym e) ∙ some))
          by (key_is.Ns ns) (Some row) e some =
              in_left (key_is.Ns ns) (filter is_space (keys_of J)) (table_keys names ++ filter is_region (keys_of J))
              (in_kept is_space (key_is.Ns ns) (keys_of J) (has_key J (key_is.Ns ns) (λ gone. none-some row (sym gone ∙ e))) refl)
          by (key_is.Table table) None e some =
              table_in_all table (λ zero. false≢true (sym (ap (λ n. is_some_of (table_parts table n None)) zero) ∙ ap (λ o. is_some_of (key_parts J (key_is.Table table) o)) (sym e) ∙ some))
          by (key_is.Table table) (Some row) e some = table_in_all table (drawn_some J legal begun none cover ids table (λ gone. none-some row (sym gone ∙ e)))
          by (key_is.Region region) None e some = absurd (false≢true (ap (λ o. is_some_of (key_parts J (key_is.Region region) o)) (sym e) ∙ some))
          by (key_is.Region region) (Some row) e some =
              in_right (key_is.Region region) (filter is_space (keys_of J)) (table_keys names ++ filter is_region (keys_of J))
              (in_right (key_is.Region region) (table_keys names) (filter is_region (keys_of J))
              (in_kept is_region (key_is.Region region) (keys_of J) (has_key J (key_is.Region region) (λ gone. none-some row (sym gone ∙ e))) refl))

      pub catalog_told : RowsTell → PlacesTell
          → flat_map (λ row. space_parts row.0) (rows_in J) ++ (flat_map (table_told (rows_in J)) tables ++ flat_map (λ row. region_parts (places_of J) row.0 row.1) (rows_in J)) ≡ catalog_parts J
      catalog_told rows places =
          ap (λ l. l ++ (flat_map (table_told (rows_in J)) tables ++ flat_map (λ row. region_parts (places_of J) row.0 row.1) (rows_in J))) spaces_told
          ∙ ap (λ l. flat_map (told J) (filter is_space (keys_of J)) ++ (l ++ flat_map (λ row. region_parts (places_of J) row.0 row.1) (rows_in J))) (tables_told rows)
          ∙ ap (λ l. flat_map (told J) (filter is_space (keys_of J)) ++ (flat_map (told J) (table_keys names) ++ l)) (regions_told places)
          ∙ ap (λ l. flat_map (told J) (filter is_space (keys_of J)) ++ l) (sym (flat_map-append (told J) (table_keys names) (filter is_region (keys_of J))))
          ∙ sym (flat_map-append (told J) (filter is_space (keys_of J)) (table_keys names ++ filter is_region (keys_of J)))
          ∙ of_keys all all_order all_has

      abbrev spaces : Rows → List Part
      spaces r = flat_map (λ row. space_parts row.0) r

      abbrev tabled : Rows → List Part
      tabled r = flat_map (table_told r) tables

      abbrev regions : Rows → List (Region × Place) → List Part
      regions r p = flat_map (λ row. region_parts p row.0 row.1) r

      -- as they are added, one kind after another
      pub catalog_added : (rows : Rows) (places : List (Region × Place)) → rows ≡ rows_in J → places ≡ places_of J → RowsTell → PlacesTell → (old one two three : List Part)
          → one ≡ old ++ flat_map (λ row. space_parts row.0) rows → two ≡ one ++ flat_map (table_told rows) tables → three ≡ two ++ flat_map (λ row. region_parts places row.0 row.1) rows
          → three ≡ old ++ catalog_parts J
      catalog_added rows places rows_are places_are tell places_tell old one two three first second third =
          third
          ∙ ap (λ l. l ++ regions rows places) (second ∙ ap (λ l. l ++ tabled rows) first)
          ∙ append_assoc (old ++ spaces rows) (tabled rows) (regions rows places)
          ∙ append_assoc old (spaces rows) (tabled rows ++ regions rows places)
          ∙ ap (λ l. old ++ l) (ap (λ (r : Rows). spaces r ++ (tabled r ++ regions r places)) rows_are ∙ ap (λ p. spaces (rows_in J) ++ (tabled (rows_in J) ++ regions (rows_in J) p)) places_are ∙ catalog_told tell places_tell)
