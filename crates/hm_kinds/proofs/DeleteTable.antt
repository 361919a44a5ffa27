-- A request to delete a table: how far it is, and what its steps do.
use Rattle.std.proofs.Common.{◌≡◌, ◌≢◌, ℕ, List, [], ◌∷◌, Bool, true, false, ◌&&◌, ◌||◌, ◌==◌, cond, map, Option, Some, None, refl, ap, sym, ◌∙◌, subst, inl, inr, ◌⊎◌, slice_get}
use Rattle.std.specs.List.{list_any}
use Rattle.std.proofs.lemmas.Bool.{and_from, and_parts, cases_Bool, cond-false, cond-true, eq-eqb, false≢true, or_cases, or_left, or_right, true≢false}
use Rattle.std.proofs.lemmas.Option.{none-some}
use Rattle.hm_names.specs.Region.{Region}
use Rattle.hm_names.specs.declared.table.TableName.{TableName}
use Rattle.hm_data.specs.declared.act.Act.TheVariants as act_is
use Rattle.hm_data.specs.declared.args.Args.{Args}
use Rattle.hm_data.specs.declared.args.Args.TheVariants as args_are
use Rattle.hm_data.specs.declared.catalog.CatKey.{CatKey}
use Rattle.hm_data.specs.declared.catalog.CatKey.TheVariants as key_is
use Rattle.hm_data.specs.declared.catalog.CatRow.{CatRow}
use Rattle.hm_data.specs.declared.catalog.Edit.{Edit}
use Rattle.hm_data.specs.declared.request.Request.TheVariants as request_is
use Rattle.hm_data.specs.declared.step.StepIn.{StepIn}
use Rattle.hm_model.specs.Acts.{act_answer}
use Rattle.hm_model.specs.Answers.{no_row}
use Rattle.hm_model.specs.Catalog.{Catalog, edited, keep, row_at, rows_at, set_to}
use Rattle.hm_model.specs.Changes.{remove_regions}
use Rattle.hm_model.specs.Checks.{table_disabled}
use Rattle.hm_model.specs.Deeds.{regions_of, unless}
use Rattle.hm_model.specs.Keys.{same_key, same_table}
use Rattle.hm_model.specs.Lists.{Line, late, plain}
use Rattle.hm_model.specs.Locks.{IsIn}
use Rattle.hm_model.specs.Reads.{covers, guards, is_region_in, reads}
use Rattle.hm_model.specs.NamespaceActs.{check_table_disabled, drop_table}
use Rattle.hm_model.specs.Pieces.{dropping}
use Rattle.hm_model.specs.RegionActs.{drop_regions}
use Rattle.hm_model.specs.RowsSaid.{Rows, all_among, keep_region}
use Rattle.hm_model.specs.Tree.{args_in}
use Rattle.hm_model.specs.Views.{regions_in}
use Rattle.hm_model.specs.declared.lock.Resource.TheVariants as resource_is
use Rattle.hm_model.proofs.KeyTests.{same_table-is, same_table-refl}
use Rattle.hm_model.proofs.ValidSheets.{is_last}
use Rattle.hm_kinds.proofs.Clause.{Serves, Sight, Stepped, checks_so, ends_so, knows, one_order, sees, spawns_so}
use Rattle.hm_kinds.proofs.Covering.{covers_from}
use Rattle.hm_kinds.proofs.Shares.{Touched, dropping_owes, dropping_touches, is_one_of, remove_effect, touches, value}
use Rattle.hm_kinds.proofs.Within.{Within}

-- the ids of the regions of a table that are read
abbrev pub ids_among : TableName → Rows → List ℕ
ids_among table rows = map (λ region. region.id) (all_among table rows)

-- each region of the table that is there has one of the ids
abbrev pub HasIds : TableName → Catalog → List ℕ → Type 0
HasIds table base ids = (region : Region) → same_table table region.table ≡ true → base (key_is.Region region) ≢ None → is_one_of region.id ids ≡ true

-- how far it is: nothing done; the table was there and disabled; its regions are removed
pub data Deleting (table : TableName) (base : Catalog) : List Line → List Edit → Type 0 where
  begins : Deleting table base (plain act_is.CheckTableDisabled ∷ late act_is.DropRegions ∷ late act_is.DropTable ∷ []) []
  disabled : table_disabled (base (key_is.Table table)) ≡ None → Deleting table base (late act_is.DropRegions ∷ late act_is.DropTable ∷ []) []
  emptied : table_disabled (base (key_is.Table table)) ≡ None → (ids : List ℕ) → HasIds table base ids → Deleting table base (late act_is.DropTable ∷ []) (remove_regions (λ key. None) (regions_in table ids))

-- a region that is there is among those that are read
kept_among : (table : TableName) (asked : Bool) (key : CatKey) (row : Option CatRow) (more : Rows) (id : ℕ) → is_one_of id (ids_among table more) ≡ true → is_one_of id (ids_among table (keep asked key row more)) ≡ true
kept_among table false key row more id h = h
kept_among table true key None more id h = h
kept_among table true (key_is.Ns ns) (Some row) more id h = h
kept_among table true (key_is.Table other) (Some row) more id h = h
kept_among table true (key_is.Region region) (Some row) more id h = by (same_table table region.table && true)
  where
    by : (b : Bool) → is_one_of id (map (λ (r : Region). r.id) (cond b (region ∷ all_among table more) (all_among table more))) ≡ true
    by true = or_right (region.id == id) (is_one_of id (ids_among table more)) h
    by false = h

here_among : (table : TableName) (region : Region) (row : Option CatRow) (more : Rows) → same_table table region.table ≡ true → row ≢ None → is_one_of region.id (ids_among table (keep true (key_is.Region region) row more)) ≡ true
here_among table region None more own some = absurd (some refl)
here_among table region (Some row) more own some =
    ap (λ b. is_one_of region.id (map (λ (r : Region). r.id) (cond b (region ∷ all_among table more) (all_among table more)))) (and_from (same_table table region.table) true own refl)
    ∙ or_left (region.id == region.id) (is_one_of region.id (ids_among table more)) (eq-eqb region.id region.id refl)

pub among_read : (table : TableName) (asked : CatKey → Bool) (there : Catalog) (keys : List CatKey) (region : Region) → same_table table region.table ≡ true → asked (key_is.Region region) ≡ true → there (key_is.Region region) ≢ None → IsIn (key_is.Region region) keys → is_one_of region.id (ids_among table (rows_at asked there keys)) ≡ true
among_read table asked there [] region own on some among = absurd among
among_read table asked there (key ∷ keys) region own on some (inr later) = kept_among table (asked key) key (there key) (rows_at asked there keys) region.id (among_read table asked there keys region own on some later)
among_read table asked there (key ∷ keys) region own on some (inl here) =
    ap (λ k. is_one_of region.id (ids_among table (keep (asked k) k (there k) (rows_at asked there keys)))) (sym here)
    ∙ ap (λ b. is_one_of region.id (ids_among table (keep b (key_is.Region region) (there (key_is.Region region)) (rows_at asked there keys)))) on
    ∙ here_among table region (there (key_is.Region region)) (rows_at asked there keys) own some

-- regions of the table, each by itself
abbrev AllOwn : TableName → List Region → Type 0
AllOwn table [] = Unit {0}
AllOwn table (region ∷ more) = (same_table table region.table ≡ true) × AllOwn table more

own_keep : (table : TableName) (key : CatKey) (row : CatRow) (more : List Region) → AllOwn table more → AllOwn table (keep_region table (λ r. true) key row more)
own_keep table (key_is.Region region) row more all = by (same_table table region.table) refl
  where
    by : (b : Bool) → same_table table region.table ≡ b → AllOwn table (cond (same_table table region.table && true) (region ∷ more) more)
    by true e = subst (λ b. AllOwn table (cond (b && true) (region ∷ more) more)) (sym e) (e, all)
    by false e = subst (λ b. AllOwn table (cond (b && true) (region ∷ more) more)) (sym e) all
own_keep table key row more all = all

own_among : (table : TableName) (rows : Rows) → AllOwn table (all_among table rows)
own_among table [] = tt
own_among table ((key, row) ∷ rows) = own_keep table key row (all_among table rows) (own_among table rows)

-- what regions that are removed leave of a row of the table
named : CatKey → List Region → Bool
named key regions = list_any (λ region. same_key key (key_is.Region region)) regions

gone : (there : Catalog) (regions : List Region) (key : CatKey) (row : Option CatRow) → edited (remove_regions there regions) key row ≡ cond (named key regions) None row
unfolding named
gone there [] key row = refl
gone there (region ∷ more) key row = gone there more key (cond (same_key key (key_is.Region region)) None row) ∙ by (same_key key (key_is.Region region)) (list_any (λ r. same_key key (key_is.Region r)) more)
  where
    by : (here later : Bool) → cond later None (cond here None row) ≡ cond (here || later) None row
    by true true = refl
    by true false = refl
    by false later = refl

named_id : (table : TableName) (regions : List Region) → AllOwn table regions → (region : Region) → same_table table region.table ≡ true → is_one_of region.id (map (λ (r : Region). r.id) regions) ≡ true → named (key_is.Region region) regions ≡ true
unfolding named
named_id table [] all region own on = absurd (false≢true on)
named_id table (first ∷ more) all region own on = elim (or_cases (first.id == region.id) _ on) [
  | inl here ↦ or_left (same_key (key_is.Region region) (key_is.Region first)) _ (and_from (same_table region.table first.table) (region.id == first.id) tables (eq-eqb region.id first.id (sym (Rattle.std.proofs.lemmas.Bool.eqb-true first.id region.id here))))
  | inr later ↦ or_right (same_key (key_is.Region region) (key_is.Region first)) _ (named_id table more all.1 region own later)
]
  where
    tables : same_table region.table first.table ≡ true
    tables = ap (λ t. same_table t first.table) (sym (same_table-is table region.table own)) ∙ all.0

none_named : (key : CatKey) (regions : List Region) → ((region : Region) → same_key key (key_is.Region region) ≡ false) → named key regions ≡ false
unfolding named
none_named key [] off = refl
none_named key (region ∷ more) off = ap (λ b. b || list_any (λ r. same_key key (key_is.Region r)) more) (off region) ∙ none_named key more off

-- the regions of these ids are removed
abbrev emptying : TableName → List ℕ → List Edit
emptying table ids = remove_regions (λ key. None) (regions_in table ids)

-- the edits of the deed
abbrev whole_deed : TableName → List CatKey → Catalog → List Edit
whole_deed table keys others = set_to others (key_is.Table table) None ∷ remove_regions others (regions_of table keys others)

module _ (table : TableName) (first : ℕ) where
  abbrev own : Args
  own = args_are.Root (request_is.DeleteTable table) first

  reads_table : reads (args_are.Root (request_is.DeleteTable table) first) (key_is.Table table) ≡ true
  reads_table = same_table-refl table

  covers_table : covers (args_are.Root (request_is.DeleteTable table) first) (key_is.Table table) ≡ true
  covers_table = or_left (same_table table table) false (same_table-refl table)

  within_all : (there : Catalog) (regions : List Region) → AllOwn table regions → Within (args_are.Root (request_is.DeleteTable table) first) (remove_regions there regions)
  within_all there [] all = tt
  within_all there (region ∷ more) all = (covers_from own (resource_is.Table table) (key_is.Region region) (inr (inl refl)) all.0, within_all there more all.1)

  module _ (base there others : Catalog) (keys : List CatKey) (at : StepIn) (next : ℕ) where
    abbrev So : List Line → List Edit → Rattle.hm_data.specs.declared.step.StepOut.StepOut → Type 0
    So behind sofar out = Stepped own (Deleting table base behind) base others keys sofar out

    checks : Sight own base there others keys [] at → So (late act_is.DropRegions ∷ late act_is.DropTable ∷ []) [] (check_table_disabled next at.args at.rows)
    checks s =
        subst (λ a. So (late act_is.DropRegions ∷ late act_is.DropTable ∷ []) [] (check_table_disabled next a at.rows)) (sym s.own)
        (checks_so own (Deleting table base (late act_is.DropRegions ∷ late act_is.DropTable ∷ [])) base others keys [] next (table_disabled (row_at at.rows (key_is.Table table)))
        (λ none. disabled (ap table_disabled (sym (sees own base there others keys [] at s (key_is.Table table) reads_table)) ∙ none)))

    drops : table_disabled (base (key_is.Table table)) ≡ None → Sight own base there others keys [] at → So (late act_is.DropTable ∷ []) [] (drop_regions next at.args at.rows)
    drops none s =
        subst (λ a. So (late act_is.DropTable ∷ []) [] (drop_regions next a at.rows)) (sym s.own)
        (spawns_so own (Deleting table base (late act_is.DropTable ∷ [])) base others keys [] next (dropping table (ids_among table at.rows)) (remove_regions (λ key. None) (regions_in table (ids_among table at.rows))) (emptied none (ids_among table at.rows) has) now owed)
      where
        has : HasIds table base (ids_among table at.rows)
        has region mine some =
            ap (λ l. is_one_of region.id (ids_among table l)) s.rows
            ∙ among_read table (reads own) there keys region mine mine (λ e. some (sym here ∙ e)) (s.listed (key_is.Region region) (λ e. some (sym here ∙ e)))
          where
            here : there (key_is.Region region) ≡ base (key_is.Region region)
            here = s.now (key_is.Region region) (or_right (covers own (key_is.Region region)) (reads own (key_is.Region region)) mine)

        now : (key : CatKey) → guards own key ≡ true → (base key ≡ edited (remove_regions (λ k. None) (regions_in table (ids_among table at.rows))) key (base key)) ⊎ Touched (args_in (dropping table (ids_among table at.rows))) key
        now key g = elim (cases_Bool (touches (args_are.DropRegions table (ids_among table at.rows)) key)) [
          | inl on ↦ inr (dropping_touches table (ids_among table at.rows) key on)
          | inr off ↦ inl (sym (remove_effect (λ k. None) table (ids_among table at.rows) key (base key) ∙ cond-false (touches (args_are.DropRegions table (ids_among table at.rows)) key) None (base key) off))
        ]

        owed : (i : ℕ) (made : Args) → slice_get (args_in (dropping table (ids_among table at.rows))) i ≡ Some made → (key : CatKey) → touches made key ≡ true → edited (remove_regions (λ k. None) (regions_in table (ids_among table at.rows))) key (base key) ≡ value made key
        owed i made is key on =
            let o = dropping_owes table (ids_among table at.rows) i made is key on in
            remove_effect (λ k. None) table (ids_among table at.rows) key (base key) ∙ cond-true (touches (args_are.DropRegions table (ids_among table at.rows)) key) None (base key) o.1 ∙ sym o.0

    finishes : table_disabled (base (key_is.Table table)) ≡ None → (ids : List ℕ) → HasIds table base ids → Sight own base there others keys (remove_regions (λ key. None) (regions_in table ids)) at → (next == no_row) ≡ true → So [] (remove_regions (λ key. None) (regions_in table ids)) (drop_table next at.args at.rows)
    finishes none ids has s last =
        subst (λ a. So [] (emptying table ids) (drop_table next a at.rows)) (sym s.own)
        (ends_so own (Deleting table base []) base others keys (emptying table ids) next (set_to (row_at at.rows) (key_is.Table table) None ∷ []) last (whole_deed table keys others)
        (ap (λ o. unless (table_disabled o) (whole_deed table keys others)) (knows own base there others keys (emptying table ids) at s (key_is.Table table) reads_table) ∙ ap (λ c. unless c (whole_deed table keys others)) none)
        (covers_table, within_all others (regions_of table keys others) (own_among table (rows_at (is_region_in table (λ id. true)) others keys)))
        same)
      where
        off_row : (key : CatKey) (row : Option CatRow) → touches (args_are.DropRegions table ids) key ≡ false → edited (emptying table ids) key row ≡ row
        off_row key row off = remove_effect (λ k. None) table ids key row ∙ cond-false (touches (args_are.DropRegions table ids) key) None row off

        -- a region of the table is gone, however it was listed
        both : (region : Region) → same_table table region.table ≡ true → (o : Option CatRow) → base (key_is.Region region) ≡ o → cond (named (key_is.Region region) (regions_of table keys others)) None (base (key_is.Region region)) ≡ cond (touches (args_are.DropRegions table ids) (key_is.Region region)) None (base (key_is.Region region))
        both region mine None e = ap (cond (named (key_is.Region region) (regions_of table keys others)) None) e ∙ none_either (named (key_is.Region region) (regions_of table keys others)) ∙ sym (ap (cond (touches (args_are.DropRegions table ids) (key_is.Region region)) None) e ∙ none_either (touches (args_are.DropRegions table ids) (key_is.Region region)))
          where
            none_either : (b : Bool) → ◌≡◌ {A = Option CatRow} (cond b None None) None
            none_either true = refl
            none_either false = refl
        both region mine (Some row) e =
            cond-true (named (key_is.Region region) (regions_of table keys others)) None (base (key_is.Region region)) listed
            ∙ sym (cond-true (touches (args_are.DropRegions table ids) (key_is.Region region)) None (base (key_is.Region region)) (and_from (same_table table region.table) (is_one_of region.id ids) mine (has region mine some)))
          where
            some : base (key_is.Region region) ≢ None
            some none = none-some row (sym none ∙ e)

            there_too : others (key_is.Region region) ≢ None
            there_too none = some (sym (knows own base there others keys (emptying table ids) at s (key_is.Region region) mine) ∙ none)

            listed : named (key_is.Region region) (regions_of table keys others) ≡ true
            listed = named_id table (regions_of table keys others) (own_among table (rows_at (is_region_in table (λ id. true)) others keys)) region mine (among_read table (is_region_in table (λ id. true)) others keys region mine (and_from (same_table table region.table) true mine refl) there_too (s.based (key_is.Region region) some))

        same : (key : CatKey) → covers own key ≡ true → edited (whole_deed table keys others) key (base key) ≡ edited (set_to (row_at at.rows) (key_is.Table table) None ∷ []) key (edited (emptying table ids) key (base key))
        same (key_is.Ns ns) c = absurd (false≢true c)
        same (key_is.Table other) c =
            gone others (regions_of table keys others) (key_is.Table other) (cond (same_table other table) None (base (key_is.Table other)))
            ∙ cond-false (named (key_is.Table other) (regions_of table keys others)) None (cond (same_table other table) None (base (key_is.Table other))) (none_named (key_is.Table other) (regions_of table keys others) (λ region. refl))
            ∙ sym (ap (cond (same_table other table) None) (off_row (key_is.Table other) (base (key_is.Table other)) refl))
        same (key_is.Region region) c =
            gone others (regions_of table keys others) (key_is.Region region) (base (key_is.Region region))
            ∙ both region (mine c) (base (key_is.Region region)) refl ∙ sym (remove_effect (λ k. None) table ids (key_is.Region region) (base (key_is.Region region)))
          where
            mine : (same_table table region.table || false) ≡ true → same_table table region.table ≡ true
            mine h = elim (or_cases (same_table table region.table) false h) [ inl on ↦ on | inr never ↦ absurd (false≢true never) ]

  deletes : (base there others : Catalog) (keys : List CatKey) (line : Line) (behind : List Line) (sofar : List Edit) (at : StepIn) (next : ℕ) → Deleting table base (line ∷ behind) sofar → Sight (args_are.Root (request_is.DeleteTable table) first) base there others keys sofar at → (next == no_row) ≡ is_last behind → Stepped (args_are.Root (request_is.DeleteTable table) first) (Deleting table base behind) base others keys sofar (act_answer line.act next at)
  deletes base there others keys line behind sofar at next begins s last = checks base there others keys at next s
  deletes base there others keys line behind sofar at next (disabled none) s last = drops base there others keys at next none s
  deletes base there others keys line behind sofar at next (emptied none ids has) s last = finishes base there others keys at next none ids has s last

  pub delete_table_serves : Serves (args_are.Root (request_is.DeleteTable table) first) (Deleting table)
  delete_table_serves = record { begins = λ base lines order. one_order (λ l. Deleting table base l []) lines _ order begins; steps = deletes }
