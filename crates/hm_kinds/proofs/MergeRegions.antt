-- A request to merge regions: how far it is, and what its steps do.
use Rattle.std.proofs.Common.{◌≡◌, ℕ, List, [], ◌∷◌, true, false, ◌==◌, ◌||◌, Option, Some, None, refl, ap, sym, ◌∙◌, subst, inl, inr}
use Rattle.std.specs.List.{list_any}
use Rattle.std.specs.Prelude.{option_map}
use Rattle.std.proofs.lemmas.Bool.{or_left, or_right}
use Rattle.hm_names.specs.Region.{Region}
use Rattle.hm_names.specs.declared.table.TableName.{TableName}
use Rattle.hm_data.specs.declared.act.Act.TheVariants as act_is
use Rattle.hm_data.specs.declared.act.Back.TheVariants as back_is
use Rattle.hm_data.specs.declared.args.Args.{Args}
use Rattle.hm_data.specs.declared.args.Args.TheVariants as args_are
use Rattle.hm_data.specs.declared.args.Child.TheVariants as child_is
use Rattle.hm_data.specs.declared.catalog.CatKey.{CatKey}
use Rattle.hm_data.specs.declared.catalog.CatKey.TheVariants as key_is
use Rattle.hm_data.specs.declared.catalog.Edit.{Edit}
use Rattle.hm_data.specs.declared.catalog.Status.TheVariants as status_is
use Rattle.hm_data.specs.declared.place.Goal.TheVariants as goal_is
use Rattle.hm_data.specs.declared.request.Request.TheVariants as request_is
use Rattle.hm_data.specs.declared.step.StepIn.{StepIn}
use Rattle.hm_model.specs.Acts.{act_answer}
use Rattle.hm_model.specs.Answers.{no_row}
use Rattle.hm_model.specs.Catalog.{Catalog, edited, row_at}
use Rattle.hm_model.specs.Changes.{add_merged, mark_merged, merge_edits, merged_of}
use Rattle.hm_model.specs.Checks.{are_adjacent, by_start, can_merge, keep_part, parts_of, regions_live, rows_of, table_enabled}
use Rattle.hm_model.specs.Deeds.{cause_of_merge, unless}
use Rattle.hm_model.specs.Kinds.{table_of_first}
use Rattle.hm_model.specs.Lists.{Line, late, plain, undone}
use Rattle.hm_model.specs.Locks.{IsIn, in_name_order}
use Rattle.hm_model.specs.Reads.{is_region, is_table, reads}
use Rattle.hm_model.specs.Outs.{given, spawns}
use Rattle.hm_model.specs.Phase.{or_else}
use Rattle.hm_model.specs.Pieces.{numbers_from, transits}
use Rattle.hm_model.specs.RegionActs.{check_merge, close_parents, open_new, update_merge_meta}
use Rattle.hm_model.specs.RowsSaid.{in_status, range_in}
use Rattle.hm_model.specs.Views.{regions_in}
use Rattle.hm_model.specs.declared.merged.Merged.{Merged}
use Rattle.hm_model.proofs.KeyTests.{same_region-refl, same_table-refl}
use Rattle.hm_model.proofs.ValidSheets.{is_last}
use Rattle.hm_model.proofs.Distinct.{out_ordered}
use Rattle.hm_kinds.proofs.Clause.{Serves, Sight, Stepped, checks_so, done_so, edits_so, knows, one_order, quiet_so, sees}
use Rattle.hm_kinds.proofs.Covering.{merge_within}
use Rattle.hm_kinds.proofs.Quiet.{quiet_layout, quiet_moves}
use Rattle.hm_kinds.proofs.Within.{Alike, alike_append, alike_edited}

abbrev Can : List Region → Catalog → Type 0
Can regions base = cause_of_merge (table_of_first regions) base regions ≡ None

abbrev opening : List Line
opening = late act_is.OpenMerged ∷ late act_is.Finish ∷ []

abbrev updating : List Line
updating = undone act_is.UpdateMergeMeta back_is.Edits ∷ opening

-- how far it is: nothing done; the regions can be merged; they are merged
pub data Merging (regions : List Region) (first : ℕ) (base : Catalog) : List Line → List Edit → Type 0 where
  begins : Merging regions first base (plain act_is.CheckMerge ∷ undone act_is.CloseParents back_is.Reopen ∷ undone act_is.Layout back_is.Sweep ∷ updating) []
  found : Can regions base → Merging regions first base (undone act_is.CloseParents back_is.Reopen ∷ undone act_is.Layout back_is.Sweep ∷ updating) []
  closed : Can regions base → Merging regions first base (undone act_is.Layout back_is.Sweep ∷ updating) []
  laid : Can regions base → Merging regions first base updating []
  told : Can regions base → Merging regions first base opening (merge_edits base regions first)
  opened : Can regions base → Merging regions first base (late act_is.Finish ∷ []) (merge_edits base regions first)

-- two catalogs have the same rows of regions
abbrev Agree : List Region → Catalog → Catalog → Type 0
Agree regions one other = (r : Region) → IsIn r regions → one (key_is.Region r) ≡ other (key_is.Region r)

rows_same : (regions : List Region) (one other : Catalog) → Agree regions one other → rows_of one regions ≡ rows_of other regions
rows_same [] one other same = refl
rows_same (region ∷ more) one other same = ap (λ o. o ∷ rows_of one more) (same region (inl refl)) ∙ ap (λ l. other (key_is.Region region) ∷ l) (rows_same more one other (λ r among. same r (inr among)))

parts_same : (regions : List Region) (one other : Catalog) → Agree regions one other → parts_of one regions ≡ parts_of other regions
parts_same [] one other same = refl
parts_same (region ∷ more) one other same = ap (λ o. keep_part region.id (range_in o) (parts_of one more)) (same region (inl refl)) ∙ ap (keep_part region.id (range_in (other (key_is.Region region)))) (parts_same more one other (λ r among. same r (inr among)))

cause_same : (regions : List Region) (one other : Catalog) → Agree regions one other → ((table : TableName) → table_of_first regions ≡ Some table → one (key_is.Table table) ≡ other (key_is.Table table)) → cause_of_merge (table_of_first regions) one regions ≡ cause_of_merge (table_of_first regions) other regions
cause_same regions one other same tables = by (table_of_first regions) refl
  where
    by : (o : Option TableName) → table_of_first regions ≡ o → cause_of_merge o one regions ≡ cause_of_merge o other regions
    by None e = refl
    by (Some table) e =
        ap (λ o. can_merge o one regions) (tables table e)
        ∙ ap (λ l. or_else (table_enabled (other (key_is.Table table))) (or_else (regions_live l) (are_adjacent (by_start (parts_of one regions))))) (rows_same regions one other same)
        ∙ ap (λ l. or_else (table_enabled (other (key_is.Table table))) (or_else (regions_live (rows_of other regions)) (are_adjacent (by_start l)))) (parts_same regions one other same)

mark_alike : (regions : List Region) (one other : Catalog) → Agree regions one other → Alike (mark_merged one regions) (mark_merged other regions)
mark_alike [] one other same = tt
mark_alike (region ∷ more) one other same = (refl, ap (option_map (in_status status_is.Merged)) (same region (inl refl)), mark_alike more one other (λ r among. same r (inr among)))

merge_alike : (regions : List Region) (first : ℕ) (one other : Catalog) → Agree regions one other → Alike (merge_edits one regions first) (merge_edits other regions first)
merge_alike regions first one other same = alike_append (mark_merged one (in_name_order regions)) (mark_merged other (in_name_order regions)) (add_merged one first regions regions) (add_merged other first regions regions)
    (mark_alike (in_name_order regions) one other (λ r among. same r (out_ordered r regions among))) (by regions)
  where
    parts : (table : TableName) (list : List Merged) → Alike (merged_of one table first list) (merged_of other table first list)
    parts table [] = tt
    parts table (part ∷ more) = (refl, refl, tt)

    by : (list : List Region) → Alike (add_merged one first list regions) (add_merged other first list regions)
    by [] = tt
    by (region ∷ more) = subst (λ l. Alike (merged_of one region.table first (by_start (parts_of one regions))) (merged_of other region.table first (by_start l))) (parts_same regions one other same) (parts region.table (by_start (parts_of one regions)))

module _ (regions : List Region) (first : ℕ) where
  abbrev own : Args
  own = args_are.Root (request_is.MergeRegions regions) first

  read_in : (list : List Region) (key : CatKey) (r : Region) → IsIn r list → (is_table r.table key || is_region r key) ≡ true → list_any (λ region. is_table region.table key || is_region region key) list ≡ true
  read_in [] key r among on = absurd among
  read_in (region ∷ more) key r (inl same) on = or_left (is_table region.table key || is_region region key) _ (ap (λ (x : Region). is_table x.table key || is_region x key) (sym same) ∙ on)
  read_in (region ∷ more) key r (inr later) on = or_right (is_table region.table key || is_region region key) _ (read_in more key r later on)

  reads_region : (r : Region) → IsIn r regions → reads (args_are.Root (request_is.MergeRegions regions) first) (key_is.Region r) ≡ true
  reads_region r among = read_in regions (key_is.Region r) r among (or_right (is_table r.table (key_is.Region r)) (is_region r (key_is.Region r)) (same_region-refl r))

  reads_table : (list : List Region) (table : TableName) → table_of_first list ≡ Some table → list_any (λ region. is_table region.table (key_is.Table table) || is_region region (key_is.Table table)) list ≡ true
  reads_table [] table e = absurd (Rattle.std.proofs.lemmas.Option.none-some table e)
  reads_table (region ∷ more) table e = or_left (is_table region.table (key_is.Table table) || is_region region (key_is.Table table)) _ (or_left (is_table region.table (key_is.Table table)) _ (ap (λ t. Rattle.hm_model.specs.Keys.same_table region.table t) (sym (Rattle.std.proofs.lemmas.Option.same_Some region.table table e)) ∙ same_table-refl region.table))

  module _ (base there others : Catalog) (keys : List CatKey) (sofar : List Edit) (at : StepIn) (s : Sight (args_are.Root (request_is.MergeRegions regions) first) base there others keys sofar at) where
    deeds_agree : Agree regions others base
    deeds_agree r among = knows own base there others keys sofar at s (key_is.Region r) (reads_region r among)

    deeds_table : (table : TableName) → table_of_first regions ≡ Some table → others (key_is.Table table) ≡ base (key_is.Table table)
    deeds_table table e = knows own base there others keys sofar at s (key_is.Table table) (reads_table regions table e)

    seen_agree : ((key : CatKey) → edited sofar key (base key) ≡ base key) → Agree regions (row_at at.rows) base
    seen_agree none r among = sees own base there others keys sofar at s (key_is.Region r) (reads_region r among) ∙ none (key_is.Region r)

    seen_table : ((key : CatKey) → edited sofar key (base key) ≡ base key) → (table : TableName) → table_of_first regions ≡ Some table → row_at at.rows (key_is.Table table) ≡ base (key_is.Table table)
    seen_table none table e = sees own base there others keys sofar at s (key_is.Table table) (reads_table regions table e) ∙ none (key_is.Table table)

  abbrev OpensIn : Catalog → Catalog → List CatKey → ℕ → Option TableName → Type 0
  OpensIn base others keys next o = Stepped (args_are.Root (request_is.MergeRegions regions) first) (Merging regions first base (late act_is.Finish ∷ [])) base others keys (merge_edits base regions first) (given o next (λ table. spawns next (transits goal_is.Assign (regions_in table (numbers_from first 1)))))

  opens : (base others : Catalog) (keys : List CatKey) (next : ℕ) → Can regions base → (next == no_row) ≡ false → (o : Option TableName) → OpensIn base others keys next o
  opens base others keys next can follows None = edits_so own (Merging regions first base (late act_is.Finish ∷ [])) base others keys (merge_edits base regions first) next [] follows (merge_edits base regions first) (opened can) (λ key g. refl)
  opens base others keys next can follows (Some table) = quiet_so own (Merging regions first base (late act_is.Finish ∷ [])) base others keys (merge_edits base regions first) next (transits goal_is.Assign (regions_in table (numbers_from first 1))) (quiet_moves goal_is.Assign (regions_in table (numbers_from first 1))) (opened can)

  merge_cause_is : (rows : List (CatKey × Rattle.hm_data.specs.declared.catalog.CatRow.CatRow)) → (o : Option TableName) → Rattle.hm_model.specs.RegionActs.merge_cause o rows regions ≡ cause_of_merge o (row_at rows) regions
  merge_cause_is rows None = refl
  merge_cause_is rows (Some table) = refl

  merges : (base there others : Catalog) (keys : List CatKey) (line : Line) (behind : List Line) (sofar : List Edit) (at : StepIn) (next : ℕ) → Merging regions first base (line ∷ behind) sofar → Sight (args_are.Root (request_is.MergeRegions regions) first) base there others keys sofar at → (next == no_row) ≡ is_last behind → Stepped (args_are.Root (request_is.MergeRegions regions) first) (Merging regions first base behind) base others keys sofar (act_answer line.act next at)
  merges base there others keys line behind sofar at next begins s last =
      subst (λ a. Stepped own (Merging regions first base behind) base others keys sofar (check_merge next a at.rows)) (sym s.own)
      (checks_so own (Merging regions first base behind) base others keys [] next (Rattle.hm_model.specs.RegionActs.merge_cause (table_of_first regions) at.rows regions)
      (λ none. found (sym (cause_same regions (row_at at.rows) base (seen_agree base there others keys [] at s (λ key. refl)) (seen_table base there others keys [] at s (λ key. refl))) ∙ sym (merge_cause_is at.rows (table_of_first regions)) ∙ none)))
  merges base there others keys line behind sofar at next (found can) s last =
      subst (λ a. Stepped own (Merging regions first base behind) base others keys sofar (close_parents next a)) (sym s.own)
      (quiet_so own (Merging regions first base behind) base others keys [] next (transits goal_is.Unassign regions) (quiet_moves goal_is.Unassign regions) (closed can))
  merges base there others keys line behind sofar at next (closed can) s last =
      quiet_so own (Merging regions first base behind) base others keys [] next (child_is.One (args_are.LayoutCall at.root) ∷ []) (quiet_layout at.root) (laid can)
  merges base there others keys line behind sofar at next (laid can) s last =
      subst (λ a. Stepped own (Merging regions first base behind) base others keys sofar (update_merge_meta next a at.rows)) (sym s.own)
      (edits_so own (Merging regions first base behind) base others keys [] next (merge_edits (row_at at.rows) regions first) last (merge_edits base regions first) (told can)
      (λ k g. alike_edited (merge_edits (row_at at.rows) regions first) (merge_edits base regions first) (merge_alike regions first (row_at at.rows) base (seen_agree base there others keys [] at s (λ key. refl))) k (base k)))
  merges base there others keys line behind sofar at next (told can) s last =
      subst (λ a. Stepped own (Merging regions first base behind) base others keys sofar (open_new 1 next a)) (sym s.own)
      (opens base others keys next can last (table_of_first regions))
  merges base there others keys line behind sofar at next (opened can) s last =
      done_so own (Merging regions first base behind) base others keys sofar [] (merge_edits others regions first)
      (ap (λ c. unless c (merge_edits others regions first)) (cause_same regions others base (deeds_agree base there others keys sofar at s) (deeds_table base there others keys sofar at s) ∙ can))
      (merge_within others regions first first)
      (λ k c. alike_edited (merge_edits others regions first) (merge_edits base regions first) (merge_alike regions first others base (deeds_agree base there others keys sofar at s)) k (base k))

  pub merge_regions_serves : Serves (args_are.Root (request_is.MergeRegions regions) first) (Merging regions first)
  merge_regions_serves = record { begins = λ base lines order. one_order (λ l. Merging regions first base l []) lines _ order begins; steps = merges }
