-- A request to split a region: how far it is, and what its steps do.
use Rattle.std.proofs.Common.{◌≡◌, ℕ, List, [], ◌∷◌, true, ◌==◌, Option, Some, None, refl, ap, sym, ◌∙◌, subst, inl, inr}
use Rattle.std.specs.Prelude.{option_map}
use Rattle.std.proofs.lemmas.Bool.{or_left, or_right}
use Rattle.hm_names.specs.Region.{Region}
use Rattle.hm_names.specs.declared.range.KeyRange.{KeyRange}
use Rattle.hm_data.specs.declared.act.Act.TheVariants as act_is
use Rattle.hm_data.specs.declared.act.Back.TheVariants as back_is
use Rattle.hm_data.specs.declared.args.Args.{Args}
use Rattle.hm_data.specs.declared.args.Args.TheVariants as args_are
use Rattle.hm_data.specs.declared.args.Child.TheVariants as child_is
use Rattle.hm_data.specs.declared.catalog.CatKey.{CatKey}
use Rattle.hm_data.specs.declared.catalog.CatKey.TheVariants as key_is
use Rattle.hm_data.specs.declared.catalog.Edit.{Edit}
use Rattle.hm_data.specs.declared.catalog.Status.TheVariants as status_is
use Rattle.hm_data.specs.declared.place.Goal.TheVariants as goal_is
use Rattle.hm_data.specs.declared.request.Request.TheVariants as request_is
use Rattle.hm_data.specs.declared.step.StepIn.{StepIn}
use Rattle.hm_model.specs.Acts.{act_answer}
use Rattle.hm_model.specs.Answers.{no_row}
use Rattle.hm_model.specs.Catalog.{Catalog, row_at}
use Rattle.hm_model.specs.Changes.{split_edits, split_range}
use Rattle.hm_model.specs.Checks.{can_split}
use Rattle.hm_model.specs.Deeds.{unless}
use Rattle.hm_model.specs.Lists.{Line, late, orders_of, plain, undone}
use Rattle.hm_model.specs.Locks.{IsIn}
use Rattle.hm_model.specs.Reads.{is_region, is_table, reads}
use Rattle.hm_model.specs.Pieces.{numbers_from, transits}
use Rattle.hm_model.specs.RegionActs.{check_split, close_parents, open_new, update_split_meta}
use Rattle.hm_model.specs.RowsSaid.{in_status, range_in}
use Rattle.hm_model.specs.Views.{regions_in}
use Rattle.hm_model.proofs.KeyTests.{same_region-refl, same_table-refl}
use Rattle.hm_model.proofs.ValidSheets.{is_last}
use Rattle.hm_kinds.proofs.Clause.{Serves, Sight, Stepped, checks_so, done_so, edits_so, knows, quiet_so, sees}
use Rattle.hm_kinds.proofs.Covering.{split_within}
use Rattle.hm_kinds.proofs.Quiet.{quiet_layout, quiet_moves}
use Rattle.hm_kinds.proofs.Within.{Alike, alike_edited}

abbrev Can : Region → List ℕ → Catalog → Type 0
Can region key base = can_split (base (key_is.Table region.table)) (base (key_is.Region region)) key ≡ None

abbrev opening : List Line
opening = late act_is.OpenDaughters ∷ late act_is.Finish ∷ []

abbrev updating : List Line
updating = undone act_is.UpdateSplitMeta back_is.Edits ∷ opening

abbrev close : Line
close = undone act_is.CloseParent back_is.Reopen

abbrev lay : Line
lay = undone act_is.Layout back_is.Sweep

-- how far it is: nothing done; the region can be split; it is split. In the second order the layout comes first
pub data Splitting (region : Region) (key : List ℕ) (first : ℕ) (base : Catalog) : List Line → List Edit → Type 0 where
  begins : Splitting region key first base (plain act_is.CheckSplit ∷ close ∷ lay ∷ updating) []
  found : Can region key base → Splitting region key first base (close ∷ lay ∷ updating) []
  closed : Can region key base → Splitting region key first base (lay ∷ updating) []
  starts : Splitting region key first base (plain act_is.CheckSplit ∷ lay ∷ close ∷ updating) []
  tested : Can region key base → Splitting region key first base (lay ∷ close ∷ updating) []
  ahead : Can region key base → Splitting region key first base (close ∷ updating) []
  laid : Can region key base → Splitting region key first base updating []
  told : Can region key base → Splitting region key first base opening (split_edits base region key first)
  opened : Can region key base → Splitting region key first base (late act_is.Finish ∷ []) (split_edits base region key first)

-- a region that is the same is split in the same way
split_alike : (one other : Catalog) (region : Region) (key : List ℕ) (first : ℕ) → one (key_is.Region region) ≡ other (key_is.Region region) → Alike (split_edits one region key first) (split_edits other region key first)
split_alike one other region key first same =
    subst (λ o. Alike (split_range one region key first (range_in (one (key_is.Region region)))) (split_range other region key first (range_in o))) same (by (range_in (one (key_is.Region region))))
  where
    by : (o : Option KeyRange) → Alike (split_range one region key first o) (split_range other region key first o)
    by None = tt
    by (Some range) = (refl, ap (option_map (in_status status_is.Split)) same, (refl, refl, (refl, refl, tt)))

module _ (region : Region) (key : List ℕ) (first : ℕ) where
  abbrev own : Args
  own = args_are.Root (request_is.SplitRegion region key) first

  reads_table : reads (args_are.Root (request_is.SplitRegion region key) first) (key_is.Table region.table) ≡ true
  reads_table = or_left (is_table region.table (key_is.Table region.table)) _ (same_table-refl region.table)

  reads_region : reads (args_are.Root (request_is.SplitRegion region key) first) (key_is.Region region) ≡ true
  reads_region = or_right (is_table region.table (key_is.Region region)) (is_region region (key_is.Region region)) (same_region-refl region)

  tests : (base there others : Catalog) (keys : List CatKey) (behind : List Line) (at : StepIn) (next : ℕ) → (Can region key base → Splitting region key first base behind []) → Sight (args_are.Root (request_is.SplitRegion region key) first) base there others keys [] at
      → Stepped (args_are.Root (request_is.SplitRegion region key) first) (Splitting region key first base behind) base others keys [] (act_answer act_is.CheckSplit next at)
  tests base there others keys behind at next then s =
      subst (λ a. Stepped own (Splitting region key first base behind) base others keys [] (check_split next a at.rows)) (sym s.own)
      (checks_so own (Splitting region key first base behind) base others keys [] next (can_split (row_at at.rows (key_is.Table region.table)) (row_at at.rows (key_is.Region region)) key)
      (λ none. then (ap (λ o. can_split o (base (key_is.Region region)) key) (sym (sees own base there others keys [] at s (key_is.Table region.table) reads_table)) ∙ ap (λ o. can_split (row_at at.rows (key_is.Table region.table)) o key) (sym (sees own base there others keys [] at s (key_is.Region region) reads_region)) ∙ none)))

  closes : (base there others : Catalog) (keys : List CatKey) (behind : List Line) (at : StepIn) (next : ℕ) → Splitting region key first base behind [] → Sight (args_are.Root (request_is.SplitRegion region key) first) base there others keys [] at
      → Stepped (args_are.Root (request_is.SplitRegion region key) first) (Splitting region key first base behind) base others keys [] (act_answer act_is.CloseParent next at)
  closes base there others keys behind at next then s =
      subst (λ a. Stepped own (Splitting region key first base behind) base others keys [] (close_parents next a)) (sym s.own)
      (quiet_so own (Splitting region key first base behind) base others keys [] next (transits goal_is.Unassign (region ∷ [])) (quiet_moves goal_is.Unassign (region ∷ [])) then)

  lays : (base others : Catalog) (keys : List CatKey) (behind : List Line) (at : StepIn) (next : ℕ) → Splitting region key first base behind []
      → Stepped (args_are.Root (request_is.SplitRegion region key) first) (Splitting region key first base behind) base others keys [] (act_answer act_is.Layout next at)
  lays base others keys behind at next then =
      quiet_so own (Splitting region key first base behind) base others keys [] next (child_is.One (args_are.LayoutCall at.root) ∷ []) (quiet_layout at.root) then

  splits : (base there others : Catalog) (keys : List CatKey) (line : Line) (behind : List Line) (sofar : List Edit) (at : StepIn) (next : ℕ) → Splitting region key first base (line ∷ behind) sofar → Sight (args_are.Root (request_is.SplitRegion region key) first) base there others keys sofar at → (next == no_row) ≡ is_last behind → Stepped (args_are.Root (request_is.SplitRegion region key) first) (Splitting region key first base behind) base others keys sofar (act_answer line.act next at)
  splits base there others keys line behind sofar at next begins s last = tests base there others keys behind at next found s
  splits base there others keys line behind sofar at next starts s last = tests base there others keys behind at next tested s
  splits base there others keys line behind sofar at next (found can) s last = closes base there others keys behind at next (closed can) s
  splits base there others keys line behind sofar at next (ahead can) s last = closes base there others keys behind at next (laid can) s
  splits base there others keys line behind sofar at next (closed can) s last = lays base others keys behind at next (laid can)
  splits base there others keys line behind sofar at next (tested can) s last = lays base others keys behind at next (ahead can)
  splits base there others keys line behind sofar at next (laid can) s last =
      subst (λ a. Stepped own (Splitting region key first base behind) base others keys sofar (update_split_meta next a at.rows)) (sym s.own)
      (edits_so own (Splitting region key first base behind) base others keys [] next (split_edits (row_at at.rows) region key first) last (split_edits base region key first) (told can)
      (λ k g. alike_edited (split_edits (row_at at.rows) region key first) (split_edits base region key first) (split_alike (row_at at.rows) base region key first (sees own base there others keys [] at s (key_is.Region region) reads_region)) k (base k)))
  splits base there others keys line behind sofar at next (told can) s last =
      subst (λ a. Stepped own (Splitting region key first base behind) base others keys sofar (open_new 2 next a)) (sym s.own)
      (quiet_so own (Splitting region key first base behind) base others keys sofar next (transits goal_is.Assign (regions_in region.table (numbers_from first 2))) (quiet_moves goal_is.Assign (regions_in region.table (numbers_from first 2))) (opened can))
  splits base there others keys line behind sofar at next (opened can) s last =
      done_so own (Splitting region key first base behind) base others keys sofar [] (split_edits others region key first)
      (ap (λ o. unless (can_split o (others (key_is.Region region)) key) (split_edits others region key first)) (knows own base there others keys sofar at s (key_is.Table region.table) reads_table)
      ∙ ap (λ o. unless (can_split (base (key_is.Table region.table)) o key) (split_edits others region key first)) (knows own base there others keys sofar at s (key_is.Region region) reads_region)
      ∙ ap (λ c. unless c (split_edits others region key first)) can)
      (split_within others region key first)
      (λ k c. alike_edited (split_edits others region key first) (split_edits base region key first) (split_alike others base region key first (knows own base there others keys sofar at s (key_is.Region region) reads_region)) k (base k))

  begun : (base : Catalog) (lines : List Line) → IsIn lines (orders_of 8) → Splitting region key first base lines []
  begun base lines (inl same) = subst (λ l. Splitting region key first base l []) (sym same) begins
  begun base lines (inr (inl same)) = subst (λ l. Splitting region key first base l []) (sym same) starts
  begun base lines (inr (inr never)) = absurd never

  pub split_region_serves : Serves (args_are.Root (request_is.SplitRegion region key) first) (Splitting region key first)
  split_region_serves = record { begins = begun; steps = splits }
