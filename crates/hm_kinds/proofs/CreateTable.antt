-- A request for a table: how far it is, and what its steps do.
use Rattle.std.proofs.Common.{◌≡◌, ℕ, List, [], ◌∷◌, ◌++◌, Bool, true, false, ◌==◌, cond, length, Option, Some, None, is_some, refl, ap, sym, ◌∙◌, subst, inl, inr, ◌⊎◌, slice_get, arith}
use Rattle.std.specs.Prelude.{option_map}
use Rattle.std.proofs.lemmas.Bool.{cond-true, or_left, false≢true}
use Rattle.hm_names.specs.declared.table.TableName.{TableName}
use Rattle.hm_data.specs.declared.act.Act.TheVariants as act_is
use Rattle.hm_data.specs.declared.act.Back.TheVariants as back_is
use Rattle.hm_data.specs.declared.args.Args.{Args}
use Rattle.hm_data.specs.declared.args.Args.TheVariants as args_are
use Rattle.hm_data.specs.declared.catalog.CatKey.{CatKey}
use Rattle.hm_data.specs.declared.catalog.CatKey.TheVariants as key_is
use Rattle.hm_data.specs.declared.catalog.CatRow.{CatRow}
use Rattle.hm_data.specs.declared.catalog.CatRow.TheVariants as row_is
use Rattle.hm_data.specs.declared.catalog.Edit.{Edit}
use Rattle.hm_data.specs.declared.catalog.TableState.{TableState}
use Rattle.hm_data.specs.declared.catalog.TableState.TheVariants as state_is
use Rattle.hm_data.specs.declared.args.Child.TheVariants as child_is
use Rattle.hm_data.specs.declared.place.Goal.TheVariants as goal_is
use Rattle.hm_data.specs.declared.request.Request.TheVariants as request_is
use Rattle.hm_data.specs.declared.step.StepIn.{StepIn}
use Rattle.hm_model.specs.Acts.{act_answer}
use Rattle.hm_model.specs.Answers.{no_row}
use Rattle.hm_model.specs.Catalog.{Catalog, edited, row_at, set_to}
use Rattle.hm_model.specs.Changes.{add_ranges, changed}
use Rattle.hm_model.specs.Checks.{table_free}
use Rattle.hm_model.specs.Deeds.{unless}
use Rattle.hm_model.specs.Keys.{same_key, same_table}
use Rattle.hm_model.specs.Lists.{Line, late, opening, plain, undone}
use Rattle.hm_model.specs.Reads.{covers, guards, is_ns, reads}
use Rattle.hm_model.specs.NamespaceActs.{add_table, check_table_free, set_state}
use Rattle.hm_model.specs.Pieces.{adding, ranges_between, transits}
use Rattle.hm_model.specs.RegionActs.{add_regions, open_regions, regions_for}
use Rattle.hm_model.specs.RowsSaid.{in_state}
use Rattle.hm_model.specs.Tree.{args_in}
use Rattle.hm_model.proofs.KeyTests.{bytes_eq-refl, same_table-refl}
use Rattle.hm_model.proofs.ValidSheets.{is_last}
use Rattle.hm_kinds.proofs.Clause.{Serves, Sight, Stepped, checks_so, edits_so, ends_so, knows, one_order, quiet_so, sees, spawns_so}
use Rattle.hm_kinds.proofs.Covering.{add_within}
use Rattle.hm_kinds.proofs.Quiet.{quiet_layout, quiet_moves}
use Rattle.hm_kinds.proofs.Shares.{Touched, add_effect, added_row, adding_owes, adding_touches, row_or, touches, value}

-- the row of the table is set
abbrev pub table_set : TableName → TableState → Edit
table_set table state = record { key = key_is.Table table; before = None; after = Some (row_is.Table state 1) }

abbrev pub bounds_for : List (List ℕ) → List (List ℕ)
bounds_for split = [] ∷ split ++ [] ∷ []

-- the table in a state, and its regions
abbrev pub with_regions : TableName → List (List ℕ) → ℕ → TableState → List Edit
with_regions table split first state = table_set table state ∷ add_ranges (λ key. None) table first (ranges_between (bounds_for split))

abbrev IsFree : TableName → Catalog → Type 0
IsFree table base = table_free (base (key_is.Ns table.ns)) (base (key_is.Table table)) ≡ None

abbrev enabling : List Line
enabling = undone act_is.SetEnabling back_is.Edits ∷ opening

abbrev laying : List Line
laying = undone act_is.Layout back_is.Sweep ∷ plain act_is.AddRegions ∷ enabling

-- how far it is
pub data Creating (table : TableName) (split : List (List ℕ)) (first : ℕ) (base : Catalog) : List Line → List Edit → Type 0 where
  begins : Creating table split first base (plain act_is.CheckTableFree ∷ undone act_is.AddTable back_is.Edits ∷ laying) []
  free : IsFree table base → Creating table split first base (undone act_is.AddTable back_is.Edits ∷ laying) []
  added : IsFree table base → Creating table split first base laying (table_set table state_is.Disabled ∷ [])
  laid : IsFree table base → Creating table split first base (plain act_is.AddRegions ∷ enabling) (table_set table state_is.Disabled ∷ [])
  filled : IsFree table base → Creating table split first base enabling (with_regions table split first state_is.Disabled)
  enabled : IsFree table base → Creating table split first base opening (with_regions table split first state_is.Enabling)
  opened : IsFree table base → Creating table split first base (late act_is.SetEnabled ∷ []) (with_regions table split first state_is.Enabling)

over : (b : Bool) (x y row : Option CatRow) → cond b x (cond b y row) ≡ cond b x row
over true x y row = refl
over false x y row = refl

-- regions change no row of a table, and a table's row is none of a region
set_again : (table : TableName) (split : List (List ℕ)) (first : ℕ) (state : TableState) (after row : Option CatRow) (key : CatKey) → cond (same_key key (key_is.Table table)) after (edited (with_regions table split first state) key row) ≡ row_or (added_row table first (bounds_for split) key) (cond (same_key key (key_is.Table table)) after row)
set_again table split first state after row key = ap (cond (same_key key (key_is.Table table)) after) (add_effect (λ k. None) table first (bounds_for split) key (cond (same_key key (key_is.Table table)) (Some (row_is.Table state 1)) row)) ∙ by key
  where
    by : (key : CatKey) → cond (same_key key (key_is.Table table)) after (row_or (added_row table first (bounds_for split) key) (cond (same_key key (key_is.Table table)) (Some (row_is.Table state 1)) row)) ≡ row_or (added_row table first (bounds_for split) key) (cond (same_key key (key_is.Table table)) after row)
    by (key_is.Table other) = over (same_table other table) after (Some (row_is.Table state 1)) row
    by key = refl

table_seen : (table : TableName) (split : List (List ℕ)) (first : ℕ) (state : TableState) (row : Option CatRow) → edited (with_regions table split first state) (key_is.Table table) row ≡ Some (row_is.Table state 1)
table_seen table split first state row =
    add_effect (λ k. None) table first (bounds_for split) (key_is.Table table) (cond (same_table table table) (Some (row_is.Table state 1)) row)
    ∙ cond-true (same_table table table) (Some (row_is.Table state 1)) row (same_table-refl table)

-- the row of a key after the table is added
abbrev row_then : TableName → Catalog → CatKey → Option CatRow
row_then table base key = cond (same_key key (key_is.Table table)) (Some (row_is.Table state_is.Disabled 1)) (base key)

-- the edits of the deed
abbrev whole_deed : TableName → List (List ℕ) → ℕ → Catalog → List Edit
whole_deed table split first others = set_to others (key_is.Table table) (Some (row_is.Table state_is.Enabled 1)) ∷ add_ranges others table first (ranges_between (bounds_for split))

module _ (table : TableName) (split : List (List ℕ)) (first : ℕ) where
  abbrev own : Args
  own = args_are.Root (request_is.CreateTable table split) first

  abbrev bounds : List (List ℕ)
  bounds = bounds_for split

  reads_ns : reads (args_are.Root (request_is.CreateTable table split) first) (key_is.Ns table.ns) ≡ true
  reads_ns = or_left (is_ns table.ns (key_is.Ns table.ns)) false (bytes_eq-refl table.ns)

  reads_table : reads (args_are.Root (request_is.CreateTable table split) first) (key_is.Table table) ≡ true
  reads_table = same_table-refl table

  covers_table : covers (args_are.Root (request_is.CreateTable table split) first) (key_is.Table table) ≡ true
  covers_table = or_left (same_table table table) false (same_table-refl table)

  module _ (base there others : Catalog) (keys : List CatKey) (at : StepIn) (next : ℕ) where
    abbrev So : List Line → List Edit → Rattle.hm_data.specs.declared.step.StepOut.StepOut → Type 0
    So behind sofar out = Stepped own (Creating table split first base behind) base others keys sofar out

    abbrev Sees : List Edit → Type 0
    Sees sofar = Sight own base there others keys sofar at

    checks : Sees [] → So (undone act_is.AddTable back_is.Edits ∷ laying) [] (check_table_free next at.args at.rows)
    checks s =
        subst (λ a. So (undone act_is.AddTable back_is.Edits ∷ laying) [] (check_table_free next a at.rows)) (sym s.own)
        (checks_so own (Creating table split first base (undone act_is.AddTable back_is.Edits ∷ laying)) base others keys [] next (table_free (row_at at.rows (key_is.Ns table.ns)) (row_at at.rows (key_is.Table table)))
        (λ none. free (ap (λ o. table_free o (base (key_is.Table table))) (sym (sees own base there others keys [] at s (key_is.Ns table.ns) reads_ns)) ∙ ap (table_free (row_at at.rows (key_is.Ns table.ns))) (sym (sees own base there others keys [] at s (key_is.Table table) reads_table)) ∙ none)))

    adds : IsFree table base → Sees [] → (next == no_row) ≡ false → So laying [] (add_table next at.args at.rows)
    adds none s follows =
        subst (λ a. So laying [] (add_table next a at.rows)) (sym s.own)
        (edits_so own (Creating table split first base laying) base others keys [] next (set_to (row_at at.rows) (key_is.Table table) (Some (row_is.Table state_is.Disabled 1)) ∷ []) follows (table_set table state_is.Disabled ∷ []) (added none) (λ key g. refl))

    lays : IsFree table base → So (plain act_is.AddRegions ∷ enabling) (table_set table state_is.Disabled ∷ []) (Rattle.hm_model.specs.NamespaceActs.lay_out next at.root)
    lays none = quiet_so own (Creating table split first base (plain act_is.AddRegions ∷ enabling)) base others keys (table_set table state_is.Disabled ∷ []) next (child_is.One (args_are.LayoutCall at.root) ∷ []) (quiet_layout at.root) (laid none)

    fills : IsFree table base → Sees (table_set table state_is.Disabled ∷ []) → So enabling (table_set table state_is.Disabled ∷ []) (add_regions next at.args)
    fills none s =
        subst (λ a. So enabling (table_set table state_is.Disabled ∷ []) (add_regions next a)) (sym s.own)
        (spawns_so own (Creating table split first base enabling) base others keys (table_set table state_is.Disabled ∷ []) next (adding (length bounds) table first bounds) (with_regions table split first state_is.Disabled) (filled none) now owed)
      where
        now : (key : CatKey) → guards own key ≡ true → (row_then table base key ≡ edited (with_regions table split first state_is.Disabled) key (base key)) ⊎ Touched (args_in (adding (length bounds) table first bounds)) key
        now key g = by (added_row table first bounds key) refl
          where
            by : (o : Option CatRow) → added_row table first bounds key ≡ o → (row_then table base key ≡ edited (with_regions table split first state_is.Disabled) key (base key)) ⊎ Touched (args_in (adding (length bounds) table first bounds)) key
            by None e = inl (sym (add_effect (λ k. None) table first bounds key (row_then table base key) ∙ ap (λ o. row_or o (row_then table base key)) e))
            by (Some row) e = inr (adding_touches table (length bounds) first bounds (omega arith) key (ap is_some e))

        owed : (i : ℕ) (made : Args) → slice_get (args_in (adding (length bounds) table first bounds)) i ≡ Some made → (key : CatKey) → touches made key ≡ true → edited (with_regions table split first state_is.Disabled) key (base key) ≡ value made key
        owed i made is key on =
            let o = adding_owes table (length bounds) first bounds i made is key on in
            add_effect (λ k. None) table first bounds key (row_then table base key) ∙ by (added_row table first bounds key) o.1 ∙ o.0
          where
            by : (o : Option CatRow) → is_some o ≡ true → row_or o (row_then table base key) ≡ o
            by None h = absurd (false≢true h)
            by (Some row) h = refl

    -- the table is set to another state
    sets : (was state : TableState) → Sees (with_regions table split first was) → (key : CatKey) → edited (changed (row_at at.rows) (key_is.Table table) (in_state state) ∷ []) key (edited (with_regions table split first was) key (base key)) ≡ edited (with_regions table split first state) key (base key)
    sets was state s key =
        ap (λ o. cond (same_key key (key_is.Table table)) (option_map (in_state state) o) (edited (with_regions table split first was) key (base key)))
        (sees own base there others keys (with_regions table split first was) at s (key_is.Table table) reads_table ∙ table_seen table split first was (base (key_is.Table table)))
        ∙ set_again table split first was (Some (row_is.Table state 1)) (base key) key
        ∙ sym (add_effect (λ k. None) table first bounds key (cond (same_key key (key_is.Table table)) (Some (row_is.Table state 1)) (base key)))

    enables : IsFree table base → Sees (with_regions table split first state_is.Disabled) → (next == no_row) ≡ false → So opening (with_regions table split first state_is.Disabled) (set_state state_is.Enabling next at.args at.rows)
    enables none s follows =
        subst (λ a. So opening (with_regions table split first state_is.Disabled) (set_state state_is.Enabling next a at.rows)) (sym s.own)
        (edits_so own (Creating table split first base opening) base others keys (with_regions table split first state_is.Disabled) next (changed (row_at at.rows) (key_is.Table table) (in_state state_is.Enabling) ∷ []) follows (with_regions table split first state_is.Enabling) (enabled none) (λ key g. sets state_is.Disabled state_is.Enabling s key))

    opens : IsFree table base → Sees (with_regions table split first state_is.Enabling) → So (late act_is.SetEnabled ∷ []) (with_regions table split first state_is.Enabling) (open_regions next at.args at.rows)
    opens none s =
        subst (λ a. So (late act_is.SetEnabled ∷ []) (with_regions table split first state_is.Enabling) (open_regions next a at.rows)) (sym s.own)
        (quiet_so own (Creating table split first base (late act_is.SetEnabled ∷ [])) base others keys (with_regions table split first state_is.Enabling) next (transits goal_is.Assign (regions_for table first (Some bounds) at.rows)) (quiet_moves goal_is.Assign (regions_for table first (Some bounds) at.rows)) (opened none))

    finishes : IsFree table base → Sees (with_regions table split first state_is.Enabling) → (next == no_row) ≡ true → So [] (with_regions table split first state_is.Enabling) (set_state state_is.Enabled next at.args at.rows)
    finishes none s last =
        subst (λ a. So [] (with_regions table split first state_is.Enabling) (set_state state_is.Enabled next a at.rows)) (sym s.own)
        (ends_so own (Creating table split first base []) base others keys (with_regions table split first state_is.Enabling) next (changed (row_at at.rows) (key_is.Table table) (in_state state_is.Enabled) ∷ []) last (whole_deed table split first others)
        (ap (λ o. unless (table_free o (others (key_is.Table table))) (whole_deed table split first others)) (knows own base there others keys (with_regions table split first state_is.Enabling) at s (key_is.Ns table.ns) reads_ns)
        ∙ ap (λ o. unless (table_free (base (key_is.Ns table.ns)) o) (whole_deed table split first others)) (knows own base there others keys (with_regions table split first state_is.Enabling) at s (key_is.Table table) reads_table)
        ∙ ap (λ c. unless c (whole_deed table split first others)) none)
        (covers_table, add_within own table (inr (inl refl)) others first (ranges_between bounds))
        (λ key c. add_effect others table first bounds key (cond (same_key key (key_is.Table table)) (Some (row_is.Table state_is.Enabled 1)) (base key)) ∙ sym (add_effect (λ k. None) table first bounds key (cond (same_key key (key_is.Table table)) (Some (row_is.Table state_is.Enabled 1)) (base key))) ∙ sym (sets state_is.Enabling state_is.Enabled s key)))

  creates : (base there others : Catalog) (keys : List CatKey) (line : Line) (behind : List Line) (sofar : List Edit) (at : StepIn) (next : ℕ) → Creating table split first base (line ∷ behind) sofar → Sight (args_are.Root (request_is.CreateTable table split) first) base there others keys sofar at → (next == no_row) ≡ is_last behind → Stepped (args_are.Root (request_is.CreateTable table split) first) (Creating table split first base behind) base others keys sofar (act_answer line.act next at)
  creates base there others keys line behind sofar at next begins s last = checks base there others keys at next s
  creates base there others keys line behind sofar at next (free none) s last = adds base there others keys at next none s last
  creates base there others keys line behind sofar at next (added none) s last = lays base there others keys at next none
  creates base there others keys line behind sofar at next (laid none) s last = fills base there others keys at next none s
  creates base there others keys line behind sofar at next (filled none) s last = enables base there others keys at next none s last
  creates base there others keys line behind sofar at next (enabled none) s last = opens base there others keys at next none s
  creates base there others keys line behind sofar at next (opened none) s last = finishes base there others keys at next none s last

  pub create_table_serves : Serves (args_are.Root (request_is.CreateTable table split) first) (Creating table split first)
  create_table_serves = record { begins = λ base lines order. one_order (λ l. Creating table split first base l []) lines _ order begins; steps = creates }
