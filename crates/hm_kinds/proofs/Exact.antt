-- The kinds of exact rows: a move, whose deed is no edit where the region was ready; others have no deed.
use Rattle.std.proofs.Common.{◌≡◌, ℕ, List, [], true, false, cond, Option, Some, None, refl, ap, sym, ◌∙◌, slice_get}
use Rattle.std.specs.Prelude.{Ok}
use Rattle.std.proofs.lemmas.Bool.{or_left, or_right, true≢false}
use Rattle.std.proofs.lemmas.Option.{none-some, same_Some}
use Rattle.hm_names.specs.declared.table.TableName.{TableName}
use Rattle.hm_data.specs.declared.act.Act.TheVariants as act_is
use Rattle.hm_data.specs.declared.answer.Cause.{Cause}
use Rattle.hm_data.specs.declared.args.Args.{Args}
use Rattle.hm_data.specs.declared.args.Args.TheVariants as args_are
use Rattle.hm_data.specs.declared.catalog.CatKey.{CatKey}
use Rattle.hm_data.specs.declared.catalog.CatKey.TheVariants as key_is
use Rattle.hm_data.specs.declared.request.Request.TheVariants as request_is
use Rattle.hm_data.specs.declared.sheet.Row.{Row}
use Rattle.hm_data.specs.declared.step.StepIn.{StepIn}
use Rattle.hm_model.specs.Answers.{failing}
use Rattle.hm_model.specs.Catalog.{Catalog, row_at}
use Rattle.hm_model.specs.Checks.{region_ready}
use Rattle.hm_model.specs.Deeds.{deed_of, unless}
use Rattle.hm_model.specs.Evaluation.{is_cut_off, row_answer}
use Rattle.hm_model.specs.Kinds.{first_row_of, kind_of}
use Rattle.hm_model.specs.Lists.{exact_rows, fixed}
use Rattle.hm_model.specs.Locks.{IsIn, asks, exclusive}
use Rattle.hm_model.specs.Reads.{guards, is_region, is_table, reads}
use Rattle.hm_model.specs.Outs.{checked, fails}
use Rattle.hm_model.specs.TransitActs.{check_move}
use Rattle.hm_model.specs.declared.lock.Ask.{Ask}
use Rattle.hm_model.specs.declared.lock.Resource.{Resource}
use Rattle.hm_model.specs.declared.lock.Resource.TheVariants as resource_is
use Rattle.hm_model.proofs.KeyTests.{same_region-refl, same_table-refl}
use Rattle.hm_kinds.proofs.Clause.{Sight, sees}

-- the deed of a procedure is no edit, in each catalog that has of what it guards what was there before its first step
abbrev pub IsSettled : Args → Catalog → Type 0
IsSettled args base = (others : Catalog) (keys : List CatKey) → ((key : CatKey) → guards args key ≡ true → others key ≡ base key) → deed_of args keys others ≡ Ok []

abbrev pub IsExactKind : Args → Type 0
IsExactKind args = exact_rows (kind_of args) ≡ [] → ⊥

guards_read : (args : Args) (key : CatKey) → reads args key ≡ true → guards args key ≡ true
guards_read args key on = or_right (Rattle.hm_model.specs.Reads.covers args key) (reads args key) on

pub unfailed : (next : ℕ) (cause : Option Cause) → failing (checked next cause).answer ≡ None → cause ≡ None
unfailed next None h = refl
unfailed next (Some cause) h = absurd (none-some cause (sym h))

-- after its first step, where it didn't fail, a procedure of exact rows is settled
pub exact_settles : (args : Args) → IsExactKind args → (row : Row) → slice_get (exact_rows (kind_of args)) (first_row_of args) ≡ Some row → (base there others : Catalog) (keys : List CatKey) (at : StepIn) → Sight args base there others keys [] at → failing (row_answer row at).answer ≡ None → IsSettled args base
exact_settles (args_are.Root (request_is.Move region to) first) exact row is base there others keys at s fine others' keys' same =
    ap (λ o. unless (region_ready o (others' (key_is.Region region))) []) (same (key_is.Table region.table) (guards_read (args_are.Root (request_is.Move region to) first) (key_is.Table region.table) reads_table))
    ∙ ap (λ o. unless (region_ready (base (key_is.Table region.table)) o) []) (same (key_is.Region region) (guards_read (args_are.Root (request_is.Move region to) first) (key_is.Region region) reads_region))
    ∙ ap (λ c. unless c []) (sym seen ∙ unfailed 3 (region_ready (row_at at.rows (key_is.Table region.table)) (row_at at.rows (key_is.Region region))) (by (is_cut_off row at) (ap (λ (r : Row). failing (row_answer r at).answer) mine ∙ fine)))
  where
    mine : fixed act_is.CheckMove 3 false ≡ row
    mine = same_Some (fixed act_is.CheckMove 3 false) row is

    reads_table : reads (args_are.Root (request_is.Move region to) first) (key_is.Table region.table) ≡ true
    reads_table = or_left (is_table region.table (key_is.Table region.table)) _ (same_table-refl region.table)

    reads_region : reads (args_are.Root (request_is.Move region to) first) (key_is.Region region) ≡ true
    reads_region = or_right (is_table region.table (key_is.Region region)) (is_region region (key_is.Region region)) (same_region-refl region)

    seen : region_ready (row_at at.rows (key_is.Table region.table)) (row_at at.rows (key_is.Region region)) ≡ region_ready (base (key_is.Table region.table)) (base (key_is.Region region))
    seen = ap (λ o. region_ready o (row_at at.rows (key_is.Region region))) (sees (args_are.Root (request_is.Move region to) first) base there others keys [] at s (key_is.Table region.table) reads_table) ∙ ap (region_ready (base (key_is.Table region.table))) (sees (args_are.Root (request_is.Move region to) first) base there others keys [] at s (key_is.Region region) reads_region)

    by : (b : Rattle.std.proofs.Common.Bool) → failing (row_answer (fixed act_is.CheckMove 3 false) at).answer ≡ None → failing (checked 3 (region_ready (row_at at.rows (key_is.Table region.table)) (row_at at.rows (key_is.Region region)))).answer ≡ None
    by b h = uncut (is_cut_off (fixed act_is.CheckMove 3 false) at) h
      where
        uncut : (c : Rattle.std.proofs.Common.Bool) → failing (cond c (fails Rattle.hm_data.specs.declared.answer.Cause.TheVariants.Aborted) (check_move 3 at.args at.rows)).answer ≡ None → failing (checked 3 (region_ready (row_at at.rows (key_is.Table region.table)) (row_at at.rows (key_is.Region region)))).answer ≡ None
        uncut true h = absurd (none-some Rattle.hm_data.specs.declared.answer.Cause.TheVariants.Aborted (sym h))
        uncut false h = ap (λ a. failing (check_move 3 a at.rows).answer) (sym s.own) ∙ h
exact_settles (args_are.Root (request_is.CreateNamespace ns) first) exact row is base there others keys at s fine others' keys' same = absurd (exact refl)
exact_settles (args_are.Root (request_is.DropNamespace ns) first) exact row is base there others keys at s fine others' keys' same = absurd (exact refl)
exact_settles (args_are.Root (request_is.CreateTable table split) first) exact row is base there others keys at s fine others' keys' same = absurd (exact refl)
exact_settles (args_are.Root (request_is.DeleteTable table) first) exact row is base there others keys at s fine others' keys' same = absurd (exact refl)
exact_settles (args_are.Root (request_is.EnableTable table) first) exact row is base there others keys at s fine others' keys' same = absurd (exact refl)
exact_settles (args_are.Root (request_is.DisableTable table) first) exact row is base there others keys at s fine others' keys' same = absurd (exact refl)
exact_settles (args_are.Root (request_is.ModifyTable table version) first) exact row is base there others keys at s fine others' keys' same = absurd (exact refl)
exact_settles (args_are.Root (request_is.SplitRegion region key) first) exact row is base there others keys at s fine others' keys' same = absurd (exact refl)
exact_settles (args_are.Root (request_is.MergeRegions regions) first) exact row is base there others keys at s fine others' keys' same = absurd (exact refl)
exact_settles args exact row is base there others keys at s fine others' keys' same = refl

is_whole : Resource → Rattle.std.proofs.Common.Bool
is_whole (resource_is.Table t) = true
is_whole (resource_is.Ns n) = false
is_whole (resource_is.Region r) = false
is_whole (resource_is.Server s) = false

moved_asks : (region : Rattle.hm_names.specs.Region.Region) (goal : Rattle.hm_data.specs.declared.place.Goal.Goal) (to : Option Rattle.hm_names.specs.Server.Server) (t : TableName) → IsIn (exclusive (resource_is.Table t)) (asks (args_are.Transit region goal to)) → ⊥
unfolding is_whole
moved_asks region goal to t (Rattle.std.proofs.Common.inl e) = true≢false (ap (λ (a : Ask). a.exclusive) e)
moved_asks region goal to t (Rattle.std.proofs.Common.inr (Rattle.std.proofs.Common.inl e)) = true≢false (ap (λ (a : Ask). a.exclusive) e)
moved_asks region goal to t (Rattle.std.proofs.Common.inr (Rattle.std.proofs.Common.inr (Rattle.std.proofs.Common.inl e))) = true≢false (ap (λ (a : Ask). is_whole a.resource) e)
moved_asks region goal to t (Rattle.std.proofs.Common.inr (Rattle.std.proofs.Common.inr (Rattle.std.proofs.Common.inr never))) = never

-- it asks for no table alone
pub exact_asks : (args : Args) → IsExactKind args → (t : TableName) → IsIn (exclusive (resource_is.Table t)) (asks args) → ⊥
unfolding is_whole
exact_asks (args_are.Root (request_is.Move region to) first) exact t among = moved_asks region Rattle.hm_data.specs.declared.place.Goal.TheVariants.Move to t among
exact_asks (args_are.Root (request_is.CreateNamespace ns) first) exact t among = exact refl
exact_asks (args_are.Root (request_is.DropNamespace ns) first) exact t among = exact refl
exact_asks (args_are.Root (request_is.CreateTable table split) first) exact t among = exact refl
exact_asks (args_are.Root (request_is.DeleteTable table) first) exact t among = exact refl
exact_asks (args_are.Root (request_is.EnableTable table) first) exact t among = exact refl
exact_asks (args_are.Root (request_is.DisableTable table) first) exact t among = exact refl
exact_asks (args_are.Root (request_is.ModifyTable table version) first) exact t among = exact refl
exact_asks (args_are.Root (request_is.SplitRegion region key) first) exact t among = exact refl
exact_asks (args_are.Root (request_is.MergeRegions regions) first) exact t among = exact refl
exact_asks (args_are.Transit region goal to) exact t among = moved_asks region goal to t among
exact_asks (args_are.Crash server) exact t (Rattle.std.proofs.Common.inl e) = true≢false (ap (λ (a : Ask). is_whole a.resource) e)
exact_asks (args_are.Crash server) exact t (Rattle.std.proofs.Common.inr never) = never
exact_asks (args_are.AddRegions table first bounds) exact t among = exact refl
exact_asks (args_are.DropRegions table ids) exact t among = exact refl
exact_asks args exact t among = among
