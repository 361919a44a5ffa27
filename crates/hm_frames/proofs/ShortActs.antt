-- What acts answer is short.
use Rattle.hm_data.specs.declared.act.Act.{Act}
use Rattle.hm_data.specs.declared.act.Act.TheVariants as act_is
use Rattle.hm_data.specs.declared.act.Back.{Back}
use Rattle.hm_data.specs.declared.answer.Answer.{Answer}
use Rattle.hm_data.specs.declared.answer.Answer.TheVariants as answer_is
use Rattle.hm_data.specs.declared.answer.Cause.{Cause}
use Rattle.hm_data.specs.declared.answer.Cause.TheVariants as cause_is
use Rattle.hm_data.specs.declared.args.Args.{Args}
use Rattle.hm_data.specs.declared.args.Child.{Child}
use Rattle.hm_data.specs.declared.call.Told.{Told}
use Rattle.hm_data.specs.declared.call.Verb.{Verb}
use Rattle.hm_data.specs.declared.catalog.Edit.{Edit}
use Rattle.hm_data.specs.declared.place.Goal.{Goal}
use Rattle.hm_data.specs.declared.place.Goal.TheVariants as goal_is
use Rattle.hm_data.specs.declared.place.Place.{Place}
use Rattle.hm_data.specs.declared.sheet.Row.{Row}
use Rattle.hm_data.specs.declared.step.StepIn.{StepIn}
use Rattle.hm_data.specs.declared.step.StepOut.{StepOut}
use Rattle.hm_model.specs.Acts.{act_answer}
use Rattle.hm_model.specs.Catalog.{row_at}
use Rattle.hm_model.specs.Evaluation.{is_cut_off, row_answer, turn_answer}
use Rattle.hm_model.specs.Outs.{calls, ends_with, fails, gives, on_to, spawns}
use Rattle.hm_model.specs.Pieces.{numbers_from, ranges_between, transits}
use Rattle.hm_model.specs.RegionActs.{regions_for}
use Rattle.hm_model.specs.RowsSaid.{Rows, all_among, in_state, in_version, regions_among}
use Rattle.hm_model.specs.Undoing.{closed_by, turned_round, undo_out}
use Rattle.hm_model.specs.Views.{bounds_of, first_id_of, regions_in}
use Rattle.hm_model.specs.Wanted.{ids_of}
use Rattle.hm_names.specs.Region.{Region}
use Rattle.hm_names.specs.declared.pid.Pid.{Pid}
use Rattle.hm_data.specs.declared.act.Back.TheVariants as back_is
use Rattle.hm_names.specs.declared.table.TableName.{TableName}
use Rattle.std.proofs.Common.{Bool, List, None, Option, Some, [], true, false, if◌then◌else◌, length, map, subst, ℕ, ◌&&◌, ◌∷◌, ◌≡◌, arith}
use Rattle.std.specs.Prelude.{◌≤◌}
use Rattle.hm_data.specs.declared.catalog.CatKey.{CatKey}
use Rattle.hm_data.specs.declared.step.Turn.{Turn}
use Rattle.hm_data.specs.declared.step.Turn.TheVariants as turn_is
use Rattle.hm_names.specs.Names.{IsNs}
use Rattle.hm_names.specs.Servers.{IsServer}
use Rattle.hm_names.specs.Tables.{IsTable}
use Rattle.hm_entry.specs.Spelling.{child, list}
use Rattle.hm_frames.proofs.ShortChildren.{adds_short, assign_short, close_short, drops_short, fence_short, layout_short, ordered_each, sweep_short, transits_of_one, transits_short}
use Rattle.hm_frames.proofs.ShortEdits.{added_long, added_short, edits_short, merge_short, ranges_short, removed_long, removed_short, split_short, state_short, turned_long, turned_short, version_short}
use Rattle.hm_frames.proofs.ShortParts.{all_for, bounds_in, closed_in, cut_in, ids_count, ids_in, ids_of_table, ns_in, numbers_count, of_ids, region_in, server_in, table_in}
use Rattle.hm_frames.proofs.ShortForms.{AreShortEdits, Each, If, IsOfTable, IsShortArgs, IsShortCatKey, IsShortChild, IsShortEdit, IsShortKey, IsShortOut, IsShortPlace, IsShortRow, IsShortTurn, IsShortVerb, SeesShort}
use Rattle.hm_data.specs.declared.catalog.CatRow.{CatRow}
use Rattle.std.specs.Option.{option_map}
use Rattle.hm_model.specs.MadeOf.{AreMoved, Asks, Becomes, Edits, Gives, IsMadeOf, IsOwnKey, Makes, Making, Which, making}
use Rattle.hm_model.proofs.MadeOf.{made_of}

abbrev RowsShort : Rows → Type 0
RowsShort rows = (key : CatKey) → If IsShortRow (row_at rows key)

abbrev FewRegions : Rows → Type 0
FewRegions rows = (table : TableName) (test : CatRow → Bool) → length (regions_among table test rows) ≤ 4096

-- 64 regions at most are added at once
abbrev pub FewBounds : Args → Type 0
FewBounds args = (bounds : List (List ℕ)) → bounds_of args ≡ Some bounds → length bounds ≤ 65

part_of : {A : Type 0} (P : A → Type 0) {o : Option A} {a : A} → If P o → o ≡ Some a → P a
part_of P {o} {a} is e = subst (If P) e is

plainly : (answer : Answer) (place : Option Place) → If IsShortPlace place → IsShortOut (record { answer = answer; edits = []; children = []; call = None; place = place; followers = [] })
plainly answer place at = record { edits = (tt, omega arith); children = tt; followers = tt; call = tt; place = at; small = omega arith }

edited : (answer : Answer) (edits : List Edit) → Each IsShortEdit edits → length edits ≤ 64 → IsShortOut (gives answer edits)
edited answer edits are few = record { edits = (are, few); children = tt; followers = tt; call = tt; place = tt; small = omega (arith, edits_short edits are few) }

ended : (next : ℕ) (told : Told) → IsShortOut (ends_with told)
ended next told = plainly (answer_is.Done told) None tt

failed : (next : ℕ) (cause : Cause) → IsShortOut (fails cause)
failed next cause = plainly (answer_is.Fail cause) None tt

spawned : (next : ℕ) (children : List Child) → Each IsShortChild children → length (list child children) ≤ 59000 → IsShortOut (spawns next children)
spawned next [] are small = plainly (answer_is.More next) None tt
spawned next (one ∷ more) are small = record { edits = (tt, omega arith); children = are; followers = tt; call = tt; place = tt; small = omega (arith, small) }

called : (next : ℕ) (verb : Verb) → IsShortVerb verb → IsShortOut (calls next verb)
called next verb is = record { edits = (tt, omega arith); children = tt; followers = tt; call = is; place = tt; small = omega arith }

-- the keys of the namespace or table that a procedure works on, and what becomes of their rows
own_short : (args : Args) → IsShortArgs args → {key : CatKey} → IsOwnKey args key → IsShortCatKey key
own_short args is (IsOwnKey.of_namespace ns own) = part_of IsNs (ns_in args is) own
own_short args is (IsOwnKey.of_name table own) = part_of IsTable (table_in args is) own

mapped_short : (change : CatRow → CatRow) → ((row : CatRow) → IsShortRow row → IsShortRow (change row)) → (o : Option CatRow) → If IsShortRow o → If IsShortRow (option_map change o)
mapped_short change each None is = tt
mapped_short change each (Some row) is = each row is

becomes_short : (before : Option CatRow) → If IsShortRow before → {after : Option CatRow} → Becomes before after → If IsShortRow after
becomes_short before is Becomes.goes = tt
becomes_short before is Becomes.namespace = tt
becomes_short before is (Becomes.table state) = tt
becomes_short before is (Becomes.state state) = mapped_short (in_state state) (state_short state) before is
becomes_short before is (Becomes.version version) = mapped_short (in_version version) (version_short version) before is

short_edits : (act : Act) (at : StepIn) → SeesShort at → (act ≡ act_is.AddRegionRows → FewBounds at.args) → {edits : List Edit} → Edits act at edits → AreShortEdits edits
short_edits act at sees few (Edits.one_row key own kinds after becomes) =
    ((record { key = own_short at.args sees.args own; before = sees.rows key; after = becomes_short (row_at at.rows key) (sees.rows key) becomes }, tt), omega arith)
short_edits act at sees few (Edits.adds_rows only table is bounds are) =
    let own = ranges_short bounds (bounds_in at.args sees.args bounds are).0 in (
      added_short (row_at at.rows) sees.rows table (part_of IsTable (table_in at.args sees.args) is) (first_id_of at.args) (ranges_between bounds) own.0,
      omega (arith, added_long (row_at at.rows) sees.rows table (first_id_of at.args) (ranges_between bounds), own.1, few only bounds are),
    )
short_edits act at sees few (Edits.removes_rows only table is) = (
  removed_short (row_at at.rows) sees.rows (regions_in table (ids_of at.args)) (ids_of_table table (part_of IsTable (table_in at.args sees.args) is) (ids_of at.args)),
  omega (arith, removed_long (row_at at.rows) sees.rows (regions_in table (ids_of at.args)), (of_ids table (ids_of at.args)).1, ids_in at.args sees.args),
)
short_edits act at sees few (Edits.splits only region is key cut) =
    let split = split_short (row_at at.rows) sees.rows region key (first_id_of at.args) (part_of IsOfTable (region_in at.args sees.args) is) (part_of IsShortKey (cut_in at.args sees.args) cut) in
    (split.0, omega (arith, split.1))
short_edits act at sees few (Edits.merges only) =
    let own = closed_in at.args sees.args in
    let ordered = ordered_each IsOfTable (closed_by at.args) own.0 in
    let merge = merge_short (row_at at.rows) sees.rows (closed_by at.args) (first_id_of at.args) own.0 ordered.0 own.1 (omega (arith, ordered.1, own.1)) in
    (merge.0, omega (arith, merge.1))

-- children that are short together
abbrev AreShortChildren : List Child → Type 0
AreShortChildren children = Each IsShortChild children × (length (list child children) ≤ 59000)

-- two regions at most are drawn for one procedure's transits
abbrev DrawsFew : Making → Type 0
DrawsFew (Making.moves goal (Which.drawn count)) = count ≤ 2
DrawsFew making = Unit {0}

draws_few : (act : Act) → DrawsFew (making act)
draws_few act_is.OpenDaughters = omega arith
draws_few act_is.OpenMerged = omega arith
draws_few act = tt

short_moved : (act : Act) (at : StepIn) → SeesShort at → (goal : Goal) (which : Which) → making act ≡ Making.moves goal which → {regions : List Region} → AreMoved at which regions → AreShortChildren (transits goal regions)
short_moved act at sees goal which only (AreMoved.of_table table is) =
    let all = all_for table (first_id_of at.args) (bounds_of at.args) at.rows (λ own e. (bounds_in at.args sees.args own e).1) (sees.few table) in
    let moves = transits_of_one goal table (part_of IsTable (table_in at.args sees.args) is) (regions_for table (first_id_of at.args) (bounds_of at.args) at.rows) all.0 in
    (moves.0, omega (arith, moves.1, all.1))
short_moved act at sees goal which only AreMoved.of_closed =
    let own = closed_in at.args sees.args in
    let moves = transits_short goal (closed_by at.args) own.0 in
    (moves.0, omega (arith, moves.1, own.1))
short_moved act at sees goal which only (AreMoved.of_drawn count table is) =
    let few : count ≤ 2 = subst DrawsFew only (draws_few act) in
    let own = of_ids table (numbers_from (first_id_of at.args) count) in
    let moves = transits_of_one goal table (part_of IsTable (table_in at.args sees.args) is) (regions_in table (numbers_from (first_id_of at.args) count)) own.0 in
    (moves.0, omega (arith, moves.1, own.1, numbers_count (first_id_of at.args) count, few))
short_moved act at sees goal which only AreMoved.of_lost =
    let moves = transits_short goal at.on_server sees.on_server.0 in
    (moves.0, omega (arith, moves.1, sees.on_server.1))

short_makes : (act : Act) (at : StepIn) → SeesShort at → {children : List Child} → Makes act at children → AreShortChildren children
short_makes act at sees (Makes.lays only) = (((tt, tt), tt), omega (arith, layout_short at.root))
short_makes act at sees (Makes.fences only server is) =
    let s = part_of IsServer (server_in at.args sees.args) is in
    (((tt, s), tt), omega (arith, fence_short server s))
short_makes act at sees (Makes.adds_all only table is bounds are) =
    let own = bounds_in at.args sees.args bounds are in
    let adds = adds_short table (part_of IsTable (table_in at.args sees.args) is) (first_id_of at.args) bounds own.0 own.1 in
    (adds.0, omega (arith, adds.1))
short_makes act at sees (Makes.drops_all only table is) =
    let drops = drops_short table (part_of IsTable (table_in at.args sees.args) is) (map (λ (r : Region). r.id) (all_among table at.rows)) (omega (arith, ids_count (all_among table at.rows), sees.few table (λ row. true))) in
    (drops.0, omega (arith, drops.1))
short_makes act at sees (Makes.sends goal sent which only regions are) = short_moved act at sees goal which only are
short_makes act at sees (Makes.opens off region is server there) =
    let r = part_of IsOfTable (region_in at.args sees.args) is in
    let s = part_of IsServer sees.place there in
    (((tt, (r, s)), tt), omega (arith, assign_short region server r s))

short_asks : (args : Args) → IsShortArgs args → {verb : Verb} → Asks args verb → IsShortVerb verb
short_asks args is (Asks.opening region own) = part_of IsOfTable (region_in args is) own
short_asks args is (Asks.closing region own) = part_of IsOfTable (region_in args is) own
short_asks args is (Asks.fencing_off server own) = part_of IsServer (server_in args is) own
short_asks args is (Asks.laying root own) = tt
short_asks args is (Asks.sweeping root own) = tt

short_gives : (at : StepIn) → SeesShort at → {place : Option Place} → Gives at place → If IsShortPlace place
short_gives at sees Gives.left = tt
short_gives at sees (Gives.away state) = tt
short_gives at sees (Gives.picked state) = sees.pick
short_gives at sees (Gives.there state) = sees.place

-- what each act answers
short_made : (act : Act) (next : ℕ) (at : StepIn) → SeesShort at → (act ≡ act_is.AddRegionRows → FewBounds at.args) → {out : StepOut} → IsMadeOf act next at out → IsShortOut out
short_made act next at sees few (IsMadeOf.failed may cause) = failed next cause
short_made act next at sees few IsMadeOf.went_on = plainly (answer_is.More next) None tt
short_made act next at sees few (IsMadeOf.ended told) = ended next told
short_made act next at sees few (IsMadeOf.edited e edits are) = let short = short_edits act at sees few are in edited (on_to next) edits short.0 short.1
short_made act next at sees few (IsMadeOf.made children makes) = let short = short_makes act at sees makes in spawned next children short.0 short.1
short_made act next at sees few (IsMadeOf.called off verb asks) = called next verb (short_asks at.args sees.args asks)
short_made act next at sees few (IsMadeOf.placed off answer near place gives) = plainly answer place (short_gives at sees gives)
short_made act next at sees few (IsMadeOf.shut off region is server there) =
    let named = part_of IsOfTable (region_in at.args sees.args) is in
    let s = part_of IsServer sees.place there in
    record { edits = (tt, omega arith); children = ((tt, (named, s)), tt); followers = tt; call = tt; place = s; small = omega (arith, close_short region server named s) }

-- a row answers so
row_short : (row : Row) (at : StepIn) → SeesShort at → (row.act ≡ act_is.AddRegionRows → FewBounds at.args) → IsShortOut (row_answer row at)
row_short row at sees few = by (is_cut_off row at)
  where
    by : (b : Bool) → IsShortOut (if b then fails cause_is.Aborted else act_answer row.act row.next at)
    by true = failed row.next cause_is.Aborted
    by false = short_made row.act row.next at sees few (made_of row.act row.next at)

-- what undoes a step
undo_short : (undo : Back) (args : Args) (root : Pid) (edits : List Edit) → IsShortArgs args → AreShortEdits edits → IsShortOut (undo_out undo args root edits)
undo_short back_is.Nothing args root edits is are = record { edits = (tt, omega arith); children = tt; followers = tt; call = tt; place = tt; small = omega arith }
undo_short back_is.Edits args root edits is are =
    let turned = turned_short edits are.0 in
    let few : length (turned_round edits) ≤ 64 = omega (arith, turned_long edits, are.1) in
    record { edits = (turned, few); children = tt; followers = tt; call = tt; place = tt; small = omega (arith, edits_short (turned_round edits) turned few) }
undo_short back_is.Sweep args root edits is are =
    record { edits = (tt, omega arith); children = tt; followers = ((tt, tt), tt); call = tt; place = tt; small = omega (arith, sweep_short root) }
undo_short back_is.Reopen args root edits is are =
    let own = closed_in args is in
    let moves = transits_short goal_is.Assign (closed_by args) own.0 in
    record { edits = (tt, omega arith); children = tt; followers = moves.0; call = tt; place = tt; small = omega (arith, moves.1, own.1) }

-- what a row answers by the turn
pub turn_short : (row : Row) (at : StepIn) → SeesShort at → (row.act ≡ act_is.AddRegionRows → FewBounds at.args) → IsShortOut (turn_answer row at at.turn)
turn_short row at sees few = by at.turn sees.turn
  where
    by : (turn : Turn) → IsShortTurn turn → IsShortOut (turn_answer row at turn)
    by turn_is.Step is = row_short row at sees few
    by (turn_is.Undo edits) is = undo_short row.undo at.args at.root edits sees.args is
