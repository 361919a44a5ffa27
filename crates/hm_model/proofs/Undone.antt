-- A table is created whose files aren't laid out: the create is undone, worked by hand.
use Rattle.std.proofs.Common.{None, Some, [], arith, codes, inl, inr, refl, subst, ◌+◌, ◌∷◌, ◌≡◌, ◌≤◌}
use Rattle.std.proofs.lemmas.Option.{same_Some}
use Rattle.hm_data.specs.declared.catalog.Edit.{Edit}
use Rattle.hm_model.specs.Catalog.{cat}
use Rattle.hm_model.specs.Serial.{serial}
use Rattle.hm_model.specs.Entries.{entries_of}
use Rattle.hm_model.specs.Journal.{Past}
use Rattle.hm_model.specs.Outs.{calls, spawns}
use Rattle.hm_model.specs.Records.{unfinished}
use Rattle.hm_model.specs.Outs.{fails, gives}
use Rattle.hm_model.specs.Undoing.{turned, turned_round}
use Rattle.hm_model.specs.Tree.{Node, child_of, drawn, node_of, root_node}
use Rattle.hm_model.specs.Rules.{IsLegal}
use Rattle.hm_data.specs.declared.entry.Entry.TheVariants as entry_is
use Rattle.hm_data.specs.declared.answer.Answer.TheVariants as answer_is
use Rattle.hm_data.specs.declared.answer.Cause.TheVariants as cause_is
use Rattle.hm_data.specs.declared.args.Args.TheVariants as args_are
use Rattle.hm_data.specs.declared.args.Child.TheVariants as child_is
use Rattle.hm_data.specs.declared.request.Request.TheVariants as request_is
use Rattle.hm_data.specs.declared.catalog.CatKey.TheVariants as key_is
use Rattle.hm_data.specs.declared.catalog.CatRow.TheVariants as row_is
use Rattle.hm_data.specs.declared.catalog.Status.TheVariants as status_is
use Rattle.hm_data.specs.declared.catalog.TableState.TheVariants as state_is
use Rattle.hm_data.specs.declared.act.Back.TheVariants as back_is
use Rattle.hm_data.specs.declared.call.Told.TheVariants as told_is
use Rattle.hm_data.specs.declared.call.Verb.TheVariants as verb_is
use Rattle.hm_data.specs.declared.record.Phase.TheVariants as phase_is
use Rattle.hm_model.proofs.ByHand.{cost_of, edit, phase_of, pid, region, table}
use Rattle.hm_model.proofs.AllSheets.{sheets, sheets_valid}
use Rattle.hm_model.proofs.Played.{IsPlayed, played_legal}

abbrev node1 : Node
node1 = root_node 1 (args_are.Root (request_is.CreateTable table ((codes "k") ∷ [])) 1) 1

abbrev node2 : Node
node2 = child_of 1 node1 (args_are.LayoutCall (pid 1))

abbrev node3 : Node
node3 = root_node 3 (args_are.SweepLayout (pid 1)) 1

abbrev undone0 : Past
undone0 = entry_is.Start sheets ∷ []

is_undone0 : IsPlayed undone0
is_undone0 = (refl, refl, sheets_valid)

abbrev undone1 : Past
undone1 = entry_is.Submit (record { group = 1; number = 1 }) (request_is.CreateTable table ((codes "k") ∷ [])) ∷ undone0

is_undone1 : IsPlayed undone1
is_undone1 = (is_undone0, (refl, inr refl, λ other at. let few : drawn undone0 table ≡ 0 = refl in subst (λ t. drawn undone0 t + 2 ≤ 4096) (same_Some table other at) (omega (arith, few))))

abbrev undone2 : Past
undone2 = entry_is.Step (pid 1) None (gives (answer_is.More 1) []) ∷ undone1

is_undone2 : IsPlayed undone2
is_undone2 = (is_undone1, (node1, refl, inl refl, refl, refl, refl))

abbrev undone3 : Past
undone3 = entry_is.Step (pid 1) None (gives (answer_is.More 2) (edit (key_is.Table table) None (Some (row_is.Table state_is.Disabled 1)) ∷ [])) ∷ undone2

is_undone3 : IsPlayed undone3
is_undone3 = (is_undone2, (node1, refl, inl refl, refl, refl, refl))

abbrev undone4 : Past
undone4 = entry_is.Step (pid 1) None (spawns 3 (child_is.One (args_are.LayoutCall (pid 1)) ∷ [])) ∷ undone3

is_undone4 : IsPlayed undone4
is_undone4 = (is_undone3, (node1, refl, inl refl, refl, refl, refl))

abbrev undone5 : Past
undone5 = entry_is.Step (pid 2) None (calls 1 (verb_is.Layout (pid 1))) ∷ undone4

is_undone5 : IsPlayed undone5
is_undone5 = (is_undone4, (node2, refl, inl refl, refl, refl, refl))

abbrev undone6 : Past
undone6 = entry_is.Report (pid 2) told_is.Refused ∷ undone5

is_undone6 : IsPlayed undone6
is_undone6 = (is_undone5, ((verb_is.Layout (pid 1)), refl, refl, refl, refl))

abbrev undone7 : Past
undone7 = entry_is.Step (pid 2) None (fails cause_is.LayoutRefused) ∷ undone6

is_undone7 : IsPlayed undone7
is_undone7 = (is_undone6, (node2, refl, inr (refl, inl (λ none. cc)), refl, refl, refl))

abbrev undone8 : Past
undone8 = entry_is.Undo (pid 1) 2 (record { answer = answer_is.Undone; edits = []; children = []; call = None; place = None; followers = child_is.One (args_are.SweepLayout (pid 1)) ∷ [] }) ∷ undone7

is_undone8 : IsPlayed undone8
is_undone8 = (is_undone7, ((node1, refl, refl, record { pid = 1; row = 2; undo = back_is.Sweep; edits = [] }, refl, refl, refl), (node1, refl, refl)))

abbrev undone9 : Past
undone9 = entry_is.Undo (pid 1) 1 (gives answer_is.Undone (edit (key_is.Table table) (Some (row_is.Table state_is.Disabled 1)) None ∷ [])) ∷ undone8

is_undone9 : IsPlayed undone9
is_undone9 = (is_undone8, ((node1, refl, refl, record { pid = 1; row = 1; undo = back_is.Edits; edits = edit (key_is.Table table) None (Some (row_is.Table state_is.Disabled 1)) ∷ [] }, refl, refl, refl), (node1, refl, refl)))

abbrev undone10 : Past
undone10 = entry_is.Step (pid 3) None (calls 1 (verb_is.Sweep (pid 1))) ∷ undone9

is_undone10 : IsPlayed undone10
is_undone10 = (is_undone9, (node3, refl, inl refl, refl, refl, refl))

abbrev undone11 : Past
undone11 = entry_is.Report (pid 3) told_is.Swept ∷ undone10

is_undone11 : IsPlayed undone11
is_undone11 = (is_undone10, ((verb_is.Sweep (pid 1)), refl, refl, refl, refl))

abbrev undone12 : Past
undone12 = entry_is.Step (pid 3) None (gives (answer_is.Done told_is.Swept) []) ∷ undone11

is_undone12 : IsPlayed undone12
is_undone12 = (is_undone11, (node3, refl, inr (refl, inl (λ none. cc)), refl, refl, refl))

is_legal : IsLegal undone12
is_legal = played_legal undone12 is_undone12

rolled_back : phase_of undone12 1 ≡ Some (phase_is.RolledBack cause_is.LayoutRefused)
rolled_back = refl

failed_till_undone : phase_of undone7 1 ≡ Some (phase_is.Failed cause_is.LayoutRefused)
failed_till_undone = refl

half_undone : phase_of undone8 1 ≡ Some (phase_is.Failed cause_is.LayoutRefused)
half_undone = refl

child_too : phase_of undone9 2 ≡ Some (phase_is.RolledBack cause_is.LayoutRefused)
child_too = refl

table_added : cat undone8 (key_is.Table table) ≡ Some (row_is.Table state_is.Disabled 1)
table_added = refl

table_gone : cat undone9 (key_is.Table table) ≡ None
table_gone = refl

no_deed : serial undone12 (key_is.Table table) ≡ None
no_deed = refl

drawn_ids : drawn undone12 table ≡ 2
drawn_ids = refl

follower_is_root : node_of undone8 3 ≡ Some (record { above = []; root = 3; args = args_are.SweepLayout (pid 1); first = 1 })
follower_is_root = refl

-- the follower has just the entries that it costs: numbers 8 and 10 to 12
follower_costs : cost_of undone12 3 ≡ 4
follower_costs = refl

follower_takes : entries_of undone12 3 ≡ 4
follower_takes = refl

swept : phase_of undone12 3 ≡ Some phase_is.Success
swept = refl

none_left : unfinished undone12 ≡ 0
none_left = refl

-- the edits of a step are undone from the last to the first
abbrev added : Edit
added = edit (key_is.Region (region 1)) None (Some (row_is.Region (record { start = []; end = [] }) status_is.Live []))

abbrev enabling : Edit
enabling = edit (key_is.Table table) (Some (row_is.Table state_is.Disabled 1)) (Some (row_is.Table state_is.Enabling 1))

last_first : turned_round (added ∷ enabling ∷ []) ≡ turned enabling ∷ turned added ∷ []
last_first = refl
