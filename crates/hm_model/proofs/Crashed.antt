-- A table is created whose region fails to open at the first server, and then the second server dies: worked by hand.
use Rattle.std.proofs.Common.{None, Some, [], arith, false, inl, inr, refl, subst, true, ◌+◌, ◌∷◌, ◌≡◌, ◌≤◌}
use Rattle.std.proofs.lemmas.Option.{same_Some}
use Rattle.hm_model.specs.Catalog.{cat}
use Rattle.hm_model.specs.Serial.{serial}
use Rattle.hm_model.specs.Entries.{entries_of}
use Rattle.hm_model.specs.Fleet.{is_fenced, is_live}
use Rattle.hm_model.specs.Journal.{Past}
use Rattle.hm_model.specs.Outs.{calls, places, spawns}
use Rattle.hm_model.specs.Places.{load, on_server, place_of, tries_of}
use Rattle.hm_model.specs.Records.{unfinished}
use Rattle.hm_model.specs.Outs.{gives}
use Rattle.hm_model.specs.Tree.{Node, child_of, drawn, made, root_node}
use Rattle.hm_model.specs.Rules.{IsLegal}
use Rattle.hm_data.specs.declared.entry.Entry.TheVariants as entry_is
use Rattle.hm_data.specs.declared.answer.Answer.TheVariants as answer_is
use Rattle.hm_data.specs.declared.args.Args.TheVariants as args_are
use Rattle.hm_data.specs.declared.args.Child.TheVariants as child_is
use Rattle.hm_data.specs.declared.request.Request.TheVariants as request_is
use Rattle.hm_data.specs.declared.catalog.CatKey.TheVariants as key_is
use Rattle.hm_data.specs.declared.catalog.CatRow.TheVariants as row_is
use Rattle.hm_data.specs.declared.catalog.Status.TheVariants as status_is
use Rattle.hm_data.specs.declared.catalog.TableState.TheVariants as state_is
use Rattle.hm_data.specs.declared.call.Told.TheVariants as told_is
use Rattle.hm_data.specs.declared.call.Verb.TheVariants as verb_is
use Rattle.hm_data.specs.declared.place.Goal.TheVariants as goal_is
use Rattle.hm_data.specs.declared.place.RegionState.TheVariants as place_is
use Rattle.hm_data.specs.declared.record.Phase.TheVariants as phase_is
use Rattle.hm_model.specs.Locks.{Conflict}
use Rattle.hm_model.proofs.ByHand.{fits_at, edit, one, phase_of, pid, cost_of, region, table, two}
use Rattle.hm_model.proofs.AllSheets.{sheets, sheets_valid}
use Rattle.hm_model.proofs.Played.{IsPlayed, played_legal}

abbrev node1 : Node
node1 = root_node 1 (args_are.Root (request_is.CreateTable table []) 1) 1

abbrev node2 : Node
node2 = child_of 1 node1 (args_are.LayoutCall (pid 1))

abbrev node3 : Node
node3 = child_of 1 node1 (args_are.AddRegions table 1 ([] ∷ [] ∷ []))

abbrev node4 : Node
node4 = child_of 1 node1 (args_are.Transit (region 1) goal_is.Assign None)

abbrev node5 : Node
node5 = child_of 4 node4 (args_are.AssignCall (region 1) one)

abbrev node6 : Node
node6 = child_of 4 node4 (args_are.AssignCall (region 1) two)

abbrev node7 : Node
node7 = root_node 7 (args_are.Crash two) 1

abbrev node8 : Node
node8 = child_of 7 node7 (args_are.FenceCall two)

abbrev node9 : Node
node9 = child_of 7 node7 (args_are.Transit (region 1) goal_is.Assign None)

abbrev node10 : Node
node10 = child_of 9 node9 (args_are.AssignCall (region 1) one)

abbrev crash0 : Past
crash0 = entry_is.Start sheets ∷ []

is_crash0 : IsPlayed crash0
is_crash0 = (refl, refl, sheets_valid)

abbrev crash1 : Past
crash1 = entry_is.Up one ∷ crash0

is_crash1 : IsPlayed crash1
is_crash1 = (is_crash0, (refl, refl))

abbrev crash2 : Past
crash2 = entry_is.Up two ∷ crash1

is_crash2 : IsPlayed crash2
is_crash2 = (is_crash1, (refl, refl))

abbrev crash3 : Past
crash3 = entry_is.Submit (record { group = 1; number = 1 }) (request_is.CreateTable table []) ∷ crash2

is_crash3 : IsPlayed crash3
is_crash3 = (is_crash2, (refl, inr refl, λ other at. let few : drawn crash2 table ≡ 0 = refl in subst (λ t. drawn crash2 t + 1 ≤ 4096) (same_Some table other at) (omega (arith, few))))

abbrev crash4 : Past
crash4 = entry_is.Step (pid 1) None (gives (answer_is.More 1) []) ∷ crash3

is_crash4 : IsPlayed crash4
is_crash4 = (is_crash3, (node1, refl, inl refl, refl, refl, refl))

abbrev crash5 : Past
crash5 = entry_is.Step (pid 1) None (gives (answer_is.More 2) (edit (key_is.Table table) None (Some (row_is.Table state_is.Disabled 1)) ∷ [])) ∷ crash4

is_crash5 : IsPlayed crash5
is_crash5 = (is_crash4, (node1, refl, inl refl, refl, refl, refl))

abbrev crash6 : Past
crash6 = entry_is.Step (pid 1) None (spawns 3 (child_is.One (args_are.LayoutCall (pid 1)) ∷ [])) ∷ crash5

is_crash6 : IsPlayed crash6
is_crash6 = (is_crash5, (node1, refl, inl refl, refl, refl, refl))

abbrev crash7 : Past
crash7 = entry_is.Step (pid 2) None (calls 1 (verb_is.Layout (pid 1))) ∷ crash6

is_crash7 : IsPlayed crash7
is_crash7 = (is_crash6, (node2, refl, inl refl, refl, refl, refl))

abbrev crash8 : Past
crash8 = entry_is.Report (pid 2) told_is.LaidOut ∷ crash7

is_crash8 : IsPlayed crash8
is_crash8 = (is_crash7, ((verb_is.Layout (pid 1)), refl, refl, refl, refl))

abbrev crash9 : Past
crash9 = entry_is.Step (pid 2) None (gives (answer_is.Done told_is.LaidOut) []) ∷ crash8

is_crash9 : IsPlayed crash9
is_crash9 = (is_crash8, (node2, refl, inr (refl, inl (λ none. cc)), refl, refl, refl))

abbrev crash10 : Past
crash10 = entry_is.Step (pid 1) None (spawns 4 (child_is.One (args_are.AddRegions table 1 ([] ∷ [] ∷ [])) ∷ [])) ∷ crash9

is_crash10 : IsPlayed crash10
is_crash10 = (is_crash9, (node1, refl, inl refl, refl, refl, refl))

abbrev crash11 : Past
crash11 = entry_is.Step (pid 3) None (gives (answer_is.Done told_is.Nothing) (edit (key_is.Region (region 1)) None (Some (row_is.Region (record { start = []; end = [] }) status_is.Live [])) ∷ [])) ∷ crash10

is_crash11 : IsPlayed crash11
is_crash11 = (is_crash10, (node3, refl, inl refl, refl, refl, refl))

abbrev crash12 : Past
crash12 = entry_is.Step (pid 1) None (gives (answer_is.More 5) (edit (key_is.Table table) (Some (row_is.Table state_is.Disabled 1)) (Some (row_is.Table state_is.Enabling 1)) ∷ [])) ∷ crash11

is_crash12 : IsPlayed crash12
is_crash12 = (is_crash11, (node1, refl, inl refl, refl, refl, refl))

abbrev crash13 : Past
crash13 = entry_is.Step (pid 1) None (spawns 6 (child_is.Transits table (1 ∷ []) goal_is.Assign ∷ [])) ∷ crash12

is_crash13 : IsPlayed crash13
is_crash13 = (is_crash12, (node1, refl, inl refl, refl, refl, refl))

abbrev crash14 : Past
crash14 = entry_is.Step (pid 4) (Some one) (places (answer_is.More 1) (Some (record { state = place_is.Opening; server = Some one }))) ∷ crash13

is_crash14 : IsPlayed crash14
is_crash14 = (is_crash13, (node4, refl, inl refl, refl, refl, refl))

abbrev crash15 : Past
crash15 = entry_is.Step (pid 4) None (spawns 2 (child_is.One (args_are.AssignCall (region 1) one) ∷ [])) ∷ crash14

is_crash15 : IsPlayed crash15
is_crash15 = (is_crash14, (node4, refl, inl refl, refl, refl, refl))

abbrev crash16 : Past
crash16 = entry_is.Step (pid 5) None (calls 1 (verb_is.AssignRegion (region 1))) ∷ crash15

is_crash16 : IsPlayed crash16
is_crash16 = (is_crash15, (node5, refl, inl refl, refl, refl, refl))

abbrev crash17 : Past
crash17 = entry_is.Report (pid 5) told_is.FailedOpen ∷ crash16

is_crash17 : IsPlayed crash17
is_crash17 = (is_crash16, ((verb_is.AssignRegion (region 1)), refl, refl, refl, refl))

abbrev crash18 : Past
crash18 = entry_is.Step (pid 5) None (gives (answer_is.Done told_is.FailedOpen) []) ∷ crash17

is_crash18 : IsPlayed crash18
is_crash18 = (is_crash17, (node5, refl, inr (refl, inl (λ none. cc)), refl, refl, refl))

abbrev crash19 : Past
crash19 = entry_is.Step (pid 4) None (places (answer_is.More 0) (Some (record { state = place_is.FailedOpen; server = Some one }))) ∷ crash18

is_crash19 : IsPlayed crash19
is_crash19 = (is_crash18, (node4, refl, inl refl, refl, refl, refl))

abbrev crash20 : Past
crash20 = entry_is.Step (pid 4) (Some two) (places (answer_is.More 1) (Some (record { state = place_is.Opening; server = Some two }))) ∷ crash19

is_crash20 : IsPlayed crash20
is_crash20 = (is_crash19, (node4, refl, inl refl, refl, refl, refl))

abbrev crash21 : Past
crash21 = entry_is.Step (pid 4) None (spawns 2 (child_is.One (args_are.AssignCall (region 1) two) ∷ [])) ∷ crash20

is_crash21 : IsPlayed crash21
is_crash21 = (is_crash20, (node4, refl, inl refl, refl, refl, refl))

abbrev crash22 : Past
crash22 = entry_is.Step (pid 6) None (calls 1 (verb_is.AssignRegion (region 1))) ∷ crash21

is_crash22 : IsPlayed crash22
is_crash22 = (is_crash21, (node6, refl, inl refl, refl, refl, refl))

abbrev crash23 : Past
crash23 = entry_is.Report (pid 6) told_is.Opened ∷ crash22

is_crash23 : IsPlayed crash23
is_crash23 = (is_crash22, ((verb_is.AssignRegion (region 1)), refl, refl, refl, refl))

abbrev crash24 : Past
crash24 = entry_is.Step (pid 6) None (gives (answer_is.Done told_is.Opened) []) ∷ crash23

is_crash24 : IsPlayed crash24
is_crash24 = (is_crash23, (node6, refl, inr (refl, inl (λ none. cc)), refl, refl, refl))

abbrev crash25 : Past
crash25 = entry_is.Step (pid 4) None (places (answer_is.Done told_is.Opened) (Some (record { state = place_is.Opened; server = Some two }))) ∷ crash24

is_crash25 : IsPlayed crash25
is_crash25 = (is_crash24, (node4, refl, inl refl, refl, refl, refl))

abbrev crash26 : Past
crash26 = entry_is.Step (pid 1) None (gives (answer_is.Done told_is.Nothing) (edit (key_is.Table table) (Some (row_is.Table state_is.Enabling 1)) (Some (row_is.Table state_is.Enabled 1)) ∷ [])) ∷ crash25

is_crash26 : IsPlayed crash26
is_crash26 = (is_crash25, (node1, refl, inl refl, refl, refl, refl))

abbrev crash27 : Past
crash27 = entry_is.Down two ∷ crash26

is_crash27 : IsPlayed crash27
is_crash27 = (is_crash26, refl)

abbrev crash28 : Past
crash28 = entry_is.Step (pid 7) None (spawns 1 (child_is.One (args_are.FenceCall two) ∷ [])) ∷ crash27

is_crash28 : IsPlayed crash28
is_crash28 = (is_crash27, (node7, refl, inl refl, refl, refl, refl))

abbrev crash29 : Past
crash29 = entry_is.Step (pid 8) None (calls 1 (verb_is.Fence two)) ∷ crash28

is_crash29 : IsPlayed crash29
is_crash29 = (is_crash28, (node8, refl, inl refl, refl, refl, refl))

abbrev crash30 : Past
crash30 = entry_is.Report (pid 8) told_is.Fenced ∷ crash29

is_crash30 : IsPlayed crash30
is_crash30 = (is_crash29, ((verb_is.Fence two), refl, refl, refl, refl))

abbrev crash31 : Past
crash31 = entry_is.Step (pid 8) None (gives (answer_is.Done told_is.Fenced) []) ∷ crash30

is_crash31 : IsPlayed crash31
is_crash31 = (is_crash30, (node8, refl, inr (refl, inl (λ none. cc)), refl, refl, refl))

abbrev crash32 : Past
crash32 = entry_is.Step (pid 7) None (spawns 1 (child_is.Transits table (1 ∷ []) goal_is.Assign ∷ [])) ∷ crash31

is_crash32 : IsPlayed crash32
is_crash32 = (is_crash31, (node7, refl, inl refl, refl, refl, refl))

abbrev crash33 : Past
crash33 = entry_is.Step (pid 9) (Some one) (places (answer_is.More 1) (Some (record { state = place_is.Opening; server = Some one }))) ∷ crash32

is_crash33 : IsPlayed crash33
is_crash33 = (is_crash32, (node9, refl, inl refl, refl, refl, refl))

abbrev crash34 : Past
crash34 = entry_is.Step (pid 9) None (spawns 2 (child_is.One (args_are.AssignCall (region 1) one) ∷ [])) ∷ crash33

is_crash34 : IsPlayed crash34
is_crash34 = (is_crash33, (node9, refl, inl refl, refl, refl, refl))

abbrev crash35 : Past
crash35 = entry_is.Step (pid 10) None (calls 1 (verb_is.AssignRegion (region 1))) ∷ crash34

is_crash35 : IsPlayed crash35
is_crash35 = (is_crash34, (node10, refl, inl refl, refl, refl, refl))

abbrev crash36 : Past
crash36 = entry_is.Report (pid 10) told_is.Opened ∷ crash35

is_crash36 : IsPlayed crash36
is_crash36 = (is_crash35, ((verb_is.AssignRegion (region 1)), refl, refl, refl, refl))

abbrev crash37 : Past
crash37 = entry_is.Step (pid 10) None (gives (answer_is.Done told_is.Opened) []) ∷ crash36

is_crash37 : IsPlayed crash37
is_crash37 = (is_crash36, (node10, refl, inr (refl, inl (λ none. cc)), refl, refl, refl))

abbrev crash38 : Past
crash38 = entry_is.Step (pid 9) None (places (answer_is.Done told_is.Opened) (Some (record { state = place_is.Opened; server = Some one }))) ∷ crash37

is_crash38 : IsPlayed crash38
is_crash38 = (is_crash37, (node9, refl, inl refl, refl, refl, refl))

abbrev crash39 : Past
crash39 = entry_is.Step (pid 7) None (gives (answer_is.Done told_is.Nothing) []) ∷ crash38

is_crash39 : IsPlayed crash39
is_crash39 = (is_crash38, (node7, refl, inl refl, refl, refl, refl))

is_legal : IsLegal crash39
is_legal = played_legal crash39 is_crash39

made_all : made crash39 ≡ 10
made_all = refl

none_left : unfinished crash39 ≡ 0
none_left = refl

waits : phase_of crash15 4 ≡ Some phase_is.Waiting
waits = refl

awaits : phase_of crash16 5 ≡ Some phase_is.Awaiting
awaits = refl

failed_there : place_of crash19 (region 1) ≡ record { state = place_is.FailedOpen; server = Some one }
failed_there = refl

tried_once : tries_of crash19 4 ≡ 1
tried_once = refl

opened_there : place_of crash26 (region 1) ≡ record { state = place_is.Opened; server = Some two }
opened_there = refl

on_two : on_server crash26 two ≡ region 1 ∷ []
on_two = refl

two_is_lost : is_live crash27 two ≡ false
two_is_lost = refl

two_is_fenced : is_fenced crash30 two ≡ true
two_is_fenced = refl

not_before : is_fenced crash29 two ≡ false
not_before = refl

one_is_not : is_fenced crash39 one ≡ false
one_is_not = refl

on_one : place_of crash39 (region 1) ≡ record { state = place_is.Opened; server = Some one }
on_one = refl

loads : load crash39 one ≡ 1
loads = refl

-- from the entry that made it, the crash has just the entries that it costs: numbers 27 to 39
crash_costs : cost_of crash39 7 ≡ 13
crash_costs = refl

crash_takes : entries_of crash39 7 ≡ 13
crash_takes = refl

create_costs : cost_of crash39 1 ≡ 18
create_costs = refl

enabled : cat crash39 (key_is.Table table) ≡ Some (row_is.Table state_is.Enabled 1)
enabled = refl

by_deed : serial crash39 (key_is.Table table) ≡ Some (row_is.Table state_is.Enabled 1)
by_deed = refl

region_by_deed : serial crash39 (key_is.Region (region 1)) ≡ cat crash39 (key_is.Region (region 1))
region_by_deed = refl

-- after a failed open the region goes to the other server
not_again : fits_at crash19 4 one ≡ false
not_again = refl

elsewhere : fits_at crash19 4 two ≡ true
elsewhere = refl

-- a transit goes on where its call has ended
goes_on : phase_of crash18 4 ≡ Some phase_is.Runnable
goes_on = refl

-- a region's transit doesn't conflict with the create that made it, though both ask for the table
kin_agree : Conflict crash14 4 1 → ⊥
kin_agree clash = clash.1 (inl refl)
