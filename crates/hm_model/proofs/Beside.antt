-- A table of three regions is created beside a namespace: worked by hand.
use Rattle.std.proofs.Common.{None, Some, [], arith, codes, inl, inr, refl, subst, ◌+◌, ◌∷◌, ◌≡◌, ◌≤◌}
use Rattle.std.proofs.lemmas.Option.{none-some, same_Some}
use Rattle.hm_model.specs.Catalog.{cat}
use Rattle.hm_model.specs.Serial.{serial}
use Rattle.hm_model.specs.Entries.{entries_of}
use Rattle.hm_model.specs.Journal.{Past}
use Rattle.hm_model.specs.Outs.{calls, places, spawns}
use Rattle.hm_model.specs.Places.{load, place_of}
use Rattle.hm_model.specs.Records.{unfinished}
use Rattle.hm_model.specs.Outs.{gives}
use Rattle.hm_model.specs.Tree.{Node, child_of, drawn, root_node}
use Rattle.hm_model.specs.Rules.{IsLegal}
use Rattle.hm_data.specs.declared.entry.Entry.TheVariants as entry_is
use Rattle.hm_data.specs.declared.answer.Answer.TheVariants as answer_is
use Rattle.hm_data.specs.declared.args.Args.TheVariants as args_are
use Rattle.hm_data.specs.declared.args.Child.TheVariants as child_is
use Rattle.hm_data.specs.declared.request.Request.TheVariants as request_is
use Rattle.hm_data.specs.declared.catalog.CatKey.TheVariants as key_is
use Rattle.hm_data.specs.declared.catalog.CatRow.TheVariants as row_is
use Rattle.hm_data.specs.declared.catalog.Status.TheVariants as status_is
use Rattle.hm_data.specs.declared.catalog.TableState.TheVariants as state_is
use Rattle.hm_data.specs.declared.call.Told.TheVariants as told_is
use Rattle.hm_data.specs.declared.call.Verb.TheVariants as verb_is
use Rattle.hm_data.specs.declared.place.Goal.TheVariants as goal_is
use Rattle.hm_data.specs.declared.place.RegionState.TheVariants as place_is
use Rattle.hm_data.specs.declared.record.Phase.TheVariants as phase_is
use Rattle.hm_model.specs.Ranges.{live_ranges}
use Rattle.hm_model.proofs.ByHand.{edit, one, phase_of, pid, cost_of, region, table}
use Rattle.hm_model.proofs.AllSheets.{sheets, sheets_valid}
use Rattle.hm_model.proofs.Played.{IsPlayed, played_legal}

abbrev node1 : Node
node1 = root_node 1 (args_are.Root (request_is.CreateTable table ((codes "g") ∷ (codes "p") ∷ [])) 1) 1

abbrev node2 : Node
node2 = root_node 2 (args_are.Root (request_is.CreateNamespace (codes "shop")) 1) 1

abbrev node3 : Node
node3 = child_of 1 node1 (args_are.LayoutCall (pid 1))

abbrev node4 : Node
node4 = child_of 1 node1 (args_are.AddRegions table 1 ([] ∷ (codes "g") ∷ (codes "p") ∷ [] ∷ []))

abbrev node5 : Node
node5 = child_of 1 node1 (args_are.Transit (region 1) goal_is.Assign None)

abbrev node6 : Node
node6 = child_of 1 node1 (args_are.Transit (region 2) goal_is.Assign None)

abbrev node7 : Node
node7 = child_of 1 node1 (args_are.Transit (region 3) goal_is.Assign None)

abbrev node8 : Node
node8 = child_of 6 node6 (args_are.AssignCall (region 2) one)

abbrev node9 : Node
node9 = child_of 7 node7 (args_are.AssignCall (region 3) one)

abbrev node10 : Node
node10 = child_of 5 node5 (args_are.AssignCall (region 1) one)

abbrev beside0 : Past
beside0 = entry_is.Start sheets ∷ []

is_beside0 : IsPlayed beside0
is_beside0 = (refl, refl, sheets_valid)

abbrev beside1 : Past
beside1 = entry_is.Up one ∷ beside0

is_beside1 : IsPlayed beside1
is_beside1 = (is_beside0, (refl, refl))

abbrev beside2 : Past
beside2 = entry_is.Submit (record { group = 1; number = 1 }) (request_is.CreateTable table ((codes "g") ∷ (codes "p") ∷ [])) ∷ beside1

is_beside2 : IsPlayed beside2
is_beside2 = (is_beside1, (refl, inr refl, λ other at. let few : drawn beside1 table ≡ 0 = refl in subst (λ t. drawn beside1 t + 3 ≤ 4096) (same_Some table other at) (omega (arith, few))))

abbrev beside3 : Past
beside3 = entry_is.Submit (record { group = 1; number = 2 }) (request_is.CreateNamespace (codes "shop")) ∷ beside2

is_beside3 : IsPlayed beside3
is_beside3 = (is_beside2, (refl, inr refl, λ other at. absurd (none-some other at)))

abbrev beside4 : Past
beside4 = entry_is.Step (pid 2) None (gives (answer_is.More 1) []) ∷ beside3

is_beside4 : IsPlayed beside4
is_beside4 = (is_beside3, (node2, refl, inl refl, refl, refl, refl))

abbrev beside5 : Past
beside5 = entry_is.Step (pid 1) None (gives (answer_is.More 1) []) ∷ beside4

is_beside5 : IsPlayed beside5
is_beside5 = (is_beside4, (node1, refl, inl refl, refl, refl, refl))

abbrev beside6 : Past
beside6 = entry_is.Step (pid 2) None (gives (answer_is.Done told_is.Nothing) (edit (key_is.Ns (codes "shop")) None (Some row_is.Ns) ∷ [])) ∷ beside5

is_beside6 : IsPlayed beside6
is_beside6 = (is_beside5, (node2, refl, inl refl, refl, refl, refl))

abbrev beside7 : Past
beside7 = entry_is.Step (pid 1) None (gives (answer_is.More 2) (edit (key_is.Table table) None (Some (row_is.Table state_is.Disabled 1)) ∷ [])) ∷ beside6

is_beside7 : IsPlayed beside7
is_beside7 = (is_beside6, (node1, refl, inl refl, refl, refl, refl))

abbrev beside8 : Past
beside8 = entry_is.Step (pid 1) None (spawns 3 (child_is.One (args_are.LayoutCall (pid 1)) ∷ [])) ∷ beside7

is_beside8 : IsPlayed beside8
is_beside8 = (is_beside7, (node1, refl, inl refl, refl, refl, refl))

abbrev beside9 : Past
beside9 = entry_is.Step (pid 3) None (calls 1 (verb_is.Layout (pid 1))) ∷ beside8

is_beside9 : IsPlayed beside9
is_beside9 = (is_beside8, (node3, refl, inl refl, refl, refl, refl))

abbrev beside10 : Past
beside10 = entry_is.Report (pid 3) told_is.LaidOut ∷ beside9

is_beside10 : IsPlayed beside10
is_beside10 = (is_beside9, ((verb_is.Layout (pid 1)), refl, refl, refl, refl))

abbrev beside11 : Past
beside11 = entry_is.Step (pid 3) None (gives (answer_is.Done told_is.LaidOut) []) ∷ beside10

is_beside11 : IsPlayed beside11
is_beside11 = (is_beside10, (node3, refl, inr (refl, inl (λ none. cc)), refl, refl, refl))

abbrev beside12 : Past
beside12 = entry_is.Step (pid 1) None (spawns 4 (child_is.One (args_are.AddRegions table 1 ([] ∷ (codes "g") ∷ (codes "p") ∷ [] ∷ [])) ∷ [])) ∷ beside11

is_beside12 : IsPlayed beside12
is_beside12 = (is_beside11, (node1, refl, inl refl, refl, refl, refl))

abbrev beside13 : Past
beside13 = entry_is.Step (pid 4) None (gives (answer_is.Done told_is.Nothing) (edit (key_is.Region (region 1)) None (Some (row_is.Region (record { start = []; end = codes "g" }) status_is.Live [])) ∷ edit (key_is.Region (region 2)) None (Some (row_is.Region (record { start = codes "g"; end = codes "p" }) status_is.Live [])) ∷ edit (key_is.Region (region 3)) None (Some (row_is.Region (record { start = codes "p"; end = [] }) status_is.Live [])) ∷ [])) ∷ beside12

is_beside13 : IsPlayed beside13
is_beside13 = (is_beside12, (node4, refl, inl refl, refl, refl, refl))

abbrev beside14 : Past
beside14 = entry_is.Step (pid 1) None (gives (answer_is.More 5) (edit (key_is.Table table) (Some (row_is.Table state_is.Disabled 1)) (Some (row_is.Table state_is.Enabling 1)) ∷ [])) ∷ beside13

is_beside14 : IsPlayed beside14
is_beside14 = (is_beside13, (node1, refl, inl refl, refl, refl, refl))

abbrev beside15 : Past
beside15 = entry_is.Step (pid 1) None (spawns 6 (child_is.Transits table (1 ∷ 2 ∷ 3 ∷ []) goal_is.Assign ∷ [])) ∷ beside14

is_beside15 : IsPlayed beside15
is_beside15 = (is_beside14, (node1, refl, inl refl, refl, refl, refl))

abbrev beside16 : Past
beside16 = entry_is.Step (pid 6) (Some one) (places (answer_is.More 1) (Some (record { state = place_is.Opening; server = Some one }))) ∷ beside15

is_beside16 : IsPlayed beside16
is_beside16 = (is_beside15, (node6, refl, inl refl, refl, refl, refl))

abbrev beside17 : Past
beside17 = entry_is.Step (pid 7) (Some one) (places (answer_is.More 1) (Some (record { state = place_is.Opening; server = Some one }))) ∷ beside16

is_beside17 : IsPlayed beside17
is_beside17 = (is_beside16, (node7, refl, inl refl, refl, refl, refl))

abbrev beside18 : Past
beside18 = entry_is.Step (pid 5) (Some one) (places (answer_is.More 1) (Some (record { state = place_is.Opening; server = Some one }))) ∷ beside17

is_beside18 : IsPlayed beside18
is_beside18 = (is_beside17, (node5, refl, inl refl, refl, refl, refl))

abbrev beside19 : Past
beside19 = entry_is.Step (pid 6) None (spawns 2 (child_is.One (args_are.AssignCall (region 2) one) ∷ [])) ∷ beside18

is_beside19 : IsPlayed beside19
is_beside19 = (is_beside18, (node6, refl, inl refl, refl, refl, refl))

abbrev beside20 : Past
beside20 = entry_is.Step (pid 8) None (calls 1 (verb_is.AssignRegion (region 2))) ∷ beside19

is_beside20 : IsPlayed beside20
is_beside20 = (is_beside19, (node8, refl, inl refl, refl, refl, refl))

abbrev beside21 : Past
beside21 = entry_is.Report (pid 8) told_is.Opened ∷ beside20

is_beside21 : IsPlayed beside21
is_beside21 = (is_beside20, ((verb_is.AssignRegion (region 2)), refl, refl, refl, refl))

abbrev beside22 : Past
beside22 = entry_is.Step (pid 7) None (spawns 2 (child_is.One (args_are.AssignCall (region 3) one) ∷ [])) ∷ beside21

is_beside22 : IsPlayed beside22
is_beside22 = (is_beside21, (node7, refl, inl refl, refl, refl, refl))

abbrev beside23 : Past
beside23 = entry_is.Step (pid 9) None (calls 1 (verb_is.AssignRegion (region 3))) ∷ beside22

is_beside23 : IsPlayed beside23
is_beside23 = (is_beside22, (node9, refl, inl refl, refl, refl, refl))

abbrev beside24 : Past
beside24 = entry_is.Report (pid 9) told_is.Opened ∷ beside23

is_beside24 : IsPlayed beside24
is_beside24 = (is_beside23, ((verb_is.AssignRegion (region 3)), refl, refl, refl, refl))

abbrev beside25 : Past
beside25 = entry_is.Step (pid 8) None (gives (answer_is.Done told_is.Opened) []) ∷ beside24

is_beside25 : IsPlayed beside25
is_beside25 = (is_beside24, (node8, refl, inr (refl, inl (λ none. cc)), refl, refl, refl))

abbrev beside26 : Past
beside26 = entry_is.Step (pid 9) None (gives (answer_is.Done told_is.Opened) []) ∷ beside25

is_beside26 : IsPlayed beside26
is_beside26 = (is_beside25, (node9, refl, inr (refl, inl (λ none. cc)), refl, refl, refl))

abbrev beside27 : Past
beside27 = entry_is.Step (pid 5) None (spawns 2 (child_is.One (args_are.AssignCall (region 1) one) ∷ [])) ∷ beside26

is_beside27 : IsPlayed beside27
is_beside27 = (is_beside26, (node5, refl, inl refl, refl, refl, refl))

abbrev beside28 : Past
beside28 = entry_is.Step (pid 7) None (places (answer_is.Done told_is.Opened) (Some (record { state = place_is.Opened; server = Some one }))) ∷ beside27

is_beside28 : IsPlayed beside28
is_beside28 = (is_beside27, (node7, refl, inl refl, refl, refl, refl))

abbrev beside29 : Past
beside29 = entry_is.Step (pid 6) None (places (answer_is.Done told_is.Opened) (Some (record { state = place_is.Opened; server = Some one }))) ∷ beside28

is_beside29 : IsPlayed beside29
is_beside29 = (is_beside28, (node6, refl, inl refl, refl, refl, refl))

abbrev beside30 : Past
beside30 = entry_is.Step (pid 10) None (calls 1 (verb_is.AssignRegion (region 1))) ∷ beside29

is_beside30 : IsPlayed beside30
is_beside30 = (is_beside29, (node10, refl, inl refl, refl, refl, refl))

abbrev beside31 : Past
beside31 = entry_is.Report (pid 10) told_is.Opened ∷ beside30

is_beside31 : IsPlayed beside31
is_beside31 = (is_beside30, ((verb_is.AssignRegion (region 1)), refl, refl, refl, refl))

abbrev beside32 : Past
beside32 = entry_is.Step (pid 10) None (gives (answer_is.Done told_is.Opened) []) ∷ beside31

is_beside32 : IsPlayed beside32
is_beside32 = (is_beside31, (node10, refl, inr (refl, inl (λ none. cc)), refl, refl, refl))

abbrev beside33 : Past
beside33 = entry_is.Step (pid 5) None (places (answer_is.Done told_is.Opened) (Some (record { state = place_is.Opened; server = Some one }))) ∷ beside32

is_beside33 : IsPlayed beside33
is_beside33 = (is_beside32, (node5, refl, inl refl, refl, refl, refl))

abbrev beside34 : Past
beside34 = entry_is.Step (pid 1) None (gives (answer_is.Done told_is.Nothing) (edit (key_is.Table table) (Some (row_is.Table state_is.Enabling 1)) (Some (row_is.Table state_is.Enabled 1)) ∷ [])) ∷ beside33

is_beside34 : IsPlayed beside34
is_beside34 = (is_beside33, (node1, refl, inl refl, refl, refl, refl))

is_legal : IsLegal beside34
is_legal = played_legal beside34 is_beside34

none_left : unfinished beside34 ≡ 0
none_left = refl

created : phase_of beside34 1 ≡ Some phase_is.Success
created = refl

namespace_too : phase_of beside34 2 ≡ Some phase_is.Success
namespace_too = refl

-- the entries of the create, with its submission, are 30
create_costs : cost_of beside34 1 ≡ 30
create_costs = refl

create_takes : entries_of beside34 1 ≡ 30
create_takes = refl

namespace_costs : cost_of beside34 2 ≡ 3
namespace_costs = refl

namespace_takes : entries_of beside34 2 ≡ 3
namespace_takes = refl

ranges : live_ranges beside34 table ≡ record { start = []; end = codes "g" } ∷ record { start = codes "g"; end = codes "p" } ∷ record { start = codes "p"; end = [] } ∷ []
ranges = refl

loads : load beside34 one ≡ 3
loads = refl

second_there : place_of beside34 (region 2) ≡ record { state = place_is.Opened; server = Some one }
second_there = refl

-- while the regions are opened the create waits, and so does a transit while its call is awaited
create_waits : phase_of beside28 1 ≡ Some phase_is.Waiting
create_waits = refl

transit_waits : phase_of beside30 5 ≡ Some phase_is.Waiting
transit_waits = refl

call_awaits : phase_of beside30 10 ≡ Some phase_is.Awaiting
call_awaits = refl

drawn_ids : drawn beside34 table ≡ 3
drawn_ids = refl

table_by_deed : serial beside34 (key_is.Table table) ≡ cat beside34 (key_is.Table table)
table_by_deed = refl

second_by_deed : serial beside34 (key_is.Region (region 2)) ≡ cat beside34 (key_is.Region (region 2))
second_by_deed = refl

namespace_by_deed : serial beside34 (key_is.Ns (codes "shop")) ≡ Some row_is.Ns
namespace_by_deed = refl
