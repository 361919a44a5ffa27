-- The one spelling of each entry. Numbers are little-endian, the lowest byte first.
use Rattle.std.specs.Prelude.{ℕ, Bool, true, false, List, [], ◌∷◌, ◌++◌, length, Option, Some, None}
use Rattle.std.specs.List.{flat_map}
use Rattle.byteorder.specs.Endian.{little_bytes}
use Rattle.hm_wire.specs.Wire.{text}
use Rattle.hm_names.specs.Region.{Region}
use Rattle.hm_names.specs.Server.{Server}
use Rattle.hm_names.specs.declared.nonce.Nonce.{Nonce}
use Rattle.hm_names.specs.declared.pid.Pid.{Pid}
use Rattle.hm_names.specs.declared.range.KeyRange.{KeyRange}
use Rattle.hm_names.specs.declared.table.TableName.{TableName}
use Rattle.hm_data.specs.Numbers.{table_state_number, status_number, region_state_number, goal_number, told_number, act_number, back_number, cause_number}
use Rattle.hm_data.specs.declared.answer.Answer.{Answer}
use Rattle.hm_data.specs.declared.answer.Answer.TheVariants as answer_is
use Rattle.hm_data.specs.declared.answer.Cause.{Cause}
use Rattle.hm_data.specs.declared.args.Args.{Args}
use Rattle.hm_data.specs.declared.args.Args.TheVariants as args_are
use Rattle.hm_data.specs.declared.args.Child.{Child}
use Rattle.hm_data.specs.declared.args.Child.TheVariants as child_is
use Rattle.hm_data.specs.declared.call.Verb.{Verb}
use Rattle.hm_data.specs.declared.call.Verb.TheVariants as verb_is
use Rattle.hm_data.specs.declared.catalog.CatKey.{CatKey}
use Rattle.hm_data.specs.declared.catalog.CatKey.TheVariants as key_is
use Rattle.hm_data.specs.declared.catalog.CatRow.{CatRow}
use Rattle.hm_data.specs.declared.catalog.CatRow.TheVariants as row_is
use Rattle.hm_data.specs.declared.catalog.Edit.{Edit}
use Rattle.hm_data.specs.declared.catalog.TableState.{TableState}
use Rattle.hm_data.specs.declared.entry.Entry.{Entry}
use Rattle.hm_data.specs.declared.entry.Entry.TheVariants as entry_is
use Rattle.hm_data.specs.declared.part.Part.{Part}
use Rattle.hm_data.specs.declared.part.Part.TheVariants as part_is
use Rattle.hm_data.specs.declared.place.Place.{Place}
use Rattle.hm_data.specs.declared.request.Request.{Request}
use Rattle.hm_data.specs.declared.request.Request.TheVariants as request_is
use Rattle.hm_data.specs.declared.sheet.Row.{Row}
use Rattle.hm_data.specs.declared.sheet.Sheet.{Sheet}
use Rattle.hm_data.specs.declared.step.StepOut.{StepOut}

-- a number in one byte
abbrev pub byte : ℕ → List ℕ
byte n = n ∷ []

-- a number in eight bytes
abbrev pub number : ℕ → List ℕ
number n = little_bytes 8 n

-- yes or no
abbrev pub flag : Bool → List ℕ
flag true = byte 1
flag false = byte 0

-- nothing, or a value after a byte
abbrev pub option : {A : Type 0} → (A → List ℕ) → Option A → List ℕ
option spell None = byte 0
option spell (Some x) = byte 1 ++ spell x

-- the items after their count
abbrev pub list : {A : Type 0} → (A → List ℕ) → List A → List ℕ
list spell xs = little_bytes 2 (length xs) ++ flat_map spell xs

-- a procedure by its number
abbrev pub pid : Pid → List ℕ
pid p = number p.0

-- namespace and qualifier
unfoldable pub table : TableName → List ℕ
table t = text t.ns ++ text t.qualifier

-- table and number
unfoldable pub region : Region → List ℕ
region r = table r.table ++ number r.id

-- host, port and start code
unfoldable pub server : Server → List ℕ
server s = text s.host ++ (little_bytes 2 s.port ++ number s.start)

-- start and end
unfoldable pub range : KeyRange → List ℕ
range r = text r.start ++ text r.end

-- group and number
unfoldable pub nonce : Nonce → List ℕ
nonce n = number n.group ++ number n.number

-- a row of a sheet: its act, what follows it, whether it is after the point, and its undo
unfoldable pub row : Row → List ℕ
row r = byte (act_number r.act) ++ (byte r.next ++ (flag r.after ++ byte (back_number r.undo)))

-- a sheet: its kind and its rows
unfoldable pub sheet : Sheet → List ℕ
sheet s = byte s.kind ++ list row s.rows

-- a request: its kind and its fields in their order
unfoldable pub request : Request → List ℕ
request (request_is.CreateNamespace ns) = byte 1 ++ text ns
request (request_is.DropNamespace ns) = byte 2 ++ text ns
request (request_is.CreateTable t keys) = byte 3 ++ (table t ++ list text keys)
request (request_is.DeleteTable t) = byte 4 ++ table t
request (request_is.EnableTable t) = byte 5 ++ table t
request (request_is.DisableTable t) = byte 6 ++ table t
request (request_is.ModifyTable t version) = byte 7 ++ (table t ++ number version)
request (request_is.SplitRegion r key) = byte 8 ++ (region r ++ text key)
request (request_is.MergeRegions rs) = byte 9 ++ list region rs
request (request_is.Move r to) = byte 10 ++ (region r ++ option server to)

-- what a row of the catalog is of
unfoldable pub key : CatKey → List ℕ
key (key_is.Ns ns) = byte 0 ++ text ns
key (key_is.Table t) = byte 1 ++ table t
key (key_is.Region r) = byte 2 ++ region r

-- a row of the catalog
unfoldable pub catalog_row : CatRow → List ℕ
catalog_row row_is.Ns = byte 0
catalog_row (row_is.Table state version) = byte 1 ++ (byte (table_state_number state) ++ number version)
catalog_row (row_is.Region bounds status parents) =
    byte 2 ++ (range bounds ++ (byte (status_number status) ++ list number parents))

-- a key, its row before and its row after
unfoldable pub edit : Edit → List ℕ
edit e = key e.key ++ (option catalog_row e.before ++ option catalog_row e.after)

-- what a procedure that another one makes works on, after its kind. A request and a transit by itself have no
-- spelling.
unfoldable pub args : Args → List ℕ
args (args_are.Root asked first) = []
args (args_are.Transit r goal to) = []
args (args_are.Crash s) = byte 11 ++ server s
args (args_are.AddRegions t first bounds) = byte 20 ++ (table t ++ (number first ++ list text bounds))
args (args_are.DropRegions t ids) = byte 21 ++ (table t ++ list number ids)
args (args_are.AssignCall r s) = byte 23 ++ (region r ++ server s)
args (args_are.CloseCall r s) = byte 24 ++ (region r ++ server s)
args (args_are.FenceCall s) = byte 25 ++ server s
args (args_are.LayoutCall root) = byte 26 ++ pid root
args (args_are.SweepLayout root) = byte 27 ++ pid root

-- transits of a table's regions, or one procedure
unfoldable pub child : Child → List ℕ
child (child_is.Transits t ids goal) = byte 0 ++ (table t ++ (list number ids ++ byte (goal_number goal)))
child (child_is.One one) = args one

-- what a call asks of its peer
unfoldable pub verb : Verb → List ℕ
verb (verb_is.AssignRegion r) = byte 0 ++ region r
verb (verb_is.CloseRegion r) = byte 1 ++ region r
verb (verb_is.Fence s) = byte 2 ++ server s
verb (verb_is.Layout root) = byte 3 ++ pid root
verb (verb_is.Sweep root) = byte 4 ++ pid root

-- the state of a region and its server
unfoldable pub place : Place → List ℕ
place p = byte (region_state_number p.state) ++ option server p.server

-- what a step answers, in two bytes
unfoldable pub answer : Answer → List ℕ
answer (answer_is.More next) = byte 0 ++ byte next
answer (answer_is.Wait next) = byte 1 ++ byte next
answer (answer_is.Await next) = byte 2 ++ byte next
answer (answer_is.Done told) = byte 3 ++ byte (told_number told)
answer (answer_is.Fail cause) = byte 4 ++ byte (cause_number cause)
answer answer_is.Undone = byte 5 ++ byte 0

-- what a step answers and does
unfoldable pub out : StepOut → List ℕ
out o =
    answer o.answer
    ++ (list edit o.edits ++ (list child o.children ++ (option verb o.call ++ (option place o.place ++ list child o.followers))))

-- what a root of a base did: a request after its kind, and its first id; a transit that no request made, after FF; or what else a
-- procedure works on
unfoldable pub root_args : Args → List ℕ
root_args (args_are.Root asked first) = request asked ++ number first
root_args (args_are.Transit r goal to) = byte 255 ++ (region r ++ (byte (goal_number goal) ++ option server to))
root_args (args_are.Crash s) = args (args_are.Crash s)
root_args (args_are.AddRegions t first bounds) = args (args_are.AddRegions t first bounds)
root_args (args_are.DropRegions t ids) = args (args_are.DropRegions t ids)
root_args (args_are.AssignCall r s) = args (args_are.AssignCall r s)
root_args (args_are.CloseCall r s) = args (args_are.CloseCall r s)
root_args (args_are.FenceCall s) = args (args_are.FenceCall s)
root_args (args_are.LayoutCall root) = args (args_are.LayoutCall root)
root_args (args_are.SweepLayout root) = args (args_are.SweepLayout root)

-- the state of a table and its version
unfoldable pub table_row : TableState × ℕ → List ℕ
table_row both = byte (table_state_number both.0) ++ number both.1

-- why a procedure failed
abbrev pub cause_byte : Cause → List ℕ
cause_byte cause = byte (cause_number cause)

-- a part of a base: its sort and its fields in their order
unfoldable pub part : Part → List ℕ
part (part_is.Head entries last parts sheets) = byte 0 ++ (number entries ++ (pid last ++ (number parts ++ list sheet sheets)))
part (part_is.Namespace ns) = byte 1 ++ text ns
part (part_is.Table t drawn own) = byte 2 ++ (table t ++ (number drawn ++ option table_row own))
part (part_is.Region r bounds status parents at) =
    byte 3 ++ (region r ++ (range bounds ++ (byte (status_number status) ++ (list number parents ++ place at))))
part (part_is.Server s fenced) = byte 4 ++ (server s ++ flag fenced)
part (part_is.Root p given work cause) = byte 5 ++ (pid p ++ (nonce given ++ (root_args work ++ option cause_byte cause)))
part (part_is.Layout p) = byte 6 ++ pid p

-- an entry: its tag and its fields in their order
unfoldable pub entry : Entry → List ℕ
entry (entry_is.Start sheets) = byte 0 ++ list sheet sheets
entry (entry_is.Submit given asked) = byte 1 ++ (nonce given ++ request asked)
entry (entry_is.Step p pick o) = byte 2 ++ (pid p ++ (option server pick ++ out o))
entry (entry_is.Undo p undone o) = byte 3 ++ (pid p ++ (byte undone ++ out o))
entry (entry_is.Report call told) = byte 4 ++ (pid call ++ byte (told_number told))
entry (entry_is.Up s) = byte 5 ++ server s
entry (entry_is.Down s) = byte 6 ++ server s
entry (entry_is.Abort p) = byte 7 ++ pid p
entry (entry_is.Base own) = byte 8 ++ part own
entry (entry_is.Adopt sheets) = byte 9 ++ list sheet sheets
