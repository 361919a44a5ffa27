-- Reading an entry from left to right, with the first fault that is met and its place.
use Rattle.std.specs.Prelude.{◌≡◌, ℕ, zero, suc, Bool, true, false, List, [], ◌∷◌, length, Option, Some, None, Result, Ok, Err, ◌==◌, nat_lt, if◌then◌else◌}
use Rattle.hm_wire.specs.Input.{Input}
use Rattle.hm_wire.specs.Wire.{number_at, text_at}
use Rattle.hm_wire.specs.declared.fault.WireFault.{WireFault}
use Rattle.hm_wire.specs.declared.fault.WireFault.TheVariants as wire_is
use Rattle.hm_names.specs.Names.{read_ns, read_qualifier, read_host}
use Rattle.hm_names.specs.Keys.{limited}
use Rattle.hm_names.specs.Region.{Region}
use Rattle.hm_names.specs.Server.{Server}
use Rattle.hm_names.specs.declared.fault.NameFault.{NameFault}
use Rattle.hm_names.specs.declared.nonce.Nonce.{Nonce}
use Rattle.hm_names.specs.declared.pid.Pid.{Pid}
use Rattle.hm_names.specs.declared.range.KeyRange.{KeyRange}
use Rattle.hm_names.specs.declared.table.TableName.{TableName}
use Rattle.hm_data.specs.Numbers.{table_state_of, status_of, region_state_of, goal_of, told_of, act_of, back_of, cause_of}
use Rattle.hm_data.specs.declared.act.Act.{Act}
use Rattle.hm_data.specs.declared.act.Back.{Back}
use Rattle.hm_data.specs.declared.answer.Answer.{Answer}
use Rattle.hm_data.specs.declared.answer.Answer.TheVariants as answer_is
use Rattle.hm_data.specs.declared.answer.Cause.{Cause}
use Rattle.hm_data.specs.declared.args.Args.{Args}
use Rattle.hm_data.specs.declared.args.Args.TheVariants as args_are
use Rattle.hm_data.specs.declared.args.Child.{Child}
use Rattle.hm_data.specs.declared.args.Child.TheVariants as child_is
use Rattle.hm_data.specs.declared.call.Told.{Told}
use Rattle.hm_data.specs.declared.call.Verb.{Verb}
use Rattle.hm_data.specs.declared.call.Verb.TheVariants as verb_is
use Rattle.hm_data.specs.declared.catalog.CatKey.{CatKey}
use Rattle.hm_data.specs.declared.catalog.CatKey.TheVariants as key_is
use Rattle.hm_data.specs.declared.catalog.CatRow.{CatRow}
use Rattle.hm_data.specs.declared.catalog.CatRow.TheVariants as row_is
use Rattle.hm_data.specs.declared.catalog.Edit.{Edit}
use Rattle.hm_data.specs.declared.catalog.Status.{Status}
use Rattle.hm_data.specs.declared.catalog.TableState.{TableState}
use Rattle.hm_data.specs.declared.entry.Entry.{Entry}
use Rattle.hm_data.specs.declared.entry.Entry.TheVariants as entry_is
use Rattle.hm_data.specs.declared.part.Part.{Part}
use Rattle.hm_data.specs.declared.part.Part.TheVariants as part_is
use Rattle.hm_data.specs.declared.place.Goal.{Goal}
use Rattle.hm_data.specs.declared.place.Place.{Place}
use Rattle.hm_data.specs.declared.place.RegionState.{RegionState}
use Rattle.hm_data.specs.declared.request.Request.{Request}
use Rattle.hm_data.specs.declared.request.Request.TheVariants as request_is
use Rattle.hm_data.specs.declared.sheet.Row.{Row}
use Rattle.hm_data.specs.declared.sheet.Sheet.{Sheet}
use Rattle.hm_data.specs.declared.step.StepOut.{StepOut}
use Rattle.hm_entry.specs.declared.fault.EntryFault.{EntryFault}
use Rattle.hm_entry.specs.declared.fault.EntryFault.TheVariants.{Short, Field, Rest, Memory}

-- what is read after a value, unless the value is a fault
infixl 10 ◌>>=◌
abbrev pub ◌>>=◌ : {A B : Type 0} → Result A EntryFault → (A → Result B EntryFault) → Result B EntryFault
(Ok x) >>= f = f x
(Err e) >>= f = Err e

-- a way to read a value from the front of what is left
abbrev pub ReaderOf : Type 0 → Type 0
ReaderOf A = Input → Result (A × Input) EntryFault

-- what a call that failed so has met, unless memory ran out
abbrev pub Fails : {A : Type 0} → EntryFault → Result A EntryFault → Type 0
Fails Memory read = Unit {0}
Fails (Short p) read = read ≡ Err (Short p)
Fails (Field p) read = read ≡ Err (Field p)
Fails (Rest p) read = read ≡ Err (Rest p)

-- a call gave what reading gives, and left the input after it, unless memory ran out
abbrev pub Gives : {A : Type 0} → Result A EntryFault → Result (A × Input) EntryFault → Input → Type 0
Gives (Ok x) read new = read ≡ Ok (x, new)
Gives (Err e) read new = Fails e read

-- the same, where the value is seen by view
abbrev pub GivesBy : {A B : Type 0} → (A → B) → Result A EntryFault → Result (B × Input) EntryFault → Input → Type 0
GivesBy view (Ok x) read new = read ≡ Ok (view x, new)
GivesBy view (Err e) read new = Fails e read

-- a call gave what reading all gives, unless memory ran out
abbrev pub GivesAll : {A : Type 0} → Result A EntryFault → Result A EntryFault → Type 0
GivesAll (Ok x) read = read ≡ Ok x
GivesAll (Err e) read = Fails e read

-- a value of one field
abbrev pub of_one : {A R : Type 0} → (A → R) → ReaderOf A → Input → Result (R × Input) EntryFault
of_one make a i = do
  x ← a i
  Ok (make x.0, x.1)

-- a value of two fields, one after the other
abbrev pub of_two : {A B R : Type 0} → (A → B → R) → ReaderOf A → ReaderOf B → Input → Result (R × Input) EntryFault
of_two make a b i = do
  x ← a i
  y ← b x.1
  Ok (make x.0 y.0, y.1)

-- of three
abbrev pub of_three : {A B C R : Type 0} → (A → B → C → R) → ReaderOf A → ReaderOf B → ReaderOf C → Input → Result (R × Input) EntryFault
of_three make a b c i = do
  x ← a i
  y ← b x.1
  z ← c y.1
  Ok (make x.0 y.0 z.0, z.1)

-- of four
abbrev pub of_four : {A B C D R : Type 0} → (A → B → C → D → R) → ReaderOf A → ReaderOf B → ReaderOf C → ReaderOf D → Input → Result (R × Input) EntryFault
of_four make a b c d i = do
  x ← a i
  y ← b x.1
  z ← c y.1
  w ← d z.1
  Ok (make x.0 y.0 z.0 w.0, w.1)

-- of five
abbrev pub of_five : {A B C D E R : Type 0} → (A → B → C → D → E → R) → ReaderOf A → ReaderOf B → ReaderOf C → ReaderOf D → ReaderOf E → Input → Result (R × Input) EntryFault
of_five make a b c d e i = do
  x ← a i
  of_four (λ q r s t. make x.0 q r s t) b c d e x.1

-- a fault of a field, as one of an entry: a text that is too long is no value
abbrev pub wire : {A : Type 0} → Result A WireFault → Result A EntryFault
wire (Ok x) = Ok x
wire (Err (wire_is.Short p)) = Err (Short p)
wire (Err (wire_is.Range p)) = Err (Field p)

-- a number in one byte
unfoldable pub byte_at : ReaderOf ℕ
byte_at i = wire (number_at 1 i)

-- a number in two bytes
unfoldable pub u16_at : ReaderOf ℕ
u16_at i = wire (number_at 2 i)

-- a number in eight bytes
unfoldable pub u64_at : ReaderOf ℕ
u64_at i = wire (number_at 8 i)

-- a text of so many bytes at most
unfoldable pub text_of : ℕ → ReaderOf (List ℕ)
text_of most i = wire (text_at most i)

-- a number that isn't 0
abbrev pub from_one : ReaderOf ℕ → Input → Result (ℕ × Input) EntryFault
from_one read i = do
  n ← read i
  if n.0 == 0 then Err (Field i.at) else Ok n

-- a value that was found, or no value at the place of its field
abbrev pub known : {A : Type 0} → ℕ → Option A → Input → Result (A × Input) EntryFault
known place None i = Err (Field place)
known place (Some x) i = Ok (x, i)

-- a value by its number in one byte
abbrev pub coded : {A : Type 0} → (ℕ → Option A) → Input → Result (A × Input) EntryFault
coded of i = do
  n ← byte_at i
  known i.at (of n.0) n.1

-- a name that was judged, or no value at the place of its text
abbrev pub judged : ℕ → Result (List ℕ) NameFault → Input → Result (List ℕ × Input) EntryFault
judged place (Ok name) i = Ok (name, i)
judged place (Err fault) i = Err (Field place)

-- a name in a text of so many bytes at most
abbrev pub named : ℕ → (List ℕ → Result (List ℕ) NameFault) → Input → Result (List ℕ × Input) EntryFault
named most judge i = do
  text ← text_of most i
  judged i.at (judge text.0) text.1

-- a value by its kind, which stands in the byte before its fields
abbrev pub by_kind : {A : Type 0} → (ℕ → ℕ → ReaderOf A) → Input → Result (A × Input) EntryFault
by_kind fields i = do
  kind ← byte_at i
  fields i.at kind.0 kind.1

-- nothing after a 0, or a value after a 1
abbrev pub option_of : {A : Type 0} → ReaderOf A → ℕ → ℕ → Input → Result (Option A × Input) EntryFault
option_of item place flag i =
    if flag == 0 then Ok (None, i) else (if flag == 1 then of_one Some item i else Err (Field place))

-- nothing, or a value after a byte
unfoldable pub option_at : {A : Type 0} → ReaderOf A → Input → Result (Option A × Input) EntryFault
option_at item = by_kind (option_of item)

-- so many items, one after the other
unfoldable pub items_at : {A : Type 0} → ReaderOf A → ℕ → Input → Result (List A × Input) EntryFault
items_at item zero i = Ok ([], i)
items_at item (suc n) i = do
  first ← item i
  others ← items_at item n first.1
  Ok (first.0 ∷ others.0, others.1)

-- the items after their count
unfoldable pub list_at : {A : Type 0} → ReaderOf A → Input → Result (List A × Input) EntryFault
list_at item i = do
  count ← u16_at i
  items_at item count.0 count.1

-- the name of a namespace
unfoldable pub ns_at : ReaderOf (List ℕ)
ns_at = named 64 read_ns

-- the name of a table in its namespace
unfoldable pub qualifier_at : ReaderOf (List ℕ)
qualifier_at = named 128 read_qualifier

-- the name of a host
unfoldable pub host_at : ReaderOf (List ℕ)
host_at = named 64 read_host

-- the key of a row
unfoldable pub key_at : ReaderOf (List ℕ)
key_at = named 128 limited

-- the number of a region, or a start code
unfoldable pub id_at : ReaderOf ℕ
id_at = from_one u64_at

-- the port of a server
unfoldable pub port_at : ReaderOf ℕ
port_at = from_one u16_at

-- a procedure by its number
unfoldable pub pid_at : ReaderOf Pid
pid_at = of_one (λ n. record { 0 = n }) u64_at

-- namespace and qualifier
unfoldable pub table_at : ReaderOf TableName
table_at = of_two (λ ns qualifier. record { ns = ns; qualifier = qualifier }) ns_at qualifier_at

-- table and number
unfoldable pub region_at : ReaderOf Region
region_at = of_two (λ table id. record { table = table; id = id }) table_at id_at

-- host, port and start code
unfoldable pub server_at : ReaderOf Server
server_at = of_three (λ host port start. record { host = host; port = port; start = start }) host_at port_at id_at

-- start and end
unfoldable pub range_at : ReaderOf KeyRange
range_at = of_two (λ start end. record { start = start; end = end }) key_at key_at

-- group and number
unfoldable pub nonce_at : ReaderOf Nonce
nonce_at = of_two (λ group number. record { group = group; number = number }) u64_at u64_at

-- what a call was answered
unfoldable pub told_at : ReaderOf Told
told_at = coded told_of

-- why a procedure failed
unfoldable pub cause_at : ReaderOf Cause
cause_at = coded cause_of

-- what a row of a sheet does
unfoldable pub act_at : ReaderOf Act
act_at = coded act_of

-- how a step is undone
unfoldable pub back_at : ReaderOf Back
back_at = coded back_of

-- what a transit is for
unfoldable pub goal_at : ReaderOf Goal
goal_at = coded goal_of

-- the state of a table
unfoldable pub table_state_at : ReaderOf TableState
table_state_at = coded table_state_of

-- the status of a region
unfoldable pub status_at : ReaderOf Status
status_at = coded status_of

-- the state of a region at its place
unfoldable pub region_state_at : ReaderOf RegionState
region_state_at = coded region_state_of

-- no or yes, by its number
abbrev pub flag_of : ℕ → Option Bool
flag_of n = if n == 0 then Some false else (if n == 1 then Some true else None)

-- no or yes
unfoldable pub flag_at : ReaderOf Bool
flag_at = coded flag_of

-- a row of a sheet: its act, what follows it, whether it is after the point, and its undo
unfoldable pub row_at : ReaderOf Row
row_at = of_four (λ act next after undo. record { act = act; next = next; after = after; undo = undo }) act_at byte_at flag_at back_at

-- a sheet: its kind and its rows
unfoldable pub sheet_at : ReaderOf Sheet
sheet_at = of_two (λ kind rows. record { kind = kind; rows = rows }) byte_at (list_at row_at)

-- the fields of a request of a kind
unfoldable pub request_of : ℕ → ℕ → ReaderOf Request
request_of place kind i =
    if kind == 1 then of_one request_is.CreateNamespace ns_at i
    else (if kind == 2 then of_one request_is.DropNamespace ns_at i
    else (if kind == 3 then of_two request_is.CreateTable table_at (list_at key_at) i
    else (if kind == 4 then of_one request_is.DeleteTable table_at i
    else (if kind == 5 then of_one request_is.EnableTable table_at i
    else (if kind == 6 then of_one request_is.DisableTable table_at i
    else (if kind == 7 then of_two request_is.ModifyTable table_at u64_at i
    else (if kind == 8 then of_two request_is.SplitRegion region_at key_at i
    else (if kind == 9 then of_one request_is.MergeRegions (list_at region_at) i
    else (if kind == 10 then of_two request_is.Move region_at (option_at server_at) i
    else Err (Field place))))))))))

-- a request: its kind and its fields in their order
unfoldable pub request_at : ReaderOf Request
request_at = by_kind request_of

-- a key of the catalog of a kind
unfoldable pub cat_key_of : ℕ → ℕ → ReaderOf CatKey
cat_key_of place kind i =
    if kind == 0 then of_one key_is.Ns ns_at i
    else (if kind == 1 then of_one key_is.Table table_at i
    else (if kind == 2 then of_one key_is.Region region_at i
    else Err (Field place)))

-- what a row of the catalog is of
unfoldable pub cat_key_at : ReaderOf CatKey
cat_key_at = by_kind cat_key_of

-- the fields of a row of the catalog of a kind
unfoldable pub cat_row_of : ℕ → ℕ → ReaderOf CatRow
cat_row_of place kind i =
    if kind == 0 then Ok (row_is.Ns, i)
    else (if kind == 1 then of_two row_is.Table table_state_at u64_at i
    else (if kind == 2 then of_three row_is.Region range_at status_at (list_at u64_at) i
    else Err (Field place)))

-- a row of the catalog
unfoldable pub cat_row_at : ReaderOf CatRow
cat_row_at = by_kind cat_row_of

-- a key, its row before and its row after
unfoldable pub edit_at : ReaderOf Edit
edit_at = of_three (λ key before after. record { key = key; before = before; after = after }) cat_key_at (option_at cat_row_at) (option_at cat_row_at)

-- what a procedure of a kind works on
unfoldable pub args_of : ℕ → ℕ → ReaderOf Args
args_of place kind i =
    if kind == 11 then of_one args_are.Crash server_at i
    else (if kind == 20 then of_three args_are.AddRegions table_at u64_at (list_at key_at) i
    else (if kind == 21 then of_two args_are.DropRegions table_at (list_at u64_at) i
    else (if kind == 23 then of_two args_are.AssignCall region_at server_at i
    else (if kind == 24 then of_two args_are.CloseCall region_at server_at i
    else (if kind == 25 then of_one args_are.FenceCall server_at i
    else (if kind == 26 then of_one args_are.LayoutCall pid_at i
    else (if kind == 27 then of_one args_are.SweepLayout pid_at i
    else Err (Field place))))))))

-- transits of a table's regions after a 0, or one procedure of a kind
unfoldable pub child_of : ℕ → ℕ → ReaderOf Child
child_of place kind i =
    if kind == 0 then of_three child_is.Transits table_at (list_at u64_at) goal_at i
    else of_one child_is.One (args_of place kind) i

-- transits of a table's regions, or one procedure
unfoldable pub child_at : ReaderOf Child
child_at = by_kind child_of

-- a verb of a kind
unfoldable pub verb_of : ℕ → ℕ → ReaderOf Verb
verb_of place kind i =
    if kind == 0 then of_one verb_is.AssignRegion region_at i
    else (if kind == 1 then of_one verb_is.CloseRegion region_at i
    else (if kind == 2 then of_one verb_is.Fence server_at i
    else (if kind == 3 then of_one verb_is.Layout pid_at i
    else (if kind == 4 then of_one verb_is.Sweep pid_at i
    else Err (Field place)))))

-- what a call asks of its peer
unfoldable pub verb_at : ReaderOf Verb
verb_at = by_kind verb_of

-- the state of a region and its server
unfoldable pub place_at : ReaderOf Place
place_at = of_two (λ state server. record { state = state; server = server }) region_state_at (option_at server_at)

-- an undone step, which has a 0 for its number
abbrev pub undone_of : ℕ → Option Answer
undone_of n = if n == 0 then Some answer_is.Undone else None

-- the second byte of an answer of a kind
unfoldable pub answer_of : ℕ → ℕ → ReaderOf Answer
answer_of place kind i =
    if kind == 0 then of_one answer_is.More byte_at i
    else (if kind == 1 then of_one answer_is.Wait byte_at i
    else (if kind == 2 then of_one answer_is.Await byte_at i
    else (if kind == 3 then of_one answer_is.Done told_at i
    else (if kind == 4 then of_one answer_is.Fail cause_at i
    else (if kind == 5 then coded undone_of i
    else Err (Field place))))))

-- what a step answers, in two bytes
unfoldable pub answer_at : ReaderOf Answer
answer_at = by_kind answer_of

-- what a step answers and does
unfoldable pub out_at : ReaderOf StepOut
out_at i = do
  answer ← answer_at i
  edits ← list_at edit_at answer.1
  children ← list_at child_at edits.1
  call ← option_at verb_at children.1
  place ← option_at place_at call.1
  followers ← list_at child_at place.1
  Ok (record { answer = answer.0; edits = edits.0; children = children.0; call = call.0; place = place.0; followers = followers.0 }, followers.1)

-- what a root of a base did: a transit after FF, a request and its first id, or what else a procedure of a kind works on
unfoldable pub root_args_of : ℕ → ℕ → ReaderOf Args
root_args_of place kind i =
    if kind == 255 then of_three args_are.Transit region_at goal_at (option_at server_at) i
    else (if nat_lt kind 11 then of_two args_are.Root (request_of place kind) u64_at i
    else args_of place kind i)

-- what a root of a base did, after its kind
unfoldable pub root_args_at : ReaderOf Args
root_args_at = by_kind root_args_of

-- the state of a table and its version
unfoldable pub table_row_at : ReaderOf (TableState × ℕ)
table_row_at = of_two (λ state version. (state, version)) table_state_at u64_at

-- a part of a base of a sort
unfoldable pub part_of : ℕ → ℕ → ReaderOf Part
part_of place kind i =
    if kind == 0 then of_four part_is.Head u64_at pid_at u64_at (list_at sheet_at) i
    else (if kind == 1 then of_one part_is.Namespace ns_at i
    else (if kind == 2 then of_three part_is.Table table_at u64_at (option_at table_row_at) i
    else (if kind == 3 then of_five part_is.Region region_at range_at status_at (list_at u64_at) place_at i
    else (if kind == 4 then of_two part_is.Server server_at flag_at i
    else (if kind == 5 then of_four part_is.Root pid_at nonce_at root_args_at (option_at cause_at) i
    else (if kind == 6 then of_one part_is.Layout pid_at i
    else Err (Field place)))))))

-- a part of a base: its sort and its fields in their order
unfoldable pub part_at : ReaderOf Part
part_at = by_kind part_of

-- the fields of an entry of a kind
unfoldable pub entry_of : ℕ → ℕ → ReaderOf Entry
entry_of place kind i =
    if kind == 0 then of_one entry_is.Start (list_at sheet_at) i
    else (if kind == 1 then of_two entry_is.Submit nonce_at request_at i
    else (if kind == 2 then of_three entry_is.Step pid_at (option_at server_at) out_at i
    else (if kind == 3 then of_three entry_is.Undo pid_at byte_at out_at i
    else (if kind == 4 then of_two entry_is.Report pid_at told_at i
    else (if kind == 5 then of_one entry_is.Up server_at i
    else (if kind == 6 then of_one entry_is.Down server_at i
    else (if kind == 7 then of_one entry_is.Abort pid_at i
    else (if kind == 8 then of_one entry_is.Base part_at i
    else (if kind == 9 then of_one entry_is.Adopt (list_at sheet_at) i
    else Err (Field place))))))))))

-- an entry: its tag and its fields in their order
unfoldable pub entry_at : ReaderOf Entry
entry_at = by_kind entry_of

-- all of the bytes, read as an entry
unfoldable pub all_of : List ℕ → Result Entry EntryFault
all_of bytes = do
  read ← entry_at (record { at = 0; rest = bytes })
  if length read.1.rest == 0 then Ok read.0 else Err (Rest read.1.at)
