-- Which values have a spelling: names are names, numbers fit their bytes, lists fit their count.
use Rattle.std.specs.Prelude.{ℕ, ◌<◌, ◌^◌, List, length, IfSome, All}
use Rattle.hm_names.specs.Keys.{IsByteString, IsRowKey}
use Rattle.hm_names.specs.Names.{IsNs}
use Rattle.hm_names.specs.Nonces.{IsNonce}
use Rattle.hm_names.specs.Regions.{IsRegion}
use Rattle.hm_names.specs.Servers.{IsServer}
use Rattle.hm_names.specs.Tables.{IsTable}
use Rattle.hm_names.specs.declared.pid.Pid.{Pid}
use Rattle.hm_names.specs.declared.range.KeyRange.{KeyRange}
use Rattle.hm_data.specs.declared.answer.Answer.{Answer}
use Rattle.hm_data.specs.declared.answer.Answer.TheVariants as answer_is
use Rattle.hm_data.specs.declared.args.Args.{Args}
use Rattle.hm_data.specs.declared.args.Args.TheVariants as args_are
use Rattle.hm_data.specs.declared.args.Child.{Child}
use Rattle.hm_data.specs.declared.args.Child.TheVariants as child_is
use Rattle.hm_data.specs.declared.call.Verb.{Verb}
use Rattle.hm_data.specs.declared.call.Verb.TheVariants as verb_is
use Rattle.hm_data.specs.declared.catalog.CatKey.{CatKey}
use Rattle.hm_data.specs.declared.catalog.CatKey.TheVariants as key_is
use Rattle.hm_data.specs.declared.catalog.CatRow.{CatRow}
use Rattle.hm_data.specs.declared.catalog.CatRow.TheVariants as row_is
use Rattle.hm_data.specs.declared.catalog.Edit.{Edit}
use Rattle.hm_data.specs.declared.entry.Entry.{Entry}
use Rattle.hm_data.specs.declared.entry.Entry.TheVariants as entry_is
use Rattle.hm_data.specs.declared.catalog.TableState.{TableState}
use Rattle.hm_data.specs.declared.part.Part.{Part}
use Rattle.hm_data.specs.declared.part.Part.TheVariants as part_is
use Rattle.hm_data.specs.declared.place.Place.{Place}
use Rattle.hm_data.specs.declared.request.Request.{Request}
use Rattle.hm_data.specs.declared.request.Request.TheVariants as request_is
use Rattle.hm_data.specs.declared.sheet.Row.{Row}
use Rattle.hm_data.specs.declared.sheet.Sheet.{Sheet}
use Rattle.hm_data.specs.declared.step.StepOut.{StepOut}

-- it fits one byte
abbrev pub IsByte : ℕ → Type 0
IsByte n = n < 256

-- it fits eight bytes
abbrev pub IsNumber : ℕ → Type 0
IsNumber n = n < 2 ^ 64

-- its items fit, and its count
abbrev pub AllFit : {A : Type 0} → (A → Type 0) → List A → Type 0
AllFit Fits xs = (length xs < 2 ^ 16) × All Fits xs

abbrev pub PidFits : Pid → Type 0
PidFits p = IsNumber p.0

abbrev pub KeyFits : List ℕ → Type 0
KeyFits key = IsRowKey key × IsByteString key

abbrev pub RangeFits : KeyRange → Type 0
RangeFits r = KeyFits r.start × KeyFits r.end

abbrev pub RowFits : Row → Type 0
RowFits r = IsByte r.next

abbrev pub SheetFits : Sheet → Type 0
SheetFits s = IsByte s.kind × AllFit RowFits s.rows

abbrev pub RequestFits : Request → Type 0
RequestFits (request_is.CreateNamespace ns) = IsNs ns
RequestFits (request_is.DropNamespace ns) = IsNs ns
RequestFits (request_is.CreateTable t keys) = IsTable t × AllFit KeyFits keys
RequestFits (request_is.DeleteTable t) = IsTable t
RequestFits (request_is.EnableTable t) = IsTable t
RequestFits (request_is.DisableTable t) = IsTable t
RequestFits (request_is.ModifyTable t version) = IsTable t × IsNumber version
RequestFits (request_is.SplitRegion r key) = IsRegion r × KeyFits key
RequestFits (request_is.MergeRegions rs) = AllFit IsRegion rs
RequestFits (request_is.Move r to) = IsRegion r × IfSome to IsServer

abbrev pub CatKeyFits : CatKey → Type 0
CatKeyFits (key_is.Ns ns) = IsNs ns
CatKeyFits (key_is.Table t) = IsTable t
CatKeyFits (key_is.Region r) = IsRegion r

abbrev pub CatRowFits : CatRow → Type 0
CatRowFits row_is.Ns = Unit {0}
CatRowFits (row_is.Table state version) = IsNumber version
CatRowFits (row_is.Region bounds status parents) = RangeFits bounds × AllFit IsNumber parents

abbrev pub EditFits : Edit → Type 0
EditFits e = CatKeyFits e.key × IfSome e.before CatRowFits × IfSome e.after CatRowFits

-- a request and a transit by itself have no spelling
abbrev pub ArgsFit : Args → Type 0
ArgsFit (args_are.Root asked first) = ⊥
ArgsFit (args_are.Transit r goal to) = ⊥
ArgsFit (args_are.Crash s) = IsServer s
ArgsFit (args_are.AddRegions t first bounds) = IsTable t × IsNumber first × AllFit KeyFits bounds
ArgsFit (args_are.DropRegions t ids) = IsTable t × AllFit IsNumber ids
ArgsFit (args_are.AssignCall r s) = IsRegion r × IsServer s
ArgsFit (args_are.CloseCall r s) = IsRegion r × IsServer s
ArgsFit (args_are.FenceCall s) = IsServer s
ArgsFit (args_are.LayoutCall root) = PidFits root
ArgsFit (args_are.SweepLayout root) = PidFits root

abbrev pub ChildFits : Child → Type 0
ChildFits (child_is.Transits t ids goal) = IsTable t × AllFit IsNumber ids
ChildFits (child_is.One one) = ArgsFit one

abbrev pub VerbFits : Verb → Type 0
VerbFits (verb_is.AssignRegion r) = IsRegion r
VerbFits (verb_is.CloseRegion r) = IsRegion r
VerbFits (verb_is.Fence s) = IsServer s
VerbFits (verb_is.Layout root) = PidFits root
VerbFits (verb_is.Sweep root) = PidFits root

abbrev pub PlaceFits : Place → Type 0
PlaceFits p = IfSome p.server IsServer

abbrev pub AnswerFits : Answer → Type 0
AnswerFits (answer_is.More next) = IsByte next
AnswerFits (answer_is.Wait next) = IsByte next
AnswerFits (answer_is.Await next) = IsByte next
AnswerFits (answer_is.Done told) = Unit {0}
AnswerFits (answer_is.Fail cause) = Unit {0}
AnswerFits answer_is.Undone = Unit {0}

pub record OutFits (o : StepOut) : Type 0 where
  pub answer : AnswerFits o.answer
  pub edits : AllFit EditFits o.edits
  pub children : AllFit ChildFits o.children
  pub call : IfSome o.call VerbFits
  pub place : IfSome o.place PlaceFits
  pub followers : AllFit ChildFits o.followers

-- what a root of a base did, a request and a transit by themselves too
abbrev pub RootArgsFit : Args → Type 0
RootArgsFit (args_are.Root asked first) = RequestFits asked × IsNumber first
RootArgsFit (args_are.Transit r goal to) = IsRegion r × IfSome to IsServer
RootArgsFit (args_are.Crash s) = ArgsFit (args_are.Crash s)
RootArgsFit (args_are.AddRegions t first bounds) = ArgsFit (args_are.AddRegions t first bounds)
RootArgsFit (args_are.DropRegions t ids) = ArgsFit (args_are.DropRegions t ids)
RootArgsFit (args_are.AssignCall r s) = ArgsFit (args_are.AssignCall r s)
RootArgsFit (args_are.CloseCall r s) = ArgsFit (args_are.CloseCall r s)
RootArgsFit (args_are.FenceCall s) = ArgsFit (args_are.FenceCall s)
RootArgsFit (args_are.LayoutCall root) = ArgsFit (args_are.LayoutCall root)
RootArgsFit (args_are.SweepLayout root) = ArgsFit (args_are.SweepLayout root)

-- the version of a table fits
abbrev pub TableRowFits : TableState × ℕ → Type 0
TableRowFits both = IsNumber both.1

-- a part of a base that has a spelling
abbrev pub PartFits : Part → Type 0
PartFits (part_is.Head entries last parts sheets) = IsNumber entries × PidFits last × IsNumber parts × AllFit SheetFits sheets
PartFits (part_is.Namespace ns) = IsNs ns
PartFits (part_is.Table t drawn own) = IsTable t × IsNumber drawn × IfSome own TableRowFits
PartFits (part_is.Region r bounds status parents at) = IsRegion r × RangeFits bounds × AllFit IsNumber parents × PlaceFits at
PartFits (part_is.Server s fenced) = IsServer s
PartFits (part_is.Root p given work cause) = PidFits p × IsNonce given × RootArgsFit work
PartFits (part_is.Layout p) = PidFits p

-- an entry that has a spelling
abbrev pub EntryFits : Entry → Type 0
EntryFits (entry_is.Start sheets) = AllFit SheetFits sheets
EntryFits (entry_is.Submit given asked) = IsNonce given × RequestFits asked
EntryFits (entry_is.Step p pick o) = PidFits p × IfSome pick IsServer × OutFits o
EntryFits (entry_is.Undo p undone o) = PidFits p × IsByte undone × OutFits o
EntryFits (entry_is.Report call told) = PidFits call
EntryFits (entry_is.Up s) = IsServer s
EntryFits (entry_is.Down s) = IsServer s
EntryFits (entry_is.Abort p) = PidFits p
EntryFits (entry_is.Base own) = PartFits own
EntryFits (entry_is.Adopt sheets) = AllFit SheetFits sheets

-- an args that one procedure gives another has a spelling
abbrev pub IsSpelled : Args → Type 0
IsSpelled (args_are.Root asked first) = ⊥
IsSpelled (args_are.Transit r goal to) = ⊥
IsSpelled (args_are.Crash s) = Unit {0}
IsSpelled (args_are.AddRegions t first bounds) = Unit {0}
IsSpelled (args_are.DropRegions t ids) = Unit {0}
IsSpelled (args_are.AssignCall r s) = Unit {0}
IsSpelled (args_are.CloseCall r s) = Unit {0}
IsSpelled (args_are.FenceCall s) = Unit {0}
IsSpelled (args_are.LayoutCall root) = Unit {0}
IsSpelled (args_are.SweepLayout root) = Unit {0}

abbrev pub ChildIsSpelled : Child → Type 0
ChildIsSpelled (child_is.Transits t ids goal) = Unit {0}
ChildIsSpelled (child_is.One one) = IsSpelled one

abbrev pub OutIsSpelled : StepOut → Type 0
OutIsSpelled o = All ChildIsSpelled o.children × All ChildIsSpelled o.followers

-- the condition of encoding beside the room: each procedure that a step makes is of a kind that has a spelling
abbrev pub EntryIsSpelled : Entry → Type 0
EntryIsSpelled (entry_is.Start sheets) = Unit {0}
EntryIsSpelled (entry_is.Submit given asked) = Unit {0}
EntryIsSpelled (entry_is.Step p pick o) = OutIsSpelled o
EntryIsSpelled (entry_is.Undo p undone o) = OutIsSpelled o
EntryIsSpelled (entry_is.Report call told) = Unit {0}
EntryIsSpelled (entry_is.Up s) = Unit {0}
EntryIsSpelled (entry_is.Down s) = Unit {0}
EntryIsSpelled (entry_is.Abort p) = Unit {0}
EntryIsSpelled (entry_is.Base own) = Unit {0}
EntryIsSpelled (entry_is.Adopt sheets) = Unit {0}
