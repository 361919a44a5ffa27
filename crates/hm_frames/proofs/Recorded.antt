-- The entries that may stand after a journal can be recorded.
use Rattle.std.proofs.Common.{◌≡◌, ℕ, ◌+◌, ◌≤◌, List, [], ◌∷◌, ◌++◌, length, Option, Some, None, All, refl, arith, length-append, ap, sym, ◌∙◌}
use Rattle.std.proofs.lemmas.List.Elements.{All-nil, All-cons}
use Rattle.hm_names.specs.Server.{Server}
use Rattle.hm_names.specs.Servers.{IsServer}
use Rattle.hm_names.specs.declared.pid.Pid.{Pid}
use Rattle.hm_data.specs.declared.answer.Answer.{Answer}
use Rattle.hm_data.specs.declared.answer.Answer.TheVariants as answer_is
use Rattle.hm_data.specs.declared.answer.Cause.{Cause}
use Rattle.hm_data.specs.declared.args.Args.{Args}
use Rattle.hm_data.specs.declared.args.Args.TheVariants as args_are
use Rattle.hm_data.specs.declared.args.Child.{Child}
use Rattle.hm_data.specs.declared.args.Child.TheVariants as child_is
use Rattle.hm_data.specs.declared.call.Told.{Told}
use Rattle.hm_data.specs.Numbers.{goal_number, status_number}
use Rattle.hm_data.specs.declared.catalog.TableState.{TableState}
use Rattle.hm_data.specs.declared.part.Part.{Part}
use Rattle.hm_data.specs.declared.part.Part.TheVariants as part_is
use Rattle.std.specs.List.{flat_map}
use Rattle.hm_data.specs.declared.call.Verb.{Verb}
use Rattle.hm_data.specs.declared.call.Verb.TheVariants as verb_is
use Rattle.hm_data.specs.declared.entry.Entry.TheVariants as entry_is
use Rattle.hm_data.specs.declared.place.Place.{Place}
use Rattle.hm_data.specs.declared.step.StepOut.{StepOut}
use Rattle.hm_entry.specs.Fits.{ChildIsSpelled, EntryFits, PartFits, PlaceFits, RequestFits, RootArgsFit}
use Rattle.hm_entry.specs.Spelling.{answer, args, byte, cause_byte, child, edit, entry as spelling, flag, list, nonce, number, option, out, part, place, range, region, request, root_args, server, sheet, table, table_row, verb}
use Rattle.hm_hall.specs.Recording.{CanBeRecorded}
use Rattle.hm_model.specs.Journal.{Past}
use Rattle.hm_model.specs.Rules.{Allowed, IsLegal}
use Rattle.hm_model.specs.Base.{AreSheets, MayRoot, PartFits as IsAllowedPart}
use Rattle.hm_model.specs.Tree.{root_of}
use Rattle.hm_frames.proofs.FewRegions.{few_regions}
use Rattle.hm_frames.proofs.ShortSteps.{evaluated_short, pick_short}
use Rattle.hm_frames.proofs.NameSizes.{nonce_long, ns_short, region_short, request_short, server_if_short, server_short, table_short, text_long}
use Rattle.hm_frames.proofs.ShortEdits.{numbers_long, range_short}
use Rattle.hm_frames.proofs.ShortPasts.{past_short}
use Rattle.hm_frames.proofs.ShortForms.{Each, If, IsShortChild, IsShortOut, IsShortPlace, IsShortVerb}
use Rattle.std.proofs.lemmas.Bool.{leb-true}
use Rattle.std.proofs.lemmas.List.{length-map}
use Rattle.hm_names.specs.declared.nonce.Nonce.{Nonce}
use Rattle.hm_data.specs.declared.request.Request.{Request}
use Rattle.hm_data.specs.declared.sheet.Sheet.{Sheet}
use Rattle.hm_model.specs.Kinds.{all_kinds}
use Rattle.hm_model.specs.Requests.{wrong_in}
use Rattle.hm_frames.proofs.Sizes.{flag_long, sheets_short}

-- the master runs few kinds
few_kinds : length all_kinds ≤ 64
few_kinds = leb-true (length all_kinds) 64 refl

-- sheets, one for each kind that the master runs
all_sheets_short : (sheets : List Sheet) → AreSheets sheets → length (list sheet sheets) ≤ 8386
all_sheets_short sheets are =
    let each : length sheets ≡ length all_kinds = sym (length-map sheets (λ s. s.kind)) ∙ ap length are.0 in
    omega (arith, each, few_kinds, sheets_short sheets are.1)

pub start_recorded : (sheets : List Sheet) → AreSheets sheets → CanBeRecorded (entry_is.Start sheets)
unfolding spelling
start_recorded sheets are = record { spelled = tt; short = omega (arith, all_sheets_short sheets are) }

-- new sheets
pub adopt_recorded : (J : Past) (sheets : List Sheet) → Allowed J (entry_is.Adopt sheets) → CanBeRecorded (entry_is.Adopt sheets)
unfolding spelling
adopt_recorded J sheets allowed = record { spelled = tt; short = omega (arith, all_sheets_short sheets allowed.1.0.0) }

-- a request that nothing is wrong with
pub submit_recorded : (given : Nonce) (asked : Request) → wrong_in asked ≡ None → RequestFits asked → CanBeRecorded (entry_is.Submit given asked)
unfolding spelling
submit_recorded given asked right fits =
    record { spelled = tt; short = omega (arith, request_short asked right fits, nonce_long given, length-append (nonce given) (request asked)) }

answer_long : (a : Answer) → length (answer a) ≡ 2
unfolding answer
answer_long (answer_is.More next) = refl
answer_long (answer_is.Wait next) = refl
answer_long (answer_is.Await next) = refl
answer_long (answer_is.Done told) = refl
answer_long (answer_is.Fail cause) = refl
answer_long answer_is.Undone = refl

verb_short : (v : Verb) → IsShortVerb v → length (verb v) ≤ 205
unfolding verb
verb_short (verb_is.AssignRegion r) is = omega (arith, region_short r is)
verb_short (verb_is.CloseRegion r) is = omega (arith, region_short r is)
verb_short (verb_is.Fence s) is = omega (arith, server_short s is)
verb_short (verb_is.Layout root) is = omega arith
verb_short (verb_is.Sweep root) is = omega arith

verb_if_short : (v : Option Verb) → If IsShortVerb v → length (option verb v) ≤ 206
verb_if_short None is = omega arith
verb_if_short (Some v) is = omega (arith, verb_short v is)

pub server_if : (s : Option Server) → If IsServer s → length (option server s) ≤ 77
server_if None is = omega arith
server_if (Some s) is = omega (arith, server_short s is)

place_short : (p : Place) → IsShortPlace p → length (place p) ≤ 78
unfolding place
place_short p is = omega (arith, server_if p.server is)

place_if_short : (p : Option Place) → If IsShortPlace p → length (option place p) ≤ 79
place_if_short None is = omega arith
place_if_short (Some p) is = omega (arith, place_short p is)

six_long : (a b c d e f : List ℕ) → length (a ++ (b ++ (c ++ (d ++ (e ++ f))))) ≡ length a + length b + length c + length d + length e + length f
six_long a b c d e f =
    omega (arith, length-append a (b ++ (c ++ (d ++ (e ++ f)))), length-append b (c ++ (d ++ (e ++ f))), length-append c (d ++ (e ++ f)), length-append d (e ++ f), length-append e f)

out_short : (o : StepOut) → IsShortOut o → length (out o) ≤ 60287
unfolding out
out_short o is =
    omega (
      arith,
      is.small,
      six_long (answer o.answer) (list edit o.edits) (list child o.children) (option verb o.call) (option place o.place) (list child o.followers),
      answer_long o.answer,
      verb_if_short o.call is.call,
      place_if_short o.place is.place,
    )

child_spelled : (c : Child) → IsShortChild c → ChildIsSpelled c
child_spelled (child_is.Transits table ids goal) is = tt
child_spelled (child_is.One args) is = is.0

children_spelled : (children : List Child) → Each IsShortChild children → All ChildIsSpelled children
children_spelled [] are = All-nil ChildIsSpelled
children_spelled (c ∷ more) are = All-cons ChildIsSpelled c more (child_spelled c are.0) (children_spelled more are.1)

step_short : (pid : Pid) (pick : Option Server) (o : StepOut) → If IsServer pick → IsShortOut o → CanBeRecorded (entry_is.Step pid pick o)
unfolding spelling
step_short pid pick o picked is = record {
  spelled = (children_spelled o.children is.children, children_spelled o.followers is.followers);
  short = omega (arith, out_short o is, server_if pick picked, length-append (option server pick) (out o));
}

undo_short : (pid : Pid) (row : ℕ) (o : StepOut) → IsShortOut o → CanBeRecorded (entry_is.Undo pid row o)
unfolding spelling
undo_short pid row o is = record {
  spelled = (children_spelled o.children is.children, children_spelled o.followers is.followers);
  short = omega (arith, out_short o is);
}

pub report_recorded : (call : Pid) (told : Told) → CanBeRecorded (entry_is.Report call told)
unfolding spelling
report_recorded call told = record { spelled = tt; short = omega arith }

pub up_recorded : (s : Server) → IsServer s → CanBeRecorded (entry_is.Up s)
unfolding spelling
up_recorded s named = record { spelled = tt; short = omega (arith, server_short s named) }

pub down_recorded : (s : Server) → IsServer s → CanBeRecorded (entry_is.Down s)
unfolding spelling
down_recorded s named = record { spelled = tt; short = omega (arith, server_short s named) }

pub abort_recorded : (pid : Pid) → CanBeRecorded (entry_is.Abort pid)
unfolding spelling
abort_recorded pid = record { spelled = tt; short = omega arith }

-- what a root of a base did
root_args_short : (work : Args) → MayRoot work → RootArgsFit work → length (root_args work) ≤ 33357
unfolding root_args args
root_args_short (args_are.Root asked first) may fits = omega (arith, request_short asked may fits.0, length-append (request asked) (number first))
root_args_short (args_are.Transit r goal to) may fits =
    omega (arith, region_short r fits.0.0, server_if_short to fits.1, length-append (region r) (byte (goal_number goal) ++ option server to))
root_args_short (args_are.Crash s) may fits = omega (arith, server_short s fits)
root_args_short (args_are.AddRegions t first bounds) may fits = absurd may
root_args_short (args_are.DropRegions t ids) may fits = absurd may
root_args_short (args_are.AssignCall r s) may fits = absurd may
root_args_short (args_are.CloseCall r s) may fits = absurd may
root_args_short (args_are.FenceCall s) may fits = absurd may
root_args_short (args_are.LayoutCall root) may fits = absurd may
root_args_short (args_are.SweepLayout root) may fits = omega arith

table_row_long : (own : Option (TableState × ℕ)) → length (option table_row own) ≤ 10
unfolding table_row
table_row_long None = omega arith
table_row_long (Some both) = omega arith

cause_long : (cause : Option Cause) → length (option cause_byte cause) ≤ 2
cause_long None = omega arith
cause_long (Some cause) = omega arith

place_fits_short : (p : Place) → PlaceFits p → length (place p) ≤ 78
unfolding place
place_fits_short p fits = omega (arith, server_if_short p.server fits)

-- a part of a base that may stand, and whose names have a spelling
part_short : (own : Part) (J : Past) → IsAllowedPart own J → PartFits own → length (part own) ≤ 33386
unfolding part
part_short (part_is.Head entries last parts sheets) J may fits = omega (arith, all_sheets_short sheets may.1)
part_short (part_is.Namespace ns) J may fits = omega (arith, ns_short ns fits, text_long ns)
part_short (part_is.Table t drawn own) J may fits =
    omega (arith, table_short t fits.0, table_row_long own, length-append (table t) (number drawn ++ option table_row own))
part_short (part_is.Region r bounds status parents at) J may fits =
    omega (
      arith,
      region_short r fits.0.0,
      range_short bounds (fits.1.0.0, fits.1.1.0),
      may.3,
      numbers_long parents,
      place_fits_short at fits.3,
      length-append (region r) (range bounds ++ (byte (status_number status) ++ (list number parents ++ place at))),
      length-append (range bounds) (byte (status_number status) ++ (list number parents ++ place at)),
      length-append (flat_map number parents) (place at),
    )
part_short (part_is.Server s fenced) J may fits = omega (arith, server_short s fits, flag_long fenced, length-append (server s) (flag fenced))
part_short (part_is.Root p given work cause) J may fits =
    omega (
      arith,
      root_args_short work may.4 fits.2,
      nonce_long given,
      cause_long cause,
      length-append (nonce given) (root_args work ++ option cause_byte cause),
      length-append (root_args work) (option cause_byte cause),
    )
part_short (part_is.Layout p) J may fits = omega arith

pub base_recorded : (J : Past) (own : Part) → Allowed J (entry_is.Base own) → PartFits own → CanBeRecorded (entry_is.Base own)
unfolding spelling
base_recorded J own allowed fits = record { spelled = tt; short = omega (arith, part_short own J allowed.0 fits) }

-- a step that may be made
pub step_recorded : (J : Past) (pid : Pid) (pick : Option Server) (o : StepOut) → IsLegal J → All EntryFits J → Allowed J (entry_is.Step pid pick o) → CanBeRecorded (entry_is.Step pid pick o)
step_recorded J pid pick o legal fit allowed =
    let short = past_short J legal fit in
    let picked = pick_short J legal short (few_regions J legal) pid.0 pick allowed.1.1.1.0 in
    step_short pid pick o picked (evaluated_short J legal short (few_regions J legal) pid.0 pick o picked allowed.1.1.1.1.0)

-- an undo
pub undo_recorded : (J : Past) (pid : Pid) (row : ℕ) (o : StepOut) → IsLegal J → All EntryFits J → Allowed J (entry_is.Undo pid row o) → CanBeRecorded (entry_is.Undo pid row o)
undo_recorded J pid row o legal fit allowed =
    undo_short pid row o (evaluated_short J legal (past_short J legal fit) (few_regions J legal) (root_of J pid.0) None o tt allowed.1.1.0)
