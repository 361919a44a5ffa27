-- Registries that serve a journal.
use Rattle.std.proofs.Common.{◌≡◌, ◌==◌, ◌||◌, ℕ, List, [], ◌∷◌, ◌++◌, map, All, Bool, true, false, if◌then◌else◌, IsTrue, Option, Some, None, refl, sym, ap, ◌∙◌, subst, inl, inr, append-nil, append_assoc}
use Rattle.std.specs.Prelude.{MatchOption}
use Rattle.std.proofs.lemmas.Option.{none-some}
use Rattle.std.proofs.lemmas.List.Elements.{All-head, All-tail}
use Rattle.hm_names.specs.declared.nonce.Nonce.{Nonce}
use Rattle.hm_data.specs.declared.entry.Entry.{Entry}
use Rattle.hm_data.specs.declared.entry.Entry.TheVariants as entry_is
use Rattle.hm_data.specs.declared.request.Request.{Request}
use Rattle.hm_data.specs.declared.request.Request.TheVariants as request_is
use Rattle.hm_data.specs.declared.sheet.Sheet.{Sheet}
use Rattle.hm_data.specs.declared.step.StepIn.{StepIn}
use Rattle.hm_data.specs.declared.step.StepOut.{StepOut}
use Rattle.hm_hall.specs.Recording.{Recording}
use Rattle.hm_model.specs.Editions.{editions}
use Rattle.hm_model.specs.Evaluation.{CanBeAsked, CanRun, answer_of}
use Rattle.hm_model.specs.Journal.{Past, back}
use Rattle.hm_model.specs.Rules.{IsLegal}
use Rattle.hm_model.specs.Sheets.{sheet_for, sheets_of}
use Rattle.hm_model.specs.Validity.{is_among}
use Rattle.hm_model.proofs.Grown.{sheets_are}
use Rattle.hm_model.proofs.Prefixes.{back-push}
use Rattle.hm_model.proofs.Sheets.{said_alike}
use Rattle.hm_script.specs.declared.command.Command.{Command}
use Rattle.hm_script.specs.declared.command.Command.TheVariants as command_is
use Rattle.hm_sheet.specs.Own.{is_kind}
use Rattle.hm_world.specs.Scene.{Scene}
use Rattle.hm_commands.specs.Balancing.{no_nonce}
use Rattle.hm_commands.specs.Commands.{Comes, IsWork, MayAdd, OtherMayAdd, asked}
use Rattle.hm_commands.specs.Hands.{AgreeOn, Serve, first_sheets}
use Rattle.hm_commands.specs.Scenes.{journal_at, kept_at}
use Rattle.hm_commands.specs.Tasks.{Tasks}
use Rattle.hm_commands.specs.declared.answer.Answer.{Answer}
use Rattle.hm_commands.proofs.Growth.{Grows, comes_grows, tasks_grow}

-- a sheet that is found is of its kind
found_among : (sheets : List Sheet) (kind : ℕ) (sheet : Sheet) → sheet_for sheets kind ≡ Some sheet → IsTrue (is_among (map (λ sheet. sheet.kind) sheets) kind)
found_among [] kind sheet found = absurd (none-some sheet found)
found_among (first ∷ sheets) kind sheet found = by (first.kind == kind) (found_among sheets kind sheet) found
  where
    by : (is : Bool) → (sheet_for sheets kind ≡ Some sheet → IsTrue (is_among (map (λ sheet. sheet.kind) sheets) kind))
        → (if is then Some first else sheet_for sheets kind) ≡ Some sheet → IsTrue (is || is_among (map (λ sheet. sheet.kind) sheets) kind)
    by true more found = refl
    by false more found = more found

-- a journal has sheets of the kinds of procedures alone
kind_is : (J : Past) → IsLegal J → (kind : ℕ) (sheet : Sheet) → sheet_for (sheets_of J) kind ≡ Some sheet → IsTrue (is_kind kind)
kind_is [] legal kind sheet found = absurd (none-some sheet found)
kind_is (entry ∷ J) legal kind sheet found =
    subst (λ kinds. IsTrue (is_among kinds kind)) (sheets_are (entry ∷ J) legal (λ none. cc)).0 (found_among (sheets_of (entry ∷ J)) kind sheet found)

-- a sheet of the journal is the registry's too
pub same_sheet : (J : Past) → IsLegal J → (at : StepIn) (sheets : List Sheet) → AgreeOn sheets (sheets_of J) → CanRun (sheets_of J) at
    → sheet_for sheets at.kind ≡ sheet_for (sheets_of J) at.kind
same_sheet J legal at sheets agree runs = by (sheet_for (sheets_of J) at.kind) refl runs
  where
    by : (found : Option Sheet) → sheet_for (sheets_of J) at.kind ≡ found → CanBeAsked found at → sheet_for sheets at.kind ≡ sheet_for (sheets_of J) at.kind
    by None is runs = absurd runs
    by (Some sheet) is runs = agree at.kind (kind_is J legal at.kind sheet is)

-- the registry can be run where the journal's sheets can be asked
pub runs_there : (J : Past) → IsLegal J → (at : StepIn) (sheets : List Sheet) → AgreeOn sheets (sheets_of J) → CanRun (sheets_of J) at → CanRun sheets at
runs_there J legal at sheets agree runs = subst (λ (o : Option Sheet). CanBeAsked o at) (sym (same_sheet J legal at sheets agree runs)) runs

-- and what it answers is what those say
pub answered_there : (J : Past) → IsLegal J → (at : StepIn) (sheets : List Sheet) (out : StepOut) → AgreeOn sheets (sheets_of J) → CanRun (sheets_of J) at
    → answer_of sheets at ≡ Some out → answer_of (sheets_of J) at ≡ Some out
answered_there J legal at sheets out agree runs answered = said_alike (sheets_of J) sheets at (sym (same_sheet J legal at sheets agree runs)) ∙ answered

-- an entry that leaves the sheets in force, and their edition
abbrev LeavesSheets : Entry → Type 0
LeavesSheets entry = (J : Past) → (sheets_of (entry ∷ J) ≡ sheets_of J) × (editions (entry ∷ J) ≡ editions J)

work_leaves : (entry : Entry) → IsWork entry → LeavesSheets entry
work_leaves (entry_is.Step pid pick out) work J = (refl, refl)
work_leaves (entry_is.Undo pid row out) work J = (refl, refl)
work_leaves (entry_is.Report call told) work J = (refl, refl)
work_leaves entry work J = absurd work

same_leaves : (entry other : Entry) → entry ≡ other → LeavesSheets other → LeavesSheets entry
same_leaves entry other same leaves = subst LeavesSheets (sym same) leaves

other_leaves : (command : Command) (entry : Entry) → OtherMayAdd command entry → LeavesSheets entry
other_leaves (command_is.Abort pid) entry may = same_leaves entry (entry_is.Abort pid) may (λ J. (refl, refl))
other_leaves (command_is.Server server) entry (inl up) = same_leaves entry (entry_is.Up server) up (λ J. (refl, refl))
other_leaves (command_is.Server server) entry (inr down) = same_leaves entry (entry_is.Down down.0) down.1 (λ J. (refl, refl))
other_leaves (command_is.Expire server) entry may = same_leaves entry (entry_is.Down server) may (λ J. (refl, refl))
other_leaves (command_is.Step count) entry may = work_leaves entry may
other_leaves command_is.Settle entry may = work_leaves entry may
other_leaves command_is.Balance entry may = same_leaves entry (entry_is.Submit no_nonce (request_is.Move may.0 (Some may.1))) may.2 (λ J. (refl, refl))
other_leaves command entry may = absurd may

may_leaves : (command : Command) (entry : Entry) → MayAdd command entry → LeavesSheets entry
may_leaves command entry = by (asked command)
  where
    by : (ask : Option (Nonce × Request)) → MatchOption ask (OtherMayAdd command entry) (λ ask. entry ≡ entry_is.Submit ask.0 ask.1) → LeavesSheets entry
    by None may = other_leaves command entry may
    by (Some ask) may = same_leaves entry (entry_is.Submit ask.0 ask.1) may (λ J. (refl, refl))

-- what all such entries leave, what was added leaves
module _ {X : Type 0} (told : Past → X) where
  told_all : (P : Entry → Type 0) → ((entry : Entry) → P entry → (J : Past) → told (entry ∷ J) ≡ told J) → (journal added : List Entry) → All P added → told (back (journal ++ added)) ≡ told (back journal)
  told_all P leaves journal [] all = ap (λ (j : List Entry). told (back j)) (append-nil journal)
  told_all P leaves journal (entry ∷ added) all =
      ap (λ (j : List Entry). told (back j)) (sym (append_assoc journal (entry ∷ []) added))
      ∙ told_all P leaves (journal ++ entry ∷ []) added (All-tail P entry added all)
      ∙ ap told (back-push journal entry) ∙ leaves entry (All-head P entry added all) (back journal)

  told_grown : (P : Entry → Type 0) → ((entry : Entry) → P entry → (J : Past) → told (entry ∷ J) ≡ told J) → (old new : Recording) → Grows P old new → told (back new.entries) ≡ told (back old.entries)
  told_grown P leaves old new grows = ap (λ (j : List Entry). told (back j)) grows.grown ∙ told_all P leaves old.entries grows.added grows.each

module _ (command : Command) (old : Scene) (answer : Option Answer) (new : Scene) (comes : Comes command old answer new) where
  grows : Grows (MayAdd command) (kept_at old) (kept_at new)
  grows = comes_grows old new command answer comes

  -- the sheets after a command, and their edition
  pub comes_sheets : sheets_of (back (journal_at new)) ≡ sheets_of (back (journal_at old))
  comes_sheets = told_grown sheets_of (MayAdd command) (λ entry may J. (may_leaves command entry may J).0) (kept_at old) (kept_at new) grows

  pub comes_editions : editions (back (journal_at new)) ≡ editions (back (journal_at old))
  comes_editions = told_grown editions (MayAdd command) (λ entry may J. (may_leaves command entry may J).1) (kept_at old) (kept_at new) grows

module _ (one other : List (List Sheet)) (old new : List Entry) (serve : Serve one old) (same : other ≡ one) where
  -- registries that served a journal serve one with the same sheets and as many editions
  pub serve_on : sheets_of (back new) ≡ sheets_of (back old) → editions (back new) ≡ editions (back old) → Serve other new
  serve_on sheets edition =
      subst (λ (hands : List (List Sheet)). Serve hands new) (sym same)
      (record { agree = serve.agree; begins = subst (AgreeOn (first_sheets one)) (sym sheets) serve.begins; unadopted = edition ∙ serve.unadopted })

-- so they do after tasks
pub serve_behind : (one other : List (List Sheet)) (count : ℕ) (old new : Scene) → Serve one (journal_at old) → other ≡ one → Tasks count old new → Serve other (journal_at new)
serve_behind one other count old new serve same t =
    let grows = tasks_grow count old new t in
    serve_on one other (journal_at old) (journal_at new) serve same
    (told_grown sheets_of IsWork (λ entry work J. (work_leaves entry work J).0) (kept_at old) (kept_at new) grows)
    (told_grown editions IsWork (λ entry work J. (work_leaves entry work J).1) (kept_at old) (kept_at new) grows)
