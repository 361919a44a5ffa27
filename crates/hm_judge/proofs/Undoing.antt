-- Which step is undone, by the procedure as it is shown and by the steps that are kept.
use Rattle.std.proofs.Common.{◌≡◌, ◌≢◌, ◌&&◌, ℕ, List, [], ◌∷◌, map, Bool, true, false, not, Option, Some, None, is_some, if◌then◌else◌, refl, ap, sym, ◌∙◌}
use Rattle.std.proofs.lemmas.Bool.{and_parts, false≢true, not-true, true≢false}
use Rattle.std.proofs.lemmas.Option.{none-some, same_Some}
use Rattle.hm_names.specs.declared.pid.Pid.{Pid}
use Rattle.hm_data.specs.declared.answer.Cause.{Cause}
use Rattle.hm_data.specs.declared.args.Args.{Args}
use Rattle.hm_data.specs.declared.call.Told.{Told}
use Rattle.hm_data.specs.declared.catalog.Edit.{Edit}
use Rattle.hm_data.specs.declared.record.Record.{Record}
use Rattle.hm_model.specs.Answers.{done_with, is_stopped, last_answer}
use Rattle.hm_model.specs.Inputs.{undoes}
use Rattle.hm_model.specs.Journal.{Past}
use Rattle.hm_model.specs.Phase.{all_stopped, cause, ended, ended_node, rolled_back, root_ended, root_over}
use Rattle.hm_model.specs.Records.{record_of}
use Rattle.hm_model.specs.Rest.{MayUndo}
use Rattle.hm_model.specs.Rules.{IsLatest, IsLegal}
use Rattle.hm_model.specs.Tree.{Node, is_top, node_of, pid_of, root_in, root_of}
use Rattle.hm_model.specs.Undo.{Undoable, is_empty, stack}
use Rattle.hm_model.proofs.Grown.{grown_all}
use Rattle.hm_model.proofs.UndoMakes.{AllThere, stacked_all}
use Rattle.hm_undo.specs.Laws.{Tells, kept_of}
use Rattle.hm_undo.specs.Stacks.{Stacks, edits_told, steps_of, told}
use Rattle.hm_records.specs.Records.{is_open}
use Rattle.hm_judge.specs.Turns.{IsLatestOf, shown_as}
use Rattle.hm_judge.specs.declared.turns.Latest.{Latest}
use Rattle.hm_judge.proofs.Found.{gone_of, nobody, shown_of}

-- nothing is to be undone of who isn't there
pub latest_nobody : (J : Past) → IsLegal J → (p row : ℕ) → None ≡ record_of J p → IsLatest J p row → ⊥
latest_nobody J legal p row none latest =
    let gone : node_of J (root_of J p) ≡ None = ap (λ o. node_of J (root_in o)) (gone_of J p none) ∙ (grown_all J legal).none in
    nobody J (root_of J p) gone latest.0 latest.1

-- what it says that something is undone of a root
pub undoes_parts : (J : Past) (p : ℕ) (x : Node) → undoes J p x ≡ true → (is_top x.above ≡ true) × (cause J p ≢ None) × (all_stopped J p ≡ true) × (is_empty (stack J p) ≡ false)
undoes_parts J p x on =
    let top = and_parts (is_top x.above) (is_some (cause J p) && (all_stopped J p && not (is_empty (stack J p)))) on in
    let failed = and_parts (is_some (cause J p)) (all_stopped J p && not (is_empty (stack J p))) top.1 in
    let left = and_parts (all_stopped J p) (not (is_empty (stack J p))) failed.1 in
    (top.0, (λ none. false≢true (sym (ap is_some none) ∙ failed.0)), left.0, not-true (is_empty (stack J p)) left.1)

over_by : (c : Option Cause) (rolled : Bool) (told : Option Told) → c ≢ None → root_over c rolled told ≡ rolled
over_by None rolled told some = absurd (some refl)
over_by (Some c) rolled told some = refl

-- such a root hasn't ended
pub undoes_open : (J : Past) (p : ℕ) → MayUndo J p → (is_empty (stack J p) ≡ false) × (ended J p ≡ false)
undoes_open J p may =
    let parts = undoes_parts J p may.0 may.2 in (
      parts.3,
      ap (ended_node J p) may.1
          ∙ ap (λ b. if b then root_ended J p else is_stopped (last_answer J p)) parts.0
          ∙ over_by (cause J p) (rolled_back J p) (done_with (last_answer J p)) parts.1
          ∙ ap (λ b. b && is_empty (stack J p)) parts.2
          ∙ parts.3,
    )

-- the steps that are kept of such a root: the latest is of a procedure that is there
pub kept_latest : (J : Past) → IsLegal J → (root : Pid) → MayUndo J root.0 → (stacks : Stacks) → Tells (is_open J) J stacks
    → (step : Undoable) × (below : List Undoable) × (stack J root.0 ≡ step ∷ below) × (its : Node) × (node_of J step.pid ≡ Some its) × (steps_of stacks root ≡ kept_of step ∷ map kept_of below)
kept_latest J legal root may stacks tells = let open_root = undoes_open J root.0 may in by (stack J root.0) refl open_root.0 (stacked_all J legal root.0) (tells root (ap not open_root.1))
  where
    by : (steps : List Undoable) → stack J root.0 ≡ steps → is_empty steps ≡ false → AllThere J root.0 steps → steps_of stacks root ≡ map kept_of (stack J root.0)
        → (step : Undoable) × (below : List Undoable) × (stack J root.0 ≡ step ∷ below) × (its : Node) × (node_of J step.pid ≡ Some its) × (steps_of stacks root ≡ kept_of step ∷ map kept_of below)
    by [] e some all kept = absurd (true≢false some)
    by (step ∷ below) e some all kept = (step, below, e, all.0.0, all.0.1, kept ∙ ap (map kept_of) e)

-- so there is one
pub some_latest : (J : Past) → IsLegal J → (root : Pid) → MayUndo J root.0 → (stacks : Stacks) → Tells (is_open J) J stacks → None ≡ told (steps_of stacks root) → ⊥
some_latest J legal root may stacks tells none =
    let k = kept_latest J legal root may stacks tells in
    none-some (pid_of k.0.pid, k.0.row) (none ∙ ap told k.5)

-- whose procedure is shown
pub latest_there : (J : Past) → IsLegal J → (root : Pid) → MayUndo J root.0 → (stacks : Stacks) → Tells (is_open J) J stacks → (pid : Pid) (row : ℕ) → Some (pid, row) ≡ told (steps_of stacks root) → None ≡ record_of J pid.0 → ⊥
latest_there J legal root may stacks tells pid row is none =
    let k = kept_latest J legal root may stacks tells in
    let same : (pid, row) ≡ (pid_of k.0.pid, k.0.row) = same_Some (pid, row) (pid_of k.0.pid, k.0.row) (is ∙ ap told k.5) in
    let number : pid.0 ≡ k.0.pid = ap (λ (x : Pid × ℕ). let q = x.0 in q.0) same in
    nobody J pid.0 (gone_of J pid.0 none) k.3 (ap (node_of J) number ∙ k.4)

-- what is gathered of a step
abbrev gathered : Pid → ℕ → ℕ → Args → List Edit → Latest
gathered pid kind row args edits = record { pid = pid; kind = kind; row = row; args = args; edits = edits }

-- that is the step
pub latest_by : (J : Past) → IsLegal J → (root : Pid) → MayUndo J root.0 → (stacks : Stacks) → Tells (is_open J) J stacks → (pid : Pid) (row : ℕ) (found : Record) (args : Args) (edits : List Edit)
    → Some (pid, row) ≡ told (steps_of stacks root) → Some found ≡ record_of J pid.0 → args ≡ found.args → Some edits ≡ edits_told (steps_of stacks root)
    → IsLatestOf J root.0 (record { pid = pid; kind = found.kind; row = row; args = args; edits = edits })
latest_by J legal root may stacks tells pid row found args edits is some args_are edits_are =
    let k = kept_latest J legal root may stacks tells in
    let same : (pid, row) ≡ (pid_of k.0.pid, k.0.row) = same_Some (pid, row) (pid_of k.0.pid, k.0.row) (is ∙ ap told k.5) in
    let pid_is : pid ≡ pid_of k.0.pid = ap (λ (x : Pid × ℕ). x.0) same in
    let shown = shown_of J pid.0 found some k.3 (ap (λ (q : Pid). node_of J q.0) pid_is ∙ k.4) in
    let its : Latest = shown_as k.0 k.3 in (
      k.0,
      k.1,
      k.2,
      k.3,
      k.4,
      ap (λ (q : Pid). gathered q found.kind row args edits) pid_is
          ∙ ap (λ (r : Record). gathered its.pid r.kind row args edits) shown
          ∙ ap (λ (n : ℕ). gathered its.pid its.kind n args edits) (ap (λ (x : Pid × ℕ). x.1) same)
          ∙ ap (λ (a : Args). gathered its.pid its.kind its.row a edits) (args_are ∙ ap (λ (r : Record). r.args) shown)
          ∙ ap (λ (e : List Edit). gathered its.pid its.kind its.row its.args e) (same_Some edits its.edits (edits_are ∙ ap edits_told k.5)),
    )
