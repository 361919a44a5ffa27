-- What the next call of a handler sees, and what it has to answer, in journals that read alike.
use Rattle.std.proofs.Common.{◌≡◌, ℕ, ◌<◌, List, [], ◌∷◌, Bool, true, false, not, ◌&&◌, ◌||◌, ◌==◌, Option, Some, None, refl, ap, sym, ◌∙◌, subst}
use Rattle.hm_names.specs.Server.{Server}
use Rattle.hm_names.specs.declared.pid.Pid.{Pid}
use Rattle.hm_data.specs.declared.place.Place.{Place}
use Rattle.hm_data.specs.declared.place.RegionState.TheVariants as place_is
use Rattle.hm_data.specs.declared.step.StepIn.{StepIn}
use Rattle.hm_model.specs.Evaluation.{answer_of, picks_by}
use Rattle.hm_model.specs.Fleet.{has_other_live, is_live, same_server}
use Rattle.hm_model.specs.Inputs.{answers, input, latest_input, step_input, turn_input, undo_input, undoes}
use Rattle.hm_model.specs.Journal.{Past}
use Rattle.hm_model.specs.Picks.{fits_input, is_another, is_as_wanted, is_pick_right, needs_server, pick_fits}
use Rattle.hm_model.specs.Places.{is_the_server}
use Rattle.hm_model.specs.Procedures.{offset, sheet_at, sheet_by}
use Rattle.hm_model.specs.Rules.{IsLegal}
use Rattle.hm_model.specs.Sheets.{sheets_by}
use Rattle.hm_model.specs.TransitActs.{is_state, told_place}
use Rattle.hm_model.specs.Tree.{Node, node_of}
use Rattle.hm_model.specs.Undo.{Undoable, stack}
use Rattle.hm_model.specs.Wanted.{wanted_of}
use Rattle.hm_model.specs.Whereabouts.{crashed_in, moved_by}
use Rattle.hm_model.proofs.Rows.{read_alike}
use Rattle.hm_model.proofs.UndoMakes.{AllThere, stacked_all}
use Rattle.hm_rebase.specs.Alike.{Alike}
use Rattle.hm_rebase.proofs.Bounds.{above_base}
use Rattle.hm_rebase.proofs.Readings.{ends_same, root_sheets, row_same, sheet_by_same, undoes_same}
use Rattle.hm_rebase.proofs.Seen.{AreOnePlace, Sees, answer_same, failed_one, picks_same, server_one}
use Rattle.hm_rebase.proofs.Servers.{has_other_same, on_same, place_told_same, sees_fenced_same}

undo_sees : (latest : Undoable) (its : Node) (at to : StepIn) → Sees at to → Sees (undo_input latest its at) (undo_input latest its to)
undo_sees latest its at to s = record {
  pid = refl;
  root = s.root;
  kind = refl;
  row = refl;
  args = refl;
  tries = s.tries;
  rows = s.rows;
  ends = s.ends;
  report = s.report;
  place = s.place;
  fenced = s.fenced;
  on_server = s.on_server;
  pick = s.pick;
  aborted = s.aborted;
  turn = refl;
}

module _ (J K : Past) (legal_J : IsLegal J) (legal_K : IsLegal K) (alike : Alike J K) where
  step_sees : (p : ℕ) (node : Node) (pick : Option Server) → offset K < p → Sees (step_input J p node pick) (step_input K p node pick)
  step_sees p node pick high =
      let s = alike.same p high in
      record {
        pid = refl;
        root = refl;
        kind = refl;
        row = row_same J K legal_J legal_K alike p node high;
        args = refl;
        tries = s.tries;
        rows = read_alike J K node.args (λ key on. alike.rows key);
        ends = ends_same J K legal_J legal_K alike p high;
        report = s.report;
        place = place_told_same J K alike (moved_by node.args);
        fenced = sees_fenced_same J K alike node.args;
        on_server = on_same J K alike (crashed_in node.args);
        pick = refl;
        aborted = s.aborted;
        turn = refl;
      }

  turned_sees : (p : ℕ) (b : Bool) (steps : List Undoable) → AllThere K p steps → (at to : StepIn) → Sees at to → Sees (turn_input J b steps at) (turn_input K b steps to)
  turned_sees p false steps there at to s = s
  turned_sees p true [] there at to s = s
  turned_sees p true (latest ∷ below) there at to s =
      let its = there.0.0 in
      let high = above_base K legal_K latest.pid its there.0.1 in
      subst (λ o. Sees (elim o as (λ n. StepIn) [ None ↦ at | Some x ↦ undo_input latest x at ]) (latest_input K (latest ∷ below) to)) (sym ((alike.same latest.pid high).node ∙ there.0.1))
      (subst (λ o. Sees (undo_input latest its at) (elim o as (λ n. StepIn) [ None ↦ to | Some x ↦ undo_input latest x to ])) (sym there.0.1) (undo_sees latest its at to s))

  pub input_sees : (p : ℕ) (node : Node) (pick : Option Server) → offset K < p → Sees (input J p node pick) (input K p node pick)
  input_sees p node pick high =
      subst (λ b. Sees (turn_input J b (stack J p) (step_input J p node pick)) (input K p node pick)) (sym (undoes_same J K legal_J legal_K alike p node high))
      (subst (λ l. Sees (turn_input J (undoes K p node) l (step_input J p node pick)) (input K p node pick)) (sym (alike.same p high).left)
      (turned_sees p (undoes K p node) (stack K p) (stacked_all K legal_K p) (step_input J p node pick) (step_input K p node pick) (step_sees p node pick high)))

  -- whose handler is called is the same in both
  input_high : (p : ℕ) (b : Bool) (steps : List Undoable) → AllThere K p steps → (to : StepIn) → offset K < to.pid.0 → offset K < (turn_input K b steps to).pid.0
  input_high p false steps there to high = high
  input_high p true [] there to high = high
  input_high p true (latest ∷ below) there to high =
      let its = there.0.0 in
      subst (λ o. offset K < (elim o as (λ n. StepIn) [ None ↦ to | Some x ↦ undo_input latest x to ]).pid.0) (sym there.0.1) (above_base K legal_K latest.pid its there.0.1)

  pub answers_same : (p : ℕ) (node : Node) (pick : Option Server) → node_of J p ≡ Some node → offset K < p → offset K < node.root → answers J p node pick ≡ answers K p node pick
  answers_same p node pick is high above =
      ap (λ l. answer_of l (input J p node pick)) (root_sheets J K legal_J legal_K alike p node is above)
      ∙ answer_same (sheets_by K node.root) (input J p node pick) (input K p node pick) (input_sees p node pick high)

  pub needs_same : (p : ℕ) (node : Node) → offset K < p → needs_server J p node ≡ needs_server K p node
  needs_same p node high = by (input J p node None) (input K p node None) (input_sees p node None high) (input_high p (undoes K p node) (stack K p) (stacked_all K legal_K p) (step_input K p node None) high)
    where
      by : (at to : StepIn) → Sees at to → offset K < to.pid.0 → picks_by (sheet_at J at) at ≡ picks_by (sheet_at K to) to
      by at to s up =
          ap (λ (i : Pid). picks_by (sheet_by J i.0) at) s.pid
          ∙ ap (λ sheet. picks_by sheet at) (sheet_by_same J K legal_J legal_K alike to.pid.0 up)
          ∙ picks_same (sheet_by K to.pid.0) at to s

  wanted_same : (wanted : Option Server) (tries : ℕ) (server : Server) → is_as_wanted J wanted tries server ≡ is_as_wanted K wanted tries server
  wanted_same None tries server = refl
  wanted_same (Some other) tries server = ap (λ b. not (tries == 0) || (not b || same_server server other)) (alike.live other)

  another_same : (one other : Place) (server : Server) → AreOnePlace one other → is_another J one server ≡ is_another K other server
  another_same one other server h =
      ap (λ b. not b || (not (is_the_server server one.server) || not (has_other_live J server))) (failed_one one other h)
      ∙ ap (λ s. not (is_state place_is.FailedOpen other) || (not (is_the_server server s) || not (has_other_live J server))) (server_one one other h)
      ∙ ap (λ b. not (is_state place_is.FailedOpen other) || (not (is_the_server server other.server) || not b)) (has_other_same J K alike server)

  pub fits_same : (p : ℕ) (node : Node) (server : Server) → offset K < p → pick_fits J p node server ≡ pick_fits K p node server
  fits_same p node server high = by (input J p node None) (input K p node None) (input_sees p node None high)
    where
      by : (at to : StepIn) → Sees at to → fits_input J at server ≡ fits_input K to server
      by at to s =
          ap (λ b. b && (is_as_wanted J (wanted_of at.args) at.tries server && is_another J (told_place at.place) server)) (alike.live server)
          ∙ ap (λ a. is_live K server && (is_as_wanted J (wanted_of a) at.tries server && is_another J (told_place at.place) server)) s.args
          ∙ ap (λ n. is_live K server && (is_as_wanted J (wanted_of to.args) n server && is_another J (told_place at.place) server)) s.tries
          ∙ ap (λ b. is_live K server && (b && is_another J (told_place at.place) server)) (wanted_same (wanted_of to.args) to.tries server)
          ∙ ap (λ b. is_live K server && (is_as_wanted K (wanted_of to.args) to.tries server && b)) (another_same (told_place at.place) (told_place to.place) server s.place)

  pub right_same : (p : ℕ) (node : Node) (pick : Option Server) → offset K < p → is_pick_right J p node pick (needs_server J p node) ≡ is_pick_right K p node pick (needs_server K p node)
  right_same p node None high = ap not (needs_same p node high)
  right_same p node (Some server) high = ap (λ b. b && pick_fits J p node server) (needs_same p node high) ∙ ap (λ b. needs_server K p node && b) (fits_same p node server high)
