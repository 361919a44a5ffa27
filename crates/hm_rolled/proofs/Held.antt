-- Where a region may be held there is its place, and without a new call it is held only where the base has it open.
use Rattle.std.proofs.Common.{◌≡◌, ℕ, ◌≤◌, true, Option, Some, None, refl, ap, sym, ◌∙◌, subst, inl, inr, arith}
use Rattle.std.proofs.lemmas.Bool.{and_parts, false≢true, true≢false}
use Rattle.std.proofs.lemmas.Option.{none-some}
use Rattle.hm_names.specs.Region.{Region}
use Rattle.hm_names.specs.Server.{Server}
use Rattle.hm_data.specs.declared.answer.Answer.{Answer}
use Rattle.hm_data.specs.declared.answer.Answer.TheVariants as answer_is
use Rattle.hm_data.specs.declared.args.Args.{Args}
use Rattle.hm_data.specs.declared.args.Args.TheVariants as args_are
use Rattle.hm_data.specs.declared.place.RegionState.{RegionState}
use Rattle.hm_data.specs.declared.place.RegionState.TheVariants as place_is
use Rattle.hm_model.specs.Actors.{Actor, holds}
use Rattle.hm_model.specs.Answers.{last_answer}
use Rattle.hm_model.specs.Fleet.{same_server}
use Rattle.hm_model.specs.Journal.{Past}
use Rattle.hm_model.specs.Places.{is_at, is_the_server, place_of}
use Rattle.hm_model.specs.Procedures.{offset}
use Rattle.hm_model.specs.Reports.{last_call}
use Rattle.hm_model.specs.Rules.{IsLegal}
use Rattle.hm_model.specs.Single.{IsBasedAt}
use Rattle.hm_model.specs.TransitActs.{is_placed, is_state}
use Rattle.hm_model.specs.Tree.{Node, node_of}
use Rattle.hm_model.proofs.NameTies.{same_server-is}
use Rattle.hm_model.proofs.Trees.{grown_all, le_or_lt}
use Rattle.hm_rebase.specs.Alike.{Alike}
use Rattle.hm_rebase.proofs.Rebased.{alike_places}
use Rattle.hm_single.specs.Calls.{IsOpenedBy, IsVoid}
use Rattle.hm_single.proofs.All.{kept_all}
use Rattle.hm_single.proofs.Kept.{IsGoing}
use Rattle.hm_single.proofs.Kin.{goes_holds}
use Rattle.hm_single.proofs.Stage.{StageFor, child_of_step, work_of}
use Rattle.hm_single.proofs.Transit.{AtRest, AtRow, CallIs, Calls, IsRest, at_place}
use Rattle.hm_world_model.specs.Outside.{Outside}
use Rattle.hm_world_model.specs.Points.{MayHold}
use Rattle.hm_world_model.specs.Safe.{Runs, Safe}
use Rattle.hm_world_model.proofs.Appending.{void_held}
use Rattle.hm_world_model.proofs.Points.{held_at, points}
use Rattle.hm_rolled.proofs.Calls.{last_on}

-- where a region may be held there is its place: one whose place is idle may be held nowhere
pub placed_own : (J K : Past) (o : Outside) → Safe J o → Alike J K → (r : Region) (s : Server) (a : Actor) → Runs J o s a → MayHold J a r s → is_at s (place_of K r) ≡ true
placed_own J K o safe alike r s a run may = elim (alike.places r) [
  | inl same ↦ subst (λ place. is_at s place ≡ true) same at
  | inr forgotten ↦ absurd (true≢false (sym (and_parts (is_placed (place_of J r)) (is_the_server s (place_of J r).server) at).0 ∙ forgotten.one.unplaced))
]
  where
    at : is_at s (place_of J r) ≡ true
    at = (let all = points J o safe in let holders = all.holders in holders.placed r s a run may)

module _ (J K : Past) (o : Outside) (safe : Safe J o) (legal : IsLegal K) (alike : Alike J K) (r : Region) (s : Server) (a : Actor) (none : last_call K r ≡ None) (run : Runs J o s a) (held : holds a r ≡ true) where
  same_place : place_of J r ≡ place_of K r
  same_place =
      let live = held_at J o safe r s a run held in
      alike_places J K alike r (λ gone. none-some _ (sym gone ∙ live.1.1))

  at_place_of : is_at s (place_of K r) ≡ true
  at_place_of = placed_own J K o safe alike r s a run (inl held)

  -- the last call of its history opened it, and is of a procedure that has ended
  not_void : IsVoid J r (last_call J r) → ⊥
  not_void void = void_held J o safe r s a run void (safe.servers.held r s a run held)

  old_call : (q : ℕ) → last_call J r ≡ Some q → q ≤ offset K
  old_call q last = elim (le_or_lt q (offset K)) [
    | inl le ↦ le
    | inr high ↦ absurd (none-some q (sym none ∙ last_on J K safe.legal legal alike r q last high))
  ]

  -- so it wasn't made by a transit that goes on
  module _ (p : ℕ) (works : work_of J r ≡ Some p) (goes : IsGoing (last_answer J p)) where
    busy : (q : ℕ) (args : Args) → CallIs p (node_of J q) args → last_call J r ≡ Some q → ⊥
    busy q args child last =
        let kept = kept_all J safe.legal in
        let grown = grown_all J safe.legal in
        let moves = (kept.worker p r works).0 in
        let holds_on = goes_holds J grown kept p r moves goes in
        let below = grown.later q child.0 child.1 p child.3.0 child.3.1 in
        let old = old_call q last in
        true≢false (sym (alike.over p moves.0 (omega (arith, below, old)) moves.1) ∙ holds_on.1)

    calls_opening : (q : ℕ) (args : Args) (t : Server) → CallIs p (node_of J q) args → (answer : Option Answer) → Calls J q t (last_call J r) (IsVoid J r (last_call J r)) answer → ⊥
    calls_opening q args t child None h = not_void h.0
    calls_opening q args t child (Some (answer_is.More n)) h = h
    calls_opening q args t child (Some (answer_is.Wait n)) h = h
    calls_opening q args t child (Some (answer_is.Await n)) h = busy q args child h.0
    calls_opening q args t child (Some (answer_is.Done told)) (inl h) = elim h.2 [ inl void ↦ not_void void | inr call ↦ busy q args child call.0 ]
    calls_opening q args t child (Some (answer_is.Done told)) (inr h) = busy q args child h.0.0
    calls_opening q args t child (Some (answer_is.Fail cause)) h = h
    calls_opening q args t child (Some answer_is.Undone) h = h

  -- it isn't being opened
  module _ (t : Server) (opening : place_of J r ≡ at_place place_is.Opening t) where
    rest_opening : IsRest J r (last_call J r) (place_of J r) → ⊥
    rest_opening rest = subst (IsRest J r (last_call J r)) opening rest

    not_closing : (u : Server) → place_of J r ≡ at_place place_is.Closing u → ⊥
    not_closing u closing = false≢true (ap (is_state place_is.Opening) (sym closing ∙ opening))

    row_opening : (p : ℕ) → work_of J r ≡ Some p → (was : Option Answer) → last_answer J p ≡ was → (q : ℕ) (answer : Option Answer) → AtRow J p r (place_of J r) (last_call J r) was q (node_of J q) answer → ⊥
    row_opening p works None is q answer h = rest_opening h
    row_opening p works (Some (answer_is.More n)) is q answer (inl h) = rest_opening h.1
    row_opening p works (Some (answer_is.More n)) is q answer (inr h) = not_void h.3
    row_opening p works (Some (answer_is.Wait n)) is q answer (inl h) = calls_opening p works (subst IsGoing (sym is) tt) q (args_are.AssignCall r h.1) h.1 h.3 answer h.4
    row_opening p works (Some (answer_is.Wait n)) is q answer (inr h) = not_closing h.1 h.2
    row_opening p works (Some (answer_is.Await n)) is q answer h = h
    row_opening p works (Some (answer_is.Done told)) is q answer h = rest_opening h
    row_opening p works (Some (answer_is.Fail cause)) is q answer h = rest_opening h
    row_opening p works (Some answer_is.Undone) is q answer h = h

    not_opening : ⊥
    not_opening = by (work_of J r) refl ((kept_all J safe.legal).stage r)
      where
        by : (w : Option ℕ) → work_of J r ≡ w → StageFor J r w → ⊥
        by None is h = rest_opening h
        by (Some p) is h = row_opening p is (last_answer J p) refl (child_of_step J p) (last_answer J (child_of_step J p)) h

  -- without a call it was opened by the base
  opened_based : (t : Server) → IsOpenedBy K r (last_call K r) t → IsBasedAt K r t
  opened_based t (inl call) = absurd (none-some call.0 (sym none ∙ call.1))
  opened_based t (inr base) = base.1

  own_server : (server : Option Server) (t : Server) → server ≡ Some t → is_the_server s server ≡ true → s ≡ t
  own_server server t is h = same_server-is s t (subst (λ x. is_the_server s x ≡ true) is h)

  rest_based : (state : RegionState) (server : Option Server) → AtRest K r (last_call K r) state server → is_at s (record { state = state; server = server }) ≡ true → IsBasedAt K r s
  rest_based place_is.Opening server rest h = absurd rest
  rest_based place_is.Opened server rest h = subst (IsBasedAt K r) (sym (own_server server rest.0 rest.1 h)) (opened_based rest.0 rest.2)
  rest_based place_is.Closing server rest h = absurd rest
  rest_based state server rest h = absurd (false≢true h)

  closing_based : (q : ℕ) (t : Server) (answer : Option Answer) → Calls K q t (last_call K r) (IsOpenedBy K r (last_call K r) t) answer → IsBasedAt K r t
  closing_based q t None h = opened_based t h.0
  closing_based q t (Some (answer_is.More n)) h = absurd h
  closing_based q t (Some (answer_is.Wait n)) h = absurd h
  closing_based q t (Some (answer_is.Await n)) h = absurd (none-some q (sym none ∙ h.0))
  closing_based q t (Some (answer_is.Done told)) (inl h) = elim h.2 [ inl was ↦ opened_based t was | inr call ↦ absurd (none-some q (sym none ∙ call.0)) ]
  closing_based q t (Some (answer_is.Done told)) (inr h) = absurd (none-some q (sym none ∙ h.0.0))
  closing_based q t (Some (answer_is.Fail cause)) h = absurd h
  closing_based q t (Some answer_is.Undone) h = absurd h

  at_server_of : (state : RegionState) (t : Server) → place_of K r ≡ at_place state t → s ≡ t
  at_server_of state t is = own_server (Some t) t refl (and_parts (is_placed (at_place state t)) (same_server s t) (ap (is_at s) (sym is) ∙ at_place_of)).1

  row_based : (p : ℕ) (was : Option Answer) (q : ℕ) (made : Option Node) (answer : Option Answer) → AtRow K p r (place_of K r) (last_call K r) was q made answer → IsBasedAt K r s
  row_based p None q made answer h = rest_based (place_of K r).state (place_of K r).server h at_place_of
  row_based p (Some (answer_is.More n)) q made answer (inl h) = rest_based (place_of K r).state (place_of K r).server h.1 at_place_of
  row_based p (Some (answer_is.More n)) q made answer (inr h) = absurd (not_opening h.1 (same_place ∙ h.2))
  row_based p (Some (answer_is.Wait n)) q made answer (inl h) = absurd (not_opening h.1 (same_place ∙ h.2))
  row_based p (Some (answer_is.Wait n)) q made answer (inr h) = subst (IsBasedAt K r) (sym (at_server_of place_is.Closing h.1 h.2)) (closing_based q h.1 answer h.4)
  row_based p (Some (answer_is.Await n)) q made answer h = absurd h
  row_based p (Some (answer_is.Done told)) q made answer h = rest_based (place_of K r).state (place_of K r).server h at_place_of
  row_based p (Some (answer_is.Fail cause)) q made answer h = rest_based (place_of K r).state (place_of K r).server h at_place_of
  row_based p (Some answer_is.Undone) q made answer h = absurd h

  pub held_based : IsBasedAt K r s
  held_based = by (work_of K r) ((kept_all K legal).stage r)
    where
      by : (w : Option ℕ) → StageFor K r w → IsBasedAt K r s
      by None h = rest_based (place_of K r).state (place_of K r).server h at_place_of
      by (Some p) h = row_based p (last_answer K p) (child_of_step K p) (node_of K (child_of_step K p)) (last_answer K (child_of_step K p)) h
