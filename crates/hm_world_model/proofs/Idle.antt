-- Where nothing is left to carry each call to who runs is settled, so nothing is unfinished where nothing can go on.
use Rattle.std.proofs.Common.{◌≡◌, ℕ, ◌+◌, ◌<◌, List, [], ◌∷◌, length, not, ◌==◌, ◌||◌, true, false, Option, Some, None, refl, ap, sym, ◌∙◌, inl, inr, arith}
use Rattle.std.specs.List.{list_any}
use Rattle.std.proofs.lemmas.Bool.{and_from, cases_Bool, not_from_false}
use Rattle.std.proofs.lemmas.Option.{none-some}
use Rattle.hm_names.specs.Server.{Server}
use Rattle.hm_data.specs.declared.call.Peer.{Peer}
use Rattle.hm_data.specs.declared.call.Peer.TheVariants as peer_is
use Rattle.hm_model.specs.Fleet.{is_live}
use Rattle.hm_model.specs.Reports.{is_settled, peer_if, peer_of, verb_of}
use Rattle.hm_model.specs.Tree.{Node, made, node_of}
use Rattle.hm_model.proofs.Counting.{count_some}
use Rattle.hm_model.proofs.Trees.{grown_all, is_there}
use Rattle.hm_world_model.specs.Measure.{is_to_send, left_to_carry, runs_if, travels}
use Rattle.hm_world_model.specs.Outside.{runs}
use Rattle.hm_world_model.specs.Rest.{CallsAreSettled, IdleIsEnded, can_answer}
use Rattle.hm_world_model.specs.Safe.{IsKept}
use Rattle.hm_world_model.specs.World.{World}
use Rattle.hm_world_model.proofs.Resting.{still_ended}
use Rattle.hm_world_model.proofs.Tails.{safe_past}

empty_is : {A : Type 0} (list : List A) → length list ≡ 0 → list ≡ []
empty_is [] h = refl
empty_is (x ∷ list) h = absurd (never x list h)
  where
    never : {A : Type 0} (x : A) (list : List A) → length (x ∷ list) ≡ 0 → ⊥
    never x list h = omega (arith, h)

module _ (w : World) (kept : IsKept w) (run : (server : Server) → is_live w.past server ≡ true → runs w.outside (peer_is.Server server) ≡ true) (carried : left_to_carry w ≡ 0) where
  nothing_travels : (p : ℕ) → travels w p ≡ false
  nothing_travels p =
      let wire : w.wire ≡ [] = empty_is w.wire (omega (arith, carried)) in
      let waiting : w.waiting ≡ [] = empty_is w.waiting (omega (arith, carried)) in
      ap (λ l. list_any (λ call. call.id.0 == p) l || list_any (λ report. report.call.0 == p) w.waiting) wire ∙ ap (list_any (λ report. report.call.0 == p)) waiting

  made_call : (p : ℕ) (peer : Peer) → peer_of w.past p ≡ Some peer → p < made w.past + 1
  made_call p peer to = by (node_of w.past p) refl
    where
      by : (o : Option Node) → node_of w.past p ≡ o → p < made w.past + 1
      by None e = absurd (none-some peer (sym (ap (λ n. peer_if n (verb_of w.past p)) e) ∙ to))
      by (Some node) e = (let le = is_there w.past (grown_all w.past (safe_past w kept).legal) p node e in omega (arith, le))

  runs_there : (peer : Peer) → can_answer w.past peer ≡ true → runs w.outside peer ≡ true
  runs_there (peer_is.Server s) h = run s h
  runs_there peer_is.Storage h = refl

  all_settled : CallsAreSettled w.past
  all_settled p peer to there = elim (cases_Bool (is_settled w.past p)) [
    | inl settled ↦ settled
    | inr unsettled ↦ (
        let on : is_to_send w p ≡ true = and_from (runs_if w.outside (peer_of w.past p)) _ (ap (runs_if w.outside) to ∙ runs_there peer there) (and_from (not (is_settled w.past p)) (not (travels w p)) (not_from_false (is_settled w.past p) unsettled) (not_from_false (travels w p) (nothing_travels p))) in
        let some = count_some (made w.past + 1) (is_to_send w) p (made_call p peer to) on in
        absurd (omega (arith, some, carried))
        )
  ]

pub idle_ended : IdleIsEnded
idle_ended w kept live run carried still = still_ended w.past (safe_past w kept).legal live (all_settled w kept run carried) still
