-- A region that is open at a server which runs is held there.
use Rattle.std.proofs.Common.{◌≡◌, ℕ, ◌<◌, ◌≤◌, true, Some, ap, sym, ◌∙◌, subst, inl, inr, ◌⊎◌, arith}
use Rattle.std.proofs.lemmas.Option.{same_Some}
use Rattle.hm_names.specs.Region.{Region}
use Rattle.hm_names.specs.Server.{Server}
use Rattle.hm_data.specs.declared.call.Peer.TheVariants as peer_is
use Rattle.hm_data.specs.declared.call.Told.TheVariants as told_is
use Rattle.hm_data.specs.declared.call.Verb.{Verb}
use Rattle.hm_model.specs.Actors.{Actor, Served, holds, holds_if}
use Rattle.hm_model.specs.Answers.{report_of}
use Rattle.hm_model.specs.Base.{HasNoHalfBase}
use Rattle.hm_model.specs.Journal.{Past}
use Rattle.hm_model.specs.Reports.{last_call, peer_of, region_called, verb_of}
use Rattle.hm_single.specs.Calls.{IsOpenedBy}
use Rattle.hm_single.proofs.All.{last_is_recorded}
use Rattle.hm_single.proofs.Placed.{opened_told}
use Rattle.hm_world_model.specs.Held.{OpenedAreHeld}
use Rattle.hm_world_model.specs.Outside.{Outside}
use Rattle.hm_world_model.specs.Safe.{Safe}
use Rattle.hm_world_model.proofs.Progress.{earlier_ended}
use Rattle.hm_world_model.proofs.Facts.{about_called}

module _ (J : Past) (o : Outside) (safe : Safe J o) (region : Region) (server : Server) (actor : Actor) (run : o.actors server ≡ Some actor) where
  -- what the last call opened there, it holds
  held_by : (p : ℕ) → last_call J region ≡ Some p → peer_of J p ≡ Some (peer_is.Server server) → report_of J p ≡ Some told_is.Opened → holds actor region ≡ true
  held_by p last peer opened = by told.2
    where
      verb : (v : Verb) × (verb_of J p ≡ Some v) × (region_called v ≡ Some region)
      verb = about_called region (verb_of J p) (last_is_recorded J safe.legal region p last)

      told : (last : Served) × (actor.last region ≡ Some last) × ((p < last.id.0) ⊎ ((p ≡ last.id.0) × (told_is.Opened ≡ last.told)))
      told = (safe.calls.recorded p told_is.Opened opened).told_by region server (verb.0, verb.1, verb.2, peer) actor run

      latest : told.0.id.0 ≤ p
      latest =
          let earlier = earlier_ended J safe.legal told.0.id.0 region server (safe.servers.served_is server actor region told.0 run told.1).0 in
          let same : earlier.0 ≡ p = same_Some earlier.0 p (sym earlier.1 ∙ last) in
          subst (λ n. told.0.id.0 ≤ n) same earlier.2

      by : (p < told.0.id.0) ⊎ ((p ≡ told.0.id.0) × (told_is.Opened ≡ told.0.told)) → holds actor region ≡ true
      by (inl less) = let most = latest in absurd (omega (arith, less, most))
      by (inr own) = ap holds_if told.1 ∙ safe.servers.opened_is server actor region told.0 run told.1 (sym own.1)

  open_by : HasNoHalfBase J → IsOpenedBy J region (last_call J region) server → holds actor region ≡ true
  open_by whole (inl call) = held_by call.0 call.1 call.2 call.3
  open_by whole (inr base) = absurd (safe.servers.unbased whole region server actor run base.1)

pub opened_held : OpenedAreHeld
opened_held J o safe whole region server actor opened at run =
    let found = opened_told J safe.legal region opened in
    open_by J o safe region server actor run whole (subst (IsOpenedBy J region (last_call J region)) (same_Some found.0 server (sym found.1 ∙ at)) found.2)
