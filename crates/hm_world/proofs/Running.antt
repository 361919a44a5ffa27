-- Who runs after what happens outside.
use Rattle.std.proofs.Common.{◌≡◌, ◌⊎◌, ℕ, Bool, true, false, if◌then◌else◌, is_some, None, Option, Some, refl, sym, ap, ◌∙◌, inl, inr, subst}
use Rattle.std.specs.Option.{option_map}
use Rattle.std.proofs.lemmas.Bool.{false≢true}
use Rattle.hm_names.specs.Server.{Server}
use Rattle.hm_data.specs.declared.call.Peer.{Peer}
use Rattle.hm_data.specs.declared.call.Peer.TheVariants as peer_is
use Rattle.hm_model.specs.Actors.{Actor, begun}
use Rattle.hm_model.specs.Fleet.{same_address, same_server}
use Rattle.hm_world_model.specs.Outside.{Outside, armed, died, refusing, runs, started}
use Rattle.hm_world_model.proofs.Facts.{cases_server}

-- nobody runs who didn't, after a death
pub died_runs : (o : Outside) (server : Server) (peer : Peer) → runs (died o server) peer ≡ true → runs o peer ≡ true
died_runs o server (peer_is.Server other) on = by (same_server server other) on
  where
    by : (b : Bool) → is_some (if b then None else o.actors other) ≡ true → is_some (o.actors other) ≡ true
    by true on = absurd (false≢true on)
    by false on = on
died_runs o server peer_is.Storage on = on

-- and who is to refuse runs as before
pub armed_runs : (o : Outside) (to : Peer) (count : ℕ) (peer : Peer) → runs (armed o to count) peer ≡ true → runs o peer ≡ true
armed_runs o (peer_is.Server server) count (peer_is.Server other) on = elim (cases_server server other) [
  | inl same ↦ subst (λ s. is_some (o.actors s) ≡ true) same.1 (mapped (o.actors server) (sym (ap (λ b. is_some (if b then option_map (refusing count) (o.actors server) else o.actors other)) same.0) ∙ on))
  | inr differs ↦ sym (ap (λ b. is_some (if b then option_map (refusing count) (o.actors server) else o.actors other)) differs.0) ∙ on
]
  where
    mapped : (x : Option Actor) → is_some (option_map (refusing count) x) ≡ true → is_some x ≡ true
    mapped None on = on
    mapped (Some actor) on = refl
armed_runs o (peer_is.Server server) count peer_is.Storage on = on
armed_runs o peer_is.Storage count (peer_is.Server other) on = on
armed_runs o peer_is.Storage count peer_is.Storage on = on

-- after a start it is the one that started, or ran before
pub started_runs : (o : Outside) (server : Server) (peer : Peer) → runs (started o server) peer ≡ true → (peer ≡ peer_is.Server server) ⊎ (runs o peer ≡ true)
started_runs o server (peer_is.Server other) on = elim (cases_server server other) [
  | inl same ↦ inl (ap peer_is.Server (sym same.1))
  | inr differs ↦ inr (by (same_address server other) (sym (ap (λ b. is_some (if b then Some (begun server) else (if same_address server other then None else o.actors other))) differs.0) ∙ on))
]
  where
    by : (b : Bool) → is_some (if b then None else o.actors other) ≡ true → is_some (o.actors other) ≡ true
    by true on = absurd (false≢true on)
    by false on = on
started_runs o server peer_is.Storage on = inr on
