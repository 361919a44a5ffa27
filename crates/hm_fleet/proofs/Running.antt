-- Who runs, after a change of the server at one place.
use Rattle.std.proofs.Common.{◌≡◌, ℕ, ◌<◌, List, length, Option, Some, None, Bool, true, false, if◌then◌else◌, get_or, set, refl, ap, sym, ◌∙◌, inl, inr}
use Rattle.std.proofs.Math.Path.{fun_ext}
use Rattle.std.proofs.lemmas.Bool.{cases_eq}
use Rattle.std.proofs.lemmas.List.{get_or-set_other, get_or-set_same, get_or_read}
use Rattle.std.proofs.lemmas.Option.{none-some, same_Some}
use Rattle.std.specs.declared.cmp.Ordering.{Ordering}
use Rattle.std.specs.declared.cmp.Ordering.TheVariants.{Less, Equal, Greater}
use Rattle.hm_names.specs.Region.{Region}
use Rattle.hm_names.specs.Server.{Server}
use Rattle.hm_data.specs.declared.call.Call.{Call}
use Rattle.hm_data.specs.declared.call.Verb.{Verb}
use Rattle.hm_data.specs.declared.call.Verb.TheVariants as verb_is
use Rattle.hm_index.specs.Index.{find}
use Rattle.hm_model.specs.Actors.{Actor, Service, age, closing, opening, serve, serve_by, serve_verb}
use Rattle.hm_model.specs.Fleet.{same_server}
use Rattle.hm_model.proofs.NameTies.{same_server-is}
use Rattle.hm_server.specs.Actors.{ActorView, IsActor, actor_of}
use Rattle.hm_world_model.specs.Outside.{behind_call, set_actor}
use Rattle.hm_fleet.specs.Crew.{actors_in, address_cmp, address_of, running, slot_at}
use Rattle.hm_fleet.specs.declared.address.Address.{Address}
use Rattle.hm_fleet.proofs.Alike.{actor_is}

-- the server at a place, after a change that leaves its name
pub changed_slot : (old new : ActorView) (server : Server) → same_server old.name server ≡ true → new.name ≡ old.name
    → running (Some new) ≡ set_actor (running (Some old)) server (Some (actor_of new))
changed_slot old new server on name = fun_ext (λ other.
    ap (λ n. if same_server n other then Some (actor_of new) else None) (name ∙ is)
    ∙ by other (same_server server other)
    ∙ ap (λ n. if same_server server other then Some (actor_of new) else (if same_server n other then Some (actor_of old) else None)) (sym is))
  where
    is : old.name ≡ server
    is = same_server-is old.name server on

    by : (other : Server) (b : Bool) → (if b then Some (actor_of new) else None) ≡ (if b then Some (actor_of new) else (if b then Some (actor_of old) else None))
    by other true = refl
    by other false = refl

-- serving leaves a name
serve_name : (actor : Actor) (call : Call) → (let after = (serve actor call).0 in after.name) ≡ actor.name
serve_name actor call = by call.verb
  where
    by_age : (o : Ordering) (region : Region) (service : Service) → (let after = (serve_by o actor call.id region service).0 in after.name) ≡ actor.name
    by_age Less region service = refl
    by_age Equal region service = refl
    by_age Greater region service = refl

    by : (verb : Verb) → (let after = (serve_verb actor call.id verb).0 in after.name) ≡ actor.name
    by (verb_is.AssignRegion region) = by_age (age (actor.last region) call.id) region (opening actor region)
    by (verb_is.CloseRegion region) = by_age (age (actor.last region) call.id) region (closing actor)
    by (verb_is.Fence server) = refl
    by (verb_is.Layout root) = refl
    by (verb_is.Sweep root) = refl

pub served_slot : (slot : Option ActorView) (old new : ActorView) (server : Server) (call : Call) → slot ≡ Some old → same_server old.name server ≡ true
    → IsActor (serve (actor_of old) call).0 (actor_of new) → running (Some new) ≡ set_actor (running slot) server (behind_call (running slot server) call)
served_slot slot old new server call at on serves =
    changed_slot old new server on (sym serves.name ∙ serve_name (actor_of old) call)
    ∙ ap (λ a. set_actor (running (Some old)) server (Some a)) (sym (actor_is (serve (actor_of old) call).0 (actor_of new) serves))
    ∙ ap (λ b. set_actor (running (Some old)) server (behind_call (if b then Some (actor_of old) else None) call)) (sym on)
    ∙ ap (λ s. set_actor (running s) server (behind_call (running s server) call)) (sym at)

-- a server at its place, and all who run
pub changed_crew : (places : List (Address × ℕ)) (slots : List (Option ActorView)) (server : Server) (place : ℕ) (slot : Option ActorView) (actor : Option Actor)
    → find address_cmp places (address_of server) ≡ Some place → place < length slots → running slot ≡ set_actor (running (get_or slots place None)) server actor
    → actors_in places (set slots place slot) ≡ set_actor (actors_in places slots) server actor
changed_crew places slots server place slot actor found within sets = fun_ext (λ other. by other (find address_cmp places (address_of other)) refl)
  where
    at_its_place : (other : Server) (at : Option ℕ) → find address_cmp places (address_of other) ≡ at → same_server server other ≡ true → at ≡ Some place
    at_its_place other at e on = sym e ∙ ap (λ s. find address_cmp places (address_of s)) (sym (same_server-is server other on)) ∙ found

    off : (other : Server) (at : Option ℕ) (there : Option Actor) → (at ≡ Some place → ⊥) → find address_cmp places (address_of other) ≡ at → (b : Bool) → same_server server other ≡ b → there ≡ (if b then actor else there)
    off other at there apart e true on = absurd (apart (at_its_place other at e on))
    off other at there apart e false on = refl

    by : (other : Server) (at : Option ℕ) → find address_cmp places (address_of other) ≡ at → running (slot_at (set slots place slot) at) other ≡ (if same_server server other then actor else running (slot_at slots at) other)
    by other None e = off other None None (λ is. none-some place is) e (same_server server other) refl
    by other (Some q) e = elim (cases_eq q place) [
      | inl same ↦ ap (λ p. running (get_or (set slots place slot) p None) other) same ∙ ap (λ s. running s other) (get_or-set_same slots place slot None within)
          ∙ ap (λ f. f other) sets ∙ ap (λ p. if same_server server other then actor else running (get_or slots p None) other) (sym same)
      | inr differs ↦ ap (λ s. running s other) (get_or-set_other slots place q slot None differs)
          ∙ off other (Some q) (running (get_or slots q None) other) (λ is. differs (same_Some q place is)) e (same_server server other) refl
    ]

-- the server at its place, as it is read there
pub at_place : (places : List (Address × ℕ)) (slots : List (Option ActorView)) (server : Server) (place : ℕ) (slot : Option ActorView)
    → find address_cmp places (address_of server) ≡ Some place → place < length slots → slot ≡ get_or slots place slot → running slot server ≡ actors_in places slots server
at_place places slots server place slot found within read =
    ap (λ s. running s server) (get_or_read slots place slot within read None) ∙ ap (λ at. running (slot_at slots at) server) (sym found)

-- and a server that becomes another one there
pub becomes_at : (places : List (Address × ℕ)) (slots : List (Option ActorView)) (server : Server) (place : ℕ) (old new : Option ActorView) (becomes : Option Actor → Option Actor)
    → find address_cmp places (address_of server) ≡ Some place → place < length slots → old ≡ get_or slots place old → running new ≡ set_actor (running old) server (becomes (running old server))
    → actors_in places (set slots place new) ≡ set_actor (actors_in places slots) server (becomes (actors_in places slots server))
becomes_at places slots server place old new becomes found within read sets =
    changed_crew places slots server place new (becomes (running old server)) found within
    (sets ∙ ap (λ s. set_actor (running s) server (becomes (running old server))) (get_or_read slots place old within read None))
    ∙ ap (λ a. set_actor (actors_in places slots) server (becomes a)) (at_place places slots server place old found within read)
