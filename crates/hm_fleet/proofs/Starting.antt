-- Who runs, and where, after a start.
use Rattle.std.proofs.Common.{◌≡◌, ℕ, ◌<◌, List, [], ◌∷◌, ◌++◌, length, Option, Some, None, Bool, true, false, if◌then◌else◌, set, refl, ap, sym, ◌∙◌, inl, inr, arith, length-append}
use Rattle.std.proofs.Math.ListN.{length-set}
use Rattle.std.proofs.Math.Path.{fun_ext}
use Rattle.std.proofs.Math.Seq.{get_or-append_seam}
use Rattle.std.proofs.lemmas.Bool.{cases_eq, false≢true}
use Rattle.std.proofs.lemmas.List.{get_or-set_other, get_or-set_same, get_or_append_left}
use Rattle.std.proofs.lemmas.Option.{same_Some}
use Rattle.std.specs.Ordering.{is_eq}
use Rattle.hm_names.specs.Server.{Server}
use Rattle.hm_index.specs.Index.{find}
use Rattle.hm_model.specs.Actors.{Actor, begun}
use Rattle.hm_model.specs.Fleet.{same_address, same_server}
use Rattle.hm_model.proofs.NameTies.{same_server-refl}
use Rattle.hm_server.specs.Actors.{ActorView, IsActor, actor_of}
use Rattle.hm_fleet.specs.Crew.{IsCrew, actors_in, address_cmp, address_of, running, slot_at, started_in}
use Rattle.hm_fleet.specs.declared.address.Address.{Address}
use Rattle.hm_fleet.proofs.Alike.{actor_is, address_tied, address_ties, one_address, server_address}

-- one that just began, at its address
begun_there : (actors : Server → Option Actor) (server : Server) (view : ActorView) → IsActor (begun server) (actor_of view) → (other : Server) → same_address server other ≡ true
    → running (Some view) other ≡ started_in actors server other
begun_there actors server view new other there =
    ap (λ n. if same_server n other then Some (actor_of view) else None) (sym new.name)
    ∙ ap (λ a. if same_server server other then Some a else None) (sym (actor_is (begun server) (actor_of view) new))
    ∙ ap (λ b. if same_server server other then Some (begun server) else (if b then None else actors other)) (sym there)

-- and at any other
begun_elsewhere : (actors : Server → Option Actor) (server : Server) (other : Server) → same_address server other ≡ false → actors other ≡ started_in actors server other
begun_elsewhere actors server other off = by (same_server server other) refl ∙ ap (λ b. if same_server server other then Some (begun server) else (if b then None else actors other)) (sym off)
  where
    by : (b : Bool) → same_server server other ≡ b → actors other ≡ (if b then Some (begun server) else actors other)
    by true on = absurd (false≢true (sym off ∙ server_address server other on))
    by false on = refl

at_one : (one two : Server) → address_of one ≡ address_of two → same_address one two ≡ true
at_one one two is =
    sym (address_ties (address_of one) (address_of two)) ∙ ap (λ a. is_eq (address_cmp (address_of one) a)) (sym is) ∙ address_ties (address_of one) (address_of one)
    ∙ server_address one one (same_server-refl one)

-- an address at which a server ran before
pub started_again : (places : List (Address × ℕ)) (slots : List (Option ActorView)) → IsCrew places slots → (server : Server) (place : ℕ) (view : ActorView)
    → find address_cmp places (address_of server) ≡ Some place → IsActor (begun server) (actor_of view)
    → actors_in places (set slots place (Some view)) ≡ started_in (actors_in places slots) server
started_again places slots crew server place view found new = fun_ext (λ other. by other (same_address server other) refl (find address_cmp places (address_of other)) refl)
  where
    by : (other : Server) (b : Bool) → same_address server other ≡ b → (at : Option ℕ) → find address_cmp places (address_of other) ≡ at
        → running (slot_at (set slots place (Some view)) at) other ≡ started_in (λ s. running (slot_at slots (find address_cmp places (address_of s))) s) server other
    by other true on at e =
        let is : at ≡ Some place = sym e ∙ ap (find address_cmp places) (sym (one_address server other on)) ∙ found in
        ap (λ a. running (slot_at (set slots place (Some view)) a) other) is
        ∙ ap (λ s. running s other) (get_or-set_same slots place (Some view) None (crew.within (address_of server) place found))
        ∙ begun_there (actors_in places slots) server view new other on
    by other false off None e = ap (λ a. running (slot_at slots a) other) (sym e) ∙ begun_elsewhere (actors_in places slots) server other off
    by other false off (Some q) e = elim (cases_eq q place) [
      | inl same ↦
          let is : address_of server ≡ address_of other = crew.apart (address_of server) (address_of other) place found (e ∙ ap Some same) in
          absurd (false≢true (sym off ∙ at_one server other is))
      | inr differs ↦ ap (λ s. running s other) (get_or-set_other slots place q (Some view) None differs)
          ∙ ap (λ a. running (slot_at slots a) other) (sym e) ∙ begun_elsewhere (actors_in places slots) server other off
    ]

-- a new address, and the place after all others
abbrev Places : List (Address × ℕ) → List (Address × ℕ) → Address → ℕ → Type 0
Places old new address place = (other : Address) → find address_cmp new other ≡ (if is_eq (address_cmp address other) then Some place else find address_cmp old other)

pub started_first : (places more : List (Address × ℕ)) (slots : List (Option ActorView)) → IsCrew places slots → (server : Server) (view : ActorView)
    → Places places more (address_of server) (length slots) → IsActor (begun server) (actor_of view)
    → actors_in more (slots ++ Some view ∷ []) ≡ started_in (actors_in places slots) server
started_first places more slots crew server view puts new = fun_ext (λ other.
    ap (λ at. running (slot_at (slots ++ Some view ∷ []) at) other) (puts (address_of other) ∙ ap (λ b. if b then Some (length slots) else find address_cmp places (address_of other)) (address_ties (address_of server) (address_of other)))
    ∙ by other (same_address server other) refl (find address_cmp places (address_of other)) refl)
  where
    by : (other : Server) (b : Bool) → same_address server other ≡ b → (at : Option ℕ) → find address_cmp places (address_of other) ≡ at
        → running (slot_at (slots ++ Some view ∷ []) (if b then Some (length slots) else at)) other ≡ started_in (actors_in places slots) server other
    by other true on at e = ap (λ s. running s other) (get_or-append_seam slots (Some view) [] None) ∙ begun_there (actors_in places slots) server view new other on
    by other false off None e = ap (λ a. running (slot_at slots a) other) (sym e) ∙ begun_elsewhere (actors_in places slots) server other off
    by other false off (Some q) e =
        ap (λ s. running s other) (get_or_append_left slots (Some view ∷ []) None q (crew.within (address_of other) q e))
        ∙ ap (λ a. running (slot_at slots a) other) (sym e) ∙ begun_elsewhere (actors_in places slots) server other off

pub crew_first : (places more : List (Address × ℕ)) (slots : List (Option ActorView)) → IsCrew places slots → (address : Address) (slot : Option ActorView)
    → Places places more address (length slots) → IsCrew more (slots ++ slot ∷ [])
crew_first places more slots crew address slot puts = record {
  within = λ other at found. within other at (is_eq (address_cmp address other)) (sym (puts other) ∙ found);
  apart = λ one other at found there. apart one other at (is_eq (address_cmp address one)) refl (is_eq (address_cmp address other)) refl (sym (puts one) ∙ found) (sym (puts other) ∙ there);
}
  where
    within : (other : Address) (at : ℕ) (b : Bool) → (if b then Some (length slots) else find address_cmp places other) ≡ Some at → at < length (slots ++ slot ∷ [])
    within other at true found = let is = same_Some (length slots) at found in omega (arith, is, length-append slots (slot ∷ []))
    within other at false found = let lt = crew.within other at found in omega (arith, lt, length-append slots (slot ∷ []))

    apart : (one other : Address) (at : ℕ) (a : Bool) → is_eq (address_cmp address one) ≡ a → (b : Bool) → is_eq (address_cmp address other) ≡ b
        → (if a then Some (length slots) else find address_cmp places one) ≡ Some at → (if b then Some (length slots) else find address_cmp places other) ≡ Some at → one ≡ other
    apart one other at true on true there found also = sym (address_tied address one on) ∙ address_tied address other there
    apart one other at true on false there found also = let lt = crew.within other at also in let is = same_Some (length slots) at found in absurd (omega (arith, lt, is))
    apart one other at false on true there found also = let lt = crew.within one at found in let is = same_Some (length slots) at also in absurd (omega (arith, lt, is))
    apart one other at false on false there found also = crew.apart one other at found also
