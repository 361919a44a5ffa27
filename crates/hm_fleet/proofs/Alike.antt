-- Servers that keep the same are one, and addresses compare as equal exactly where they are one.
use Rattle.std.proofs.Common.{◌≡◌, ℕ, true, ◌&&◌, ◌==◌, refl, ap, sym, ◌∙◌, arith}
use Rattle.std.proofs.Math.Path.{fun_ext}
use Rattle.std.proofs.lemmas.Bool.{and_parts}
use Rattle.std.proofs.lemmas.Bool.Decides.{nat_tests}
use Rattle.std.specs.Cmp.Lexicographic.{texts_ties}
use Rattle.std.specs.Ordering.{is_eq, nat_cmp, ordering_then}
use Rattle.std.specs.Str.{bytes_eq}
use Rattle.std.specs.declared.cmp.Ordering.{Ordering}
use Rattle.std.specs.declared.cmp.Ordering.TheVariants.{Less, Equal, Greater}
use Rattle.hm_names.specs.Order.{bytes_cmp}
use Rattle.hm_names.specs.Server.{Server}
use Rattle.hm_model.specs.Actors.{Actor}
use Rattle.hm_model.specs.Storages.{Storage}
use Rattle.hm_model.specs.Fleet.{same_address, same_server}
use Rattle.hm_model.proofs.KeyTests.{bytes_eq-is}
use Rattle.hm_server.specs.Actors.{IsActor, IsStorage}
use Rattle.hm_fleet.specs.Crew.{address_cmp, address_of}
use Rattle.hm_fleet.specs.declared.address.Address.{Address}

pub actor_is : (one other : Actor) → IsActor one other → one ≡ other
actor_is one other same =
    ap (λ n. let a : Actor = record { name = n; last = one.last; refusals = one.refusals } in a) same.name
    ∙ ap (λ l. let a : Actor = record { name = other.name; last = l; refusals = one.refusals } in a) (fun_ext same.last)
    ∙ ap (λ r. let a : Actor = record { name = other.name; last = other.last; refusals = r } in a) same.refusals

address_by : (one other : Address) → one.host ≡ other.host → one.port ≡ other.port → one ≡ other
address_by one other host port =
    ap (λ h. let a : Address = record { host = h; port = one.port } in a) host ∙ ap (λ p. let a : Address = record { host = other.host; port = p } in a) port

number_ties : (m n : ℕ) → is_eq (nat_cmp m n) ≡ (m == n)
number_ties m n = grind (arith, nat_tests)

then_ties : (o p : Ordering) → is_eq (ordering_then o p) ≡ (is_eq o && is_eq p)
then_ties Less p = refl
then_ties Equal p = refl
then_ties Greater p = refl

pub address_ties : (one other : Address) → is_eq (address_cmp one other) ≡ (bytes_eq one.host other.host && (one.port == other.port))
address_ties one other =
    then_ties (bytes_cmp one.host other.host) (nat_cmp one.port other.port)
    ∙ ap (λ b. b && is_eq (nat_cmp one.port other.port)) (sym (texts_ties one.host other.host))
    ∙ ap (λ b. bytes_eq one.host other.host && b) (number_ties one.port other.port)

pub address_tied : (one other : Address) → is_eq (address_cmp one other) ≡ true → one ≡ other
address_tied one other ties =
    let parts = and_parts (bytes_eq one.host other.host) (one.port == other.port) (sym (address_ties one other) ∙ ties) in
    address_by one other (bytes_eq-is one.host other.host parts.0) (grind (arith, nat_tests, parts.1))

-- the same address, by the two tests
pub one_address : (server other : Server) → same_address server other ≡ true → address_of server ≡ address_of other
one_address server other same = address_tied (address_of server) (address_of other) (address_ties (address_of server) (address_of other) ∙ same)

pub server_address : (server other : Server) → same_server server other ≡ true → same_address server other ≡ true
server_address server other same = (and_parts (same_address server other) (server.start == other.start) same).0
