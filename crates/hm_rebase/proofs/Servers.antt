-- Servers in journals that read alike: who is live, and which regions are at each.
use Rattle.std.proofs.Common.{◌≡◌, List, [], ◌∷◌, take, nat_lt, Bool, not, ◌&&◌, ◌||◌, Option, Some, None, refl, ap, sym, ◌∙◌, inl}
use Rattle.std.specs.List.{list_any}
use Rattle.hm_names.specs.Order.{region_cmp}
use Rattle.hm_names.specs.Region.{Region}
use Rattle.hm_names.specs.Server.{Server}
use Rattle.hm_data.specs.declared.args.Args.{Args}
use Rattle.hm_model.specs.Fleet.{has_newer, has_older_live, has_other_live, is_live, same_address, same_server, servers_of}
use Rattle.hm_model.specs.Inputs.{fenced_if, place_if, regions_on, sees_fenced, server_at}
use Rattle.hm_model.specs.Journal.{Past}
use Rattle.hm_model.specs.Places.{at_server, is_at, is_the_server, place_of}
use Rattle.hm_model.specs.TransitActs.{is_placed, told_place}
use Rattle.hm_model.specs.Whereabouts.{called_by, moved_by}
use Rattle.hm_model.proofs.InOrder.{at_order}
use Rattle.hm_model.proofs.NameTies.{regions_total}
use Rattle.hm_costs.proofs.Lost.{at_listed, listed_at}
use Rattle.hm_rebase.specs.Alike.{Alike}
use Rattle.hm_rebase.proofs.Seen.{AreOnePlace, one_place, placed_one, server_one}
use Rattle.hm_rebase.proofs.Orders.{same_list}

any_same : (one other : Server → Bool) (list : List Server) → ((s : Server) → one s ≡ other s) → list_any one list ≡ list_any other list
any_same one other [] same = refl
any_same one other (s ∷ list) same = ap (λ b. b || list_any one list) (same s) ∙ ap (λ b. other s || b) (any_same one other list same)

module _ (J K : Past) (alike : Alike J K) where
  pub at_same : (server : Server) (region : Region) → is_at server (place_of J region) ≡ is_at server (place_of K region)
  at_same server region =
      let one = one_place J K alike region in
      ap (λ b. b && is_the_server server (place_of J region).server) (placed_one (place_of J region) (place_of K region) one)
      ∙ ap (λ s. is_placed (place_of K region) && is_the_server server s) (server_one (place_of J region) (place_of K region) one)

  pub at_server_same : (server : Server) → at_server J server ≡ at_server K server
  at_server_same server = same_list region_cmp regions_total (at_server J server) (at_server K server) (at_order J server) (at_order K server)
      (λ y among. at_listed K server y (sym (at_same server y) ∙ listed_at J server y among))
      (λ y among. at_listed J server y (at_same server y ∙ listed_at K server y among))

  pub on_same : (server : Option Server) → regions_on J server ≡ regions_on K server
  on_same None = refl
  on_same (Some server) = ap (take 64) (at_server_same server)

  pub fenced_same : (server : Option Server) → fenced_if J server ≡ fenced_if K server
  fenced_same None = refl
  fenced_same (Some server) = alike.fenced server

  place_server : (region : Option Region) → server_at (place_if J region) ≡ server_at (place_if K region)
  place_server None = refl
  place_server (Some region) = server_one (place_of J region) (place_of K region) (one_place J K alike region)

  pub sees_fenced_same : (args : Args) → sees_fenced J args ≡ sees_fenced K args
  sees_fenced_same args =
      ap (λ s. fenced_if J s || fenced_if J (called_by args)) (place_server (moved_by args))
      ∙ ap (λ b. b || fenced_if J (called_by args)) (fenced_same (server_at (place_if K (moved_by args))))
      ∙ ap (λ b. fenced_if K (server_at (place_if K (moved_by args))) || b) (fenced_same (called_by args))

  pub place_told_same : (region : Option Region) → AreOnePlace (told_place (place_if J region)) (told_place (place_if K region))
  place_told_same None = inl refl
  place_told_same (Some region) = one_place J K alike region

  pub has_newer_same : (server : Server) → has_newer J server ≡ has_newer K server
  has_newer_same server = ap (λ l. list_any (λ other. same_address server other && not (nat_lt other.start server.start)) l) alike.servers

  pub has_older_same : (server : Server) → has_older_live J server ≡ has_older_live K server
  has_older_same server =
      any_same (λ other. same_address server other && (nat_lt other.start server.start && is_live J other)) (λ other. same_address server other && (nat_lt other.start server.start && is_live K other)) (servers_of J) (λ other. ap (λ b. same_address server other && (nat_lt other.start server.start && b)) (alike.live other))
      ∙ ap (λ l. list_any (λ other. same_address server other && (nat_lt other.start server.start && is_live K other)) l) alike.servers

  pub has_other_same : (server : Server) → has_other_live J server ≡ has_other_live K server
  has_other_same server =
      any_same (λ other. is_live J other && not (same_server server other)) (λ other. is_live K other && not (same_server server other)) (servers_of J) (λ other. ap (λ b. b && not (same_server server other)) (alike.live other))
      ∙ ap (λ l. list_any (λ other. is_live K other && not (same_server server other)) l) alike.servers
