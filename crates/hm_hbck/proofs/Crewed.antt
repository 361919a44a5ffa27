-- The servers that run, as they are put together by their names.
use Rattle.std.proofs.Common.{◌≡◌, List, Some, Bool, true, false, if◌then◌else◌, refl, ap, ◌∙◌}
use Rattle.std.specs.Option.{option_map}
use Rattle.std.specs.Ordering.{is_eq}
use Rattle.hm_names.specs.Order.{server_cmp}
use Rattle.hm_names.specs.Server.{Server}
use Rattle.hm_index.specs.Index.{find}
use Rattle.hm_model.specs.Fleet.{same_server}
use Rattle.hm_model.proofs.NameTies.{server_ties}
use Rattle.hm_server.specs.Actors.{ActorView, actor_of}
use Rattle.hm_hbck.specs.Found.{running_in}

-- one more is found by its name, and else who was
pub enlisted : {A : Type 0} (view : A → ActorView) (old mid new : List (Server × A)) (name own : Server) (actor : A) → name ≡ own → mid ≡ old
    → ((other : Server) → find server_cmp new other ≡ (if is_eq (server_cmp name other) then Some actor else find server_cmp mid other))
    → (other : Server) → running_in view new other ≡ (if same_server own other then Some (actor_of (view actor)) else running_in view old other)
enlisted {A} view old mid new name own actor name_is mid_is finds other =
    ap (option_map (λ one. actor_of (view one))) (finds other ∙ ap (λ (b : Bool). if b then Some actor else find server_cmp mid other) (server_ties name other))
    ∙ by (same_server name other)
    ∙ ap (λ (s : Server). if same_server s other then Some (actor_of (view actor)) else running_in view mid other) name_is
    ∙ ap (λ (l : List (Server × A)). if same_server own other then Some (actor_of (view actor)) else running_in view l other) mid_is
  where
    by : (b : Bool) → option_map (λ one. actor_of (view one)) (if b then Some actor else find server_cmp mid other) ≡ (if b then Some (actor_of (view actor)) else running_in view mid other)
    by true = refl
    by false = refl
