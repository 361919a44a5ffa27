-- Which servers came up.
use Rattle.std.proofs.Common.{◌≡◌, List, Option, Some, None, Bool, ◌∷◌, ◌||◌, true, false, ap, sym, ◌∙◌}
use Rattle.std.specs.List.{list_any}
use Rattle.std.proofs.lemmas.Bool.{false_from_ne_true, true≢false}
use Rattle.hm_names.specs.Server.{Server}
use Rattle.hm_data.specs.declared.entry.Entry.{Entry}
use Rattle.hm_data.specs.declared.entry.Entry.TheVariants as entry_is
use Rattle.hm_model.specs.Fleet.{came_up, has_newer, same_server, servers_of, with_server}
use Rattle.hm_model.specs.Journal.{Past}
use Rattle.hm_model.specs.Parts.{part_server}
use Rattle.hm_model.proofs.CameUp.{any_with, came_on}
use Rattle.hm_model.proofs.NameTies.{newer_own}

-- who came up stays so
pub up_stays : (entry : Entry) (J : Past) (s : Server) → came_up J s ≡ true → came_up (entry ∷ J) s ≡ true
up_stays (entry_is.Up other) J s h = came_on J other s h
up_stays (entry_is.Base part) J s h = by (part_server part)
  where
    by : (o : Option (Server × Bool)) → list_any (λ x. same_server s x) (elim o as (λ k. List Server) [ None ↦ servers_of J | Some both ↦ with_server both.0 (servers_of J) ]) ≡ true
    by None = h
    by (Some both) = came_on J both.0 s h
up_stays entry J s h = h

-- who came up, and isn't the one that comes up now, did before
pub up_before : (J : Past) (other s : Server) → same_server s other ≡ false → came_up (entry_is.Up other ∷ J) s ≡ true → came_up J s ≡ true
up_before J other s differs h = sym (any_with (λ x. same_server s x) other (servers_of J) ∙ ap (λ b. b || came_up J s) differs) ∙ h

pub not_up : (J : Past) (s : Server) → has_newer J s ≡ false → came_up J s ≡ false
not_up J s h = false_from_ne_true (came_up J s) (λ up. true≢false (sym (newer_own s (servers_of J) up) ∙ h))
