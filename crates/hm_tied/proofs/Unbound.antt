-- What bounds leave as it is, and that where nothing is bounded all is as without them.
use Rattle.std.proofs.Common.{None, Option, Some, ap, inl, inr, not, refl, sym, true, ℕ, ◌&&◌, ◌∙◌, ◌≡◌}
use Rattle.std.proofs.lemmas.Bool.{and_parts, cases_Bool, not-false, or_left, or_parts, or_right, true≢false}
use Rattle.hm_names.specs.Region.{Region}
use Rattle.hm_names.specs.Server.{Server}
use Rattle.hm_model.specs.Fleet.{has_live, is_live, servers_of}
use Rattle.hm_model.specs.Inputs.{input}
use Rattle.hm_model.specs.Journal.{Past}
use Rattle.hm_model.specs.Picks.{is_another, is_as_wanted, needs_server, pick_fits}
use Rattle.hm_model.specs.Rest.{MayStepPicked}
use Rattle.hm_model.specs.Rules.{IsLegal}
use Rattle.hm_model.specs.TransitActs.{told_place}
use Rattle.hm_model.specs.Tree.{Node}
use Rattle.hm_model.specs.Wanted.{wanted_of}
use Rattle.hm_model.specs.Whereabouts.{moved_by}
use Rattle.hm_model.proofs.CameUp.{live_came}
use Rattle.hm_single.proofs.Picks.{picks_there}
use Rattle.hm_tied.specs.Bounds.{Bounds, IsUnbounded, MayStepIn, allows_in}
use Rattle.hm_tied.specs.TiedIn.{LacksPick}
use Rattle.hm_tied.specs.Tied.{LacksPick as Lacks}
use Rattle.hm_tied.specs.Unbound.{AvailableIsLess, FreeIsAvailable, FreeReadyAreAvailable, PickedAreAtRest, TiedIsBound, bound}
use Rattle.hm_tied.proofs.CallsIn.{exact}
use Rattle.hm_tied.proofs.Openings.{any_live}

-- who fits is live
fits_live : (J : Past) (p : ℕ) (node : Node) (server : Server) → pick_fits J p node server ≡ true → has_live J ≡ true
fits_live J p node server fits =
    let at = input J p node None in
    let live = (and_parts (is_live J server) (is_as_wanted J (wanted_of at.args) at.tries server && is_another J (told_place at.place) server) fits).0 in
    any_live J server (servers_of J) live (live_came J server live)

-- who may step in bounds may step
step_less : (bounds : Bounds) (J : Past) (p : ℕ) → MayStepIn bounds J p → MayStepPicked J p
step_less bounds J p may = (
  may.0,
  may.1,
  may.2,
  elim (cases_Bool (needs_server J p may.0)) [
    | inl on ↦ or_right (not (needs_server J p may.0)) (has_live J) (let found = may.3 on in fits_live J p may.0 found.0 found.1.1)
    | inr off ↦ or_left (not (needs_server J p may.0)) (has_live J) (ap not off)
  ],
)

pub available_less : AvailableIsLess
available_less bounds J taken claimed p free = (free.1, free.2, elim free.3 [ inl may ↦ inl (step_less bounds J p may) | inr undo ↦ inr undo ])

-- where nothing is bounded every server is allowed
all_allowed : (bounds : Bounds) → IsUnbounded bounds → (o : Option Region) (server : Server) → allows_in bounds o server ≡ true
all_allowed bounds all None server = refl
all_allowed bounds all (Some region) server = all.0 region.table server

-- who may step may so where nothing is bounded
step_free : (bounds : Bounds) → IsUnbounded bounds → (J : Past) → IsLegal J → (p : ℕ) → MayStepPicked J p → MayStepIn bounds J p
step_free bounds all J legal p may = (
  may.0,
  may.1,
  may.2,
  λ needed. (let found = picks_there J legal p may.0 may.1 may needed in (found.0, ((let node = may.0 in all_allowed bounds all (moved_by node.args) found.0), found.1))),
)

pub free_available : FreeIsAvailable
free_available bounds J taken claimed p all legal = (
  (λ apart. (all.1 p, apart.0, apart.1, elim apart.2 [ inl may ↦ inl (step_free bounds all J legal p may) | inr undo ↦ inr undo ])),
  available_less bounds J taken claimed p,
)

pub picked_rest : PickedAreAtRest
picked_rest bounds J picked rest p apart =
    rest p (
      picked.0 p,
      apart.0,
      apart.1,
      elim apart.2 [
        | inl may ↦ inl (may.0, may.1, may.2, picked.1 p may.0 may.1 may.2 apart.1)
        | inr undo ↦ inr undo
      ],
    )

-- who lacks a server while none is live lacks one that fits
lacks_bound : (bounds : Bounds) (J : Past) (q : ℕ) → Lacks J q → LacksPick bounds J q
lacks_bound bounds J q lack =
    let parts = or_parts (not (needs_server J q lack.0)) (has_live J) lack.3 in (
      lack.0,
      lack.1,
      lack.2,
      not-false (needs_server J q lack.0) parts.0,
      (λ server fits. true≢false (sym (fits_live J q lack.0 server fits.1) ∙ parts.1)),
      lack.4,
    )

pub tied_bound : TiedIsBound
tied_bound bounds J number_of roster debts tied = record {
  listed = tied.listed;
  claims = tied.claims;
  waits = tied.waits;
  calls = tied.calls;
  aside = λ q e. elim (tied.aside q e) [ inl both ↦ inl (lacks_bound bounds J q both.0, both.1) | inr late ↦ inr late ];
  must = λ q idle free busy. tied.must q free busy;
  book = tied.book;
}

pub free_ready : FreeReadyAreAvailable
free_ready bounds J number_of roster all legal tied q apart =
    exact J number_of (bound bounds roster) tied q ((free_available bounds J roster.claimed roster.claimed q all legal).0 apart)
