-- What an entry leaves alone of a tree that it doesn't belong to.
use Rattle.std.proofs.Common.{false, sym, true, ℕ, ◌∙◌, ◌∷◌, ◌≡◌}
use Rattle.hm_names.specs.Server.{Server}
use Rattle.hm_data.specs.declared.entry.Entry.{Entry}
use Rattle.hm_model.specs.Inputs.{undoes}
use Rattle.hm_model.specs.Journal.{Past}
use Rattle.hm_model.specs.Rules.{IsLegal}
use Rattle.hm_model.proofs.Grown.{nodes_stay}
use Rattle.hm_model.proofs.Trees.{sheets_stay}
use Rattle.hm_tied.specs.Bounds.{Bounds, allows}
use Rattle.hm_tied.specs.TiedIn.{LacksPick}
use Rattle.hm_model.specs.Inputs.{place_if}
use Rattle.hm_model.specs.Places.{tries_of}
use Rattle.hm_model.specs.TransitActs.{told_place}
use Rattle.hm_model.specs.Wanted.{wanted_of}
use Rattle.hm_model.specs.Whereabouts.{moved_by}
use Rattle.hm_tied.proofs.PickingIn.{fits_by, fits_is, SeesSame, lacks_on}

-- who lacks a server to be picked goes on lacking one, where nothing of it comes to be undone
pub lacks_after : (bounds : Bounds) (entry : Entry) (J : Past) → IsLegal (entry ∷ J) → (q : ℕ) (lacks : LacksPick bounds J q) → (let x = lacks.0 in (undoes (entry ∷ J) q x ≡ false) × SeesSame J (entry ∷ J) q x.args)
    → (let x = lacks.0 in (s : Server) → allows bounds x.args s ≡ true → fits_by (entry ∷ J) (wanted_of x.args) (tries_of (entry ∷ J) q) (told_place (place_if (entry ∷ J) (moved_by x.args))) s ≡ true
    → fits_by J (wanted_of x.args) (tries_of J q) (told_place (place_if J (moved_by x.args))) s ≡ true) → LacksPick bounds (entry ∷ J) q
lacks_after bounds entry J legal q lacks sees back =
    let there = nodes_stay entry J legal q lacks.0 lacks.1 in (
      lacks.0,
      there,
      sees.0,
      lacks_on J (entry ∷ J) q lacks.0 lacks.1 there (sheets_stay entry J legal q lacks.0 lacks.1) lacks.2 sees.0 sees.1 lacks.3,
      (λ s fits. lacks.4 s (fits.0, fits_is J q lacks.0 lacks.2 s ∙ back s fits.0 (sym (fits_is (entry ∷ J) q lacks.0 sees.0 s) ∙ fits.1))),
      (let same = sees.1 in same.opening lacks.5),
    )
