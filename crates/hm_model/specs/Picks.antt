-- Which server a transit's region may be placed at.
use Rattle.std.specs.Prelude.{◌≡◌, ℕ, Option, Some, None, Bool, true, not, ◌==◌, ◌&&◌, ◌||◌}
use Rattle.hm_names.specs.Server.{Server}
use Rattle.hm_data.specs.declared.place.Place.{Place}
use Rattle.hm_data.specs.declared.place.RegionState.TheVariants as place_is
use Rattle.hm_data.specs.declared.step.StepIn.{StepIn}
use Rattle.hm_model.specs.Evaluation.{picks_by}
use Rattle.hm_model.specs.Fleet.{same_server, is_live, has_live, has_other_live}
use Rattle.hm_model.specs.Journal.{Past}
use Rattle.hm_model.specs.Places.{is_the_server}
use Rattle.hm_model.specs.Procedures.{sheet_at}
use Rattle.hm_model.specs.Inputs.{input}
use Rattle.hm_model.specs.TransitActs.{is_state, told_place}
use Rattle.hm_model.specs.Tree.{Node, node_of}
use Rattle.hm_model.specs.Wanted.{wanted_of}

-- the first try goes to the server that is wanted, where that one is live
abbrev pub is_as_wanted : Past → Option Server → ℕ → Server → Bool
is_as_wanted before None tries server = true
is_as_wanted before (Some wanted) tries server =
    not (tries == 0) || (not (is_live before wanted) || same_server server wanted)

-- not the server at which the region just failed to open, where another one is live
abbrev pub is_another : Past → Place → Server → Bool
is_another before place server =
    not (is_state place_is.FailedOpen place) || (not (is_the_server server place.server) || not (has_other_live before server))

-- a pick fits what a step sees: it is live, the one that is wanted, and not the one that failed
abbrev pub fits_input : Past → StepIn → Server → Bool
fits_input before at server =
    is_live before server && (is_as_wanted before (wanted_of at.args) at.tries server && is_another before (told_place at.place) server)

-- the next step of a procedure needs a server to be picked
abbrev pub needs_server : Past → ℕ → Node → Bool
needs_server before p node = let at = input before p node None in picks_by (sheet_at before at) at

-- a server fits as the pick of its next step
abbrev pub pick_fits : Past → ℕ → Node → Server → Bool
pick_fits before p node server = fits_input before (input before p node None) server

-- a pick is there exactly where one is needed, and it fits
abbrev pub is_pick_right : Past → ℕ → Node → Option Server → Bool → Bool
is_pick_right before p node None needed = not needed
is_pick_right before p node (Some server) needed = needed && pick_fits before p node server

-- the pick of a step of a procedure that is there
abbrev pub PicksRight : Past → ℕ → Option Server → Type 0
PicksRight before p pick =
    (node : Node) × (node_of before p ≡ Some node) × (is_pick_right before p node pick (needs_server before p node) ≡ true)

-- where its next step needs a server to be picked, one is live
abbrev pub has_pick : Past → ℕ → Node → Bool
has_pick before p node = not (needs_server before p node) || has_live before
