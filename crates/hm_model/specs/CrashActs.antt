-- What the acts of crashes answer.
use Rattle.std.specs.Prelude.{ℕ, List, [], ◌∷◌}
use Rattle.hm_names.specs.Region.{Region}
use Rattle.hm_data.specs.declared.args.Args.{Args}
use Rattle.hm_data.specs.declared.args.Args.TheVariants as args_are
use Rattle.hm_data.specs.declared.args.Child.{Child}
use Rattle.hm_data.specs.declared.args.Child.TheVariants as child_is
use Rattle.hm_data.specs.declared.call.Told.TheVariants as told_is
use Rattle.hm_data.specs.declared.place.Goal.TheVariants as goal_is
use Rattle.hm_data.specs.declared.step.StepOut.{StepOut}
use Rattle.hm_model.specs.Outs.{given, spawns, ends_with}
use Rattle.hm_model.specs.Pieces.{transits}
use Rattle.hm_model.specs.Wanted.{server_of}

-- act 37: has the server fenced
abbrev pub fence : ℕ → Args → StepOut
fence next args = given (server_of args) next (λ server. spawns next (child_is.One (args_are.FenceCall server) ∷ []))

-- what is done of the transits of a server's regions: the end where there are none
abbrev pub reassign_all : ℕ → List Child → StepOut
reassign_all next [] = ends_with told_is.Nothing
reassign_all next (child ∷ more) = spawns next (child ∷ more)

-- act 38: has the regions of the server assigned; the end where it has none
abbrev pub reassign : ℕ → List Region → StepOut
reassign next regions = reassign_all next (transits goal_is.Assign regions)
