-- The calls that procedures are for.
use Rattle.std.specs.Prelude.{Option, Some, None}
use Rattle.hm_data.specs.declared.args.Args.{Args}
use Rattle.hm_data.specs.declared.args.Args.TheVariants as args_are
use Rattle.hm_data.specs.declared.call.Verb.{Verb}
use Rattle.hm_data.specs.declared.call.Verb.TheVariants as verb_is

-- the call that a procedure is for, if it is for one
abbrev pub verb_in : Args → Option Verb
verb_in (args_are.AssignCall region server) = Some (verb_is.AssignRegion region)
verb_in (args_are.CloseCall region server) = Some (verb_is.CloseRegion region)
verb_in (args_are.FenceCall server) = Some (verb_is.Fence server)
verb_in (args_are.LayoutCall root) = Some (verb_is.Layout root)
verb_in (args_are.SweepLayout root) = Some (verb_is.Sweep root)
verb_in args = None
