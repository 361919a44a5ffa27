-- What the acts of calls answer.
use Rattle.std.specs.Prelude.{ℕ, Option, Some, None, Bool, true, false}
use Rattle.hm_data.specs.declared.answer.Cause.TheVariants as cause_is
use Rattle.hm_data.specs.declared.args.Args.{Args}
use Rattle.hm_data.specs.declared.call.Told.{Told}
use Rattle.hm_data.specs.declared.call.Told.TheVariants as told_is
use Rattle.hm_data.specs.declared.call.Verb.TheVariants as verb_is
use Rattle.hm_data.specs.declared.step.StepOut.{StepOut}
use Rattle.hm_model.specs.Outs.{fails, given, calls, ends_with}
use Rattle.hm_model.specs.Views.{region_of}
use Rattle.hm_model.specs.Wanted.{server_of, layout_of}

-- a server that is fenced is gone; else what is asked of it
abbrev pub unless_gone : Bool → StepOut → StepOut
unless_gone true out = ends_with told_is.Gone
unless_gone false out = out

-- act 39: calls the server to open the region
abbrev pub call_assign : ℕ → Args → Bool → StepOut
call_assign next args fenced =
    unless_gone fenced (given (region_of args) next (λ region. calls next (verb_is.AssignRegion region)))

-- act 40: calls the server to close the region
abbrev pub call_close : ℕ → Args → Bool → StepOut
call_close next args fenced =
    unless_gone fenced (given (region_of args) next (λ region. calls next (verb_is.CloseRegion region)))

-- the end, with the report that was made, if there is one
abbrev pub ends_as_told : Option Told → StepOut
ends_as_told None = ends_with told_is.Nothing
ends_as_told (Some told) = ends_with told

-- act 41: ends with the report
abbrev pub settle_call : Bool → Option Told → StepOut
settle_call fenced report = unless_gone fenced (ends_as_told report)

-- act 42: calls the storage to fence the server
abbrev pub call_fence : ℕ → Args → StepOut
call_fence next args = given (server_of args) next (λ server. calls next (verb_is.Fence server))

-- act 43: calls the storage to lay out the files of the root
abbrev pub call_layout : ℕ → Args → StepOut
call_layout next args = given (layout_of args) next (λ root. calls next (verb_is.Layout root))

-- what a report of the layout comes to
abbrev pub layout_told : Told → StepOut
layout_told told_is.Refused = fails cause_is.LayoutRefused
layout_told told = ends_with told

-- act 44: ends with the report, and fails where the layout was refused
abbrev pub settle_layout : Option Told → StepOut
settle_layout None = ends_with told_is.Nothing
settle_layout (Some told) = layout_told told

-- act 45: calls the storage to sweep away the files of the root
abbrev pub call_sweep : ℕ → Args → StepOut
call_sweep next args = given (layout_of args) next (λ root. calls next (verb_is.Sweep root))
