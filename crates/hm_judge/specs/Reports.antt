-- Whether an answer fits what a procedure works on.
use Rattle.std.specs.Prelude.{Option, Some, None, Bool, true}
use Rattle.hm_data.specs.declared.args.Args.{Args}
use Rattle.hm_data.specs.declared.call.Told.{Told}
use Rattle.hm_data.specs.declared.call.Verb.{Verb}
use Rattle.hm_model.specs.Reports.{fits_verb}
use Rattle.hm_model.specs.Verbs.{verb_in}

-- an answer fits a call, if there is one
abbrev pub fits_if : Option Verb → Told → Bool
fits_if None told = true
fits_if (Some verb) told = fits_verb verb told

-- an answer fits the call that a procedure is for, if it is for one
abbrev pub fits_args : Args → Told → Bool
fits_args args told = fits_if (verb_in args) told
