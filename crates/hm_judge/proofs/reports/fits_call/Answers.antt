use Rattle.std.proofs.Common.{is_some, ap, sym, ◌∙◌}
use Rattle.std.specs.Option.{option_copied}
use Rattle.hm_model.specs.Reports.{verb_of}
use Rattle.hm_judge.proofs.Reporting.{fits_iff, fits_nobody}
use Rattle.hm_judge.proofs.reports.fits_call.Goals as goal

pub returns-in-Some : goal.returns-in-Some
returns-in-Some c =
    fits_iff c.args.records.now.past c.find.ensures.legal c.args.call.0 c.in-Some.found.now (sym (ap option_copied c.in-Some.is) ∙ c.find.ensures.found) c.args.told
    (ap (λ J. is_some (verb_of J c.args.call.0)) (sym c.procedures.ensures.past) ∙ sym c.has_called.ensures ∙ c.if-not-has_called.false) c.fits_args.result c.fits_args.ensures

pub returns-in-None : goal.returns-in-None
returns-in-None c = fits_nobody c.args.records.now.past c.find.ensures.legal c.args.call.0 (sym (ap option_copied c.in-None.is) ∙ c.find.ensures.found) c.args.told
