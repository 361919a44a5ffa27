use Rattle.std.proofs.Common.{◌⊎◌, inl, inr, ⊎_elim, sym, subst}
use Rattle.hm_log.specs.Opening.{Reopens}
use Rattle.hm_journal.specs.Verdict.{IsUnjudged, Refuses}
use Rattle.hm_journal.proofs.Images.{image_now, left_reads}
use Rattle.hm_journal.proofs.Refusing.{log_refuses, log_unjudged}
use Rattle.hm_journal.proofs.opening.open_log.Goals as goal

pub returns-in-Err-clause-accepts : goal.returns-in-Err-clause-accepts
returns-in-Err-clause-accepts g c tells frames opens = subst IsUnjudged (sym c.why_of.ensures) (log_unjudged c.in-Err.why (c.in-Err.ensures.accepts tells frames opens))

pub returns-in-Err-clause-why : goal.returns-in-Err-clause-why
returns-in-Err-clause-why g c tells sheets =
    let seen = g.D.Disk.seen c.args.disk in
    subst (Refuses sheets seen) (sym c.why_of.ensures)
    (log_refuses sheets seen c.in-Err.why (c.in-Err.ensures.not_a_log tells) (c.in-Err.ensures.bad_frame tells) (c.in-Err.ensures.memory tells))

pub returns-in-Err-clause-left : goal.returns-in-Err-clause-left
returns-in-Err-clause-left g c tells frames some opens = left_reads (g.D.Disk.seen c.args.disk) (g.D.Disk.seen c.in-Err.disk) frames some opens (c.in-Err.ensures.left tells)

pub returns-in-Err-clause-spared : goal.returns-in-Err-clause-spared
returns-in-Err-clause-spared g c tells frames some only opens bytes is =
    let d = g.D.Disk in
    let seen = d.seen c.args.disk in
    let past = image_now d.moment d.left_since d.image g.met.D.Disk.counts_now c.args.disk c.in-Err.disk (λ f. d.image c.args.disk f ⊎ Reopens seen f) (c.in-Err.ensures.any_moment tells) bytes is in
    left_reads seen bytes frames some opens (⊎_elim (λ was. inl (only bytes was)) (λ reopens. inr reopens) past)
