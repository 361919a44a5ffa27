use Rattle.std.proofs.Common.{sym, ap, inr, subst, Err}
use Rattle.std.proofs.lemmas.Result.{IfErr-weaker}
use Rattle.hm_log.proofs.Exact.{opens_once, refused_once}
use Rattle.hm_journal.specs.Stored.{frames_of}
use Rattle.hm_journal.specs.Verdict.{IsUnjudged, Refuses}
use Rattle.hm_journal.proofs.Refusing.{counts_it, log_refuses, log_unjudged, refuses_by}
use Rattle.hm_journal.proofs.journal.Journal.check.Goals as goal

pub returns-in-Ok-clause-accepts : goal.returns-in-Ok-clause-accepts
returns-in-Ok-clause-accepts g c tells journal on =
    counts_it c.args.sheets.now c.in-Ok.frames c.count_entries.result c.count_entries.ensures.count c.count_entries.ensures.why journal on.1
    (opens_once (g.D.Disk.seen c.args.disk.now) c.in-Ok.frames (frames_of journal) (c.in-Ok.ensures.reads tells) on.0)

pub returns-in-Ok-clause-why : goal.returns-in-Ok-clause-why
returns-in-Ok-clause-why g c tells =
    IfErr-weaker c.count_entries.result _ _ (λ why none. refuses_by c.args.sheets.now (g.D.Disk.seen c.args.disk.now) c.in-Ok.frames why (c.in-Ok.ensures.reads tells) (inr none)) c.count_entries.ensures.why

pub returns-in-Err-clause-accepts : goal.returns-in-Err-clause-accepts
returns-in-Err-clause-accepts g c tells journal on =
    subst IsUnjudged (sym c.why_of.ensures)
    (log_unjudged c.in-Err.why (refused_once c.in-Err.why (g.D.Disk.seen c.args.disk.now) (frames_of journal) on.0
    (λ place is. c.in-Err.ensures.not_a_log tells place (ap Err is)) (λ place is. c.in-Err.ensures.bad_frame tells place (ap Err is))))

pub returns-in-Err-clause-why : goal.returns-in-Err-clause-why
returns-in-Err-clause-why g c tells =
    let seen = g.D.Disk.seen c.args.disk.now in
    subst (Refuses c.args.sheets.now seen) (sym c.why_of.ensures)
    (log_refuses c.args.sheets.now seen c.in-Err.why (λ place is. c.in-Err.ensures.not_a_log tells place (ap Err is)) (λ place is. c.in-Err.ensures.bad_frame tells place (ap Err is))
    (λ place is. c.in-Err.ensures.memory tells place (ap Err is)))
