use Rattle.std.proofs.Common.{sym, subst}
use Rattle.hm_hall.specs.Recording.{CanBeRecorded}
use Rattle.hm_frames.proofs.Recorded.{start_recorded}
use Rattle.hm_journal.proofs.opening.ready_start.Goals as goal

pub ready-ready-requires-clause-fits : goal.ready-ready-requires-clause-fits
ready-ready-requires-clause-fits g c = subst CanBeRecorded (sym c.in_ok-start.ensures) (start_recorded c.args.sheets.now c.requires)
