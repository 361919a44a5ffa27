use Rattle.hm_roster.proofs.Entries.{down_roots}
use Rattle.hm_roster.proofs.desk.Desk.behind_down.Goals as goal

pub line_up_last_uncounted-requires-clause-rooted : goal.line_up_last_uncounted-requires-clause-rooted
line_up_last_uncounted-requires-clause-rooted c = down_roots c.args.records.now.past c.procedures-legal.ensures.legal c.requires.0 c.args.self.now c.requires.1
