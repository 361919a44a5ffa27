use Rattle.hm_roster.proofs.desk.Desk.behind_report.Goals as goal

pub hear_uncounted-requires-clause-heard : goal.hear_uncounted-requires-clause-heard
hear_uncounted-requires-clause-heard c = (c.args.told, c.requires)
