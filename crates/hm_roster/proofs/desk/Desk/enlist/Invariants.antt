use Rattle.std.proofs.Common.{◌+◌, ◌∷◌}
use Rattle.hm_data.specs.declared.entry.Entry.{Entry}
use Rattle.hm_model.specs.Tree.{made}
use Rattle.hm_tied.specs.Uses.{EnlistsBelow}
use Rattle.hm_roster.specs.Desk.{HasMore, IsSameButBook, Makes}
use Rattle.hm_roster.specs.Roster.{rows_on}
use Rattle.hm_roster.proofs.desk.Desk.enlist.Given as goal

abbrev pub invariant-loop-place : goal.invariant-loop-place
invariant-loop-place l = record {
  same : IsSameButBook l.fn.self l.self;
  more : HasMore l.records.past l.self l.place;
  begun : (entry : Entry) → Makes l.records.past entry l.made l.parent → EnlistsBelow l.records.past (entry ∷ l.records.past) (rows_on l.fn.self) (rows_on l.self) (made l.records.past + 1 + l.place);
}
