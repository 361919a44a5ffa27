use Rattle.std.proofs.Common.{◌≡◌, ◌≤◌, ◌+◌, ◌++◌, All, length, map, vec_len}
use Rattle.std.specs.Vec.{vec_capacity}
use Rattle.std.specs.Vec.Iter.{into_iter_items, into_iter_len}
use Rattle.hm_model.specs.Editions.{editions}
use Rattle.hm_model.specs.Journal.{back}
use Rattle.hm_model.specs.Sheets.{sheets_of}
use Rattle.hm_sheet.specs.Registry.{IsRegistryBy, sheets_by}
use Rattle.hm_commands.specs.Hands.{Ran}
use Rattle.hm_commands.specs.Scenes.{journal_at}
use Rattle.hm_commands.specs.View.{scene_in}
use Rattle.hm_top.proofs.Sessions.{SoFar}
use Rattle.hm_top.proofs.answering.answer_all.Given as goal

abbrev pub invariant-loop-command : goal.invariant-loop-command
invariant-loop-command g l = record {
  answered : SoFar g.K.Sink.tells (g.K.Sink.got l.fn.out) (g.K.Sink.got l.out) l.yielded (scene_in l.fn.cluster) l.marks.items (scene_in l.cluster);
  parts : l.fn.commands.items ≡ l.yielded ++ into_iter_items l.command-iterator;
  counted : into_iter_len l.command-iterator ≡ length (into_iter_items l.command-iterator);
  room : vec_len l.marks + length (into_iter_items l.command-iterator) ≤ vec_capacity l.marks;
  begun : sheets_of (back (journal_at (scene_in l.cluster))) ≡ sheets_of (back (journal_at (scene_in l.fn.cluster)));
  edition : editions (back (journal_at (scene_in l.cluster))) ≡ editions (back (journal_at (scene_in l.fn.cluster)));
  opened : l.cluster.recorder.opened ≡ l.fn.cluster.recorder.opened;
  ran : Ran (record {
    before = map (λ r. sheets_by (goal.Handler-dyn g) r) l.fn.hands.items;
    after = map (λ r. sheets_by (goal.Handler-dyn g) r) l.hands.items;
    runs_before = map (λ r. r.runs) l.fn.hands.items;
    runs_after = map (λ r. r.runs) l.hands.items;
  }) (journal_at (scene_in l.fn.cluster)) (journal_at (scene_in l.cluster));
  each : All (λ r. IsRegistryBy (goal.Handler-dyn g) r) l.hands.items;
  sink_later : g.K.Sink.faults l.fn.out ≤ g.K.Sink.faults l.out;
}
