use Rattle.std.proofs.Common.{ℕ, take}
use Rattle.hm_model.specs.Journal.{back}
use Rattle.hm_journal.specs.Judged.{HasBegunWith, PartsEnd, Spells}
use Rattle.hm_journal.specs.View.{IsOrigin}
use Rattle.hm_journal.proofs.reading.read_others.Given as goal

abbrev pub invariant-loop-number : goal.invariant-loop-number
invariant-loop-number l = record {
  so_far : Spells (take l.number l.frames) (back l.state.past);
  ends : PartsEnd l.frames l.number l.state.past;
  begun : HasBegunWith l.sheets l.state.past;
  origin : (parts based : ℕ) → IsOrigin parts based (back l.fn.state.past) → IsOrigin parts based (back l.state.past);
}
