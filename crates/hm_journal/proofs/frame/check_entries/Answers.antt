use Rattle.std.proofs.Common.{[], ◌∷◌, ◌++◌, refl}
use Rattle.hm_journal.proofs.Spelled.{spells_more}
use Rattle.hm_journal.proofs.frame.check_entries.Goals as goal

pub loop-number-preserved : goal.loop-number-preserved
loop-number-preserved c =
    let before = c.loop-number.invariant in
    let more = before.0 ++ c.in_ok-read_entry.field-0 ∷ [] in
    (more, spells_more c.args.frames.now c.loop-number.number before.0 more c.in_ok-read_entry.field-0 before.1 c.in_ok-read_entry.ensures.entry refl)
