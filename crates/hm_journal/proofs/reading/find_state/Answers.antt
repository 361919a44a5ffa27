use Rattle.std.proofs.Common.{◌≡◌, List, [], ◌∷◌, length, ap, sym, ◌∙◌, subst, arith}
use Rattle.std.proofs.lemmas.Grind.{common_steps}
use Rattle.hm_data.specs.declared.entry.Entry.{Entry}
use Rattle.hm_data.specs.declared.entry.Entry.TheVariants as entry_is
use Rattle.hm_model.specs.Journal.{back}
use Rattle.hm_journal.specs.Stored.{IsJournal, frames_of, opened}
use Rattle.hm_journal.specs.View.{IsOrigin}
use Rattle.hm_journal.specs.declared.origin.Origin.{Origin}
use Rattle.hm_journal.proofs.Found.{new_journal, opened_past}
use Rattle.hm_journal.proofs.Images.{ok_three}
use Rattle.hm_journal.proofs.Judging.{is_journal}
use Rattle.hm_journal.proofs.reading.find_state.Goals as goal

pub returns-clause-state : goal.returns-clause-state
returns-clause-state c =
    let sheets = c.args.sheets.now in
    ok_three c.read_journal.result _ _ _ _
    (λ read spells begun origin. (_, is_journal sheets read.0.past c.requires spells.fits begun, spells.are, opened_past sheets read.0.past begun, origin))
    c.read_journal.ensures.spells c.read_journal.ensures.begun c.read_journal.ensures.origin

pub returns-then-count-eq0-clause-state : goal.returns-then-count-eq0-clause-state
returns-then-count-eq0-clause-state c =
    let none : length c.args.frames.now ≡ 0 = grind (arith, common_steps) in
    let sheets = c.args.sheets.now in
    let frames = c.args.frames.now in
    let past = c.in_ok-state.state.past in
    subst (λ (o : Origin). (journal : List Entry) × IsJournal sheets journal × (frames_of journal ≡ frames) × (past ≡ back (opened sheets journal)) × IsOrigin o.parts o.based journal) (sym c.none.ensures)
    (new_journal sheets frames past none (c.in_ok-state.ensures ∙ ap (λ s. entry_is.Start s ∷ []) c.in_ok-copy_sheets.ensures))
