use Rattle.std.proofs.Common.{[], refl, sym, ap, ◌∙◌}
use Rattle.std.proofs.lemmas.List.{reverse-reverse}
use Rattle.hm_model.specs.Image.{counted}
use Rattle.hm_model.specs.Journal.{back}
use Rattle.hm_journal.proofs.Found.{no_frames}
use Rattle.hm_journal.proofs.Judging.{by_kind, none_by_kind}
use Rattle.hm_journal.proofs.reading.count_entries.Goals as goal

pub returns-then-count-eq0-clause-count : goal.returns-then-count-eq0-clause-count
returns-then-count-eq0-clause-count c = ([], none_by_kind c.args.sheets.now, no_frames c.args.frames.now (sym c.count.ensures.count ∙ c.if-count-eq0.true), refl)

pub returns-clause-count : goal.returns-clause-count
returns-clause-count c =
    let past = c.in_ok-state.state.past in
    let spells = c.in_ok-state.ensures.spells in
    (back past, by_kind c.args.sheets.now past spells.fits c.in_ok-state.ensures.begun, spells.are, c.counted.ensures.count ∙ ap counted (sym (reverse-reverse past)))
