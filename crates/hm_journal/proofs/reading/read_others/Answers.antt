use Rattle.std.proofs.Common.{sym, subst}
use Rattle.std.proofs.lemmas.Result.{err_from_is_err_and}
use Rattle.hm_model.specs.Journal.{Past}
use Rattle.hm_journal.specs.Judged.{EndsInOther, HasBegunWith}
use Rattle.hm_journal.proofs.Judging.{begun_more, origin_more}
use Rattle.hm_journal.proofs.Places.{not_added_from}
use Rattle.hm_journal.proofs.Spelled.{spells_newer}
use Rattle.hm_journal.proofs.reading.read_others.Goals as goal

pub returns-in_err-read_next-clause-why : goal.returns-in_err-read_next-clause-why
returns-in_err-read_next-clause-why c entries spells =
    let p = err_from_is_err_and c.from_residual.result c.from_residual.ensures.1 in
    let before = c.loop-number.invariant in
    rw (p.1, p.2)
    (not_added_from c.args.sheets.now c.args.frames.now c.loop-number.number c.loop-number.state.past entries before.so_far before.begun spells
    c.in_err-read_next.field-0.0 c.in_err-read_next.ensures.why)

pub loop-number-preserved : goal.loop-number-preserved
loop-number-preserved c =
    let before = c.loop-number.invariant in
    let past = c.loop-number.state.past in
    let new = c.read_next.new.state.past in
    let added = c.in_ok-read_next.ensures.added in
    let laws = c.parts_stand_first.ensures in
    record {
      so_far = spells_newer c.args.frames.now c.loop-number.number past new added.0 before.so_far added.1 added.2;
      ends = λ entry here part. subst EndsInOther (sym added.2) added.4;
      begun = subst (λ (J : Past). HasBegunWith c.args.sheets.now J) (sym added.2) (begun_more c.args.sheets.now past added.0 before.begun added.3 added.4 added.5);
      origin = λ parts based was. origin_more laws.parts laws.behind parts based past new added.0 added.4 added.2 (before.origin parts based was);
    }
