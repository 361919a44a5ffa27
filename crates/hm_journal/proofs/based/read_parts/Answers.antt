use Rattle.std.proofs.Common.{◌≡◌, [], ◌∷◌, arith, false, length-append, subst, sym}
use Rattle.std.specs.Prelude.{MatchOption}
use Rattle.std.proofs.lemmas.Result.{err_from_is_err_and}
use Rattle.hm_data.specs.declared.entry.Entry.TheVariants as entry_is
use Rattle.hm_model.specs.Laws.{is_part}
use Rattle.hm_journal.specs.Judged.{AreLeading}
use Rattle.hm_journal.proofs.Started.{parts_all, parts_before, parts_more}
use Rattle.hm_journal.proofs.based.read_parts.Goals as goal

pub returns-in_default-clause-parts : goal.returns-in_default-clause-parts
returns-in_default-clause-parts c =
    let frames = c.args.frames.now in
    let read = c.in_ok-part.ensures.part in
    let before = c.loop-number.invariant in
    let other = subst (λ o. MatchOption o (is_part read.0 ≡ false) (λ part. read.0 ≡ entry_is.Base part)) c.in_default.is read.2 in
    subst (AreLeading frames) (sym c.of.ensures) (parts_before frames c.loop-number.number c.loop-number.parts.items read.0 before.count before.so_far read.1 other)

pub returns-in_err-push-clause-why : goal.returns-in_err-push-clause-why
returns-in_err-push-clause-why c =
    let p = err_from_is_err_and c.from_residual-in_err-push.result c.from_residual-in_err-push.ensures.1 in
    rw (p.1, p.2) (0, tt)

pub loop-number-preserved : goal.loop-number-preserved
loop-number-preserved c =
    let read = c.in_ok-part.ensures.part in
    let before = c.loop-number.invariant in
    let items = c.loop-number.parts.items in
    let pushed = c.in_ok-push.ensures.items in
    let is = subst (λ o. MatchOption o (is_part read.0 ≡ false) (λ part. read.0 ≡ entry_is.Base part)) c.in-Some.is read.2 in
    record {
      count = rw pushed (omega (arith, length-append items (c.in-Some.part ∷ []), before.count));
      so_far = parts_more c.args.frames.now c.loop-number.number items c.push.new.self.items c.in-Some.part read.0 before.so_far read.1 is pushed;
    }

pub returns-clause-parts : goal.returns-clause-parts
returns-clause-parts c =
    let frames = c.args.frames.now in
    let before = c.loop-number.invariant in
    subst (AreLeading frames) (sym c.of-2.ensures)
    (parts_all frames c.loop-number.number c.loop-number.parts.items before.count (omega (arith, c.count-number-end.ensures.count, c.loop-number-test.false)) before.so_far)
