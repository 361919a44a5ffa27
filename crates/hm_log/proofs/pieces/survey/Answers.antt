use Rattle.std.proofs.Common.{rules, ◌≡◌, ◌≢◌, ◌≤◌, length, take, drop, get_or, refl, sym, ◌∙◌, ap, subst, arith}
use Rattle.std.proofs.lemmas.Result.{IfOk-weaker}
use Rattle.hm_log.specs.Format.{head, told_place, NoBody}
use Rattle.hm_log.specs.Pieces.{IsSpanOf}
use Rattle.hm_log.proofs.Finding.{body_within, head_byte, head_magic, moved_span, plain_span}
use Rattle.hm_log.proofs.Layouts.{is_moved, is_plain}
use Rattle.hm_log.proofs.pieces.survey.Goals as goal

pub returns-then-head-eq43-clause-span : goal.returns-then-head-eq43-clause-span
returns-then-head-eq43-clause-span g c tells =
    let seen = g.D.Disk.seen c.args.disk.now in
    let size = c.args.size in
    let piece = c.read.new.into in
    let n = length piece in
    let is : piece ≡ take n (drop 0 seen) = search rules in
    let long : n ≡ c.min.result = search rules in
    let none = c.in_default.ensures.none in
    let newer : get_or seen 8 0 ≢ 1 = λ one. c.if-head-eq1.false (sym (head_byte seen piece n 8 is (omega (arith, none.0))) ∙ one) in
    let eleven : 11 ≤ length seen = omega (arith, none.2 c.if-head-eq1.false, long, c.min.ensures, c.requires.size tells) in
    let same : size ≡ length seen = c.requires.size tells in
    let mid = g.D.Disk.seen c.read.new.disk in
    let before : mid ≡ seen = c.read.ensures.only_reads.untouched.reads in
    IfOk-weaker c.survey_moved.result _ _
    (λ span b.
    let there : NoBody span.first (length seen) → ⊥ = λ none. b.3 (subst (λ m. NoBody span.first m) (sym same) none) in
    subst (λ l. IsSpanOf seen l span.first span.limit) (sym b.0)
    (moved_span seen span.first span.limit (omega (arith, body_within span.first (length seen) there))
    (is_moved seen span.first span.limit (b.2 ∙ same) eleven (head_magic seen piece n is (omega (arith, none.0)) none.1) newer (head_byte seen piece n 9 is (omega (arith, none.0)) ∙ c.if-head-eq43.true)
    (b.1 ∙ ap told_place before) there)))
    (c.survey_moved.ensures.body tells)

pub returns-clause-span : goal.returns-clause-span
returns-clause-span g c tells =
    let seen = g.D.Disk.seen c.args.disk.now in
    let piece = c.read.new.into in
    let n = length piece in
    let is : piece ≡ take n (drop 0 seen) = search rules in
    let none = c.in_default.ensures.none in
    let newer : get_or seen 8 0 ≢ 1 = λ one. c.if-head-eq1.false (sym (head_byte seen piece n 8 is (omega (arith, none.0))) ∙ one) in
    let off : get_or seen 9 0 ≢ 43 = λ plus. c.if-head-eq43.false (sym (head_byte seen piece n 9 is (omega (arith, none.0))) ∙ plus) in
    let long : n ≡ c.min.result = search rules in
    plain_span seen (head (get_or seen 8 0) (get_or seen 9 0)) c.args.size refl
    (is_plain seen c.args.size (c.requires.size tells) (omega (arith, none.0, long, c.min.ensures, c.requires.size tells)) (head_magic seen piece n is (omega (arith, none.0)) none.1) newer off)
