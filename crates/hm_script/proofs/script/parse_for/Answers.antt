use Rattle.std.proofs.Common.{◌≡◌, ◌⊎◌, ◌+◌, ◌==◌, ◌++◌, ◌∷◌, [], List, Ok, length, map, false, true, arith, inl, inr, refl, ⊎_elim, ap, subst, sym, vec_len, ◌∙◌}
use Rattle.std.proofs.lemmas.Grind.{common_steps}
use Rattle.std.proofs.lemmas.List.{length-map, map-append}
use Rattle.std.specs.Prelude.{is_err}
use Rattle.hm_script.specs.declared.command.Command.{Command}
use Rattle.hm_script.specs.Lines.{is_skipped, lines_of}
use Rattle.hm_script.specs.Reading.{read_line}
use Rattle.hm_script.specs.Script.{IsFull, read_lines, whole}
use Rattle.hm_script.specs.Spellings.{spelling}
use Rattle.hm_script.proofs.ScriptLemmas.{Passed, line_wrong, lines_asked, lines_left, lines_skip, not_none, on_err, on_ok, passed_said, passed_skip, runs_out, unless_lacked, script_asked, script_had, script_lacked, script_long, script_told, told_bad}
use Rattle.hm_script.proofs.script.parse_for.Goals as goal

pub returns-then-bytes-gt-LONGEST-clause-bad : goal.returns-then-bytes-gt-LONGEST-clause-bad
returns-then-bytes-gt-LONGEST-clause-bad g c = inr (told_bad g.C.Commands.reader c.args.bytes.now _ (script_long (whole g.C.Commands.reader) c.args.bytes.now (omega arith)))

pub returns-in-Err-clause-bad : goal.returns-in-Err-clause-bad
returns-in-Err-clause-bad g c =
    let r = g.C.Commands.reader in
    let items = c.loop-rest.commands.items in
    let line = c.first_line.result.0.now in
    let unskipped : is_skipped line ≡ false = grind (arith, common_steps) in
    let first : c.is_empty-first.result ≡ (length items == 0) = grind (arith, common_steps) in
    let none : (length items == 0) ≡ (length (map spelling items) == 0) = ap (λ n. n == 0) (sym (length-map items spelling)) in
    ⊎_elim
    (λ m. inl (
      m.0,
      runs_out r (lines_of c.args.bytes.now) c.loop-rest.line (length items == 0) (map spelling items) c.loop-rest.invariant.passed line _ _ c.loop-rest.invariant.left c.first_line.ensures.lines none
          (inl (rw (sym c.program.ensures, sym c.most_regions.ensures, sym first) m.1)),
    ))
    (λ says. inr (told_bad r c.args.bytes.now _
    (line_wrong r (lines_of c.args.bytes.now) c.loop-rest.line (length items == 0) (map spelling items) c.loop-rest.invariant.passed line _ _ c.loop-rest.invariant.left c.first_line.ensures.lines c.args.bytes.now c.in-Err.why (omega arith) refl unskipped
    (rw (sym c.program.ensures, sym c.most_regions.ensures, sym first) says)))) c.in-Err.ensures

pub returns-in-Some-clause-bad : goal.returns-in-Some-clause-bad
returns-in-Some-clause-bad g c =
    let none : length c.loop-rest.rest.now ≡ 0 = grind (arith, common_steps) in
    inr (script_lacked g.C.Commands.reader c.args.bytes.now c.loop-rest.rest.now _ _ _ c.loop-rest.lacked (omega arith) c.loop-rest.invariant.passed c.loop-rest.invariant.left c.loop-rest.invariant.asked none c.in-Some.bad c.in-Some.is)

pub returns-in-None-clause-ok : goal.returns-in-None-clause-ok
returns-in-None-clause-ok g c =
    let none : length c.loop-rest.rest.now ≡ 0 = grind (arith, common_steps) in
    script_told g.C.Commands.reader c.args.bytes.now c.loop-rest.rest.now _ _ _ c.loop-rest.lacked (omega arith) c.loop-rest.invariant.passed c.loop-rest.invariant.left c.loop-rest.invariant.asked none c.in-None.is

pub returns-in-None-clause-had : goal.returns-in-None-clause-had
returns-in-None-clause-had g c =
    let none : length c.loop-rest.rest.now ≡ 0 = grind (arith, common_steps) in
    script_had g.C.Commands.reader c.args.bytes.now c.loop-rest.commands.items (omega arith)
    (script_asked g.C.Commands.reader c.args.bytes.now c.loop-rest.rest.now _ _ _ c.loop-rest.lacked (omega arith) c.loop-rest.invariant.passed c.loop-rest.invariant.left c.loop-rest.invariant.asked none c.in-None.is)

pub returns-then-is_err-clause-bad : goal.returns-then-is_err-clause-bad
returns-then-is_err-clause-bad g c =
    let r = g.C.Commands.reader in
    let items = c.loop-rest.commands.items in
    let line = c.first_line.result.0.now in
    let first : c.is_empty-first.result ≡ (length items == 0) = grind (arith, common_steps) in
    let none : (length items == 0) ≡ (length (map spelling items) == 0) = ap (λ n. n == 0) (sym (length-map items spelling)) in
    let long : vec_len c.loop-rest.commands ≡ length items = grind (arith, common_steps) in
    let failed : is_err c.add.result ≡ true = grind (arith, common_steps) in
    let full : IsFull (vec_len c.loop-rest.commands) = on_err c.add.result failed c.add.ensures.full in
    inl (
      refl,
      runs_out r (lines_of c.args.bytes.now) c.loop-rest.line (length items == 0) (map spelling items) c.loop-rest.invariant.passed line _ _ c.loop-rest.invariant.left c.first_line.ensures.lines none
          (inr (subst IsFull (long ∙ sym (length-map items spelling)) full, (spelling c.in-Ok.command, rw (sym c.program.ensures, sym c.most_regions.ensures, sym first) c.in-Ok.ensures))),
    )

pub loop-rest-preserved-then-skips : goal.loop-rest-preserved-then-skips
loop-rest-preserved-then-skips g c =
    let r = g.C.Commands.reader in
    let old = c.loop-rest in
    let lines = lines_of c.args.bytes.now in
    let said = map spelling old.commands.items in
    let line = c.first_line.result.0.now in
    let after = lines_of c.first_line.result.1.now in
    let next = c.first_line.ensures.lines in
    let shorter = c.first_line.ensures.shorter in
    let few = old.invariant.few in
    let count = old.invariant.count in
    let skipped : is_skipped line ≡ true = grind (arith, common_steps) in
    record {
      passed = passed_skip r lines old.line (length old.commands.items == 0) said old.invariant.passed line _ after old.invariant.left next skipped;
      left = lines_left old.line lines line _ after old.invariant.left next;
      asked = old.invariant.asked
          ∙ ap (λ ls. unless_lacked old.lacked said (read_lines r (old.line + 1) (length old.commands.items == 0) ls)) next
          ∙ ap (unless_lacked old.lacked said) (lines_skip r (old.line + 1) (length old.commands.items == 0) line after skipped);
      few = omega (arith, few, shorter);
      count = omega (arith, count);
      fits = old.invariant.fits;
      there = old.invariant.there;
      made = old.invariant.made;
    }

pub loop-rest-preserved : goal.loop-rest-preserved
loop-rest-preserved g c =
    let r = g.C.Commands.reader in
    let old = c.loop-rest in
    let items = old.commands.items in
    let new = c.add.new.commands in
    let lines = lines_of c.args.bytes.now in
    let said = map spelling items in
    let one = spelling c.in-Ok.command in
    let line = c.first_line.result.0.now in
    let after = lines_of c.first_line.result.1.now in
    let next = c.first_line.ensures.lines in
    let shorter = c.first_line.ensures.shorter in
    let few = old.invariant.few in
    let count = old.invariant.count in
    let unskipped : is_skipped line ≡ false = grind (arith, common_steps) in
    let first : c.is_empty-first.result ≡ (length items == 0) = grind (arith, common_steps) in
    let done : is_err c.add.result ≡ false = grind (arith, common_steps) in
    let added : new.items ≡ items ++ c.in-Ok.command ∷ [] = on_ok c.add.result done c.add.ensures.items in
    let counted : vec_len new ≡ vec_len old.commands + 1 = on_ok c.add.result done c.add.ensures.count in
    let all : map spelling new.items ≡ said ++ one ∷ [] = ap (map spelling) added ∙ map-append spelling items (c.in-Ok.command ∷ []) in
    let some : (length new.items == 0) ≡ false = ap (λ (xs : List Command). length xs == 0) added ∙ not_none items c.in-Ok.command in
    let says : read_line r.program r.most_regions (length items == 0) line ≡ Ok one = rw (sym c.program.ensures, sym c.most_regions.ensures, sym first) c.in-Ok.ensures in
    let lacked = c.first_lacked-lacked in
    let passed : Passed r lines (old.line + 1) false (said ++ one ∷ []) = passed_said r lines old.line (length items == 0) said old.invariant.passed line _ after old.invariant.left next one unskipped says in
    let asked : read_lines r 1 true lines ≡ unless_lacked lacked.result (said ++ one ∷ []) (read_lines r (old.line + 1 + 1) false after) =
    old.invariant.asked
    ∙ ap (λ ls. unless_lacked old.lacked said (read_lines r (old.line + 1) (length items == 0) ls)) next
    ∙ lines_asked r old.lacked lacked.result said one (old.line + 1) (length items == 0) line after unskipped says lacked.ensures.kept lacked.ensures.had lacked.ensures.lacked in
    record {
      passed = subst (λ b. Passed r lines (old.line + 1) b (map spelling new.items)) (sym some) (subst (λ s. Passed r lines (old.line + 1) false s) (sym all) passed);
      left = lines_left old.line lines line _ after old.invariant.left next;
      asked = asked ∙ ap (λ s. unless_lacked lacked.result s (read_lines r (old.line + 1 + 1) false after)) (sym all)
          ∙ ap (λ b. unless_lacked lacked.result (map spelling new.items) (read_lines r (old.line + 1 + 1) b after)) (sym some);
      few = omega (arith, few, shorter);
      count = omega (arith, count, counted);
      fits = on_ok c.add.result done c.add.ensures.fits;
      there = on_ok c.add.result done c.add.ensures.there;
      made = on_ok c.add.result done c.add.ensures.made;
    }
