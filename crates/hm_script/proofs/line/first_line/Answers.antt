use Rattle.std.proofs.Common.{◌+◌, take, drop, ap, ◌∙◌}
use Rattle.std.proofs.lemmas.List.Elements.{recursion_from_All}
use Rattle.std.proofs.lemmas.List.{take_rest}
use Rattle.hm_script.specs.Lines.{lines_of}
use Rattle.hm_script.proofs.LineLemmas.{lines_ended, lines_whole}
use Rattle.hm_script.proofs.line.first_line.Goals as goal

pub returns-in-Some-clause-lines : goal.returns-in-Some-clause-lines
returns-in-Some-clause-lines c =
    let bytes = c.args.bytes.now in
    let found = c.in-Some.ensures in
    ap lines_of found.found.1
    ∙ lines_ended c.without_return.result.now (take c.in-Some.end bytes) (drop (c.in-Some.end + 1) bytes) (recursion_from_All _ _ found.first) c.without_return.ensures
    ∙ simp take_rest

pub returns-in-None-clause-lines : goal.returns-in-None-clause-lines
returns-in-None-clause-lines c = lines_whole c.args.bytes.now c.requires (recursion_from_All _ _ c.in-None.ensures.none)
