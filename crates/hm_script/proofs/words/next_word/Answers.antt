use Rattle.std.proofs.Common.{◌<◌, length, sym, ◌∙◌, arith}
use Rattle.std.proofs.lemmas.Bool.Decides.{nat_tests}
use Rattle.std.proofs.lemmas.Grind.{common_steps}
use Rattle.std.proofs.lemmas.List.Elements.{recursion_from_All}
use Rattle.hm_script.proofs.WordLemmas.{first_word, words_whole}
use Rattle.hm_script.proofs.words.next_word.Goals as goal

pub returns-in-Some : goal.returns-in-Some
returns-in-Some c =
    let found = c.in-Some.ensures in
    sym c.skip_spaces-rest.ensures.words
    ∙ first_word c.skip_spaces-rest.result.now c.in-Some.end found.found.0 found.found.1 c.skip_spaces-rest.ensures.begins (recursion_from_All _ _ found.first)
    ∙ grind (arith, common_steps)

pub returns-in-None : goal.returns-in-None
returns-in-None c =
    let some : 0 < length c.skip_spaces-rest.result.now = grind (arith, nat_tests) in
    sym c.skip_spaces-rest.ensures.words ∙ words_whole c.skip_spaces-rest.result.now some (recursion_from_All _ _ c.in-None.ensures.none)
