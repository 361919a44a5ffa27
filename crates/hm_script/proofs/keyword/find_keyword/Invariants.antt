use Rattle.std.proofs.Common.{◌≡◌, drop}
use Rattle.hm_script.specs.Keywords.{keyword_in}
use Rattle.hm_script.proofs.keyword.find_keyword.Given as goal

abbrev pub invariant-loop-keyword : goal.invariant-loop-keyword
invariant-loop-keyword l = keyword_in (drop l.keyword-index l.keywords) l.word ≡ keyword_in l.keywords l.word
