use Rattle.std.proofs.Common.{◌∷◌, [], Some, inl}
use Rattle.std.proofs.lemmas.Slice.Eq.{strip_suffix_is}
use Rattle.std.proofs.lemmas.Bool.Decides.{Decides-eqb}
use Rattle.hm_script.proofs.line.without_return.Goals as goal

pub returns-in-Some : goal.returns-in-Some
returns-in-Some c = inl (strip_suffix_is Decides-eqb c.args.line.now (13 ∷ []) (Some c.in-Some.front) (rw c.as_slice.ensures at c.in-Some.ensures.cases))
