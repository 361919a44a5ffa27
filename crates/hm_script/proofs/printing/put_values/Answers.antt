use Rattle.std.proofs.Common.{◌∷◌, List, length, map, subst, sym}
use Rattle.std.specs.Prelude.{OnOk}
use Rattle.hm_names.specs.Region.{Region}
use Rattle.hm_script.specs.declared.command.Command.{Command}
use Rattle.hm_script.specs.declared.keyword.Keyword.TheVariants.{Merge}
use Rattle.hm_script.specs.Printing.{FitPlain, IsFitting}
use Rattle.hm_script.specs.Script.{AreMergeable, IsSpelled}
use Rattle.hm_script.specs.Spellings.{spelling}
use Rattle.hm_script.specs.Values.{of_nonce, of_region}
use Rattle.hm_script.proofs.printing.put_values.Goals as goal

pub returns-in-Merge-clause-fit : goal.returns-in-Merge-clause-fit
returns-in-Merge-clause-fit c most =
    subst (λ (command : Command). IsSpelled most command → OnOk c.put_merge.result (IsFitting most (spelling command))) (sym c.in-Merge.is)
    (subst (λ (regions : List Region). AreMergeable most (length regions) → OnOk c.put_merge.result (FitPlain most Merge (of_nonce c.in-Merge.nonce ∷ map of_region regions)))
    c.as_slice-in-Merge.ensures (c.put_merge.ensures.fit most))
