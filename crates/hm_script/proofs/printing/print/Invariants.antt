use Rattle.std.proofs.Common.{◌≡◌, ℕ, take}
use Rattle.std.specs.Prelude.{All}
use Rattle.hm_script.specs.Printing.{IsFitting}
use Rattle.hm_script.specs.Script.{IsSpelled, script_text}
use Rattle.hm_script.specs.Spellings.{spelling}
use Rattle.hm_script.proofs.printing.print.Given as goal

abbrev pub invariant-loop-command : goal.invariant-loop-command
invariant-loop-command l = record {
  written : l.out.items ≡ script_text (take l.command-index l.commands);
  fit : (most : ℕ) → All (λ c. IsSpelled most c → IsFitting most (spelling c)) (take l.command-index l.commands);
}
