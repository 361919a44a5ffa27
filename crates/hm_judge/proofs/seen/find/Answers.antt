use Rattle.std.proofs.Common.{◌≡◌, ◌≤◌, IfSome, Some, None, ap, ◌∙◌}
use Rattle.std.specs.Option.{option_copied}
use Rattle.hm_model.specs.Editions.{editions}
use Rattle.hm_model.specs.Journal.{Past}
use Rattle.hm_model.specs.Records.{record_of}
use Rattle.hm_judge.proofs.Editions.{shown_within}
use Rattle.hm_judge.proofs.seen.find.Goals as goal

pub returns-clause-edition : goal.returns-clause-edition
returns-clause-edition c =
    let J : Past = c.args.records.now.past in
    let said : option_copied c.find.result ≡ record_of J c.args.pid.0 = c.find.ensures ∙ ap (λ (l : Past). record_of l c.args.pid.0) c.procedures.ensures.past in
    elim c.find.result as (λ o. option_copied o ≡ record_of J c.args.pid.0 → IfSome o (λ found. found.now.edition ≤ editions J)) [
      | None ↦ λ e. tt
      | Some found ↦ λ e. shown_within J c.args.pid.0 found.now e
    ] said
