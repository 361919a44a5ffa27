use Rattle.std.proofs.Common.{◌||◌, ◌∙◌, ap, ℕ, List}
use Rattle.hm_names.specs.Ranges.{holds, joined}
use Rattle.hm_names.proofs.Ranges.{held_in_parts}
use Rattle.hm_names.proofs.range.KeyRange.join.Goals as goal

pub returns-clause-held : goal.returns-clause-held
returns-clause-held c = λ within k.
    let parts = held_in_parts (joined c.args.self c.args.other) c.args.self.end within k in
    parts ∙ ap (λ (start : List ℕ). holds c.args.self k || holds (record { start = start; end = c.args.other.end }) k) c.requires.next
