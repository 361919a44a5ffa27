use Rattle.std.proofs.Common.{Option, ap, sym, ◌∙◌}
use Rattle.std.proofs.lemmas.Bool.{false≢true}
use Rattle.hm_names.specs.declared.range.KeyRange.{KeyRange}
use Rattle.hm_ranges.specs.Ranges.{is_apart_if}
use Rattle.hm_ranges.proofs.Beside.{fits_beside, lower_apart, upper_apart}
use Rattle.hm_ranges.proofs.spot.fits_among.Goals as goal

pub returns-then-is_apart : goal.returns-then-is_apart
returns-then-is_apart c =
    let range = c.args.range.now in
    let at = c.starting_before-at.result in
    let lower = ap (λ (o : Option KeyRange). is_apart_if o range) (rw c.split_at.ensures.front at c.last.ensures.value) in
    let upper = ap (λ (o : Option KeyRange). is_apart_if o range) (rw c.split_at.ensures.back at c.first.ensures.value) in (
      λ on. fits_beside range c.args.ranges.now at c.starting_before-at.ensures.limit c.requires (sym c.if-not-holds.ensures) c.starting_before-at.ensures.point
          (sym lower ∙ sym c.if-is_apart.ensures) (sym upper ∙ sym c.is_apart-then-is_apart.ensures ∙ on),
      λ fits. c.is_apart-then-is_apart.ensures ∙ upper ∙ upper_apart range c.args.ranges.now at fits,
    )

pub returns-else-is_apart : goal.returns-else-is_apart
returns-else-is_apart c =
    let range = c.args.range.now in
    let lower = ap (λ (o : Option KeyRange). is_apart_if o range) (rw c.split_at.ensures.front at c.last.ensures.value) in (
      λ on. absurd (false≢true (sym c.if-is_apart.false ∙ on)),
      λ fits. c.is_apart.ensures ∙ lower ∙ lower_apart range c.args.ranges.now c.starting_before-at.result fits,
    )
