use Rattle.std.proofs.Common.{map, None, Some, refl, subst}
use Rattle.std.proofs.lemmas.Bool.{false≢true}
use Rattle.hm_ranges.specs.Holes.{IsLeast}
use Rattle.hm_ranges.proofs.Sorted.{least_sorted}
use Rattle.hm_base.proofs.cover.is_covered.Goals as goal

pub returns : goal.returns
returns c =
    let least = least_sorted _ (map (λ range. range.now) c.in_ok-ranges.ranges.items) c.in_ok-ranges.ensures.same None
    (subst (λ list. IsLeast (map (λ range. range.now) list) None) c.deref.ensures.value c.in-None.ensures) in
    (λ e. least, λ none. refl)

pub returns-in-Some : goal.returns-in-Some
returns-in-Some c =
    let key = c.in-Some.field-0.now in
    let least = least_sorted _ (map (λ range. range.now) c.in_ok-ranges.ranges.items) c.in_ok-ranges.ensures.same (Some key)
    (subst (λ list. IsLeast (map (λ range. range.now) list) (Some key)) c.deref.ensures.value c.in-Some.ensures) in
    (λ e. absurd (false≢true e), λ none. absurd (none key least.0))
