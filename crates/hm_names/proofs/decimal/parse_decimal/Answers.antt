use Rattle.std.proofs.Common.{◌≡◌, ℕ, ◌<◌, ◌^◌, sym, ◌∙◌, ap, subst, arith}
use Rattle.std.specs.Str.{IsUtf8}
use Rattle.std.specs.Fmt.{decimal}
use Rattle.std.proofs.lemmas.Grind.{common_steps}
use Rattle.std.proofs.lemmas.Fmt.{parse-decimal, IsAscii-decimal}
use Rattle.std.proofs.lemmas.Slice.Eq.{bytes_eq-Decides}
use Rattle.std.proofs.lemmas.Str.{IsUtf8-from_ascii}
use Rattle.hm_names.specs.Decimal.{number_of}
use Rattle.hm_names.proofs.Decimals.{number_of-None, number_of-decimal}
use Rattle.hm_names.proofs.decimal.parse_decimal.Goals as goal

pub returns-in_default-clause-none : goal.returns-in_default-clause-none
returns-in_default-clause-none c = λ n small e. c.in_default.ensures.cases.0 (subst IsUtf8 (sym e) (IsUtf8-from_ascii (decimal n) (IsAscii-decimal n small)))

pub returns-in_default-clause-number : goal.returns-in_default-clause-number
returns-in_default-clause-number c = number_of-None _ (returns-in_default-clause-none c)

pub returns-in_default-parse-clause-none : goal.returns-in_default-parse-clause-none
returns-in_default-parse-clause-none c = λ n small e.
    let text : c.in-Ok.digits.now ≡ decimal n = c.in-Ok.ensures.cases.0 ∙ e in
    let parsed = parse-decimal 64 n c.in-Ok.digits.now c.parse.result small small text c.parse.ensures.value.0 in
    let refused = c.in_default-parse.is in cc

pub returns-in_default-parse-clause-number : goal.returns-in_default-parse-clause-number
returns-in_default-parse-clause-number c = number_of-None _ (returns-in_default-parse-clause-none c)

pub returns-then-eq-clause-number : goal.returns-then-eq-clause-number
returns-then-eq-clause-number c =
    let parsed = c.in-Ok-parse.ensures.value.0 in
    let small : c.in-Ok-parse.number < 2 ^ 64 = subst (λ (k : ℕ). k < 2 ^ 64) (sym parsed.1) parsed.0.1 in
    let printed = (bytes_eq-Decides c.format.result.now c.in-Ok.digits.now).0 (sym c.if-eq.ensures) in
    let text : c.args.text.now ≡ decimal c.in-Ok-parse.number = sym c.in-Ok.ensures.cases.0 ∙ sym printed ∙ c.format.ensures.text in
    sym (ap number_of text ∙ number_of-decimal c.in-Ok-parse.number small)

pub returns-else-eq-clause-none : goal.returns-else-eq-clause-none
returns-else-eq-clause-none c = λ n small e.
    let text : c.in-Ok.digits.now ≡ decimal n = c.in-Ok.ensures.cases.0 ∙ e in
    let parsed = parse-decimal 64 n c.in-Ok.digits.now c.parse.result small small text c.parse.ensures.value.0 in
    let is = c.in-Ok-parse.is in
    let same : c.in-Ok-parse.number ≡ n = cc in
    let printed = c.format.ensures.text in
    let equal : c.format.result.now ≡ c.in-Ok.digits.now = cc in
    let test = (bytes_eq-Decides c.format.result.now c.in-Ok.digits.now).1 equal in
    grind (arith, common_steps, test)

pub returns-else-eq-clause-number : goal.returns-else-eq-clause-number
returns-else-eq-clause-number c = number_of-None _ (returns-else-eq-clause-none c)
