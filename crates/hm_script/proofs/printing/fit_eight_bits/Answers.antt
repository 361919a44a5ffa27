use Rattle.std.proofs.Common.{◌≡◌, ℕ, ◌<◌, nat_lt, true, get_or, arith}
use Rattle.std.proofs.lemmas.Bool.Decides.{nat_tests}
use Rattle.std.proofs.lemmas.List.Elements.{All-from_get_or}
use Rattle.std.proofs.lemmas.List.Sums.{list_all-from_AllPass}
use Rattle.hm_script.proofs.printing.fit_eight_bits.Goals as goal

below : (b : ℕ) → b < 256 → nat_lt b 256 ≡ true
below b small = grind (arith, nat_tests)

pub returns : goal.returns
returns c =
    let bytes = c.args.bytes.now in
    list_all-from_AllPass (λ b. nat_lt b 256) bytes (All-from_get_or (λ b. nat_lt b 256 ≡ true) bytes 0 (λ i within. below (get_or bytes i 0) (omega (arith, c.type_inv.bytes i))))
