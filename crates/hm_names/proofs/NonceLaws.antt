-- A nonce's text is read as the nonce, and no other text is.
use Rattle.std.proofs.Common.{◌≡◌, ℕ, ◌+◌, ◌<◌, ◌^◌, ◌==◌, Bool, cond, true, false, List, ◌∷◌, ◌++◌, length, Option, Some, None, Ok, Err, refl, ap, ◌∙◌, arith}
use Rattle.std.specs.Fmt.{decimal}
use Rattle.std.proofs.lemmas.List.{append_assoc}
use Rattle.hm_names.specs.declared.fault.NameFault.TheVariants.{Empty}
use Rattle.hm_names.specs.declared.nonce.Nonce.{Nonce}
use Rattle.hm_names.specs.Nonces.{IsNonce, nonce_text, nonce_of, nonce_parts, read_nonce}
use Rattle.hm_names.specs.Cuts.{cut_first}
use Rattle.hm_names.specs.Decimal.{number_of}
use Rattle.hm_names.proofs.Cuts.{Lacks, is_empty-at, cut_first-at, cut_first-Some}
use Rattle.hm_names.proofs.Decimals.{number_of-Some, number_of-decimal, digit_of_decimal}

lacks_colon : (n : ℕ) → n < 2 ^ 64 → Lacks 58 (decimal n)
lacks_colon n small i within = let h = digit_of_decimal n i small within in λ e. absurd (omega arith)

pub read_nonce-nonce_text : (v : Nonce) → IsNonce v → read_nonce (nonce_text v) ≡ Ok v
read_nonce-nonce_text v fits =
    let g = decimal v.group in
    let n = decimal v.number in
    let parts = cut_first-at 58 g n (lacks_colon v.group fits.0) in
    let group = number_of-decimal v.group fits.0 in
    let number = number_of-decimal v.number fits.1 in
    rw (append_assoc, is_empty-at 58 g n, parts, group, number)

nonce_of-Ok : (place : ℕ) (group number : Option ℕ) (v : Nonce) → nonce_of place group number ≡ Ok v → (group ≡ Some v.group) × (number ≡ Some v.number)
nonce_of-Ok place None number v e = cc
nonce_of-Ok place (Some g) None v e = cc
nonce_of-Ok place (Some g) (Some n) v e =
    let same : record { group = g; number = n } ≡ v = cc in
    (ap (λ (w : Nonce). Some w.group) same, ap (λ (w : Nonce). Some w.number) same)

nonce_parts-Ok : (text : List ℕ) (parts : Option (List ℕ × List ℕ)) (v : Nonce) → cut_first 58 text ≡ parts → nonce_parts text parts ≡ Ok v → text ≡ nonce_text v
nonce_parts-Ok text None v at e = cc
nonce_parts-Ok text (Some (xs, ys)) v at e =
    let numbers = nonce_of-Ok (length xs + 1) (number_of xs) (number_of ys) v e in
    let group = (number_of-Some xs v.group numbers.0).0 in
    let number = (number_of-Some ys v.number numbers.1).0 in
    rw append_assoc (cut_first-Some 58 text xs ys at ∙ ap (λ zs. zs ++ 58 ∷ ys) group ∙ ap (λ zs. decimal v.group ++ 58 ∷ zs) number)

nonce_if-Ok : (empty : Bool) (text : List ℕ) (v : Nonce) → cond empty (Err Empty) (nonce_parts text (cut_first 58 text)) ≡ Ok v → text ≡ nonce_text v
nonce_if-Ok true text v e = cc
nonce_if-Ok false text v e = nonce_parts-Ok text (cut_first 58 text) v refl e

pub read_nonce-Ok : (text : List ℕ) (v : Nonce) → read_nonce text ≡ Ok v → text ≡ nonce_text v
read_nonce-Ok text v e = nonce_if-Ok (length text == 0) text v e
