-- Scripts that are refused.
use Rattle.std.proofs.Common.{◌≡◌, ℕ, ◌<◌, List, length, replicate, subst, arith}
use Rattle.std.proofs.lemmas.List.{length-replicate}
use Rattle.hm_script.proofs.ScriptLemmas.{script_long, told_bad}
use Rattle.hm_script.specs.Script.{whole}
use Rattle.hm_script.specs.declared.bad.Bad.{Bad}
use Rattle.hm_script.specs.declared.bad.Why.TheVariants.{TooLong}
use Rattle.hm_top.specs.declared.ending.ScriptEnd.TheVariants as end_is
use Rattle.hm_commands.specs.Offered.{offered}
use Rattle.hm_top.specs.Script.{IsBad}

-- bytes that are too many
pub refused_long : (bytes : List ℕ) → 1048576 < length bytes → (bad : Bad) → end_is.Bad (record { line = 0; why = TooLong }) ≡ end_is.Bad bad → IsBad bytes bad
refused_long bytes long bad e =
    let told : Bad = record { line = 0; why = TooLong } in
    let same : told ≡ bad = cc in
    subst (IsBad bytes) same (told_bad offered bytes told (script_long (whole offered) bytes long))

-- so many bytes
zeros : (n : ℕ) → (bytes : List ℕ) × (length bytes ≡ n)
zeros n = (replicate n 0, length-replicate n 0)

pub some_long : (bytes : List ℕ) × (1048576 < length bytes)
some_long = let many = zeros 1048577 in (many.0, omega (arith, many.1))
