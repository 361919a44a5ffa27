-- Small laws of lists.
use Rattle.std.proofs.Common.{◌≡◌, ℕ, zero, suc, ◌+◌, List, [], ◌∷◌, ◌++◌, append_assoc, refl, ap, ◌∙◌, arith}
use Rattle.hm_names.specs.Server.{Server}
use Rattle.hm_balance.specs.Plan.{times, paired}

pub times_push : (n : ℕ) (name : Server) → times n name ++ name ∷ [] ≡ times (n + 1) name
times_push zero name = refl
times_push (suc n) name = ap (λ names. name ∷ names) (times_push n name) ∙ ap (λ m. times m name) (let e : suc (n + 1) ≡ suc n + 1 = omega arith in e)

pub times_more : (before now then : List Server) (n : ℕ) (name copied : Server) → now ≡ before ++ times n name → copied ≡ name → then ≡ now ++ copied ∷ [] → then ≡ before ++ times (n + 1) name
times_more before now then n name copied e same put =
    put ∙ rw (e, same) (append_assoc before (times n name) (name ∷ []) ∙ ap (λ x. before ++ x) (times_push n name))

pub paired_none : (froms : List Server) → paired froms [] ≡ []
paired_none [] = refl
paired_none (from ∷ froms) = refl
