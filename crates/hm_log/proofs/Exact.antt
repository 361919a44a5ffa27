-- What holds a log is opened as its frames, unless the disk fails or memory runs out.
use Rattle.std.proofs.Common.{◌≡◌, ◌⊎◌, ℕ, List, refl, sym, ◌∙◌, inl, inr}
use Rattle.hm_log.specs.Format.{HoldsFrames, IsNotALog, IsBadFrame}
use Rattle.hm_log.specs.Verdict.{Verdict}
use Rattle.hm_log.specs.declared.why.OpenWhy.{OpenWhy}
use Rattle.hm_log.specs.declared.why.OpenWhy.TheVariants.{Fault, NotALog, BadFrame, Memory}
use Rattle.hm_log.proofs.Judging.{only}

pub opens_once : (bytes : List ℕ) (frames others : List (List ℕ)) → HoldsFrames bytes frames → HoldsFrames bytes others → others ≡ frames
opens_once bytes frames others (inl a) (inl b) = b.1 ∙ sym a.1
opens_once bytes frames others (inl a) (inr b) = absurd (let e = only bytes Verdict.Blank (Verdict.Holds others) a.0 b in cc)
opens_once bytes frames others (inr a) (inl b) = absurd (let e = only bytes (Verdict.Holds frames) Verdict.Blank a b.0 in cc)
opens_once bytes frames others (inr a) (inr b) = let e = only bytes (Verdict.Holds frames) (Verdict.Holds others) a b in cc

not_foreign : (bytes : List ℕ) (frames : List (List ℕ)) (place : ℕ) → HoldsFrames bytes frames → IsNotALog bytes place → ⊥
not_foreign bytes frames place (inl a) b = let e = only bytes Verdict.Blank (Verdict.Foreign place) a.0 b in cc
not_foreign bytes frames place (inr a) b = let e = only bytes (Verdict.Holds frames) (Verdict.Foreign place) a b in cc

not_broken : (bytes : List ℕ) (frames : List (List ℕ)) (place : ℕ) → HoldsFrames bytes frames → IsBadFrame bytes place → ⊥
not_broken bytes frames place (inl a) b = let e = only bytes Verdict.Blank (Verdict.Broken place) a.0 b in cc
not_broken bytes frames place (inr a) b = let e = only bytes (Verdict.Holds frames) (Verdict.Broken place) a b in cc

pub refused_once : (why : OpenWhy) (bytes : List ℕ) (frames : List (List ℕ)) → HoldsFrames bytes frames → ((place : ℕ) → why ≡ NotALog place → IsNotALog bytes place)
    → ((place : ℕ) → why ≡ BadFrame place → IsBadFrame bytes place) → (why ≡ Fault) ⊎ (why ≡ Memory)
refused_once Fault bytes frames opens foreign broken = inl refl
refused_once (NotALog place) bytes frames opens foreign broken = absurd (not_foreign bytes frames place opens (foreign place refl))
refused_once (BadFrame place) bytes frames opens foreign broken = absurd (not_broken bytes frames place opens (broken place refl))
refused_once Memory bytes frames opens foreign broken = inr refl
