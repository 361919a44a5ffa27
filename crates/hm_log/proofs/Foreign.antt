-- What shows that bytes are no log: one place, and never in a log.
use Rattle.std.proofs.Common.{◌≡◌, ◌≢◌, ◌⊎◌, inl, inr, ℕ, suc, ◌≤◌, ◌<◌, List, [], ◌∷◌, length, take, get_or, refl, sym, ◌∙◌, ap, arith}
use Rattle.std.proofs.lemmas.List.{get_or-take}
use Rattle.std.proofs.lemmas.Bool.{cases_eq, cases_order}
use Rattle.hm_log.specs.Format.{magic, told_place, IsMoved, IsOpenEnded, IsNewer, IsNotALog, NoBody}
use Rattle.hm_log.proofs.Layouts.{first_magic, first_size, first_version, plain_magic, plain_size, plain_selector, moved_magic, moved_size, moved_body}

agree : (n : ℕ) (bytes : List ℕ) (p : ℕ) → p < n → take n bytes ≡ take n magic → get_or bytes p 0 ≡ get_or magic p 0
agree n bytes p less same = sym (get_or-take n bytes p 0 less) ∙ ap (λ (l : List ℕ). get_or l p 0) same ∙ get_or-take n magic p 0 less

no_foreign : (bytes : List ℕ) (q : ℕ) → take 8 bytes ≡ magic → 10 ≤ length bytes → (IsNewer bytes → 11 ≤ length bytes) → (IsNewer bytes → get_or bytes 9 0 ≡ 43 → NoBody (told_place bytes) (length bytes) → ⊥) → IsNotALog bytes q → ⊥
no_foreign bytes q begins long longer body (inl (inl short)) = let le = short.1 in omega (arith, le, long)
no_foreign bytes q begins long longer body (inl (inr (inl differs))) = differs.3 (agree 8 bytes q differs.1 begins)
no_foreign bytes q begins long longer body (inl (inr (inr bare))) = let ten = bare.0 in omega (arith, ten, longer bare.2)
no_foreign bytes q begins long longer body (inr lost) = body lost.newer lost.plus lost.none

-- a log isn't one of them
pub not_foreign : (bytes front body : List ℕ) (q : ℕ) → IsOpenEnded bytes front body ⊎ IsMoved bytes front body → 1 ≤ length body → IsNotALog bytes q → ⊥
not_foreign bytes front body q (inl (inl first)) some =
    no_foreign bytes q (first_magic bytes front body first) (omega (arith, some, first_size bytes front body first))
    (λ is. absurd (is.newer (first_version bytes front body first))) (λ is plus none. is.newer (first_version bytes front body first))
not_foreign bytes front body q (inl (inr plain)) some =
    let size = plain_size bytes front body plain in
    no_foreign bytes q (plain_magic bytes front body plain) (omega (arith, some, size))
    (λ is. omega (arith, some, size)) (λ is plus none. plain_selector bytes front body plain plus)
not_foreign bytes front body q (inr moved) some =
    let size = moved_size bytes front body moved in
    no_foreign bytes q (moved_magic bytes front body moved) (omega (arith, some, size, moved.room, ap length moved.is))
    (λ is. omega (arith, some, size, moved.room, ap length moved.is)) (λ is plus none. moved_body bytes front body moved none)

first_differs : (bytes : List ℕ) (p q : ℕ) → p < q → take q bytes ≡ take q magic → get_or bytes p 0 ≢ get_or magic p 0 → ⊥
first_differs bytes p q less same ne = ne (agree q bytes p less same)

-- there is one such place
pub one_place : (bytes : List ℕ) (p q : ℕ) → IsNotALog bytes p → IsNotALog bytes q → p ≡ q
one_place bytes p q (inl (inl short)) (inl (inl also)) = short.2 ∙ sym also.2
one_place bytes p q (inl (inl short)) (inl (inr (inl also))) = let le = short.1 in let ge = also.0 in absurd (omega (arith, le, ge))
one_place bytes p q (inl (inl short)) (inl (inr (inr also))) = let le = short.1 in let ten = also.0 in absurd (omega (arith, le, ten))
one_place bytes p q (inl (inl short)) (inr also) = let le = short.1 in let ge = also.long in absurd (omega (arith, le, ge))
one_place bytes p q (inl (inr (inl differs))) (inl (inl also)) = let le = also.1 in let ge = differs.0 in absurd (omega (arith, le, ge))
one_place bytes p q (inl (inr (inl differs))) (inl (inr (inl also))) = elim (cases_order p q) [
  | inl same ↦ same
  | inr (inl less) ↦ absurd (first_differs bytes p q less also.2 differs.3)
  | inr (inr more) ↦ absurd (first_differs bytes q p more differs.2 also.3)
]
one_place bytes p q (inl (inr (inl differs))) (inl (inr (inr also))) = absurd (differs.3 (agree 8 bytes p differs.1 also.2.begins))
one_place bytes p q (inl (inr (inl differs))) (inr also) = absurd (differs.3 (agree 8 bytes p differs.1 also.newer.begins))
one_place bytes p q (inl (inr (inr bare))) (inl (inl also)) = let le = also.1 in let ten = bare.0 in absurd (omega (arith, le, ten))
one_place bytes p q (inl (inr (inr bare))) (inl (inr (inl also))) = absurd (also.3 (agree 8 bytes q also.1 bare.2.begins))
one_place bytes p q (inl (inr (inr bare))) (inl (inr (inr also))) = bare.1 ∙ sym also.1
one_place bytes p q (inl (inr (inr bare))) (inr also) = let ten = bare.0 in let ge = also.long in absurd (omega (arith, ten, ge))
one_place bytes p q (inr lost) (inl (inl also)) = let le = also.1 in let ge = lost.long in absurd (omega (arith, le, ge))
one_place bytes p q (inr lost) (inl (inr (inl also))) = absurd (also.3 (agree 8 bytes q also.1 lost.newer.begins))
one_place bytes p q (inr lost) (inl (inr (inr also))) = let ten = also.0 in let ge = lost.long in absurd (omega (arith, ten, ge))
one_place bytes p q (inr lost) (inr also) = lost.at ∙ sym also.at

-- such bytes aren't none
pub foreign_some : (bytes : List ℕ) (q : ℕ) → IsNotALog bytes q → 1 ≤ length bytes
foreign_some bytes q (inl (inl short)) = short.0
foreign_some bytes q (inl (inr (inl differs))) = let ge = differs.0 in omega (arith, ge)
foreign_some bytes q (inl (inr (inr bare))) = let ten = bare.0 in omega (arith, ten)
foreign_some bytes q (inr lost) = let ge = lost.long in omega (arith, ge)

-- the first place that differs, if one does
pub differs_at : (hs bs : List ℕ) → length hs ≤ length bs → (take (length hs) bs ≡ hs) ⊎ ((p : ℕ) × (p < length hs) × (take p bs ≡ take p hs) × (get_or bs p 0 ≢ get_or hs p 0))
differs_at [] bs le = inl refl
differs_at (h ∷ hs) [] le = absurd (omega arith)
differs_at (h ∷ hs) (b ∷ bs) le = elim (cases_eq b h) [
  | inr ne ↦ inr (0, omega arith, refl, ne)
  | inl same ↦ elim (differs_at hs bs (omega arith)) [
    | inl all ↦ inl (λ i. same i ∷ all i)
    | inr d ↦ inr (suc d.0, omega (arith, d.1), (λ i. same i ∷ d.2 i), d.3)
  ]
]
