-- Lines that are put together of pieces.
use Rattle.std.proofs.Common.{◌≡◌, ℕ, List, [], ◌∷◌, ◌++◌, codes, ap, ◌∙◌, append_assoc}
use Rattle.hm_show.specs.Tables.{line_text, spaced}

-- three words, a space, and a line of three
pub line_of_six : (a b c d e f old mid new : List ℕ) → mid ≡ old ++ spaced (a ∷ b ∷ c ∷ []) ++ codes " " → new ≡ mid ++ line_text (d ∷ e ∷ f ∷ [])
    → new ≡ old ++ line_text (a ∷ b ∷ c ∷ d ∷ e ∷ f ∷ [])
line_of_six a b c d e f old mid new first second = second ∙ ap (λ t. t ++ line_text (d ∷ e ∷ f ∷ [])) first ∙ simp append_assoc
