-- Who has ended: laws.
use Rattle.std.specs.Prelude.{◌≡◌, ℕ, ◌∷◌, true}
use Rattle.hm_data.specs.declared.entry.Entry.{Entry}
use Rattle.hm_model.specs.Journal.{Past}
use Rattle.hm_model.specs.Phase.{ended}
use Rattle.hm_model.specs.Rules.{IsLegal}

-- who has ended stays so
abbrev pub EndedStay : Type 0
EndedStay = (entry : Entry) (before : Past) → IsLegal (entry ∷ before) → (p : ℕ) → ended before p ≡ true → ended (entry ∷ before) p ≡ true
