-- What is said of an entry that is judged.
use Rattle.std.specs.Prelude.{◌≡◌, ℕ, List, [], ◌∷◌, Bool, false, Result, Ok, Err}
use Rattle.hm_data.specs.declared.entry.Entry.{Entry}
use Rattle.hm_data.specs.declared.entry.Entry.TheVariants as entry_is
use Rattle.hm_model.specs.Journal.{Past}
use Rattle.hm_model.specs.Rules.{Breaks, rules}
use Rattle.hm_judge.specs.declared.why.NotAllowed.{NotAllowed}
use Rattle.hm_judge.specs.declared.why.NotAllowed.TheVariants as not_allowed

-- the rule is that a step, or what undoes one, is as it was evaluated: to judge it takes memory
abbrev pub IsEvaluation : Entry → ℕ → Type 0
IsEvaluation (entry_is.Step pid pick out) rule = rule ≡ 8
IsEvaluation (entry_is.Undo pid row out) rule = rule ≡ 10
IsEvaluation entry rule = ⊥

-- no rule that is judged without memory refuses the entry
abbrev pub IsUnrefused : Past → Entry → Type 0
IsUnrefused before entry = (rule : ℕ) → Breaks before entry rule → IsEvaluation entry rule

-- the rule by which an entry is refused behind a journal that has begun: 18 for each part of a base, and for each other entry
-- the lowest that it breaks
abbrev pub IsRefusedBy : Past → Entry → ℕ → Type 0
IsRefusedBy before (entry_is.Base part) k = k ≡ 18
IsRefusedBy before entry k = Breaks before entry k

-- why an entry isn't allowed: the rule that refuses it; or memory ran out in its evaluation, and no rule before that refuses it
abbrev pub IsWhy : Past → Entry → NotAllowed → Type 0
IsWhy before entry (not_allowed.Rule number) = IsRefusedBy before entry number
IsWhy before entry not_allowed.Memory = ((rule : ℕ) × IsEvaluation entry rule) × IsUnrefused before entry

-- why a comparison refuses: it differs, which breaks its rule, or memory ran out
abbrev pub IsRefusal : {E : Type 0} → ℕ → Result Bool E → NotAllowed → Type 0
IsRefusal rule (Ok same) (not_allowed.Rule number) = (same ≡ false) × (number ≡ rule)
IsRefusal rule (Ok same) not_allowed.Memory = ⊥
IsRefusal rule (Err out_of_memory) (not_allowed.Rule number) = ⊥
IsRefusal rule (Err out_of_memory) not_allowed.Memory = Unit {0}

-- each of numbered rules holds that is judged without memory
abbrev pub AllHoldBut : Entry → List (ℕ × Type 0) → Type 0
AllHoldBut entry [] = Unit {0}
AllHoldBut entry ((number, rule) ∷ more) = ((IsEvaluation entry number → ⊥) → rule) × AllHoldBut entry more

-- all rules of an entry hold, its evaluation aside
abbrev pub HoldsBut : Past → Entry → Type 0
HoldsBut before entry = AllHoldBut entry (rules before entry)
