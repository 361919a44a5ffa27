-- Values that are read back from their texts.
use Rattle.std.specs.Prelude.{◌≡◌, ℕ, zero, suc, Bool, true, false, ◌&&◌, nat_le, nat_lt, Ok, List, [], ◌∷◌}
use Rattle.std.specs.List.{list_all}
use Rattle.hm_script.specs.declared.keyword.Keyword.{Keyword}
use Rattle.hm_script.specs.declared.keyword.Keyword.TheVariants.{Old}
use Rattle.hm_script.specs.Programs.{may_be_old}
use Rattle.hm_script.specs.Shapes.{Rest, nothing, maybe, upto, many, shape_of}
use Rattle.hm_script.specs.Spellings.{Spelling}
use Rattle.hm_script.specs.Values.{Need, Value, of_keyword, read, value_text}

-- a byte of a word: 0x21 to 0x7E
abbrev pub is_word_byte : ℕ → Bool
is_word_byte b = nat_le 33 b && nat_le b 126

-- a word: some such bytes
abbrev pub is_word : List ℕ → Bool
is_word [] = false
is_word (b ∷ word) = list_all is_word_byte (b ∷ word)

-- each fits eight bits
abbrev pub are_bytes : List ℕ → Bool
are_bytes bytes = list_all (λ b. nat_lt b 256) bytes

-- the text of a value is a word that is read back as the value
abbrev pub IsReadBack : Need → Value → Type 0
IsReadBack need value = (is_word (value_text value) ≡ true) × (read need (value_text value) ≡ Ok value)

-- the values may stand after needed words
abbrev pub FitRest : Rest → List Value → Type 0
FitRest rest [] = Unit {0}
FitRest nothing (value ∷ values) = ⊥
FitRest (maybe need) (value ∷ values) = IsReadBack need value × (values ≡ [])
FitRest (upto zero need) (value ∷ values) = ⊥
FitRest (upto (suc more) need) (value ∷ values) = IsReadBack need value × FitRest (upto more need) values
FitRest (many need) (value ∷ values) = IsReadBack need value × FitRest (many need) values

-- the values are what is needed, and what may stand after that
abbrev pub Fit : List Need → Rest → List Value → Type 0
Fit [] rest values = FitRest rest values
Fit (need ∷ needs) rest [] = ⊥
Fit (need ∷ needs) rest (value ∷ values) = IsReadBack need value × Fit needs rest values

-- values fit a keyword, where a merge may have so many regions
abbrev pub FitPlain : ℕ → Keyword → List Value → Type 0
FitPlain most keyword values = Fit (shape_of most keyword).needs (shape_of most keyword).rest values

-- the first value is a keyword that may follow `old`, and the others fit it
abbrev pub FitOld : ℕ → List Value → Type 0
FitOld most (of_keyword keyword ∷ values) = (may_be_old keyword ≡ true) × FitPlain most keyword values
FitOld most values = ⊥

-- a command's values fit its keyword
abbrev pub FitKeyword : ℕ → Keyword → List Value → Type 0
FitKeyword most Old values = FitOld most values
FitKeyword most keyword values = FitPlain most keyword values

-- the same, of a spelling
abbrev pub IsFitting : ℕ → Spelling → Type 0
IsFitting most said = FitKeyword most said.keyword said.values
