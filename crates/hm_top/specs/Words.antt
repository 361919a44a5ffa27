-- The words that the program is called with.
use Rattle.std.specs.Prelude.{ℕ, ◌+◌, ◌≤◌, List, [], ◌∷◌, codes, Bool, true, false, ◌==◌, not, if◌then◌else◌, Option, Some, None, Result, Ok, Err}
use Rattle.std.specs.Str.{bytes_eq}
use Rattle.hm_names.specs.Decimal.{number_of, within}
use Rattle.hm_top.specs.declared.words.Form.{Form}
use Rattle.hm_top.specs.declared.words.Form.TheVariants as form_is

-- a log's name isn't empty and doesn't begin with -
abbrev pub is_log_name : List ℕ → Bool
is_log_name [] = false
is_log_name (b ∷ name) = not (b == 45)

-- the log's name and nothing more, where so many words stand before: what is asked for, or the index of the word that doesn't fit
abbrev pub log_behind : Form → ℕ → List (List ℕ) → Result Form ℕ
log_behind form at [] = Err at
log_behind form at (log ∷ []) = if is_log_name log then Ok form else Err at
log_behind form at (log ∷ more ∷ rest) = if is_log_name log then Err (at + 1) else Err at

-- the log's name after a number of regions that fits
abbrev pub log_behind_count : ℕ → Option ℕ → List (List ℕ) → Result Form ℕ
log_behind_count seed None words = Err 2
log_behind_count seed (Some count) words = log_behind (form_is.Gen seed count) 3 words

-- the number of regions, from 1 to 16,384, and the log's name
abbrev pub count_behind : ℕ → List (List ℕ) → Result Form ℕ
count_behind seed [] = Err 2
count_behind seed (word ∷ words) = log_behind_count seed (within 1 16384 (number_of word)) words

-- these after a seed that fits
abbrev pub count_behind_seed : Option ℕ → List (List ℕ) → Result Form ℕ
count_behind_seed None words = Err 1
count_behind_seed (Some seed) words = count_behind seed words

-- the seed, the number of regions and the log's name
abbrev pub seed_behind : List (List ℕ) → Result Form ℕ
seed_behind [] = Err 1
seed_behind (word ∷ words) = count_behind_seed (number_of word) words

-- what the words ask for, or the index of the first that fits no place, or the number of words where one is missing
abbrev pub form_of : List (List ℕ) → Result Form ℕ
form_of [] = Err 0
form_of (first ∷ words) =
    if bytes_eq first (codes "run") then log_behind form_is.Run 1 words
    else (if bytes_eq first (codes "check") then log_behind form_is.Check 1 words
    else (if bytes_eq first (codes "gen") then seed_behind words else Err 0))

-- the words that fit: none of them is told
abbrev pub misfit_in : Result Form ℕ → Option ℕ
misfit_in (Ok form) = None
misfit_in (Err word) = Some word

-- the index that is told of words that don't fit
abbrev pub misfit_of : List (List ℕ) → Option ℕ
misfit_of words = misfit_in (form_of words)

-- the number of regions that are asked for is from 1 to 16,384
abbrev pub HasCount : Form → Type 0
HasCount (form_is.Gen seed count) = (1 ≤ count) × (count ≤ 16384)
HasCount form = Unit {0}

-- the log is only read
abbrev pub only_reads : Form → Bool
only_reads form_is.Check = true
only_reads form = false
