-- Which words stand after each keyword.
use Rattle.std.specs.Prelude.{ℕ, zero, suc, ◌-◌, ◌^◌, Result, Ok, Err, List, [], ◌∷◌, ◌++◌, drop}
use Rattle.hm_script.specs.declared.bad.Why.{Why}
use Rattle.hm_script.specs.declared.bad.Why.TheVariants.{Missing, Extra}
use Rattle.hm_script.specs.declared.keyword.Keyword.{Keyword}
use Rattle.hm_script.specs.declared.keyword.Keyword.TheVariants.{Workers, OfNs, Create, OfTable, Modify, Split, Merge, Move, OfNumber, OfServer, Refuse, Backoff, Tick, Group, TableGroup, Procs, Cut, Old, Alone}
use Rattle.hm_script.specs.Values.{Need, nonce, ns, table, region, key, server, number, target, json, Value, read}

-- what may stand after the needed words: nothing, perhaps one word, at most so many words, or any number of words
pub data Rest : Type 0 where
  nothing : Rest
  maybe : Need → Rest
  upto : ℕ → Need → Rest
  many : Need → Rest

pub record Shape : Type 0 where
  pub needs : List Need
  pub rest : Rest

-- a number that fits 64 bits
abbrev pub any_number : Need
any_number = number 0 (2 ^ 64 - 1)

-- the words after each keyword, where a merge may have so many regions; of the words after `old` `read_keyword` says more
abbrev pub shape_of : ℕ → Keyword → Shape
shape_of most Workers = record { needs = number 0 16 ∷ []; rest = nothing }
shape_of most (OfNs word) = record { needs = nonce ∷ ns ∷ []; rest = nothing }
shape_of most Create = record { needs = nonce ∷ table ∷ []; rest = many key }
shape_of most (OfTable word) = record { needs = nonce ∷ table ∷ []; rest = nothing }
shape_of most Modify = record { needs = nonce ∷ table ∷ any_number ∷ []; rest = nothing }
shape_of most Split = record { needs = nonce ∷ region ∷ key ∷ []; rest = nothing }
shape_of most Merge = record { needs = nonce ∷ region ∷ region ∷ []; rest = upto (most - 2) region }
shape_of most Move = record { needs = nonce ∷ region ∷ []; rest = maybe server }
shape_of most (OfNumber word) = record { needs = any_number ∷ []; rest = nothing }
shape_of most (OfServer word) = record { needs = server ∷ []; rest = nothing }
shape_of most Refuse = record { needs = target ∷ number 0 (2 ^ 32 - 1) ∷ []; rest = nothing }
shape_of most Backoff = record { needs = number 0 7 ∷ []; rest = nothing }
shape_of most Tick = record { needs = number 1 1000000 ∷ []; rest = nothing }
shape_of most Group = record { needs = ns ∷ server ∷ []; rest = many server }
shape_of most TableGroup = record { needs = table ∷ ns ∷ []; rest = nothing }
shape_of most Procs = record { needs = []; rest = maybe json }
shape_of most Cut = record { needs = any_number ∷ any_number ∷ []; rest = nothing }
shape_of most Old = record { needs = []; rest = nothing }
shape_of most (Alone word) = record { needs = []; rest = nothing }

-- a value before others
abbrev pub onto : Value → Result (List Value) Why → Result (List Value) Why
onto value (Ok values) = Ok (value ∷ values)
onto value (Err why) = Err why

-- a word that was read before others; its fault comes before theirs
abbrev pub before : Result Value Why → Result (List Value) Why → Result (List Value) Why
before (Ok value) others = onto value others
before (Err why) others = Err why

-- values before others
abbrev pub onto_all : List Value → Result (List Value) Why → Result (List Value) Why
onto_all values (Ok others) = Ok (values ++ others)
onto_all values (Err why) = Err why

-- the first word, which is needed
abbrev pub first_read : Need → List (List ℕ) → Result Value Why
first_read need [] = Err Missing
first_read need (word ∷ words) = read need word

-- the words after the needed ones
abbrev pub read_rest : Rest → List (List ℕ) → Result (List Value) Why
read_rest rest [] = Ok []
read_rest nothing (word ∷ words) = Err Extra
read_rest (maybe need) (word ∷ words) = before (read need word) (read_rest nothing words)
read_rest (upto zero need) (word ∷ words) = Err Extra
read_rest (upto (suc more) need) (word ∷ words) = before (read need word) (read_rest (upto more need) words)
read_rest (many need) (word ∷ words) = before (read need word) (read_rest (many need) words)

-- the needed words in order, and then those after them
abbrev pub read_needs : List Need → Rest → List (List ℕ) → Result (List Value) Why
read_needs [] rest words = read_rest rest words
read_needs (need ∷ needs) rest words = before (first_read need words) (read_needs needs rest (drop 1 words))
