-- Where memory may run out in reading a line: from the first word on of which something is kept, where that word is right and
-- so are those before it.
use Rattle.std.specs.Prelude.{ℕ, Bool, false, ◌&&◌, ◌||◌, List, [], ◌∷◌, drop, is_ok}
use Rattle.hm_script.specs.Shapes.{Rest, nothing, maybe, upto, many, first_read}
use Rattle.hm_script.specs.Values.{Need, takes_memory}

-- the first word is right, and what is kept of it takes memory
abbrev pub first_kept : Need → List (List ℕ) → Bool
first_kept need words = is_ok (first_read need words) && takes_memory need

-- the same of the words after the needed ones
abbrev pub rest_kept : Rest → List (List ℕ) → Bool
rest_kept nothing words = false
rest_kept (maybe need) words = first_kept need words
rest_kept (upto most need) words = first_kept need words
rest_kept (many need) words = first_kept need words

-- the words up to the first of which something is kept that takes memory are right
abbrev pub needs_kept : List Need → Rest → List (List ℕ) → Bool
needs_kept [] rest words = rest_kept rest words
needs_kept (need ∷ needs) rest words = is_ok (first_read need words) && (takes_memory need || needs_kept needs rest (drop 1 words))
