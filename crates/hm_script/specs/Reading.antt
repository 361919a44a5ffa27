-- What a line says.
use Rattle.std.specs.Prelude.{ℕ, Bool, true, false, not, ◌&&◌, is_none, Option, Some, None, Result, Ok, Err, List, [], ◌∷◌, position}
use Rattle.hm_script.specs.declared.bad.Why.{Why}
use Rattle.hm_script.specs.declared.bad.Why.TheVariants.{Word, Missing, Order}
use Rattle.hm_script.specs.declared.keyword.Keyword.{Keyword}
use Rattle.hm_script.specs.declared.keyword.Keyword.TheVariants.{Workers, Old}
use Rattle.hm_script.specs.declared.program.Program.{Program}
use Rattle.hm_script.specs.Keywords.{keyword_of}
use Rattle.hm_script.specs.Lines.{is_right, front, indent_of, after_old, words_of}
use Rattle.hm_script.specs.Programs.{known_to, old_one}
use Rattle.hm_script.specs.Spellings.{Spelling, old_spelling, read_plain, plain_kept}

-- what is read after the word `old`
abbrev pub as_old : Result Spelling Why → Result Spelling Why
as_old (Ok said) = Ok (old_spelling said)
as_old (Err why) = Err why

-- the words after `old`, which stand at a place and of which the first may be this keyword
abbrev pub read_order : ℕ → ℕ → Option Keyword → List (List ℕ) → Result Spelling Why
read_order most place None words = Err (Word place)
read_order most place (Some keyword) words = as_old (read_plain most keyword words)

abbrev pub read_old : ℕ → ℕ → List (List ℕ) → Result Spelling Why
read_old most place [] = Err Missing
read_old most place (word ∷ words) = read_order most place (old_one (keyword_of word)) words

-- a keyword and the words after it, which stand at a place
abbrev pub read_keyword : ℕ → ℕ → Keyword → List (List ℕ) → Result Spelling Why
read_keyword most place Old words = read_old most place words
read_keyword most place keyword words = read_plain most keyword words

-- a byte at a place that may not stand in a line is a wrong word
abbrev pub unless_wrong : Option ℕ → Result Spelling Why → Result Spelling Why
unless_wrong None reading = reading
unless_wrong (Some at) reading = Err (Word at)

-- `workers` stands in the first command alone
abbrev pub may_stand : Bool → Keyword → Bool
may_stand first Workers = first
may_stand first keyword = true

-- a keyword that may not stand there is out of order
abbrev pub in_order : Bool → Result Spelling Why → Result Spelling Why
in_order true reading = reading
in_order false reading = Err Order

-- the first word, if it is a keyword, and the words after it
abbrev pub read_known : ℕ → Bool → List ℕ → Option ℕ → Option Keyword → List (List ℕ) → Result Spelling Why
read_known most first line wrong None words = Err (Word (indent_of line))
read_known most first line wrong (Some keyword) words =
    unless_wrong wrong (in_order (may_stand first keyword) (read_keyword most (after_old line) keyword words))

-- the words of a line, which has its first wrong byte at a place
abbrev pub read_words : Program → ℕ → Bool → List ℕ → Option ℕ → List (List ℕ) → Result Spelling Why
read_words program most first line wrong [] = unless_wrong wrong (Err Missing)
read_words program most first line wrong (word ∷ words) = read_known most first line wrong (known_to program (keyword_of word)) words

-- the first byte that may not stand in a line
abbrev pub wrong_byte : List ℕ → Option ℕ
wrong_byte line = position (λ b. not (is_right b)) line

-- what a line says to a program, where a merge may have so many regions; `first` tells whether no command stands before it
unfoldable pub read_line : Program → ℕ → Bool → List ℕ → Result Spelling Why
read_line program most first line = read_words program most first line (wrong_byte line) (words_of (front (wrong_byte line) line))

-- where memory may run out in reading the words after `old`
abbrev pub order_kept : ℕ → Option Keyword → List (List ℕ) → Bool
order_kept most None words = false
order_kept most (Some keyword) words = plain_kept most keyword words

abbrev pub old_kept : ℕ → List (List ℕ) → Bool
old_kept most [] = false
old_kept most (word ∷ words) = order_kept most (old_one (keyword_of word)) words

-- in reading those after a keyword
abbrev pub keyword_kept : ℕ → Keyword → List (List ℕ) → Bool
keyword_kept most Old words = old_kept most words
keyword_kept most keyword words = plain_kept most keyword words

-- and in reading a line: its first word is a keyword that may stand there, each byte is right, and so are its words up to the first of
-- which something is kept that takes memory
abbrev pub known_kept : ℕ → Bool → Option Keyword → List (List ℕ) → Bool
known_kept most first None words = false
known_kept most first (Some keyword) words = may_stand first keyword && keyword_kept most keyword words

abbrev pub words_kept : Program → ℕ → Bool → List (List ℕ) → Bool
words_kept program most first [] = false
words_kept program most first (word ∷ words) = known_kept most first (known_to program (keyword_of word)) words

unfoldable pub line_kept : Program → ℕ → Bool → List ℕ → Bool
line_kept program most first line = is_none (wrong_byte line) && words_kept program most first (words_of line)
