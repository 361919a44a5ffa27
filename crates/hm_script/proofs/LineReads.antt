-- The line of a command is read as the command.
use Rattle.std.proofs.Common.{◌≡◌, ◌≢◌, ℕ, zero, suc, ◌<◌, ◌≤◌, ◌++◌, Bool, true, not, nat_lt, cond, List, [], ◌∷◌, length, map, Some, None, Ok, refl, ap, ◌∙◌, arith}
use Rattle.std.specs.List.{list_all, flat_map, position_or_len, AllByRecursion}
use Rattle.std.proofs.lemmas.Bool.Decides.{nat_tests}
use Rattle.std.proofs.lemmas.List.{append-nil}
use Rattle.std.proofs.lemmas.List.Folds.{list_all-append}
use Rattle.std.proofs.lemmas.List.Sums.{AllPass-from_list_all, position_or_len_is}
use Rattle.hm_script.specs.declared.keyword.Keyword.{Keyword}
use Rattle.hm_script.specs.declared.keyword.Keyword.TheVariants.{Workers, OfNs, Create, OfTable, Modify, Split, Merge, Move, OfNumber, OfServer, Refuse, Backoff, Tick, Group, TableGroup, Procs, Cut, Old, Alone}
use Rattle.hm_script.specs.declared.program.Program.{Program}
use Rattle.hm_script.specs.Keywords.{keyword_of, keyword_text}
use Rattle.hm_script.specs.Lines.{lines_of, is_right, front, after_old, words_of}
use Rattle.hm_script.specs.Printing.{is_word_byte, is_word, FitRest, Fit, FitPlain, FitOld, FitKeyword}
use Rattle.hm_script.specs.Programs.{is_word_of, known_to, old_one}
use Rattle.hm_script.specs.Reading.{as_old, may_stand, in_order, read_keyword, read_known, read_order, read_words, wrong_byte, read_line}
use Rattle.hm_script.specs.Shapes.{Rest, nothing, maybe, upto, many, read_rest, read_needs}
use Rattle.hm_script.specs.Spellings.{spelled, read_plain, behind_space}
use Rattle.hm_script.specs.Values.{Need, Value, of_nonce, of_ns, of_table, of_region, of_key, of_server, of_number, of_storage, of_json, of_keyword, value_text}
use Rattle.hm_script.proofs.KeywordLemmas.{keyword_of-keyword_text, word_keyword}
use Rattle.hm_script.proofs.TextWords.{and_both, and_parts}
use Rattle.hm_script.proofs.WordLemmas.{words_front, words_whole}

-- values that fit are read from their texts
rest_read : (rest : Rest) (values : List Value) → FitRest rest values → read_rest rest (map value_text values) ≡ Ok values
rest_read nothing [] f = refl
rest_read (maybe need) [] f = refl
rest_read (upto most need) [] f = refl
rest_read (many need) [] f = refl
rest_read nothing (value ∷ values) f = absurd f
rest_read (maybe need) (value ∷ values) f = let read_back = f.0.1 in let none = f.1 in rw (read_back, none) refl
rest_read (upto zero need) (value ∷ values) f = absurd f
rest_read (upto (suc more) need) (value ∷ values) f = let read_back = f.0.1 in rw (read_back, rest_read (upto more need) values f.1) refl
rest_read (many need) (value ∷ values) f = let read_back = f.0.1 in rw (read_back, rest_read (many need) values f.1) refl

needs_read : (needs : List Need) (rest : Rest) (values : List Value) → Fit needs rest values → read_needs needs rest (map value_text values) ≡ Ok values
needs_read [] rest values f = rest_read rest values f
needs_read (need ∷ needs) rest [] f = absurd f
needs_read (need ∷ needs) rest (value ∷ values) f = let read_back = f.0.1 in rw (read_back, needs_read needs rest values f.1) refl

-- their texts are words
abbrev pub are_words : List Value → Bool
are_words values = list_all (λ value. is_word (value_text value)) values

none_left : (values : List Value) → values ≡ [] → FitRest nothing values
none_left [] e = tt
none_left (value ∷ values) e = cc

rest_words : (rest : Rest) (values : List Value) → FitRest rest values → are_words values ≡ true
rest_words rest [] f = refl
rest_words nothing (value ∷ values) f = absurd f
rest_words (maybe need) (value ∷ values) f = and_both _ _ f.0.0 (rest_words nothing values (none_left values f.1))
rest_words (upto zero need) (value ∷ values) f = absurd f
rest_words (upto (suc more) need) (value ∷ values) f = and_both _ _ f.0.0 (rest_words (upto more need) values f.1)
rest_words (many need) (value ∷ values) f = and_both _ _ f.0.0 (rest_words (many need) values f.1)

needs_words : (needs : List Need) (rest : Rest) (values : List Value) → Fit needs rest values → are_words values ≡ true
needs_words [] rest values f = rest_words rest values f
needs_words (need ∷ needs) rest [] f = absurd f
needs_words (need ∷ needs) rest (value ∷ values) f = and_both _ _ f.0.0 (needs_words needs rest values f.1)

byte_low : (b : ℕ) → is_word_byte b ≡ true → 33 ≤ b
byte_low b e = grind (arith, nat_tests)

no_space : (word : List ℕ) → list_all is_word_byte word ≡ true → AllByRecursion (λ b. b ≢ 32) word
no_space [] e = tt
no_space (b ∷ word) e =
    let h = and_parts _ _ e in
    let low = byte_low b h.0 in
    let other : b ≢ 32 = omega (arith, low) in
    (other, no_space word h.1)

some_bytes : (word : List ℕ) → is_word word ≡ true → 0 < length word
some_bytes [] e = cc
some_bytes (b ∷ word) e = omega arith

all_bytes : (word : List ℕ) → is_word word ≡ true → list_all is_word_byte word ≡ true
all_bytes [] e = refl
all_bytes (b ∷ word) e = e

words_said : (word : List ℕ) (values : List Value) → is_word word ≡ true → are_words values ≡ true
    → words_of (word ++ flat_map behind_space values) ≡ word ∷ map value_text values
words_said word [] e f = ap words_of (append-nil word) ∙ words_whole word (some_bytes word e) (no_space word (all_bytes word e))
words_said word (value ∷ values) e f =
    let h = and_parts _ _ f in
    words_front word (value_text value ++ flat_map behind_space values) (some_bytes word e) (no_space word (all_bytes word e))
    ∙ ap (λ ws. word ∷ ws) (words_said (value_text value) values h.0 h.1)

word_right : (b : ℕ) → is_word_byte b ≡ true → is_right b ≡ true
word_right b e = grind (arith, nat_tests)

all_right : (word : List ℕ) → list_all is_word_byte word ≡ true → list_all is_right word ≡ true
all_right [] e = refl
all_right (b ∷ word) e = let h = and_parts _ _ e in and_both _ _ (word_right b h.0) (all_right word h.1)

values_right : (values : List Value) → are_words values ≡ true → list_all is_right (flat_map behind_space values) ≡ true
values_right [] e = refl
values_right (value ∷ values) e =
    let h = and_parts _ _ e in
    list_all-append is_right (value_text value) (flat_map behind_space values)
    ∙ and_both _ _ (all_right (value_text value) (all_bytes (value_text value) h.0)) (values_right values h.1)

line_right : (word : List ℕ) (values : List Value) → is_word word ≡ true → are_words values ≡ true → list_all is_right (word ++ flat_map behind_space values) ≡ true
line_right word values e f =
    list_all-append is_right word (flat_map behind_space values) ∙ and_both _ _ (all_right word (all_bytes word e)) (values_right values f)

none_at : (n : ℕ) → cond (nat_lt n n) (Some n) None ≡ None
none_at n = grind (arith, nat_tests)

none_wrong : (line : List ℕ) → list_all is_right line ≡ true → wrong_byte line ≡ None
none_wrong line e =
    let wrong = λ (b : ℕ). not (is_right b) in
    let all = AllPass-from_list_all is_right line e in
    let far : position_or_len wrong line ≡ length line =
    position_or_len_is wrong line (length line) 0 (omega arith) (λ k within. ap not (all k 0 within)) (λ within. absurd (omega arith)) in
    ap (λ n. cond (nat_lt n (length line)) (Some n) None) far ∙ none_at (length line)

right_low : (b : ℕ) → is_right b ≡ true → 32 ≤ b
right_low b e = grind (arith, nat_tests)

-- a line that is written with its newline
pub lines_right : (line rest : List ℕ) → list_all is_right line ≡ true → lines_of (line ++ 10 ∷ rest) ≡ line ∷ lines_of rest
lines_right [] rest e = refl
lines_right (b ∷ line) rest e =
    let h = and_parts _ _ e in
    let low = right_low b h.0 in
    rw (lines_right line rest h.1) (grind (arith, nat_tests))

-- a command's values as they are read after its keyword
pub record IsSaid (most place : ℕ) (keyword : Keyword) (values : List Value) : Type 0 where
  pub words : are_words values ≡ true
  pub read : read_keyword most place keyword (map value_text values) ≡ Ok (record { keyword = keyword; values = values })

plain_read : (most : ℕ) (keyword : Keyword) (values : List Value) → FitPlain most keyword values
    → read_plain most keyword (map value_text values) ≡ Ok (record { keyword = keyword; values = values })
plain_read most keyword values f = ap (spelled keyword) (needs_read _ _ values f)

plain_words : (most : ℕ) (keyword : Keyword) (values : List Value) → FitPlain most keyword values → are_words values ≡ true
plain_words most keyword values f = needs_words _ _ values f

old_read : (most place : ℕ) (values : List Value) → FitOld most values → IsSaid most place Old values
old_read most place [] f = absurd f
old_read most place (of_nonce v ∷ values) f = absurd f
old_read most place (of_ns v ∷ values) f = absurd f
old_read most place (of_table v ∷ values) f = absurd f
old_read most place (of_region v ∷ values) f = absurd f
old_read most place (of_key v ∷ values) f = absurd f
old_read most place (of_server v ∷ values) f = absurd f
old_read most place (of_number n ∷ values) f = absurd f
old_read most place (of_storage ∷ values) f = absurd f
old_read most place (of_json ∷ values) f = absurd f
old_read most place (of_keyword keyword ∷ values) f = record {
  words = and_both _ _ (word_keyword keyword) (plain_words most keyword values f.1);
  read =
      let one : old_one (Some keyword) ≡ Some keyword = let may = f.0 in rw may refl in
      ap (λ known. read_order most place (old_one known) (map value_text values)) (keyword_of-keyword_text keyword)
      ∙ ap (λ known. read_order most place known (map value_text values)) one
      ∙ ap as_old (plain_read most keyword values f.1);
}

pub keyword_read : (most place : ℕ) (keyword : Keyword) (values : List Value) → FitKeyword most keyword values → IsSaid most place keyword values
keyword_read most place Old values f = old_read most place values f
keyword_read most place Workers values f = record { words = plain_words most Workers values f; read = plain_read most Workers values f }
keyword_read most place (OfNs word) values f = record { words = plain_words most (OfNs word) values f; read = plain_read most (OfNs word) values f }
keyword_read most place Create values f = record { words = plain_words most Create values f; read = plain_read most Create values f }
keyword_read most place (OfTable word) values f = record { words = plain_words most (OfTable word) values f; read = plain_read most (OfTable word) values f }
keyword_read most place Modify values f = record { words = plain_words most Modify values f; read = plain_read most Modify values f }
keyword_read most place Split values f = record { words = plain_words most Split values f; read = plain_read most Split values f }
keyword_read most place Merge values f = record { words = plain_words most Merge values f; read = plain_read most Merge values f }
keyword_read most place Move values f = record { words = plain_words most Move values f; read = plain_read most Move values f }
keyword_read most place (OfNumber word) values f = record { words = plain_words most (OfNumber word) values f; read = plain_read most (OfNumber word) values f }
keyword_read most place (OfServer word) values f = record { words = plain_words most (OfServer word) values f; read = plain_read most (OfServer word) values f }
keyword_read most place Refuse values f = record { words = plain_words most Refuse values f; read = plain_read most Refuse values f }
keyword_read most place Backoff values f = record { words = plain_words most Backoff values f; read = plain_read most Backoff values f }
keyword_read most place Tick values f = record { words = plain_words most Tick values f; read = plain_read most Tick values f }
keyword_read most place Group values f = record { words = plain_words most Group values f; read = plain_read most Group values f }
keyword_read most place TableGroup values f = record { words = plain_words most TableGroup values f; read = plain_read most TableGroup values f }
keyword_read most place Procs values f = record { words = plain_words most Procs values f; read = plain_read most Procs values f }
keyword_read most place Cut values f = record { words = plain_words most Cut values f; read = plain_read most Cut values f }
keyword_read most place (Alone word) values f = record { words = plain_words most (Alone word) values f; read = plain_read most (Alone word) values f }

pub command_right : (most : ℕ) (keyword : Keyword) (values : List Value) → FitKeyword most keyword values
    → list_all is_right (keyword_text keyword ++ flat_map behind_space values) ≡ true
command_right most keyword values f =
    let said = keyword_read most 0 keyword values f in line_right (keyword_text keyword) values (word_keyword keyword) said.words

known_word : (program : Program) (keyword : Keyword) → is_word_of program keyword ≡ true → known_to program (keyword_of (keyword_text keyword)) ≡ Some keyword
known_word program keyword known = ap (known_to program) (keyword_of-keyword_text keyword) ∙ rw known refl

pub line_read : (program : Program) (most : ℕ) (first : Bool) (keyword : Keyword) (values : List Value) → is_word_of program keyword ≡ true → may_stand first keyword ≡ true
    → FitKeyword most keyword values
    → read_line program most first (keyword_text keyword ++ flat_map behind_space values) ≡ Ok (record { keyword = keyword; values = values })
unfolding read_line
line_read program most first keyword values known stands f =
    let line = keyword_text keyword ++ flat_map behind_space values in
    let texts = map value_text values in
    let said = keyword_read most (after_old line) keyword values f in
    ap (λ wrong. read_words program most first line wrong (words_of (front wrong line))) (none_wrong line (command_right most keyword values f))
    ∙ ap (read_words program most first line None) (words_said (keyword_text keyword) values (word_keyword keyword) said.words)
    ∙ ap (λ known. read_known most first line None known texts) (known_word program keyword known)
    ∙ ap (λ stand. in_order stand (read_keyword most (after_old line) keyword texts)) stands
    ∙ said.read
