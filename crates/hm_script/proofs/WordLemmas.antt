-- Lemmas on the words of a line.
use Rattle.std.proofs.Common.{◌≡◌, ◌≢◌, ℕ, ◌+◌, ◌<◌, List, [], ◌∷◌, ◌++◌, ◌==◌, zero, suc, length, take, drop, refl, sym, ap, subst, ◌∙◌, arith}
use Rattle.std.proofs.lemmas.List.{length-take-le}
use Rattle.std.proofs.Math.Seq.{drop-append_seam}
use Rattle.std.proofs.lemmas.Bool.Decides.{nat_tests}
use Rattle.std.specs.List.{AllByRecursion, slice_split}
use Rattle.hm_script.specs.Lines.{words_of}

split_front : (word rest : List ℕ) → AllByRecursion (λ b. b ≢ 32) word → slice_split (λ b. b == 32) (word ++ 32 ∷ rest) ≡ word ∷ slice_split (λ b. b == 32) rest
split_front [] rest n = refl
split_front (b ∷ word) rest n = let no_space = n.0 in rw (split_front word rest n.1) (grind (arith, nat_tests))

split_whole : (word : List ℕ) → AllByRecursion (λ b. b ≢ 32) word → slice_split (λ b. b == 32) word ≡ word ∷ []
split_whole [] n = refl
split_whole (b ∷ word) n = let no_space = n.0 in rw (split_whole word n.1) (grind (arith, nat_tests))

-- a word, and then a space
pub words_front : (word rest : List ℕ) → 0 < length word → AllByRecursion (λ b. b ≢ 32) word → words_of (word ++ 32 ∷ rest) ≡ word ∷ words_of (32 ∷ rest)
words_front word rest some n = rw (split_front word rest n) (grind (arith, nat_tests))

-- a word alone
pub words_whole : (word : List ℕ) → 0 < length word → AllByRecursion (λ b. b ≢ 32) word → words_of word ≡ word ∷ []
words_whole word some n = rw (split_whole word n) (grind (arith, nat_tests))

-- a line that begins with no space has a word up to its first space
pub first_word : (line : List ℕ) (at : ℕ) → at < length line → line ≡ take at line ++ 32 ∷ drop (at + 1) line → ((rest : List ℕ) → line ≢ 32 ∷ rest)
    → AllByRecursion (λ b. b ≢ 32) (take at line) → words_of line ≡ take at line ∷ words_of (drop at line)
first_word line zero below parts begins n = absurd (begins (drop 1 line) parts)
first_word line (suc at) below parts begins n =
    let word = take (suc at) line in
    let rest = drop (suc at + 1) line in
    let long : length word ≡ suc at = length-take-le (suc at) line (omega arith) in
    let some : 0 < length word = omega arith in
    let behind : drop (suc at) line ≡ 32 ∷ rest = ap (drop (suc at)) parts ∙ subst (λ k. drop k (word ++ 32 ∷ rest) ≡ 32 ∷ rest) long (drop-append_seam word (32 ∷ rest)) in
    ap words_of parts ∙ words_front word rest some n ∙ ap (λ l. word ∷ words_of l) (sym behind)
