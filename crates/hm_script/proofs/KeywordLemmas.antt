-- Each keyword is read back from its text, which begins no comment.
use Rattle.std.proofs.Common.{◌≡◌, ◌++◌, ℕ, List, [], ◌∷◌, Some, Bool, true, false, not, ◌&&◌, ◌==◌, refl}
use Rattle.hm_script.specs.declared.keyword.Keyword.{Keyword}
use Rattle.hm_script.specs.declared.keyword.Keyword.TheVariants.{Workers, OfNs, Create, OfTable, Modify, Split, Merge, Move, OfNumber, OfServer, Refuse, Backoff, Tick, Group, TableGroup, Procs, Cut, Old, Alone}
use Rattle.hm_script.specs.declared.keyword.NsWord.TheVariants.{Namespace, DropNamespace}
use Rattle.hm_script.specs.declared.keyword.TableWord.TheVariants.{Delete, Enable, Disable}
use Rattle.hm_script.specs.declared.keyword.NumberWord.TheVariants.{Abort, Step}
use Rattle.hm_script.specs.declared.keyword.ServerWord.TheVariants.{Server, Die, Expire, Drain, Undrain}
use Rattle.hm_script.specs.declared.keyword.LoneWord.TheVariants.{Settle, Lose, Repeat, Balance, Regions, Locks, Servers, Reopen, Roll, Timers, Hbck, Follow, Takeover}
use Rattle.hm_script.specs.Keywords.{keyword_text, keyword_of}
use Rattle.hm_script.specs.Lines.{is_skipped}
use Rattle.hm_script.specs.Printing.{is_word}
use Rattle.hm_script.proofs.TextWords.{and_parts}

pub keyword_of-keyword_text : (keyword : Keyword) → keyword_of (keyword_text keyword) ≡ Some keyword
unfolding keyword_of
keyword_of-keyword_text Workers = refl
keyword_of-keyword_text (OfNs Namespace) = refl
keyword_of-keyword_text (OfNs DropNamespace) = refl
keyword_of-keyword_text Create = refl
keyword_of-keyword_text (OfTable Delete) = refl
keyword_of-keyword_text (OfTable Enable) = refl
keyword_of-keyword_text (OfTable Disable) = refl
keyword_of-keyword_text Modify = refl
keyword_of-keyword_text Split = refl
keyword_of-keyword_text Merge = refl
keyword_of-keyword_text Move = refl
keyword_of-keyword_text (OfNumber Abort) = refl
keyword_of-keyword_text (OfNumber Step) = refl
keyword_of-keyword_text (OfServer Server) = refl
keyword_of-keyword_text (OfServer Die) = refl
keyword_of-keyword_text (OfServer Expire) = refl
keyword_of-keyword_text (OfServer Drain) = refl
keyword_of-keyword_text (OfServer Undrain) = refl
keyword_of-keyword_text Refuse = refl
keyword_of-keyword_text Backoff = refl
keyword_of-keyword_text Tick = refl
keyword_of-keyword_text Group = refl
keyword_of-keyword_text TableGroup = refl
keyword_of-keyword_text Procs = refl
keyword_of-keyword_text Cut = refl
keyword_of-keyword_text Old = refl
keyword_of-keyword_text (Alone Settle) = refl
keyword_of-keyword_text (Alone Lose) = refl
keyword_of-keyword_text (Alone Repeat) = refl
keyword_of-keyword_text (Alone Balance) = refl
keyword_of-keyword_text (Alone Regions) = refl
keyword_of-keyword_text (Alone Locks) = refl
keyword_of-keyword_text (Alone Servers) = refl
keyword_of-keyword_text (Alone Reopen) = refl
keyword_of-keyword_text (Alone Roll) = refl
keyword_of-keyword_text (Alone Timers) = refl
keyword_of-keyword_text (Alone Hbck) = refl
keyword_of-keyword_text (Alone Follow) = refl
keyword_of-keyword_text (Alone Takeover) = refl

words : (keyword : Keyword) → (is_word (keyword_text keyword) && not (is_skipped (keyword_text keyword))) ≡ true
words Workers = refl
words (OfNs Namespace) = refl
words (OfNs DropNamespace) = refl
words Create = refl
words (OfTable Delete) = refl
words (OfTable Enable) = refl
words (OfTable Disable) = refl
words Modify = refl
words Split = refl
words Merge = refl
words Move = refl
words (OfNumber Abort) = refl
words (OfNumber Step) = refl
words (OfServer Server) = refl
words (OfServer Die) = refl
words (OfServer Expire) = refl
words (OfServer Drain) = refl
words (OfServer Undrain) = refl
words Refuse = refl
words Backoff = refl
words Tick = refl
words Group = refl
words TableGroup = refl
words Procs = refl
words Cut = refl
words Old = refl
words (Alone Settle) = refl
words (Alone Lose) = refl
words (Alone Repeat) = refl
words (Alone Balance) = refl
words (Alone Regions) = refl
words (Alone Locks) = refl
words (Alone Servers) = refl
words (Alone Reopen) = refl
words (Alone Roll) = refl
words (Alone Timers) = refl
words (Alone Hbck) = refl
words (Alone Follow) = refl
words (Alone Takeover) = refl

pub word_keyword : (keyword : Keyword) → is_word (keyword_text keyword) ≡ true
word_keyword keyword = (and_parts _ _ (words keyword)).0

not_true : (b : Bool) → not b ≡ true → b ≡ false
not_true true e = cc
not_true false e = refl

still : (text rest : List ℕ) → not (is_skipped text) ≡ true → is_skipped (text ++ rest) ≡ false
still [] rest e = cc
still (b ∷ text) rest e = not_true (b == 35) e

pub keyword_unskipped : (keyword : Keyword) (rest : List ℕ) → is_skipped (keyword_text keyword ++ rest) ≡ false
keyword_unskipped keyword rest = still (keyword_text keyword) rest (and_parts _ _ (words keyword)).1
