-- What is printed is read back.
use Rattle.std.proofs.Common.{◌≡◌, ◌+◌, ◌-◌, ◌^◌, ◌<◌, ◌≤◌, ◌++◌, ℕ, zero, suc, Bool, true, false, List, [], ◌∷◌, length, map, drop, Ok, refl, sym, ap, subst, ◌∙◌, append_assoc, get_or, take, arith}
use Rattle.std.specs.Prelude.{All, codes}
use Rattle.std.specs.List.{flat_map}
use Rattle.std.specs.Str.{bytes_eq}
use Rattle.std.proofs.lemmas.Bool.Decides.{nat_tests}
use Rattle.std.proofs.lemmas.List.{flat_map_more, length-map, map_more, take_more}
use Rattle.std.proofs.lemmas.List.Elements.{All-head, All-tail}
use Rattle.std.proofs.lemmas.Slice.Eq.{bytes_eq-Decides}
use Rattle.hm_names.specs.Cuts.{cut_first}
use Rattle.hm_names.specs.Decimal.{within}
use Rattle.hm_names.specs.Region.{Region}
use Rattle.hm_names.specs.Server.{Server}
use Rattle.hm_names.specs.Servers.{server_text, read_server}
use Rattle.hm_names.proofs.Decimals.{number_of-decimal}
use Rattle.hm_script.specs.declared.command.Command.{Command}
use Rattle.hm_script.specs.declared.keyword.Keyword.{Keyword}
use Rattle.hm_script.specs.declared.keyword.Keyword.TheVariants.{Workers, OfNs, Create, OfTable, Modify, Split, Merge, Move, OfNumber, OfServer, Refuse, Backoff, Tick, Group, TableGroup, Procs, Cut, Old, Alone}
use Rattle.hm_script.specs.Lines.{lines_of}
use Rattle.hm_script.specs.Printing.{IsReadBack, FitRest, Fit, IsFitting}
use Rattle.hm_script.specs.Reading.{may_stand}
use Rattle.hm_script.specs.Script.{AreMergeable, Reader, IsSpelled, IsSpelledTo, IsLater, IsPrintableTo, if_had, onto_others, read_lines, read_script, read_to, unless_bad, whole, line_text, script_text}
use Rattle.hm_script.specs.Shapes.{upto, many}
use Rattle.hm_script.specs.Spellings.{spelling, behind_space, command_text}
use Rattle.hm_script.specs.Values.{Need, region, number, server, target, Value, of_region, of_number, of_server, named, numbered, read}
use Rattle.hm_script.proofs.KeywordLemmas.{keyword_unskipped}
use Rattle.hm_script.proofs.LineReads.{lines_right, command_right, line_read}
use Rattle.hm_script.proofs.ScriptLemmas.{lines_said, said_had, script_lines}
use Rattle.hm_script.proofs.TextWords.{word_decimal}

-- a number is read back where it may be so great
pub number_read : (least most n : ℕ) → n < 2 ^ 64 → least ≤ n → n ≤ most → IsReadBack (number least most) (of_number n)
number_read least most n small from within_most =
    let found = number_of-decimal n small in
    (word_decimal n small, ap (λ r. numbered (within least most r)) found ∙ grind (arith, nat_tests))

is_false : (b : Bool) → (b ≡ true → ⊥) → b ≡ false
is_false true never = absurd (never refl)
is_false false never = refl

storage_unread : (s : Server) → named of_server (read_server (codes "storage")) ≡ Ok (of_server s) → ⊥
unfolding cut_first
storage_unread s e = cc

-- a server is no storage
pub target_read : (s : Server) → named of_server (read_server (server_text s)) ≡ Ok (of_server s) → read target (server_text s) ≡ Ok (of_server s)
target_read s e =
    let other : bytes_eq (server_text s) (codes "storage") ≡ false =
    is_false _ (λ same. storage_unread s (ap (λ text. named of_server (read_server text)) (sym ((bytes_eq-Decides (server_text s) (codes "storage")).0 same)) ∙ e)) in
    rw other e

-- one value more
pub fit_more : (need : Need) (values : List Value) (value : Value) → FitRest (many need) values → IsReadBack need value → FitRest (many need) (values ++ value ∷ [])
fit_more need [] value f r = (r, tt)
fit_more need (first ∷ values) value f r = (f.0, fit_more need values value f.1 r)

-- at most so many values of any number
fit_upto : (need : Need) (most : ℕ) (values : List Value) → length values ≤ most → FitRest (many need) values → FitRest (upto most need) values
fit_upto need zero [] few f = tt
fit_upto need (suc more) [] few f = tt
fit_upto need zero (value ∷ values) few f = absurd (omega (arith, few))
fit_upto need (suc more) (value ∷ values) few f = (f.0, fit_upto need more values (omega (arith, few)) f.1)

-- the regions of a merge
pub fit_merge : (most : ℕ) (regions : List Region) → AreMergeable most (length regions) → FitRest (many region) (map of_region regions)
    → Fit (region ∷ region ∷ []) (upto (most - 2) region) (map of_region regions)
fit_merge most [] e f = absurd (let some = e.0 in omega (arith, some))
fit_merge most (a ∷ []) e f = absurd (let some = e.0 in omega (arith, some))
fit_merge most (a ∷ b ∷ regions) e f =
    let few = e.1 in
    let same : length (map of_region regions) ≡ length regions = length-map regions of_region in
    let left : length (map of_region regions) ≤ most - 2 = omega (arith, same, few) in
    (f.0, (f.1.0, fit_upto region (most - 2) (map of_region regions) left f.1.1))

-- the servers of a group
pub fit_group : (servers : List Server) → 1 ≤ length servers → FitRest (many server) (map of_server servers) → Fit (server ∷ []) (many server) (map of_server servers)
fit_group [] some f = absurd (omega (arith, some))
fit_group (a ∷ servers) some f = f

-- the texts and the values of one item more
next_value : {X : Type 0} (form : X → Value) (xs : List X) (i : ℕ) (x : X) → i < length xs → x ≡ get_or xs i x → map form (take (i + 1) xs) ≡ map form (take i xs) ++ form x ∷ []
next_value form xs i x within is = map_more form xs i x within ∙ ap (λ y. map form (take i xs) ++ form y ∷ []) (sym is)

pub text_more : {X : Type 0} (form : X → Value) (old out new : List ℕ) (xs : List X) (i : ℕ) (x : X) → i < length xs → x ≡ get_or xs i x
    → out ≡ old ++ flat_map behind_space (map form (take i xs)) → new ≡ out ++ behind_space (form x) → new ≡ old ++ flat_map behind_space (map form (take (i + 1) xs))
text_more form old out new xs i x within is so_far written =
    written ∙ ap (λ t. t ++ behind_space (form x)) so_far ∙ flat_map_more behind_space old (map form (take i xs)) (form x)
    ∙ ap (λ vs. old ++ flat_map behind_space vs) (sym (next_value form xs i x within is))

pub fit_next : {X : Type 0} (need : Need) (form : X → Value) (xs : List X) (i : ℕ) (x : X) → i < length xs → x ≡ get_or xs i x
    → FitRest (many need) (map form (take i xs)) → IsReadBack need (form x) → FitRest (many need) (map form (take (i + 1) xs))
fit_next need form xs i x within is fit read_back =
    subst (λ vs. FitRest (many need) vs) (sym (next_value form xs i x within is)) (fit_more need (map form (take i xs)) (form x) fit read_back)

pub script_more : (out new : List ℕ) (commands : List Command) (i : ℕ) (c : Command) → i < length commands → c ≡ get_or commands i c
    → out ≡ script_text (take i commands) → new ≡ out ++ line_text c → new ≡ script_text (take (i + 1) commands)
script_more out new commands i c within is so_far written =
    written ∙ ap (λ t. t ++ line_text c) so_far ∙ flat_map_more line_text [] (take i commands) c
    ∙ ap script_text (sym (take_more commands i c within ∙ ap (λ d. take i commands ++ d ∷ []) (sym is)))

-- a command that a line can say, and its values fit
pub record IsPut (reader : Reader) (command : Command) : Type 0 where
  pub said : IsSpelledTo reader command
  pub fit : IsFitting reader.most_regions (spelling command)

-- the lines of a command and those after it
line_more : (reader : Reader) (n : ℕ) (first : Bool) (command : Command) (rest : List ℕ) → may_stand first (spelling command).keyword ≡ true → IsPut reader command
    → read_lines reader n first (lines_of ((command_text command ++ 10 ∷ []) ++ rest)) ≡ onto_others (spelling command) (read_lines reader (n + 1) false (lines_of rest))
line_more reader n first command rest stands put =
    let said = spelling command in
    let had = put.said.had in
    ap (λ bs. read_lines reader n first (lines_of bs)) (append_assoc (command_text command) (10 ∷ []) rest)
    ∙ ap (read_lines reader n first) (lines_right (command_text command) rest (command_right reader.most_regions said.keyword said.values put.fit))
    ∙ lines_said reader n first (command_text command) (lines_of rest) said (keyword_unskipped said.keyword _)
    (ap (if_had reader.has (command_text command)) (line_read reader.program reader.most_regions first said.keyword said.values put.said.known stands put.fit) ∙ said_had reader (command_text command) said had)

later_read : (reader : Reader) (n : ℕ) (commands : List Command) → All IsLater commands → All (IsPut reader) commands
    → read_lines reader n false (lines_of (script_text commands)) ≡ Ok (map spelling commands)
later_read reader n [] later put = refl
later_read reader n (command ∷ commands) later put =
    line_more reader n false command (script_text commands) (All-head IsLater command commands later) (All-head (IsPut reader) command commands put)
    ∙ ap (onto_others (spelling command)) (later_read reader (n + 1) commands (All-tail IsLater command commands later) (All-tail (IsPut reader) command commands put))

stands_first : (keyword : Keyword) → may_stand true keyword ≡ true
stands_first Workers = refl
stands_first (OfNs word) = refl
stands_first Create = refl
stands_first (OfTable word) = refl
stands_first Modify = refl
stands_first Split = refl
stands_first Merge = refl
stands_first Move = refl
stands_first (OfNumber word) = refl
stands_first (OfServer word) = refl
stands_first Refuse = refl
stands_first Backoff = refl
stands_first Tick = refl
stands_first Group = refl
stands_first TableGroup = refl
stands_first Procs = refl
stands_first Cut = refl
stands_first (Alone word) = refl
stands_first Old = refl

all_read : (reader : Reader) (commands : List Command) → All IsLater (drop 1 commands) → All (IsPut reader) commands
    → read_lines reader 1 true (lines_of (script_text commands)) ≡ Ok (map spelling commands)
all_read reader [] later put = refl
all_read reader (command ∷ commands) later put =
    line_more reader 1 true command (script_text commands) (stands_first (spelling command).keyword) (All-head (IsPut reader) command commands put)
    ∙ ap (onto_others (spelling command)) (later_read reader 2 commands later (All-tail (IsPut reader) command commands put))

-- what a reader is told, a reader that has each command is told too
put_whole : (reader : Reader) (command : Command) → IsPut reader command → IsPut (whole reader) command
put_whole reader command put = record { said = record { spelled = put.said.spelled; known = put.said.known; had = refl }; fit = put.fit }

-- a script that isn't too long is read back
pub script_read : (reader : Reader) (commands : List Command) → All (λ c. IsSpelled reader.most_regions c → IsFitting reader.most_regions (spelling c)) commands → IsPrintableTo reader commands
    → length (script_text commands) ≤ 1048576 → read_to reader (script_text commands) ≡ Ok (map spelling commands)
script_read reader commands fit printable short =
    let put : All (IsPut reader) commands =
    λ k d within. record { said = printable.0 k d within; fit = fit k d within (IsSpelledTo.spelled (printable.0 k d within)) } in
    let is : (r : Reader) → All (IsPut r) commands → read_script r (script_text commands) ≡ Ok (map spelling commands) =
    λ r all. script_lines r (script_text commands) short ∙ all_read r commands printable.1 all in
    ap (λ reading. unless_bad reading (read_script reader (script_text commands))) (is (whole reader) (λ k d within. put_whole reader _ (put k d within)))
    ∙ is reader put
