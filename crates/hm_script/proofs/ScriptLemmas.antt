-- Lemmas on the lines of a script.
use Rattle.std.proofs.Common.{◌≡◌, ◌⊎◌, ◌==◌, ◌≤◌, ◌<◌, ◌+◌, ◌-◌, ℕ, zero, suc, Bool, true, false, Option, Some, None, Result, Ok, Err, List, [], ◌∷◌, ◌++◌, length, map, take, drop, All, if◌then◌else◌, refl, sym, ap, subst, ◌∙◌, append_assoc, arith}
use Rattle.std.specs.Prelude.{IfSome, OnErr, OnOk, is_err}
use Rattle.std.proofs.lemmas.List.Elements.{All-cons, All-nil}
use Rattle.std.proofs.lemmas.List.{append-nil, nil_from_length, take-append-drop}
use Rattle.std.proofs.lemmas.Bool.Decides.{nat_tests}
use Rattle.hm_script.specs.declared.bad.Bad.{Bad}
use Rattle.hm_script.specs.declared.bad.Why.{Why}
use Rattle.hm_script.specs.declared.bad.Why.TheVariants.{TooLong, Word}
use Rattle.hm_script.specs.Lines.{indent_of, lines_of, is_skipped}
use Rattle.hm_script.specs.Reading.{line_kept, read_line}
use Rattle.hm_script.specs.Script.{IsFull, Reader, RunsOutAt, SaysOne, before_others, every, if_had, more_room, onto_others, read_lines, read_script, read_to, room_after, unless_bad, whole}
use Rattle.hm_script.specs.Spellings.{Spelling, spelling}
use Rattle.hm_script.specs.declared.command.Command.{Command}

-- commands before others
abbrev pub onto_all_others : List Spelling → Result (List Spelling) Bad → Result (List Spelling) Bad
onto_all_others said (Ok others) = Ok (said ++ others)
onto_all_others said (Err bad) = Err bad

pub onto_all_others-onto_others : (said : List Spelling) (next : Spelling) (others : Result (List Spelling) Bad)
    → onto_all_others said (onto_others next others) ≡ onto_all_others (said ++ next ∷ []) others
onto_all_others-onto_others said next (Ok others) = ap Ok (sym (append_assoc said (next ∷ []) others))
onto_all_others-onto_others said next (Err bad) = refl

-- commands before others, unless there is a command that the program doesn't have
abbrev pub unless_lacked : Option Bad → List Spelling → Result (List Spelling) Bad → Result (List Spelling) Bad
unless_lacked None said others = onto_all_others said others
unless_lacked (Some bad) said others = Err bad

-- what is read twice
pub read_again : (reading : Result (List Spelling) Bad) → unless_bad reading reading ≡ reading
read_again (Ok said) = refl
read_again (Err bad) = refl

-- To a reader
module _ (reader : Reader) where
  -- a line that is skipped
  pub lines_skip : (number : ℕ) (first : Bool) (line : List ℕ) (lines : List (List ℕ)) → is_skipped line ≡ true
      → read_lines reader number first (line ∷ lines) ≡ read_lines reader (number + 1) first lines
  lines_skip number first line lines skipped = rw skipped refl

  -- a line that says a command
  pub lines_said : (number : ℕ) (first : Bool) (line : List ℕ) (lines : List (List ℕ)) (said : Spelling) → is_skipped line ≡ false → if_had reader.has line (read_line reader.program reader.most_regions first line) ≡ Ok said
      → read_lines reader number first (line ∷ lines) ≡ onto_others said (read_lines reader (number + 1) false lines)
  lines_said number first line lines said skipped says = rw (skipped, says) refl

  -- a line that says none
  pub lines_wrong : (number : ℕ) (first : Bool) (line : List ℕ) (lines : List (List ℕ)) (why : Why) → is_skipped line ≡ false → if_had reader.has line (read_line reader.program reader.most_regions first line) ≡ Err why
      → read_lines reader number first (line ∷ lines) ≡ Err (record { line = number; why = why })
  lines_wrong number first line lines why skipped says = rw (skipped, says) refl

  pub said_had : (line : List ℕ) (one : Spelling) → reader.has one ≡ true → if_had reader.has line (Ok one) ≡ Ok one
  said_had line one had = rw had refl

  said_lacked : (line : List ℕ) (one : Spelling) → reader.has one ≡ false → if_had reader.has line (Ok one) ≡ Err (Word (indent_of line))
  said_lacked line one lacks = rw lacks refl

  -- a line with a command that the program has or doesn't have
  pub lines_asked : (before next : Option Bad) (said : List Spelling) (one : Spelling) (number : ℕ) (first : Bool) (line : List ℕ) (lines : List (List ℕ)) → is_skipped line ≡ false
      → read_line reader.program reader.most_regions first line ≡ Ok one → IfSome before (λ bad. next ≡ Some bad) → (before ≡ None → reader.has one ≡ true → next ≡ None)
      → (before ≡ None → reader.has one ≡ false → next ≡ Some (record { line = number; why = Word (indent_of line) }))
      → unless_lacked before said (read_lines reader number first (line ∷ lines)) ≡ unless_lacked next (said ++ one ∷ []) (read_lines reader (number + 1) false lines)
  lines_asked (Some bad) next said one number first line lines skipped says kept had lacked =
      ap (λ n. unless_lacked n (said ++ one ∷ []) (read_lines reader (number + 1) false lines)) (sym kept)
  lines_asked None next said one number first line lines skipped says kept had lacked = by (reader.has one) refl
    where
      more : Result (List Spelling) Bad
      more = read_lines reader (number + 1) false lines

      by : (b : Bool) → reader.has one ≡ b → onto_all_others said (read_lines reader number first (line ∷ lines)) ≡ unless_lacked next (said ++ one ∷ []) more
      by true is =
          ap (onto_all_others said) (lines_said number first line lines one skipped (ap (if_had reader.has line) says ∙ said_had line one is)) ∙ onto_all_others-onto_others said one more
          ∙ ap (λ n. unless_lacked n (said ++ one ∷ []) more) (sym (had refl is))
      by false is =
          ap (onto_all_others said) (lines_wrong number first line lines (Word (indent_of line)) skipped (ap (if_had reader.has line) says ∙ said_lacked line one is))
          ∙ ap (λ n. unless_lacked n (said ++ one ∷ []) more) (sym (lacked refl is))

  -- the program has the command of a line
  line_had : (line : List ℕ) (reading : Result Spelling Why) (said : Spelling) → if_had reader.has line reading ≡ Ok said → reader.has said ≡ true
  line_had line (Err why) said is = absurd (cc)
  line_had line (Ok read) said is = by (reader.has read) refl is
    where
      by : (b : Bool) → reader.has read ≡ b → (if b then Ok read else Err (Word (indent_of line))) ≡ Ok said → reader.has said ≡ true
      by true had e = let same : read ≡ said = cc in subst (λ s. reader.has s ≡ true) same had
      by false lacks e = absurd (cc)

  -- and those of all
  abbrev AreHad : List Spelling → Type 0
  AreHad [] = Unit {0}
  AreHad (said ∷ more) = (reader.has said ≡ true) × AreHad more

  -- lines say only such commands
  abbrev SayHad : ℕ → Bool → List (List ℕ) → Type 0
  SayHad number first lines = (all : List Spelling) → read_lines reader number first lines ≡ Ok all → AreHad all

  line_and_others : (number : ℕ) (first : Bool) (line : List ℕ) (said : Result Spelling Why) (more : Result (List Spelling) Bad) (all : List Spelling) → if_had reader.has line (read_line reader.program reader.most_regions first line) ≡ said
      → ((others : List Spelling) → more ≡ Ok others → AreHad others) → before_others number said more ≡ Ok all → AreHad all
  line_and_others number first line (Ok said) (Ok more) all says others is =
      let same : said ∷ more ≡ all = cc in subst AreHad same (line_had line (read_line reader.program reader.most_regions first line) said says, others more refl)
  line_and_others number first line (Ok said) (Err bad) all says others is = absurd (cc)
  line_and_others number first line (Err why) more all says others is = absurd (cc)

  first_and_others : (number : ℕ) (first skipped : Bool) (line : List ℕ) (lines : List (List ℕ)) (all : List Spelling) → SayHad (number + 1) first lines → SayHad (number + 1) false lines
      → (if skipped then read_lines reader (number + 1) first lines else before_others number (if_had reader.has line (read_line reader.program reader.most_regions first line)) (read_lines reader (number + 1) false lines)) ≡ Ok all → AreHad all
  first_and_others number first true line lines all skip others is = skip all is
  first_and_others number first false line lines all skip others is =
      line_and_others number first line (if_had reader.has line (read_line reader.program reader.most_regions first line)) (read_lines reader (number + 1) false lines) all refl others is

  lines_had : (number : ℕ) (first : Bool) (lines : List (List ℕ)) → SayHad number first lines
  lines_had number first [] all is = let same : [] ≡ all = cc in subst AreHad same tt
  lines_had number first (line ∷ lines) all is =
      first_and_others number first (is_skipped line) line lines all (lines_had (number + 1) first lines) (lines_had (number + 1) false lines) is

  all_had : (commands : List Command) → AreHad (map spelling commands) → All (λ command. reader.has (spelling command) ≡ true) commands
  all_had [] had = All-nil (λ command. reader.has (spelling command) ≡ true)
  all_had (command ∷ commands) had = All-cons (λ command. reader.has (spelling command) ≡ true) command commands had.0 (all_had commands had.1)

  -- a script that isn't too long
  pub script_lines : (bytes : List ℕ) → length bytes ≤ 1048576 → read_script reader bytes ≡ read_lines reader 1 true (lines_of bytes)
  unfolding read_script
  script_lines bytes short = grind (arith, nat_tests)

  -- a script that is too long
  pub script_long : (bytes : List ℕ) → 1048576 < length bytes → read_script reader bytes ≡ Err (record { line = 0; why = TooLong })
  unfolding read_script
  script_long bytes long = grind (arith, nat_tests)

  -- all lines were read
  script_said : (bytes rest : List ℕ) (said : List Spelling) (number : ℕ) (first : Bool) → length bytes ≤ 1048576
      → read_lines reader 1 true (lines_of bytes) ≡ onto_all_others said (read_lines reader number first (lines_of rest)) → length rest ≡ 0 → read_script reader bytes ≡ Ok said
  script_said bytes rest said number first short so_far none =
      script_lines bytes short ∙ so_far ∙ ap (λ bs. onto_all_others said (read_lines reader number first (lines_of bs))) (nil_from_length rest none)
      ∙ ap Ok (append-nil said)

  -- the program has each command of a script
  pub script_had : (bytes : List ℕ) (commands : List Command) → length bytes ≤ 1048576 → read_script reader bytes ≡ Ok (map spelling commands) → All (λ command. reader.has (spelling command) ≡ true) commands
  script_had bytes commands short is = all_had commands (lines_had 1 true (lines_of bytes) (map spelling commands) (sym (script_lines bytes short) ∙ is))

-- what holds of an Ok, and of an Err
pub on_ok : {A E : Type 0} {P : Type 0} (result : Result A E) → is_err result ≡ false → OnOk result P → P
on_ok (Ok value) none p = p
on_ok (Err why) none p = absurd (cc)

pub on_err : {A E : Type 0} {P : Type 0} (result : Result A E) → is_err result ≡ true → OnErr result P → P
on_err (Ok value) is p = absurd (cc)
on_err (Err why) is p = p

-- one more is not none
pub not_none : {A : Type 0} (xs : List A) (x : A) → (length (xs ++ x ∷ []) == 0) ≡ false
not_none [] x = refl
not_none (y ∷ xs) x = grind (arith, nat_tests)

-- room that is made where there is some
pub full_more : (room more : ℕ) → IsFull room → more ≡ more_room room → IsFull (room + more)
full_more room more full is = (suc full.0, let all : room ≡ room_after full.0 = full.1 in ap (λ m. room + m) is ∙ ap (λ r. r + more_room r) all)

-- the line at a place stands after those before it
take_next : (n : ℕ) (lines : List (List ℕ)) (line : List ℕ) (after : List (List ℕ)) → drop n lines ≡ line ∷ after → take (suc n) lines ≡ take n lines ++ line ∷ []
take_next zero [] line after e = cc
take_next zero (first ∷ lines) line after e = let same : first ≡ line = cc in ap (λ l. l ∷ []) same
take_next (suc n) [] line after e = cc
take_next (suc n) (first ∷ lines) line after e = ap (λ ls. first ∷ ls) (take_next n lines line after e)

-- and before those after it
drop_next : (n : ℕ) (lines : List (List ℕ)) (line : List ℕ) (after : List (List ℕ)) → drop n lines ≡ line ∷ after → drop (suc n) lines ≡ after
drop_next zero [] line after e = cc
drop_next zero (first ∷ lines) line after e = cc
drop_next (suc n) [] line after e = cc
drop_next (suc n) (first ∷ lines) line after e = drop_next n lines line after e

pub lines_left : (n : ℕ) (lines : List (List ℕ)) (line : List ℕ) (more after : List (List ℕ)) → drop n lines ≡ more → more ≡ line ∷ after → drop (n + 1) lines ≡ after
lines_left n lines line more after left next =
    ap (λ k. drop k lines) (let e : n + 1 ≡ suc n = omega arith in e) ∙ drop_next n lines line after (left ∙ next)

-- so many lines say these commands, whatever stands after them
abbrev pub Passed : Reader → List (List ℕ) → ℕ → Bool → List Spelling → Type 0
Passed reader lines n first said =
    (more : List (List ℕ)) → read_lines (whole reader) 1 true (take n lines ++ more) ≡ onto_all_others said (read_lines (whole reader) (n + 1) first more)

-- With so many lines passed, and the next of them at hand
module _ (reader : Reader) (lines : List (List ℕ)) (n : ℕ) (first : Bool) (said : List Spelling) (passed : Passed reader lines n first said)
    (line : List ℕ) (rest after : List (List ℕ)) (left : drop n lines ≡ rest) (next : rest ≡ line ∷ after) where
  reads : (more : List (List ℕ)) → read_lines (whole reader) 1 true (take (n + 1) lines ++ more) ≡ onto_all_others said (read_lines (whole reader) (n + 1) first (line ∷ more))
  reads more =
      ap (λ k. read_lines (whole reader) 1 true (take k lines ++ more)) (let e : n + 1 ≡ suc n = omega arith in e)
      ∙ ap (λ ls. read_lines (whole reader) 1 true (ls ++ more)) (take_next n lines line after (left ∙ next))
      ∙ ap (read_lines (whole reader) 1 true) (append_assoc (take n lines) (line ∷ []) more) ∙ passed (line ∷ more)

  pub passed_skip : is_skipped line ≡ true → Passed reader lines (n + 1) first said
  passed_skip skipped more = reads more ∙ ap (onto_all_others said) (lines_skip (whole reader) (n + 1) first line more skipped)

  pub passed_said : (one : Spelling) → is_skipped line ≡ false → read_line reader.program reader.most_regions first line ≡ Ok one → Passed reader lines (n + 1) false (said ++ one ∷ [])
  passed_said one skipped says more =
      reads more ∙ ap (onto_all_others said) (lines_said (whole reader) (n + 1) first line more one skipped (ap (if_had every line) says))
      ∙ onto_all_others-onto_others said one (read_lines (whole reader) (n + 1 + 1) false more)

  -- the whole is what was passed, and the rest
  so_far : read_lines (whole reader) 1 true lines ≡ onto_all_others said (read_lines (whole reader) (n + 1) first rest)
  so_far = ap (read_lines (whole reader) 1 true) (sym (take-append-drop n lines)) ∙ passed (drop n lines) ∙ ap (λ ls. onto_all_others said (read_lines (whole reader) (n + 1) first ls)) left

  -- the next line says no command
  pub line_wrong : (bytes : List ℕ) (why : Why) → length bytes ≤ 1048576 → lines ≡ lines_of bytes → is_skipped line ≡ false
      → read_line reader.program reader.most_regions first line ≡ Err why → read_script (whole reader) bytes ≡ Err (record { line = n + 1; why = why })
  line_wrong bytes why short are skipped says =
      script_lines (whole reader) bytes short ∙ ap (read_lines (whole reader) 1 true) (sym are) ∙ so_far ∙ ap (λ ls. onto_all_others said (read_lines (whole reader) (n + 1) first ls)) next
      ∙ ap (onto_all_others said) (lines_wrong (whole reader) (n + 1) first line after why skipped (ap (if_had every line) says))

  -- memory runs out at the next line
  pub runs_out : first ≡ (length said == 0) → (line_kept reader.program reader.most_regions first line ≡ true) ⊎ (IsFull (length said) × SaysOne reader first line) → RunsOutAt reader lines (n + 1)
  runs_out is here =
      let back : n + 1 - 1 ≡ n = omega arith in
      record {
        said = said;
        line = line;
        later = after;
        before = ap (λ k. read_lines (whole reader) 1 true (take k lines)) back ∙ ap (read_lines (whole reader) 1 true) (sym (append-nil (take n lines))) ∙ passed [] ∙ ap Ok (append-nil said);
        here = ap (λ k. drop k lines) back ∙ left ∙ next;
        kept = subst (λ b. (line_kept reader.program reader.most_regions b line ≡ true) ⊎ (IsFull (length said) × SaysOne reader b line)) is here;
      }

-- To a reader, once the script was read as by one that has all commands
module _ (reader : Reader) where
  -- bytes that are no script are none to the reader
  pub told_bad : (bytes : List ℕ) (bad : Bad) → read_script (whole reader) bytes ≡ Err bad → read_to reader bytes ≡ Err bad
  told_bad bytes bad is = ap (λ r. unless_bad r (read_script reader bytes)) is

  -- all lines were read, and the reader has their commands, or doesn't have one
  module _ (bytes rest : List ℕ) (said : List Spelling) (number : ℕ) (first : Bool) (lacked : Option Bad) (short : length bytes ≤ 1048576)
      (passed : Passed reader (lines_of bytes) number first said) (left : drop number (lines_of bytes) ≡ lines_of rest)
      (asked : read_lines reader 1 true (lines_of bytes) ≡ unless_lacked lacked said (read_lines reader (number + 1) first (lines_of rest))) (none : length rest ≡ 0) where
    all_read : read_script (whole reader) bytes ≡ Ok said
    all_read = script_said (whole reader) bytes rest said (number + 1) first short
        (ap (read_lines (whole reader) 1 true) (sym (take-append-drop number (lines_of bytes))) ∙ passed (drop number (lines_of bytes))
        ∙ ap (λ ls. onto_all_others said (read_lines (whole reader) (number + 1) first ls)) left) none

    told : (reading : Result (List Spelling) Bad) → read_script reader bytes ≡ reading → read_to reader bytes ≡ reading
    told reading is = ap (λ r. unless_bad r (read_script reader bytes)) all_read ∙ is

    pub script_lacked : (bad : Bad) → lacked ≡ Some bad → read_to reader bytes ≡ Err bad
    script_lacked bad is = told (Err bad) (script_lines reader bytes short ∙ asked ∙ ap (λ l. unless_lacked l said (read_lines reader (number + 1) first (lines_of rest))) is)

    pub script_asked : lacked ≡ None → read_script reader bytes ≡ Ok said
    script_asked is = script_said reader bytes rest said (number + 1) first short (asked ∙ ap (λ l. unless_lacked l said (read_lines reader (number + 1) first (lines_of rest))) is) none

    pub script_told : lacked ≡ None → read_to reader bytes ≡ Ok said
    script_told is = told (Ok said) (script_asked is)
