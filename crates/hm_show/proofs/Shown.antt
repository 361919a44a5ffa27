-- Procedures that are shown one by one.
use Rattle.std.proofs.Common.{◌≡◌, ℕ, suc, ◌+◌, ◌-◌, ◌<◌, ◌≤◌, List, [], ◌∷◌, Some, None, map, refl, ap, ◌∙◌, arith}
use Rattle.std.specs.List.{cons_option, filter_map}
use Rattle.hm_names.specs.declared.pid.Pid.{Pid}
use Rattle.hm_data.specs.declared.record.Record.{Record}
use Rattle.hm_model.specs.Journal.{Past}
use Rattle.hm_model.specs.Pieces.{numbers_from}
use Rattle.hm_model.specs.Records.{record_of}
use Rattle.hm_model.specs.Tree.{pid_of}
use Rattle.hm_show.specs.Procs.{proc_line}
use Rattle.hm_show.specs.Tables.{Line}

-- procedures by their numbers
abbrev pub told : Past → List ℕ → List Record
told past numbers = filter_map (record_of past) numbers

-- the lines of procedures, by their numbers
abbrev pub lines_of : Past → List Pid → List Line
lines_of past pids = map proc_line (filter_map (λ (pid : Pid). record_of past pid.0) pids)

pub lines_are : (past : Past) (numbers : List ℕ) → lines_of past (map pid_of numbers) ≡ map proc_line (told past numbers)
lines_are past numbers = ap (map proc_line) (by numbers)
  where
    by : (ns : List ℕ) → filter_map (λ (pid : Pid). record_of past pid.0) (map pid_of ns) ≡ told past ns
    by [] = refl
    by (n ∷ ns) = ap (cons_option (record_of past n)) (by ns)

-- one that is there, and one that isn't
pub line_here : (past : Past) (pid : Pid) (more : List Pid) (one : Record) → record_of past pid.0 ≡ Some one → lines_of past (pid ∷ more) ≡ proc_line one ∷ lines_of past more
line_here past pid more one is = ap (λ o. map proc_line (cons_option o (filter_map (λ (p : Pid). record_of past p.0) more))) is

pub line_gone : (past : Past) (pid : Pid) (more : List Pid) → record_of past pid.0 ≡ None → lines_of past (pid ∷ more) ≡ lines_of past more
line_gone past pid more is = ap (λ o. map proc_line (cons_option o (filter_map (λ (p : Pid). record_of past p.0) more))) is

-- the numbers from one on up to the last
abbrev pub numbers_to : ℕ → ℕ → List ℕ
numbers_to index count = numbers_from (index + 1) (count - index)

pub numbers_next : (index count : ℕ) → index < count → numbers_to index count ≡ (index + 1) ∷ numbers_to (index + 1) count
numbers_next index count lt =
    let e : count - index ≡ suc (count - (index + 1)) = omega (arith, lt) in
    ap (numbers_from (index + 1)) e

pub told_next : (past : Past) (index count : ℕ) → index < count → told past (numbers_to index count) ≡ cons_option (record_of past (index + 1)) (told past (numbers_to (index + 1) count))
told_next past index count lt = ap (told past) (numbers_next index count lt)

pub here_next : (past : Past) (index count : ℕ) (one : Record) → index < count → record_of past (index + 1) ≡ Some one → told past (numbers_to index count) ≡ one ∷ told past (numbers_to (index + 1) count)
here_next past index count one lt is = told_next past index count lt ∙ ap (λ o. cons_option o (told past (numbers_to (index + 1) count))) is

pub gone_next : (past : Past) (index count : ℕ) → index < count → record_of past (index + 1) ≡ None → told past (numbers_to index count) ≡ told past (numbers_to (index + 1) count)
gone_next past index count lt is = told_next past index count lt ∙ ap (λ o. cons_option o (told past (numbers_to (index + 1) count))) is

pub none_left : (past : Past) (index count : ℕ) → count ≤ index → told past (numbers_to index count) ≡ []
none_left past index count over = let e : count - index ≡ 0 = omega (arith, over) in ap (λ n. told past (numbers_from (index + 1) n)) e
