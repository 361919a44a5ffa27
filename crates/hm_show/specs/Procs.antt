-- The table `procs`, and all procedures as JSON.
use Rattle.std.specs.Prelude.{ℕ, ◌+◌, ◌-◌, List, [], ◌∷◌, ◌++◌, Bool, Option, Some, None, codes, filter, is_none, map}
use Rattle.std.specs.Fmt.{decimal}
use Rattle.std.specs.List.{filter_map}
use Rattle.serde_json.specs.Data.{Data, array, member, no_members, null, number, object, string, unsigned}
use Rattle.serde_json.specs.View.{items_of}
use Rattle.serde_json.specs.Written.{compact_text}
use Rattle.hm_names.specs.declared.pid.Pid.{Pid}
use Rattle.hm_data.specs.declared.answer.Cause.{Cause}
use Rattle.hm_data.specs.declared.record.Record.{Record}
use Rattle.hm_model.specs.Journal.{Past}
use Rattle.hm_model.specs.OldRoots.{shown_of}
use Rattle.hm_model.specs.Pieces.{numbers_from}
use Rattle.hm_model.specs.Procedures.{offset}
use Rattle.hm_model.specs.Records.{record_of}
use Rattle.hm_model.specs.Tree.{made}
use Rattle.hm_show.specs.Tables.{Line, table_of}
use Rattle.hm_show.specs.Words.{cause_in, cause_text, kind_text, state_text, subject_text}

-- the numbers up to the last that was given, rising
abbrev pub pids : Past → List ℕ
pids past = numbers_from 1 (made past)

-- all who are shown by a number, in the order of their numbers: roots of the base, and procedures that entries made
abbrev pub shown : Past → List Record
shown past = filter_map (shown_of past) (pids past)

-- the procedures that entries made, in the order of their numbers
abbrev pub made_behind : Past → List Record
made_behind past = filter_map (record_of past) (numbers_from (offset past + 1) (made past - offset past))

-- it has no parent
abbrev pub has_no_parent : Record → Bool
has_no_parent one = is_none one.parent

-- the name of a cause, as a word where there is one
abbrev pub cause_words : Option Cause → Line
cause_words None = []
cause_words (Some cause) = cause_text cause ∷ []

-- the line of a procedure
abbrev pub proc_line : Record → Line
proc_line one = decimal one.pid.0 ∷ kind_text one.args ∷ subject_text one.args ∷ state_text one.phase ∷ cause_words (cause_in one.phase)

-- one line for each root, in the order of their numbers
abbrev pub procs_table : Past → List ℕ
procs_table past = table_of (codes "procs") past (map proc_line (filter has_no_parent (shown past)))

-- the name of a cause, or null
abbrev pub cause_value : Option Cause → Data
cause_value None = null
cause_value (Some cause) = string (cause_text cause)

-- a number, or null
abbrev pub parent_value : Option Pid → Data
parent_value None = null
parent_value (Some pid) = number (unsigned pid.0)

-- a procedure as JSON, its keys in their order
abbrev pub proc_value : Record → Data
proc_value one = object (
    member (codes "cause") (cause_value (cause_in one.phase)) (
    member (codes "kind") (string (kind_text one.args)) (
    member (codes "parent") (parent_value one.parent) (
    member (codes "pid") (number (unsigned one.pid.0)) (
    member (codes "state") (string (state_text one.phase)) (
    member (codes "subject") (string (subject_text one.args)) no_members))))))

-- one line: an array of all who are shown in the order of their numbers, without spaces
abbrev pub procs_json : Past → List ℕ
procs_json past = compact_text (array (items_of (map proc_value (shown past)))) ++ codes "\n"
