-- The roots of a base, as they are shown: they ended, and what they did is forgotten. Who is shown by a number.
use Rattle.std.specs.Prelude.{ℕ, List, [], ◌∷◌, ◌++◌, ◌==◌, Option, Some, None, false, if◌then◌else◌}
use Rattle.hm_names.specs.declared.pid.Pid.{Pid}
use Rattle.hm_data.specs.declared.answer.Cause.{Cause}
use Rattle.hm_data.specs.declared.args.Args.{Args}
use Rattle.hm_data.specs.declared.entry.Entry.TheVariants as entry_is
use Rattle.hm_data.specs.declared.part.Part.{Part}
use Rattle.hm_data.specs.declared.part.Part.TheVariants as part_is
use Rattle.hm_data.specs.declared.record.Phase.{Phase}
use Rattle.hm_data.specs.declared.record.Phase.TheVariants as phase_is
use Rattle.hm_data.specs.declared.record.Record.{Record}
use Rattle.hm_model.specs.Answers.{no_row}
use Rattle.hm_model.specs.Journal.{Past}
use Rattle.hm_model.specs.Kinds.{kind_of}
use Rattle.hm_model.specs.Records.{record_of}

-- how a root of a base ended: well, or rolled back for the cause
abbrev pub old_phase : Option Cause → Phase
old_phase None = phase_is.Success
old_phase (Some cause) = phase_is.RolledBack cause

-- a root of a base as it is shown
abbrev pub old_record : Pid → Args → Option Cause → Record
old_record pid args cause = record {
  pid = pid;
  parent = None;
  root = pid;
  kind = kind_of args;
  edition = 0;
  row = no_row;
  args = args;
  tries = 0;
  aborted = false;
  phase = old_phase cause;
}

-- what is shown of a number, with a part
abbrev pub part_record : Part → ℕ → Option Record → Option Record
part_record (part_is.Root pid nonce args cause) p shown = if p == pid.0 then Some (old_record pid args cause) else shown
part_record part p shown = shown

-- the root of the base that has a number, as it is shown
abbrev pub old_record_of : Past → ℕ → Option Record
old_record_of [] p = None
old_record_of (entry_is.Base part ∷ before) p = part_record part p (old_record_of before p)
old_record_of (entry ∷ before) p = old_record_of before p

-- roots that are shown, with that of a part
abbrev pub with_record : Part → List Record → List Record
with_record (part_is.Root pid nonce args cause) shown = shown ++ (old_record pid args cause ∷ [])
with_record part shown = shown

-- the roots of the base as they are shown, in the order of their numbers
abbrev pub old_records : Past → List Record
old_records [] = []
old_records (entry_is.Base part ∷ before) = with_record part (old_records before)
old_records (entry ∷ before) = old_records before

-- the one that is there, or else the other
abbrev pub one_of : Option Record → Option Record → Option Record
one_of (Some one) other = Some one
one_of None other = other

-- who is shown by a number: a procedure that was made behind the base, or a root of the base
abbrev pub shown_of : Past → ℕ → Option Record
shown_of J p = one_of (record_of J p) (old_record_of J p)
