-- What is kept of each procedure.
use Rattle.std.specs.Prelude.{◌≡◌, ℕ, ◌+◌, ◌==◌, List, [], ◌∷◌, length, Option, None, if◌then◌else◌, is_some, slice_get}
use Rattle.std.specs.Option.{option_map, option_or}
use Rattle.hm_names.specs.declared.pid.Pid.{Pid}
use Rattle.hm_data.specs.declared.args.Args.{Args}
use Rattle.hm_data.specs.declared.args.Args.TheVariants as args_are
use Rattle.hm_data.specs.declared.entry.Entry.{Entry}
use Rattle.hm_data.specs.declared.entry.Entry.TheVariants as entry_is
use Rattle.hm_data.specs.declared.part.Part.{Part}
use Rattle.hm_data.specs.declared.part.Part.TheVariants as part_is
use Rattle.hm_data.specs.declared.record.Phase.{Phase}
use Rattle.hm_model.specs.Editions.{edition_of}
use Rattle.hm_model.specs.Answers.{is_aborted, last_answer, report_of, row_of}
use Rattle.hm_model.specs.Inputs.{made_at_step}
use Rattle.hm_model.specs.Journal.{Past}
use Rattle.hm_model.specs.Procedures.{number_at, offset}
use Rattle.hm_model.specs.Kinds.{kind_of, table_of_request}
use Rattle.hm_model.specs.Phase.{cause, phase}
use Rattle.hm_model.specs.Places.{tries_of}
use Rattle.hm_model.specs.Records.{unfinished}
use Rattle.hm_model.specs.Reports.{verb_of}
use Rattle.hm_model.specs.Rules.{IsLegal}
use Rattle.hm_model.specs.Tree.{Node, args_in, first_of, made, node_of, parent_in, pid_of}
use Rattle.hm_model.specs.Waiting.{open_children, open_under}
use Rattle.hm_procedures.specs.Changes.{elder_by, first_made}
use Rattle.hm_procedures.specs.declared.kept.Tracked.{Tracked}

-- what the root of a part works on, if the part is of one
abbrev pub part_args : Part → List Args
part_args (part_is.Root pid nonce args cause) = args ∷ []
part_args part = []

-- what the procedures that an entry makes work on, in order; of a part of a base, what its root works on
abbrev pub args_made : Past → Entry → List Args
args_made before (entry_is.Submit nonce request) = args_are.Root request (first_of before (table_of_request request)) ∷ []
args_made before (entry_is.Step pid pick out) = args_in out.children
args_made before (entry_is.Undo pid row out) = args_in out.followers
args_made before (entry_is.Down server) = args_are.Crash server ∷ []
args_made before (entry_is.Base part) = part_args part
args_made before entry = []

-- how many procedures the last step of a procedure made
abbrev pub made_in_step : Past → ℕ → ℕ
made_in_step [] p = 0
made_in_step (entry_is.Step pid pick out ∷ before) p = if p == pid.0 then length (args_in out.children) else made_in_step before p
made_in_step (entry_is.Base part ∷ before) p = 0
made_in_step (entry ∷ before) p = made_in_step before p

-- the first child that a procedure made
abbrev pub first_child_of : Past → ℕ → Option Pid
first_child_of [] p = None
first_child_of (entry_is.Step pid pick out ∷ before) p =
    if p == pid.0 then option_or (first_child_of before p) (first_made (made before) (length (args_in out.children))) else first_child_of before p
first_child_of (entry_is.Base part ∷ before) p = None
first_child_of (entry ∷ before) p = first_child_of before p

-- what is kept of a procedure that is shown in a phase
abbrev pub kept_in : Phase → Past → ℕ → Node → Tracked
kept_in phase before p node = record {
  shown = record {
    pid = pid_of p;
    parent = option_map pid_of (parent_in node.above);
    root = pid_of node.root;
    kind = kind_of node.args;
    edition = edition_of before node.root;
    row = row_of before p node;
    args = node.args;
    tries = tries_of before p;
    aborted = is_aborted before p;
    phase = phase;
  };
  last = last_answer before p;
  report = report_of before p;
  has_called = is_some (verb_of before p);
  cause = cause before p;
  open_children = open_children before p;
  open_under = open_under before p;
  made_at_step = made_at_step before p;
  made_in_step = made_in_step before p;
  first_child = first_child_of before p;
}

-- what is kept of a procedure
abbrev pub kept_at : Past → ℕ → Node → Tracked
kept_at before p node = kept_in (phase before p node) before p node

-- what is kept of a procedure by its number
abbrev pub kept_of : Past → ℕ → Option Tracked
kept_of before p = option_map (kept_at before p) (node_of before p)

-- the root that is shown
abbrev pub root_shown : Tracked → Pid
root_shown one = let shown = one.shown in shown.root

-- the eldest sibling of a procedure, by its ancestors: the first child of its parent, or itself
abbrev pub eldest_in : Past → ℕ → List ℕ → Pid
eldest_in past p [] = pid_of p
eldest_in past p (up ∷ above) = elder_by p (first_child_of past up)

-- the eldest sibling of a procedure
abbrev pub eldest_of : Past → ℕ → Node → Pid
eldest_of past p node = eldest_in past p node.above

-- each procedure that an entry made has its eldest sibling
abbrev pub AreElders : Past → List Pid → Type 0
AreElders past elders =
    (place : ℕ) → slice_get elders place ≡ option_map (eldest_of past (number_at past place)) (node_of past (number_at past place))

-- what is kept is what a legal journal says of the procedures that its entries made, of their roots, and of how many roots
-- haven't ended
pub record IsKept (past : Past) (kept : List Tracked) (roots : List Pid) (left : ℕ) : Type 0 where
  pub legal : IsLegal past
  pub count : offset past + length kept ≡ made past
  pub kept_are : (place : ℕ) → slice_get kept place ≡ kept_of past (number_at past place)
  pub roots_are : (place : ℕ) → slice_get roots place ≡ option_map root_shown (slice_get kept place)
  pub left_are : left ≡ unfinished past
