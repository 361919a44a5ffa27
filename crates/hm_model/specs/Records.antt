-- A procedure as it is shown.
use Rattle.std.specs.Prelude.{ℕ, ◌+◌, Option, not, ◌&&◌}
use Rattle.std.specs.Option.{option_map}
use Rattle.hm_data.specs.declared.record.Record.{Record}
use Rattle.hm_model.specs.Counts.{count_below}
use Rattle.hm_model.specs.Editions.{edition_of}
use Rattle.hm_model.specs.Journal.{Past}
use Rattle.hm_model.specs.Kinds.{kind_of}
use Rattle.hm_model.specs.Places.{tries_of}
use Rattle.hm_model.specs.Tree.{Node, pid_of, made, node_of, is_root, parent_in}
use Rattle.hm_model.specs.Answers.{row_of, is_aborted}
use Rattle.hm_model.specs.Phase.{phase, ended}

-- all that is told of a procedure
abbrev pub record_at : Past → ℕ → Node → Record
record_at before p node = record {
  pid = pid_of p;
  parent = option_map pid_of (parent_in node.above);
  root = pid_of node.root;
  kind = kind_of node.args;
  edition = edition_of before node.root;
  row = row_of before p node;
  args = node.args;
  tries = tries_of before p;
  aborted = is_aborted before p;
  phase = phase before p node;
}

-- a procedure by its number
abbrev pub record_of : Past → ℕ → Option Record
record_of before p = option_map (record_at before p) (node_of before p)

-- how many roots haven't ended
abbrev pub unfinished : Past → ℕ
unfinished before = count_below (λ q. is_root before q && not (ended before q)) (made before + 1)
