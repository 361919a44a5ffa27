-- Procedures and their trees: what a journal made.
use Rattle.std.specs.Prelude.{ℕ, ◌+◌, ◌-◌, List, [], ◌∷◌, length, map, Option, Some, None, Bool, true, false, ◌==◌, nat_lt, if◌then◌else◌, slice_get}
use Rattle.std.specs.List.{flat_map}
use Rattle.std.specs.Option.{option_map}
use Rattle.hm_names.specs.declared.pid.Pid.{Pid}
use Rattle.hm_names.specs.declared.table.TableName.{TableName}
use Rattle.hm_data.specs.declared.args.Args.{Args}
use Rattle.hm_data.specs.declared.args.Args.TheVariants as args_are
use Rattle.hm_data.specs.declared.args.Child.{Child}
use Rattle.hm_data.specs.declared.args.Child.TheVariants as child_is
use Rattle.hm_data.specs.declared.entry.Entry.TheVariants as entry_is
use Rattle.hm_data.specs.declared.request.Request.{Request}
use Rattle.hm_data.specs.declared.request.Request.TheVariants as request_is
use Rattle.hm_model.specs.Journal.{Past}
use Rattle.hm_model.specs.Keys.{same_table}
use Rattle.hm_model.specs.Kinds.{table_of_request}
use Rattle.hm_model.specs.Parts.{part_drawn, part_made}

-- a procedure: its ancestors, the nearest first; its root; what it works on; and the lowest region id not yet
-- drawn for the table of its root's request before it was submitted, 1 where the request has no table
pub record Node : Type 0 where
  pub above : List ℕ
  pub root : ℕ
  pub args : Args
  pub first : ℕ

-- a procedure's number
abbrev pub pid_of : ℕ → Pid
pid_of p = record { 0 = p }

-- the procedures that a child stands for: one transit for each id
abbrev pub child_args : Child → List Args
child_args (child_is.Transits table ids goal) =
    map (λ id. args_are.Transit (record { table = table; id = id }) goal None) ids
child_args (child_is.One args) = args ∷ []

-- the procedures that children stand for, in order
abbrev pub args_in : List Child → List Args
args_in children = flat_map child_args children

-- how many procedures were made: one by each submission and each server that went down, and those that steps and
-- undos ask for
abbrev pub made : Past → ℕ
made [] = 0
made (entry_is.Submit nonce request ∷ before) = made before + 1
made (entry_is.Step pid pick out ∷ before) = made before + length (args_in out.children)
made (entry_is.Undo pid row out ∷ before) = made before + length (args_in out.followers)
made (entry_is.Down server ∷ before) = made before + 1
made (entry_is.Base part ∷ before) = part_made part (made before)
made (entry ∷ before) = made before

-- how many region ids a request draws: one for each region of a new table, two for a split, one for a merge
abbrev pub new_ids : Request → ℕ
new_ids (request_is.CreateTable table keys) = length keys + 1
new_ids (request_is.SplitRegion region key) = 2
new_ids (request_is.MergeRegions regions) = 1
new_ids request = 0

-- so many ids where the request is about this table, else none
abbrev pub ids_for : Option TableName → ℕ → TableName → ℕ
ids_for None count table = 0
ids_for (Some own) count table = if same_table own table then count else 0

-- how many region ids were drawn for a table
abbrev pub drawn : Past → TableName → ℕ
drawn [] table = 0
drawn (entry_is.Submit nonce request ∷ before) table =
    drawn before table + ids_for (table_of_request request) (new_ids request) table
drawn (entry_is.Base part ∷ before) table = part_drawn part table (drawn before table)
drawn (entry ∷ before) table = drawn before table

-- the lowest id not yet drawn for a table, and 1 where there is no table
abbrev pub first_of : Past → Option TableName → ℕ
first_of before None = 1
first_of before (Some table) = drawn before table + 1

-- a root of this number that works on this
abbrev pub root_node : ℕ → Args → ℕ → Node
root_node p args first = record { above = []; root = p; args = args; first = first }

-- the root that a request makes
abbrev pub submitted : Past → Request → ℕ → Node
submitted before request p =
    let first = first_of before (table_of_request request) in root_node p (args_are.Root request first) first

-- a child of a procedure
abbrev pub child_of : ℕ → Node → Args → Node
child_of pid up args = record { above = pid ∷ up.above; root = up.root; args = args; first = up.first }

-- what was asked for, as a child of a procedure
abbrev pub children_of : ℕ → Option Node → Option Args → Option Node
children_of pid None args = None
children_of pid (Some up) args = option_map (child_of pid up) args

-- a procedure by its number
abbrev pub node_of : Past → ℕ → Option Node
node_of [] p = None
node_of (entry_is.Submit nonce request ∷ before) p =
    if p == made before + 1 then Some (submitted before request p) else node_of before p
node_of (entry_is.Step pid pick out ∷ before) p =
    if nat_lt (made before) p then children_of pid.0 (node_of before pid.0) (slice_get (args_in out.children) (p - made before - 1)) else node_of before p
node_of (entry_is.Undo pid row out ∷ before) p =
    if nat_lt (made before) p then option_map (λ args. root_node p args 1) (slice_get (args_in out.followers) (p - made before - 1)) else node_of before p
node_of (entry_is.Down server ∷ before) p =
    if p == made before + 1 then Some (root_node p (args_are.Crash server) 1) else node_of before p
node_of (entry_is.Base part ∷ before) p = None
node_of (entry ∷ before) p = node_of before p

-- the root of a procedure, 0 where there is none
abbrev pub root_in : Option Node → ℕ
root_in None = 0
root_in (Some node) = node.root

-- the root of a procedure by its number
abbrev pub root_of : Past → ℕ → ℕ
root_of before p = root_in (node_of before p)

-- it has no ancestors
abbrev pub is_top : List ℕ → Bool
is_top [] = true
is_top (up ∷ above) = false

-- it is there, and a root
abbrev pub is_root_in : Option Node → Bool
is_root_in None = false
is_root_in (Some node) = is_top node.above

-- it is the number of a root
abbrev pub is_root : Past → ℕ → Bool
is_root before p = is_root_in (node_of before p)

-- the nearest ancestor
abbrev pub parent_in : List ℕ → Option ℕ
parent_in [] = None
parent_in (up ∷ above) = Some up
