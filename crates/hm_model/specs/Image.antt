-- The image of a journal: what it came to, as the parts of a base.
use Rattle.std.specs.Prelude.{ℕ, zero, suc, ◌+◌, ◌-◌, List, [], ◌∷◌, ◌++◌, length, map, Option, Some, None, not, ◌==◌, if◌then◌else◌}
use Rattle.std.specs.List.{filter, flat_map}
use Rattle.hm_names.specs.Server.{Server}
use Rattle.hm_names.specs.declared.nonce.Nonce.{Nonce}
use Rattle.hm_names.specs.declared.table.TableName.{TableName}
use Rattle.hm_data.specs.declared.catalog.CatKey.{CatKey}
use Rattle.hm_data.specs.declared.catalog.CatKey.TheVariants as key_is
use Rattle.hm_data.specs.declared.catalog.CatRow.{CatRow}
use Rattle.hm_data.specs.declared.catalog.CatRow.TheVariants as row_is
use Rattle.hm_data.specs.declared.catalog.TableState.{TableState}
use Rattle.hm_data.specs.declared.entry.Entry.TheVariants as entry_is
use Rattle.hm_data.specs.declared.part.Part.{Part}
use Rattle.hm_data.specs.declared.part.Part.TheVariants as part_is
use Rattle.hm_model.specs.Catalog.{cat, keys_of, part_keys, with_key, with_keys}
use Rattle.hm_model.specs.Fleet.{is_live, servers_of}
use Rattle.hm_model.specs.Journal.{Past}
use Rattle.hm_model.specs.Kinds.{table_of_request}
use Rattle.hm_model.specs.Layouts.{is_laid}
use Rattle.hm_model.specs.Phase.{cause}
use Rattle.hm_model.specs.Places.{place_of}
use Rattle.hm_model.specs.Procedures.{number_at, offset}
use Rattle.hm_model.specs.Sheets.{sheets_of}
use Rattle.hm_model.specs.Tree.{Node, drawn, is_top, made, node_of, pid_of}

-- how many entries were recorded, with a part: what the head says
abbrev pub part_counted : Part → ℕ → ℕ
part_counted (part_is.Head entries last parts sheets) n = entries
part_counted part n = n

-- how many entries were recorded: those that the base stands for, and each entry behind it
abbrev pub counted : Past → ℕ
counted [] = 0
counted (entry_is.Base part ∷ before) = part_counted part (counted before)
counted (entry ∷ before) = counted before + 1

-- keys in key order, with that of a table, if there is one
abbrev pub with_table : Option TableName → List CatKey → List CatKey
with_table None keys = keys
with_table (Some table) keys = with_key (key_is.Table table) keys

-- the keys of a journal, and those of the tables that its submissions are about, in key order
abbrev pub named_keys : Past → List CatKey
named_keys [] = keys_of []
named_keys (entry_is.Submit nonce request ∷ before) = with_table (table_of_request request) (named_keys before)
named_keys (entry_is.Step pid pick out ∷ before) = with_keys out.edits (named_keys before)
named_keys (entry_is.Undo pid row out ∷ before) = with_keys out.edits (named_keys before)
named_keys (entry_is.Base part ∷ before) = part_keys part (named_keys before)
named_keys (entry ∷ before) = named_keys before

-- the state and version in a table's row
abbrev pub table_in : Option CatRow → Option (TableState × ℕ)
table_in (Some (row_is.Table state version)) = Some (state, version)
table_in row = None

-- the part of a table, where it has a row or ids were drawn for it
abbrev pub table_parts : TableName → ℕ → Option (TableState × ℕ) → List Part
table_parts table ids None = if ids == 0 then [] else part_is.Table table ids None ∷ []
table_parts table ids (Some both) = part_is.Table table ids (Some both) ∷ []

-- the part of a key with its row, none where there is nothing to tell
abbrev pub key_parts : Past → CatKey → Option CatRow → List Part
key_parts J (key_is.Ns ns) None = []
key_parts J (key_is.Ns ns) (Some row) = part_is.Namespace ns ∷ []
key_parts J (key_is.Table table) row = table_parts table (drawn J table) (table_in row)
key_parts J (key_is.Region region) (Some (row_is.Region range status parents)) =
    part_is.Region region range status parents (place_of J region) ∷ []
key_parts J (key_is.Region region) row = []

-- the parts of the namespaces, the tables and the regions
abbrev pub catalog_parts : Past → List Part
catalog_parts J = flat_map (λ key. key_parts J key (cat J key)) (named_keys J)

-- the part of a server: where nothing is unfinished one that isn't live is fenced
abbrev pub server_part : Past → Server → Part
server_part J server = part_is.Server server (not (is_live J server))

-- the parts of the servers
abbrev pub server_parts : Past → List Part
server_parts J = map (server_part J) (servers_of J)

-- the numbers of the first n procedures that entries made
abbrev pub first_made : Past → ℕ → List ℕ
first_made J zero = []
first_made J (suc n) = first_made J n ++ (number_at J n ∷ [])

-- the numbers of the procedures that entries made
abbrev pub numbers_of : Past → List ℕ
numbers_of J = first_made J (made J - offset J)

-- the nonce of the submission that made a root, 0:0 where none did
abbrev pub nonce_of : Past → ℕ → Nonce
nonce_of [] p = record { group = 0; number = 0 }
nonce_of (entry_is.Submit nonce request ∷ before) p = if p == made before + 1 then nonce else nonce_of before p
nonce_of (entry ∷ before) p = nonce_of before p

-- the part of a procedure, if it is a root: it ended well, or is rolled back for the cause
abbrev pub root_parts_by : Past → ℕ → Option Node → List Part
root_parts_by J p None = []
root_parts_by J p (Some node) = if is_top node.above then part_is.Root (pid_of p) (nonce_of J p) node.args (cause J p) ∷ [] else []

-- roots of a base, with a part
abbrev pub with_root : Part → List Part → List Part
with_root (part_is.Root pid nonce args cause) roots = roots ++ (part_is.Root pid nonce args cause ∷ [])
with_root part roots = roots

-- the roots of the base, as it tells them
abbrev pub old_roots : Past → List Part
old_roots [] = []
old_roots (entry_is.Base part ∷ before) = with_root part (old_roots before)
old_roots (entry ∷ before) = old_roots before

-- the parts of the roots
abbrev pub root_parts : Past → List Part
root_parts J = old_roots J ++ flat_map (λ p. root_parts_by J p (node_of J p)) (numbers_of J)

-- roots whose layouts a base has, with a part
abbrev pub with_layout : Part → List ℕ → List ℕ
with_layout (part_is.Layout pid) roots = roots ++ (pid.0 ∷ [])
with_layout part roots = roots

-- the roots whose layouts the base has
abbrev pub old_layouts : Past → List ℕ
old_layouts [] = []
old_layouts (entry_is.Base part ∷ before) = with_layout part (old_layouts before)
old_layouts (entry ∷ before) = old_layouts before

-- the parts of the layouts that are there
abbrev pub layout_parts : Past → List Part
layout_parts J = map (λ root. part_is.Layout (pid_of root)) (filter (is_laid J) (old_layouts J ++ numbers_of J))

-- what a journal with nothing unfinished shows, in the order of parts
abbrev pub shown : Past → List Part
shown J = catalog_parts J ++ server_parts J ++ root_parts J ++ layout_parts J

-- the image of a journal with nothing unfinished: the head, and what it shows
abbrev pub image : Past → List Part
image J = part_is.Head (counted J) (pid_of (made J)) (length (shown J)) (sheets_of J) ∷ shown J
