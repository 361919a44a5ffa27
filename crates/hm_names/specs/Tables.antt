-- Tables as texts.
use Rattle.std.specs.Prelude.{ℕ, ◌+◌, ◌||◌, ◌==◌, if◌then◌else◌, Option, Some, None, Result, List, length, ◌++◌, codes}
use Rattle.std.specs.Str.{bytes_eq}
use Rattle.hm_names.specs.declared.fault.NameFault.{NameFault}
use Rattle.hm_names.specs.declared.fault.NameFault.TheVariants.{Empty}
use Rattle.hm_names.specs.declared.table.TableName.{TableName}
use Rattle.hm_names.specs.Cuts.{cut_first}
use Rattle.hm_names.specs.Reading.{unless, first_fault}
use Rattle.hm_names.specs.Names.{IsNs, IsQualifier, ns_fault, qualifier_fault}

-- the parts of a table's name are names
abbrev pub IsTable : TableName → Type 0
IsTable t = IsNs t.ns × IsQualifier t.qualifier

-- namespace, `:`, qualifier; a table of `default` is printed bare
abbrev pub table_text : TableName → List ℕ
table_text t = if bytes_eq t.ns (codes "default") then t.qualifier else (t.ns ++ codes ":" ++ t.qualifier)

-- what is wrong with a table's name of two parts, the second of which stands at a place
abbrev pub table_fault : List ℕ → ℕ → List ℕ → Option NameFault
table_fault ns place qualifier =
    if (length ns == 0) || (length qualifier == 0) then Some Empty else first_fault (ns_fault 0 ns) (qualifier_fault place qualifier)

-- the parts round the first `:`, read as a table; a bare text is a table of `default`
abbrev pub table_parts : List ℕ → Option (List ℕ × List ℕ) → Result TableName NameFault
table_parts text None = unless (qualifier_fault 0 text) (record { ns = codes "default"; qualifier = text })
table_parts text (Some (ns, qualifier)) =
    unless (table_fault ns (length ns + 1) qualifier) (record { ns = ns; qualifier = qualifier })

-- a text read as a table
unfoldable pub read_table : List ℕ → Result TableName NameFault
read_table text = table_parts text (cut_first 58 text)
