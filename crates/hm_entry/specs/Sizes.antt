-- No spelling of an item of a list is empty.
use Rattle.std.specs.Prelude.{ℕ, ◌≤◌, List, ◌++◌, length}
use Rattle.std.proofs.Common.{arith, length-append}
use Rattle.byteorder.specs.Endian.{little_bytes}
use Rattle.hm_wire.specs.Wire.{text}
use Rattle.hm_names.specs.Region.{Region}
use Rattle.hm_names.specs.declared.table.TableName.{TableName}
use Rattle.hm_data.specs.declared.catalog.CatKey.{CatKey}
use Rattle.hm_data.specs.declared.catalog.CatKey.TheVariants as key_is
use Rattle.hm_data.specs.declared.catalog.Edit.{Edit}
use Rattle.hm_data.specs.declared.args.Args.{Args}
use Rattle.hm_data.specs.declared.args.Args.TheVariants as args_are
use Rattle.hm_data.specs.declared.args.Child.{Child}
use Rattle.hm_data.specs.declared.args.Child.TheVariants as child_is
use Rattle.hm_data.specs.declared.sheet.Row.{Row}
use Rattle.hm_data.specs.declared.sheet.Sheet.{Sheet}
use Rattle.hm_entry.specs.Fits.{IsSpelled, ChildIsSpelled}
use Rattle.hm_entry.specs.Spelling.{table, region, number, option, key, catalog_row, edit, args, child, row, sheet}

pub number_some : (n : ℕ) → 1 ≤ length (number n)
number_some n = omega arith

pub text_some : (s : List ℕ) → 1 ≤ length (text s)
text_some s = omega (arith, length-append (little_bytes 2 (length s)) s)

pub table_some : (t : TableName) → 1 ≤ length (table t)
unfolding table
table_some t = omega (arith, text_some t.ns, length-append (text t.ns) (text t.qualifier))

pub region_some : (r : Region) → 1 ≤ length (region r)
unfolding region
region_some r = omega (arith, table_some r.table, length-append (table r.table) (number r.id))

key_some : (k : CatKey) → 1 ≤ length (key k)
unfolding key
key_some (key_is.Ns ns) = omega arith
key_some (key_is.Table t) = omega arith
key_some (key_is.Region r) = omega arith

pub edit_some : (e : Edit) → 1 ≤ length (edit e)
unfolding edit
edit_some e = omega (arith, key_some e.key, length-append (key e.key) (option catalog_row e.before ++ option catalog_row e.after))

args_some : (a : Args) → IsSpelled a → 1 ≤ length (args a)
unfolding args
args_some (args_are.Root asked first) is = absurd is
args_some (args_are.Transit r goal to) is = absurd is
args_some (args_are.Crash s) is = omega arith
args_some (args_are.AddRegions t first bounds) is = omega arith
args_some (args_are.DropRegions t ids) is = omega arith
args_some (args_are.AssignCall r s) is = omega arith
args_some (args_are.CloseCall r s) is = omega arith
args_some (args_are.FenceCall s) is = omega arith
args_some (args_are.LayoutCall root) is = omega arith
args_some (args_are.SweepLayout root) is = omega arith

pub child_some : (c : Child) → ChildIsSpelled c → 1 ≤ length (child c)
unfolding child
child_some (child_is.Transits t ids goal) is = omega arith
child_some (child_is.One one) is = args_some one is

pub row_some : (r : Row) → 1 ≤ length (row r)
unfolding row
row_some r = omega arith

pub sheet_some : (s : Sheet) → 1 ≤ length (sheet s)
unfolding sheet
sheet_some s = omega arith
