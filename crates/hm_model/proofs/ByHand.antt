-- Words for journals that are worked by hand.
use Rattle.std.proofs.Common.{Bool, List, None, Option, Some, codes, false, ℕ}
use Rattle.hm_names.specs.Region.{Region}
use Rattle.hm_names.specs.Server.{Server}
use Rattle.hm_names.specs.declared.pid.Pid.{Pid}
use Rattle.hm_names.specs.declared.table.TableName.{TableName}
use Rattle.hm_data.specs.declared.act.Act.{Act}
use Rattle.hm_data.specs.declared.act.Back.{Back}
use Rattle.hm_data.specs.declared.catalog.CatKey.{CatKey}
use Rattle.hm_data.specs.declared.catalog.CatRow.{CatRow}
use Rattle.hm_data.specs.declared.catalog.Edit.{Edit}
use Rattle.hm_data.specs.declared.record.Phase.{Phase}
use Rattle.hm_data.specs.declared.sheet.Row.{Row}
use Rattle.hm_data.specs.declared.sheet.Sheet.{Sheet}
use Rattle.hm_model.specs.Costs.{cost}
use Rattle.hm_model.specs.Journal.{Past}
use Rattle.hm_model.specs.Phase.{phase}
use Rattle.hm_model.specs.Picks.{pick_fits}
use Rattle.hm_model.specs.Tree.{node_of}

abbrev pub pid : ℕ → Pid
pid p = record { 0 = p }

abbrev pub table : TableName
table = record { ns = codes "default"; qualifier = codes "t" }

abbrev pub region : ℕ → Region
region id = record { table = table; id = id }

abbrev pub one : Server
one = record { host = codes "a"; port = 1; start = 1 }

abbrev pub two : Server
two = record { host = codes "b"; port = 1; start = 1 }

abbrev pub row : Act → ℕ → Bool → Back → Row
row act next after undo = record { act = act; next = next; after = after; undo = undo }

abbrev pub sheet : ℕ → List Row → Sheet
sheet kind rows = record { kind = kind; rows = rows }

abbrev pub edit : CatKey → Option CatRow → Option CatRow → Edit
edit key before after = record { key = key; before = before; after = after }

-- the phase of a procedure
abbrev pub phase_of : Past → ℕ → Option Phase
phase_of J p = elim (node_of J p) as (λ n. Option Phase) [ None ↦ None | Some node ↦ Some (phase J p node) ]

-- what a root costs
abbrev pub cost_of : Past → ℕ → ℕ
cost_of J r = elim (node_of J r) as (λ n. ℕ) [ None ↦ 0 | Some node ↦ cost J r node.args ]

-- a server fits as the pick of a procedure's next step
abbrev pub fits_at : Past → ℕ → Server → Bool
fits_at J p server = elim (node_of J p) as (λ n. Bool) [ None ↦ false | Some node ↦ pick_fits J p node server ]
