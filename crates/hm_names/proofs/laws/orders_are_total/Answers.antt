use Rattle.std.proofs.Common.{rules}
use Rattle.std.specs.Cmp.Rules.{comparing}
use Rattle.hm_names.proofs.laws.orders_are_total.Goals as goal

pub returns-clause-bytes : goal.returns-clause-bytes
returns-clause-bytes c = search (comparing, rules)

pub returns-clause-tables : goal.returns-clause-tables
returns-clause-tables c = search (comparing, rules) depth 9

pub returns-clause-regions : goal.returns-clause-regions
returns-clause-regions c = search (comparing, rules) depth 9

pub returns-clause-servers : goal.returns-clause-servers
returns-clause-servers c = search (comparing, rules) depth 9
