use Rattle.std.proofs.Common.{◌≡◌, ◌++◌, map, take, None}
use Rattle.hm_data.specs.declared.args.Args.TheVariants as args_are
use Rattle.hm_records.proofs.made.push_transits.Given as goal

abbrev pub invariant-loop-id : goal.invariant-loop-id
invariant-loop-id l = l.made.items ≡ l.fn.made.items ++ map (λ id. args_are.Transit (record { table = l.table; id = id }) l.goal None) (take l.id-index l.ids)
