-- What a procedure's args need for its asks to be told, and the order of regions.
use Rattle.std.specs.Prelude.{◌≤◌, ◌<◌, ◌^◌, Bool, true, false}
use Rattle.std.specs.declared.cmp.Ordering.{Ordering}
use Rattle.std.specs.declared.cmp.Ordering.TheVariants.{Less, Equal, Greater}
use Rattle.hm_names.specs.Order.{region_cmp}
use Rattle.hm_names.specs.Region.{Region}
use Rattle.hm_data.specs.declared.args.Args.{Args}
use Rattle.hm_data.specs.declared.args.Args.TheVariants as args_are

-- a root's first region id is one that can be drawn
abbrev pub HasFirst : Args → Type 0
HasFirst (args_are.Root request first) = (1 ≤ first) × (first < 2 ^ 32)
HasFirst (args_are.Transit region goal to) = Unit {0}
HasFirst (args_are.Crash server) = Unit {0}
HasFirst (args_are.AddRegions table first bounds) = Unit {0}
HasFirst (args_are.DropRegions table ids) = Unit {0}
HasFirst (args_are.AssignCall region server) = Unit {0}
HasFirst (args_are.CloseCall region server) = Unit {0}
HasFirst (args_are.FenceCall server) = Unit {0}
HasFirst (args_are.LayoutCall root) = Unit {0}
HasFirst (args_are.SweepLayout root) = Unit {0}

-- less or equal
abbrev pub not_greater : Ordering → Bool
not_greater Less = true
not_greater Equal = true
not_greater Greater = false

-- the first region doesn't stand after the other in name order
abbrev pub is_before : Region → Region → Bool
is_before region other = not_greater (region_cmp region other)
