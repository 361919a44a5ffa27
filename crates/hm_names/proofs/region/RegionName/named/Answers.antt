use Rattle.std.proofs.Common.{◌<◌, ◌^◌, arith}
use Rattle.hm_names.proofs.TextLaws.{read_region-region_text}
use Rattle.hm_names.proofs.region.RegionName.named.Goals as goal

pub returns : goal.returns
returns c =
    let r = c.self.inside in
    let small : r.id < 2 ^ 64 = omega arith in
    let law = read_region-region_text (record { table = r.table; id = r.id }) in
    rw (← c.self.view_is) (law (c.named.ensures.named, c.self.invariant, small))
