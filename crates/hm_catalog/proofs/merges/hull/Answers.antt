use Rattle.hm_catalog.proofs.merges.hull.Goals as goal

pub returns : goal.returns
returns c =
    let whole = c.last_range-last.ensures c.args.first.now.start in
    let start = c.in_ok-copy.ensures in
    let end = c.in_ok-copy-2.ensures in
    cc
