use Rattle.std.proofs.Common.{◌+◌, ◌-◌, arith, length}
use Rattle.hm_locks.proofs.Holders.{listed_room}
use Rattle.hm_locks.proofs.Keeping.{kept_wider}
use Rattle.hm_locks.proofs.pages.Pages.reserve.Goals as goal

pub returns-in_err-reserve_nodes-2-clause-kept : goal.returns-in_err-reserve_nodes-2-clause-kept
returns-in_err-reserve_nodes-2-clause-kept c =
    let p = c.args.self.now in
    let spare = c.in_ok-reserve_nodes.ensures.ok in
    let same = c.reserve_lists.ensures.spare in
    rw (c.in_ok-reserve.ensures.pairs, c.in_ok-reserve-2.ensures.items, c.in_ok-reserve-3.ensures.items)
    (kept_wider p.places.pairs p.entries.items p.wants.items p.desks.numbers p.lists.lists p.lists.spare c.requires.kept
    c.reserve_lists.result c.reserve_nodes.new.self.lists c.reserve_lists.new.self.lists (c.in_ok-limit.limit + c.in_ok-limit.limit - length c.reserve_nodes.new.self.lists) c.reserve_lists.new.self.spare
    c.in_ok-reserve_nodes.ensures.lists c.reserve_lists.ensures.ok c.reserve_lists.ensures.err (grind (arith, spare, same)))

pub returns-clause-kept : goal.returns-clause-kept
returns-clause-kept c =
    let p = c.args.self.now in
    let spare = c.in_ok-reserve_nodes.ensures.ok in
    let same = c.reserve_lists.ensures.spare in
    rw (c.in_ok-reserve.ensures.pairs, c.in_ok-reserve-2.ensures.items, c.in_ok-reserve-3.ensures.items, c.reserve-4.ensures.numbers)
    (kept_wider p.places.pairs p.entries.items p.wants.items p.desks.numbers p.lists.lists p.lists.spare c.requires.kept
    c.reserve_lists.result c.reserve_nodes.new.self.lists c.reserve_lists.new.self.lists (c.in_ok-limit.limit + c.in_ok-limit.limit - length c.reserve_nodes.new.self.lists) c.reserve_lists.new.self.spare
    c.in_ok-reserve_nodes.ensures.lists c.reserve_lists.ensures.ok c.reserve_lists.ensures.err (grind (arith, spare, same)))

pub returns-clause-held : goal.returns-clause-held
returns-clause-held c =
    let p = c.args.self.now in
    let spare = c.in_ok-reserve_nodes-2.ensures.ok in
    rw (c.in_ok-reserve-2.ensures.items, c.in_ok-reserve_nodes-2.ensures.lists)
    (listed_room p.entries.items p.held.lists p.held.spare c.requires.held c.reserve_nodes-2.new.self.spare (grind (arith, spare)))
