use Rattle.std.proofs.Common.{List, ℕ, length, subst}
use Rattle.hm_disk.specs.Disk.{Torn}
use Rattle.hm_disk.specs.Cutting.{CutView, passed}
use Rattle.hm_disk.proofs.Fronts.{within}
use Rattle.hm_disk.proofs.Splice.{torn_same, torn_wider}
use Rattle.hm_disk.proofs.cut.CutDiskDisk.write_at.Goals as goal

pub returns-then-not-was_cut-clause-part : goal.returns-then-not-was_cut-clause-part
returns-then-not-was_cut-clause-part g c tells =
    let count = length c.args.bytes.now in
    let P : CutView _ → Type 0 = λ d. Torn c.args.at count (g.D.Disk.seen d.inner) (g.D.Disk.seen c.write_front.new.disk) in
    subst P c.self.view_is (torn_wider c.args.at (passed c.self.inside.arming count) count _ _ (within c.self.inside.arming.limit count) (c.write_front.ensures.part tells))

pub returns-else-not-was_cut-clause-crash : goal.returns-else-not-was_cut-clause-crash
returns-else-not-was_cut-clause-crash g c f now =
    let P : CutView _ → Type 0 = λ d. (x : List ℕ) × g.D.Disk.image d.inner x × Torn c.args.at (length c.args.bytes.now) x f in
    subst P c.self.view_is (f, now, torn_same c.args.at (length c.args.bytes.now) f)
