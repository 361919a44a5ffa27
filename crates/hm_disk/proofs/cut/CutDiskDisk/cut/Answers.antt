use Rattle.std.proofs.Common.{List, ℕ, inl, refl, subst}
use Rattle.hm_disk.specs.Disk.{CutOrWhole}
use Rattle.hm_disk.specs.Cutting.{CutView}
use Rattle.hm_disk.proofs.cut.CutDiskDisk.cut.Goals as goal

pub returns-then-is_cut-clause-crash : goal.returns-then-is_cut-clause-crash
returns-then-is_cut-clause-crash g c f now =
    let P : CutView _ → Type 0 = λ d. (x : List ℕ) × g.D.Disk.image d.inner x × CutOrWhole c.args.size x f in
    subst P c.self.view_is (f, now, inl refl)
