use Rattle.std.proofs.Common.{◌≡◌, ◌+◌, ◌++◌, ◌∷◌, ◌∙◌, List, ℕ, ap, take, sym, subst, arith}
use Rattle.std.proofs.lemmas.Grind.{common_steps}
use Rattle.std.specs.Prelude.{IsErrOf}
use Rattle.hm_log.specs.Format.{IsMoved, IsPlain, Reads, image_of, size_with}
use Rattle.hm_log.specs.Opening.{Settles}
use Rattle.hm_log.specs.declared.why.OpenWhy.TheVariants.{Memory}
use Rattle.hm_log.proofs.Settling.{found_holds, leaves_settling, seen_settling, then_settling}
use Rattle.hm_log.proofs.Spelling.{length-spelled, spelled_fewer}
use Rattle.hm_log.proofs.Stages.{whole_reads}
use Rattle.hm_log.proofs.Ways.{on_err}
use Rattle.hm_log.proofs.open.prepare.Goals as goal

pub returns-clause-whole : goal.returns-clause-whole
returns-clause-whole g c tells = c.in_ok-settle.ensures.whole (c.image_size-gate.result + 9) (omega (arith, c.image_size-gate.ensures.size)) tells

pub returns-clause-frames : goal.returns-clause-frames
returns-clause-frames g c tells = found_holds (g.D.Disk.seen c.args.disk.now) c.in_ok-found.found.layout c.in_ok-found.found.frames c.in_ok-found.found.gate (c.in_ok-found.ensures.found tells)

pub returns-clause-from_then_on : goal.returns-clause-from_then_on
returns-clause-from_then_on g c tells =
    let d = g.D.Disk in
    let laws = g.met.D.Disk in
    let old = c.args.disk.now in
    let new = c.settle.new.disk in
    let frames = c.in_ok-found.found.frames in
    let whole = c.in_ok-settle.ensures.whole (c.image_size-gate.result + 9) (omega (arith, c.image_size-gate.ensures.size)) tells in
    let settles = subst (λ (f : List ℕ). Settles d.moment d.left_since f frames c.load.new.disk new) c.load.ensures.only_reads.untouched.reads (c.settle.ensures.any_moment tells) in
    then_settling d.moment d.left_since old c.load.new.disk new (d.seen old) frames (d.image old) (laws.reads_now old tells) c.load.ensures.only_reads.leaves c.in_ok-found.ensures.from_then_on settles
    (λ f left. subst (λ (l : List ℕ). Reads l frames) (sym (c.in_ok-settle.ensures.durable f (laws.only_now new f left))) (whole_reads _ frames (d.seen new) whole))

pub returns-in_err-settle-clause-any_moment : goal.returns-in_err-settle-clause-any_moment
returns-in_err-settle-clause-any_moment g c tells =
    let d = g.D.Disk in
    let old = c.args.disk.now in
    let frames = c.in_ok-found.found.frames in
    let settles = subst (λ (f : List ℕ). Settles d.moment d.left_since f frames c.load.new.disk c.settle.new.disk) c.load.ensures.only_reads.untouched.reads (c.settle.ensures.any_moment tells) in
    on_err _ (leaves_settling d.moment d.left_since old c.load.new.disk c.settle.new.disk (d.seen old) frames (d.image old) (g.met.D.Disk.reads_now old tells) c.load.ensures.only_reads.leaves settles)

pub returns-in_err-settle-clause-left : goal.returns-in_err-settle-clause-left
returns-in_err-settle-clause-left g c tells =
    let d = g.D.Disk in
    let laws = g.met.D.Disk in
    let new = c.settle.new.disk in
    let settles = subst (λ (f : List ℕ). Settles d.moment d.left_since f c.in_ok-found.found.frames c.load.new.disk new) c.load.ensures.only_reads.untouched.reads (c.settle.ensures.any_moment tells) in
    on_err _ (seen_settling d.moment d.left_since c.args.disk.now c.load.new.disk new (d.seen c.args.disk.now) c.in_ok-found.found.frames settles (d.seen new) (λ t late. laws.counts_now new t (d.seen new) late (laws.reads_now new tells)))

pub returns-in_err-found-clause-memory : goal.returns-in_err-found-clause-memory
returns-in_err-found-clause-memory g c tells place err =
    let fails : IsErrOf c.load.result Memory = grind (arith, common_steps) in
    c.load.ensures.memory tells place fails

pub returns-clause-kept : goal.returns-clause-kept
returns-clause-kept g c tells front body plain =
    let seen = g.D.Disk.seen c.args.disk.now in
    let frames = c.in_ok-found.found.frames in
    let before : g.D.Disk.seen c.load.new.disk ≡ seen = c.load.ensures.only_reads.untouched.reads in
    let size : c.image_size-gate.result + 9 + 1 ≡ size_with frames = omega (arith, c.image_size-gate.ensures.size) in
    c.in_ok-settle.ensures.kept tells front body (subst (λ (l : List ℕ). IsPlain l front body) (sym before) plain)
    ∙ ap (λ (l : List ℕ). take (size_with frames) l) before
    ∙ ap (λ (n : ℕ). take n seen) (sym size)

pub returns-clause-moved : goal.returns-clause-moved
returns-clause-moved g c tells front body moved =
    let before : g.D.Disk.seen c.load.new.disk ≡ g.D.Disk.seen c.args.disk.now = c.load.ensures.only_reads.untouched.reads in
    c.in_ok-settle.ensures.moved tells front body (subst (λ (l : List ℕ). IsMoved l front body) (sym before) moved)
    ∙ ap (λ (l : List ℕ). take 9 l ++ 45 ∷ image_of c.in_ok-found.found.frames) before

pub returns-clause-small : goal.returns-clause-small
returns-clause-small g c =
    let frames = c.in_ok-found.found.frames in (
      omega (arith, c.image_size-gate.ensures.size, c.in_ok-found.ensures.small.0),
      omega (arith, c.image_size-gate.ensures.size, spelled_fewer frames, length-spelled frames),
    )
