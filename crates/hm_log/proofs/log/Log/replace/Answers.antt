use Rattle.std.proofs.Common.{◌≡◌, ◌+◌, List, ℕ, length, sym, ◌∙◌, ap, subst, arith}
use Rattle.hm_disk.specs.Disk.{Only}
use Rattle.hm_log.specs.Format.{Reads, frames_of, IsWhole}
use Rattle.hm_log.proofs.Listed.{frames_of-reads, reads_as, reads_one_of, whole_as}
use Rattle.hm_log.proofs.Spelling.{length-spelled, spelled_fewer}
use Rattle.hm_log.proofs.Stages.{whole_reads}
use Rattle.hm_log.proofs.log.Log.replace.Goals as goal

pub invariant_of-self : goal.invariant_of-self
invariant_of-self g c =
    let d = g.D.Disk in
    let laws = g.met.D.Disk in
    let new = c.move_in.new.disk in
    record {
      has_room = omega (arith, c.self.invariant.has_room, c.move_in.ensures.capacity);
      fits = c.self.invariant.fits;
      fewer = c.self.invariant.fewer;
      reads = λ tells.
          let run = c.move_in.ensures.any_moment tells in
          reads_one_of (frames_of (d.seen c.self.inside.disk)) c.args.image.now (d.seen new) (run.each (d.seen new) (laws.counts_now new (d.moment c.self.inside.disk) (d.seen new) run.later (laws.reads_now new tells)));
      only = λ is. absurd {A = Only (d.seen new) (d.image new)} (cc);
      whole = λ tells is. absurd {A = IsWhole (d.seen new) c.self.inside.gate (frames_of (d.seen new))} (cc);
      counted = λ tells is. absurd {A = c.self.inside.count ≡ length (frames_of (d.seen new))} (cc);
    }

pub invariant_of-self-2 : goal.invariant_of-self-2
invariant_of-self-2 g c =
    let d = g.D.Disk in
    let image = c.args.image.now in
    let size = c.image_size.ensures.size in
    let whole : d.tells → IsWhole (d.seen c.move_in.new.disk) (c.image_size.result + 9) image = λ tells. c.in_ok-move_in.ensures.whole (c.image_size.result + 9) (omega (arith, size)) tells in
    record {
      has_room = omega (arith, c.self.invariant.has_room, c.move_in.ensures.capacity);
      fits = omega (arith, size, c.requires.room);
      fewer = omega (arith, size, c.count-self-inside.ensures.count, spelled_fewer image, length-spelled image);
      reads = λ tells. reads_as _ _ (whole_reads _ _ _ (whole tells));
      only = λ _. c.in_ok-move_in.ensures.durable;
      whole = λ tells _. whole_as _ _ _ (whole tells);
      counted = λ tells _. c.count-self-inside.ensures.count ∙ ap length (sym (frames_of-reads _ _ (whole_reads _ _ _ (whole tells))));
    }

pub returns-clause-frames : goal.returns-clause-frames
returns-clause-frames g c tells =
    frames_of-reads _ _ (whole_reads _ _ _ (c.in_ok-move_in.ensures.whole (c.image_size.result + 9) (omega (arith, c.image_size.ensures.size)) tells))

pub returns-clause-whole : goal.returns-clause-whole
returns-clause-whole g c tells =
    (c.image_size.result + 9, c.args.image.now, c.in_ok-move_in.ensures.whole (c.image_size.result + 9) (omega (arith, c.image_size.ensures.size)) tells)

pub returns-clause-durable : goal.returns-clause-durable
returns-clause-durable g c tells file image =
    let whole = c.in_ok-move_in.ensures.whole (c.image_size.result + 9) (omega (arith, c.image_size.ensures.size)) tells in
    subst (λ (l : List ℕ). Reads l c.args.image.now) (sym (c.in_ok-move_in.ensures.durable file image)) (whole_reads _ _ _ whole)
