use Rattle.std.proofs.Common.{◌≡◌, ◌++◌, List, ℕ, length, take, false, sym, ◌∙◌, ap, subst, arith, length-append}
use Rattle.hm_disk.specs.Disk.{Only}
use Rattle.hm_log.specs.Format.{image_of, IsWhole, Reads, frames_of}
use Rattle.hm_log.specs.Run.{BeforeOrAll}
use Rattle.hm_log.specs.View.{LogView}
use Rattle.hm_log.proofs.Spelling.{length-run, spelled_fewer}
use Rattle.hm_log.proofs.Stages.{whole_reads}
use Rattle.hm_log.proofs.Listed.{frames_of-reads, reads_as, reads_either, next_whole}
use Rattle.hm_log.proofs.log.Log.append_run.Goals as goal

pub invariant_of-self : goal.invariant_of-self
invariant_of-self g c =
    let d = g.D.Disk in
    let laws = g.met.D.Disk in
    let new = c.add.new.disk in
    let live : c.self.inside.stalled ≡ false = ap (λ (v : LogView _). v.stalled) c.self.view_is ∙ c.requires.live in
    record {
      has_room = omega (arith, c.self.invariant.has_room);
      fits = c.self.invariant.fits;
      fewer = c.self.invariant.fewer;
      reads = λ tells.
          let run = c.add.ensures.any_moment tells _ c.requires.run.0 (c.self.invariant.whole tells live) c.requires.run.1 in
          reads_either (frames_of (d.seen c.self.inside.disk)) c.requires.run.0 (d.seen new) (run.each (d.seen new) (laws.counts_now new (d.moment c.self.inside.disk) (d.seen new) run.later (laws.reads_now new tells)));
      only = λ is. absurd {A = Only (d.seen new) (d.image new)} (cc);
      whole = λ tells is. absurd {A = IsWhole (d.seen new) c.self.inside.gate (frames_of (d.seen new))} (cc);
      counted = λ tells is. absurd {A = c.self.inside.count ≡ length (frames_of (d.seen new))} (cc);
    }

pub invariant_of-self-2 : goal.invariant_of-self-2
invariant_of-self-2 g c =
    let live : c.self.inside.stalled ≡ false = ap (λ (v : LogView _). v.stalled) c.self.view_is ∙ c.requires.live in
    record {
      has_room = omega arith;
      fits = omega (arith, ap (λ (v : LogView _). v.bytes) c.self.view_is, c.requires.room);
      fewer = omega (arith, c.self.invariant.fewer, spelled_fewer c.requires.run.0, length-run c.args.run.now c.requires.run.0 c.requires.run.1, c.requires.run.2);
      reads = λ tells. reads_as _ _ (whole_reads _ _ _ (c.in_ok-add.ensures.added tells _ c.requires.run.0 (c.self.invariant.whole tells live) c.requires.run.1).1);
      only = λ _. c.in_ok-add.ensures.durable;
      whole = λ tells _. next_whole _ _ _ _ (c.in_ok-add.ensures.added tells _ c.requires.run.0 (c.self.invariant.whole tells live) c.requires.run.1).1 (omega arith);
      counted = λ tells _.
          let whole = (c.in_ok-add.ensures.added tells _ c.requires.run.0 (c.self.invariant.whole tells live) c.requires.run.1).1 in
          omega (arith, c.self.invariant.counted tells live, ap length (frames_of-reads _ _ (whole_reads _ _ _ whole)), length-append (frames_of (g.D.Disk.seen c.self.inside.disk)) c.requires.run.0, c.requires.run.2);
    }

pub returns-clause-added : goal.returns-clause-added
returns-clause-added g c tells more is =
    let live : c.self.inside.stalled ≡ false = ap (λ (v : LogView _). v.stalled) c.self.view_is ∙ c.requires.live in
    frames_of-reads _ _ (whole_reads _ _ _ (c.in_ok-add.ensures.added tells _ more (c.self.invariant.whole tells live) is).1) ∙ ap (λ (v : LogView _). v.frames ++ more) c.self.view_is

pub returns-clause-durable : goal.returns-clause-durable
returns-clause-durable g c tells f image =
    let live : c.self.inside.stalled ≡ false = ap (λ (v : LogView _). v.stalled) c.self.view_is ∙ c.requires.live in
    let whole = (c.in_ok-add.ensures.added tells _ c.requires.run.0 (c.self.invariant.whole tells live) c.requires.run.1).1 in
    subst (λ (l : List ℕ). Reads l (frames_of (g.D.Disk.seen c.add.new.disk))) (sym (c.in_ok-add.ensures.durable f image)) (reads_as _ _ (whole_reads _ _ _ whole))

pub returns-clause-written : goal.returns-clause-written
returns-clause-written g c tells =
    let live : c.self.inside.stalled ≡ false = ap (λ (v : LogView _). v.stalled) c.self.view_is ∙ c.requires.live in
    let added = c.in_ok-add.ensures.added tells _ c.requires.run.0 (c.self.invariant.whole tells live) c.requires.run.1 in
    added.0 ∙ (λ i. take 10 (g.D.Disk.seen (c.self.view_is i).disk) ++ image_of (sym (frames_of-reads _ _ (whole_reads _ _ _ added.1)) i))

pub overflow_add-self-2 : goal.overflow_add-self-2
overflow_add-self-2 g c =
    omega (arith, c.self.invariant.fewer, spelled_fewer c.requires.run.0, length-run c.args.run.now c.requires.run.0 c.requires.run.1, c.requires.run.2, c.requires.room, ap (λ (v : LogView _). v.bytes) c.self.view_is)

pub returns-in_err-add-clause-on_disk : goal.returns-in_err-add-clause-on_disk
returns-in_err-add-clause-on_disk g c tells more is =
    let d = g.D.Disk in
    let laws = g.met.D.Disk in
    let new = c.add.new.disk in
    let live : c.self.inside.stalled ≡ false = ap (λ (v : LogView _). v.stalled) c.self.view_is ∙ c.requires.live in
    let run = c.add.ensures.any_moment tells _ more (c.self.invariant.whole tells live) is in
    subst (λ (v : LogView _). BeforeOrAll v.frames more (d.seen new)) c.self.view_is (run.each (d.seen new) (laws.counts_now new (d.moment c.self.inside.disk) (d.seen new) run.later (laws.reads_now new tells)))

pub returns-clause-on_disk : goal.returns-clause-on_disk
returns-clause-on_disk g c tells more is =
    let d = g.D.Disk in
    let laws = g.met.D.Disk in
    let new = c.add.new.disk in
    let live : c.self.inside.stalled ≡ false = ap (λ (v : LogView _). v.stalled) c.self.view_is ∙ c.requires.live in
    let run = c.add.ensures.any_moment tells _ more (c.self.invariant.whole tells live) is in
    subst (λ (v : LogView _). BeforeOrAll v.frames more (d.seen new)) c.self.view_is (run.each (d.seen new) (laws.counts_now new (d.moment c.self.inside.disk) (d.seen new) run.later (laws.reads_now new tells)))
