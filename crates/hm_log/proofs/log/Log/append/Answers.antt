use Rattle.std.proofs.Common.{◌≡◌, ◌++◌, ◌∷◌, [], List, ℕ, length, take, false, sym, ◌∙◌, ap, subst, arith, length-append}
use Rattle.hm_disk.specs.Disk.{Only, LeavesOnly}
use Rattle.hm_log.specs.Format.{laid, image_of, IsWhole, BeforeOrAfter, Reads, frames_of}
use Rattle.hm_log.proofs.Spelling.{length-laid, run_of_one}
use Rattle.hm_log.specs.View.{LogView}
use Rattle.hm_log.proofs.Stages.{whole_reads}
use Rattle.hm_log.proofs.Listed.{frames_of-reads, reads_as, reads_either, next_whole}
use Rattle.hm_log.proofs.log.Log.append.Goals as goal

pub invariant_of-self : goal.invariant_of-self
invariant_of-self g c =
    let d = g.D.Disk in
    let laws = g.met.D.Disk in
    let new = c.add.new.disk in
    let live : c.self.inside.stalled ≡ false = ap (λ (v : LogView _). v.stalled) c.self.view_is ∙ c.requires.live in
    record {
      has_room = omega (arith, c.self.invariant.has_room);
      fits = c.self.invariant.fits;
      fewer = c.self.invariant.fewer;
      reads = λ tells.
          let run = c.add.ensures.any_moment tells _ (c.args.frame.now ∷ []) (c.self.invariant.whole tells live) (run_of_one _ c.args.frame.now (c.deref.ensures.value ∙ c.lay.ensures.laid) c.requires.size) in
          reads_either (frames_of (d.seen c.self.inside.disk)) (c.args.frame.now ∷ []) (d.seen new) (run.each (d.seen new) (laws.counts_now new (d.moment c.self.inside.disk) (d.seen new) run.later (laws.reads_now new tells)));
      only = λ is. absurd {A = Only (d.seen new) (d.image new)} (cc);
      whole = λ tells is. absurd {A = IsWhole (d.seen new) c.self.inside.gate (frames_of (d.seen new))} (cc);
      counted = λ tells is. absurd {A = c.self.inside.count ≡ length (frames_of (d.seen new))} (cc);
    }

pub invariant_of-self-2 : goal.invariant_of-self-2
invariant_of-self-2 g c =
    let live : c.self.inside.stalled ≡ false = ap (λ (v : LogView _). v.stalled) c.self.view_is ∙ c.requires.live in
    record {
      has_room = omega arith;
      fits = omega (arith, ap (λ (v : LogView _). v.bytes) c.self.view_is, c.requires.room);
      fewer = omega (arith, c.self.invariant.fewer);
      reads = λ tells. reads_as _ _ (whole_reads _ _ _ (c.in_ok-add.ensures.added tells _ (c.args.frame.now ∷ []) (c.self.invariant.whole tells live) (run_of_one _ c.args.frame.now (c.deref.ensures.value ∙ c.lay.ensures.laid) c.requires.size)).1);
      only = λ _. c.in_ok-add.ensures.durable;
      whole = λ tells _. next_whole _ _ _ _ (c.in_ok-add.ensures.added tells _ (c.args.frame.now ∷ []) (c.self.invariant.whole tells live) (run_of_one _ c.args.frame.now (c.deref.ensures.value ∙ c.lay.ensures.laid) c.requires.size)).1 (omega (arith, ap length (c.deref.ensures.value ∙ c.lay.ensures.laid), length-append (laid c.args.frame.now) (45 ∷ []), length-laid c.args.frame.now));
      counted = λ tells _.
          let whole = (c.in_ok-add.ensures.added tells _ (c.args.frame.now ∷ []) (c.self.invariant.whole tells live) (run_of_one _ c.args.frame.now (c.deref.ensures.value ∙ c.lay.ensures.laid) c.requires.size)).1 in
          omega (arith, c.self.invariant.counted tells live, ap length (frames_of-reads _ _ (whole_reads _ _ _ whole)), length-append (frames_of (g.D.Disk.seen c.self.inside.disk)) (c.args.frame.now ∷ []));
    }

pub returns-clause-added : goal.returns-clause-added
returns-clause-added g c tells =
    let live : c.self.inside.stalled ≡ false = ap (λ (v : LogView _). v.stalled) c.self.view_is ∙ c.requires.live in
    frames_of-reads _ _ (whole_reads _ _ _ (c.in_ok-add.ensures.added tells _ (c.args.frame.now ∷ []) (c.self.invariant.whole tells live) (run_of_one _ c.args.frame.now (c.deref.ensures.value ∙ c.lay.ensures.laid) c.requires.size)).1) ∙ ap (λ (v : LogView _). v.frames ++ c.args.frame.now ∷ []) c.self.view_is

pub returns-clause-durable : goal.returns-clause-durable
returns-clause-durable g c tells f image =
    let live : c.self.inside.stalled ≡ false = ap (λ (v : LogView _). v.stalled) c.self.view_is ∙ c.requires.live in
    let whole = (c.in_ok-add.ensures.added tells _ (c.args.frame.now ∷ []) (c.self.invariant.whole tells live) (run_of_one _ c.args.frame.now (c.deref.ensures.value ∙ c.lay.ensures.laid) c.requires.size)).1 in
    subst (λ (l : List ℕ). Reads l (frames_of (g.D.Disk.seen c.add.new.disk))) (sym (c.in_ok-add.ensures.durable f image)) (reads_as _ _ (whole_reads _ _ _ whole))

pub returns-clause-written : goal.returns-clause-written
returns-clause-written g c tells =
    let live : c.self.inside.stalled ≡ false = ap (λ (v : LogView _). v.stalled) c.self.view_is ∙ c.requires.live in
    let added = c.in_ok-add.ensures.added tells _ (c.args.frame.now ∷ []) (c.self.invariant.whole tells live) (run_of_one _ c.args.frame.now (c.deref.ensures.value ∙ c.lay.ensures.laid) c.requires.size) in
    added.0 ∙ (λ i. take 10 (g.D.Disk.seen (c.self.view_is i).disk) ++ image_of (sym (frames_of-reads _ _ (whole_reads _ _ _ added.1)) i))

pub returns-in_err-add-clause-on_disk : goal.returns-in_err-add-clause-on_disk
returns-in_err-add-clause-on_disk g c tells =
    let d = g.D.Disk in
    let live : c.self.inside.stalled ≡ false = ap (λ (v : LogView _). v.stalled) c.self.view_is ∙ c.requires.live in
    let run = c.add.ensures.any_moment tells _ (c.args.frame.now ∷ []) (c.self.invariant.whole tells live) (run_of_one _ c.args.frame.now (c.deref.ensures.value ∙ c.lay.ensures.laid) c.requires.size) in
    let laws = g.met.D.Disk in
    let new = c.add.new.disk in
    subst (λ (v : LogView _). BeforeOrAfter v.frames c.args.frame.now (d.seen new)) c.self.view_is (run.each (d.seen new) (laws.counts_now new (d.moment c.self.inside.disk) (d.seen new) run.later (laws.reads_now new tells)))

pub returns-in_err-add-clause-any_moment : goal.returns-in_err-add-clause-any_moment
returns-in_err-add-clause-any_moment g c tells =
    let d = g.D.Disk in
    let live : c.self.inside.stalled ≡ false = ap (λ (v : LogView _). v.stalled) c.self.view_is ∙ c.requires.live in
    let run = c.add.ensures.any_moment tells _ (c.args.frame.now ∷ []) (c.self.invariant.whole tells live) (run_of_one _ c.args.frame.now (c.deref.ensures.value ∙ c.lay.ensures.laid) c.requires.size) in
    subst (λ (v : LogView _). LeavesOnly d.moment d.left_since v.disk c.add.new.disk (BeforeOrAfter v.frames c.args.frame.now)) c.self.view_is run

pub returns-clause-any_moment : goal.returns-clause-any_moment
returns-clause-any_moment g c tells =
    let d = g.D.Disk in
    let live : c.self.inside.stalled ≡ false = ap (λ (v : LogView _). v.stalled) c.self.view_is ∙ c.requires.live in
    let run = c.add.ensures.any_moment tells _ (c.args.frame.now ∷ []) (c.self.invariant.whole tells live) (run_of_one _ c.args.frame.now (c.deref.ensures.value ∙ c.lay.ensures.laid) c.requires.size) in
    subst (λ (v : LogView _). LeavesOnly d.moment d.left_since v.disk c.add.new.disk (BeforeOrAfter v.frames c.args.frame.now)) c.self.view_is run

pub returns-clause-on_disk : goal.returns-clause-on_disk
returns-clause-on_disk g c tells =
    let d = g.D.Disk in
    let live : c.self.inside.stalled ≡ false = ap (λ (v : LogView _). v.stalled) c.self.view_is ∙ c.requires.live in
    let run = c.add.ensures.any_moment tells _ (c.args.frame.now ∷ []) (c.self.invariant.whole tells live) (run_of_one _ c.args.frame.now (c.deref.ensures.value ∙ c.lay.ensures.laid) c.requires.size) in
    let laws = g.met.D.Disk in
    let new = c.add.new.disk in
    subst (λ (v : LogView _). BeforeOrAfter v.frames c.args.frame.now (d.seen new)) c.self.view_is (run.each (d.seen new) (laws.counts_now new (d.moment c.self.inside.disk) (d.seen new) run.later (laws.reads_now new tells)))
