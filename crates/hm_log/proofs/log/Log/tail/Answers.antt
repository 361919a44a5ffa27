use Rattle.std.proofs.Common.{◌≡◌, length, drop, false, sym, ◌∙◌, ap, subst, refl, arith}
use Rattle.std.proofs.lemmas.Grind.{common_steps}
use Rattle.std.proofs.lemmas.List.{length-drop}
use Rattle.std.specs.Prelude.{IsErrOf}
use Rattle.hm_log.specs.Format.{frames_of}
use Rattle.hm_log.specs.Tail.{IsCursor}
use Rattle.hm_log.specs.View.{LogView}
use Rattle.hm_log.specs.declared.tail.Cursor.{Cursor}
use Rattle.hm_log.specs.declared.why.OpenWhy.TheVariants.{BadFrame}
use Rattle.hm_log.proofs.Tails.{tail_end, tail_runs, tail_within}
use Rattle.hm_log.proofs.log.Log.tail.Goals as goal
use Rattle.hm_log.proofs.log.Log.tail.Goals.{then-self-from-via-then-self-from, then-self-from-via-else-self-from+then-count-self}

pub returns-in_err-frames-clause-bad_frame : goal.returns-in_err-frames-clause-bad_frame
returns-in_err-frames-clause-bad_frame g c tells place err =
    let fails : IsErrOf c.read_tail.result (BadFrame place) = grind (arith, common_steps) in
    let live : c.self.inside.stalled ≡ false = ap (λ (v : LogView _). v.stalled) c.self.view_is ∙ c.requires.live in
    let cursor = subst (λ (v : LogView _). IsCursor v.frames c.args.from) (sym c.self.view_is) (c.requires.from tells) in
    c.read_tail.ensures.bad_frame tells _ (tail_runs _ c.self.inside.gate _ (c.self.invariant.whole tells live) c.args.from cursor) place fails

pub returns-then-from-self-clause-bad_frame : goal.returns-then-from-self-clause-bad_frame
returns-then-from-self-clause-bad_frame g c tells place err =
    let live : c.self.inside.stalled ≡ false = ap (λ (v : LogView _). v.stalled) c.self.view_is ∙ c.requires.live in
    let cursor = subst (λ (v : LogView _). IsCursor v.frames c.args.from) (sym c.self.view_is) (c.requires.from tells) in
    let within = tail_within _ c.self.inside.gate _ (c.self.invariant.whole tells live) c.args.from cursor in
    absurd (omega (arith, within, c.if-from-self.true))

pub returns-then-self-from-clause-bad_frame : goal.returns-then-self-from-clause-bad_frame
returns-then-self-from-clause-bad_frame g c tells place err =
    let live : c.self.inside.stalled ≡ false = ap (λ (v : LogView _). v.stalled) c.self.view_is ∙ c.requires.live in
    let cursor = subst (λ (v : LogView _). IsCursor v.frames c.args.from) (sym c.self.view_is) (c.requires.from tells) in
    let counted = c.self.invariant.counted tells live in
    let found = c.in_ok-frames.ensures.frames tells _ (tail_runs _ c.self.inside.gate _ (c.self.invariant.whole tells live) c.args.from cursor) in
    let size = length-drop c.args.from.number (frames_of (g.D.Disk.seen c.self.inside.disk)) in
    elim c.then-self-from.branch [
      | then-self-from-via-then-self-from w ↦ absurd (omega (arith, w.if-self-from.true, cursor.within, counted))
      | then-self-from-via-else-self-from+then-count-self w ↦ absurd (omega (arith, w.if-self-from.false, w.if-count-self.true, w.count.ensures.count, ap length found, size, counted))
    ]

pub returns-clause-frames : goal.returns-clause-frames
returns-clause-frames g c tells =
    let live : c.self.inside.stalled ≡ false = ap (λ (v : LogView _). v.stalled) c.self.view_is ∙ c.requires.live in
    let cursor = subst (λ (v : LogView _). IsCursor v.frames c.args.from) (sym c.self.view_is) (c.requires.from tells) in
    c.in_ok-frames.ensures.frames tells _ (tail_runs _ c.self.inside.gate _ (c.self.invariant.whole tells live) c.args.from cursor)
    ∙ ap (λ (v : LogView _). drop c.args.from.number v.frames) c.self.view_is

pub returns-clause-cursor : goal.returns-clause-cursor
returns-clause-cursor g c tells =
    let live : c.self.inside.stalled ≡ false = ap (λ (v : LogView _). v.stalled) c.self.view_is ∙ c.requires.live in
    let counted = c.self.invariant.counted tells live in
    let end : Cursor = record { place = c.self.inside.gate; number = c.self.inside.count } in (
      subst (λ (v : LogView _). IsCursor v.frames end) c.self.view_is (tail_end _ c.self.inside.gate _ (c.self.invariant.whole tells live) end refl counted),
      counted ∙ ap (λ (v : LogView _). length v.frames) c.self.view_is,
    )
