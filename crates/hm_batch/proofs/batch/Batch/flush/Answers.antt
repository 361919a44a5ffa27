use Rattle.std.proofs.Common.{◌≡◌, ◌*◌, ◌++◌, List, ℕ, [], length, arith, sym, ◌∙◌, ap, subst}
use Rattle.std.proofs.lemmas.List.Elements.{All-nil}
use Rattle.hm_disk.specs.Disk.{LeavesOnly, RisesBy}
use Rattle.hm_log.proofs.Ways.{on_err}
use Rattle.hm_batch.specs.Flushing.{ReadsWithFirst, BreaksOff}
use Rattle.hm_batch.specs.Pieces.{bytes_of, pieces_of, IsPiece}
use Rattle.hm_batch.specs.View.{BatchView}
use Rattle.hm_batch.proofs.Gathering.{in_order-pieces_of}
use Rattle.hm_batch.proofs.Growing.{note_count, byte_count, laid_as}
use Rattle.hm_batch.proofs.Runs.{frames_are}
use Rattle.hm_batch.proofs.batch.Batch.flush.Goals as goal

pub add_runs-requires-clause-room : goal.add_runs-requires-clause-room
add_runs-requires-clause-room g c =
    let inside = c.self.inside in
    omega (arith, ap length c.deref-2.ensures.value, byte_count inside.notes.items inside.bytes.items c.self.invariant.0 c.self.invariant.1, ap (λ (b : BatchView). bytes_of b.frames) c.self.view_is, c.requires.room)

pub returns-in_err-count-clause-any_moment : goal.returns-in_err-count-clause-any_moment
returns-in_err-count-clause-any_moment g c tells =
    let inside = c.self.inside in
    let laid = laid_as _ _ _ _ _ c.deref.ensures.value c.deref-2.ensures.value c.self.invariant.1 in
    let frames : c.self.invariant.0 ≡ c.args.self.now.frames = sym (frames_are inside.notes.items inside.bytes.items c.self.invariant.0 c.self.invariant.1) ∙ ap (λ (b : BatchView). b.frames) c.self.view_is in
    subst (λ (fs : List (List ℕ)). LeavesOnly g.D.Disk.moment g.D.Disk.left_since c.args.log.now.disk c.add_runs.new.log.disk (ReadsWithFirst c.args.log.now.frames (pieces_of fs))) frames (c.add_runs.ensures.any_moment tells _ laid)

pub returns-in_err-count-clause-breaks_off : goal.returns-in_err-count-clause-breaks_off
returns-in_err-count-clause-breaks_off g c =
    let inside = c.self.inside in
    let laid = laid_as _ _ _ _ _ c.deref.ensures.value c.deref-2.ensures.value c.self.invariant.1 in
    let frames : c.self.invariant.0 ≡ c.args.self.now.frames = sym (frames_are inside.notes.items inside.bytes.items c.self.invariant.0 c.self.invariant.1) ∙ ap (λ (b : BatchView). b.frames) c.self.view_is in
    on_err _ (subst (λ (fs : List (List ℕ)). BreaksOff g.D.Disk (pieces_of fs) c.args.log.now c.add_runs.new.log) frames (c.in_err-count.ensures.breaks_off _ laid))

pub invariant_of-self : goal.invariant_of-self
unfolding pieces_of
invariant_of-self g c = ([], record { notes_are = c.clear.ensures.items; bytes_are = c.clear-2.ensures.items; each = All-nil IsPiece })

pub returns-clause-added : goal.returns-clause-added
returns-clause-added g c tells =
    let inside = c.self.inside in
    let laid = laid_as _ _ _ _ _ c.deref.ensures.value c.deref-2.ensures.value c.self.invariant.1 in
    let frames : c.self.invariant.0 ≡ c.args.self.now.frames = sym (frames_are inside.notes.items inside.bytes.items c.self.invariant.0 c.self.invariant.1) ∙ ap (λ (b : BatchView). b.frames) c.self.view_is in
    c.in_ok-count.ensures.added tells _ laid ∙ ap (λ (fs : List (List ℕ)). c.args.log.now.frames ++ fs) (in_order-pieces_of c.self.invariant.0 ∙ frames)

pub returns-clause-bytes : goal.returns-clause-bytes
returns-clause-bytes g c =
    let inside = c.self.inside in
    omega (arith, c.in_ok-count.ensures.bytes, ap length c.deref-2.ensures.value, byte_count inside.notes.items inside.bytes.items c.self.invariant.0 c.self.invariant.1, ap (λ (b : BatchView). bytes_of b.frames) c.self.view_is)

pub returns-clause-any_moment : goal.returns-clause-any_moment
returns-clause-any_moment g c tells =
    let inside = c.self.inside in
    let laid = laid_as _ _ _ _ _ c.deref.ensures.value c.deref-2.ensures.value c.self.invariant.1 in
    let frames : c.self.invariant.0 ≡ c.args.self.now.frames = sym (frames_are inside.notes.items inside.bytes.items c.self.invariant.0 c.self.invariant.1) ∙ ap (λ (b : BatchView). b.frames) c.self.view_is in
    subst (λ (fs : List (List ℕ)). LeavesOnly g.D.Disk.moment g.D.Disk.left_since c.args.log.now.disk c.add_runs.new.log.disk (ReadsWithFirst c.args.log.now.frames (pieces_of fs))) frames (c.add_runs.ensures.any_moment tells _ laid)

pub returns-clause-changes : goal.returns-clause-changes
returns-clause-changes g c =
    let inside = c.self.inside in
    let count = ap length c.deref.ensures.value ∙ note_count inside.notes.items inside.bytes.items c.self.invariant.0 c.self.invariant.1 ∙ ap (λ (b : BatchView). length (pieces_of b.frames)) c.self.view_is in
    subst (λ (n : ℕ). RisesBy (2 * n) (g.D.Disk.changes c.args.log.now.disk) (g.D.Disk.changes c.add_runs.new.log.disk)) count c.in_ok-count.ensures.changes

pub returns-in_err-count-clause-on_disk : goal.returns-in_err-count-clause-on_disk
returns-in_err-count-clause-on_disk g c tells =
    let d = g.D.Disk in
    let laws = g.met.D.Disk in
    let new = c.add_runs.new.log.disk in
    let left = returns-in_err-count-clause-any_moment g c tells in
    left.each (d.seen new) (laws.counts_now new (d.moment c.args.log.now.disk) (d.seen new) left.later (laws.reads_now new tells))

pub returns-clause-on_disk : goal.returns-clause-on_disk
returns-clause-on_disk g c tells =
    let d = g.D.Disk in
    let laws = g.met.D.Disk in
    let new = c.add_runs.new.log.disk in
    let left = returns-clause-any_moment g c tells in
    left.each (d.seen new) (laws.counts_now new (d.moment c.args.log.now.disk) (d.seen new) left.later (laws.reads_now new tells))
