use Rattle.std.proofs.Common.{List, ℕ, [], ◌∷◌, ◌++◌, length, refl, arith, sym, ◌∙◌, ap}
use Rattle.hm_batch.specs.Pieces.{bytes_of, pieces_of}
use Rattle.hm_batch.specs.View.{BatchView}
use Rattle.hm_batch.proofs.Growing.{note_count, byte_count, some_bytes, few_frames, no_more_notes, grown_by, laid_as}
use Rattle.hm_batch.proofs.Runs.{frames_are}
use Rattle.hm_batch.proofs.batch.Batch.put.Goals as goal

pub growing-piece-requires-clause-whole : goal.growing-piece-requires-clause-whole
growing-piece-requires-clause-whole c last front is =
    let inside = c.self.inside in
    omega (arith, inside.bytes.ok.0, some_bytes inside.notes.items inside.bytes.items c.self.invariant.0 c.self.invariant.1 last front is)

pub growing-piece-requires-clause-room : goal.growing-piece-requires-clause-room
growing-piece-requires-clause-room c =
    let inside = c.self.inside in
    omega (arith, inside.notes.ok.0, note_count inside.notes.items inside.bytes.items c.self.invariant.0 c.self.invariant.1, ap (λ (b : BatchView). length (pieces_of b.frames)) c.self.view_is, ap (λ (b : BatchView). b.slots) c.self.view_is, c.requires.room.1)

pub lay_frame-requires-clause-room : goal.lay_frame-requires-clause-room
lay_frame-requires-clause-room c =
    let inside = c.self.inside in
    omega (arith, inside.bytes.ok.0, byte_count inside.notes.items inside.bytes.items c.self.invariant.0 c.self.invariant.1, ap (λ (b : BatchView). bytes_of b.frames) c.self.view_is, ap (λ (b : BatchView). b.room) c.self.view_is, c.requires.room.0, c.growing-piece.ensures.len, c.growing-piece.ensures.bytes)

pub overflow_add-piece-2 : goal.overflow_add-piece-2
overflow_add-piece-2 c =
    let inside = c.self.inside in
    omega (arith, few_frames inside.notes.items inside.bytes.items c.self.invariant.0 c.self.invariant.1 _ c.growing-piece.result _ _ c.growing-piece.ensures.grows)

pub push_reserved-requires : goal.push_reserved-requires
push_reserved-requires c =
    let inside = c.self.inside in
    omega (
      arith,
      inside.notes.ok.0,
      c.growing-piece.new.notes.ok.0,
      no_more_notes inside.notes.items inside.bytes.items c.self.invariant.0 c.self.invariant.1 _ c.growing-piece.result _ _ c.growing-piece.ensures.grows,
      c.growing-piece.ensures.notes,
      note_count inside.notes.items inside.bytes.items c.self.invariant.0 c.self.invariant.1,
      ap (λ (b : BatchView). length (pieces_of b.frames)) c.self.view_is,
      ap (λ (b : BatchView). b.slots) c.self.view_is,
      c.requires.room.1,
    )

pub invariant_of-self : goal.invariant_of-self
invariant_of-self c =
    let inside = c.self.inside in (
      c.self.invariant.0 ++ c.args.frame.now ∷ [],
      laid_as _ _ _ _ _ c.push_reserved.ensures.items c.lay_frame.ensures.laid
          (grown_by inside.notes.items inside.bytes.items c.self.invariant.0 c.self.invariant.1 _ c.growing-piece.result c.growing-piece.new.notes.items c.growing-piece.new.bytes.items c.growing-piece.ensures.grows c.args.frame.now c.requires.size refl _ refl refl),
    )

pub returns-clause-frames : goal.returns-clause-frames
unfolding invariant_of-self
returns-clause-frames c =
    let inside = c.self.inside in
    let made = invariant_of-self c in
    frames_are c.push_reserved.new.self.items c.lay_frame.new.out.items made.0 made.1
    ∙ ap (λ (frames : List (List ℕ)). frames ++ c.args.frame.now ∷ []) (sym (frames_are inside.notes.items inside.bytes.items c.self.invariant.0 c.self.invariant.1) ∙ ap (λ (b : BatchView). b.frames) c.self.view_is)
