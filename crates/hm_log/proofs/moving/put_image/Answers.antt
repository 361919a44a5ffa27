use Rattle.std.proofs.Common.{◌≡◌, ◌++◌, ◌∷◌, [], List, ℕ, length, subst, sym, ◌∙◌, ap, arith, append_assoc, length-append}
use Rattle.std.proofs.lemmas.List.{take_all}
use Rattle.hm_disk.specs.Disk.{written}
use Rattle.std.proofs.lemmas.List.Elements.{All-get_or}
use Rattle.std.proofs.lemmas.Option.{get_or_from_slice_get, slice_get_within}
use Rattle.hm_log.specs.Format.{laid, spelled, IsFrame}
use Rattle.hm_log.proofs.Runs.{laid_next, laid_within, used_then, written_then}
use Rattle.hm_log.proofs.Spelling.{length-laid}
use Rattle.hm_log.proofs.Ways.{if_ok}
use Rattle.hm_log.proofs.moving.put_image.Goals as goal

pub make_room-requires-clause-fits : goal.make_room-requires-clause-fits
make_room-requires-clause-fits g c =
    let laid_out = c.loop-number.invariant.laid in
    omega (arith, laid_within c.args.frames.now c.loop-number.number laid_out.0 c.loop-number.buffer.items laid_out.1, laid_out.2, c.requires.fits)

pub make_room-requires-clause-size : goal.make_room-requires-clause-size
make_room-requires-clause-size g c =
    let there = c.frame-frame.ensures in
    subst IsFrame (get_or_from_slice_get c.args.frames.now c.loop-number.number c.frame-frame.result.now [] there)
    (All-get_or IsFrame c.args.frames.now c.loop-number.number [] (slice_get_within c.args.frames.now c.loop-number.number c.frame-frame.result.now there) c.count-number-end.ensures.each)

pub lay_open-requires-clause-size : goal.lay_open-requires-clause-size
lay_open-requires-clause-size g c =
    let there = c.frame-frame.ensures in
    subst IsFrame (get_or_from_slice_get c.args.frames.now c.loop-number.number c.frame-frame.result.now [] there)
    (All-get_or IsFrame c.args.frames.now c.loop-number.number [] (slice_get_within c.args.frames.now c.loop-number.number c.frame-frame.result.now there) c.count-number-end.ensures.each)

pub returns-in_err-place-clause-goes_on : goal.returns-in_err-place-clause-goes_on
returns-in_err-place-clause-goes_on g c at n base start low high so_far =
    let was = c.loop-number.invariant in
    let within = laid_within c.args.frames.now c.loop-number.number was.laid.0 c.loop-number.buffer.items was.laid.1 in
    c.make_room.ensures.goes_on at n base start (omega (arith, low, was.laid.2)) (omega (arith, high, within, was.laid.2)) (was.goes_on at n base start low high so_far)

pub loop-number-preserved : goal.loop-number-preserved
loop-number-preserved g c =
    let d = g.D.Disk in
    let was = c.loop-number.invariant in
    let frames = c.args.frames.now in
    let number = c.loop-number.number in
    let within = laid_within frames number was.laid.0 c.loop-number.buffer.items was.laid.1 in
    let front = c.in_ok-place.ensures.written in
    let old = d.seen c.args.disk.now in
    record {
      capacity = c.lay_open.ensures.capacity ∙ c.make_room.ensures.capacity ∙ was.capacity;
      room = omega (arith, ap length c.lay_open.ensures.laid, length-append c.make_room.new.buffer.items (43 ∷ laid c.frame-frame.result.now), length-laid c.frame-frame.result.now, c.in_ok-place.ensures.room);
      laid = (
        was.laid.0 ++ front.0,
        laid_next frames number c.frame-frame.result.now was.laid.0 front.0 c.loop-number.buffer.items c.make_room.new.buffer.items c.lay_open.new.buffer.items c.frame-frame.ensures was.laid.1 front.1 c.lay_open.ensures.laid,
        omega (arith, front.2, was.laid.2, length-append was.laid.0 front.0),
        λ tells.
            front.3 tells
            ∙ ap (λ (f : List ℕ). written c.loop-number.place front.0 f) (was.laid.3 tells)
            ∙ written_then c.args.at c.loop-number.place was.laid.0 front.0 old (c.requires.place tells) was.laid.2,
      );
      goes_on = λ at n base start low high so_far.
          c.make_room.ensures.goes_on at n base start (omega (arith, low, was.laid.2)) (omega (arith, high, within, was.laid.2)) (was.goes_on at n base start low high so_far);
      no_fault = c.in_ok-place.ensures.no_fault ∙ was.no_fault;
      used = used_then d c.args.disk.now c.loop-number.disk c.make_room.new.disk was.used c.make_room.ensures.used;
    }

pub returns-clause-written : goal.returns-clause-written
returns-clause-written g c tells =
    let d = g.D.Disk in
    let was = c.loop-number.invariant in
    let frames = c.args.frames.now in
    let items = c.loop-number.buffer.items in
    let last : List ℕ = items ++ 45 ∷ [] in
    let old = d.seen c.args.disk.now in
    let all : was.laid.0 ++ items ≡ spelled frames =
    was.laid.1 ∙ ap spelled (take_all c.loop-number.number frames (omega (arith, c.loop-number-test.false, c.count-number-end.ensures.count))) in
    if_ok c.put_part.result
    (λ wrote.
    wrote
    ∙ ap (λ (b : List ℕ). written c.loop-number.place b (d.seen c.loop-number.disk)) (c.deref.ensures.value ∙ c.put.ensures.items)
    ∙ ap (λ (f : List ℕ). written c.loop-number.place last f) (was.laid.3 tells)
    ∙ written_then c.args.at c.loop-number.place was.laid.0 last old (c.requires.place tells) was.laid.2
    ∙ ap (λ (b : List ℕ). written c.args.at b old) (sym (append_assoc was.laid.0 items (45 ∷ [])) ∙ ap (λ (l : List ℕ). l ++ 45 ∷ []) all))
    (c.put_part.ensures.written tells)

pub returns-clause-goes_on : goal.returns-clause-goes_on
returns-clause-goes_on g c at n base start low high so_far =
    let was = c.loop-number.invariant in
    let items = c.loop-number.buffer.items in
    let within = laid_within c.args.frames.now c.loop-number.number was.laid.0 items was.laid.1 in
    c.put_part.ensures.goes_on at n base start (omega (arith, low, was.laid.2))
    (omega (arith, high, within, was.laid.2, ap length (c.deref.ensures.value ∙ c.put.ensures.items), length-append items (45 ∷ []))) (was.goes_on at n base start low high so_far)
