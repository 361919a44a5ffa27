use Rattle.std.proofs.Common.{rules, ◌≡◌, ◌⊎◌, ◌+◌, ◌-◌, inl, inr, ℕ, List, length, take, drop, sym, ◌∙◌, subst, arith, ap, length-append}
use Rattle.hm_log.specs.Format.{spelled}
use Rattle.hm_log.specs.Pieces.{EndsAt, StandsIn, IsShutBehind, body_in}
use Rattle.hm_log.proofs.Further.{body_long, ends_later, stands_later, shut_there, bad_there, last_piece, piece_in}
use Rattle.hm_log.proofs.Spelling.{spelled-append}
use Rattle.hm_log.proofs.pieces.read_piece.Goals as goal

pub returns-clause-ends : goal.returns-clause-ends
returns-clause-ends g c =
    let taken = c.in_ok-end.ensures in
    let long : length c.read.new.into ≡ c.min-count.result = search rules in
    subst (λ (fs : List (List ℕ)). EndsAt c.args.span.first fs (c.args.place + c.in_ok-end.end) c.args.span.limit) (sym taken.1)
    (ends_later _ taken.0 _ taken.2 c.args.span.first c.args.frames.now c.args.place c.args.span.limit c.requires.ends (omega (arith, long, c.min-count.ensures, c.requires.ends.within)))

pub returns-clause-stands : goal.returns-clause-stands
returns-clause-stands g c tells =
    let taken = c.in_ok-end.ensures in
    let seen = g.D.Disk.seen c.args.disk.now in
    let body = body_in c.args.span.first c.args.span.limit seen in
    let piece = c.read.new.into in
    let is : piece ≡ take (length piece) (drop c.args.place seen) = search rules in
    let long : length piece ≡ c.min-count.result = search rules in
    let here = piece_in seen piece c.args.span.first c.args.span.limit c.args.place (length (spelled c.args.frames.now)) c.requires.ends.at (omega (arith, long, c.min-count.ensures, c.requires.ends.within)) is in
    subst (StandsIn body) (sym taken.1) (stands_later _ taken.0 _ taken.2 body c.args.frames.now c.requires.ends.each (c.requires.stands tells) here)

pub returns-then-part-end-ne43-clause-ends : goal.returns-then-part-end-ne43-clause-ends
returns-then-part-end-ne43-clause-ends g c =
    let taken = c.in_ok-end.ensures in
    let long : length c.read.new.into ≡ c.min-count.result = search rules in
    subst (λ (fs : List (List ℕ)). EndsAt c.args.span.first fs (c.args.place + c.in_ok-end.end) c.args.span.limit) (sym taken.1)
    (ends_later _ taken.0 _ taken.2 c.args.span.first c.args.frames.now c.args.place c.args.span.limit c.requires.ends (omega (arith, long, c.min-count.ensures, c.requires.ends.within)))

pub returns-then-part-end-ne43-clause-stands : goal.returns-then-part-end-ne43-clause-stands
returns-then-part-end-ne43-clause-stands g c tells =
    let taken = c.in_ok-end.ensures in
    let seen = g.D.Disk.seen c.args.disk.now in
    let body = body_in c.args.span.first c.args.span.limit seen in
    let piece = c.read.new.into in
    let is : piece ≡ take (length piece) (drop c.args.place seen) = search rules in
    let long : length piece ≡ c.min-count.result = search rules in
    let here = piece_in seen piece c.args.span.first c.args.span.limit c.args.place (length (spelled c.args.frames.now)) c.requires.ends.at (omega (arith, long, c.min-count.ensures, c.requires.ends.within)) is in
    subst (StandsIn body) (sym taken.1) (stands_later _ taken.0 _ taken.2 body c.args.frames.now c.requires.ends.each (c.requires.stands tells) here)

pub returns-then-part-end-ne43-clause-shut : goal.returns-then-part-end-ne43-clause-shut
returns-then-part-end-ne43-clause-shut g c tells _ =
    let taken = c.in_ok-end.ensures in
    let seen = g.D.Disk.seen c.args.disk.now in
    let body = body_in c.args.span.first c.args.span.limit seen in
    let piece = c.read.new.into in
    let is : piece ≡ take (length piece) (drop c.args.place seen) = search rules in
    let long : length piece ≡ c.min-count.result = search rules in
    let here = piece_in seen piece c.args.span.first c.args.span.limit c.args.place (length (spelled c.args.frames.now)) c.requires.ends.at (omega (arith, long, c.min-count.ensures, c.requires.ends.within)) is in
    subst (IsShutBehind body) (sym taken.1) (shut_there _ taken.0 _ taken.2 body c.args.frames.now c.requires.ends.each (c.requires.stands tells) here c.if-part-end-ne43.true)

pub returns-then-end-eq0-clause-bad_frame : goal.returns-then-end-eq0-clause-bad_frame
returns-then-end-eq0-clause-bad_frame g c tells at err =
    let taken = c.in_ok-end.ensures in
    let seen = g.D.Disk.seen c.args.disk.now in
    let first = c.args.span.first in
    let limit = c.args.span.limit in
    let body = body_in first limit seen in
    let piece = c.read.new.into in
    let frames = c.args.frames.now in
    let ends = c.requires.ends in
    let left = limit - c.args.place in
    let is : piece ≡ take (length piece) (drop c.args.place seen) = search rules in
    let long : length piece ≡ c.min-count.result = search rules in
    let here = piece_in seen piece first limit c.args.place (length (spelled frames)) ends.at (omega (arith, long, c.min-count.ensures, ends.within)) is in
    let last : (c.in_ok-end.end ≡ 0) ⊎ (length piece ≡ left) = elim c.then-end-eq0.either [ inl zero ↦ inl zero | inr both ↦ inr (long ∙ both.1) ] in
    let same : c.args.place + c.in_ok-end.end ≡ at = cc in
    let whole : length body ≡ length (spelled frames) + left = omega (arith, body_long seen first limit (c.requires.limit tells), ends.at, ends.within) in (
      omega (arith, same, ends.at),
      bad_there piece taken.0 _ taken.2 body frames ends.each (c.requires.stands tells) here c.if-part-end-ne43.false
          (last_piece body piece c.in_ok-end.end (length (spelled frames)) left whole (long ∙ c.min-count.ensures) last)
          (at - first)
          (omega (arith, same, ends.at, taken.2.at, ap length (spelled-append frames taken.0), length-append (spelled frames) (spelled taken.0))),
    )
