use Rattle.std.proofs.Common.{◌≡◌, List, ℕ, ◌+◌, ◌++◌, [], take, sym, ◌∙◌, ap, subst, arith}
use Rattle.std.proofs.lemmas.List.Elements.{All-nil}
use Rattle.std.specs.Prelude.{All}
use Rattle.hm_disk.specs.Disk.{CutOrWhole}
use Rattle.hm_disk.proofs.Moments.{weaker}
use Rattle.hm_log.specs.Format.{IsFrame, IsWhole, Reads, image_of, log_of}
use Rattle.hm_log.specs.Pieces.{IsFound}
use Rattle.hm_log.proofs.Layouts.{moved_parts, moved_reads}
use Rattle.hm_log.proofs.Moves.{front_kept, written_whole}
use Rattle.hm_log.proofs.Settling.{clean_size, log_whole, plain_bytes, plain_cut, plain_reads_to, plain_whole, settles_same}
use Rattle.hm_log.proofs.Ways.{if_ok}
use Rattle.hm_log.proofs.open.settle.Goals as goal

pub returns-in-Blank-clause-whole : goal.returns-in-Blank-clause-whole
returns-in-Blank-clause-whole g c at is tells =
    let seen = g.D.Disk.seen c.args.disk.now in
    let frames = c.args.found.now.frames in
    let found = subst (λ l. IsFound seen l frames c.args.found.now.gate) c.in-Blank.is (c.requires.found tells) in
    let none : frames ≡ [] = found.1 in
    let each : All IsFrame frames = subst (λ (fs : List (List ℕ)). All IsFrame fs) (sym none) (All-nil IsFrame) in
    if_ok c.make.result (λ made. log_whole frames each (g.D.Disk.seen c.make.new.disk) at is (made ∙ ap log_of (sym none))) (c.make.ensures.made tells)

pub returns-in-First-clause-whole : goal.returns-in-First-clause-whole
returns-in-First-clause-whole g c at is tells =
    let frames = c.args.found.now.frames in
    let found = subst (λ l. IsFound (g.D.Disk.seen c.args.disk.now) l frames c.args.found.now.gate) c.in-First.is (c.requires.found tells) in
    if_ok c.renew.result (log_whole frames found.1.runs.each (g.D.Disk.seen c.renew.new.disk) at is) (c.renew.ensures.written tells)

pub returns-in-Plain-clause-whole : goal.returns-in-Plain-clause-whole
returns-in-Plain-clause-whole g c at is tells =
    let seen = g.D.Disk.seen c.args.disk.now in
    let now = g.D.Disk.seen c.cut_behind.new.disk in
    let frames = c.args.found.now.frames in
    let gate = c.args.found.now.gate in
    let found = subst (λ l. IsFound seen l frames gate) c.in-Plain.is (c.requires.found tells) in
    let same : gate ≡ at = omega (arith, is, plain_bytes seen gate frames found.0 found.1) in
    if_ok c.cut_behind.result (λ cut. subst (λ (n : ℕ). IsWhole now n frames) same (plain_whole seen gate frames found.0 found.1 now cut)) (c.cut_behind.ensures.cut tells)

pub returns-in-Plain-clause-kept : goal.returns-in-Plain-clause-kept
returns-in-Plain-clause-kept g c tells front body plain =
    let seen = g.D.Disk.seen c.args.disk.now in
    let frames = c.args.found.now.frames in
    let gate = c.args.found.now.gate in
    let found = subst (λ l. IsFound seen l frames gate) c.in-Plain.is (c.requires.found tells) in
    if_ok c.cut_behind.result (λ cut. cut ∙ ap (λ (n : ℕ). take n seen) (plain_bytes seen gate frames found.0 found.1)) (c.cut_behind.ensures.cut tells)

pub returns-in-Plain-clause-any_moment : goal.returns-in-Plain-clause-any_moment
returns-in-Plain-clause-any_moment g c tells =
    let d = g.D.Disk in
    let seen = d.seen c.args.disk.now in
    let frames = c.args.found.now.frames in
    let gate = c.args.found.now.gate in
    let found = subst (λ l. IsFound seen l frames gate) c.in-Plain.is (c.requires.found tells) in
    settles_same d.moment d.left_since c.args.disk.now c.args.disk.now c.cut_behind.new.disk seen frames (plain_reads_to seen gate frames found.0 found.1)
    (weaker d.moment d.left_since c.args.disk.now c.cut_behind.new.disk (CutOrWhole (gate + 1) seen) (λ f. Reads f frames) (plain_cut seen gate frames found.0 found.1) c.cut_behind.ensures.any_moment)

pub returns-in-Plain-clause-clean : goal.returns-in-Plain-clause-clean
returns-in-Plain-clause-clean g c tells clean =
    let seen = g.D.Disk.seen c.args.disk.now in
    let frames = c.args.found.now.frames in
    let gate = c.args.found.now.gate in
    let found = subst (λ l. IsFound seen l frames gate) c.in-Plain.is (c.requires.found tells) in
    c.cut_behind.ensures.clean (omega (arith, c.requires.size tells, clean_size seen frames clean (plain_reads_to seen gate frames found.0 found.1), plain_bytes seen gate frames found.0 found.1))

pub returns-in-Moved-clause-whole : goal.returns-in-Moved-clause-whole
returns-in-Moved-clause-whole g c at is tells =
    let seen = g.D.Disk.seen c.args.disk.now in
    let frames = c.args.found.now.frames in
    let found = subst (λ l. IsFound seen l frames c.args.found.now.gate) c.in-Moved.is (c.requires.found tells) in
    if_ok c.finish.result (written_whole found.lies.version found.lies.newer frames found.runs.each (g.D.Disk.seen c.finish.new.disk) at (omega (arith, is)))
    (c.finish.ensures.written tells found.lies.version (found.lies.between ++ (found.body ++ found.lies.place)) (moved_parts seen found.front found.body found.lies))

pub returns-in-Moved-clause-moved : goal.returns-in-Moved-clause-moved
returns-in-Moved-clause-moved g c tells front body moved =
    let seen = g.D.Disk.seen c.args.disk.now in
    let frames = c.args.found.now.frames in
    let found = subst (λ l. IsFound seen l frames c.args.found.now.gate) c.in-Moved.is (c.requires.found tells) in
    let rest = found.lies.between ++ (found.body ++ found.lies.place) in
    let parts = moved_parts seen found.front found.body found.lies in
    if_ok c.finish.result (front_kept found.lies.version 43 rest seen (image_of frames) (g.D.Disk.seen c.finish.new.disk) parts) (c.finish.ensures.written tells found.lies.version rest parts)

pub returns-in-Moved-clause-any_moment : goal.returns-in-Moved-clause-any_moment
returns-in-Moved-clause-any_moment g c tells =
    let d = g.D.Disk in
    let seen = d.seen c.args.disk.now in
    let frames = c.args.found.now.frames in
    let found = subst (λ l. IsFound seen l frames c.args.found.now.gate) c.in-Moved.is (c.requires.found tells) in
    settles_same d.moment d.left_since c.args.disk.now c.args.disk.now c.finish.new.disk seen frames (moved_reads found.front found.body frames seen found.lies found.runs) (c.finish.ensures.any_moment tells)
