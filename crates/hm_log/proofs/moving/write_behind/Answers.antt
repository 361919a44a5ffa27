use Rattle.std.proofs.Common.{rules, ◌≡◌, ◌+◌, ◌++◌, List, ℕ, length, sym, ◌∙◌, ap, arith, append_assoc, length-append}
use Rattle.std.proofs.lemmas.Grind.{common_steps}
use Rattle.hm_disk.proofs.Splice.{written_end}
use Rattle.hm_log.specs.Format.{image_of, place_bytes}
use Rattle.hm_log.proofs.Runs.{run_starts, run_waits}
use Rattle.hm_log.proofs.Spelling.{length-image}
use Rattle.hm_log.proofs.Ways.{on_ok}
use Rattle.hm_log.proofs.moving.write_behind.Goals as goal

pub returns-in_err-put_zeros-clause-any_moment : goal.returns-in_err-put_zeros-clause-any_moment
returns-in_err-put_zeros-clause-any_moment g c n all =
    let start = c.args.disk.now in
    let first = run_starts g.D.Disk g.met.D.Disk.only_now start c.args.end n c.requires.only in
    (c.put_zeros.ensures.goes_on c.args.end n _ start (omega arith) (omega (arith, all)) first).leaves

pub returns-in_err-put_image-clause-any_moment : goal.returns-in_err-put_image-clause-any_moment
returns-in_err-put_image-clause-any_moment g c n all =
    let start = c.args.disk.now in
    let first = run_starts g.D.Disk g.met.D.Disk.only_now start c.args.end n c.requires.only in
    let zeros = c.put_zeros.ensures.goes_on c.args.end n _ start (omega arith) (omega (arith, all)) first in
    (c.put_image.ensures.goes_on c.args.end n _ start c.requires.order (omega (arith, all)) zeros).leaves

pub returns-in_err-put_part-clause-any_moment : goal.returns-in_err-put_part-clause-any_moment
returns-in_err-put_part-clause-any_moment g c n all =
    let start = c.args.disk.now in
    let first = run_starts g.D.Disk g.met.D.Disk.only_now start c.args.end n c.requires.only in
    let zeros = c.put_zeros.ensures.goes_on c.args.end n _ start (omega arith) (omega (arith, all)) first in
    let image = c.put_image.ensures.goes_on c.args.end n _ start c.requires.order (omega (arith, all)) zeros in
    (c.put_part.ensures.goes_on c.args.end n _ start (omega (arith, c.requires.order, c.image_size.ensures.size)) (omega (arith, all, c.image_size.ensures.size)) image).leaves

pub returns-clause-any_moment : goal.returns-clause-any_moment
returns-clause-any_moment g c n all =
    let start = c.args.disk.now in
    let first = run_starts g.D.Disk g.met.D.Disk.only_now start c.args.end n c.requires.only in
    let zeros = c.put_zeros.ensures.goes_on c.args.end n _ start (omega arith) (omega (arith, all)) first in
    let image = c.put_image.ensures.goes_on c.args.end n _ start c.requires.order (omega (arith, all)) zeros in
    let place = c.put_part.ensures.goes_on c.args.end n _ start (omega (arith, c.requires.order, c.image_size.ensures.size)) (omega (arith, all, c.image_size.ensures.size)) image in
    (run_waits g.D.Disk g.met.D.Disk.only_now c.args.end n _ start _ _ c.sync.ensures.crash c.sync.ensures.time place).leaves

pub put_part-requires-clause-place : goal.put_part-requires-clause-place
put_part-requires-clause-place g c tells =
    let d = g.D.Disk in
    let old = d.seen c.args.disk.now in
    let image : List ℕ = image_of c.args.frames.now in
    let zeros = c.in_ok-put_zeros.ensures.written tells in
    let first = d.seen c.put_zeros.new.disk in
    let at : c.args.place ≡ length first = omega (arith, zeros.1, c.requires.end tells, ap length zeros.2, length-append old zeros.0) in
    let imaged : d.seen c.put_image.new.disk ≡ first ++ image = c.in_ok-put_image.ensures.written tells ∙ written_end c.args.place first image at in
    omega (arith, at, c.image_size.ensures.size, ap length imaged, length-append first image, length-image c.args.frames.now)

pub returns-clause-staged : goal.returns-clause-staged
unfolding place_bytes
returns-clause-staged g c tells =
    let d = g.D.Disk in
    let old = d.seen c.args.disk.now in
    let frames = c.args.frames.now in
    let image : List ℕ = image_of frames in
    let zeros = c.in_ok-put_zeros.ensures.written tells in
    let fill = zeros.0 in
    let first = d.seen c.put_zeros.new.disk in
    let second = d.seen c.put_image.new.disk in
    let end : length old ≡ c.args.end = sym (c.requires.end tells) in
    let at : c.args.place ≡ length first = omega (arith, zeros.1, end, ap length zeros.2, length-append old fill) in
    let imaged : second ≡ first ++ image = c.in_ok-put_image.ensures.written tells ∙ written_end c.args.place first image at in
    let behind : c.args.place + c.image_size.result ≡ length second = omega (arith, at, c.image_size.ensures.size, ap length imaged, length-append first image, length-image frames) in
    let placed : d.seen c.put_part.new.disk ≡ second ++ place_bytes c.args.place = search (rules, common_steps, written_end (c.args.place + c.image_size.result) second (place_bytes c.args.place) behind) in
    on_ok c.sync.result (
      fill,
      omega (arith, zeros.1, end),
      c.sync.ensures.seen
          ∙ placed
          ∙ ap (λ (l : List ℕ). l ++ place_bytes c.args.place) (imaged ∙ ap (λ (l : List ℕ). l ++ image) zeros.2)
          ∙ ap (λ (l : List ℕ). l ++ place_bytes c.args.place) (append_assoc old fill image)
          ∙ append_assoc old (fill ++ image) (place_bytes c.args.place)
          ∙ ap (λ (l : List ℕ). old ++ l) (append_assoc fill image (place_bytes c.args.place)),
    )
