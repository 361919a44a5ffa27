use Rattle.std.proofs.Common.{◌≡◌, refl, arith, subst}
use Rattle.hm_log.specs.Format.{told_place, NoBody}
use Rattle.hm_log.proofs.Finding.{body_high, body_low, body_there, body_tight, told_is}
use Rattle.hm_log.proofs.pieces.survey_moved.Goals.{then-first-lt11-via-then-first-lt11, then-first-lt11-via-else-first-lt11+then-size-first, then-first-lt11-via-else-first-lt11+else-size-first+then-size-first-2}
use Rattle.hm_log.proofs.pieces.survey_moved.Goals as goal

pub returns-then-first-lt11-clause-lost : goal.returns-then-first-lt11-clause-lost
returns-then-first-lt11-clause-lost g c tells place err =
    let seen = g.D.Disk.seen c.args.disk.now in
    let first = c.from_le_bytes-first.result in
    let told : first ≡ told_place seen = told_is seen c.read.new.into c.args.size first (c.requires.size tells) c.requires.some (c.in_ok-read.ensures.bytes tells) c.from_le_bytes-first.ensures in
    subst (λ p. NoBody p c.args.size) told (elim c.then-first-lt11.branch [
      | then-first-lt11-via-then-first-lt11 w ↦ body_low first c.args.size w.if-first-lt11.true
      | then-first-lt11-via-else-first-lt11+then-size-first w ↦ body_high first c.args.size c.requires.some w.if-size-first.true
      | then-first-lt11-via-else-first-lt11+else-size-first+then-size-first-2 w ↦ body_tight first c.args.size w.if-first-lt11.false w.if-size-first.false w.if-size-first-2.true
    ])

pub returns-clause-body : goal.returns-clause-body
returns-clause-body g c tells =
    let seen = g.D.Disk.seen c.args.disk.now in
    let first = c.from_le_bytes-first.result in (
      refl,
      told_is seen c.read.new.into c.args.size first (c.requires.size tells) c.requires.some (c.in_ok-read.ensures.bytes tells) c.from_le_bytes-first.ensures,
      omega (arith, c.requires.some),
      body_there first c.args.size c.requires.some c.if-first-lt11.false c.if-size-first.false c.if-size-first-2.false,
    )
