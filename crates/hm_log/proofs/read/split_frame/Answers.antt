use Rattle.std.proofs.Common.{◌<◌, ℕ, get_or, inl, inr, arith}
use Rattle.std.proofs.lemmas.Grind.{common_steps}
use Rattle.hm_log.proofs.Sizes.{none, laid_is}
use Rattle.hm_log.proofs.read.split_frame.Goals.{then-size-eq0-via-then-size-eq0, then-size-eq0-via-else-size-eq0+then-size-gt65536, then-size-eq0-via-else-size-eq0+else-size-gt65536+then-tail-size}
use Rattle.hm_log.proofs.read.split_frame.Goals as goal

pub returns-then-size-eq0-clause-none : goal.returns-then-size-eq0-clause-none
returns-then-size-eq0-clause-none c =
    let short = none c.args.rest.now c.split_at.result.0.now c.split_at.result.1.now c.from_le_bytes-size.result c.split_at.ensures.by_index.0 c.split_at.ensures.front_len c.from_le_bytes-size.ensures in
    elim c.then-size-eq0.branch [
      | then-size-eq0-via-then-size-eq0 w ↦ short (inl w.if-size-eq0.true)
      | then-size-eq0-via-else-size-eq0+then-size-gt65536 w ↦ short (inr (inl w.if-size-gt65536.true))
      | then-size-eq0-via-else-size-eq0+else-size-gt65536+then-tail-size w ↦ short (inr (inr w.if-tail-size.true))
    ]

pub returns-clause-frame : goal.returns-clause-frame
returns-clause-frame c =
    let head = c.split_at.result.0.now in
    let bytes : (i : ℕ) → get_or head i 0 < 256 = λ i. grind (arith, common_steps, c.type_inv.rest) in
    let split = c.split_at-2.ensures in (
      laid_is c.args.rest.now head c.split_at.result.1.now c.from_le_bytes-size.result c.split_at.ensures.by_index.0 c.split_at.ensures.front_len c.from_le_bytes-size.ensures bytes _ _ split.by_index.0 split.front_len,
      record { some = omega (arith, split.front_len); most = omega (arith, split.front_len) },
      omega (arith, split.back_len),
    )
