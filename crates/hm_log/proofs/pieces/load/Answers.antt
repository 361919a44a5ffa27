use Rattle.std.proofs.Common.{◌≡◌, List, ℕ, sym, subst}
use Rattle.hm_disk.proofs.Moments.{one_call, then_now, then_stays, weaker}
use Rattle.hm_log.specs.Format.{IsNotALog}
use Rattle.hm_log.proofs.Ways.{on_ok}
use Rattle.hm_log.proofs.pieces.load.Goals as goal

pub returns-clause-from_then_on : goal.returns-clause-from_then_on
returns-clause-from_then_on g c =
    let d = g.D.Disk in
    let laws = g.met.D.Disk in
    let old = c.args.disk.now in
    let mid = c.sync.new.self in
    let P : List ℕ → Type 0 = λ f. f ≡ d.seen old in
    let synced : (f : List ℕ) → d.image mid f → P f = c.in_ok-sync.ensures.durable in
    let first = then_now d.moment d.left_since old mid (d.image old) P
    (one_call d.moment d.left_since old mid (d.image old) _ c.sync.ensures.time (laws.only_now old) c.sync.ensures.crash)
    (λ f left. synced f (laws.only_now mid f left)) in
    on_ok _ (then_stays d.moment d.left_since old mid c.fetch.new.disk (d.image old) P first (weaker d.moment d.left_since mid c.fetch.new.disk (d.image mid) P synced c.fetch.ensures.only_reads.leaves))

pub returns-clause-memory : goal.returns-clause-memory
returns-clause-memory g c tells place err foreign =
    c.fetch.ensures.memory tells place err (subst (λ (l : List ℕ). IsNotALog l place) (sym c.sync.ensures.seen) foreign)
