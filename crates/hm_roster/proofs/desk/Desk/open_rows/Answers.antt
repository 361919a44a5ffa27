use Rattle.std.proofs.Common.{◌≡◌, ◌+◌, ℕ, ap, arith, subst, sym, ◌∙◌}
use Rattle.hm_model.specs.Tree.{made}
use Rattle.hm_model.proofs.Grown.{grown_all}
use Rattle.hm_roster.specs.Opening.{IsBookBelow}
use Rattle.hm_roster.proofs.Alike.{book_self}
use Rattle.hm_roster.proofs.Opened.{none_below}
use Rattle.hm_roster.proofs.desk.Desk.open_rows.Goals as goal

pub loop-pid-init : goal.loop-pid-init
loop-pid-init c =
    let J = c.args.records.now.past in
    let rows = c.args.self.now.book.rows in
    record { below = subst (λ (n : ℕ). IsBookBelow J rows n) (sym c.first_pid-pid.ensures) (none_below J c.procedures.ensures.legal rows c.requires); same = book_self c.args.self.now }

pub returns-clause-book : goal.returns-clause-book
returns-clause-book c =
    let J = c.args.records.now.past in
    let last : c.last_pid-last.result ≡ made J = c.last_pid-last.ensures.last ∙ ap made c.procedures.ensures.past in
    let first = c.first_pid-pid.ensures in
    let few = (grown_all J c.procedures.ensures.legal).low in
    let test = c.loop-pid-test.false in
    let end = c.loop-pid.auto in
    let all : c.loop-pid.pid ≡ made J + 1 = omega (arith, last, test, end, first, few) in
    subst (λ (n : ℕ). IsBookBelow J c.loop-pid.self.book.rows n) all c.loop-pid.invariant.below
