use Rattle.std.proofs.Common.{◌≡◌, ◌+◌, List, ◌∙◌, ap, sym, subst, arith}
use Rattle.hm_names.specs.declared.pid.Pid.{Pid}
use Rattle.hm_model.specs.Procedures.{offset}
use Rattle.hm_model.specs.Tree.{made}
use Rattle.hm_model.proofs.Grown.{grown_all}
use Rattle.hm_image.specs.Layouts.{AreLaid, AreOfBase}
use Rattle.hm_image.proofs.Laid.{laid_begin}
use Rattle.hm_image.proofs.layouts.laid_in.Goals as goal

pub overflow_step-number : goal.overflow_step-number
overflow_step-number c =
    let J = c.args.records.now.past in
    let low = (grown_all J c.procedures-procedures.ensures.legal).low in
    let first : c.offset-number.result ≡ offset J = c.offset-number.ensures ∙ ap offset c.procedures-procedures.ensures.past in
    let last : c.last_pid-last.result ≡ made J = c.last_pid-last.ensures.last ∙ ap made c.procedures-procedures.ensures.past in
    let small = c.last_pid-last.ensures.small in
    omega (arith, low, first, last, small)

pub loop-number-init : goal.loop-number-init
loop-number-init c =
    let J = c.args.records.now.past in
    let laid = c.in_ok-laid.laid.pairs in
    subst (λ n. AreLaid J n laid) (sym (ap (λ n. n + 1) (c.offset-number.ensures ∙ ap offset c.procedures-procedures.ensures.past)))
    (laid_begin J c.procedures-procedures.ensures.legal laid (subst (λ (roots : List Pid). AreOfBase roots laid) c.layouts.ensures c.in_ok-laid.ensures))

pub returns : goal.returns
returns c =
    let J = c.args.records.now.past in
    let low = (grown_all J c.procedures-procedures.ensures.legal).low in
    let first : c.offset-number.result ≡ offset J = c.offset-number.ensures ∙ ap offset c.procedures-procedures.ensures.past in
    let last : c.last_pid-last.result ≡ made J = c.last_pid-last.ensures.last ∙ ap made c.procedures-procedures.ensures.past in
    let end = c.loop-number-test.false in
    let within = c.loop-number.auto.number-end in
    let all : c.loop-number.number ≡ made J + 1 = omega (arith, low, first, last, end, within) in
    subst (λ n. AreLaid J n c.loop-number.laid.pairs) all c.loop-number.invariant
