-- The call of a procedure, by what is kept of it.
use Rattle.std.proofs.Common.{◌≡◌, ℕ, true, false, Option, Some, None, is_some, refl, ap, sym, ◌∙◌}
use Rattle.std.proofs.lemmas.Bool.{false≢true}
use Rattle.std.proofs.lemmas.Option.{same_Some}
use Rattle.hm_data.specs.declared.call.Verb.{Verb}
use Rattle.hm_model.specs.Calls.{CallsAreOwn}
use Rattle.hm_model.specs.Journal.{Past}
use Rattle.hm_model.specs.Reports.{call_if, call_of, peer_if, peer_in, verb_of}
use Rattle.hm_model.specs.Rules.{IsLegal}
use Rattle.hm_model.specs.Tree.{Node, node_of}
use Rattle.hm_model.specs.Verbs.{verb_in}
use Rattle.hm_procedures.specs.Kept.{kept_at, kept_of}
use Rattle.hm_procedures.specs.declared.kept.Tracked.{Tracked}
use Rattle.hm_procedures.proofs.Readers.{gone_of, there_of}

-- who called has its verb
pub call_by : (J : Past) → IsLegal J → CallsAreOwn → (p : ℕ) (one : Tracked) → Some one ≡ kept_of J p → one.has_called ≡ true
    → call_if p (Some (peer_in (let shown = one.shown in shown.args))) (verb_in (let shown = one.shown in shown.args)) ≡ call_of J p
call_by J legal own p one is called = by (verb_of J p) refl (sym (ap (λ (k : Tracked). k.has_called) t.2) ∙ called)
  where
    t : (x : Node) × (node_of J p ≡ Some x) × (one ≡ kept_at J p x)
    t = there_of J p one is

    by : (v : Option Verb) → verb_of J p ≡ v → is_some v ≡ true
        → call_if p (Some (peer_in (let shown = one.shown in shown.args))) (verb_in (let shown = one.shown in shown.args)) ≡ call_of J p
    by None e on = absurd (false≢true on)
    by (Some verb) e on =
        let node = own J legal p verb e in
        let same : node.0 ≡ t.0 = same_Some node.0 t.0 (sym node.1 ∙ t.1) in
        ap (λ (k : Tracked). call_if p (Some (peer_in (let shown = k.shown in shown.args))) (verb_in (let shown = k.shown in shown.args))) t.2
        ∙ ap (call_if p (Some (peer_in t.0.args))) (ap (λ (n : Node). verb_in n.args) (sym same) ∙ node.2)
        ∙ sym (ap (λ v. call_if p (peer_if (node_of J p) v) v) e ∙ ap (λ n. call_if p (peer_if n (Some verb)) (Some verb)) t.1)

-- who didn't has none
pub call_not : (J : Past) (p : ℕ) (one : Tracked) → Some one ≡ kept_of J p → one.has_called ≡ false → None ≡ call_of J p
call_not J p one is called = by (verb_of J p) refl (sym (ap (λ (k : Tracked). k.has_called) t.2) ∙ called)
  where
    t : (x : Node) × (node_of J p ≡ Some x) × (one ≡ kept_at J p x)
    t = there_of J p one is

    by : (v : Option Verb) → verb_of J p ≡ v → is_some v ≡ false → None ≡ call_of J p
    by None e off = sym (ap (λ n. call_if p (peer_if n (verb_of J p)) (verb_of J p)) t.1 ∙ ap (λ v. call_if p (peer_if (Some t.0) v) v) e)
    by (Some verb) e off = absurd (false≢true (sym off))

pub call_gone : (J : Past) (p : ℕ) → None ≡ kept_of J p → None ≡ call_of J p
call_gone J p none = sym (ap (λ n. call_if p (peer_if n (verb_of J p)) (verb_of J p)) (gone_of J p none))
