-- Whom a procedure called.
use Rattle.std.proofs.Common.{◌≡◌, ◌≢◌, ◌↔◌, ℕ, Bool, IsTrue, Option, Some, None, refl, ap, sym, ◌∙◌}
use Rattle.std.proofs.lemmas.Option.{none-some, same_Some}
use Rattle.hm_data.specs.declared.call.Peer.{Peer}
use Rattle.hm_data.specs.declared.call.Verb.{Verb}
use Rattle.hm_data.specs.declared.record.Record.{Record}
use Rattle.hm_model.specs.Journal.{Past}
use Rattle.hm_model.specs.Records.{record_of}
use Rattle.hm_model.specs.Reports.{peer_if, peer_in, peer_of, verb_of}
use Rattle.hm_model.specs.Tree.{Node, node_of}
use Rattle.hm_judge.proofs.Found.{gone_of, there_of}

-- where a call is recorded, its peer is that of what the procedure works on
called : (J : Past) (p : ℕ) (x : Node) → node_of J p ≡ Some x → verb_of J p ≢ None → peer_of J p ≡ Some (peer_in x.args)
called J p x is some = by (verb_of J p) refl
  where
    by : (o : Option Verb) → verb_of J p ≡ o → peer_of J p ≡ Some (peer_in x.args)
    by None e = absurd (some e)
    by (Some verb) e = ap (λ v. peer_if (node_of J p) v) e ∙ ap (λ n. peer_if n (Some verb)) is

pub comes_from : (J : Past) (p : ℕ) (its : Record) → Some its ≡ record_of J p → verb_of J p ≢ None → (from : Peer) (b : Bool) → (IsTrue b ↔ (peer_in its.args ≡ from)) → IsTrue b ↔ (peer_of J p ≡ Some from)
comes_from J p its some recorded from b tells =
    let t = there_of J p its some in
    let args = ap (λ (r : Record). peer_in r.args) t.2 in
    let peer = called J p t.0 t.1 recorded in (
      λ on. peer ∙ ap (λ q. Some q) (sym args ∙ tells.0 on),
      λ is. tells.1 (args ∙ same_Some (peer_in (let x = t.0 in x.args)) from (sym peer ∙ is)),
    )

-- who isn't there called nobody
pub nobody_calls : (J : Past) (p : ℕ) → None ≡ record_of J p → (from : Peer) → peer_of J p ≡ Some from → ⊥
nobody_calls J p none from is = none-some from (sym (ap (λ n. peer_if n (verb_of J p)) (gone_of J p none)) ∙ is)
