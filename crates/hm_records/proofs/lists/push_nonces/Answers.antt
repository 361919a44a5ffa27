use Rattle.std.proofs.Common.{◌≡◌, List, [], ◌∷◌, ◌++◌, refl, ap, sym, ◌∙◌, append-nil, arith}
use Rattle.std.proofs.lemmas.List.{append_assoc}
use Rattle.hm_names.specs.declared.nonce.Nonce.{Nonce}
use Rattle.hm_records.specs.Lists.{repeated}
use Rattle.hm_records.proofs.RootNonces.{repeated_more}
use Rattle.hm_records.proofs.lists.push_nonces.Goals as goal

pub loop-init : goal.loop-init
loop-init c = record { items = sym (simp append-nil); len = omega arith; room = refl }

pub push_reserved-requires : goal.push_reserved-requires
push_reserved-requires c =
    let was = c.loop.invariant in
    omega (arith, c.requires, was.len, was.room, c.loop-test.true)

pub loop-preserved : goal.loop-preserved
loop-preserved c =
    let was = c.loop.invariant in
    let old : List Nonce = c.args.nonces.now.items in
    let nonce : Nonce = c.args.nonce in
    record {
      items = c.push_reserved.ensures.items
          ∙ ap (λ (l : List Nonce). l ++ nonce ∷ []) was.items
          ∙ append_assoc old (repeated nonce c.loop.counter) (nonce ∷ [])
          ∙ ap (λ (l : List Nonce). old ++ l) (sym (repeated_more nonce c.loop.counter));
      len = omega (arith, c.push_reserved.ensures.len, was.len);
      room = c.push_reserved.ensures.capacity ∙ was.room;
    }

pub returns-clause-items : goal.returns-clause-items
returns-clause-items c =
    let last : c.loop.counter ≡ c.args.count = omega (arith, c.loop-test.false, c.loop.auto.counter-end) in
    c.loop.invariant.items ∙ ap (λ n. c.args.nonces.now.items ++ repeated c.args.nonce n) last

pub returns-clause-spare : goal.returns-clause-spare
returns-clause-spare c = omega (arith, c.loop.invariant.len, c.loop-test.false, c.loop.auto.counter-end)
