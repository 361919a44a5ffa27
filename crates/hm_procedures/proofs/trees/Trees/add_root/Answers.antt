use Rattle.std.proofs.Common.{◌≡◌, ℕ, ◌+◌, [], ◌∷◌, ◌++◌, None, length, ap, sym, ◌∙◌, arith}
use Rattle.std.proofs.lemmas.List.{length-map, map-append}
use Rattle.hm_names.specs.declared.pid.Pid.{Pid}
use Rattle.hm_procedures.proofs.Members.{linked_root}
use Rattle.hm_procedures.proofs.Tops.{tops_root}
use Rattle.hm_procedures.specs.Trees.{roots_of, tops_from}
use Rattle.hm_procedures.proofs.trees.Trees.add_root.Goals as goal

pub invariant_of-self : goal.invariant_of-self
invariant_of-self c =
    let f = c.self.inside.members in
    let from : ℕ = c.self.inside.from in
    let own : Pid = record { 0 = from + c.len.result + 1 } in
    let ok = f.ok.0 in
    let l = c.len.ensures in
    let count : own.0 ≡ from + length f.items + 1 = omega (arith, l, ok) in
    let long : length (roots_of f.items) ≡ length f.items = length-map f.items (λ member. member.root) in
    let own_is : own.0 ≡ from + length (roots_of f.items) + 1 = omega (arith, count, long) in
    let grown : roots_of (f.items ++ record { root = own; next = None; last = own } ∷ []) ≡ roots_of f.items ++ own ∷ [] = map-append (λ member. member.root) f.items _ in (
      rw c.push_reserved.ensures.items (linked_root from f.items own count c.self.invariant.0),
      c.push_reserved-2.ensures.items ∙ ap (λ t. t ++ own ∷ []) c.self.invariant.1 ∙ sym (ap (λ ms. tops_from (from + 1) (roots_of ms)) c.push_reserved.ensures.items ∙ ap (tops_from (from + 1)) grown ∙ tops_root from (roots_of f.items) own own_is),
      c.self.invariant.2,
    )
