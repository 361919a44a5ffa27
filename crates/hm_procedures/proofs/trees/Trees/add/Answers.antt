use Rattle.std.proofs.Common.{◌≡◌, ℕ, ◌+◌, ◌-◌, ◌<◌, Some, ◌++◌, ◌∷◌, ◌==◌, [], None, length, ap, sym, ◌∙◌, subst, arith, slice_get, take, drop}
use Rattle.std.specs.Option.{option_map}
use Rattle.std.proofs.lemmas.Option.{slice_get_within}
use Rattle.hm_procedures.proofs.Enters.{same_length}
use Rattle.hm_procedures.proofs.Members.{linked_more, roots_new}
use Rattle.hm_procedures.proofs.Places.{written}
use Rattle.hm_procedures.proofs.Tops.{tops_other}
use Rattle.hm_procedures.specs.Trees.{AreLinked, IsLast, TreesView, lasted, nexted, roots_of, tops_from}
use Rattle.hm_names.specs.declared.pid.Pid.{Pid}
use Rattle.hm_procedures.proofs.trees.Trees.add.Goals as goal

pub invariant_of-self : goal.invariant_of-self
invariant_of-self c =
    let f = c.self.inside.members in
    let from : ℕ = c.self.inside.from in
    let own : Pid = record { 0 = from + c.len.result + 1 } in
    let last = c.last-last.result in
    let rooted : slice_get (roots_of f.items) (c.args.root.0 - from - 1) ≡ Some c.args.root = ap (λ (v : TreesView). slice_get v.roots (c.args.root.0 - v.from - 1)) c.self.view_is ∙ c.requires.root in
    let least : from < c.args.root.0 = subst (λ (v : TreesView). v.from < c.args.root.0) (sym c.self.view_is) c.requires.low in
    let last_is : IsLast from (roots_of f.items) c.args.root last = subst (λ (v : TreesView). IsLast v.from v.roots c.args.root last) (sym c.self.view_is) c.last-last.ensures in
    let ok = f.ok.0 in
    let count : own.0 ≡ from + length f.items + 1 = (let l = c.len.ensures in omega (arith, l, ok)) in
    let first : (i : ℕ) → slice_get c.set_next.new.members i ≡ option_map (nexted (last.0 == from + i + 1) own) (slice_get f.items i) = λ i. c.set_next.ensures i ∙ ap (λ l. option_map (nexted (last.0 == from + i + 1) own) (slice_get l i)) c.deref_mut.ensures.value in
    let long = same_length (λ i. nexted (last.0 == from + i + 1) own) c.set_next.new.members f.items first in
    let once = written f.items c.set_next.new.members f.len long (omega (arith, ok)) in
    let second : (i : ℕ) → slice_get c.set_last.new.members i ≡ option_map (lasted (c.args.root.0 == from + i + 1) own) (slice_get c.set_next.new.members i) = λ i. c.set_last.ensures i ∙ ap (λ l. option_map (lasted (c.args.root.0 == from + i + 1) own) (slice_get l i)) (c.deref_mut-2.ensures.value ∙ once) in
    let longer = same_length (λ i. lasted (c.args.root.0 == from + i + 1) own) c.set_last.new.members c.set_next.new.members second in
    let twice = ap (λ l. take f.len (c.set_last.new.members ++ drop (length c.set_last.new.members) l)) once ∙ written c.set_next.new.members c.set_last.new.members f.len longer (omega (arith, ok, long)) in
    let all = c.push_reserved.ensures.items ∙ ap (λ l. l ++ record { root = c.args.root; next = None; last = own } ∷ []) twice in
    let within = slice_get_within (roots_of f.items) (c.args.root.0 - from - 1) c.args.root rooted in (
      subst (AreLinked from) (sym all) (linked_more from f.items c.set_next.new.members c.set_last.new.members c.args.root own last c.self.invariant.0 least rooted last_is count first second),
      c.self.invariant.1 ∙ sym (ap (λ ms. tops_from (from + 1) (roots_of ms)) all ∙ ap (tops_from (from + 1)) (roots_new from f.items c.set_next.new.members c.set_last.new.members c.args.root own last c.self.invariant.0 least rooted last_is count first second) ∙ tops_other from (roots_of f.items) c.args.root (omega (arith, within, least))),
      c.self.invariant.2,
    )

pub returns-clause-roots : goal.returns-clause-roots
returns-clause-roots c =
    let f = c.self.inside.members in
    let from : ℕ = c.self.inside.from in
    let own : Pid = record { 0 = from + c.len.result + 1 } in
    let last = c.last-last.result in
    let rooted : slice_get (roots_of f.items) (c.args.root.0 - from - 1) ≡ Some c.args.root = ap (λ (v : TreesView). slice_get v.roots (c.args.root.0 - v.from - 1)) c.self.view_is ∙ c.requires.root in
    let least : from < c.args.root.0 = subst (λ (v : TreesView). v.from < c.args.root.0) (sym c.self.view_is) c.requires.low in
    let last_is : IsLast from (roots_of f.items) c.args.root last = subst (λ (v : TreesView). IsLast v.from v.roots c.args.root last) (sym c.self.view_is) c.last-last.ensures in
    let ok = f.ok.0 in
    let count : own.0 ≡ from + length f.items + 1 = (let l = c.len.ensures in omega (arith, l, ok)) in
    let first : (i : ℕ) → slice_get c.set_next.new.members i ≡ option_map (nexted (last.0 == from + i + 1) own) (slice_get f.items i) = λ i. c.set_next.ensures i ∙ ap (λ l. option_map (nexted (last.0 == from + i + 1) own) (slice_get l i)) c.deref_mut.ensures.value in
    let long = same_length (λ i. nexted (last.0 == from + i + 1) own) c.set_next.new.members f.items first in
    let once = written f.items c.set_next.new.members f.len long (omega (arith, ok)) in
    let second : (i : ℕ) → slice_get c.set_last.new.members i ≡ option_map (lasted (c.args.root.0 == from + i + 1) own) (slice_get c.set_next.new.members i) = λ i. c.set_last.ensures i ∙ ap (λ l. option_map (lasted (c.args.root.0 == from + i + 1) own) (slice_get l i)) (c.deref_mut-2.ensures.value ∙ once) in
    let longer = same_length (λ i. lasted (c.args.root.0 == from + i + 1) own) c.set_last.new.members c.set_next.new.members second in
    let twice = ap (λ l. take f.len (c.set_last.new.members ++ drop (length c.set_last.new.members) l)) once ∙ written c.set_next.new.members c.set_last.new.members f.len longer (omega (arith, ok, long)) in
    let all = c.push_reserved.ensures.items ∙ ap (λ l. l ++ record { root = c.args.root; next = None; last = own } ∷ []) twice in
    ap roots_of all ∙ roots_new from f.items c.set_next.new.members c.set_last.new.members c.args.root own last c.self.invariant.0 least rooted last_is count first second ∙ ap (λ (v : TreesView). v.roots ++ c.args.root ∷ []) c.self.view_is
