-- What the calls after an entry need, where it went on with one procedure.
use Rattle.std.proofs.Common.{◌≡◌, ◌≢◌, ℕ, ◌+◌, ◌<◌, ◌≤◌, List, [], ◌∷◌, Option, Some, None, Bool, false, ◌==◌, refl, ap, sym, ◌∙◌, subst, arith}
use Rattle.std.specs.Option.{option_map}
use Rattle.std.specs.Prelude.{IfSome}
use Rattle.std.proofs.lemmas.Bool.{eq-eqb, or_left, or_right}
use Rattle.std.proofs.lemmas.Option.{none-some, same_Some}
use Rattle.hm_names.specs.declared.pid.Pid.{Pid}
use Rattle.hm_data.specs.declared.record.Record.{Record}
use Rattle.hm_locks.specs.Book.{IsEnlisted}
use Rattle.hm_model.specs.Forest.{Stands}
use Rattle.hm_model.specs.Journal.{Past}
use Rattle.hm_model.specs.Laws.{is_part}
use Rattle.hm_model.specs.Procedures.{offset}
use Rattle.hm_model.specs.Records.{record_of}
use Rattle.hm_model.specs.Rules.{IsLegal}
use Rattle.hm_model.specs.Tree.{Node, made, node_of, parent_in, pid_of}
use Rattle.hm_model.proofs.Forest.{forest_all, rooted_all}
use Rattle.hm_model.proofs.Grown.{grown_all, made_up_to}
use Rattle.hm_model.proofs.Trees.{some_of}
use Rattle.hm_judge.proofs.Found.{shown_of}
use Rattle.hm_sched.specs.Moves.{pid_in}
use Rattle.hm_tied.specs.Tied.{Debts, IsTied, IsTiedBut}
use Rattle.hm_roster.specs.Behind.{IsEntered, entry_debts}
use Rattle.hm_roster.specs.Roster.{Follows, HasLists, IsSameBut, Owes, number_on, pids_on, roster_of, rows_on, paid, paid_if}
use Rattle.hm_roster.specs.declared.desk.Desk.{Desk}
use Rattle.hm_roster.proofs.Desks.{below_still}
use Rattle.hm_roster.proofs.Numbers.{made_rises, no_part, offset_stays}
use Rattle.hm_roster.proofs.Stepped.{chain, chained}

-- what the calls need of a desk: whoever is looked at is there and has room
pub record Needs (J : Past) (p low high : ℕ) (parent : Option Pid) (root : ℕ) (desk : Desk) : Type 0 where
  pub there : node_of J p ≢ None
  pub known : p < pids_on desk
  pub parent_there : IfSome parent (λ up. node_of J up.0 ≢ None)
  pub parent_known : IfSome parent (λ up. up.0 < pids_on desk)
  pub root_there : node_of J root ≢ None
  pub root_known : root < pids_on desk
  pub new_order : low ≤ high
  pub new_known : high ≤ pids_on desk
  pub new_there : (q : ℕ) → low ≤ q → q < high → node_of J q ≢ None
  pub below : HasLists desk

-- a call that leaves room and numbers leaves that
pub needs_still : (J : Past) (p low high : ℕ) (parent : Option Pid) (root : ℕ) (desk new : Desk) → Needs J p low high parent root desk → IsSameBut desk new → Needs J p low high parent root new
needs_still J p low high parent root desk new needs same = record {
  there = needs.there;
  known = subst (λ (k : ℕ). p < k) (sym same.pids) needs.known;
  parent_there = needs.parent_there;
  parent_known = subst (λ (k : ℕ). IfSome parent (λ up. up.0 < k)) (sym same.pids) needs.parent_known;
  root_there = needs.root_there;
  root_known = subst (λ (k : ℕ). root < k) (sym same.pids) needs.root_known;
  new_order = needs.new_order;
  new_known = subst (λ (k : ℕ). high ≤ k) (sym same.pids) needs.new_known;
  new_there = needs.new_there;
  below = below_still desk new same needs.below;
}

module _ (J : Past) (legal : IsLegal J) (p low : ℕ) (late : Bool) (desk : Desk) (entered : IsEntered J p low late desk) where
  -- the journal is legal as it grew
  legal_now : IsLegal (entered.entry ∷ entered.before)
  legal_now = subst IsLegal entered.is legal

  -- the entry is no part of a base
  off : is_part entered.entry ≡ false
  off = no_part entered.entry entered.before p entered.node (sym (ap (λ K. node_of K p) entered.is) ∙ entered.there)

  -- those that it made have numbers behind the base
  behind_base : (q : ℕ) → low ≤ q → offset J < q
  behind_base q ge =
      let few = (grown_all entered.before legal_now.0).low in
      let same : offset J ≡ offset entered.before = ap offset entered.is ∙ offset_stays entered.entry entered.before off in
      let first = entered.first in
      omega (arith, ge, few, same, first)

  -- who is there has room
  known_there : (q : ℕ) → node_of J q ≢ None → q < pids_on desk
  known_there q there =
      let x = some_of (node_of J q) there in
      let le = (made_up_to J (grown_all J legal) q x.0 x.1).1 in
      let room = entered.room in
      omega (arith, le, room)

  -- it is there
  own_there : node_of J p ≢ None
  own_there none = none-some entered.node (sym none ∙ entered.there)

  -- so is its root
  top_there : (root : ℕ) → root ≡ entered.node.root → node_of J root ≢ None
  top_there root top none = let r = rooted_all J legal p entered.node entered.there in none-some r.root (sym none ∙ ap (node_of J) top ∙ r.there)

  -- and its parent
  up_there : (q : ℕ) → parent_in entered.node.above ≡ Some q → node_of J q ≢ None
  up_there q e = by entered.node.above refl e
    where
      by : (above : List ℕ) → entered.node.above ≡ above → parent_in above ≡ Some q → node_of J q ≢ None
      by [] is some none = none-some q some
      by (up ∷ above) is some none =
          let s = subst (λ l. Stands J p l entered.node.root) is ((forest_all J legal).stands p entered.node entered.there) in
          none-some s.0 (sym none ∙ ap (node_of J) (sym (same_Some up q some)) ∙ s.1)

  -- it and its root are enlisted still
  pub own_enlisted : IsEnlisted (rows_on desk) p
  own_enlisted = entered.owes.book.left p (or_left (p == p) (p == entered.node.root) (eq-eqb p p refl))

  pub root_enlisted : (root : ℕ) → root ≡ entered.node.root → IsEnlisted (rows_on desk) root
  root_enlisted root top = entered.owes.book.left root (or_right (root == p) (root == entered.node.root) (eq-eqb root entered.node.root top))

  -- a parent that may be there is there, and has room
  parent_is : (parent : Option Pid) → pid_in parent ≡ parent_in entered.node.above → IfSome parent (λ up. node_of J up.0 ≢ None) × IfSome parent (λ up. up.0 < pids_on desk)
  parent_is None e = (tt, tt)
  parent_is (Some up) e = let there = up_there up.0 (sym e) in (there, known_there up.0 there)

  -- what the calls need of the desk
  pub needs : (high : ℕ) (parent : Option Pid) (root : ℕ) → pid_in parent ≡ parent_in entered.node.above → root ≡ entered.node.root → high ≡ made J + 1 → Needs J p low high parent root desk
  needs high parent root up top to =
      let first = entered.first in
      let room = entered.room in
      let rises = made_rises entered.entry entered.before off in
      let same = ap made entered.is in
      record {
        there = own_there;
        known = known_there p own_there;
        parent_there = (parent_is parent up).0;
        parent_known = (parent_is parent up).1;
        root_there = top_there root top;
        root_known = known_there root (top_there root top);
        new_order = omega (arith, first, rises, same, to);
        new_known = omega (arith, room, to);
        new_there = λ q ge lt none. let t = (grown_all J legal).there q (behind_base q ge) (omega (arith, to, lt)) in none-some t.0 (sym none ∙ t.1);
        below = entered.below;
      }

  -- after all calls it follows
  pub follows_now : (new : Desk) (parent : Option ℕ) (root high : ℕ) → parent ≡ parent_in entered.node.above → root ≡ entered.node.root → high ≡ made J + 1 → IsSameBut desk new
      → Owes J new (chain (entry_debts entered.before p entered.node late) p parent root low high) → Follows J new
  follows_now new parent root high up top to same owes =
      let left = chain (entry_debts entered.before p entered.node late) p parent root low high in
      let owing = subst (λ K. IsTiedBut K (number_on new) (roster_of new) left) entered.is owes in
      record {
        tied = subst (λ K. IsTied K (number_on new) (roster_of new)) (sym entered.is)
            (chained entered.entry entered.before legal_now p entered.node late parent up root top low high entered.first (to ∙ ap (λ K. made K + 1) entered.is) (number_on new) (roster_of new) owing);
        room = subst (λ (k : ℕ). made J < k) (sym same.pids) entered.room;
        below = below_still desk new same entered.below;
      }

-- who is looked at changes nothing of those that were set aside
pub late_still : (debts : Debts) (p : ℕ) (parent : Option ℕ) (root : ℕ) → (let left = paid (paid_if (paid debts p) parent) root in left.late) ≡ debts.late
late_still debts p None root = refl
late_still debts p (Some up) root = refl

-- the numbers of a parent that is shown
shown_parent : (o : Option ℕ) → pid_in (option_map pid_of o) ≡ o
shown_parent None = refl
shown_parent (Some p) = refl

-- what is shown of a procedure tells its parent and its root
pub kin_shown : (J : Past) (p : ℕ) (its : Record) → Some its ≡ record_of J p → (x : Node) → node_of J p ≡ Some x → (pid_in its.parent ≡ parent_in x.above) × (let root = its.root in root.0 ≡ x.root)
kin_shown J p its some x is =
    let same = shown_of J p its some x is in
    (ap (λ (r : Record). pid_in r.parent) same ∙ shown_parent (parent_in x.above), ap (λ (r : Record). (let root = r.root in root.0)) same)
