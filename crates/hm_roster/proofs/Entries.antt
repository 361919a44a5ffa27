-- What steps, undos, submissions and servers that go down leave to do on a desk.
use Rattle.std.proofs.Common.{◌≡◌, ◌≢◌, ℕ, ◌+◌, ◌<◌, ◌≤◌, List, ◌∷◌, Some, None, Bool, true, false, ◌==◌, ◌||◌, refl, inl, inr, ap, sym, ◌∙◌, subst, arith}
use Rattle.std.proofs.lemmas.Bool.{or_cases, or_left, or_right}
use Rattle.std.proofs.lemmas.Option.{none-some}
use Rattle.hm_names.specs.Server.{Server}
use Rattle.hm_names.specs.declared.nonce.Nonce.{Nonce}
use Rattle.hm_names.specs.declared.pid.Pid.{Pid}
use Rattle.hm_data.specs.declared.entry.Entry.TheVariants as entry_is
use Rattle.hm_data.specs.declared.request.Request.{Request}
use Rattle.hm_data.specs.declared.step.StepOut.{StepOut}
use Rattle.hm_model.specs.Journal.{Past}
use Rattle.hm_model.specs.Locks.{IsIn}
use Rattle.hm_model.specs.Phase.{is_parent}
use Rattle.hm_model.specs.Rest.{MayStep}
use Rattle.hm_model.specs.Rules.{IsLatest, IsLegal}
use Rattle.hm_model.specs.Tree.{Node, made, node_of, root_of}
use Rattle.hm_model.proofs.Forest.{forest_all, top_is_own}
use Rattle.hm_model.proofs.Grown.{down_new, nodes_stay, submit_new}
use Rattle.hm_tied.specs.Entries.{Enlists, alters, is_new, root_debts, touched, undo_debts}
use Rattle.hm_tied.specs.Tied.{IsTied, IsTiedBut}
use Rattle.hm_tied.specs.Uses.{AreAmong}
use Rattle.hm_model.proofs.Running.{undo_facts}
use Rattle.hm_model.proofs.Small.{top_is}
use Rattle.hm_model.specs.Claims.{Unclaims}
use Rattle.hm_tied.proofs.Others.{down_owes, submit_owes}
use Rattle.hm_tied.proofs.Stepping.{step_owes}
use Rattle.hm_tied.proofs.Undoing.{undo_owes}
use Rattle.hm_tied.proofs.Uses.{debts_rise}
use Rattle.hm_roster.specs.Behind.{IsRooted, IsUndoOf, entry_debts}
use Rattle.hm_roster.specs.Roster.{Follows, IsEnlistedFor, IsSameBut, IsStepOf, Owes, claims_on, lists_on, number_on, roster_of, roster_with, rows_on, paid_from}
use Rattle.hm_roster.specs.declared.desk.Desk.{Desk}
use Rattle.hm_roster.proofs.Desks.{below_still}
use Rattle.hm_roster.proofs.Following.{new_paid}

-- a step, whose procedure's claim has ended
pub step_enters : (J : Past) → IsLegal J → (pid : Pid) (low : ℕ) (late : Bool) (desk : Desk) (claimed : List ℕ) (step : IsStepOf J pid low late desk) → Unclaims pid.0 (claims_on desk) claimed
    → (let behind = step.behind in
    (node : Node) × (node_of J pid.0 ≡ Some node) × IsTiedBut J (number_on desk) (record { claimed = claimed; lists = lists_on desk; rows = rows_on desk }) (entry_debts behind.before pid.0 node late))
step_enters J legal pid low late desk claimed step fewer =
    let behind = step.behind in
    let before = behind.before in
    let entry = entry_is.Step pid step.pick step.out in
    let now : IsLegal (entry ∷ before) = subst IsLegal behind.is legal in
    let may : MayStep before pid.0 = now.1.1.0 in
    let enlists = subst (λ K. Enlists before K behind.rows (rows_on desk)) behind.is behind.enlists in
    let owes = step_owes pid step.pick step.out before (number_on desk) (roster_with desk behind.rows) claimed (rows_on desk) may.0 now behind.tied step.mine may.1 fewer enlists in (
      may.0,
      ap (λ K. node_of K pid.0) behind.is ∙ nodes_stay entry before now pid.0 may.0 may.1,
      subst (λ K. IsTiedBut K (number_on desk) (record { claimed = claimed; lists = lists_on desk; rows = rows_on desk }) (entry_debts before pid.0 may.0 late)) (sym behind.is)
          (subst (λ b. IsTiedBut (entry ∷ before) (number_on desk) (record { claimed = claimed; lists = lists_on desk; rows = rows_on desk }) (entry_debts before pid.0 may.0 b)) (sym step.changes) owes),
    )

-- a test or itself
twice : (b : Bool) → (b || b) ≡ b
twice true = refl
twice false = refl

-- what an undo leaves to do is among what an entry does that goes on with its root
among_entry : (before : Past) (root : ℕ) (node : Node) (out : StepOut) → node.root ≡ root → AreAmong (undo_debts before root out) (entry_debts before root node (alters out))
among_entry before root node out own = record {
  owed = λ q e. elim (or_cases (is_new before q) (q == root) e) [
    | inl new ↦ or_left (is_new before q) (touched root node q) new
    | inr here ↦ or_right (is_new before q) (touched root node q) (or_left (q == root) (is_parent q node.above || (q == node.root)) here)
  ];
  slack = λ q e. or_left (q == root) (is_parent q node.above || (q == node.root)) e;
  over = λ q. sym (ap (λ r. (q == root) || (q == r)) own ∙ twice (q == root));
  late = λ e. e;
}

-- an undo, whose root's claim has ended
pub undo_enters : (J : Past) → IsLegal J → (root : Pid) (low : ℕ) (late : Bool) (desk : Desk) (claimed : List ℕ) (undo : IsUndoOf J root low late desk) → Unclaims root.0 (claims_on desk) claimed
    → (let behind = undo.behind in
    (node : Node) × (node_of J root.0 ≡ Some node) × IsTiedBut J (number_on desk) (record { claimed = claimed; lists = lists_on desk; rows = rows_on desk }) (entry_debts behind.before root.0 node late))
undo_enters J legal root low late desk claimed undo fewer =
    let behind = undo.behind in
    let before = behind.before in
    let pid = undo.pid in
    let top = root_of before pid.0 in
    let entry = entry_is.Undo pid undo.row undo.out in
    let now : IsLegal (entry ∷ before) = subst IsLegal behind.is legal in
    let latest : IsLatest before pid.0 undo.row = now.1.1.0 in
    let enlists = subst (λ K. Enlists before K behind.rows (rows_on desk)) behind.is behind.enlists in
    let mine = subst (λ p. IsIn p (claims_on desk)) undo.roots undo.mine in
    let less = subst (λ p. Unclaims p (claims_on desk) claimed) undo.roots fewer in
    let owes = undo_owes pid undo.row undo.out before (number_on desk) (roster_with desk behind.rows) claimed (rows_on desk) now behind.tied mine less enlists in
    let own = top_is_own before (forest_all before now.0) top latest.0 latest.1 (top_is ((latest.0).above) (undo_facts before top latest.0 latest.2).0) in
    let more = debts_rise (entry ∷ before) (number_on desk) (record { claimed = claimed; lists = lists_on desk; rows = rows_on desk }) (undo_debts before top undo.out) (entry_debts before top latest.0 (alters undo.out)) owes (among_entry before top latest.0 undo.out own) in (
      latest.0,
      ap (node_of J) undo.roots ∙ ap (λ K. node_of K top) behind.is ∙ nodes_stay entry before now top latest.0 latest.1,
      subst (λ K. IsTiedBut K (number_on desk) (record { claimed = claimed; lists = lists_on desk; rows = rows_on desk }) (entry_debts before root.0 latest.0 late)) (sym behind.is)
          (subst (λ p. IsTiedBut (entry ∷ before) (number_on desk) (record { claimed = claimed; lists = lists_on desk; rows = rows_on desk }) (entry_debts before p latest.0 late)) (sym undo.roots)
          (subst (λ b. IsTiedBut (entry ∷ before) (number_on desk) (record { claimed = claimed; lists = lists_on desk; rows = rows_on desk }) (entry_debts before top latest.0 b)) (sym undo.changes) more)),
    )

-- a submission
pub submit_roots : (J : Past) → IsLegal J → (nonce : Nonce) (request : Request) (desk : Desk) → IsEnlistedFor J (entry_is.Submit nonce request) desk → IsRooted J false desk
submit_roots J legal nonce request desk behind =
    let before = behind.before in
    let entry = entry_is.Submit nonce request in
    let enlists = subst (λ K. Enlists before K behind.rows (rows_on desk)) behind.is behind.enlists in
    let owes = submit_owes nonce request before (number_on desk) (roster_with desk behind.rows) (rows_on desk) (subst IsLegal behind.is legal) behind.tied enlists in
    record {
      before = before;
      entry = entry;
      is = behind.is;
      more = ap made behind.is;
      there = subst (λ K. node_of K (made K) ≢ None) (sym behind.is) (λ none. none-some _ (sym none ∙ submit_new nonce request before (made before + 1) refl));
      owes = subst (λ K. IsTiedBut K (number_on desk) (roster_of desk) (root_debts before false)) (sym behind.is) owes;
      room = behind.room;
      below = behind.below;
    }

-- a server that went down
pub down_roots : (J : Past) → IsLegal J → (server : Server) (desk : Desk) → IsEnlistedFor J (entry_is.Down server) desk → IsRooted J true desk
down_roots J legal server desk behind =
    let before = behind.before in
    let entry = entry_is.Down server in
    let enlists = subst (λ K. Enlists before K behind.rows (rows_on desk)) behind.is behind.enlists in
    let owes = down_owes server before (number_on desk) (roster_with desk behind.rows) (rows_on desk) (subst IsLegal behind.is legal) behind.tied enlists in
    record {
      before = before;
      entry = entry;
      is = behind.is;
      more = ap made behind.is;
      there = subst (λ K. node_of K (made K) ≢ None) (sym behind.is) (λ none. none-some _ (sym none ∙ down_new server before (made before + 1) refl));
      owes = subst (λ K. IsTiedBut K (number_on desk) (roster_of desk) (root_debts before true)) (sym behind.is) owes;
      room = behind.room;
      below = behind.below;
    }

-- the root that was made last is there
pub last_there : (J : Past) (late : Bool) (desk : Desk) (rooted : IsRooted J late desk) (last q : ℕ) → last ≡ made J → last ≤ q → q < last + 1 → node_of J q ≢ None
last_there J late desk rooted last q is ge lt none = rooted.there (ap (node_of J) (let same : made J ≡ q = omega (arith, is, ge, lt) in same) ∙ none)

-- after an entry that made a root, once that was looked at, it follows
pub root_follows : (J : Past) → IsLegal J → (late : Bool) (desk new : Desk) (rooted : IsRooted J late desk) (last : ℕ) → last ≡ made J → IsSameBut desk new
    → (let debts = paid_from (root_debts rooted.before late) last (last + 1) in Owes J new (record debts { late = false })) → Follows J new
root_follows J legal late desk new rooted last is same owes =
    let before = rooted.before in
    let entry = rooted.entry in
    let start = root_debts before false in
    let more = rooted.more in
    let grew = ap made rooted.is in
    let owing = subst (λ K. IsTiedBut K (number_on new) (roster_of new) (paid_from start last (last + 1))) rooted.is owes in
    record {
      tied = subst (λ K. IsTied K (number_on new) (roster_of new)) (sym rooted.is)
          (new_paid before entry (subst IsLegal rooted.is legal) (number_on new) (roster_of new) start last (last + 1) (is ∙ more) (ap (λ k. k + 1) (is ∙ grew)) refl owing);
      room = subst (λ (k : ℕ). made J < k) (sym same.pids) rooted.room;
      below = below_still desk new same rooted.below;
    }
