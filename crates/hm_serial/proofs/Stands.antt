-- Where the trees of a legal journal stand: each row that a root guards is as its kind says, or a child will make it so.
use Rattle.std.proofs.Common.{◌≡◌, ◌≢◌, ℕ, List, [], ◌∷◌, ◌&&◌, true, false, Some, None, ap, sym, ◌∙◌, subst, inl, inr, ◌⊎◌}
use Rattle.std.proofs.lemmas.Bool.{cases_Bool, cases_eq, true≢false}
use Rattle.std.proofs.lemmas.Option.{same_Some}
use Rattle.hm_data.specs.declared.catalog.CatKey.{CatKey}
use Rattle.hm_data.specs.declared.catalog.Edit.{Edit}
use Rattle.hm_data.specs.declared.entry.Entry.{Entry}
use Rattle.hm_data.specs.declared.sheet.Sheet.{Sheet}
use Rattle.hm_model.specs.Answers.{done_with, is_stopped, last_answer, row_after, row_of}
use Rattle.hm_model.specs.Apart.{IsSameTree, tree_of}
use Rattle.hm_model.specs.Catalog.{Catalog, cat, edited, keys_of, was}
use Rattle.hm_model.specs.Journal.{Past}
use Rattle.hm_model.specs.Kinds.{first_row_of, kind_of}
use Rattle.hm_model.specs.Lists.{Line, exact_rows}
use Rattle.hm_model.specs.Locks.{IsIn}
use Rattle.hm_model.specs.Reads.{covers, guards}
use Rattle.hm_model.specs.Phase.{all_stopped, cause, rolled_back, root_ended, root_over}
use Rattle.hm_model.specs.Rules.{IsLegal}
use Rattle.hm_model.specs.Serial.{serial}
use Rattle.hm_model.specs.Sheets.{sheet_for, sheets_by}
use Rattle.hm_model.specs.Tree.{Node, node_of}
use Rattle.hm_model.specs.Undo.{is_empty, stack}
use Rattle.hm_model.proofs.Apart.{others_stay}
use Rattle.hm_model.proofs.Grown.{nodes_stay}
use Rattle.hm_model.proofs.Trees.{Grown, sheets_stay}
use Rattle.hm_model.proofs.ValidSheets.{Leads}
use Rattle.hm_kinds.proofs.Exact.{IsExactKind, IsSettled}
use Rattle.hm_kinds.proofs.Roots.{Stage}
use Rattle.hm_kinds.proofs.Shares.{touches, value}
use Rattle.hm_model.proofs.Tops.{TopHolds, TopIs}

-- an unfinished descendant will change the row
abbrev pub Pending : Past → ℕ → CatKey → Type 0
Pending J r key =
    (q : ℕ) × (x : Node) × (node_of J q ≡ Some x) × (x.root ≡ r) × (x.above ≢ []) × (is_stopped (last_answer J q) ≡ false) × (touches x.args key ≡ true)

-- the rows lead through these lines from where the root is
abbrev pub LedBy : Past → ℕ → Node → List Line → Type 0
LedBy J r node lines = (sheet : Sheet) → sheet_for (sheets_by J node.root) (kind_of node.args) ≡ Some sheet → Leads sheet.rows (row_of J r node) lines

-- a root that lists its rows: the lines that are left, and its stage
pub record IsListed (J : Past) (r : ℕ) (node : Node) (base : Catalog) (then : List Edit) : Type 0 where
  pub exact : exact_rows (kind_of node.args) ≡ []
  pub lines : List Line
  pub leads : LedBy J r node lines
  pub stage : Stage node.args base lines then

-- or one that edits nothing
abbrev pub Where : Past → ℕ → Node → Catalog → List Edit → Type 0
Where J r node base then = IsListed J r node base then ⊎ (IsExactKind node.args × (then ≡ []) × IsSettled node.args base)

-- where a root stands that hasn't failed: what its tree did, or will have done when its children have ended
pub record At (J : Past) (r : ℕ) (node : Node) : Type 0 where
  pub then : List Edit
  pub stands : Where J r node (was J r) then
  pub now : (key : CatKey) → guards node.args key ≡ true → (cat J key ≡ edited then key (was J r key)) ⊎ Pending J r key
  pub owed : (q : ℕ) (x : Node) → node_of J q ≡ Some x → x.root ≡ r → x.above ≢ [] → is_stopped (last_answer J q) ≡ false → (key : CatKey) → touches x.args key ≡ true → edited then key (was J r key) ≡ value x.args key

-- what holds of a root that has a step and hasn't ended
pub record Tree (J : Past) (r : ℕ) (node : Node) : Type 0 where
  pub stage : cause J r ≡ None → is_stopped (last_answer J r) ≡ false → At J r node
  pub base : (key : CatKey) → guards node.args key ≡ true → serial J key ≡ was J r key
  pub based : (key : CatKey) → was J r key ≢ None → IsIn key (keys_of J)

pub record Stands (J : Past) : Type 0 where
  pub tree : (r : ℕ) (node : Node) → TopHolds J r node → Tree J r node
  pub settled : (key : CatKey) → ((r : ℕ) (node : Node) → TopHolds J r node → covers node.args key ≡ false) → cat J key ≡ serial J key

-- a tree of which the same is told
module _ (J J' : Past) (s : ℕ) (node : Node) (last_is : last_answer J' s ≡ last_answer J s) (cause_is : cause J' s ≡ cause J s) (was_is : was J' s ≡ was J s) (sheets : sheets_by J' node.root ≡ sheets_by J node.root)
    (keys : (key : CatKey) → IsIn key (keys_of J) → IsIn key (keys_of J')) (cats : (key : CatKey) → guards node.args key ≡ true → cat J' key ≡ cat J key) (serials : (key : CatKey) → guards node.args key ≡ true → serial J' key ≡ serial J key)
    (members : (q : ℕ) (x : Node) → node_of J' q ≡ Some x → x.root ≡ s → (node_of J q ≡ Some x) × (last_answer J' q ≡ last_answer J q))
    (stay : (q : ℕ) (x : Node) → node_of J q ≡ Some x → x.root ≡ s → (node_of J' q ≡ Some x) × (last_answer J' q ≡ last_answer J q)) (tree : Tree J s node) where
  was_key : (key : CatKey) → was J' s key ≡ was J s key
  was_key key = ap (λ (c : Catalog). c key) was_is

  pending_on : (key : CatKey) → Pending J s key → Pending J' s key
  pending_on key p = let on = stay p.0 p.1 p.2 p.3 in (p.0, p.1, on.0, p.3, p.4, ap is_stopped on.1 ∙ p.5, p.6)

  where_on : (then : List Edit) → Where J s node (was J s) then → Where J' s node (was J' s) then
  where_on then (inl listed) = inl (record {
    exact = listed.exact;
    lines = listed.lines;
    leads = λ sheet found. subst (λ o. Leads sheet.rows (row_after (first_row_of node.args) o) listed.lines) (sym last_is) (listed.leads sheet (ap (λ l. sheet_for l (kind_of node.args)) (sym sheets) ∙ found));
    stage = subst (λ b. Stage node.args b listed.lines then) (sym was_is) listed.stage;
  })
  where_on then (inr exact) = inr (exact.0, exact.1, subst (IsSettled node.args) (sym was_is) exact.2)

  at_on : At J s node → At J' s node
  at_on at = record {
    then = at.then;
    stands = where_on at.then at.stands;
    now = λ key g. elim (at.now key g) [ inl is ↦ inl (cats key g ∙ is ∙ ap (edited at.then key) (sym (was_key key))) | inr p ↦ inr (pending_on key p) ];
    owed = λ q x is of some runs key on. let m = members q x is of in ap (edited at.then key) (was_key key) ∙ at.owed q x m.0 of some (ap is_stopped (sym m.1) ∙ runs) key on;
  }

  pub tree_like : Tree J' s node
  tree_like = record {
    stage = λ none running. at_on (tree.stage (sym cause_is ∙ none) (ap is_stopped (sym last_is) ∙ running));
    base = λ key g. serials key g ∙ tree.base key g ∙ sym (was_key key);
    based = λ key some. keys key (tree.based key (λ e. some (was_key key ∙ e)));
  }

-- a tree that an entry leaves alone
module _ (J J' : Past) (s : ℕ) (node : Node) (top : TopIs J s node) (own : node.root ≡ s) (same : IsSameTree J J' s) (stays : (q : ℕ) (x : Node) → node_of J q ≡ Some x → node_of J' q ≡ Some x) where
  last_same : last_answer J' s ≡ last_answer J s
  last_same = (same.same s node top.0 own).last

  pub ended_same : root_ended J' s ≡ root_ended J s
  ended_same =
      ap (λ c. root_over c (rolled_back J' s) (done_with (last_answer J' s))) same.cause_is
      ∙ ap (λ b. root_over (cause J s) (b && is_empty (stack J' s)) (done_with (last_answer J' s))) same.stopped
      ∙ ap (λ l. root_over (cause J s) (all_stopped J s && is_empty l) (done_with (last_answer J' s))) same.stack_is
      ∙ ap (λ o. root_over (cause J s) (rolled_back J s) (done_with o)) last_same

  pub holds_before : TopHolds J' s node → TopHolds J s node
  holds_before h = (top, (λ e. h.1 (last_same ∙ e)), sym ended_same ∙ h.2)

  pub holds_behind : TopHolds J s node → TopHolds J' s node
  holds_behind h = ((stays s node top.0, top.1), (λ e. h.1 (sym last_same ∙ e)), ended_same ∙ h.2)

  pub tree_on : sheets_by J' node.root ≡ sheets_by J node.root → ((key : CatKey) → IsIn key (keys_of J) → IsIn key (keys_of J')) → ((key : CatKey) → guards node.args key ≡ true → cat J' key ≡ cat J key) → ((key : CatKey) → guards node.args key ≡ true → serial J' key ≡ serial J key) → Tree J s node → Tree J' s node
  tree_on sheets keys cats serials tree = tree_like J J' s node last_same same.cause_is same.was_is sheets keys cats serials
      (λ q x is of. let there = same.members q x is of in (there, (same.same q x there of).last))
      (λ q x is of. (stays q x is, (same.same q x is of).last)) tree

-- an entry of the tree of R
module _ (entry : Entry) (J : Past) (legal : IsLegal (entry ∷ J)) (grown : Grown J) (stands : Stands J) (R : ℕ) (top : Node) (top_is : TopIs J R top) (of : tree_of J entry ≡ R)
    (keys : (key : CatKey) → IsIn key (keys_of J) → IsIn key (keys_of (entry ∷ J)))
    (cats : (key : CatKey) → covers top.args key ≡ false → cat (entry ∷ J) key ≡ cat J key)
    (serials : (key : CatKey) → covers top.args key ≡ false → serial (entry ∷ J) key ≡ serial J key)
    (apart : (s : ℕ) (x : Node) → TopHolds J s x → s ≢ R → (key : CatKey) → guards x.args key ≡ true → covers top.args key ≡ false)
    (begun : last_answer (entry ∷ J) R ≢ None)
    (old : (s : ℕ) (x : Node) → TopHolds (entry ∷ J) s x → TopIs J s x)
    (here : root_ended (entry ∷ J) R ≡ false → Tree (entry ∷ J) R top)
    (over : root_ended (entry ∷ J) R ≡ true → (key : CatKey) → covers top.args key ≡ true → cat (entry ∷ J) key ≡ serial (entry ∷ J) key) where
  stays : (q : ℕ) (x : Node) → node_of J q ≡ Some x → node_of (entry ∷ J) q ≡ Some x
  stays = nodes_stay entry J legal

  same_of : (s : ℕ) (x : Node) → TopIs J s x → s ≢ R → IsSameTree J (entry ∷ J) s
  same_of s x top differs = others_stay entry J legal s x top.0 top.1 (λ e. differs (e ∙ of))

  pub trees_on : (r : ℕ) (node : Node) → TopHolds (entry ∷ J) r node → Tree (entry ∷ J) r node
  trees_on r node h = elim (cases_eq r R) [
    | inl mine ↦
        let one : top ≡ node = same_Some top node (sym (stays R top top_is.0) ∙ ap (node_of (entry ∷ J)) (sym mine) ∙ h.0.0) in
        subst (λ k. Tree (entry ∷ J) k node) (sym mine) (subst (Tree (entry ∷ J) R) one (here (ap (root_ended (entry ∷ J)) (sym mine) ∙ h.2)))
    | inr differs ↦
        let is = old r node h in
        let own = grown.tops r node is.0 is.1 in
        let same = same_of r node is differs in
        let before = holds_before J (entry ∷ J) r node is own same stays h in
        tree_on J (entry ∷ J) r node is own same stays (sheets_stay entry J legal r node is.0) keys (λ key g. cats key (apart r node before differs key g)) (λ key g. serials key (apart r node before differs key g)) (stands.tree r node before)
  ]

  pub settled_on : (key : CatKey) → ((r : ℕ) (node : Node) → TopHolds (entry ∷ J) r node → covers node.args key ≡ false) → cat (entry ∷ J) key ≡ serial (entry ∷ J) key
  settled_on key free = elim (cases_Bool (covers top.args key)) [
    | inl on ↦ elim (cases_Bool (root_ended (entry ∷ J) R)) [
      | inl ended ↦ over ended key on
      | inr running ↦ absurd (true≢false (sym on ∙ free R top ((stays R top top_is.0, top_is.1), begun, running)))
    ]
    | inr off ↦ cats key off ∙ stands.settled key (λ r node h. elim (cases_eq r R) [
      | inl mine ↦ let one : top ≡ node = same_Some top node (sym top_is.0 ∙ ap (node_of J) (sym mine) ∙ h.0.0) in ap (λ (n : Node). covers n.args key) (sym one) ∙ off
      | inr differs ↦ free r node (holds_behind J (entry ∷ J) r node h.0 (grown.tops r node h.0.0 h.0.1) (same_of r node h.0 differs) stays h)
    ]) ∙ sym (serials key off)
  ]
