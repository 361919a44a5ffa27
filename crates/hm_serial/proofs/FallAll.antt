-- At every legal journal, what may still be undone leads back, and no two roots that hold clash.
use Rattle.std.proofs.Common.{◌≡◌, ◌≢◌, ℕ, ◌+◌, ◌-◌, ◌<◌, List, [], ◌∷◌, true, false, not, ◌&&◌, ◌==◌, map, nat_lt, Option, Some, None, is_some, option_map, refl, ap, sym, ◌∙◌, subst, inl, inr, slice_get}
use Rattle.std.proofs.lemmas.Bool.{and_parts, and_right, cases_eq, cond-false, cond-true, eq-eqb, false≢true, lt-ltb, ne_eqb}
use Rattle.std.proofs.lemmas.Option.{none-some, same_Some}
use Rattle.hm_names.specs.Server.{Server}
use Rattle.hm_names.specs.declared.nonce.Nonce.{Nonce}
use Rattle.hm_names.specs.declared.pid.Pid.{Pid}
use Rattle.hm_data.specs.declared.act.Back.{Back}
use Rattle.hm_data.specs.declared.act.Back.TheVariants as back_is
use Rattle.hm_data.specs.declared.answer.Cause.{Cause}
use Rattle.hm_data.specs.declared.args.Args.{Args}
use Rattle.hm_data.specs.declared.args.Args.TheVariants as args_are
use Rattle.hm_data.specs.declared.args.Child.TheVariants as child_is
use Rattle.hm_data.specs.declared.place.Goal.{Goal}
use Rattle.hm_data.specs.declared.place.Goal.TheVariants as goal_is
use Rattle.hm_data.specs.declared.catalog.CatKey.{CatKey}
use Rattle.hm_data.specs.declared.entry.Entry.{Entry}
use Rattle.hm_data.specs.declared.entry.Entry.TheVariants as entry_is
use Rattle.hm_data.specs.declared.request.Request.{Request}
use Rattle.hm_data.specs.declared.step.StepOut.{StepOut}
use Rattle.hm_model.specs.Answers.{done_with, last_answer}
use Rattle.hm_model.specs.Catalog.{Catalog, cat, edited, was}
use Rattle.hm_model.specs.Journal.{Past}
use Rattle.hm_model.specs.Reads.{covers}
use Rattle.hm_model.specs.Phase.{all_stopped, cause, root_ended, root_over, rolled_back}
use Rattle.hm_model.specs.Rules.{IsLegal}
use Rattle.hm_model.specs.Locks.{in_name_order}
use Rattle.hm_model.specs.Pieces.{Batch, batches}
use Rattle.hm_model.specs.Undoing.{closed_by, undo_edits, undo_followers}
use Rattle.hm_model.specs.Tree.{Node, args_in, is_top, made, node_of, root_node, root_of, submitted}
use Rattle.hm_model.specs.Undo.{is_empty, rest_of, stack}
use Rattle.hm_model.proofs.Trees.{Grown, IsRooted, does_of, down_rooted, grown_all, le_or_lt, new_child, node_same, old_or_new, sheets_stay, start_none, step_of, still, submit_rooted, undo_rooted}
use Rattle.hm_model.proofs.UndoMakes.{IsUndoOf, undo_of}
use Rattle.hm_kinds.proofs.LockForms.{IsRight}
use Rattle.hm_serial.proofs.Apart.{Apart, Aside, Asked, apart_back, apart_step, aside_from, begins_apart, step_apart}
use Rattle.hm_serial.proofs.Editing.{rows_table}
use Rattle.hm_serial.proofs.Kinship.{is_kid}
use Rattle.hm_serial.proofs.Fallen.{Falls, MayFall, Unwinds, may_on, falls_calm, falls_nothing, root_of_node}
use Rattle.hm_serial.proofs.FallStep.{falls_step, kid_of}
use Rattle.hm_serial.proofs.Frame.{AllWithin, cover_guards, unwound}
use Rattle.hm_kinds.proofs.Kids.{AllMade, made_at}
use Rattle.hm_serial.proofs.Local.{Within, within_others}
use Rattle.hm_model.proofs.Tops.{TopHolds, TopIs}
use Rattle.hm_model.proofs.Small.{cons_nil, top_is as none_above}
use Rattle.hm_serial.proofs.Standing.{holds_left, rooted_left}

-- an entry that makes roots
rooted_falls : (J J' : Past) (rooted : IsRooted J J') (grown : Grown J) → Falls J → ((p : ℕ) → cause J' p ≡ cause J p) → ((p : ℕ) → stack J p ≡ [] → stack J' p ≡ [])
    → ((p : ℕ) (x : Node) → made J < p → node_of J' p ≡ Some x → rows_table x.args ≡ None)
    → ((r : ℕ) (node : Node) → TopHolds J' r node → Unwinds J' r node × AllWithin node.args (stack J' r)) → Falls J'
rooted_falls J J' rooted grown falls causes stacks rows tree = falls_calm J J' grown falls
    (λ p x is. elim (old_or_new J J' rooted grown p x is) [ inl old ↦ inl old | inr new ↦ inr (grown.numbered p new.4, ap (λ (n : Node). n.above) new.2, rows p x new.4 is, new.3) ])
    (λ p x is. still J J' rooted grown p x is)
    (λ p none. elim (le_or_lt p (made J)) [ inl le ↦ sym (rooted.old p le) ∙ none | inr lt ↦ grown.numbered p lt ])
    rooted.last causes rooted.sheets stacks tree

old_holder : (J J' : Past) (rooted : IsRooted J J') (grown : Grown J) (r : ℕ) (node : Node) → TopHolds J' r node → TopIs J r node
old_holder J J' rooted grown r node h = elim (old_or_new J J' rooted grown r node h.0.0) [
  | inl old ↦ (old, h.0.1)
  | inr new ↦ absurd (h.1 new.3)
]

pub held_before : (J J' : Past) (rooted : IsRooted J J') (grown : Grown J) (r : ℕ) (node : Node) → cause J' r ≡ cause J r → stack J' r ≡ stack J r → was J' r ≡ was J r → TopHolds J' r node → TopHolds J r node
held_before J J' rooted grown r node causes stacks base h = holds_left J J' r node (rooted_left J J' rooted grown r node (old_holder J J' rooted grown r node h) causes stacks base) h

-- an undo's followers list no regions
transits_rows : (goal : Goal) (list : List Batch) → AllMade (λ args. rows_table args ≡ None) (map (λ batch. child_is.Transits batch.table batch.ids goal) list)
transits_rows goal [] = tt
transits_rows goal (batch ∷ more) = ((λ id. refl), transits_rows goal more)

followers_rows : (undo : Back) (args : Args) (root : Pid) → AllMade (λ own. rows_table own ≡ None) (undo_followers undo args root)
followers_rows back_is.Sweep args root = (refl, tt)
followers_rows back_is.Reopen args root = transits_rows goal_is.Assign (batches (in_name_order (closed_by args)))
followers_rows undo args root = tt

module _ (pid : Pid) (row : ℕ) (out : StepOut) (J : Past) (legal : IsLegal (entry_is.Undo pid row out ∷ J)) (grown : Grown J) (falls : Falls J) where
  abbrev J' : Past
  J' = entry_is.Undo pid row out ∷ J

  abbrev R : ℕ
  R = root_of J pid.0

  pub u : IsUndoOf J (root_of J pid.0) out
  u = undo_of pid row out J legal

  pub top : Node
  top = legal.1.1.0.0

  pub top_is : TopIs J (root_of J pid.0) top
  unfolding top
  top_is =
      let latest = legal.1.1.0 in
      let parts = and_parts (is_top latest.0.above) (is_some (cause J R) && (all_stopped J R && not (is_empty (stack J R)))) latest.2 in
      (latest.1, none_above latest.0.above parts.0)

  is_sick : is_some (cause J (root_of J pid.0)) ≡ true
  is_sick =
      let latest = legal.1.1.0 in
      let parts = and_parts (is_top latest.0.above) (is_some (cause J R) && (all_stopped J R && not (is_empty (stack J R)))) latest.2 in
      (and_parts (is_some (cause J R)) (all_stopped J R && not (is_empty (stack J R))) parts.1).0

  pub sick : cause J (root_of J pid.0) ≢ None
  sick none = false≢true (sym (ap is_some none) ∙ is_sick)

  open_at : root_ended J (root_of J pid.0) ≡ false
  open_at = by (cause J R) refl
    where
      by : (c : Option Cause) → cause J R ≡ c → root_ended J R ≡ false
      by None e = absurd (false≢true (ap is_some (sym e) ∙ is_sick))
      by (Some c) e = ap (λ k. root_over k (rolled_back J R) (done_with (last_answer J R))) e ∙ and_right (all_stopped J R) (is_empty (stack J R)) (ap is_empty u.stack_is)

  has_begun : last_answer J (root_of J pid.0) ≢ None
  has_begun none = let f = falls.fresh R top top_is none in false≢true (sym (ap is_some f.1) ∙ is_sick)

  pub undo_holds : TopHolds J (root_of J pid.0) top
  undo_holds = (top_is, has_begun, open_at)

  rooted : IsRooted J (entry_is.Undo pid row out ∷ J)
  rooted = undo_rooted pid row out J grown

  pub stack_now : stack (entry_is.Undo pid row out ∷ J) (root_of J pid.0) ≡ u.below
  stack_now = cond-true (R == R) (rest_of (stack J R)) (stack J R) (eq-eqb R R refl) ∙ ap rest_of u.stack_is

  pub stack_off : (r : ℕ) → r ≢ R → stack J' r ≡ stack J r
  stack_off r differs = cond-false (R == r) (rest_of (stack J r)) (stack J r) (ne_eqb R r (λ e. differs (sym e)))

  pub undo_back : (r : ℕ) (node : Node) → TopHolds (entry_is.Undo pid row out ∷ J) r node → TopHolds J r node
  undo_back r node h = elim (cases_eq r R) [
    | inl same ↦ (old_holder J J' rooted grown r node h, h.1, ap (root_ended J) same ∙ open_at)
    | inr differs ↦ held_before J J' rooted grown r node refl (stack_off r differs) refl h
  ]

  pub edits_are : out.edits ≡ undo_edits u.latest.undo u.latest.edits
  edits_are = ap (λ (o : StepOut). o.edits) u.out_is ∙ ap (λ k. undo_edits k u.latest.edits) u.undo_is

  within_all : AllWithin top.args (u.latest ∷ u.below)
  within_all = subst (AllWithin top.args) u.stack_is (falls.tree R top undo_holds).1

  pub undo_within : Within top.args out.edits
  undo_within = subst (Within top.args) (sym edits_are) within_all.0

  pub undo_unwinds : MayFall J (root_of J pid.0) top → (key : CatKey) → covers top.args key ≡ true → unwound (stack (entry_is.Undo pid row out ∷ J) (root_of J pid.0)) key (cat (entry_is.Undo pid row out ∷ J) key) ≡ was (entry_is.Undo pid row out ∷ J) (root_of J pid.0) key
  undo_unwinds may key c =
      ap (λ l. unwound l key (edited out.edits key (cat J key))) stack_now
      ∙ ap (λ e. unwound u.below key (edited e key (cat J key))) edits_are
      ∙ ap (λ l. unwound l key (cat J key)) (sym u.stack_is)
      ∙ (falls.tree R top undo_holds).0 may key c

  rows_now : (p : ℕ) (x : Node) → made J < p → node_of J' p ≡ Some x → rows_table x.args ≡ None
  rows_now p x lt is = by (slice_get (args_in out.followers) (p - made J - 1)) refl
    where
      get : node_of J' p ≡ option_map (λ args. root_node p args 1) (slice_get (args_in out.followers) (p - made J - 1))
      get = cond-true (nat_lt (made J) p) (option_map (λ args. root_node p args 1) (slice_get (args_in out.followers) (p - made J - 1))) (node_of J p) (lt-ltb (made J) p lt)

      by : (o : Option Args) → slice_get (args_in out.followers) (p - made J - 1) ≡ o → rows_table x.args ≡ None
      by None e = absurd (none-some x (sym (get ∙ ap (option_map (λ args. root_node p args 1)) e) ∙ is))
      by (Some args) e =
          let own : x.args ≡ args = ap (λ (n : Node). n.args) (same_Some x (root_node p args 1) (sym is ∙ get ∙ ap (option_map (λ args. root_node p args 1)) e)) in
          ap rows_table own ∙ made_at (λ a. rows_table a ≡ None) (undo_followers u.undo u.args u.root) (followers_rows u.undo u.args u.root) (p - made J - 1) args (ap (λ (o : StepOut). slice_get (args_in o.followers) (p - made J - 1)) (sym u.out_is) ∙ e)

  empties : (p : ℕ) → stack J p ≡ [] → stack J' p ≡ []
  empties p none = elim (cases_eq p R) [
    | inl same ↦ absurd (cons_nil u.latest u.below (sym u.stack_is ∙ ap (stack J) (sym same) ∙ none))
    | inr differs ↦ stack_off p differs ∙ none
  ]

  module _ (aside : Aside J (root_of J pid.0) top) where
    other_now : (r : ℕ) (node : Node) → TopHolds J' r node → r ≢ R → Unwinds J' r node × AllWithin node.args (stack J' r)
    other_now r node h differs =
        let before = undo_back r node h in
        let left = rooted_left J J' rooted grown r node before.0 refl (stack_off r differs) refl in
        let t = falls.tree r node before in (
          (λ may key c.
              ap (λ l. unwound l key (cat J' key)) left.stack_is
              ∙ ap (unwound (stack J r) key) (within_others top.args out.edits undo_within key ((aside r node before differs key).0 (cover_guards node.args key c)) (cat J key))
              ∙ t.0 (may_on J' J r node refl refl (sym (sheets_stay (entry_is.Undo pid row out) J legal r node before.0.0)) may) key c),
          subst (AllWithin node.args) (sym left.stack_is) t.1,
        )

    tree_now : (r : ℕ) (node : Node) → TopHolds J' r node → Unwinds J' r node × AllWithin node.args (stack J' r)
    tree_now r node h = elim (cases_eq r R) [
      | inr differs ↦ other_now r node h differs
      | inl same ↦
          let b = undo_back r node h in
          let y_is : node ≡ top = same_Some node top (sym b.0.0 ∙ ap (node_of J) same ∙ top_is.0) in
          subst (λ k. Unwinds J' k node × AllWithin node.args (stack J' k)) (sym same) (subst (λ n. Unwinds J' R n × AllWithin n.args (stack J' R)) (sym y_is) ((λ may key c. undo_unwinds (may_on J' J R top refl refl (sym (sheets_stay (entry_is.Undo pid row out) J legal R top top_is.0)) may) key c), subst (AllWithin top.args) (sym stack_now) within_all.1))
    ]

    pub falls_undo : Falls (entry_is.Undo pid row out ∷ J)
    falls_undo = rooted_falls J (entry_is.Undo pid row out ∷ J) rooted grown falls (λ p. refl) empties rows_now tree_now

-- a tree that an entry leaves alone, with all rows
unwinds_on : (entry : Entry) (J : Past) → IsLegal (entry ∷ J) → (r : ℕ) (node : Node) → TopHolds J r node → cause (entry ∷ J) r ≡ cause J r → last_answer (entry ∷ J) r ≡ last_answer J r → stack (entry ∷ J) r ≡ stack J r
    → cat (entry ∷ J) ≡ cat J → was (entry ∷ J) r ≡ was J r → Unwinds J r node × AllWithin node.args (stack J r) → Unwinds (entry ∷ J) r node × AllWithin node.args (stack (entry ∷ J) r)
unwinds_on entry J legal r node held causes last stacks rows base t = (
  (λ may key c.
      let before = may_on (entry ∷ J) J r node (sym causes) (sym last) (sym (sheets_stay entry J legal r node held.0.0)) may in
      ap (λ l. unwound l key (cat (entry ∷ J) key)) stacks ∙ ap (λ (b : Catalog). unwound (stack J r) key (b key)) rows ∙ t.0 before key c ∙ ap (λ (b : Catalog). b key) (sym base)),
  subst (AllWithin node.args) (sym stacks) t.1,
)

pub record All (J : Past) : Type 0 where
  pub falls : Falls J
  pub apart : Apart J
  pub asked : Asked J

submit_rows : (nonce : Nonce) (request : Request) (J : Past) → Grown J → (p : ℕ) (x : Node) → made J < p → node_of (entry_is.Submit nonce request ∷ J) p ≡ Some x → rows_table x.args ≡ None
submit_rows nonce request J grown p x lt is = elim (cases_eq p (made J + 1)) [
  | inl same ↦ ap (λ (n : Node). rows_table n.args) (same_Some x (submitted J request p) (sym is ∙ cond-true (p == made J + 1) (Some (submitted J request p)) (node_of J p) (eq-eqb p (made J + 1) same)))
  | inr differs ↦ absurd (none-some x (sym (cond-false (p == made J + 1) (Some (submitted J request p)) (node_of J p) (ne_eqb p (made J + 1) differs) ∙ grown.numbered p lt) ∙ is))
]

down_rows : (server : Server) (J : Past) → Grown J → (p : ℕ) (x : Node) → made J < p → node_of (entry_is.Down server ∷ J) p ≡ Some x → rows_table x.args ≡ None
down_rows server J grown p x lt is = elim (cases_eq p (made J + 1)) [
  | inl same ↦ ap (λ (n : Node). rows_table n.args) (same_Some x (root_node p (args_are.Crash server) 1) (sym is ∙ cond-true (p == made J + 1) (Some (root_node p (args_are.Crash server) 1)) (node_of J p) (eq-eqb p (made J + 1) same)))
  | inr differs ↦ absurd (none-some x (sym (cond-false (p == made J + 1) (Some (root_node p (args_are.Crash server) 1)) (node_of J p) (ne_eqb p (made J + 1) differs) ∙ grown.numbered p lt) ∙ is))
]

pub kid_sound : (args : Args) → is_kid args ≡ true → IsRight args
kid_sound (args_are.Root request first) k = absurd (false≢true k)
kid_sound args k = tt

pub transits_sound : (goal : Goal) (list : List Batch) → AllMade IsRight (map (λ batch. child_is.Transits batch.table batch.ids goal) list)
transits_sound goal [] = tt
transits_sound goal (batch ∷ more) = ((λ id. tt), transits_sound goal more)

pub followers_sound : (undo : Back) (args : Args) (root : Pid) → AllMade IsRight (undo_followers undo args root)
followers_sound back_is.Sweep args root = (tt, tt)
followers_sound back_is.Reopen args root = transits_sound goal_is.Assign (batches (in_name_order (closed_by args)))
followers_sound undo args root = tt

-- what stands aside of the tree that a step belongs to, or an undo
pub step_aside : (pid : Pid) (pick : Option Server) (out : StepOut) (J : Past) (legal : IsLegal (entry_is.Step pid pick out ∷ J)) → All J → Aside J (step_of pid pick out J (grown_all J legal.0) legal).node.root (root_of_node J (grown_all J legal.0) pid.0 (step_of pid pick out J (grown_all J legal.0) legal).node (step_of pid pick out J (grown_all J legal.0) legal).node_is).0
step_aside pid pick out J legal a =
    let grown = grown_all J legal.0 in
    let step = step_of pid pick out J grown legal in
    let top = root_of_node J grown pid.0 step.node step.node_is in
    aside_from J step.node.root top.0 (step_apart pid pick out J grown step (does_of pid pick out J grown step) a.apart (begins_apart pid pick out J legal) top.0 top.1) a.asked (λ q x is. a.falls.tops q x is) top.1

pub undo_aside : (pid : Pid) (row : ℕ) (out : StepOut) (J : Past) (legal : IsLegal (entry_is.Undo pid row out ∷ J)) (a : All J) → Aside J (root_of J pid.0) (top pid row out J legal (grown_all J legal.0) a.falls)
undo_aside pid row out J legal a =
    let grown = grown_all J legal.0 in
    aside_from J (root_of J pid.0) (top pid row out J legal grown a.falls) (λ s x h differs clash. a.apart (root_of J pid.0) s (top pid row out J legal grown a.falls) x (undo_holds pid row out J legal grown a.falls) h (λ same. differs (sym same)) clash) a.asked (λ q x is. a.falls.tops q x is) (top_is pid row out J legal grown a.falls)

asked_submit : (nonce : Nonce) (request : Request) (J : Past) → IsLegal (entry_is.Submit nonce request ∷ J) → Asked J → Asked (entry_is.Submit nonce request ∷ J)
asked_submit nonce request J legal asked q x is = elim (cases_eq q (made J + 1)) [
  | inl same ↦ subst (λ (n : Node). IsRight n.args) (same_Some (submitted J request q) x (sym (cond-true (q == made J + 1) (Some (submitted J request q)) (node_of J q) (eq-eqb q (made J + 1) same)) ∙ is)) legal.1.1.0
  | inr differs ↦ asked q x (sym (cond-false (q == made J + 1) (Some (submitted J request q)) (node_of J q) (ne_eqb q (made J + 1) differs)) ∙ is)
]

asked_down : (server : Server) (J : Past) → Asked J → Asked (entry_is.Down server ∷ J)
asked_down server J asked q x is = elim (cases_eq q (made J + 1)) [
  | inl same ↦ subst (λ (n : Node). IsRight n.args) (same_Some (root_node q (args_are.Crash server) 1) x (sym (cond-true (q == made J + 1) (Some (root_node q (args_are.Crash server) 1)) (node_of J q) (eq-eqb q (made J + 1) same)) ∙ is)) tt
  | inr differs ↦ asked q x (sym (cond-false (q == made J + 1) (Some (root_node q (args_are.Crash server) 1)) (node_of J q) (ne_eqb q (made J + 1) differs)) ∙ is)
]

asked_step : (pid : Pid) (pick : Option Server) (out : StepOut) (J : Past) (legal : IsLegal (entry_is.Step pid pick out ∷ J)) → All J → Asked (entry_is.Step pid pick out ∷ J)
asked_step pid pick out J legal a q x is =
    let grown = grown_all J legal.0 in
    let step = step_of pid pick out J grown legal in
    elim (le_or_lt q (made J)) [
      | inl le ↦ a.asked q x (sym (node_same pid pick out J q le) ∙ is)
      | inr lt ↦
          let c = new_child pid pick out J step.node step.node_is q lt x is in
          subst (λ (n : Node). IsRight n.args) (sym c.2) (kid_sound c.0 (kid_of pid pick out J grown a.falls step (does_of pid pick out J grown step) (step_aside pid pick out J legal a) (q - made J - 1) c.0 c.1).kid)
    ]

asked_undo : (pid : Pid) (row : ℕ) (out : StepOut) (J : Past) (legal : IsLegal (entry_is.Undo pid row out ∷ J)) → All J → Asked (entry_is.Undo pid row out ∷ J)
asked_undo pid row out J legal a q x is = elim (le_or_lt q (made J)) [
  | inl le ↦ a.asked q x (sym ((undo_rooted pid row out J (grown_all J legal.0)).old q le) ∙ is)
  | inr lt ↦ new lt (slice_get (args_in out.followers) (q - made J - 1)) refl
]
  where
    its_undo : IsUndoOf J (root_of J pid.0) out
    its_undo = u pid row out J legal (grown_all J legal.0) a.falls

    new : made J < q → (o : Option Args) → slice_get (args_in out.followers) (q - made J - 1) ≡ o → IsRight x.args
    new lt None e = absurd (none-some x (sym (cond-true (nat_lt (made J) q) _ (node_of J q) (lt-ltb (made J) q lt) ∙ ap (option_map (λ args. root_node q args 1)) e) ∙ is))
    new lt (Some args) e =
        subst (λ (n : Node). IsRight n.args) (same_Some (root_node q args 1) x (sym (cond-true (nat_lt (made J) q) _ (node_of J q) (lt-ltb (made J) q lt) ∙ ap (option_map (λ args. root_node q args 1)) e) ∙ is))
        (made_at IsRight (undo_followers its_undo.undo its_undo.args its_undo.root) (followers_sound its_undo.undo its_undo.args its_undo.root) (q - made J - 1) args (ap (λ (o : StepOut). slice_get (args_in o.followers) (q - made J - 1)) (sym its_undo.out_is) ∙ e))

pub falls_all : (J : Past) → IsLegal J → All J
falls_all [] legal = record { falls = falls_nothing; apart = λ s t x y h k differs clash. none-some x h.0.0; asked = λ q x is. absurd (none-some x is) }
falls_all (entry_is.Start sheets ∷ J) legal =
    let a = falls_all J legal.0 in
    let f = a.falls in
    let none = start_none J legal.1.0.0 in
    record {
      falls = record {
        fresh = f.fresh;
        gone = f.gone;
        tops = f.tops;
        kids = f.kids;
        belongs = f.belongs;
        near = f.near;
        safe = λ q x is. absurd (none-some x (sym (none q) ∙ is));
        bare = λ q x is. absurd (none-some x (sym (none q) ∙ is));
        tree = λ r node h. absurd (none-some node (sym (none r) ∙ h.0.0));
      };
      apart = λ s t x y h k differs clash. none-some x (sym (none s) ∙ h.0.0);
      asked = a.asked;
    }
falls_all (entry_is.Submit nonce request ∷ J) legal =
    let a = falls_all J legal.0 in
    let grown = grown_all J legal.0 in
    let rooted = submit_rooted nonce request J grown in
    let holds : (r : ℕ) (node : Node) → TopHolds (entry_is.Submit nonce request ∷ J) r node → TopHolds J r node = (λ r node h. held_before J (entry_is.Submit nonce request ∷ J) rooted grown r node refl refl refl h) in
    record {
      falls = rooted_falls J (entry_is.Submit nonce request ∷ J) rooted grown a.falls (λ p. refl) (λ p e. e) (submit_rows nonce request J grown) (λ r node h. unwinds_on (entry_is.Submit nonce request) J legal r node (holds r node h) refl refl refl refl refl (a.falls.tree r node (holds r node h)));
      apart = apart_back J (entry_is.Submit nonce request ∷ J) holds a.apart;
      asked = asked_submit nonce request J legal a.asked;
    }
falls_all (entry_is.Step pid pick out ∷ J) legal =
    let a = falls_all J legal.0 in
    let grown = grown_all J legal.0 in
    let step = step_of pid pick out J grown legal in
    let d = does_of pid pick out J grown step in
    let top = root_of_node J grown pid.0 step.node step.node_is in
    record {
      falls = falls_step pid pick out J grown a.falls step d (step_aside pid pick out J legal a);
      apart = apart_step pid pick out J grown step d a.apart (begins_apart pid pick out J legal) top.0 top.1;
      asked = asked_step pid pick out J legal a;
    }
falls_all (entry_is.Undo pid row out ∷ J) legal =
    let a = falls_all J legal.0 in
    let grown = grown_all J legal.0 in
    record {
      falls = falls_undo pid row out J legal grown a.falls (undo_aside pid row out J legal a);
      apart = apart_back J (entry_is.Undo pid row out ∷ J) (undo_back pid row out J legal grown a.falls) a.apart;
      asked = asked_undo pid row out J legal a;
    }
falls_all (entry_is.Down server ∷ J) legal =
    let a = falls_all J legal.0 in
    let grown = grown_all J legal.0 in
    let rooted = down_rooted server J grown in
    let holds : (r : ℕ) (node : Node) → TopHolds (entry_is.Down server ∷ J) r node → TopHolds J r node = (λ r node h. held_before J (entry_is.Down server ∷ J) rooted grown r node refl refl refl h) in
    record {
      falls = rooted_falls J (entry_is.Down server ∷ J) rooted grown a.falls (λ p. refl) (λ p e. e) (down_rows server J grown) (λ r node h. unwinds_on (entry_is.Down server) J legal r node (holds r node h) refl refl refl refl refl (a.falls.tree r node (holds r node h)));
      apart = apart_back J (entry_is.Down server ∷ J) holds a.apart;
      asked = asked_down server J a.asked;
    }
falls_all (entry_is.Base part ∷ J) legal = record {
  falls = record {
    fresh = λ r node top. absurd (none-some node top.0);
    gone = λ r none. (refl, refl);
    tops = λ q x top. absurd (none-some x top.0);
    kids = λ q x is. absurd (none-some x is);
    belongs = λ q x is. absurd (none-some x is);
    near = λ q x is. absurd (none-some x is);
    safe = λ q x is. absurd (none-some x is);
    bare = λ q x is. absurd (none-some x is);
    tree = λ r node h. absurd (none-some node h.0.0);
  };
  apart = λ s t x y h k differs clash. none-some x h.0.0;
  asked = λ q x is. absurd (none-some x is);
}
falls_all (entry ∷ J) legal =
    let a = falls_all J legal.0 in
    let f = a.falls in
    record { falls = record { fresh = f.fresh; gone = f.gone; tops = f.tops; kids = f.kids; belongs = f.belongs; near = f.near; safe = f.safe; bare = f.bare; tree = f.tree }; apart = a.apart; asked = a.asked }
