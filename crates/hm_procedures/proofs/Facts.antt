-- What an entry leaves of what is told of a procedure, but its phase.
use Rattle.std.proofs.Common.{◌≡◌, ℕ, ◌+◌, ◌-◌, ◌≤◌, ◌&&◌, ◌||◌, ◌==◌, List, [], ◌∷◌, Bool, true, false, not, if◌then◌else◌, Option, Some, None, is_none, is_some, length, refl, ap, sym, ◌∙◌, inl, inr, arith}
use Rattle.std.specs.Option.{option_map, option_or}
use Rattle.std.proofs.lemmas.Bool.{cases_eq, eq-eqb, ne_eqb, true≢false}
use Rattle.std.proofs.lemmas.Option.{same_Some}
use Rattle.hm_names.specs.Server.{Server}
use Rattle.hm_names.specs.declared.pid.Pid.{Pid}
use Rattle.hm_data.specs.declared.answer.Answer.{Answer}
use Rattle.hm_data.specs.declared.answer.Cause.{Cause}
use Rattle.hm_data.specs.declared.args.Args.{Args}
use Rattle.hm_data.specs.declared.call.Told.{Told}
use Rattle.hm_data.specs.declared.call.Verb.{Verb}
use Rattle.hm_data.specs.declared.entry.Entry.TheVariants as entry_is
use Rattle.hm_data.specs.declared.record.Phase.{Phase}
use Rattle.hm_data.specs.declared.record.Phase.TheVariants as phase_is
use Rattle.hm_data.specs.declared.step.StepOut.{StepOut}
use Rattle.hm_model.specs.Answers.{failing, is_stop, last_answer, row_after}
use Rattle.hm_model.specs.Counts.{one_if}
use Rattle.hm_model.specs.Editions.{edition_of}
use Rattle.hm_model.specs.Journal.{Past}
use Rattle.hm_model.specs.Kinds.{first_row_of}
use Rattle.hm_model.specs.Phase.{cause, child_in, in_tree, is_parent, or_else}
use Rattle.hm_model.specs.Reports.{verb_of}
use Rattle.hm_model.specs.Rules.{IsLegal}
use Rattle.hm_model.specs.Tree.{Node, args_in, child_of, is_top, made, node_of, parent_in, pid_of, root_in, root_node}
use Rattle.hm_model.specs.Waiting.{open_children, open_under}
use Rattle.hm_model.proofs.Forest.{forest_all, rooted_all, top_is_own}
use Rattle.hm_model.proofs.RootSheets.{stays}
use Rattle.hm_model.proofs.Waiting.{children_change, under_change}
use Rattle.hm_procedures.specs.Changes.{aborted, child_ended, fresh, is_this, reported, stepped, tree_stepped}
use Rattle.hm_procedures.specs.Kept.{kept_in}
use Rattle.hm_procedures.specs.declared.kept.Tracked.{Tracked}
use Rattle.hm_procedures.proofs.Blank.{IsBlank}

-- the parent that is shown
abbrev pub parent_shown : List ℕ → Option Pid
parent_shown above = option_map pid_of (parent_in above)

pub this_parent : (above : List ℕ) (p : ℕ) → is_parent p above ≡ is_this (parent_shown above) p
this_parent [] p = refl
this_parent (up ∷ above) p = refl

pub shown_top : (above : List ℕ) → is_none (parent_shown above) ≡ is_top above
shown_top [] = refl
shown_top (up ∷ above) = refl

pub eq_swap : (a b : ℕ) → (a == b) ≡ (b == a)
eq_swap a b = elim (cases_eq a b) [
  | inl same ↦ eq-eqb a b same ∙ sym (eq-eqb b a (sym same))
  | inr differs ↦ ne_eqb a b differs ∙ sym (ne_eqb b a (λ e. differs (sym e)))
]

-- what is kept, of a new root and of a new child
pub fresh_root : (J : Past) (p : ℕ) (args : Args) (first : ℕ) (edition : ℕ) → edition_of J p ≡ edition → IsBlank J p → kept_in phase_is.Runnable J p (root_node p args first) ≡ fresh p None edition args
fresh_root J p args first edition of b = rw (b.last, b.verb, b.report, b.aborted, b.tries, b.before, b.count, b.first, b.cause_is, b.children, b.under, of) refl

pub fresh_child : (J : Past) (p : ℕ) (pid : Pid) (me : Node) (args : Args) (edition : ℕ) → edition_of J me.root ≡ edition → IsBlank J p → kept_in phase_is.Runnable J p (child_of pid.0 me args) ≡ fresh p (Some (pid, pid_of me.root)) edition args
fresh_child J p pid me args edition of b = rw (b.last, b.verb, b.report, b.aborted, b.tries, b.before, b.count, b.first, b.cause_is, b.children, b.under, of) refl

-- with other counts, and in another edition
abbrev counted : Tracked → ℕ → ℕ → ℕ → Tracked
counted one edition children under = record one { shown = record one.shown { edition = edition }; open_children = children; open_under = under }

counted_same : (one : Tracked) {m n a b c d : ℕ} → m ≡ n → a ≡ b → c ≡ d → counted one m a c ≡ counted one n b d
counted_same one {m} {n} {a} {b} {c} {d} g e f = ap (λ x. counted one x a c) g ∙ ap (λ x. counted one n x c) e ∙ ap (counted one n b) f

as_was : {a b : ℕ} → a + 0 ≡ b + 0 → a ≡ b
as_was e = omega (arith, e)

module _ (phase : Phase) (J : Past) (p : ℕ) (node : Node) where
  abbrev was : Tracked
  was = kept_in phase J p node

  pub still_start : (sheets : List _) → IsLegal (entry_is.Start sheets ∷ J) → kept_in phase (entry_is.Start sheets ∷ J) p node ≡ was
  still_start sheets legal = counted_same was refl (as_was (children_change (entry_is.Start sheets) J legal p)) (as_was (under_change (entry_is.Start sheets) J legal p))

  pub still_adopt : (sheets : List _) → IsLegal (entry_is.Adopt sheets ∷ J) → kept_in phase (entry_is.Adopt sheets ∷ J) p node ≡ was
  still_adopt sheets legal = counted_same was refl (as_was (children_change (entry_is.Adopt sheets) J legal p)) (as_was (under_change (entry_is.Adopt sheets) J legal p))

  pub still_submit : (nonce : _) (request : _) → IsLegal (entry_is.Submit nonce request ∷ J) → node.root ≤ made J → kept_in phase (entry_is.Submit nonce request ∷ J) p node ≡ was
  still_submit nonce request legal le = counted_same was (stays (entry_is.Submit nonce request) J legal node.root le).1 (as_was (children_change (entry_is.Submit nonce request) J legal p)) (as_was (under_change (entry_is.Submit nonce request) J legal p))

  pub still_undo : (pid : Pid) (row : ℕ) (out : StepOut) → IsLegal (entry_is.Undo pid row out ∷ J) → node.root ≤ made J → kept_in phase (entry_is.Undo pid row out ∷ J) p node ≡ was
  still_undo pid row out legal le = counted_same was (stays (entry_is.Undo pid row out) J legal node.root le).1 (as_was (children_change (entry_is.Undo pid row out) J legal p)) (as_was (under_change (entry_is.Undo pid row out) J legal p))

  pub still_up : (server : Server) → IsLegal (entry_is.Up server ∷ J) → kept_in phase (entry_is.Up server ∷ J) p node ≡ was
  still_up server legal = counted_same was refl (as_was (children_change (entry_is.Up server) J legal p)) (as_was (under_change (entry_is.Up server) J legal p))

  pub still_down : (server : Server) → IsLegal (entry_is.Down server ∷ J) → node.root ≤ made J → kept_in phase (entry_is.Down server ∷ J) p node ≡ was
  still_down server legal le = counted_same was (stays (entry_is.Down server) J legal node.root le).1 (as_was (children_change (entry_is.Down server) J legal p)) (as_was (under_change (entry_is.Down server) J legal p))

  pub on_report : (call : Pid) (told : Told) → IsLegal (entry_is.Report call told ∷ J) → kept_in phase (entry_is.Report call told ∷ J) p node ≡ reported (p == call.0) told was
  on_report call told legal = counted_same (reported (p == call.0) told was) refl (as_was (children_change (entry_is.Report call told) J legal p)) (as_was (under_change (entry_is.Report call told) J legal p))

  pub on_abort : (pid : Pid) → IsLegal (entry_is.Abort pid ∷ J) → kept_in phase (entry_is.Abort pid ∷ J) p node ≡ aborted (p == pid.0) was
  on_abort pid legal = counted_same (aborted (p == pid.0) was) refl (as_was (children_change (entry_is.Abort pid) J legal p)) (as_was (under_change (entry_is.Abort pid) J legal p))

row_if : (b : Bool) (first : ℕ) (answer : Answer) (last : Option Answer) → (if b then row_after first (Some answer) else row_after first last) ≡ row_after first (if b then Some answer else last)
row_if true first answer last = refl
row_if false first answer last = refl

called_if : (b : Bool) (call verb : Option Verb) → (if b then is_some call || is_some verb else is_some verb) ≡ is_some (if b then option_or call verb else verb)
called_if true None verb = refl
called_if true (Some x) verb = refl
called_if false call verb = refl

less : {a b e : ℕ} (c d : ℕ) → a + b ≡ c + d → b ≡ e → c + d - e ≡ a
less c d sum same = omega (arith, sum, same)

module _ (pid : Pid) (pick : Option Server) (out : StepOut) (J : Past) (legal : IsLegal (entry_is.Step pid pick out ∷ J)) (me : Node) (is_me : node_of J pid.0 ≡ Some me) where
  abbrev after : Past
  after = entry_is.Step pid pick out ∷ J

  abbrev count : ℕ
  count = length (args_in out.children)

  -- the law of open children, by who steps
  pub children_law : (p : ℕ) → open_children after p + one_if (is_this (parent_shown me.above) p && is_stop out.answer) ≡ open_children J p + (if p == pid.0 then count else 0)
  children_law p =
      ap (λ b. open_children after p + one_if (b && is_stop out.answer)) (sym (ap (child_in p) is_me ∙ this_parent me.above p))
      ∙ children_change (entry_is.Step pid pick out) J legal p
      ∙ ap (λ b. open_children J p + (if b then count else 0)) (eq_swap pid.0 p)

  -- who steps is the root, or has a parent
  below_root : (p : ℕ) → ((me.root == p) && not (pid.0 == p)) ≡ ((me.root == p) && is_some (parent_shown me.above))
  below_root p = elim (cases_eq me.root p) [
    | inr other ↦ ap (λ b. b && not (pid.0 == p)) (ne_eqb me.root p other) ∙ sym (ap (λ b. b && is_some (parent_shown me.above)) (ne_eqb me.root p other))
    | inl of ↦ ap (λ b. (me.root == p) && b) (by me.above refl of)
  ]
    where
      by : (above : List ℕ) → me.above ≡ above → me.root ≡ p → not (pid.0 == p) ≡ is_some (parent_shown above)
      by [] e of = ap not (eq-eqb pid.0 p (sym (top_is_own J (forest_all J legal.0) pid.0 me is_me e) ∙ of))
      by (up ∷ above) e of =
          let root = rooted_all J legal.0 pid.0 me is_me in
          ap not (ne_eqb pid.0 p (λ same.
          let own : me ≡ root.root = same_Some me root.root (sym is_me ∙ ap (node_of J) (same ∙ sym of) ∙ root.there) in
          true≢false (sym (ap is_top root.at_top) ∙ sym (ap (λ (n : Node). is_top n.above) own) ∙ ap is_top e)))

  -- the law of open descendants, by who steps
  pub under_law : (p : ℕ) → open_under after p + one_if ((me.root == p) && (is_stop out.answer && is_some (parent_shown me.above))) ≡ open_under J p + (if me.root == p then count else 0)
  under_law p =
      ap (λ b. open_under after p + one_if b) (sym (by (me.root == p) (is_stop out.answer) (is_some (parent_shown me.above))) ∙ ap (λ b. b && is_stop out.answer) (sym (below_root p)))
      ∙ ap (λ o. open_under after p + one_if ((in_tree p o && not (pid.0 == p)) && is_stop out.answer)) (sym is_me)
      ∙ under_change (entry_is.Step pid pick out) J legal p
      ∙ ap (λ o. open_under J p + (if in_tree p o then count else 0)) is_me
    where
      by : (a b c : Bool) → ((a && c) && b) ≡ (a && (b && c))
      by true true true = refl
      by true true false = refl
      by true false true = refl
      by true false false = refl
      by false b c = refl

  abbrev filled : Tracked → ℕ → Bool → Option Cause → ℕ → ℕ → Tracked
  filled one row called cause children under = record one { shown = record one.shown { row = row }; has_called = called; cause = cause; open_children = children; open_under = under }

  filled_same : (one : Tracked) {r r' : ℕ} {c c' : Bool} {f f' : Option Cause} {n n' m m' : ℕ} → r ≡ r' → c ≡ c' → f ≡ f' → n ≡ n' → m ≡ m' → filled one r c f n m ≡ filled one r' c' f' n' m'
  filled_same one {r} {r'} {c} {c'} {f} {f'} {n} {n'} {m} {m'} er ec ef en em =
      ap (λ x. filled one x c f n m) er ∙ ap (λ x. filled one r' x f n m) ec ∙ ap (λ x. filled one r' c' x n m) ef ∙ ap (λ x. filled one r' c' f' x m) en ∙ ap (filled one r' c' f' n') em

  pub on_step : (phase : Phase) (p : ℕ) (node : Node)
      → tree_stepped (me.root == p) count (is_stop out.answer && is_some (parent_shown me.above)) (failing out.answer) (child_ended (is_this (parent_shown me.above) p && is_stop out.answer) (stepped (p == pid.0) out (made J) count (kept_in phase J p node)))
      ≡ kept_in phase after p node
  on_step phase p node = filled_same (kept_in phase after p node)
      (row_if (p == pid.0) (first_row_of node.args) out.answer (last_answer J p))
      (called_if (p == pid.0) out.call (verb_of J p))
      (ap (λ o. if root_in o == p then or_else (cause J p) (failing out.answer) else cause J p) (sym is_me))
      (less _ _ (children_law p) refl)
      (less _ _ (under_law p) refl)
