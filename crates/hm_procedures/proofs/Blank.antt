-- Nothing is told of who wasn't made.
use Rattle.std.proofs.Common.{◌≡◌, ◌≢◌, ℕ, ◌+◌, ◌<◌, ◌&&◌, ◌==◌, ◌∷◌, [], true, false, if◌then◌else◌, Option, Some, None, length, refl, ap, sym, ◌∙◌, arith}
use Rattle.std.specs.Option.{option_or}
use Rattle.std.proofs.lemmas.Bool.{and_left, cond-false, false≢true, ne_eqb}
use Rattle.std.proofs.lemmas.Option.{none-some}
use Rattle.hm_data.specs.declared.entry.Entry.{Entry}
use Rattle.hm_data.specs.declared.entry.Entry.TheVariants as entry_is
use Rattle.hm_data.specs.declared.step.StepOut.{StepOut}
use Rattle.hm_names.specs.Server.{Server}
use Rattle.hm_names.specs.declared.pid.Pid.{Pid}
use Rattle.hm_model.specs.Answers.{failing, is_aborted, last_answer, report_of}
use Rattle.hm_model.specs.Inputs.{made_at_step}
use Rattle.hm_model.specs.Journal.{Past}
use Rattle.hm_model.specs.Phase.{cause, in_tree, or_else}
use Rattle.hm_model.specs.Places.{has_failed, one_more, tries_of}
use Rattle.hm_model.specs.Reports.{verb_of}
use Rattle.hm_model.specs.Rules.{IsLegal}
use Rattle.hm_model.specs.Tree.{Node, args_in, is_root_in, made, node_of, root_in, root_of}
use Rattle.hm_model.specs.Waiting.{added, open_children, open_under}
use Rattle.hm_model.proofs.Forest.{rooted_all}
use Rattle.hm_model.proofs.Grown.{grown_all, nodes_stay, not_stepped}
use Rattle.hm_model.proofs.Trees.{other_steps}
use Rattle.hm_model.proofs.Waiting.{children_change, under_change}
use Rattle.hm_procedures.specs.Changes.{first_made}
use Rattle.hm_procedures.specs.Kept.{first_child_of, made_in_step}

pub record IsBlank (J : Past) (p : ℕ) : Type 0 where
  pub last : last_answer J p ≡ None
  pub verb : verb_of J p ≡ None
  pub report : report_of J p ≡ None
  pub aborted : is_aborted J p ≡ false
  pub tries : tries_of J p ≡ 0
  pub before : made_at_step J p ≡ 0
  pub count : made_in_step J p ≡ 0
  pub first : first_child_of J p ≡ None
  pub cause_is : cause J p ≡ None
  pub children : open_children J p ≡ 0
  pub under : open_under J p ≡ 0

nothing_over : {a c d : ℕ} (b : ℕ) → a + b ≡ c + d → c ≡ 0 → d ≡ 0 → a ≡ 0
nothing_over b sum none more = omega (arith, sum, none, more)

module _ (entry : Entry) (J : Past) (legal : IsLegal (entry ∷ J)) (p : ℕ) (was : IsBlank J p) where
  children_on : added (λ q. q == p) entry ≡ 0 → open_children (entry ∷ J) p ≡ 0
  children_on none = nothing_over _ (children_change entry J legal p) was.children none

  under_on : added (λ q. in_tree p (node_of J q)) entry ≡ 0 → open_under (entry ∷ J) p ≡ 0
  under_on none = nothing_over _ (under_change entry J legal p) was.under none

pub blank_nothing : (p : ℕ) → IsBlank [] p
blank_nothing p = record { last = refl; verb = refl; report = refl; aborted = refl; tries = refl; before = refl; count = refl; first = refl; cause_is = refl; children = refl; under = refl }

module _ (pid : Pid) (pick : Option Server) (out : StepOut) (J : Past) (legal : IsLegal (entry_is.Step pid pick out ∷ J)) (p : ℕ) (none : node_of J p ≡ None) (was : IsBlank J p) where
  abbrev me : Node
  me = legal.1.1.0.0

  is_me : node_of J pid.0 ≡ Some me
  is_me = legal.1.1.0.1

  differs : p ≢ pid.0
  differs e = none-some me (sym none ∙ ap (node_of J) e ∙ is_me)

  not_root : me.root ≢ p
  not_root e = let root = rooted_all J legal.0 pid.0 me is_me in none-some root.root (sym none ∙ ap (node_of J) (sym e) ∙ root.there)

  other_root : (root_of J pid.0 == p) ≡ false
  other_root = ap (λ o. root_in o == p) is_me ∙ ne_eqb me.root p not_root

  blank_step : IsBlank (entry_is.Step pid pick out ∷ J) p
  blank_step = record {
    last = not_stepped pid pick out J p differs ∙ was.last;
    verb = cond-false (p == pid.0) (option_or out.call (verb_of J p)) (verb_of J p) (ne_eqb p pid.0 differs) ∙ was.verb;
    report = was.report;
    aborted = was.aborted;
    tries = cond-false ((p == pid.0) && has_failed out.place) (one_more (tries_of J p)) (tries_of J p) (and_left (p == pid.0) (has_failed out.place) (ne_eqb p pid.0 differs)) ∙ was.tries;
    before = other_steps pid pick out J p differs ∙ was.before;
    count = cond-false (p == pid.0) (length (args_in out.children)) (made_in_step J p) (ne_eqb p pid.0 differs) ∙ was.count;
    first = cond-false (p == pid.0) (option_or (first_child_of J p) (first_made (made J) (length (args_in out.children)))) (first_child_of J p) (ne_eqb p pid.0 differs) ∙ was.first;
    cause_is = cond-false (root_of J pid.0 == p) (or_else (cause J p) (failing out.answer)) (cause J p) other_root ∙ was.cause_is;
    children = children_on (entry_is.Step pid pick out) J legal p was (cond-false (pid.0 == p) (length (args_in out.children)) 0 (ne_eqb pid.0 p (λ e. differs (sym e))));
    under = under_on (entry_is.Step pid pick out) J legal p was (ap (λ b. if b then length (args_in out.children) else 0) (ap (in_tree p) is_me ∙ ne_eqb me.root p not_root));
  }

-- an entry tells nothing of who wasn't made before it
pub blank_on : (entry : Entry) (J : Past) → IsLegal (entry ∷ J) → (p : ℕ) → node_of J p ≡ None → IsBlank J p → IsBlank (entry ∷ J) p
blank_on (entry_is.Step pid pick out) J legal p none was = blank_step pid pick out J legal p none was
blank_on (entry_is.Report call told) J legal p none was = record {
  last = was.last;
  verb = was.verb;
  report = cond-false (p == call.0) (Some told) (report_of J p) (ne_eqb p call.0 (λ e. legal.1.1.0.0 (ap (verb_of J) (sym e) ∙ was.verb))) ∙ was.report;
  aborted = was.aborted;
  tries = was.tries;
  before = was.before;
  count = was.count;
  first = was.first;
  cause_is = was.cause_is;
  children = children_on (entry_is.Report call told) J legal p was refl;
  under = under_on (entry_is.Report call told) J legal p was refl;
}
blank_on (entry_is.Abort pid) J legal p none was = record {
  last = was.last;
  verb = was.verb;
  report = was.report;
  aborted = cond-false (p == pid.0) true (is_aborted J p) (ne_eqb p pid.0 (λ e. false≢true (sym (ap is_root_in (ap (node_of J) (sym e) ∙ none)) ∙ legal.1.1.0.0))) ∙ was.aborted;
  tries = was.tries;
  before = was.before;
  count = was.count;
  first = was.first;
  cause_is = was.cause_is;
  children = children_on (entry_is.Abort pid) J legal p was refl;
  under = under_on (entry_is.Abort pid) J legal p was refl;
}
blank_on (entry_is.Base part) J legal p none was = record { last = refl; verb = refl; report = refl; aborted = refl; tries = refl; before = refl; count = refl; first = refl; cause_is = refl; children = children_on (entry_is.Base part) J legal p was refl; under = under_on (entry_is.Base part) J legal p was refl }
blank_on entry J legal p none was = record { last = was.last; verb = was.verb; report = was.report; aborted = was.aborted; tries = was.tries; before = was.before; count = was.count; first = was.first; cause_is = was.cause_is; children = children_on entry J legal p was refl; under = under_on entry J legal p was refl }

-- who isn't there wasn't there
gone : (entry : Entry) (J : Past) → IsLegal (entry ∷ J) → (p : ℕ) → node_of (entry ∷ J) p ≡ None → node_of J p ≡ None
gone entry J legal p none = by (node_of J p) refl
  where
    by : (o : Option Node) → node_of J p ≡ o → o ≡ None
    by None e = refl
    by (Some x) e = absurd (none-some x (sym none ∙ nodes_stay entry J legal p x e))

pub blank_all : (J : Past) → IsLegal J → (p : ℕ) → node_of J p ≡ None → IsBlank J p
blank_all [] legal p none = blank_nothing p
blank_all (entry ∷ J) legal p none = let old = gone entry J legal p none in blank_on entry J legal p old (blank_all J legal.0 p old)

-- so of a new procedure
pub blank_new : (entry : Entry) (J : Past) → IsLegal (entry ∷ J) → (p : ℕ) → made J < p → IsBlank (entry ∷ J) p
blank_new entry J legal p lt = let none = (grown_all J legal.0).numbered p lt in blank_on entry J legal p none (blank_all J legal.0 p none)
