-- The rows that procedures are at.
use Rattle.std.proofs.Common.{List, None, Option, Some, [], ap, arith, false, inl, inr, length, not, refl, slice_get, subst, sym, ℕ, ◌&&◌, ◌<◌, ◌∙◌, ◌∷◌, ◌≡◌, ◌≢◌}
use Rattle.std.proofs.lemmas.Bool.{cases_eq, false≢true, true≢false}
use Rattle.std.proofs.lemmas.Option.{none-some, same_Some, slice_get_within}
use Rattle.hm_data.specs.declared.answer.Answer.{Answer}
use Rattle.hm_data.specs.declared.args.Args.{Args}
use Rattle.hm_data.specs.declared.place.Goal.{Goal}
use Rattle.hm_data.specs.declared.request.Request.{Request}
use Rattle.hm_data.specs.declared.sheet.Row.{Row}
use Rattle.hm_data.specs.declared.sheet.Sheet.{Sheet}
use Rattle.hm_data.specs.declared.step.StepOut.{StepOut}
use Rattle.hm_names.specs.Server.{Server}
use Rattle.hm_names.specs.declared.pid.Pid.{Pid}
use Rattle.hm_model.proofs.Grown.{not_stepped, stepped}
use Rattle.hm_model.proofs.Forms.{row_formed}
use Rattle.hm_model.proofs.Trees.{grown_all as trees_all, step_of}
use Rattle.hm_model.proofs.ValidSheets.{row_there as there_at, valid_row}
use Rattle.hm_model.specs.Answers.{last_answer, row_after, row_of}
use Rattle.hm_model.specs.Inputs.{step_input}
use Rattle.hm_model.specs.Journal.{Past}
use Rattle.hm_model.specs.Validity.{IsValid}
use Rattle.hm_model.specs.Kinds.{first_row_of, goal_row, request_row}
use Rattle.hm_model.specs.Rules.{IsLegal}
use Rattle.hm_model.specs.Tree.{Node, node_of}
use Rattle.hm_data.specs.declared.answer.Answer.TheVariants as answer_is
use Rattle.hm_data.specs.declared.entry.Entry.TheVariants as entry_is
use Rattle.hm_data.specs.declared.args.Args.TheVariants as args_are
use Rattle.hm_data.specs.declared.request.Request.TheVariants as request_is
use Rattle.hm_data.specs.declared.place.Goal.TheVariants as goal_is

request_row_low : (request : Request) → request_row request < 6
request_row_low (request_is.CreateNamespace ns) = omega arith
request_row_low request = omega arith

goal_row_low : (goal : Goal) → goal_row goal < 6
goal_row_low goal_is.Assign = omega arith
goal_row_low goal = omega arith

first_row_low : (args : Args) → first_row_of args < 6
first_row_low (args_are.Root request first) = request_row_low request
first_row_low (args_are.Transit region goal to) = goal_row_low goal
first_row_low args = omega arith

-- the row after an answer doesn't hang on the first one
row_behind : (first : ℕ) (answer : Answer) → row_after first (Some answer) ≡ row_after 0 (Some answer)
row_behind first (answer_is.More next) = refl
row_behind first answer = refl

-- the next row of a valid sheet's row is one of the first 32, or none
next_low : (sheet : Sheet) → IsValid sheet → (place : ℕ) (row : Row) → slice_get sheet.rows place ≡ Some row → row.next < 256
next_low sheet valid place row is = elim (valid_row sheet valid place row is).0 [
  | inl end ↦ omega (arith, end)
  | inr within ↦
      let there = there_at sheet.rows row.next within in
      let low = (valid_row sheet valid row.next there.0 there.1).1 in
      omega (arith, low)
]

step_low : (pid : Pid) (pick : Option Server) (out : StepOut) (before : Past) → IsLegal (entry_is.Step pid pick out ∷ before) → row_after 0 (Some out.answer) < 256
step_low pid pick out before legal =
    let step = step_of pid pick out before (trees_all before legal.0) legal in
    let low = next_low step.sheet step.valid (row_of before pid.0 step.node) step.row step.row_is in
    let leads = (row_formed step.row (step_input before pid.0 step.node pick)).leads in
    subst (λ (o : StepOut). row_after 0 (Some o.answer) < 256) (sym step.out_is) (elim leads [
      | inl next ↦ omega (arith, next, low)
      | inr other ↦ elim other [ inl first ↦ omega (arith, first) | inr end ↦ omega (arith, end) ]
    ])

answers_low : (J : Past) → IsLegal J → (p : ℕ) (answer : Answer) → last_answer J p ≡ Some answer → row_after 0 (Some answer) < 256
answers_low [] legal p answer is = absurd (none-some answer is)
answers_low (entry_is.Step pid pick out ∷ before) legal p answer is = elim (cases_eq p pid.0) [
  | inl same ↦
      let own : out.answer ≡ answer = same_Some out.answer answer (sym (stepped pid pick out before) ∙ ap (last_answer (entry_is.Step pid pick out ∷ before)) (sym same) ∙ is) in
      subst (λ a. row_after 0 (Some a) < 256) own (step_low pid pick out before legal)
  | inr differs ↦ answers_low before legal.0 p answer (sym (not_stepped pid pick out before p differs) ∙ is)
]
answers_low (entry_is.Base part ∷ before) legal p answer is = absurd (none-some answer is)
answers_low (entry ∷ before) legal p answer is = answers_low before legal.0 p answer is

-- a row is a byte
pub row_fits : (J : Past) → IsLegal J → (p : ℕ) (node : Node) → row_of J p node < 256
row_fits J legal p node = by (last_answer J p) refl
  where
    by : (last : Option Answer) → last_answer J p ≡ last → row_after (first_row_of node.args) last < 256
    by None e = let low = first_row_low node.args in omega (arith, low)
    by (Some answer) e = subst (λ n. n < 256) (sym (row_behind (first_row_of node.args) answer)) (answers_low J legal p answer e)
