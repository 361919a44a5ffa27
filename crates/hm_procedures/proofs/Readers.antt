-- What the readers say, by what is kept.
use Rattle.std.proofs.Common.{◌≡◌, ℕ, suc, List, [], ◌++◌, Result, Ok, Err, IfOk, slice_get, ◌+◌, ◌-◌, ◌≤◌, Bool, Option, Some, None, IsTrue, ◌↔◌, refl, ap, sym, ◌∙◌, arith}
use Rattle.std.specs.Option.{option_map}
use Rattle.std.proofs.lemmas.Option.{none-some, same_Some}
use Rattle.hm_names.specs.declared.pid.Pid.{Pid}
use Rattle.hm_data.specs.declared.call.Told.{Told}
use Rattle.hm_model.specs.Answers.{done_with}
use Rattle.hm_model.specs.Journal.{Past}
use Rattle.hm_model.specs.Inputs.{undoes}
use Rattle.hm_model.specs.Phase.{end_of, ended}
use Rattle.hm_model.specs.Procedures.{offset}
use Rattle.hm_model.specs.Records.{record_at, record_of}
use Rattle.hm_model.specs.Rest.{MayUndo}
use Rattle.hm_model.specs.Rules.{IsLegal}
use Rattle.hm_model.specs.Tree.{Node, node_of}
use Rattle.hm_procedures.specs.Changes.{ends_in, has_ended, is_undoing}
use Rattle.hm_procedures.specs.Kept.{kept_at, kept_of}
use Rattle.hm_procedures.specs.declared.kept.Tracked.{Tracked}
use Rattle.hm_procedures.proofs.Firsts.{none_low}
use Rattle.hm_procedures.proofs.Shown.{ended_kept, undoes_kept}

-- who isn't kept isn't there
pub gone_of : (J : Past) (p : ℕ) → None ≡ kept_of J p → node_of J p ≡ None
gone_of J p none = by (node_of J p) refl none
  where
    by : (o : Option Node) → node_of J p ≡ o → None ≡ option_map (kept_at J p) o → o ≡ None
    by None e h = refl
    by (Some x) e h = absurd (none-some (kept_at J p x) h)

-- who is kept is there
pub there_of : (J : Past) (p : ℕ) (one : Tracked) → Some one ≡ kept_of J p → (x : Node) × (node_of J p ≡ Some x) × (one ≡ kept_at J p x)
there_of J p one some = by (node_of J p) refl some
  where
    by : (o : Option Node) → node_of J p ≡ o → Some one ≡ option_map (kept_at J p) o → (x : Node) × (node_of J p ≡ Some x) × (one ≡ kept_at J p x)
    by None e h = absurd (none-some one (sym h))
    by (Some x) e h = (x, e, same_Some one (kept_at J p x) h)

-- nobody is kept of a number up to the offset
pub kept_none : (J : Past) → IsLegal J → (p : ℕ) → p ≤ offset J → None ≡ kept_of J p
kept_none J legal p le = sym (ap (option_map (kept_at J p)) (none_low J legal p le))

pub ended_by : (J : Past) → IsLegal J → (p : ℕ) (one : Tracked) → Some one ≡ kept_of J p → has_ended one ≡ ended J p
ended_by J legal p one is = let t = there_of J p one is in ap has_ended t.2 ∙ ended_kept J legal p t.0 t.1

pub undoes_by : (J : Past) → IsLegal J → (p : ℕ) (one : Tracked) → Some one ≡ kept_of J p → (b : Bool) → b ≡ is_undoing one → IsTrue b ↔ MayUndo J p
undoes_by J legal p one is b said =
    let t = there_of J p one is in
    let same : b ≡ undoes J p t.0 = said ∙ ap is_undoing t.2 ∙ undoes_kept J legal p t.0 t.1 in
    (λ on. (t.0, t.1, sym same ∙ on), λ may. same ∙ ap (undoes J p) (same_Some t.0 may.0 (sym t.1 ∙ may.1)) ∙ may.2)

-- who is kept is shown as told
pub shown_by : (J : Past) (p : ℕ) (one : Tracked) → Some one ≡ kept_of J p → Some one.shown ≡ record_of J p
shown_by J p one is = let t = there_of J p one is in ap (λ (k : Tracked). Some k.shown) t.2 ∙ sym (ap (option_map (record_at J p)) t.1)

-- the same list, where there is one
pub ends_said : {A E : Type 0} {xs ys : List A} (r : Result (List A) E) → xs ≡ ys → IfOk r (λ ends. ends ≡ xs) → IfOk r (λ ends. ends ≡ ys)
ends_said (Ok ends) same said = said ∙ same
ends_said (Err e) same said = tt

-- one end more
pub ends_more : (low : ℕ) (kept : List Tracked) (from i : ℕ) (one : Tracked) → slice_get kept (from + i - low) ≡ Some one → ends_in low kept from i ++ end_of (from + i + 1) (done_with one.last) ≡ ends_in low kept from (i + 1)
ends_more low kept from i one is =
    let e : suc i ≡ i + 1 = omega arith in
    sym (ap (λ o. ends_in low kept from i ++ (elim o as (λ x. List (Pid × Told)) [ None ↦ [] | Some x ↦ end_of (from + i + 1) (done_with x.last) ])) is) ∙ ap (ends_in low kept from) e

pub ends_push : (low : ℕ) (kept : List Tracked) (from i : ℕ) (one : Tracked) → slice_get kept (from + i - low) ≡ Some one → (ends new : List (Pid × Told)) → ends ≡ ends_in low kept from i → new ≡ ends ++ end_of (from + i + 1) (done_with one.last) → new ≡ ends_in low kept from (i + 1)
ends_push low kept from i one is ends new was more = more ∙ ap (λ l. l ++ end_of (from + i + 1) (done_with one.last)) was ∙ ends_more low kept from i one is
