-- Procedures as JSON have no floats, so that their text is told.
use Rattle.std.proofs.Common.{Vec, Global, ◌≡◌, ℕ, List, [], ◌∷◌, ◌||◌, false, None, Some, Option, map, refl, ap, ◌∙◌}
use Rattle.serde_json.specs.Data.{array}
use Rattle.serde_json.specs.View.{items_of, view}
use Rattle.serde_json.specs.Written.{compact_text, has_float, items_have_float}
use Rattle.serde_json.specs.declared.value.Value.{Value, Array}
use Rattle.serde_json.proofs.Views.{view-Array}
use Rattle.hm_names.specs.declared.pid.Pid.{Pid}
use Rattle.hm_data.specs.declared.answer.Cause.{Cause}
use Rattle.hm_data.specs.declared.record.Record.{Record}
use Rattle.hm_show.specs.Procs.{cause_value, parent_value, proc_value}
use Rattle.hm_show.specs.Words.{cause_in}

in_cause : (cause : Option Cause) → has_float (cause_value cause) ≡ false
in_cause None = refl
in_cause (Some cause) = refl

in_parent : (parent : Option Pid) → has_float (parent_value parent) ≡ false
in_parent None = refl
in_parent (Some pid) = refl

in_proc : (one : Record) → has_float (proc_value one) ≡ false
in_proc one = ap (λ b. b || (has_float (parent_value one.parent) || false)) (in_cause (cause_in one.phase)) ∙ ap (λ b. b || false) (in_parent one.parent)

in_procs : (ones : List Record) → items_have_float (items_of (map proc_value ones)) ≡ false
in_procs [] = refl
in_procs (one ∷ ones) = ap (λ b. b || items_have_float (items_of (map proc_value ones))) (in_proc one) ∙ in_procs ones

pub text_told : (values : Vec Value Global) (ones : List Record) (text : List ℕ) → map view values.items ≡ map proc_value ones
    → (has_float (view (Array values)) ≡ false → text ≡ compact_text (view (Array values))) → text ≡ compact_text (array (items_of (map proc_value ones)))
text_told values ones text same told =
    let is : view (Array values) ≡ array (items_of (map proc_value ones)) = view-Array values ∙ ap (λ l. array (items_of l)) same in
    told (ap has_float is ∙ in_procs ones) ∙ ap compact_text is
