-- Acts that edit nothing, and acts that no root has.
use Rattle.std.proofs.Common.{◌≡◌, ℕ, List, [], ◌∷◌, true, false, refl, sym, ◌∙◌}
use Rattle.std.proofs.lemmas.Bool.{false≢true, true≢false}
use Rattle.hm_data.specs.declared.act.Act.{Act}
use Rattle.hm_data.specs.declared.act.Act.TheVariants as act_is
use Rattle.hm_data.specs.declared.args.Child.{Child}
use Rattle.hm_data.specs.declared.request.Request.{Request}
use Rattle.hm_data.specs.declared.request.Request.TheVariants as request_is
use Rattle.hm_data.specs.declared.step.StepIn.{StepIn}
use Rattle.hm_data.specs.declared.step.StepOut.{StepOut}
use Rattle.hm_model.specs.Acts.{act_answer}
use Rattle.hm_model.specs.Outs.{spawns}
use Rattle.hm_model.specs.ActSorts.{is_edit}
use Rattle.hm_model.specs.Kinds.{table_of_first}
use Rattle.hm_model.specs.MadeOf.{IsMadeOf}
use Rattle.hm_model.proofs.MadeOf.{made_of}
use Rattle.hm_model.proofs.PlainActs.{is_plain}
use Rattle.hm_model.proofs.ExactRows.{is_listed}

-- nothing is edited
abbrev pub IsEditless : StepOut → Type 0
IsEditless out = out.edits ≡ []

none_spawns : (next : ℕ) (children : List Child) → IsEditless (spawns next children)
none_spawns next [] = refl
none_spawns next (child ∷ more) = refl

none_made : (act : Act) (next : ℕ) (at : StepIn) → is_edit act ≡ false → {out : StepOut} → IsMadeOf act next at out → IsEditless out
none_made act next at c (IsMadeOf.edited e edits are) = absurd (true≢false (sym e ∙ c))
none_made act next at c (IsMadeOf.made children makes) = none_spawns next children
none_made act next at c other = refl

pub none_act : (act : Act) → is_plain act ≡ true → is_edit act ≡ false → (next : ℕ) (at : StepIn) → IsEditless (act_answer act next at)
none_act act h c next at = none_made act next at c (made_of act next at)

pub no_adds : (request : Request) → is_listed (Rattle.hm_model.specs.Kinds.request_kind request) act_is.AddRegionRows ≡ true → ⊥
no_adds (request_is.CreateNamespace ns) h = false≢true h
no_adds request h = false≢true h

pub no_drops : (request : Request) → is_listed (Rattle.hm_model.specs.Kinds.request_kind request) act_is.DropRegionRows ≡ true → ⊥
no_drops (request_is.CreateNamespace ns) h = false≢true h
no_drops request h = false≢true h
