-- Whether an answer fits a call, by the procedure as it is shown.
use Rattle.std.proofs.Common.{◌≡◌, ◌↔◌, ℕ, Bool, true, is_some, IsTrue, Option, Some, None, refl, ap, sym, ◌∙◌}
use Rattle.std.proofs.lemmas.Bool.{false≢true}
use Rattle.hm_data.specs.declared.call.Told.{Told}
use Rattle.hm_data.specs.declared.call.Verb.{Verb}
use Rattle.hm_data.specs.declared.record.Record.{Record}
use Rattle.hm_model.specs.Journal.{Past}
use Rattle.hm_model.specs.Records.{record_of}
use Rattle.hm_model.specs.Reports.{fits_verb, verb_of}
use Rattle.hm_model.specs.Rules.{FitsCall, IsLegal}
use Rattle.hm_model.specs.Verbs.{verb_in}
use Rattle.hm_model.proofs.Calls.{calls_own}
use Rattle.hm_judge.specs.Reports.{fits_args, fits_if}
use Rattle.hm_judge.proofs.Found.{gone_of, nobody, shown_of}

some_verb : (o : Option Verb) → is_some o ≡ true → (verb : Verb) × (o ≡ Some verb)
some_verb None e = absurd (false≢true e)
some_verb (Some verb) e = (verb, refl)

-- what fits a recorded call fits what its procedure works on
fits_own : (J : Past) → IsLegal J → (p : ℕ) (its : Record) → Some its ≡ record_of J p → (told : Told) (verb : Verb) → verb_of J p ≡ Some verb → fits_args its.args told ≡ fits_verb verb told
fits_own J legal p its some told verb is =
    let own = calls_own J legal p verb is in
    let works : verb_in its.args ≡ Some verb = ap (λ (r : Record). verb_in r.args) (shown_of J p its some own.0 own.1) ∙ own.2 in
    ap (λ v. fits_if v told) works

pub fits_iff : (J : Past) → IsLegal J → (p : ℕ) (its : Record) → Some its ≡ record_of J p → (told : Told) → is_some (verb_of J p) ≡ true → (fits : Bool) → fits ≡ fits_args its.args told → IsTrue fits ↔ FitsCall J p told
fits_iff J legal p its some told called fits said =
    let verb = some_verb (verb_of J p) called in (
      λ on. λ other is. sym (fits_own J legal p its some told other is) ∙ sym said ∙ on,
      λ all. said ∙ fits_own J legal p its some told verb.0 verb.1 ∙ all verb.0 verb.1,
    )

pub fits_nobody : (J : Past) → IsLegal J → (p : ℕ) → None ≡ record_of J p → (told : Told) → IsTrue true ↔ FitsCall J p told
fits_nobody J legal p none told = (
  λ on. λ verb is. let own = calls_own J legal p verb is in absurd (nobody J p (gone_of J p none) own.0 own.1),
  λ all. refl,
)
