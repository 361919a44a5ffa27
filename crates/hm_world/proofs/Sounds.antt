-- What is recorded stays safe with what is outside.
use Rattle.std.proofs.Common.{◌≡◌, ◌≢◌, ℕ, ◌∷◌, false, None, Option, Some, Result, Ok, Err, refl, sym, ◌∙◌, inl, inr, subst}
use Rattle.std.proofs.lemmas.Option.{none-some, same_Some}
use Rattle.hm_data.specs.declared.entry.Entry.{Entry}
use Rattle.hm_hall.specs.Recording.{Recording, Records}
use Rattle.hm_hall.specs.declared.fault.Halt.{Halt}
use Rattle.hm_hall.specs.declared.fault.Halt.TheVariants.{LogFault}
use Rattle.hm_hall.specs.declared.fault.RecordFault.{RecordFault}
use Rattle.hm_hall.specs.declared.fault.RecordFault.TheVariants as record_is
use Rattle.hm_model.specs.Journal.{Past, back}
use Rattle.hm_model.specs.Laws.{is_part}
use Rattle.hm_model.specs.Rules.{Allowed}
use Rattle.hm_model.proofs.Prefixes.{back-push}
use Rattle.hm_world_model.specs.Outside.{Outside}
use Rattle.hm_world_model.specs.Runs.{IsTrueReport}
use Rattle.hm_world_model.specs.Safe.{Safe}
use Rattle.hm_world_model.proofs.Keeping.{entries_keep}
use Rattle.hm_world.specs.Sound.{IsSafeWith}
use Rattle.hm_world.proofs.Entered.{Entered}

-- what nothing halted no fault of the log did
no_fault : (halt : Option Halt) → halt ≡ None → halt ≢ Some LogFault
no_fault halt going fault = none-some LogFault (sym going ∙ fault)

-- so it has no tail
no_tail : (kept : Recording) (o : Outside) → IsSafeWith kept o → kept.halted ≡ None → kept.tail ≡ None
no_tail kept o safe going = safe.tailless (no_fault kept.halted going)

-- after an entry that is no part of a base, and was recorded, or refused
safe_recorded : (old new : Recording) (o : Outside) (entry : Entry) (result : Result ℕ RecordFault) → IsSafeWith old o → Allowed (back old.entries) entry → IsTrueReport o entry → is_part entry ≡ false → Records old entry result new → IsSafeWith new o
safe_recorded old new o entry (Ok number) safe may true_report other records =
    subst (λ (k : Recording). IsSafeWith k o) (sym records.3) (record {
      safe = subst (λ J. Safe J o) (sym (back-push old.entries entry)) (entries_keep (back old.entries) o safe.safe entry may true_report);
      tailed = λ tail is. absurd (none-some tail (sym (no_tail old o safe records.0) ∙ is));
      tailless = λ going. no_tail old o safe records.0;
      other = λ tail is. absurd (none-some tail (sym (no_tail old o safe records.0) ∙ is));
    })
safe_recorded old new o entry (Err (record_is.Halted why)) safe may true_report other records = subst (λ (k : Recording). IsSafeWith k o) (sym records.1) safe
safe_recorded old new o entry (Err (record_is.JournalFull bytes)) safe may true_report other records =
    subst (λ (k : Recording). IsSafeWith k o) (sym records.3) (record {
      safe = safe.safe;
      tailed = λ tail is. absurd (none-some tail (sym (no_tail old o safe records.0) ∙ is));
      tailless = λ going. no_tail old o safe records.0;
      other = λ tail is. absurd (none-some tail (sym (no_tail old o safe records.0) ∙ is));
    })
safe_recorded old new o entry (Err record_is.LogFault) safe may true_report other records =
    subst (λ (k : Recording). IsSafeWith k o) (sym records.2) (record {
      safe = safe.safe;
      tailed = λ tail is. subst (λ e. Safe (e ∷ back old.entries) o) (same_Some entry tail is) (entries_keep (back old.entries) o safe.safe entry may true_report);
      tailless = λ going. absurd (going refl);
      other = λ tail is. subst (λ e. is_part e ≡ false) (same_Some entry tail is) other;
    })

-- after a call of the executor
pub safe_entered : (P : Entry → Type 0) (old new : Recording) (o : Outside) → ((entry : Entry) → P entry → IsTrueReport o entry × (is_part entry ≡ false)) → IsSafeWith old o → Entered P old new → IsSafeWith new o
safe_entered P old new o tells safe (inl same) = subst (λ (k : Recording). IsSafeWith k o) (sym same) safe
safe_entered P old new o tells safe (inr (entry, holds, may, result, records)) = let its = tells entry holds in safe_recorded old new o entry result safe may its.0 its.1 records

-- while what is outside changes
pub safe_outside : (kept : Recording) (o o' : Outside) → ((J : Past) → Safe J o → Safe J o') → IsSafeWith kept o → IsSafeWith kept o'
safe_outside kept o o' stays safe = record {
  safe = stays (back kept.entries) safe.safe;
  tailed = λ tail is. stays (tail ∷ back kept.entries) (safe.tailed tail is);
  tailless = safe.tailless;
  other = safe.other;
}

-- the same where nothing halted it, so that there is no tail
pub safe_going : (kept : Recording) (o o' : Outside) → kept.halted ≡ None → Safe (back kept.entries) o' → IsSafeWith kept o → IsSafeWith kept o'
safe_going kept o o' going now safe = record {
  safe = now;
  tailed = λ tail is. absurd (none-some tail (sym (no_tail kept o safe going) ∙ is));
  tailless = safe.tailless;
  other = safe.other;
}
