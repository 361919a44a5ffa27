-- After an entry that was recorded.
use Rattle.std.proofs.Common.{◌≡◌, ◌∷◌, ℕ, Ok, ap, sym, subst, ◌∙◌}
use Rattle.hm_data.specs.declared.entry.Entry.{Entry}
use Rattle.hm_hall.specs.Recording.{Recording, Records, entries_of, past_in}
use Rattle.hm_model.specs.Journal.{Past}
use Rattle.hm_model.specs.Locks.{IsIn}
use Rattle.hm_model.specs.Rules.{IsLegal}
use Rattle.hm_model.proofs.Prefixes.{back-push}
use Rattle.hm_roster.specs.Roster.{Follows, claims_on, number_on, roster_of}
use Rattle.hm_roster.specs.declared.desk.Desk.{Desk}
use Rattle.hm_tied.specs.Ables.{IsNotBy}
use Rattle.hm_tied.proofs.Ables.{claimed_stay_able}
use Rattle.hm_exec.specs.View.{AreAble}

-- what is recorded has the entry as its newest
pub recorded : (old new : Recording) (entry : Entry) (number : ℕ) → Records old entry (Ok number) new → past_in new ≡ entry ∷ past_in old
recorded old new entry number records = ap past_in records.3 ∙ back-push (entries_of old) entry

-- the journal, back from its newest entry, has one more
pub past_more : (old past : Past) (was new : Recording) (entry : Entry) (number : ℕ) → past_in was ≡ old → past_in new ≡ past → Records was entry (Ok number) new
    → past ≡ entry ∷ old
past_more old past was new entry number same more records = sym more ∙ recorded was new entry number records ∙ ap (λ (J : Past). entry ∷ J) same

-- whoever is claimed can go on after an entry that isn't by one of them
pub able_behind : (entry : Entry) (J : Past) (desk new : Desk) → IsLegal (entry ∷ J) → Follows J desk → AreAble J desk → claims_on new ≡ claims_on desk
    → ((q : ℕ) → IsIn q (claims_on desk) → IsNotBy J entry q) → AreAble (entry ∷ J) new
able_behind entry J desk new legal follows able same others q is =
    let was = subst (IsIn q) same is in
    claimed_stay_able entry J (number_on desk) (roster_of desk) legal follows.tied able q was (others q was)
