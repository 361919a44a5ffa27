-- An entry that is recorded, or isn't; and a submission.
use Rattle.std.proofs.Common.{◌≡◌, ◌+◌, ℕ, List, Err, Ok, false, inl, refl, ap, sym, subst, ◌∙◌}
use Rattle.hm_names.specs.declared.nonce.Nonce.{Nonce}
use Rattle.hm_data.specs.declared.entry.Entry.{Entry}
use Rattle.hm_data.specs.declared.entry.Entry.TheVariants as entry_is
use Rattle.hm_data.specs.declared.request.Request.{Request}
use Rattle.hm_hall.specs.Recording.{Recording, Records, past_in}
use Rattle.hm_hall.specs.declared.fault.HallFault.{HallFault}
use Rattle.hm_hall.specs.declared.fault.HallFault.TheVariants as fault_is
use Rattle.hm_model.specs.Journal.{Past}
use Rattle.hm_model.specs.Locks.{IsIn}
use Rattle.hm_model.specs.Rules.{Allowed, IsLegal}
use Rattle.hm_model.specs.Tree.{made}
use Rattle.hm_roster.specs.Roster.{Follows, claims_on}
use Rattle.hm_roster.specs.declared.desk.Desk.{Desk}
use Rattle.hm_tied.specs.Ables.{IsNotBy}
use Rattle.hm_tied.specs.Tied.{CanGo}
use Rattle.hm_exec.specs.Adding.{Adds}
use Rattle.hm_exec.specs.Submitting.{IsWelcome, Submits}
use Rattle.hm_exec.specs.View.{AreAble, IsExec}
use Rattle.hm_exec.proofs.Going.{able_behind, past_more}

-- where nothing is recorded the journal is the same
unrecorded : (old new : Recording) (entry : Entry) (fault : HallFault) → Adds old entry (Err fault) new → past_in new ≡ past_in old
unrecorded old new entry fault_is.LogFault adds = ap past_in adds.2
unrecorded old new entry (fault_is.JournalFull bytes) adds = ap past_in adds.3
unrecorded old new entry (fault_is.Halted why) adds = ap past_in adds.1
unrecorded old new entry fault_is.Memory adds = ap past_in adds.1

module _ (old new : Recording) (past more : Past) (desk after : Desk) (was : IsExec old past desk) (same : past_in new ≡ more) (follows : Follows more after) (claims : claims_on after ≡ claims_on desk) where
  -- where nothing is recorded all is as it was
  pub stays : (entry : Entry) (fault : HallFault) → Adds old entry (Err fault) new → IsExec new more after
  stays entry fault adds =
      let is : past ≡ more = sym was.same ∙ sym (unrecorded old new entry fault adds) ∙ same in
      record { same = same; follows = follows; able = λ q mine. subst (λ (J : Past). CanGo J q) is (was.able q (subst (IsIn q) claims mine)) }

  -- after an entry that is by nobody who is claimed, whoever is can go on
  pub goes_on : (entry : Entry) (number : ℕ) → IsLegal past → Allowed past entry → Records old entry (Ok number) new → ((q : ℕ) → IsIn q (claims_on desk) → IsNotBy past entry q)
      → IsExec new more after
  goes_on entry number legal allowed records others = record {
    same = same;
    follows = follows;
    able =
        subst (λ J. AreAble J after) (sym (past_more past more old new entry number was.same same records))
        (able_behind entry past desk after (legal, allowed) was.follows was.able claims others);
  }

-- where nothing is recorded, and the desk is as it was
pub stays_so : (old new : Recording) (past more : Past) (desk : Desk) → IsExec old past desk → past_in new ≡ more → (entry : Entry) (fault : HallFault) → Adds old entry (Err fault) new → IsExec new more desk
stays_so old new past more desk was same entry fault adds =
    let is : past ≡ more = sym was.same ∙ sym (unrecorded old new entry fault adds) ∙ same in
    subst (λ l. IsExec new l desk) is (record { same = same ∙ sym is; follows = was.follows; able = was.able })

-- what a submission that is recorded answers
pub rooted : (old new : Recording) (past more : Past) (claims after : List ℕ) (nonce : Nonce) (request : Request) (last number : ℕ) → past_in old ≡ past → past_in new ≡ more
    → IsWelcome (record { kept = old; claimed = claims }) nonce request → Allowed (past_in old) (entry_is.Submit nonce request) → Records old (entry_is.Submit nonce request) (Ok number) new
    → last ≡ made more → after ≡ claims
    → Submits (record { kept = old; claimed = claims }) nonce request (record { pid = record { 0 = last }; repeated = false }) (record { kept = new; claimed = after })
rooted old new past more claims after nonce request last number was same welcome allowed records count mine =
    let entry = entry_is.Submit nonce request in
    let next : last ≡ made (past_in old) + 1 =
    count ∙ ap made (past_more past more old new entry number was same records) ∙ ap (λ (J : Past). made J + 1) (sym was) in
    inl (refl, welcome, next, (welcome.0, allowed, (number, records), mine))
