-- An answer that is recorded, or isn't.
use Rattle.std.proofs.Common.{◌≡◌, ◌≢◌, ◌+◌, ◌∷◌, [], ℕ, List, Bool, Err, None, Ok, Some, Option, inl, inr, refl, ap, sym, subst, ◌∙◌}
use Rattle.hm_names.specs.Server.{Server}
use Rattle.hm_names.specs.declared.pid.Pid.{Pid}
use Rattle.hm_data.specs.declared.entry.Entry.{Entry}
use Rattle.hm_data.specs.declared.entry.Entry.TheVariants as entry_is
use Rattle.hm_data.specs.declared.step.StepOut.{StepOut}
use Rattle.hm_data.specs.declared.step.Turn.{Turn}
use Rattle.hm_data.specs.declared.step.Turn.TheVariants as turn_is
use Rattle.hm_hall.specs.Recording.{Recording, Records, past_in, halt_of}
use Rattle.hm_hall.specs.declared.fault.HallFault.{HallFault}
use Rattle.hm_hall.specs.declared.fault.HallFault.TheVariants as fault_is
use Rattle.hm_hall.specs.declared.taken.Taken.{Taken}
use Rattle.hm_judge.specs.Fresh.{FreshStepsFollow, FreshUndosFollow}
use Rattle.hm_judge.proofs.Editions.{seen_sheets}
use Rattle.hm_locks.specs.Book.{NoneClash}
use Rattle.hm_model.specs.Evaluation.{answer_of}
use Rattle.hm_model.specs.Holding.{IsFree}
use Rattle.hm_model.specs.Journal.{Past}
use Rattle.hm_model.specs.Locks.{IsIn}
use Rattle.hm_model.specs.Rules.{Allowed, IsLegal}
use Rattle.hm_model.specs.Sheets.{sheets_by}
use Rattle.hm_model.specs.Tree.{made, root_of}
use Rattle.hm_model.specs.Claims.{Unclaims}
use Rattle.hm_roster.specs.Behind.{IsUndoOf}
use Rattle.hm_roster.specs.Roster.{Follows, IsEnlistedFor, IsStepOf, claims_on, number_on, roster_of, rows_on}
use Rattle.hm_roster.specs.declared.desk.Desk.{Desk}
use Rattle.hm_tied.specs.Ables.{IsNotBy}
use Rattle.hm_tied.specs.Entries.{alters}
use Rattle.hm_tied.specs.Tied.{IsTied, Roster}
use Rattle.hm_tied.proofs.Ables.{claimed_stay_able}
use Rattle.hm_tied.proofs.Uses.{none_clash_ties}
use Rattle.hm_exec.specs.Adding.{Adds}
use Rattle.hm_exec.specs.Claiming.{Commits, IsAnswer, IsFresh, RefusesCommit, entry_by, entry_of}
use Rattle.hm_exec.specs.Moment.{IsGoing, Moment, past_of}
use Rattle.hm_exec.specs.View.{AreAble, IsExec}
use Rattle.hm_exec.proofs.Going.{past_more}

-- where no two that hold clash in the book, whoever is claimed conflicts with none that has a step
pub claimed_free : (J : Past) (n : Option Server → ℕ) (roster : Roster) (p : ℕ) → IsTied J n roster → NoneClash roster.rows → IsIn p roster.claimed → IsFree J [] p
claimed_free J n roster p tied apart mine q holds clash =
    let opened = (tied.claims p mine).0 in
    none_clash_ties J n roster tied apart p q (opened.0, opened.1, inr mine) (holds.0, holds.1, elim holds.2 [ inl some ↦ inl some | inr among ↦ absurd among ]) clash

-- the entry of an answer, by its turn
pub step_is : (taken : Taken) (out : StepOut) → taken.was.turn ≡ turn_is.Step → entry_of taken out ≡ entry_is.Step taken.pid taken.was.pick out
step_is taken out turn = ap (λ (t : Turn). entry_by t taken.pid.0 taken.was out) turn

pub undo_is : (taken : Taken) (out : StepOut) → taken.was.turn ≢ turn_is.Step → entry_of taken out ≡ entry_is.Undo taken.was.pid taken.was.row out
undo_is taken out other = by taken.was.turn refl
  where
    by : (turn : Turn) → taken.was.turn ≡ turn → entry_of taken out ≡ entry_is.Undo taken.was.pid taken.was.row out
    by turn_is.Step is = absurd (other is)
    by (turn_is.Undo edits) is = ap (λ (t : Turn). entry_by t taken.pid.0 taken.was out) is

-- a fresh answer of a claimed procedure may follow
module _ (J : Past) (desk : Desk) (taken : Taken) (out : StepOut) (legal : IsLegal J) (follows : Follows J desk) (able : AreAble J desk) (mine : IsIn taken.pid.0 (claims_on desk)) (fresh : IsFresh J taken) (answer : IsAnswer J taken.was out) where
  -- it is by the sheets of its root
  own_answer : answer_of (sheets_by J fresh.1.0.root) taken.was ≡ Some out
  own_answer = ap (λ sheets. answer_of sheets taken.was) (seen_sheets J legal taken.pid.0 fresh.1.0 fresh.1.1 (let was = taken.was in was.pick) taken.was fresh.1.2) ∙ answer

  pub step_allowed : FreshStepsFollow → NoneClash (rows_on desk) → taken.was.turn ≡ turn_is.Step → Allowed J (entry_is.Step taken.pid taken.was.pick out)
  step_allowed follow apart turn =
      follow J taken.pid fresh.1.0 taken.was out legal fresh.1.1 (able taken.pid.0 mine) fresh.0 fresh.1.2 turn
      (claimed_free J (number_on desk) (roster_of desk) taken.pid.0 follows.tied apart mine) own_answer

  pub undo_allowed : FreshUndosFollow → taken.was.turn ≢ turn_is.Step → Allowed J (entry_is.Undo taken.was.pid taken.was.row out) × (root_of J taken.was.pid.0 ≡ taken.pid.0)
  undo_allowed follow other = by taken.was.turn refl
    where
      by : (turn : Turn) → taken.was.turn ≡ turn → Allowed J (entry_is.Undo taken.was.pid taken.was.row out) × (root_of J taken.was.pid.0 ≡ taken.pid.0)
      by turn_is.Step is = absurd (other is)
      by (turn_is.Undo edits) is = follow J taken.pid fresh.1.0 taken.was edits out legal fresh.1.1 (able taken.pid.0 mine) fresh.0 fresh.1.2 is own_answer

-- all but the newest entry
abbrev older : Past → Past
older [] = []
older (entry ∷ before) = before

module _ (old new : Recording) (past more : Past) (number : ℕ) (was : past_in old ≡ past) (same : past_in new ≡ more) where
  -- what the journal said before the entry that was recorded
  before_is : (entry : Entry) (desk : Desk) → Records old entry (Ok number) new → (behind : IsEnlistedFor more entry desk) → made behind.before ≡ made past
  before_is entry desk records behind = ap (λ (J : Past). made (older J)) (sym behind.is ∙ past_more past more old new entry number was same records)

  -- what is known of the desk after a step
  pub step_behind : (pid : Pid) (pick : Option Server) (out : StepOut) (desk : Desk) (low : ℕ) (late : Bool) → Records old (entry_is.Step pid pick out) (Ok number) new → IsEnlistedFor more (entry_is.Step pid pick out) desk
      → low ≡ made past + 1 → late ≡ alters out → IsIn pid.0 (claims_on desk) → IsStepOf more pid low late desk
  step_behind pid pick out desk low late records behind first changes mine = record {
    pick = pick;
    out = out;
    behind = behind;
    first = first ∙ ap (λ (n : ℕ). n + 1) (sym (before_is (entry_is.Step pid pick out) desk records behind));
    changes = changes;
    mine = mine;
  }

  -- and after an undo
  pub undo_behind : (root pid : Pid) (row : ℕ) (out : StepOut) (desk : Desk) (low : ℕ) (late : Bool) → Records old (entry_is.Undo pid row out) (Ok number) new → IsEnlistedFor more (entry_is.Undo pid row out) desk
      → low ≡ made past + 1 → root_of past pid.0 ≡ root.0 → late ≡ alters out → IsIn root.0 (claims_on desk) → IsUndoOf more root low late desk
  undo_behind root pid row out desk low late records behind first roots changes mine =
      let entry = entry_is.Undo pid row out in record {
        pid = pid;
        row = row;
        out = out;
        behind = behind;
        first = first ∙ ap (λ (n : ℕ). n + 1) (sym (before_is entry desk records behind));
        roots = sym roots ∙ ap (λ (J : Past). root_of (older J) pid.0) (sym (past_more past more old new entry number was same records) ∙ behind.is);
        changes = changes;
        mine = mine;
      }

-- after an entry by a claimed procedure, whose claim ends, all others that are claimed can go on
pub goes_on_by : (old new : Recording) (past more : Past) (desk after : Desk) (entry : Entry) (number p : ℕ) → IsExec old past desk → past_in new ≡ more → Follows more after → IsLegal past → Allowed past entry
    → Records old entry (Ok number) new → Unclaims p (claims_on desk) (claims_on after) → ((q : ℕ) → q ≢ p → IsNotBy past entry q) → IsExec new more after
goes_on_by old new past more desk after entry number p was same follows legal allowed records less others = record {
  same = same;
  follows = follows;
  able =
      subst (λ (J : Past). AreAble J after) (sym (past_more past more old new entry number was.same same records))
      (λ q is.
      let both = (less q).0 is in claimed_stay_able entry past (number_on desk) (roster_of desk) (legal, allowed) was.follows.tied was.able q both.0 (others q both.1));
}

-- a recorder, and who is claimed
abbrev at : Recording → List ℕ → Moment
at kept claims = record { kept = kept; claimed = claims }

module _ (old new : Recording) (claims after : List ℕ) (taken : Taken) (out : StepOut) (entry : Entry) (is : entry_of taken out ≡ entry) (going : halt_of old ≡ None) (fresh : IsFresh (past_in old) taken) (allowed : Allowed (past_in old) entry) where
  -- what an answer that is recorded tells
  pub commits : (number : ℕ) → Records old entry (Ok number) new → Unclaims taken.pid.0 claims after → Commits (record { kept = old; claimed = claims }) taken out number (record { kept = new; claimed = after })
  commits number records less = (
    going,
    fresh,
    subst (Allowed (past_in old)) (sym is) allowed,
    subst (λ (e : Entry). Records old e (Ok number) new) (sym is) records,
    less,
  )

  -- and one that isn't
  pub refuses_commit : (fault : HallFault) → Adds old entry (Err fault) new → after ≡ claims → RefusesCommit (record { kept = old; claimed = claims }) taken out fault (record { kept = new; claimed = after })
  refuses_commit fault adds same = by fault (subst (λ (e : Entry). Adds old e (Err fault) new) (sym is) adds)
    where
      may : Allowed (past_in old) (entry_of taken out)
      may = subst (Allowed (past_in old)) (sym is) allowed

      all : new ≡ old → at new after ≡ at old claims
      all kept = ap (λ (k : Recording). at k after) kept ∙ ap (at old) same

      by : (fault : HallFault) → Adds old (entry_of taken out) (Err fault) new → RefusesCommit (record { kept = old; claimed = claims }) taken out fault (record { kept = new; claimed = after })
      by fault_is.LogFault adds = (fresh, (going, may, (adds, same)))
      by (fault_is.JournalFull bytes) adds = (fresh, (going, may, (adds, same)))
      by (fault_is.Halted why) adds = (adds.0, all adds.1)
      by fault_is.Memory adds = (going, all adds.1)

-- a claimed procedure's fresh answer is to be recorded
abbrev pub CanCommit : Moment → Taken → StepOut → Type 0
CanCommit now taken out = IsGoing now × IsIn taken.pid.0 now.claimed × IsFresh (past_of now) taken × IsAnswer (past_of now) taken.was out

module _ (kept : Recording) (past : Past) (desk : Desk) (was : IsExec kept past desk) (taken : Taken) (out : StepOut) (can : CanCommit (record { kept = kept; claimed = claims_on desk }) taken out) where
  fresh_now : IsFresh past taken
  fresh_now = subst (λ (J : Past). IsFresh J taken) was.same can.2

  answer_now : IsAnswer past taken.was out
  answer_now = subst (λ (J : Past). IsAnswer J taken.was out) was.same can.3

  -- its entry may follow
  pub step_now : IsLegal past → FreshStepsFollow → NoneClash (rows_on desk) → taken.was.turn ≡ turn_is.Step → Allowed past (entry_is.Step taken.pid taken.was.pick out)
  step_now legal = step_allowed past desk taken out legal was.follows was.able can.1 fresh_now answer_now

  pub undo_now : IsLegal past → FreshUndosFollow → taken.was.turn ≢ turn_is.Step → Allowed past (entry_is.Undo taken.was.pid taken.was.row out) × (root_of past taken.was.pid.0 ≡ taken.pid.0)
  undo_now legal = undo_allowed past desk taken out legal was.follows was.able can.1 fresh_now answer_now

  -- what is told where it was recorded, and where it wasn't
  module _ (entry : Entry) (is : entry_of taken out ≡ entry) (allowed : Allowed past entry) (new : Recording) (after : List ℕ) where
    earlier : Allowed (past_in kept) entry
    earlier = subst (λ (J : Past). Allowed J entry) (sym was.same) allowed

    pub commits_now : (number : ℕ) → Records kept entry (Ok number) new → Unclaims taken.pid.0 (claims_on desk) after
        → Commits (record { kept = kept; claimed = claims_on desk }) taken out number (record { kept = new; claimed = after })
    commits_now = commits kept new (claims_on desk) after taken out entry is can.0 can.2 earlier

    pub refuses_now : (fault : HallFault) → Adds kept entry (Err fault) new → after ≡ claims_on desk → RefusesCommit (record { kept = kept; claimed = claims_on desk }) taken out fault (record { kept = new; claimed = after })
    refuses_now = refuses_commit kept new (claims_on desk) after taken out entry is can.0 can.2 earlier
