-- Tasks, one after another, and how much is left to do.
use Rattle.std.proofs.Common.{◌≡◌, ◌≤◌, ◌<◌, ◌+◌, ◌-◌, ◌*◌, ℕ, zero, suc, Bool, List, [], ◌∷◌, ◌++◌, length, None, Ok, true, false, refl, sym, ap, ◌∙◌, subst, is_some, arith}
use Rattle.std.specs.Option.{option_map}
use Rattle.std.proofs.lemmas.List.Sums.{sum_by-append}
use Rattle.hm_data.specs.declared.call.Call.{Call}
use Rattle.hm_data.specs.declared.call.ReportMsg.{ReportMsg}
use Rattle.hm_data.specs.declared.entry.Entry.{Entry}
use Rattle.hm_data.specs.declared.step.StepIn.{StepIn}
use Rattle.hm_data.specs.declared.step.StepOut.{StepOut}
use Rattle.hm_data.specs.declared.step.Turn.{Turn}
use Rattle.hm_data.specs.declared.step.Turn.TheVariants as turn_is
use Rattle.hm_entry.specs.Spelling.{entry as spelling}
use Rattle.hm_hall.specs.Recording.{Recording, Records, bytes_of}
use Rattle.hm_model.specs.Counts.{one_if}
use Rattle.hm_model.specs.Journal.{Past, back}
use Rattle.hm_model.specs.Rules.{Allowed}
use Rattle.hm_model.proofs.Prefixes.{back-push}
use Rattle.hm_exec.specs.Claiming.{entry_by, entry_of}
use Rattle.hm_world_model.specs.Measure.{calls_made, left_to_carry}
use Rattle.hm_world_model.specs.Outside.{Outside}
use Rattle.hm_world_model.specs.Safe.{IsKept}
use Rattle.hm_world_model.proofs.Raising.{carrying_stays}
use Rattle.hm_world.specs.Carrying.{IsNearer}
use Rattle.hm_world.specs.Scene.{Scene, halted_by, past_in, world_of}
use Rattle.hm_commands.specs.Commands.{IsWork}
use Rattle.hm_commands.specs.Scenes.{kept_at}
use Rattle.hm_commands.specs.Tasks.{Steps, Tasks, Works, left_to_do}
use Rattle.hm_commands.specs.declared.tasks.Worked.TheVariants as worked_is
use Rattle.hm_commands.proofs.Growth.{Grows}

-- one task more
pub tasks_more : (count : ℕ) (old mid new : Scene) → Tasks count old mid → Works mid worked_is.Done new → Tasks (suc count) old new
tasks_more zero old mid new t works = (new, subst (λ (s : Scene). Works s worked_is.Done new) t works, refl)
tasks_more (suc count) old mid new t works = (t.0, t.1, tasks_more count t.0 mid new t.2 works)

-- entries have no fewer bytes than the first of them
bytes_later : (before added : List Entry) → bytes_of before ≤ bytes_of (before ++ added)
bytes_later before added = let all = sum_by-append (λ (entry : Entry). length (spelling entry) + 5) before added in omega arith

bytes_push : (before : List Entry) (entry : Entry) → bytes_of (before ++ entry ∷ []) ≡ bytes_of before + length (spelling entry) + 5
bytes_push before entry = let all = sum_by-append (λ (entry : Entry). length (spelling entry) + 5) before (entry ∷ []) in omega arith

-- how much is left to carry by what counts
abbrev left_of : Past → Outside → List Call → List ReportMsg → ℕ
left_of J o wire waiting = left_to_carry (record { past = J; tail = None; durable = 0; taken = []; claimed = []; wire = wire; waiting = waiting; outside = o; halted = None; rolled = None })

one_call : (b : Bool) → one_if b ≤ 1
one_call true = omega arith
one_call false = omega arith

few_calls : (turn : Turn) (p : ℕ) (was : StepIn) (out : StepOut) → calls_made (entry_by turn p was out) ≤ 1
few_calls turn_is.Step p was out = one_call (is_some out.call)
few_calls (turn_is.Undo edits) p was out = omega arith

less_by : (hard before after size left more : ℕ) → after ≡ before + size + 5 → before + size + 5 ≤ hard → more ≤ left + 3 → 4 * (hard - after) + more + 1 ≤ 4 * (hard - before) + left
less_by hard before after size left more is within few = omega arith

-- after a step less is left to do
pub step_less : (old new : Scene) → IsKept (world_of old) → Steps old worked_is.Done new → left_to_do new + 1 ≤ left_to_do old
step_less old new kept s =
    let taken = s.taken in
    let out = s.runs.0 in
    let entry = entry_of taken out in
    let mid = s.mid in
    let same : kept_at mid ≡ kept_at old = s.takes.0.3 in
    let commits = s.runs.2.1.0 in
    let records = subst (λ (k : Recording). Records k entry (Ok s.runs.2.0) (kept_at new)) same commits.3 in
    let allowed = subst (λ (k : Recording). Allowed (back k.entries) entry) same commits.2 in
    let raises = (carrying_stays (world_of old) kept).4 entry (ap (λ h. option_map halted_by h) records.0, allowed) in
    let few : calls_made entry ≤ 1 = few_calls taken.was.turn taken.pid.0 taken.was out in
    let outside : new ≡ record old { exec = new.exec } = s.runs.2.1.1 ∙ ap (λ (m : Scene). record m { exec = new.exec }) s.takes.1 in
    let entries : (kept_at new).entries ≡ (kept_at old).entries ++ entry ∷ [] = ap (λ (k : Recording). k.entries) records.3 in
    let hard : (kept_at new).hard ≡ (kept_at old).hard = ap (λ (k : Recording). k.hard) records.3 in
    let past : past_in new ≡ entry ∷ past_in old = ap back entries ∙ back-push (kept_at old).entries entry in
    let left : left_to_carry (world_of new) ≡ left_of (entry ∷ past_in old) old.outside old.wire old.waiting =
    ap (λ (m : Scene). left_of (past_in new) m.outside m.wire m.waiting) outside ∙ ap (λ (J : Past). left_of J old.outside old.wire old.waiting) past in
    let size = ap bytes_of entries ∙ bytes_push (kept_at old).entries entry in
    let within : bytes_of (kept_at old).entries + length (spelling entry) + 5 ≤ (kept_at old).hard = not_over _ _ records.1 in
    let all = less_by (kept_at old).hard (bytes_of (kept_at old).entries) (bytes_of (kept_at new).entries) (length (spelling entry)) (left_to_carry (world_of old)) (left_to_carry (world_of new)) size within (omega (arith, raises, few, left)) in
    omega (arith, all, hard)
  where
    not_over : (hard sum : ℕ) → (hard < sum → ⊥) → sum ≤ hard
    not_over hard sum not = omega (arith, not)

-- so it is after a message that is nearer
pub carry_less : (old new : Scene) → Grows IsWork (kept_at old) (kept_at new) → IsNearer old new → left_to_do new + 1 ≤ left_to_do old
carry_less old new grows nearer =
    let later : bytes_of (kept_at old).entries ≤ bytes_of (kept_at new).entries = subst (λ (l : List Entry). bytes_of (kept_at old).entries ≤ bytes_of l) (sym grows.grown) (bytes_later (kept_at old).entries grows.added) in
    let hard = grows.hard in
    omega (arith, later, hard, nearer)
