-- How moves are submitted, one after another.
use Rattle.std.proofs.Common.{codes, arith, ◌≡◌, ◌≢◌, ℕ, List, [], ◌∷◌, ◌++◌, length, map, Option, Some, None, Bool, true, false, Result, Ok, Err, refl, sym, ap, ◌∙◌, subst, inl, inr, append-nil, append_assoc}
use Rattle.std.specs.Prelude.{IfOk, OnOk}
use Rattle.std.specs.Result.{IsErrAnd, result_ok}
use Rattle.std.specs.List.{flat_map}
use Rattle.std.specs.Global.{Vec}
use Rattle.std.proofs.lemmas.Grind.{flat_map-append}
use Rattle.std.proofs.lemmas.List.{map-append}
use Rattle.std.specs.Fmt.{decimal}
use Rattle.hm_names.specs.Regions.{region_text}
use Rattle.hm_names.specs.Servers.{server_text}
use Rattle.hm_names.specs.declared.nonce.Nonce.{Nonce}
use Rattle.hm_names.specs.declared.pid.Pid.{Pid}
use Rattle.hm_data.specs.declared.request.Request.{Request}
use Rattle.hm_hall.specs.declared.fault.Halt.{Halt}
use Rattle.hm_refusals.specs.declared.submissions.Refused.{Refused}
use Rattle.hm_refusals.specs.declared.submissions.Refused.TheVariants as refused_is
use Rattle.hm_exec.specs.Moment.{Moment}
use Rattle.hm_exec.specs.Submitting.{AnswersSubmit}
use Rattle.hm_exec.specs.declared.answers.Accepted.{Accepted}
use Rattle.hm_world.specs.Carrying.{OnlyExec}
use Rattle.hm_world.specs.Scene.{Scene, past_in}
use Rattle.hm_commands.specs.Answer.{answer_text}
use Rattle.hm_moves.specs.Planned.{ArePlanned}
use Rattle.hm_commands.specs.Balancing.{AreRecorded, Balances, Ends, HaltsAt, IsEndOf, IsOther, MayTry, SubmitsMove, Tries, head_text, move_text}
use Rattle.hm_commands.specs.Scenes.{halt_at}
use Rattle.hm_commands.specs.Submissions.{Submits}
use Rattle.hm_commands.specs.Telling.{told_accepted, told_full, told_submit}
use Rattle.hm_commands.specs.declared.answer.Answer.{Answer}
use Rattle.hm_commands.specs.declared.answer.Answer.TheVariants as answer_is
use Rattle.hm_moves.specs.declared.moving.Move.{Move}

-- only what memory ran out for isn't told
untold_accepted : (pid : Pid) (repeated : Bool) → None ≡ told_accepted pid repeated → ⊥
untold_accepted pid true is = cc
untold_accepted pid false is = cc

untold_full : (halted : Option Halt) (bytes : ℕ) → None ≡ told_full halted bytes → ⊥
untold_full None bytes is = cc
untold_full (Some why) bytes is = cc

-- a submission that isn't told left all as it was
pub unsubmitted : (nonce : Nonce) (request : Request) (old new : Scene) → Submits nonce request old None new → new ≡ old
unsubmitted nonce request old new (result, a, only, told) = by result a told
  where
    by : (result : Result Accepted Refused) → AnswersSubmit old.exec nonce request result new.exec → None ≡ told_submit (halt_at new) result → new ≡ old
    by (Ok accepted) a told = absurd (untold_accepted accepted.pid accepted.repeated told)
    by (Err (refused_is.NonceClash pid)) a told = absurd (cc)
    by (Err (refused_is.BadArgs number)) a told = absurd (cc)
    by (Err (refused_is.TooManyRegions drawn)) a told = absurd (cc)
    by (Err (refused_is.JournalFull bytes)) a told = absurd (untold_full (halt_at new) bytes told)
    by (Err (refused_is.Halted why)) a told = absurd (cc)
    by (Err refused_is.LogFault) a told = absurd (cc)
    by (Err refused_is.Memory) a told = only ∙ ap (λ (m : Moment). record old { exec = m }) a.1.1

-- one move more that was recorded
recorded_more : (moved : List (Move × ℕ)) (move : Move) (pid : ℕ) (old mid new : Scene) → AreRecorded moved old mid → SubmitsMove move mid (answer_is.Pid pid) new → AreRecorded (moved ++ (move, pid) ∷ []) old new
recorded_more [] move pid old mid new same submits = (new, subst (λ (s : Scene). SubmitsMove move s (answer_is.Pid pid) new) same submits, refl)
recorded_more (one ∷ moved) move pid old mid new (between, first, rest) submits = (between, first, recorded_more moved move pid between mid new rest submits)

-- pieces after a text, one after another
abbrev left : List ℕ → List (List ℕ) → List ℕ
left text [] = text
left text (piece ∷ more) = left (text ++ piece) more

left_is : (text : List ℕ) (pieces : List (List ℕ)) → left text pieces ≡ text ++ flat_map (λ piece. piece) pieces
left_is text [] = sym (append-nil text)
left_is text (piece ∷ more) = left_is (text ++ piece) more ∙ append_assoc text piece (flat_map (λ piece. piece) more)

-- the line of a move, said in three parts
pub move_said : (move : Move) (pid : ℕ) (old begun named all : List ℕ) → begun ≡ old ++ codes "move " → named ≡ begun ++ region_text move.region
    → all ≡ named ++ (codes " from " ++ (server_text move.from ++ (codes " to " ++ (server_text move.to ++ (codes " pid " ++ (decimal pid ++ (codes "\n" ++ [])))))))
    → all ≡ old ++ move_text move pid
move_said move pid old begun named all one two said =
    let pieces = codes " from " ∷ server_text move.from ∷ codes " to " ∷ server_text move.to ∷ codes " pid " ∷ decimal pid ∷ codes "\n" ∷ [] in
    let start = codes "move " ++ region_text move.region in
    said ∙ ap (λ l. l ++ flat_map (λ piece. piece) pieces) (two ∙ ap (λ l. l ++ region_text move.region) one ∙ append_assoc old (codes "move ") (region_text move.region)) ∙ append_assoc old start (flat_map (λ piece. piece) pieces)
    ∙ ap (λ l. old ++ l) (sym (left_is start pieces))

pub when_ok : {T E P Q : Type 0} (r : Result T E) → (P → Q) → OnOk r P → OnOk r Q
when_ok (Ok x) then holds = then holds
when_ok (Err fault) then holds = tt

-- another answer than that the run is halted ends the lines
pub ends_otherwise : (text : List ℕ) (answer : Answer) (lines : Vec ℕ) → ((why : Halt) → answer ≢ answer_is.Halted why) → lines.items ≡ text ++ answer_text answer → IsEndOf text answer (answer_is.Balanced lines)
ends_otherwise text (answer_is.Halted why) lines other is = absurd (other why refl)
ends_otherwise text answer lines other is = (lines, refl, is)

-- the lines of moves
abbrev pub lines_of : List (Move × ℕ) → List ℕ
lines_of moved = flat_map (λ one. move_text one.0 one.1) moved

-- a plan has so many shifts, these of its moves were recorded, and their lines said
pub record SoFar (count : ℕ) (done : List Move) (old at : Scene) (text : List ℕ) : Type 0 where
  pub moved : List (Move × ℕ)
  pub parts : map (λ one. one.0) moved ≡ done
  pub recorded : AreRecorded moved old at
  pub said : text ≡ head_text count ++ lines_of moved

pub none_moved : (count : ℕ) (old : Scene) (text : List ℕ) → text ≡ head_text count → SoFar count [] old old text
none_moved count old text said = record { moved = []; parts = refl; recorded = refl; said = said ∙ sym (append-nil (head_text count)) }

module _ (count : ℕ) (done : List Move) (old mid : Scene) (text : List ℕ) (so_far : SoFar count done old mid text) where
  -- one more was recorded
  pub moved_more : (move : Move) (pid : ℕ) (new : Scene) (more : List ℕ) → SubmitsMove move mid (answer_is.Pid pid) new → more ≡ text ++ move_text move pid → SoFar count (done ++ move ∷ []) old new more
  moved_more move pid new more submits said =
      let moved = so_far.moved in
      record {
        moved = moved ++ (move, pid) ∷ [];
        parts = map-append (λ (one : Move × ℕ). one.0) moved ((move, pid) ∷ []) ∙ ap (λ l. l ++ move ∷ []) so_far.parts;
        recorded = recorded_more moved move pid old mid new so_far.recorded submits;
        said =
            said ∙ ap (λ l. l ++ move_text move pid) so_far.said ∙ append_assoc (head_text count) (lines_of moved) (move_text move pid)
            ∙ ap (λ l. head_text count ++ l)
            (sym (flat_map-append (λ (one : Move × ℕ). move_text one.0 one.1) moved ((move, pid) ∷ []) ∙ ap (λ l. lines_of moved ++ l) (append-nil (move_text move pid))));
      }

  -- what was tried and not answered otherwise
  pub moved_so : (move : Move) (answer : Option Answer) (new : Scene) (more : List ℕ) → ((other : Answer) → answer ≡ Some other → ⊥) → Tries move text mid answer more new → SoFar count (done ++ move ∷ []) old new more
  moved_so move None new more none (pid, submits, said) = moved_more move pid new more submits said
  moved_so move (Some other) new more none tries = absurd (none other refl)

  module _ (rest : List Move) (planned : ArePlanned (past_in old) count (done ++ rest)) where
    its_plan : ArePlanned (past_in old) count (map (λ one. one.0) so_far.moved ++ rest)
    its_plan = subst (λ l. ArePlanned (past_in old) count (l ++ rest)) (sym so_far.parts) planned

    -- memory ran out for the next
    pub lacks_before : (new : Scene) → new ≡ mid → Balances old None new
    lacks_before new same = inr (record { shifts = count; moved = so_far.moved; left = rest }, mid, record { planned = its_plan; recorded = so_far.recorded }, by rest)
      where
        by : (left : List Move) → MayTry left mid new
        by [] = same
        by (move ∷ more) = inl same

  -- all were recorded
  pub all_moved : (rest : List Move) → ArePlanned (past_in old) count (done ++ rest) → rest ≡ [] → (lines : Vec ℕ) → lines.items ≡ text → Balances old (Some (answer_is.Balanced lines)) mid
  all_moved rest planned none lines is = (
    record { shifts = count; moved = so_far.moved; left = [] },
    mid,
    None,
    record { planned = subst (λ l. ArePlanned (past_in old) count (map (λ one. one.0) so_far.moved ++ l)) none (its_plan rest planned); recorded = so_far.recorded },
    refl,
    is ∙ so_far.said ∙ sym (append-nil (head_text count ++ lines_of so_far.moved)),
  )

  -- the next halted the run
  pub move_halts : (move : Move) (more : List Move) → ArePlanned (past_in old) count (done ++ move ∷ more) → (why : Halt) (new : Scene) → SubmitsMove move mid (answer_is.Halted why) new → Balances old (Some (answer_is.Halted why)) new
  move_halts move more planned why new submits =
      (record { shifts = count; moved = so_far.moved; left = move ∷ more }, mid, record { planned = its_plan (move ∷ more) planned; recorded = so_far.recorded }, submits)

  -- The next was submitted.
  module _ (move : Move) (more : List Move) (planned : ArePlanned (past_in old) count (done ++ move ∷ more)) (answer : Answer) (new : Scene) (submits : SubmitsMove move mid answer new) where
    -- memory ran out for its line
    pub lacks_behind : Balances old None new
    lacks_behind = inr (
      record { shifts = count; moved = so_far.moved; left = move ∷ more },
      mid,
      record { planned = its_plan (move ∷ more) planned; recorded = so_far.recorded },
      inr (answer, submits),
    )

    -- it was refused
    pub move_ends : IsOther answer → (all : List ℕ) → all ≡ text ++ answer_text answer → (lines : Vec ℕ) → lines.items ≡ all → Balances old (Some (answer_is.Balanced lines)) new
    move_ends other all said lines is = (
      record { shifts = count; moved = so_far.moved; left = move ∷ more },
      mid,
      Some answer,
      record { planned = its_plan (move ∷ more) planned; recorded = so_far.recorded },
      (submits, other),
      is ∙ said ∙ ap (λ l. l ++ answer_text answer) so_far.said,
    )

-- how it ends at the next, which was answered otherwise than by a new procedure
module _ (count : ℕ) (done : List Move) (old mid : Scene) (text : List ℕ) (so_far : SoFar count done old mid text) (move : Move) (more : List Move) (planned : ArePlanned (past_in old) count (done ++ move ∷ more))
    (new : Scene) where
  other_end : (answer last : Answer) → SubmitsMove move mid answer new → IsOther answer → ((lines : Vec ℕ) × (last ≡ answer_is.Balanced lines) × (lines.items ≡ text ++ answer_text answer)) → Balances old (Some last) new
  other_end answer last submits other (lines, is, said) =
      subst (λ (a : Answer). Balances old (Some a) new) (sym is) (move_ends count done old mid text so_far move more planned answer new submits other (text ++ answer_text answer) refl lines said)

  ends_by : (answer last : Answer) → SubmitsMove move mid answer new → ((pid : ℕ) → answer ≢ answer_is.Pid pid) → IsEndOf text answer last → Balances old (Some last) new
  ends_by (answer_is.Halted why) last submits other is = subst (λ (a : Answer). Balances old (Some a) new) (sym is) (move_halts count done old mid text so_far move more planned why new submits)
  ends_by answer last submits other is = other_end answer last submits (record { unrecorded = other; going = λ why e. absurd (cc) }) is

  pub move_comes : {E : Type 0} (r : Result Answer E) (given : Option Answer) (answer : Answer) (all : List ℕ) → given ≡ Some answer → Tries move text mid given all new → IfOk r (IsEndOf all answer) → Balances old (result_ok r) new
  move_comes r None answer all is tries ends = absurd (cc)
  move_comes (Ok last) (Some given) answer all is (submits, other, same) ends =
      ends_by given last submits other (subst (λ (a : Answer). IsEndOf text a last) (cc) (subst (λ (l : List ℕ). IsEndOf l answer last) same ends))
  move_comes (Err fault) (Some given) answer all is (submits, other, same) ends = lacks_behind count done old mid text so_far move more planned given new submits

pub none_left : (left : List Move) → length left ≡ 0 → left ≡ []
none_left [] over = refl
none_left (move ∷ more) over = absurd (omega arith)

-- memory ran out
pub lacking : {E : Type 0} (P : E → Type 0) (r : Result Answer E) → IsErrAnd r P → (old new : Scene) → Balances old None new → Balances old (result_ok r) new
lacking P (Ok answer) lacks old new comes = absurd lacks
lacking P (Err fault) lacks old new comes = comes

-- memory ran out in the next
pub tried_in : (count : ℕ) (done : List Move) (old mid : Scene) (text : List ℕ) → SoFar count done old mid text → (move : Move) (more : List Move) → ArePlanned (past_in old) count (done ++ move ∷ more)
    → (new : Scene) → MayTry (move ∷ []) mid new → Balances old None new
tried_in count done old mid text so_far move more planned new (inl same) = lacks_before count done old mid text so_far (move ∷ more) planned new same
tried_in count done old mid text so_far move more planned new (inr (answer, submits)) = lacks_behind count done old mid text so_far move more planned answer new submits

-- what only the executor has, one change after another
only_on : (a b c : Scene) → OnlyExec a b → OnlyExec b c → OnlyExec a c
only_on a b c one two = two ∙ ap (λ (s : Scene). let t : Scene = record s { exec = c.exec } in t) one

only_same : (old new : Scene) → new ≡ old → OnlyExec old new
only_same old new is = is ∙ ap (λ (x : Moment). let s : Scene = record old { exec = x } in s) (sym (ap (λ (s : Scene). s.exec) is))

recorded_only : (moved : List (Move × ℕ)) (old new : Scene) → AreRecorded moved old new → OnlyExec old new
recorded_only [] old new same = only_same old new same
recorded_only (one ∷ moved) old new (mid, first, rest) = only_on old mid new first.2 (recorded_only moved mid new rest)

ends_only : (left : List Move) (mid : Scene) (end : Option Answer) (new : Scene) → Ends left mid end new → OnlyExec mid new
ends_only [] mid None new same = only_same mid new same
ends_only [] mid (Some answer) new e = absurd e
ends_only (move ∷ more) mid None new e = absurd e
ends_only (move ∷ more) mid (Some answer) new e = e.0.2

halts_only : (left : List Move) (mid : Scene) (why : Halt) (new : Scene) → HaltsAt left mid why new → OnlyExec mid new
halts_only [] mid why new e = absurd e
halts_only (move ∷ more) mid why new e = e.2

try_only : (left : List Move) (mid new : Scene) → MayTry left mid new → OnlyExec mid new
try_only [] mid new same = only_same mid new same
try_only (move ∷ more) mid new (inl same) = only_same mid new same
try_only (move ∷ more) mid new (inr (answer, submits)) = submits.2

-- balancing changes nothing outside
pub balances_only : (old new : Scene) (answer : Option Answer) → Balances old answer new → OnlyExec old new
balances_only old new (Some (answer_is.Balanced lines)) b = only_on old b.1 new (recorded_only b.0.moved old b.1 b.3.recorded) (ends_only b.0.left b.1 b.2 new b.4)
balances_only old new (Some (answer_is.Halted why)) b = only_on old b.1 new (recorded_only b.0.moved old b.1 b.2.recorded) (halts_only b.0.left b.1 why new b.3)
balances_only old new (Some answer) b = absurd b
balances_only old new None (inl same) = only_same old new same
balances_only old new None (inr b) = only_on old b.1 new (recorded_only b.0.moved old b.1 b.2.recorded) (try_only b.0.left b.1 new b.3)
