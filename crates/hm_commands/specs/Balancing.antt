-- Balancing: what becomes of the moves, and what is told of them.
use Rattle.std.specs.Prelude.{◌≡◌, ◌≢◌, ◌⊎◌, ℕ, List, [], ◌∷◌, ◌++◌, map, Option, Some, None, codes}
use Rattle.std.specs.Global.{Vec}
use Rattle.std.specs.Fmt.{decimal}
use Rattle.std.specs.List.{flat_map}
use Rattle.hm_names.specs.Regions.{region_text}
use Rattle.hm_names.specs.Servers.{server_text}
use Rattle.hm_names.specs.declared.nonce.Nonce.{Nonce}
use Rattle.hm_data.specs.declared.request.Request.TheVariants as request_is
use Rattle.hm_hall.specs.declared.fault.Halt.{Halt}
use Rattle.hm_world.specs.Scene.{Scene, past_in}
use Rattle.hm_commands.specs.Answer.{answer_text}
use Rattle.hm_commands.specs.Submissions.{Submits}
use Rattle.hm_commands.specs.declared.answer.Answer.{Answer}
use Rattle.hm_commands.specs.declared.answer.Answer.TheVariants as answer_is
use Rattle.hm_moves.specs.Planned.{ArePlanned}
use Rattle.hm_moves.specs.declared.moving.Move.{Move}

-- a nonce that is none
abbrev pub no_nonce : Nonce
no_nonce = record { group = 0; number = 0 }

-- a move is submitted, and answered so
abbrev pub SubmitsMove : Move → Scene → Answer → Scene → Type 0
SubmitsMove move old answer new = Submits no_nonce (request_is.Move move.region (Some move.to)) old (Some answer) new

-- these moves are submitted in turn, and recorded as these procedures
abbrev pub AreRecorded : List (Move × ℕ) → Scene → Scene → Type 0
AreRecorded [] old new = new ≡ old
AreRecorded (one ∷ more) old new = (mid : Scene) × SubmitsMove one.0 old (answer_is.Pid one.1) mid × AreRecorded more mid new

-- how far balancing came: of a plan of so many shifts these moves were recorded as these procedures, and those are left
pub record Progress : Type 0 where
  pub shifts : ℕ
  pub moved : List (Move × ℕ)
  pub left : List Move

-- from old, balancing came so far, and new is left
pub record HasMoved (old : Scene) (done : Progress) (new : Scene) : Type 0 where
  pub planned : ArePlanned (past_in old) done.shifts (map (λ one. one.0) done.moved ++ done.left)
  pub recorded : AreRecorded done.moved old new

-- an answer that tells neither a new procedure nor a halt
pub record IsOther (answer : Answer) : Type 0 where
  pub unrecorded : (pid : ℕ) → answer ≢ answer_is.Pid pid
  pub going : (why : Halt) → answer ≢ answer_is.Halted why

-- no move is left, or the first of those was refused
abbrev pub Ends : List Move → Scene → Option Answer → Scene → Type 0
Ends [] old None new = new ≡ old
Ends [] old (Some answer) new = ⊥
Ends (move ∷ more) old None new = ⊥
Ends (move ∷ more) old (Some answer) new = SubmitsMove move old answer new × IsOther answer

-- the first of the moves that are left halted the run
abbrev pub HaltsAt : List Move → Scene → Halt → Scene → Type 0
HaltsAt [] old why new = ⊥
HaltsAt (move ∷ more) old why new = SubmitsMove move old (answer_is.Halted why) new

-- the line of a move that was recorded as this procedure
abbrev pub move_text : Move → ℕ → List ℕ
move_text move pid =
    codes "move " ++ region_text move.region ++ codes " from " ++ server_text move.from ++ codes " to " ++ server_text move.to ++ codes " pid " ++ decimal pid ++ codes "\n"

-- a move was recorded and its line appended to a text, or it was answered otherwise
abbrev pub Tries : Move → (text : List ℕ) → Scene → Option Answer → (all : List ℕ) → Scene → Type 0
Tries move text old None all new = (pid : ℕ) × SubmitsMove move old (answer_is.Pid pid) new × (all ≡ text ++ move_text move pid)
Tries move text old (Some answer) all new = SubmitsMove move old answer new × ((pid : ℕ) → answer ≢ answer_is.Pid pid) × (all ≡ text)

-- none of the moves that are left is submitted, or the first alone, however it is answered
abbrev pub MayTry : List Move → Scene → Scene → Type 0
MayTry [] old new = new ≡ old
MayTry (move ∷ more) old new = (new ≡ old) ⊎ ((answer : Answer) × SubmitsMove move old answer new)

-- the line of a plan of so many shifts
abbrev pub head_text : ℕ → List ℕ
head_text shifts = codes "balance " ++ decimal shifts ++ codes "\n"

-- the lines of a move that was refused, if there was one
abbrev pub end_text : Option Answer → List ℕ
end_text None = []
end_text (Some answer) = answer_text answer

-- the lines of balancing that came so far and ended so
abbrev pub balance_text : Progress → Option Answer → List ℕ
balance_text done end = head_text done.shifts ++ flat_map (λ one. move_text one.0 one.1) done.moved ++ end_text end

-- how balancing with these lines ends at a move that was answered so
abbrev pub IsEndOf : List ℕ → Answer → Answer → Type 0
IsEndOf text (answer_is.Halted why) last = last ≡ answer_is.Halted why
IsEndOf text answer last = (lines : Vec ℕ) × (last ≡ answer_is.Balanced lines) × (lines.items ≡ text ++ answer_text answer)

-- the regions are balanced, or a move halts the run, which alone is told then. Memory runs out before a move, or for the lines of the
-- one that was submitted last
abbrev pub Balances : Scene → Option Answer → Scene → Type 0
Balances old (Some (answer_is.Balanced text)) new =
    (done : Progress) × (mid : Scene) × (end : Option Answer) × HasMoved old done mid × Ends done.left mid end new × (text.items ≡ balance_text done end)
Balances old (Some (answer_is.Halted why)) new = (done : Progress) × (mid : Scene) × HasMoved old done mid × HaltsAt done.left mid why new
Balances old (Some answer) new = ⊥
Balances old None new = (new ≡ old) ⊎ ((done : Progress) × (mid : Scene) × HasMoved old done mid × MayTry done.left mid new)
