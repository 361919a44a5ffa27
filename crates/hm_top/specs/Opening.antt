-- The servers that are live when a run begins: each is held to be dead, one after another.
use Rattle.std.specs.Prelude.{◌≡◌, ◌⊎◌, ℕ, List, [], ◌∷◌, ◌++◌, Some, None, true, false}
use Rattle.hm_names.specs.Server.{Server}
use Rattle.hm_data.specs.declared.entry.Entry.{Entry}
use Rattle.hm_hall.specs.declared.fault.Halt.{Halt}
use Rattle.hm_model.specs.Fleet.{is_live}
use Rattle.hm_model.specs.Image.{counted}
use Rattle.hm_world.specs.Scene.{GoesOn, Scene, past_in}
use Rattle.hm_world_model.specs.Twice.{Twice}
use Rattle.hm_commands.specs.Commands.{Expires}
use Rattle.hm_commands.specs.Hands.{steps_in}
use Rattle.hm_commands.specs.Scenes.{halt_at, journal_at}
use Rattle.hm_commands.specs.Answer.{answer_text}
use Rattle.hm_commands.specs.declared.answer.Answer.{Answer}
use Rattle.hm_commands.specs.declared.answer.Answer.TheVariants as answer_is
use Rattle.hm_top.specs.declared.status.EarlyEnd.{EarlyEnd}
use Rattle.hm_top.specs.declared.status.EarlyEnd.TheVariants as early_is
use Rattle.hm_top.specs.Got.{IsPartOf}
use Rattle.hm_top.specs.Transcript.{text_of}

-- a server that is live is held to be dead, which its line says, and no region is held twice
pub record GoesDown (server : Server) (old : Scene) (lines : List Answer) (new : Scene) : Type 0 where
  pub live : is_live (past_in old) server ≡ true
  pub pid : ℕ
  pub expires : Expires server old (Some (answer_is.Expired server pid)) new
  pub once : Twice (past_in new) new.outside → ⊥
  pub said : lines ≡ answer_is.Expired server pid ∷ []

-- it is so of a server, or it isn't live, and nothing changes
abbrev pub PassesBy : Server → Scene → List Answer → Scene → Type 0
PassesBy server old lines new = GoesDown server old lines new ⊎ ((is_live (past_in old) server ≡ false) × (lines ≡ []) × (new ≡ old))

-- these servers, one after another, and their lines
abbrev pub Downs : List Server → Scene → List Answer → Scene → Type 0
Downs [] old lines new = (lines ≡ []) × (new ≡ old)
Downs (server ∷ more) old lines new =
    (mid : Scene) × (first rest : List Answer) × PassesBy server old first mid × (lines ≡ first ++ rest) × Downs more mid rest new

-- the lines of an opening: how many entries the journal has, and those of the servers that went down
abbrev pub opening_lines : Scene → List Answer → List Answer
opening_lines old downs = answer_is.Opened (counted (past_in old)) ∷ downs

-- the first of these servers is live, and that it is held to be dead halts the run so
abbrev pub HaltsOpening : List Server → Scene → Halt → Scene → Type 0
HaltsOpening [] old why new = ⊥
HaltsOpening (server ∷ more) old why new =
    (is_live (past_in old) server ≡ true) × Expires server old (Some (answer_is.Halted why)) new × (halt_at new ≡ Some why)

-- the first of these servers is live, and memory runs out for it
abbrev pub OpeningLacksMemory : List Server → Scene → Scene → Type 0
OpeningLacksMemory [] old new = ⊥
OpeningLacksMemory (server ∷ more) old new = (is_live (past_in old) server ≡ true) × (Expires server old None new ⊎ (GoesOn old × (new ≡ old)))

-- how the opening stops at a server that is live, and what the sink got for it then
abbrev pub StopsAt : (tells : Type 0) (before after : List ℕ) → Server → Scene → EarlyEnd → Scene → Type 0
StopsAt tells before after server old (early_is.Halted why) new = HaltsOpening (server ∷ []) old why new × (tells → after ≡ before)
StopsAt tells before after server old early_is.WriteFault new =
    (line : Answer) × GoesDown server old (line ∷ []) new × (tells → IsPartOf before after (answer_text line))
StopsAt tells before after server old early_is.Memory new = OpeningLacksMemory (server ∷ []) old new × (tells → after ≡ before)

-- what an early end says of the run: it is halted by what it names
abbrev pub IsEndOf : EarlyEnd → Scene → Type 0
IsEndOf (early_is.Halted why) new = halt_at new ≡ Some why
IsEndOf early_is.WriteFault new = Unit {0}
IsEndOf early_is.Memory new = Unit {0}

-- the first of the servers were passed by, and the sink has the lines of the opening whole
pub record IsPassing (tells : Type 0) (before after : List ℕ) (old : Scene) (passed : List Server) (at : Scene) : Type 0 where
  pub lines : List Answer
  pub downs : Downs passed old lines at
  pub said : tells → after ≡ before ++ text_of (opening_lines old lines)

-- the journal grew by no step
abbrev pub AddsNoStep : Scene → Scene → Type 0
AddsNoStep old new = (added : List Entry) × (journal_at new ≡ journal_at old ++ added) × (steps_in added ≡ 0)
