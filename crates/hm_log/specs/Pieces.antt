-- What is known of a log that is read piece by piece.
use Rattle.std.specs.Prelude.{◌≡◌, ◌≢◌, ℕ, ◌+◌, ◌<◌, List, [], ◌++◌, get_or, length, take, drop, All}
use Rattle.hm_log.specs.Format.{spelled, IsFrame, IsFirst, IsPlain, IsMoved, RunsTo}
use Rattle.hm_log.specs.declared.pieces.Layout.{Layout}
use Rattle.hm_log.specs.declared.pieces.Layout.TheVariants as layout_is

-- from the first gate on these frames end at this place, which is below the limit
pub record EndsAt (first : ℕ) (frames : List (List ℕ)) (place limit : ℕ) : Type 0 where
  pub at : place ≡ first + length (spelled frames)
  pub each : All IsFrame frames
  pub within : place < limit

-- the bytes from the first gate on, up to a limit
abbrev pub body_in : ℕ → ℕ → List ℕ → List ℕ
body_in first limit bytes = drop first (take limit bytes)

-- a body begins with these frames
abbrev pub StandsIn : List ℕ → List (List ℕ) → Type 0
StandsIn body frames = body ≡ spelled frames ++ drop (length (spelled frames)) body

-- the gate after these frames is closed
abbrev pub IsShutBehind : List ℕ → List (List ℕ) → Type 0
IsShutBehind body frames = get_or body (length (spelled frames)) 0 ≢ 43

-- after a front of this length these frames stand, up to the closed gate at this place
pub record ReadsTo (Lies : List ℕ → List ℕ → List ℕ → Type 0) (bytes : List ℕ) (gate : ℕ) (frames : List (List ℕ)) (free : List ℕ) : Type 0 where
  pub front : List ℕ
  pub body : List ℕ
  pub lies : Lies bytes front body
  pub runs : RunsTo body frames free
  pub place : gate ≡ length front + length (spelled frames)

-- what was found: nothing, or frames in one of the three layouts, and the place of the closed gate after them
abbrev pub IsFound : List ℕ → Layout → List (List ℕ) → ℕ → Type 0
IsFound bytes layout_is.Blank frames gate = (length bytes ≡ 0) × (frames ≡ [])
IsFound bytes layout_is.First frames gate = (free : List ℕ) × ReadsTo IsFirst bytes gate frames free
IsFound bytes layout_is.Plain frames gate = (free : List ℕ) × ReadsTo IsPlain bytes gate frames free
IsFound bytes layout_is.Moved frames gate = ReadsTo IsMoved bytes gate frames []

-- the body of such a layout stands between these two places
pub record IsSpan (bytes : List ℕ) (Lies : List ℕ → List ℕ → List ℕ → Type 0) (first limit : ℕ) : Type 0 where
  pub front : List ℕ
  pub long : length front ≡ first
  pub lies : Lies bytes front (body_in first limit bytes)

-- where the frames of a log stand
abbrev pub IsSpanOf : List ℕ → Layout → ℕ → ℕ → Type 0
IsSpanOf bytes layout_is.Blank first limit = ⊥
IsSpanOf bytes layout_is.First first limit = IsSpan bytes IsFirst first limit
IsSpanOf bytes layout_is.Plain first limit = IsSpan bytes IsPlain first limit
IsSpanOf bytes layout_is.Moved first limit = IsSpan bytes IsMoved first limit
