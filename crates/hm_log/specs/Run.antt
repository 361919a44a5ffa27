-- Runs of frames, which are written together.
use Rattle.std.specs.Prelude.{◌≡◌, ◌⊎◌, ℕ, ◌≤◌, List, [], ◌∷◌, ◌++◌, length, All}
use Rattle.hm_log.specs.Format.{spelled, IsFrame, Reads}

-- a run as it stands after a gate: frames, with an open gate between two of them and a closed one at the end
pub record IsRun (run : List ℕ) (more : List (List ℕ)) : Type 0 where
  pub some : 1 ≤ length more
  pub each : All IsFrame more
  pub spelling : 43 ∷ run ≡ spelled more ++ 45 ∷ []

-- it reads as these frames, or as these and all of some more
abbrev pub BeforeOrAll : List (List ℕ) → List (List ℕ) → List ℕ → Type 0
BeforeOrAll frames more bytes = Reads bytes frames ⊎ Reads bytes (frames ++ more)
