-- What a content is to one who opens it.
use Rattle.std.specs.Prelude.{◌≡◌, ℕ, List, length}
use Rattle.hm_log.specs.Format.{Reads, IsNotALog, IsBadFrame}

-- nothing yet, a log with these frames, no log, which this place shows, or a log whose frames break off at the gate at this place
pub data Verdict : Type 0 where
  Blank : Verdict
  Holds : List (List ℕ) → Verdict
  Foreign : ℕ → Verdict
  Broken : ℕ → Verdict

-- the verdict on these bytes
abbrev pub Judges : List ℕ → Verdict → Type 0
Judges bytes Blank = length bytes ≡ 0
Judges bytes (Holds frames) = Reads bytes frames
Judges bytes (Foreign place) = IsNotALog bytes place
Judges bytes (Broken place) = IsBadFrame bytes place
