-- Parts that frames of a log spell.
use Rattle.std.proofs.Common.{◌≡◌, ℕ, List, [], ◌∷◌, All, sym, subst}
use Rattle.std.proofs.lemmas.List.Elements.{All-nil, All-cons, All-head, All-tail}
use Rattle.hm_log.specs.Format.{IsFrame}
use Rattle.hm_data.specs.declared.part.Part.{Part}
use Rattle.hm_roll.specs.Parts.{frame_of, frames_of, IsShort}

-- parts are short where their frames are those of a log
frames_short : (parts : List Part) → All IsFrame (frames_of parts) → All IsShort parts
frames_short [] each = All-nil IsShort
frames_short (part ∷ parts) each =
    let first : IsFrame (frame_of part) = All-head IsFrame (frame_of part) (frames_of parts) each in
    All-cons IsShort part parts first.most (frames_short parts (All-tail IsFrame (frame_of part) (frames_of parts) each))

-- the same of parts that such frames spell
pub all_short : (parts : List Part) (frames : List (List ℕ)) → frames_of parts ≡ frames → All IsFrame frames → All IsShort parts
all_short parts frames are each = frames_short parts (subst (All IsFrame) (sym are) each)
