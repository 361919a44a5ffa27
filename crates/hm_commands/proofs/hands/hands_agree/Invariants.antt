use Rattle.std.proofs.Common.{All, take}
use Rattle.hm_sheet.specs.Registry.{sheets_by}
use Rattle.hm_commands.specs.Hands.{AreEqual}
use Rattle.hm_commands.proofs.hands.hands_agree.Given as goal

abbrev pub invariant-loop-other : goal.invariant-loop-other
invariant-loop-other g l =
    All (λ r. AreEqual (sheets_by (goal.Handler-dyn g) l.first) (sheets_by (goal.Handler-dyn g) r)) (take l.other-index l.hands)
