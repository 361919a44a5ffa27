-- An anchor owns nothing, so it may go to another thread.
use denote.RattleType.{RattleType}
use denote.Param.Send.{IsSend, owning_send, sendable}
use Rattle.hm_disk.specs.contracts.anchor.Anchor.{the_row, the_type}

pub send : (D : RattleType) → IsSend D → IsSend (the_row D)
send D d = owning_send (the_type D) (search sendable, tt) (λ d. tt) (λ k x w. tt)
