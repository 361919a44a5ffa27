-- What becomes of a request that is submitted.
use Rattle.std.specs.Prelude.{◌≡◌, Option, Result}
use Rattle.hm_names.specs.declared.nonce.Nonce.{Nonce}
use Rattle.hm_data.specs.declared.request.Request.{Request}
use Rattle.hm_refusals.specs.declared.submissions.Refused.{Refused}
use Rattle.hm_exec.specs.Submitting.{AnswersSubmit}
use Rattle.hm_exec.specs.declared.answers.Accepted.{Accepted}
use Rattle.hm_world.specs.Carrying.{OnlyExec}
use Rattle.hm_world.specs.Scene.{Scene}
use Rattle.hm_commands.specs.Scenes.{halt_at}
use Rattle.hm_commands.specs.Telling.{told_submit}
use Rattle.hm_commands.specs.declared.answer.Answer.{Answer}

-- a request is submitted
abbrev pub Submits : Nonce → Request → Scene → Option Answer → Scene → Type 0
Submits nonce request old answer new =
    (result : Result Accepted Refused) × AnswersSubmit old.exec nonce request result new.exec × OnlyExec old new × (answer ≡ told_submit (halt_at new) result)
