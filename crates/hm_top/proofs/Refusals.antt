-- What isn't told as a refusal of the log.
use Rattle.std.proofs.Common.{◌≡◌, Option, Some, None, sym, ap, ◌∙◌, inl, inr}
use Rattle.hm_hall.specs.declared.fault.Halt.{Halt}
use Rattle.hm_hall.specs.declared.fault.Halt.TheVariants as halt_is
use Rattle.hm_journal.specs.Verdict.{IsUnjudged}
use Rattle.hm_journal.specs.declared.why.JournalWhy.{JournalWhy}
use Rattle.hm_top.specs.declared.status.EarlyEnd.TheVariants as early_is
use Rattle.hm_top.specs.declared.status.LogWhy.{LogWhy}
use Rattle.hm_top.specs.declared.status.RunStatus.TheVariants as run_is
use Rattle.hm_top.specs.declared.talking.Stop.{Stop}
use Rattle.hm_top.specs.declared.talking.Stop.TheVariants as stop_is
use Rattle.hm_top.specs.Ending.{halted_status, stop_status, unopened_status}

-- an opening that isn't judged
pub unjudged_tells : (cause : JournalWhy) (why : LogWhy) → IsUnjudged cause → unopened_status cause ≡ run_is.LogRefused why → ⊥
unjudged_tells cause why (inl fault) is = let no : run_is.LogFault ≡ run_is.LogRefused why = sym (ap unopened_status fault) ∙ is in cc
unjudged_tells cause why (inr short) is = let no : run_is.Memory ≡ run_is.LogRefused why = sym (ap unopened_status short) ∙ is in cc

-- what halts a run, or nothing
pub halt_tells : (halted : Option Halt) (why : LogWhy) → halted_status halted ≡ run_is.LogRefused why → ⊥
halt_tells None why is = cc
halt_tells (Some halt_is.LogFault) why is = cc
halt_tells (Some (halt_is.JournalFull bytes)) why is = cc

-- what stops it
pub stop_tells : (stop : Stop) (why : LogWhy) → stop_status stop ≡ run_is.LogRefused why → ⊥
stop_tells stop_is.NoRoom why is = cc
stop_tells (stop_is.Early (early_is.Halted halted)) why is = halt_tells (Some halted) why is
stop_tells (stop_is.Early early_is.WriteFault) why is = cc
stop_tells (stop_is.Early early_is.Memory) why is = cc
