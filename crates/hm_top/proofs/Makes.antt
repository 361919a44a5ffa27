-- How making a cluster over a log that was opened ends.
use Rattle.std.proofs.Common.{◌≡◌, ◌<◌, ℕ, List, [], Ok, refl, sym, ap, ◌∙◌, subst, arith}
use Rattle.hm_disk.specs.declared.disk.Disk as Disk
use Rattle.hm_data.specs.declared.entry.Entry.{Entry}
use Rattle.hm_data.specs.declared.sheet.Sheet.{Sheet}
use Rattle.hm_gen.specs.Generated.{generated}
use Rattle.hm_model.specs.Image.{counted}
use Rattle.hm_model.specs.Journal.{back}
use Rattle.hm_hall.specs.Recording.{Recording, entries_of, past_in}
use Rattle.hm_journal.specs.Stored.{IsOnDisk, opened}
use Rattle.hm_journal.specs.declared.limits.Limits.{Limits}
use Rattle.hm_journal.specs.declared.why.JournalWhy.{JournalWhy}
use Rattle.hm_script.specs.declared.command.Command.{Command}
use Rattle.hm_world.specs.Scene.{Scene}
use Rattle.hm_commands.specs.Hands.{HandsUse, Ran, RunBy, sheets_used}
use Rattle.hm_commands.specs.Scenes.{halt_at, journal_at, new_scene}
use Rattle.hm_commands.specs.View.{IsLeftBy}
use Rattle.hm_commands.proofs.Ran.{ran_idle}
use Rattle.hm_top.specs.declared.status.EarlyEnd.TheVariants as early_is
use Rattle.hm_top.specs.declared.status.LogWhy.TheVariants as log_why_is
use Rattle.hm_top.specs.declared.status.RunStatus.{RunStatus}
use Rattle.hm_top.specs.declared.status.RunStatus.TheVariants.{LogRefused}
use Rattle.hm_top.specs.declared.talking.Stop.{Stop}
use Rattle.hm_top.specs.declared.talking.Stop.TheVariants as stop_is
use Rattle.hm_top.specs.Answering.{IsAnswering}
use Rattle.hm_top.specs.Ending.{halted_status, stop_status, unopened_status}
use Rattle.hm_top.specs.Generating.{EndsGen, IsFresh, TellsOf, nowhere}
use Rattle.hm_top.specs.Left.{FailedToOpen, IsLeft}
use Rattle.hm_top.specs.Ports.{DiskUse, SinkUse, disk_use}
use Rattle.hm_top.specs.Run.{before_line}
use Rattle.hm_top.specs.Standing.{fresh}
use Rattle.hm_top.specs.Talking.{IsCalledToOpen, IsOpened, StopsBy}
use Rattle.hm_top.specs.View.{StoreView}
use Rattle.hm_top.proofs.Generates.{gen_refused, gen_stopped, gen_unopened, made_opened, made_outcome, told_of}
use Rattle.hm_top.proofs.Runs.{left_opened, one_journal, opened_fresh, opened_same, talked_all, talked_on, talked_stopped, talked_unopened}

module _ {D Setting : Type 0} (d : Disk.Ghosts D Setting) (limits : Limits) (disk new : D) (hands : HandsUse) (marks : List ℕ) (seed count : ℕ) (out : SinkUse) (commands : List Command)
    (script : commands ≡ generated seed count) where
  abbrev used : DiskUse
  used = disk_use d disk new

  abbrev ends : RunStatus → Type 0
  ends = EndsGen limits used hands marks seed count out (before_line out)

  -- the log couldn't be opened
  pub made_unopened : (out.tells → out.after ≡ out.before) → (status : RunStatus) (why : JournalWhy) → status ≡ unopened_status why → FailedToOpen used hands why → marks ≡ [] → ends status
  made_unopened quiet status why is failed none =
      subst ends (sym is)
      (gen_unopened limits used hands marks seed count out quiet why
      (made_outcome limits used hands marks seed count commands script nowhere (λ failed. failed) (unopened_status why)
      (talked_unopened d IsFresh commands limits nowhere disk new hands marks (unopened_status why) why refl failed none (λ told. absurd told))))

  -- It was opened.
  module _ (was : StoreView D) (opens : IsOpened d (sheets_used hands) limits disk was) (called : IsCalledToOpen d disk was.opened.disk) where
    -- its journal isn't fresh
    pub made_refused : (out.tells → out.after ≡ out.before) → IsLeftBy d was.opened (new_scene was.kept) new → RunBy hands 0 → (entries : ℕ) → entries ≡ counted (past_in was.kept) → 1 < entries → marks ≡ []
        → ends (LogRefused (log_why_is.NotEmpty entries))
    made_refused quiet leaves run entries is more none =
        let old = opens.0 in
        let kept : entries ≡ counted (back (opened (sheets_used hands) old)) = is ∙ ap (λ (k : Recording). counted (past_in k)) opens.2 in
        let same = opened_same (sheets_used hands) old (subst (λ n. 1 < n) kept more) in
        let left = left_opened d IsFresh commands limits nowhere disk new hands marks was (new_scene was.kept) opens called leaves (ran_idle hands was.kept.entries was.kept.entries refl run) in
        gen_refused limits used hands marks seed count out quiet entries
        (old, subst (λ (k : Recording). IsLeft used hands old (new_scene k)) opens.2 left, kept ∙ ap (λ (l : List Entry). counted (back l)) same, more, none)

    -- It is, and commands were answered, or not to the end.
    module _ (few : IsFresh was.kept.entries) (at : Scene) (leaves : IsLeftBy d was.opened at new) (ran : Ran hands was.kept.entries (journal_at at)) where
      taken : IsFresh opens.0
      taken = opened_fresh (sheets_used hands) opens.0 (subst IsFresh (ap entries_of opens.2) few)

      pub made_told : IsAnswering ⊥ [] [] (Ok tt) commands (new_scene was.kept) marks at → (status : RunStatus) → TellsOf out (before_line out) seed count at status → ends status
      made_told answering status tells =
          told_of limits used hands marks seed count out at
          (made_opened limits used hands marks seed count commands script nowhere (λ failed. failed) at (talked_all d IsFresh commands limits nowhere disk new hands marks was at opens taken called leaves ran answering))
          (made_outcome limits used hands marks seed count commands script nowhere (λ failed. failed) (halted_status (halt_at at))
          (talked_on d IsFresh commands limits nowhere disk new hands marks was at opens taken called leaves ran (halted_status (halt_at at)) (Ok tt) refl answering tt (λ is. absurd (cc)))) status tells

      pub made_stopped : (out.tells → out.after ≡ out.before) → (status : RunStatus) (stop : Stop) → status ≡ stop_status stop → StopsBy ⊥ [] [] stop commands (new_scene was.kept) marks at
          → (stop ≡ stop_is.Early early_is.WriteFault → ⊥) → ends status
      made_stopped quiet status stop is stops fails =
          subst ends (sym is)
          (gen_stopped limits used hands marks seed count out quiet stop
          (made_outcome limits used hands marks seed count commands script nowhere (λ failed. failed) (stop_status stop)
          (talked_stopped d IsFresh commands limits nowhere disk new hands marks was at opens taken called leaves ran (stop_status stop) stop refl stops fails)))

-- a journal that the disk holds and that is fresh isn't refused for its length
pub not_refused : (sheets : List Sheet) (bytes : List ℕ) (old journal : List Entry) (kept : Recording) {limits : Limits} → kept ≡ fresh limits (opened sheets old) → IsOnDisk sheets bytes old → IsOnDisk sheets bytes journal
    → (entries : ℕ) → entries ≡ counted (past_in kept) → 1 < entries → IsFresh journal → ⊥
not_refused sheets bytes old journal kept is on also entries all more few =
    let held : entries ≡ counted (back (opened sheets old)) = all ∙ ap (λ (k : Recording). counted (past_in k)) is in
    let same = ap (λ (l : List Entry). counted (back l)) (opened_same sheets old (subst (λ n. 1 < n) held more) ∙ sym (one_journal sheets bytes old journal on also)) in
    omega (arith, held, same, few)
