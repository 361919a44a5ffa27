-- How a run ends, from the ends of its commands.
use Rattle.std.proofs.Common.{◌≡◌, ◌≢◌, ◌<◌, ◌≤◌, ◌+◌, ◌-◌, ◌*◌, ℕ, List, [], ◌++◌, ◌∷◌, length, append-nil, append_assoc, Option, Some, None, Result, Ok, Err, IfErr, IfOk, MatchResult, refl, sym, ap, ◌∙◌, subst, arith}
use Rattle.hm_ports.specs.Faults.{Rose}
use Rattle.hm_ports.specs.declared.sink.Sink as Sink
use Rattle.hm_disk.specs.Called.{IsCalled}
use Rattle.hm_disk.specs.Disk.{LeavesOnly, LeavesThen}
use Rattle.hm_disk.specs.declared.disk.Disk as Disk
use Rattle.hm_disk.proofs.Moments.{then_weaker, then_stays}
use Rattle.hm_log.specs.Format.{IsClean, Reads}
use Rattle.hm_log.specs.Opening.{IsInPlace, IsUsed}
use Rattle.hm_log.proofs.Exact.{opens_once}
use Rattle.hm_journal.proofs.Refusing.{same_entries}
use Rattle.hm_model.specs.Image.{counted}
use Rattle.hm_model.specs.Journal.{back}
use Rattle.hm_data.specs.declared.entry.Entry.{Entry}
use Rattle.hm_data.specs.declared.sheet.Sheet.{Sheet}
use Rattle.hm_entry.specs.Spelling.{entry as spelling}
use Rattle.hm_hall.specs.declared.fault.Halt.TheVariants as halt_is
use Rattle.hm_journal.proofs.Moving.{used_then}
use Rattle.hm_journal.specs.Since.{IsFront, with_tail}
use Rattle.hm_journal.specs.Stored.{frames_of, IsOnDisk, IsOpening, SameFrames, Spares, opened}
use Rattle.hm_journal.specs.Verdict.{IsUnjudged, Refuses}
use Rattle.hm_journal.specs.declared.limits.Limits.{Limits}
use Rattle.hm_journal.specs.declared.why.JournalWhy.{JournalWhy}
use Rattle.hm_journal.specs.declared.why.JournalWhy.TheVariants as why_is
use Rattle.hm_hall.specs.Recording.{Recording}
use Rattle.hm_world.specs.Scene.{Scene}
use Rattle.hm_commands.specs.Hands.{HandsUse, Ran, RunBy, sheets_used}
use Rattle.hm_commands.specs.Scenes.{halt_at, journal_at, kept_at, new_scene, whole}
use Rattle.hm_commands.specs.View.{IsLeftBy}
use Rattle.hm_script.specs.declared.command.Command.{Command}
use Rattle.hm_top.specs.declared.status.EarlyEnd.{EarlyEnd}
use Rattle.hm_top.specs.declared.status.EarlyEnd.TheVariants as early_is
use Rattle.hm_top.specs.declared.status.RunStatus.{RunStatus}
use Rattle.hm_top.specs.declared.status.RunStatus.TheVariants.{Done}
use Rattle.hm_top.specs.Ending.{ended_status, stop_status, unopened_status}
use Rattle.hm_top.specs.Got.{IsLast}
use Rattle.hm_top.specs.declared.talking.Stop.{Stop}
use Rattle.hm_top.specs.declared.talking.Stop.TheVariants as stop_is
use Rattle.hm_top.specs.Left.{FailedToOpen, IsLeft}
use Rattle.hm_top.specs.Talking.{IsCalledToOpen, IsOpened, StopsBy, early}
use Rattle.hm_top.specs.Ports.{SinkUse, disk_use, sink_use}
use Rattle.hm_top.specs.Run.{Accepts, Ends, EndsRun, EndsUnfinished, IsRead, KeepsTo, Run, before_line, behind_line}
use Rattle.hm_top.specs.Script.{IsScript}
use Rattle.hm_top.specs.Session.{Outcome, WasOpened}
use Rattle.hm_top.specs.Standing.{begun}
use Rattle.hm_top.specs.Status.{last_line}
use Rattle.hm_top.specs.Answering.{IsAnswering}
use Rattle.hm_top.specs.View.{StoreView}
use Rattle.hm_top.proofs.Complete.{complete}
use Rattle.hm_top.proofs.Outcomes.{EndsSo, ends_map, got_finished, left_of, opened_grows, outcome_answered, outcome_full, outcome_map, outcome_unopened, run_ends, spoken, was_opened}

-- what ran, from a journal that is the same
pub ran_from : {hands : HandsUse} (old other new : List Entry) → old ≡ other → Ran hands old new → Ran hands other new
ran_from {hands} old other new same ran = subst (λ (l : List Entry). Ran hands l new) same ran

pub rose_late : (old mid new : ℕ) → old ≤ mid → Rose mid new → Rose old new
rose_late old mid new later rose = omega arith

-- one call after another
called_on : {D Setting : Type 0} (d : Disk.Ghosts D Setting) (m n most : ℕ) (a b c : D) → m + n ≤ most → IsCalled d m a b → IsCalled d n b c → IsCalled d most a c
called_on d m n most a b c sum first then =
    let f0 = first.fault in
    let f1 = then.fault in
    let l0 = first.later in
    let l1 = then.later in
    let c0 = first.changes in
    let c1 = then.changes in
    record { fault = omega arith; later = omega arith; changes = omega arith; setting = then.setting ∙ first.setting }

rose_early : (old mid new : ℕ) → mid ≤ new → Rose old mid → Rose old new
rose_early old mid new later rose = omega arith

-- the tail as a list
tail_of : (entries : List Entry) (tail : Option Entry) → (more : List Entry) × (with_tail entries tail ≡ entries ++ more)
tail_of entries None = ([], sym (append-nil entries))
tail_of entries (Some entry) = (entry ∷ [], refl)

module _ {D Setting : Type 0} (d : Disk.Ghosts D Setting) (sheets : List Sheet) (limits : Limits) (disk : D) (was : StoreView D) where
  -- what each stop left since
  pub stops_leave : (at : Scene) (new : D) (opens : IsOpened d sheets limits disk was) → ((more : List Entry) × (journal_at at ≡ opens.0 ++ more))
      → (d.tells → LeavesOnly d.moment d.left_since was.opened.disk new (IsFront was.opened.count (whole at)))
      → d.tells → LeavesThen d.moment d.left_since disk new (early d disk) (IsFront (length opens.0) (whole at))
  stops_leave at new opens grown leaves told =
      let old = opens.0 in
      let all = whole at in
      let tail = tail_of (journal_at at) (kept_at at).tail in
      then_stays d.moment d.left_since disk was.opened.disk new (early d disk) (IsFront (length old) all)
      (then_weaker d.moment d.left_since disk was.opened.disk (early d disk) (λ c. Reads c (frames_of old)) (IsFront (length old) all)
      (λ c reads. record {
        front = old;
        rest = grown.0 ++ tail.0;
        parts = tail.1 ∙ ap (λ l. l ++ tail.0) grown.1 ∙ append_assoc old grown.0 tail.0;
        enough = omega arith;
        reads = reads;
      }) (opens.4 told).1) (subst (λ n. LeavesOnly d.moment d.left_since was.opened.disk new (IsFront n all)) opens.3 (leaves told))

module _ {D Setting : Type 0} (d : Disk.Ghosts D Setting) (takes : List Entry → Type 0) (commands : List Command) (limits : Limits) (out : SinkUse) (disk new : D) (hands : HandsUse) (marks : List ℕ) where
  abbrev its : RunStatus → Type 0
  its = Outcome (spoken takes commands limits out (disk_use d disk new) hands marks)

  -- what is left of a world that was opened, whose run stands so
  pub left_opened : (was : StoreView D) (at : Scene) (opens : IsOpened d (sheets_used hands) limits disk was) → IsCalledToOpen d disk was.opened.disk → IsLeftBy d was.opened at new → Ran hands was.kept.entries (journal_at at)
      → IsLeft (disk_use d disk new) hands opens.0 at
  left_opened was at opens first_called leaves ran =
      let own = sheets_used hands in
      let old = opens.0 in
      let begins : was.kept.entries ≡ opened own old = ap (λ (k : Recording). k.entries) opens.2 in
      let first = opened_grows own old in
      let grown : (more : List Entry) × (journal_at at ≡ old ++ more) = (first.0 ++ ran.0, ran.1 ∙ ap (λ l. l ++ ran.0) (begins ∙ first.1) ∙ append_assoc old first.0 ran.0) in
      let rose : halt_at at ≡ Some halt_is.LogFault → Rose (d.faults disk) (d.faults new) = λ halted_is.
      rose_late (d.faults disk) (d.faults was.opened.disk) (d.faults new) first_called.used.fault (leaves.since.failed halted_is) in
      let more = 2 * (length (whole at) - length old) in
      let called : IsCalled d more was.opened.disk new = subst (λ n. IsCalled d (2 * (length (whole at) - n)) was.opened.disk new) opens.3 leaves.since.called in
      left_of takes commands limits out (disk_use d disk new) hands marks old at (λ told. (opens.4 told).0) leaves.legal leaves.begun leaves.stored (stops_leave d own limits disk was at new opens grown leaves.since.leaves)
      (used_then d more disk was.opened.disk new first_called.used called, λ told place. called_on d 1 more (1 + more) disk was.opened.disk new (omega arith) (first_called.once told place) called)
      (λ told clean. called_on d 0 more more disk was.opened.disk new (omega arith) (first_called.clean told clean) called) rose (subst (λ journal. Ran hands journal (journal_at at)) begins ran)

  -- A log was opened as a journal that is taken, and this was left of it.
  module _ (was : StoreView D) (at : Scene) (opens : IsOpened d (sheets_used hands) limits disk was) (taken : takes opens.0) (first_called : IsCalledToOpen d disk was.opened.disk)
      (leaves : IsLeftBy d was.opened at new) (ran : Ran hands was.kept.entries (journal_at at)) where
    -- where commands were answered, from where it began
    begun_at : (ended : Result (Unit {0}) EarlyEnd) → IsAnswering out.tells out.before out.after ended commands (new_scene was.kept) marks at
        → IsAnswering out.tells out.before out.after ended commands (begun limits (sheets_used hands) opens.0) marks at
    begun_at ended answering = subst (λ (k : Recording). IsAnswering out.tells out.before out.after ended commands (new_scene k) marks at) opens.2 answering

    -- the outcome of answering
    pub talked_on : (status : RunStatus) (ended : Result (Unit {0}) EarlyEnd) → status ≡ ended_status ended (halt_at at) → IsAnswering out.tells out.before out.after ended commands (new_scene was.kept) marks at → EndsSo ended at
        → (ended ≡ Err early_is.WriteFault → out.failed) → its status
    talked_on status ended ends answering so fails =
        subst its (sym ends)
        (outcome_answered takes commands limits out (disk_use d disk new) hands marks opens.0 taken at (left_opened was at opens first_called leaves ran) ended (halt_at at) refl so fails (begun_at ended answering))

    -- all commands were answered
    pub talked_all : IsAnswering out.tells out.before out.after (Ok tt) commands (new_scene was.kept) marks at
        → (opened : WasOpened (spoken takes commands limits out (disk_use d disk new) hands marks) Done) × (opened.new ≡ at)
    talked_all answering =
        (was_opened takes commands limits out (disk_use d disk new) hands marks opens.0 taken at (left_opened was at opens first_called leaves ran) Done (Ok tt) (λ answers t. t) (λ servers answered rest at left r. r) (begun_at (Ok tt) answering), refl)

    -- the outcome of stopping
    pub talked_stopped : (status : RunStatus) (stop : Stop) → status ≡ stop_status stop → StopsBy out.tells out.before out.after stop commands (new_scene was.kept) marks at → (stop ≡ stop_is.Early early_is.WriteFault → out.failed) → its status
    talked_stopped status stop_is.NoRoom ends stops fails =
        let left = left_opened was at opens first_called leaves ran in
        let began : at ≡ begun limits (sheets_used hands) opens.0 = stops.1 ∙ ap new_scene opens.2 in
        subst its (sym ends) (outcome_full takes commands limits out (disk_use d disk new) hands marks stops.0 (λ told. stops.2 told) opens.0 (subst (λ (s : Scene). IsLeft (disk_use d disk new) hands opens.0 s) began left))
    talked_stopped status (stop_is.Early end) ends stops fails = talked_on status (Err end) ends stops.0 stops.1 (λ is. let same : end ≡ early_is.WriteFault = cc in fails (ap stop_is.Early same))

  -- the outcome of an opening that failed
  pub talked_unopened : (status : RunStatus) (why : JournalWhy) → status ≡ unopened_status why → FailedToOpen (disk_use d disk new) hands why → marks ≡ [] → (out.tells → out.after ≡ out.before) → its status
  talked_unopened status why ends failed none quiet = subst its (sym ends) (outcome_unopened takes commands limits out (disk_use d disk new) hands marks none quiet why failed.failed failed.spared failed.judged)

-- what an opening did to the disk of a log that was opened
pub called_to_open : {D Setting : Type 0} (d : Disk.Ghosts D Setting) (disk : D) (r : Result (StoreView D) (D × JournalWhy)) → MatchResult r (λ store. IsUsed d disk store.opened.disk) (λ e. IsUsed d disk e.0)
    → (d.tells → IsInPlace (d.seen disk) → MatchResult r (λ store. IsCalled d 1 disk store.opened.disk) (λ e. IsCalled d 3 disk e.0))
    → (d.tells → IsClean (d.seen disk) → IfOk r (λ store. IsCalled d 0 disk store.opened.disk)) → IfOk r (λ store. IsCalledToOpen d disk store.opened.disk)
called_to_open d disk (Ok store) used few clean = record { used = used; once = few; clean = clean }
called_to_open d disk (Err e) used few clean = tt

-- why a log couldn't be opened, said of the sheets that are used
pub failed_to_open : {D Setting : Type 0} (d : Disk.Ghosts D Setting) (disk : D) (hands : HandsUse) (sheets : List Sheet) → sheets_used hands ≡ sheets → (r : Result (StoreView D) (D × JournalWhy))
    → (d.tells → IfErr r (λ e. Refuses sheets (d.seen disk) e.1)) → (d.tells → (journal : List Entry) → IsOnDisk sheets (d.seen disk) journal → IfErr r (λ e. IsUnjudged e.1))
    → IfErr r (λ e. e.1 ≡ why_is.Fault → Rose (d.faults disk) (d.faults e.0)) → (d.tells → IfErr r (λ e. e.1 ≢ why_is.Fault → SameFrames (d.seen disk) (d.seen e.0) (d.image e.0)))
    → (d.tells → IfErr r (λ e. Spares sheets (d.seen disk) (d.image disk) (d.seen e.0) (d.image e.0)))
    → (d.tells → IfErr r (λ e. LeavesOnly d.moment d.left_since disk e.0 (IsOpening sheets (d.seen disk) (d.image disk))))
    → MatchResult r (λ store. IsUsed d disk store.opened.disk) (λ e. IsUsed d disk e.0)
    → (d.tells → IsInPlace (d.seen disk) → MatchResult r (λ store. IsCalled d 1 disk store.opened.disk) (λ e. IsCalled d 3 disk e.0)) → IfErr r (λ e. FailedToOpen (disk_use d disk e.0) hands e.1)
failed_to_open d disk hands sheets listed (Ok store) why accepts fault same spared moments used few = tt
failed_to_open d disk hands sheets listed (Err (new, cause)) why accepts fault same spared moments used few =
    let opened : d.tells → LeavesOnly d.moment d.left_since disk new (IsOpening (sheets_used hands) (d.seen disk) (d.image disk)) = λ told. subst (λ l. LeavesOnly d.moment d.left_since disk new (IsOpening l (d.seen disk) (d.image disk))) (sym listed) (moments told) in
    record {
      spared = ((used, few), λ told. (subst (λ l. Spares l (d.seen disk) (d.image disk) (d.seen new) (d.image new)) (sym listed) (spared told), opened told));
      judged = λ judged. ((used, few), λ told. (subst (λ l. Refuses l (d.seen disk) cause) (sym listed) (why told), same told judged, opened told));
      failed = fault;
      unjudged = λ told journal on. accepts told journal (subst (λ l. IsOnDisk l (d.seen disk) journal) listed on);
    }

-- a journal that isn't fresh was so before it was opened
pub opened_same : (sheets : List Sheet) (old : List Entry) → 1 < counted (back (opened sheets old)) → opened sheets old ≡ old
opened_same sheets [] more = absurd (omega (arith, more))
opened_same sheets (entry ∷ journal) more = refl

-- one that is fresh was fresh before
pub opened_fresh : (sheets : List Sheet) (old : List Entry) → counted (back (opened sheets old)) ≤ 1 → counted (back old) ≤ 1
opened_fresh sheets [] few = omega arith
opened_fresh sheets (entry ∷ journal) few = few

-- two journals on one disk are one
pub one_journal : (sheets : List Sheet) (bytes : List ℕ) (journal other : List Entry) → IsOnDisk sheets bytes journal → IsOnDisk sheets bytes other → other ≡ journal
one_journal sheets bytes journal other on also =
    sym (same_entries journal other on.is.fits also.is.fits (sym (opens_once bytes (frames_of journal) (frames_of other) on.opens also.opens)))

-- the end of a run whose script was read
pub script_read : (run : Run) (commands : List Command) (status : RunStatus) → (run.script.tells → IsScript run.script.before commands) → (run.script.tells → run.script.after ≡ [])
    → Outcome (spoken (λ old. Unit {0}) commands run.limits run.out run.disk run.hands run.marks) status → EndsRun run before_line status
script_read run commands status right read o =
    let given : (cs : List Command) → cs ≡ commands → IsRead run cs = λ cs is told. (subst (IsScript run.script.before) (sym is) (right told), read told) in
    run_ends run before_line status
    (outcome_map (spoken (λ old. Unit {0}) commands run.limits run.out run.disk run.hands run.marks) (IsRead run) (before_line run.out) run.out given status (λ answers t. t) (λ r. r) o)

module _ {K : Type 0} (k : Sink.Ghosts K) (out0 out1 out2 : K) (run : Run) (status : RunStatus) (first : k.faults out0 ≤ k.faults out1) (then : k.faults out1 ≤ k.faults out2)
    (line : k.tells → IsLast (Rose (k.faults out1) (k.faults out2)) (k.got out1) (k.got out2) (last_line status)) where
  abbrev unfinished : Run
  unfinished = record run { out = sink_use k out0 out1 }

  abbrev finished : Run
  finished = record run { out = sink_use k out0 out2 }

  -- the end of a run after its last line
  run_finished : EndsUnfinished unfinished status → Ends finished status
  run_finished e =
      ends_map unfinished before_line behind_line finished.out (rose_early (k.faults out0) (k.faults out1) (k.faults out2) then) status
      (λ answers t told.
      got_finished (Rose (k.faults out1) (k.faults out2)) (Rose (k.faults out0) (k.faults out2)) (k.got out0) (k.got out1) (k.got out2) status answers (rose_late (k.faults out0) (k.faults out1) (k.faults out2) first) (t told) (line told))
      e

  -- what the run keeps to
  pub run_keeps : EndsUnfinished unfinished status → RunBy run.hands 0 → Accepts run status → KeepsTo finished status
  run_keeps e run_by accepts =
      let ends = run_finished e in
      record { ends = ends; complete = complete finished status accepts ends; accepts = accepts; run_by = run_by }
