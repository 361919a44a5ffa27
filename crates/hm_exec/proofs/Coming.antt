-- What servers that come and go are answered.
use Rattle.std.proofs.Common.{◌≡◌, ◌≢◌, ◌+◌, ◌++◌, ℕ, List, length, length-append, arith, Bool, true, false, Option, None, Some, Result, Err, Ok, refl, inl, inr, ap, sym, subst, ◌∙◌}
use Rattle.std.specs.Option.{IfNone, IfSome}
use Rattle.std.specs.Result.{IfErr, IsErrAnd}
use Rattle.std.proofs.lemmas.Option.{none-some}
use Rattle.std.specs.Int.{bytes_low_first}
use Rattle.hm_names.specs.Server.{Server}
use Rattle.hm_names.specs.declared.pid.Pid.{Pid}
use Rattle.hm_data.specs.declared.entry.Entry.{Entry}
use Rattle.hm_data.specs.declared.entry.Entry.TheVariants as entry_is
use Rattle.hm_entry.specs.Spelling.{entry as spelling, number, server as server_spelled}
use Rattle.hm_exec.specs.Adding.{Adds}
use Rattle.hm_hall.specs.Recording.{Accepts, Passes, halt_of, past_in}
use Rattle.hm_hall.specs.declared.fault.HallFault.{HallFault}
use Rattle.hm_hall.specs.declared.fault.HallFault.TheVariants as fault_is
use Rattle.hm_model.specs.Base.{IsBegun}
use Rattle.hm_model.specs.Fleet.{has_older_live, is_live, same_address}
use Rattle.hm_model.specs.Journal.{Past}
use Rattle.hm_model.specs.Rules.{Allowed, IsLegal}
use Rattle.hm_model.specs.Standings.{standings_of}
use Rattle.hm_places.specs.Laws.{StandingsTell}
use Rattle.hm_places.specs.Servers.{CannotComeUp, CannotGoDown}
use Rattle.hm_places.specs.declared.refused.DownRefused.{DownRefused}
use Rattle.hm_places.specs.declared.refused.DownRefused.TheVariants as down_is
use Rattle.hm_places.specs.declared.refused.UpRefused.{UpRefused}
use Rattle.hm_places.specs.declared.refused.UpRefused.TheVariants as up_is
use Rattle.hm_exec.specs.Fleet.{AnswersDown, AnswersUp, CannotDown, CannotUp, CanUp, FaultsCopying, FaultsFirst, IsOlder, PutsDown, RunsOutLast}
use Rattle.hm_exec.specs.Moment.{FaultsAt, IsAdded, IsGoing, Moment, past_of}
use Rattle.hm_exec.specs.declared.answers.DownWhy.TheVariants as down_why
use Rattle.hm_exec.specs.declared.answers.UpWhy.TheVariants as up_why
use Rattle.hm_exec.proofs.Entered.{copying}
use Rattle.hm_exec.proofs.Going.{past_more}
use Rattle.hm_exec.proofs.Living.{address_is, newest, older_there, up_behind}

-- why a server doesn't come up or go down, by the journal
pub not_up : (J : Past) (server : Server) (why : UpRefused) → StandingsTell J → CannotComeUp (standings_of J) server why → why ≢ up_is.Memory → CannotUp J server why
not_up J server up_is.Known tell cannot judged = sym (tell.live server) ∙ cannot
not_up J server (up_is.OldStart start) tell cannot judged = (sym (tell.live server) ∙ cannot.0, cannot.1.0, cannot.1.1)
not_up J server up_is.Memory tell cannot judged = absurd (judged refl)

pub not_down : (J : Past) (server : Server) (why : DownRefused) → StandingsTell J → CannotGoDown (standings_of J) server why → CannotDown J server why
not_down J server down_is.Unknown tell cannot = sym (tell.came server) ∙ cannot
not_down J server down_is.AlreadyDown tell cannot = (sym (tell.came server) ∙ cannot.0, sym (tell.live server) ∙ cannot.1)

-- a server that goes down, where that isn't recorded
pub down_faults : (old new : Moment) (server : Server) (fault : HallFault) → is_live (past_of old) server ≡ true → FaultsCopying old (entry_is.Down server) fault new → AnswersDown old server (Err (down_why.Fault fault)) new
down_faults old new server (fault_is.Halted why) live faults = faults
down_faults old new server fault live faults = (live, faults)

-- memory runs out before anything is recorded of a server that may come up
pub first_memory : (old : Moment) (server : Server) → IsGoing old → IsBegun (past_of old) → StandingsTell (past_of old) → CanUp (past_of old) server → FaultsFirst old server fault_is.Memory old
first_memory old server going begun tell can = by (has_older_live (past_of old) server) refl
  where
    by : (b : Bool) → has_older_live (past_of old) server ≡ b → FaultsFirst old server fault_is.Memory old
    by true e =
        let older = older_there (past_of old) server e in
        inr (older.0, older.1, (going, (begun, (older.1.0, tt)), refl))
    by false e = inl (e, (going, (begun, (newest (past_of old) server tell can, (e, tt))), refl))

-- the entries of servers of one host are as long
server_long : (s : Server) → length (server_spelled s) ≡ length s.host + 12
unfolding server_spelled
server_long s = omega (arith, length-append s.host (bytes_low_first 0 2 s.port ++ number s.start))

up_long : (s : Server) → length (spelling (entry_is.Up s)) ≡ length s.host + 13
unfolding spelling
up_long s = omega (arith, server_long s)

down_long : (s : Server) → length (spelling (entry_is.Down s)) ≡ length s.host + 13
unfolding spelling
down_long s = omega (arith, server_long s)

-- so where the one that comes up would pass the hard mark, an older one that goes down would
passes_down : (hard : ℕ) (entries : List Entry) (server older : Server) → same_address server older ≡ true → Passes hard entries (entry_is.Up server) → Passes hard entries (entry_is.Down older)
passes_down hard entries server older beside passes =
    let up = up_long server in
    let down = down_long older in
    let host = ap (λ (h : List ℕ). length h) (address_is server older beside).0 in
    omega (arith, passes, up, down, host)

-- after an entry that was recorded nothing is halted
still_going : (old new : Moment) (entry : Entry) → IsAdded old entry new → IsGoing new
still_going old new entry added = ap halt_of added.2.1.3 ∙ added.0

-- nothing was recorded
pub up_first : (old new : Moment) (server : Server) (fault : HallFault) → CanUp (past_of old) server → FaultsFirst old server fault new → RunsOutLast old server fault → AnswersUp old server (Err (up_why.Fault fault)) new
up_first old new server (fault_is.Halted why) can faults last = elim faults [ inl up ↦ up.1 | inr down ↦ down.2 ]
up_first old new server fault can faults last = (can, inl faults, last)

-- what the recorder refuses to record of a server that may come up is refused of what comes first
pub up_refused : (old new : Moment) (server : Server) (fault : HallFault) → IsGoing old → IsBegun (past_of old) → StandingsTell (past_of old) → CanUp (past_of old) server → (Accepts old.kept (entry_is.Up server) → ⊥)
    → Adds old.kept (entry_is.Up server) (Err fault) new.kept → new.claimed ≡ old.claimed → AnswersUp old server (Err (up_why.Fault fault)) new
up_refused old new server (fault_is.Halted why) going begun tell can full adds same = absurd (none-some why (sym going ∙ adds.0))
up_refused old new server fault_is.LogFault going begun tell can full adds same = absurd (full (adds.0, adds.1))
up_refused old new server fault_is.Memory going begun tell can full adds same = absurd (full adds.0)
up_refused old new server (fault_is.JournalFull bytes) going begun tell can full adds same =
    up_first old new server (fault_is.JournalFull bytes) can (by (has_older_live (past_of old) server) refl) (λ out. absurd cc)
  where
    by : (b : Bool) → has_older_live (past_of old) server ≡ b → FaultsFirst old server (fault_is.JournalFull bytes) new
    by false e = inl (e, (going, (begun, (newest (past_of old) server tell can, (e, tt))), (adds, same)))
    by true e =
        let older = older_there (past_of old) server e in
        let kept = old.kept in
        inr (older.0, older.1, (going, (begun, (older.1.0, tt)), ((adds.0, passes_down kept.hard kept.entries server older.0 older.1.1 adds.1, adds.2, adds.3), same)))

-- what holds of a fault holds of what a failed call passes on
pub at_fault : {T : Type 0} (P : HallFault → Type 0) (r : Result T HallFault) (fault : HallFault) → IsErrAnd r (λ why. why ≡ fault) → P fault → IfErr r P
at_fault P (Ok x) fault told holds = absurd told
at_fault P (Err why) fault told holds = subst P (sym told) holds

-- after the end of the older one of its address a server may come up
pub up_after : (old new : Moment) (server older : Server) → IsLegal (past_of old) → StandingsTell (past_of old) → CanUp (past_of old) server → IsOlder (past_of old) server older → IsAdded old (entry_is.Down older) new
    → Allowed (past_of new) (entry_is.Up server)
up_after old new server older legal tell can is added =
    let kept = old.kept in
    let later = new.kept in
    subst (λ J. Allowed J (entry_is.Up server)) (sym (past_more (past_in kept) (past_in later) old.kept new.kept (entry_is.Down older) added.2.0 refl refl added.2.1))
    (up_behind (past_of old) legal server older is (newest (past_of old) server tell can))

-- the older server of the address that went down first, if there was one
module _ (old mid : Moment) (server : Server) (down : Option (Server × Pid)) (none : IfNone down ((has_older_live (past_of old) server ≡ false) × (mid ≡ old))) (some : IfSome down (λ older. PutsDown old server older.0 older.1 mid)) where
  abbrev None_down : Option (Server × Pid) → Type 0
  None_down o = IfNone o ((has_older_live (past_of old) server ≡ false) × (mid ≡ old))

  abbrev Some_down : Option (Server × Pid) → Type 0
  Some_down o = IfSome o (λ older. PutsDown old server older.0 older.1 mid)

  pub goes_still : IsGoing old → IsGoing mid
  goes_still going = by down none some
    where
      by : (o : Option (Server × Pid)) → None_down o → Some_down o → IsGoing mid
      by None is puts = ap (λ (m : Moment). halt_of m.kept) is.1 ∙ going
      by (Some older) is puts = still_going old mid (entry_is.Down older.0) puts.1

  -- then the server came up
  pub came : CanUp (past_of old) server → (new : Moment) → IsAdded mid (entry_is.Up server) new → AnswersUp old server (Ok down) new
  came can new added = by down none some
    where
      by : (o : Option (Server × Pid)) → None_down o → Some_down o → AnswersUp old server (Ok o) new
      by None is puts = (can, is.0, subst (λ (m : Moment). IsAdded m (entry_is.Up server) new) is.1 added)
      by (Some (older, pid)) is puts = (can, mid, puts, added)

  -- or that wasn't recorded
  pub came_not : CanUp (past_of old) server → Accepts old.kept (entry_is.Up server) → (new : Moment) (fault : HallFault) → FaultsAt mid (entry_is.Up server) fault new → AnswersUp old server (Err (up_why.Fault fault)) new
  came_not can accepted new fault faults = by down none some
    where
      later : (older : Server) (pid : Pid) (f : HallFault) → PutsDown old server older pid mid → FaultsAt mid (entry_is.Up server) f new → AnswersUp old server (Err (up_why.Fault f)) new
      later older pid (fault_is.Halted why) puts at = absurd (none-some why (sym (still_going old mid (entry_is.Down older) puts.1) ∙ at.0))
      later older pid f puts at = (can, inr (older, pid, mid, puts, at), λ out. accepted)

      by : (o : Option (Server × Pid)) → None_down o → Some_down o → AnswersUp old server (Err (up_why.Fault fault)) new
      by None is puts = up_first old new server fault can (inl (is.0, copying old new (entry_is.Up server) fault (subst (λ (m : Moment). FaultsAt m (entry_is.Up server) fault new) is.1 faults))) (λ out. accepted)
      by (Some older) is puts = later older.0 older.1 fault puts faults
