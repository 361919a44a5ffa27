-- What halts a run as full is an entry that would have passed the hard mark.
use Rattle.std.proofs.Common.{◌≡◌, ℕ, List, [], ◌∷◌, Option, Some, None, refl, sym, ◌∙◌, subst, inl, inr}
use Rattle.std.specs.Prelude.{MatchOption}
use Rattle.std.proofs.lemmas.Option.{none-some}
use Rattle.hm_hall.specs.declared.fault.Halt.{Halt}
use Rattle.hm_hall.specs.declared.fault.Halt.TheVariants as halt_is
use Rattle.hm_script.specs.declared.command.Command.{Command}
use Rattle.hm_names.specs.Server.{Server}
use Rattle.hm_script.specs.declared.command.Command.TheVariants as command_is
use Rattle.hm_world.specs.Scene.{GoesOn, Scene}
use Rattle.hm_commands.specs.Commands.{Comes, ComesAt, MayAdd}
use Rattle.hm_commands.specs.Hands.{sheets_used}
use Rattle.hm_commands.specs.Scenes.{halt_at, kept_at}
use Rattle.hm_commands.specs.declared.answer.Answer.{Answer}
use Rattle.hm_commands.specs.declared.answer.Answer.TheVariants as answer_is
use Rattle.hm_commands.proofs.Growth.{Grows, IsPassed, comes_grows}
use Rattle.hm_top.specs.Answering.{Remains}
use Rattle.hm_top.specs.Opening.{Downs, PassesBy}
use Rattle.hm_top.specs.declared.status.RunStatus.TheVariants.{JournalFull}
use Rattle.hm_top.specs.Session.{EndedBy, Session}
use Rattle.hm_top.specs.Standing.{begun}
use Rattle.hm_top.specs.Transcript.{Transcript}
use Rattle.hm_top.proofs.Openings.{down_keeps, expire_comes}

-- with this hard mark a run is halted as full only so
abbrev pub IsFull : ℕ → Scene → Type 0
IsFull hard at = (let kept = kept_at at in kept.hard ≡ hard) × ((bytes : ℕ) → halt_at at ≡ Some (halt_is.JournalFull bytes) → IsPassed hard bytes)

-- where nothing halts
pub going_full : (hard : ℕ) (at : Scene) → (kept_at at).hard ≡ hard → halt_at at ≡ None → IsFull hard at
going_full hard at same going = (same, λ bytes full. absurd (none-some (halt_is.JournalFull bytes) (sym going ∙ full)))

-- after a command
pub comes_full : (hard : ℕ) (command : Command) (old : Scene) (answer : Option Answer) (new : Scene) → IsFull hard old → Comes command old answer new → IsFull hard new
comes_full hard command old answer new was c = by (halt_at old) refl c
  where
    grows : Grows (MayAdd command) (kept_at old) (kept_at new)
    grows = comes_grows old new command answer c

    by : (halted : Option Halt) → halt_at old ≡ halted → MatchOption halted (ComesAt command old answer new) (λ why. (answer ≡ Some (answer_is.Halted why)) × (new ≡ old)) → IsFull hard new
    by None going at = (grows.hard ∙ was.0, λ bytes full. subst (λ (h : ℕ). IsPassed h bytes) was.0 (grows.full bytes going full))
    by (Some why) is same = subst (IsFull hard) (sym same.1) was

-- after all that were answered
pub answered_full : (hard : ℕ) (commands : List Command) (old : Scene) (marks : List ℕ) (answers : List Answer) (new : Scene) → IsFull hard old → Transcript commands old marks answers new → IsFull hard new
answered_full hard [] old marks answers new was t = subst (IsFull hard) (sym t.2) was
answered_full hard (command ∷ commands) old marks answers new was t =
    answered_full hard commands t.0 t.1 t.2 new (comes_full hard command old (Some t.3.answer) t.0 was t.3.fits) t.4

pass_full : (hard : ℕ) (server : Server) (old : Scene) (lines : List Answer) (new : Scene) → GoesOn old → IsFull hard old → PassesBy server old lines new → IsFull hard new × GoesOn new
pass_full hard server old lines new going was (inl down) =
    let comes = expire_comes server old (Some (answer_is.Expired server down.pid)) new going down.expires in
    (comes_full hard (command_is.Expire server) old (Some (answer_is.Expired server down.pid)) new was comes, (down_keeps server old new lines down).going)
pass_full hard server old lines new going was (inr same) = (subst (IsFull hard) (sym same.2) was, subst GoesOn (sym same.2) going)

-- after servers that were held to be dead
pub downs_full : (hard : ℕ) (servers : List Server) (old : Scene) (lines : List Answer) (new : Scene) → GoesOn old → IsFull hard old → Downs servers old lines new → IsFull hard new × GoesOn new
downs_full hard [] old lines new going was downs = (subst (IsFull hard) (sym downs.1) was, subst GoesOn (sym downs.1) going)
downs_full hard (server ∷ servers) old lines new going was downs =
    let here = pass_full hard server old downs.1 downs.0 going was downs.3 in downs_full hard servers downs.0 downs.2 new here.1 here.0 downs.5

-- after an opening, and after what follows
pub remains_full : (hard bytes : ℕ) (left : List Server) (answered rest : List Command) (start : Scene) (marks : List ℕ) (answers : List Answer) (mid new : Scene) → GoesOn start → IsFull hard start → Transcript answered start marks answers mid
    → Remains (JournalFull bytes) left answered rest mid new → IsFull hard new
remains_full hard bytes left answered rest start marks answers mid new going was t (inl none) = subst (IsFull hard) (sym none.2) (answered_full hard answered start marks answers mid was t)
remains_full hard bytes [] answered rest start marks answers mid new going was t (inr halts) = absurd halts.1
remains_full hard bytes (server ∷ left) answered rest start marks answers mid new going was t (inr halts) =
    let here : mid ≡ start = (subst (λ (l : List Command). Transcript l start marks answers mid) halts.0 t).2 in
    comes_full hard (command_is.Expire server) mid (Some (answer_is.Halted (halt_is.JournalFull bytes))) new (subst (IsFull hard) (sym here) was)
    (expire_comes server mid (Some (answer_is.Halted (halt_is.JournalFull bytes))) new (subst GoesOn (sym here) going) halts.1.1)

-- a session that ended full had an entry that would have passed the hard mark
pub ended_full : (session : Session) (bytes : ℕ) → EndedBy session (JournalFull bytes) (Some (halt_is.JournalFull bytes)) → IsPassed session.limits.hard bytes
ended_full session bytes ended =
    let opened = ended.0 in
    let its = opened.answering in
    let first = begun session.limits (sheets_used session.hands) opened.old in
    let start = downs_full session.limits.hard its.opening.passed first its.lines its.start refl (going_full session.limits.hard first refl refl) its.opening.downs in
    (remains_full session.limits.hard bytes its.left its.turns.answered its.rest its.start session.marks its.answers its.mid opened.new start.1 start.0 its.turns.transcript its.remains).1 bytes ended.1
