-- How a run begins: servers that are live are held to be dead, one after another.
use Rattle.std.proofs.Common.{◌≡◌, ◌≢◌, ◌⊎◌, ◌<◌, ℕ, zero, suc, List, [], ◌∷◌, ◌++◌, length, take, Option, Some, None, Result, Ok, Err, Bool, true, false, slice_get, if◌then◌else◌, refl, sym, ap, ◌∙◌, subst, inl, inr, append-nil, append_assoc, arith, All}
use Rattle.std.specs.Prelude.{IfErr, IfOk, MatchOption}
use Rattle.std.proofs.lemmas.Grind.{flat_map-append}
use Rattle.std.proofs.lemmas.Option.{none-some}
use Rattle.std.proofs.lemmas.List.Elements.{All-head, All-tail}
use Rattle.hm_names.specs.Server.{Server}
use Rattle.hm_data.specs.declared.entry.Entry.{Entry}
use Rattle.hm_data.specs.declared.entry.Entry.TheVariants as entry_is
use Rattle.hm_hall.specs.Recording.{Recording}
use Rattle.hm_hall.specs.declared.fault.Halt.{Halt}
use Rattle.hm_hall.specs.declared.fault.Halt.TheVariants as halt_is
use Rattle.hm_hall.specs.declared.fault.HallFault.TheVariants as fault_is
use Rattle.hm_model.specs.Editions.{editions}
use Rattle.hm_model.specs.Fleet.{came_up, is_live, servers_of}
use Rattle.hm_model.specs.Image.{counted}
use Rattle.hm_model.specs.Journal.{back}
use Rattle.hm_model.specs.Sheets.{sheets_of}
use Rattle.hm_model.proofs.CameUp.{live_came}
use Rattle.hm_model.proofs.Prefixes.{back-push}
use Rattle.hm_places.specs.declared.refused.DownRefused.TheVariants as down_is
use Rattle.hm_exec.specs.Moment.{IsAdded}
use Rattle.hm_exec.specs.declared.answers.DownWhy.TheVariants as down_why
use Rattle.hm_script.specs.declared.command.Command.{Command}
use Rattle.hm_script.specs.declared.command.Command.TheVariants as command_is
use Rattle.hm_world.specs.Scene.{GoesOn, Scene, past_in}
use Rattle.hm_commands.specs.Answer.{answer_text}
use Rattle.hm_commands.specs.Commands.{Comes, ComesAt, Expires}
use Rattle.hm_commands.specs.Hands.{HandsUse, Ran, RunBy, one_step, steps_in}
use Rattle.hm_commands.specs.Live.{live_if}
use Rattle.hm_commands.specs.Scenes.{halt_at, journal_at}
use Rattle.hm_commands.specs.declared.answer.Answer.{Answer}
use Rattle.hm_commands.specs.declared.answer.Answer.TheVariants as answer_is
use Rattle.hm_commands.proofs.Growth.{comes_grows}
use Rattle.hm_commands.proofs.Ran.{steps_more}
use Rattle.hm_top.specs.declared.status.EarlyEnd.{EarlyEnd}
use Rattle.hm_top.specs.declared.status.EarlyEnd.TheVariants as early_is
use Rattle.hm_top.specs.Answering.{IsAnswering, IsAnsweringOn, EndsAt, Remains}
use Rattle.hm_top.specs.Ending.{ended_status}
use Rattle.hm_top.specs.Got.{GotAnswers, IsPartOf, IsShort}
use Rattle.hm_top.specs.Opening.{AddsNoStep, Downs, GoesDown, IsEndOf, IsPassing, PassesBy, StopsAt, opening_lines}
use Rattle.hm_top.specs.Transcript.{text_of}

-- what is answered to a server that is held to be dead, by what the executor answered
module _ (server : Server) (old new : Scene) where
  -- an expiration that is told was recorded
  pub expired_is : (pid : ℕ) → Expires server old (Some (answer_is.Expired server pid)) new → IsAdded old.exec (entry_is.Down server) new.exec
  expired_is pid (Ok given, a, only, told) = a.0
  expired_is pid (Err (down_why.Down down_is.Unknown), a, only, told) = absurd (cc)
  expired_is pid (Err (down_why.Down down_is.AlreadyDown), a, only, told) = absurd (cc)
  expired_is pid (Err (down_why.Fault fault_is.LogFault), a, only, told) = absurd (cc)
  expired_is pid (Err (down_why.Fault (fault_is.JournalFull bytes)), a, only, told) = absurd (cc)
  expired_is pid (Err (down_why.Fault (fault_is.Halted why)), a, only, told) = absurd (cc)
  expired_is pid (Err (down_why.Fault fault_is.Memory), a, only, told) = absurd (cc)

  same_halt : (one other : Halt) → Some (answer_is.Halted one) ≡ Some (answer_is.Halted other) → other ≡ one
  same_halt one other e = cc

  -- one that halts the run leaves it halted so
  pub halted_is : (why : Halt) → GoesOn old → Expires server old (Some (answer_is.Halted why)) new → halt_at new ≡ Some why
  halted_is why going (Ok given, a, only, told) = absurd (cc)
  halted_is why going (Err (down_why.Down down_is.Unknown), a, only, told) = absurd (cc)
  halted_is why going (Err (down_why.Down down_is.AlreadyDown), a, only, told) = absurd (cc)
  halted_is why going (Err (down_why.Fault fault_is.LogFault), a, only, told) =
      ap (λ (k : Recording). k.halted) a.1.2.0.2 ∙ ap Some (same_halt why halt_is.LogFault told)
  halted_is why going (Err (down_why.Fault (fault_is.JournalFull bytes)), a, only, told) =
      ap (λ (k : Recording). k.halted) a.1.2.0.3 ∙ ap Some (same_halt why (halt_is.JournalFull bytes) told)
  halted_is why going (Err (down_why.Fault (fault_is.Halted other)), a, only, told) = absurd (none-some other (sym going ∙ a.0))
  halted_is why going (Err (down_why.Fault fault_is.Memory), a, only, told) = absurd (cc)

  -- a server that is live is held to be dead, or that halts the run
  pub answered_so : (answer : Answer) → GoesOn old → is_live (past_in old) server ≡ true → Expires server old (Some answer) new → ((why : Halt) → answer ≢ answer_is.Halted why) → (pid : ℕ) × (answer ≡ answer_is.Expired server pid)
  answered_so answer going live (Ok given, a, only, told) unsaid = (given.0, cc)
  answered_so answer going live (Err (down_why.Down down_is.Unknown), a, only, told) unsaid = let never : came_up (past_in old) server ≡ false = a.1 in let came = live_came (past_in old) server live in absurd (cc)
  answered_so answer going live (Err (down_why.Down down_is.AlreadyDown), a, only, told) unsaid = let dead : is_live (past_in old) server ≡ false = a.1.1 in absurd (cc)
  answered_so answer going live (Err (down_why.Fault fault_is.LogFault), a, only, told) unsaid = absurd (unsaid halt_is.LogFault (cc))
  answered_so answer going live (Err (down_why.Fault (fault_is.JournalFull bytes)), a, only, told) unsaid = absurd (unsaid (halt_is.JournalFull bytes) (cc))
  answered_so answer going live (Err (down_why.Fault (fault_is.Halted why)), a, only, told) unsaid = absurd (unsaid why (cc))
  answered_so answer going live (Err (down_why.Fault fault_is.Memory), a, only, told) unsaid = absurd (cc)

-- it is what becomes of the command that says so
pub expire_comes : (server : Server) (old : Scene) (answer : Option Answer) (new : Scene) → GoesOn old → Expires server old answer new → Comes (command_is.Expire server) old answer new
expire_comes server old answer new going e =
    subst (λ (h : Option Halt). MatchOption h (ComesAt (command_is.Expire server) old answer new) (λ why. (answer ≡ Some (answer_is.Halted why)) × (new ≡ old))) (sym going) e

-- what stays where servers are held to be dead
pub record Keeps (old new : Scene) : Type 0 where
  pub going : GoesOn new
  pub servers : servers_of (past_in new) ≡ servers_of (past_in old)
  pub sheets : sheets_of (back (journal_at new)) ≡ sheets_of (back (journal_at old))
  pub edition : editions (back (journal_at new)) ≡ editions (back (journal_at old))
  pub steps : AddsNoStep old new

pub keeps_same : (old new : Scene) → new ≡ old → GoesOn old → Keeps old new
keeps_same old new same going = record {
  going = subst GoesOn (sym same) going;
  servers = ap (λ (s : Scene). servers_of (past_in s)) same;
  sheets = ap (λ (s : Scene). sheets_of (back (journal_at s))) same;
  edition = ap (λ (s : Scene). editions (back (journal_at s))) same;
  steps = ([], ap journal_at same ∙ sym (append-nil (journal_at old)), refl);
}

pub keeps_on : (old mid new : Scene) → Keeps old mid → Keeps mid new → Keeps old new
keeps_on old mid new first second =
    let one = first.steps in
    let two = second.steps in
    record {
      going = second.going;
      servers = second.servers ∙ first.servers;
      sheets = second.sheets ∙ first.sheets;
      edition = second.edition ∙ first.edition;
      steps = (
        one.0 ++ two.0,
        two.1 ∙ ap (λ l. l ++ two.0) one.1 ∙ append_assoc (journal_at old) one.0 two.0,
        let all = steps_more one.0 two.0 in let none = one.2 in let nor = two.2 in omega (arith, all, none, nor),
      );
    }

pub down_keeps : (server : Server) (old new : Scene) (lines : List Answer) → GoesDown server old lines new → Keeps old new
down_keeps server old new lines down =
    let added = expired_is server old new down.pid down.expires in
    let recorded = added.2.1 in
    let entries : journal_at new ≡ journal_at old ++ entry_is.Down server ∷ [] = ap (λ (k : Recording). k.entries) recorded.3 in
    let past : past_in new ≡ entry_is.Down server ∷ past_in old = ap back entries ∙ back-push (journal_at old) (entry_is.Down server) in
    record {
      going = ap (λ (k : Recording). k.halted) recorded.3 ∙ added.0;
      servers = ap servers_of past;
      sheets = ap sheets_of past;
      edition = ap editions past;
      steps = (entry_is.Down server ∷ [], entries, refl);
    }

pub pass_keeps : (server : Server) (old new : Scene) (lines : List Answer) → GoesOn old → PassesBy server old lines new → Keeps old new
pass_keeps server old new lines going (inl down) = down_keeps server old new lines down
pass_keeps server old new lines going (inr same) = keeps_same old new same.2 going

pub downs_keep : (servers : List Server) (old : Scene) (lines : List Answer) (new : Scene) → GoesOn old → Downs servers old lines new → Keeps old new
downs_keep [] old lines new going downs = keeps_same old new downs.1 going
downs_keep (server ∷ servers) old lines new going downs =
    let first = pass_keeps server old downs.0 downs.1 going downs.3 in
    keeps_on old downs.0 new first (downs_keep servers downs.0 downs.2 new first.going downs.5)

-- one server more
pub downs_more : (servers : List Server) (server : Server) (old mid new : Scene) (lines more : List Answer) → Downs servers old lines mid → PassesBy server mid more new → Downs (servers ++ server ∷ []) old (lines ++ more) new
downs_more [] server old mid new lines more downs pass =
    (new, more, [], subst (λ (s : Scene). PassesBy server s more new) downs.1 pass, ap (λ l. l ++ more) downs.0 ∙ sym (append-nil more), (refl, refl))
downs_more (first ∷ servers) server old mid new lines more downs pass = (
  downs.0,
  downs.1,
  downs.2 ++ more,
  downs.3,
  ap (λ l. l ++ more) downs.4 ∙ append_assoc downs.1 downs.2 more,
  downs_more servers server downs.0 mid new downs.2 more downs.5 pass,
)

-- the text of lines after others
text_more : (before mid after : List ℕ) (lines more : List Answer) → mid ≡ before ++ text_of lines → after ≡ mid ++ text_of more → after ≡ before ++ text_of (lines ++ more)
text_more before mid after lines more first second =
    second ∙ ap (λ l. l ++ text_of more) first ∙ append_assoc before (text_of lines) (text_of more) ∙ ap (λ l. before ++ l) (sym (flat_map-append answer_text lines more))

-- a part of a line after others
short_more : (before mid after : List ℕ) (lines : List Answer) (line : Answer) → mid ≡ before ++ text_of lines → IsPartOf mid after (answer_text line) → IsShort before after (lines ++ line ∷ [])
short_more before mid after lines line first part = record { before = lines; last = line; parts = refl; got = subst (λ m. IsPartOf m after (answer_text line)) first part }

module _ {tells : Type 0} {got0 got1 : List ℕ} (old : Scene) where
  -- the first line was said
  pub opened_said : (tells → got1 ≡ got0 ++ answer_text (answer_is.Opened (counted (past_in old)))) → IsPassing tells got0 got1 old [] old
  opened_said said = record {
    lines = [];
    downs = (refl, refl);
    said = λ told. said told ∙ ap (λ l. got0 ++ l) (sym (append-nil (answer_text (answer_is.Opened (counted (past_in old))))));
  }

  -- it wasn't said whole
  pub not_opened : (commands : List Command) → (tells → IsPartOf got0 got1 (answer_text (answer_is.Opened (counted (past_in old))))) → IsAnswering tells got0 got1 (Err early_is.WriteFault) commands old [] old
  not_opened commands part = record {
    left = servers_of (past_in old);
    lines = [];
    start = old;
    opening = record { passed = []; servers = refl; downs = (refl, refl) };
    rest = commands;
    answers = [];
    mid = old;
    turns = record { answered = []; parts = refl; transcript = (refl, refl, refl) };
    remains = (inr refl, refl);
    said_are = λ told. short_more got0 got0 got1 [] (answer_is.Opened (counted (past_in old))) (sym (append-nil got0)) (part told);
  }

-- The first servers were passed by.
module _ {tells : Type 0} {got0 got1 : List ℕ} {old at : Scene} {passed : List Server} (passing : IsPassing tells got0 got1 old passed at) where
  -- and one more
  pub pass_more : (server : Server) (lines : List Answer) (new : Scene) {got2 : List ℕ} → PassesBy server at lines new → (tells → got2 ≡ got1 ++ text_of lines) → IsPassing tells got0 got2 old (passed ++ server ∷ []) new
  pass_more server lines new {got2} pass said = record {
    lines = passing.lines ++ lines;
    downs = downs_more passed server old at new passing.lines lines passing.downs pass;
    said = λ told. text_more got0 got1 got2 (opening_lines old passing.lines) lines (passing.said told) (said told);
  }

  -- and the opening ends at the next
  module _ (server : Server) (more : List Server) (all : servers_of (past_in old) ≡ passed ++ server ∷ more) (commands : List Command) where
    no_more : (lines : List Answer) → lines ++ [] ≡ lines
    no_more lines = append-nil lines

    pub stops_halted : (why : Halt) (new : Scene) {got2 : List ℕ} → StopsAt tells got1 got2 server at (early_is.Halted why) new → IsAnswering tells got0 got2 (Err (early_is.Halted why)) commands old [] new
    stops_halted halt_is.LogFault new {got2} s = record {
      left = server ∷ more;
      lines = passing.lines;
      start = at;
      opening = record { passed = passed; servers = all; downs = passing.downs };
      rest = commands;
      answers = [];
      mid = at;
      turns = record { answered = []; parts = refl; transcript = (refl, refl, refl) };
      remains = inr (refl, s.0);
      said_are = λ told. s.1 told ∙ passing.said told ∙ ap (λ l. got0 ++ text_of l) (sym (no_more (opening_lines old passing.lines)));
    }
    stops_halted (halt_is.JournalFull bytes) new {got2} s = record {
      left = server ∷ more;
      lines = passing.lines;
      start = at;
      opening = record { passed = passed; servers = all; downs = passing.downs };
      rest = commands;
      answers = [];
      mid = at;
      turns = record { answered = []; parts = refl; transcript = (refl, refl, refl) };
      remains = inr (refl, s.0);
      said_are = λ told. s.1 told ∙ passing.said told ∙ ap (λ l. got0 ++ text_of l) (sym (no_more (opening_lines old passing.lines)));
    }

    -- by this end
    pub stops : (end : EarlyEnd) (new : Scene) (got2 : List ℕ) → StopsAt tells got1 got2 server at end new → IsAnswering tells got0 got2 (Err end) commands old [] new
    stops (early_is.Halted why) new got2 s = stops_halted why new s
    stops early_is.WriteFault new got2 s = record {
      left = more;
      lines = passing.lines ++ s.0 ∷ [];
      start = new;
      opening = record { passed = passed ++ server ∷ []; servers = all ∙ sym (append_assoc passed (server ∷ []) more); downs = downs_more passed server old at new passing.lines (s.0 ∷ []) passing.downs (inl s.1) };
      rest = commands;
      answers = [];
      mid = new;
      turns = record { answered = []; parts = refl; transcript = (refl, refl, refl) };
      remains = (inr refl, refl);
      said_are = λ told. subst (IsShort got0 got2) (sym (no_more (opening_lines old passing.lines ++ s.0 ∷ []))) (short_more got0 got1 got2 (opening_lines old passing.lines) s.0 (passing.said told) (s.2 told));
    }
    stops early_is.Memory new got2 s = record {
      left = server ∷ more;
      lines = passing.lines;
      start = at;
      opening = record { passed = passed; servers = all; downs = passing.downs };
      rest = commands;
      answers = [];
      mid = at;
      turns = record { answered = []; parts = refl; transcript = (refl, refl, refl) };
      remains = inr (refl, s.0);
      said_are = λ told. s.1 told ∙ passing.said told ∙ ap (λ l. got0 ++ text_of l) (sym (no_more (opening_lines old passing.lines)));
    }

-- what an end of the opening says of the run
pub stop_ends : (tells : Type 0) (got0 got1 : List ℕ) (server : Server) (old : Scene) (end : EarlyEnd) (new : Scene) → StopsAt tells got0 got1 server old end new → IsEndOf end new
stop_ends tells got0 got1 server old (early_is.Halted why) new s = s.0.2
stop_ends tells got0 got1 server old early_is.WriteFault new s = tt
stop_ends tells got0 got1 server old early_is.Memory new s = tt

-- what is answered after an opening, under what was said before
said_on : (got0 got1 got2 : List ℕ) (lines : List Answer) (ended : Result (Unit {0}) EarlyEnd) (rest : List Command) (mid new : Scene) (answers : List Answer) → EndsAt ended rest mid new
    → got1 ≡ got0 ++ text_of lines → GotAnswers got1 got2 (ended_status ended None) answers → GotAnswers got0 got2 (ended_status ended None) (lines ++ answers)
said_on got0 got1 got2 lines (Ok done) rest mid new answers ends first got = text_more got0 got1 got2 lines answers first got
said_on got0 got1 got2 lines (Err (early_is.Halted why)) rest mid new answers ends first got = absurd ends
said_on got0 got1 got2 lines (Err early_is.WriteFault) rest mid new answers ends first got = record {
  before = lines ++ got.before;
  last = got.last;
  parts = ap (λ l. lines ++ l) got.parts ∙ sym (append_assoc lines got.before (got.last ∷ []));
  got = subst (λ m. IsPartOf m got2 (answer_text got.last)) (text_more got0 got1 (got1 ++ text_of got.before) lines got.before first refl) got.got;
}
said_on got0 got1 got2 lines (Err early_is.Memory) rest mid new answers ends first got = text_more got0 got1 got2 lines answers first got

remains_on : (ended : Result (Unit {0}) EarlyEnd) (answered rest : List Command) (mid new : Scene) → EndsAt ended rest mid new → Remains (ended_status ended None) [] answered rest mid new
remains_on (Ok done) answered rest mid new e = (refl, e.0, e.1)
remains_on (Err (early_is.Halted why)) answered rest mid new e = absurd e
remains_on (Err early_is.WriteFault) answered rest mid new e = (inl refl, e)
remains_on (Err early_is.Memory) answered rest mid new e = inl (refl, e)

-- commands are answered after an opening
pub answered_on : {tells : Type 0} {got0 got1 got2 : List ℕ} {old at : Scene} {servers : List Server} → servers_of (past_in old) ≡ servers → IsPassing tells got0 got1 old servers at → (ended : Result (Unit {0}) EarlyEnd) {commands : List Command}
    {marks : List ℕ} {new : Scene} → IsAnsweringOn tells got1 got2 ended commands at marks new → IsAnswering tells got0 got2 ended commands old marks new
answered_on {got0} {got1} {got2} {old} {at} {servers} all passing ended {new} a = record {
  left = [];
  lines = passing.lines;
  start = at;
  opening = record { passed = servers; servers = all ∙ sym (append-nil servers); downs = passing.downs };
  rest = a.rest;
  answers = a.answers;
  mid = a.mid;
  turns = a.turns;
  remains = remains_on ended a.turns.answered a.rest a.mid new a.ends;
  said_are = λ told. said_on got0 got1 got2 (opening_lines old passing.lines) ended a.rest a.mid new a.answers a.ends (passing.said told) (a.said told);
}

-- a server that is found is at the place, and live
pub found_at : (old : Scene) (place : Option Server) (server : Server) → Some server ≡ live_if (past_in old) place → (place ≡ Some server) × (is_live (past_in old) server ≡ true)
found_at old None server is = absurd (cc)
found_at old (Some other) server is = by (is_live (past_in old) other) refl is
  where
    by : (live : Bool) → is_live (past_in old) other ≡ live → Some server ≡ (if live then Some other else None) → (Some other ≡ Some server) × (is_live (past_in old) server ≡ true)
    by true e is = (sym is, let same : other ≡ server = cc in subst (λ s. is_live (past_in old) s ≡ true) same e)
    by false e is = absurd (cc)

-- where none is found, one at the place isn't live
pub none_at : (old : Scene) (server : Server) → None ≡ live_if (past_in old) (Some server) → is_live (past_in old) server ≡ false
none_at old server is = by (is_live (past_in old) server) is
  where
    by : (live : Bool) → None ≡ (if live then Some server else None) → live ≡ false
    by true is = absurd (cc)
    by false is = refl

-- where memory ran out, one at the place is live
pub some_at : (old : Scene) (place : Option Server) → live_if (past_in old) place ≢ None → (server : Server) × (place ≡ Some server) × (is_live (past_in old) server ≡ true)
some_at old None lack = absurd (lack refl)
some_at old (Some server) lack = (server, refl, by (is_live (past_in old) server) lack)
  where
    by : (live : Bool) → (if live then Some server else None) ≢ None → live ≡ true
    by true lack = refl
    by false lack = absurd (lack refl)

-- items before, at and after a place
pub split_at : (items : List Server) (place : ℕ) (item : Server) → slice_get items place ≡ Some item → (more : List Server) × (items ≡ take place items ++ item ∷ more)
split_at [] place item here = absurd (none-some item here)
split_at (first ∷ items) zero item here = let same : first ≡ item = cc in (items, ap (λ s. s ∷ items) same)
split_at (first ∷ items) (suc place) item here = let rest = split_at items place item here in (rest.0, ap (λ l. first ∷ l) rest.1)

-- there is an item at each place
pub item_at : (items : List Server) (place : ℕ) → place < length items → (item : Server) × (slice_get items place ≡ Some item)
item_at [] place within = absurd (omega arith)
item_at (first ∷ items) zero within = (first, refl)
item_at (first ∷ items) (suc place) within = item_at items place (omega arith)

all_downs : (server : Server) (added : List Entry) → All (λ entry. entry ≡ entry_is.Down server) added → steps_in added ≡ 0
all_downs server [] each = refl
all_downs server (entry ∷ added) each =
    let here : one_step entry ≡ 0 = ap one_step (All-head (λ entry. entry ≡ entry_is.Down server) entry added each) in
    let rest = all_downs server added (All-tail (λ entry. entry ≡ entry_is.Down server) entry added each) in
    omega (arith, here, rest)

-- holding a server to be dead adds no step
pub expires_steps : (server : Server) (old : Scene) (answer : Option Answer) (new : Scene) → GoesOn old → Expires server old answer new → AddsNoStep old new
expires_steps server old answer new going e =
    let grows = comes_grows old new (command_is.Expire server) answer (expire_comes server old answer new going e) in
    (grows.added, grows.grown, all_downs server grows.added grows.each)

-- an opening that ends adds no step
pub stop_steps : (tells : Type 0) (got0 got1 : List ℕ) (server : Server) (old : Scene) (end : EarlyEnd) (new : Scene) → GoesOn old → StopsAt tells got0 got1 server old end new → AddsNoStep old new
stop_steps tells got0 got1 server old (early_is.Halted why) new going s = expires_steps server old (Some (answer_is.Halted why)) new going s.0.1
stop_steps tells got0 got1 server old early_is.WriteFault new going s = expires_steps server old (Some (answer_is.Expired server s.1.pid)) new going s.1.expires
stop_steps tells got0 got1 server old early_is.Memory new going s = by s.0.1
  where
    by : Expires server old None new ⊎ (GoesOn old × (new ≡ old)) → AddsNoStep old new
    by (inl e) = expires_steps server old None new going e
    by (inr same) = ([], ap journal_at same.1 ∙ sym (append-nil (journal_at old)), refl)

pub adds_on : (old mid new : Scene) → AddsNoStep old mid → AddsNoStep mid new → AddsNoStep old new
adds_on old mid new one two = (
  one.0 ++ two.0,
  two.1 ∙ ap (λ l. l ++ two.0) one.1 ∙ append_assoc (journal_at old) one.0 two.0,
  let all = steps_more one.0 two.0 in let none = one.2 in let nor = two.2 in omega (arith, all, none, nor),
)

-- what ran after an opening
pub ran_behind : {hands : HandsUse} (old mid : Scene) (new : List Entry) → AddsNoStep old mid → Ran hands (journal_at mid) new → Ran hands (journal_at old) new
ran_behind {hands} old mid new one ran =
    let all = steps_more one.0 ran.0 in
    let none = one.2 in
    let steps : steps_in ran.0 ≡ steps_in (one.0 ++ ran.0) = omega (arith, all, none) in
    (one.0 ++ ran.0, ran.1 ∙ ap (λ l. l ++ ran.0) one.1 ∙ append_assoc (journal_at old) one.0 ran.0, subst (RunBy hands) steps ran.2)

-- answering isn't halted by the opening
pub answering_ends : (end : EarlyEnd) (rest : List Command) (mid new : Scene) → EndsAt (Err end) rest mid new → IsEndOf end new
answering_ends (early_is.Halted why) rest mid new e = absurd e
answering_ends early_is.WriteFault rest mid new e = tt
answering_ends early_is.Memory rest mid new e = tt

-- what follows of what went well, and of what didn't
pub ok_so : {T E : Type 0} {P Q : T → Type 0} (r : Result T E) → ((t : T) → P t → Q t) → IfOk r P → IfOk r Q
ok_so (Ok t) f p = f t p
ok_so (Err e) f p = tt

pub ok_both : {T E : Type 0} {P Q R : T → Type 0} (r : Result T E) → ((t : T) → P t → Q t → R t) → IfOk r P → IfOk r Q → IfOk r R
ok_both (Ok t) f p q = f t p q
ok_both (Err e) f p q = tt

pub err_so : {T E : Type 0} {P Q : E → Type 0} (r : Result T E) → ((e : E) → P e → Q e) → IfErr r P → IfErr r Q
err_so (Ok t) f p = tt
err_so (Err e) f p = f e p
