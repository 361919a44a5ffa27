-- What carrying a call or a report does.
use Rattle.std.specs.Prelude.{◌≡◌, ◌≢◌, ◌⊎◌, ◌+◌, ◌≤◌, List, [], ◌∷◌, Bool, Result, Ok, Err, true, false}
use Rattle.hm_data.specs.declared.call.Call.{Call}
use Rattle.hm_data.specs.declared.call.ReportMsg.{ReportMsg}
use Rattle.hm_hall.specs.declared.fault.HallFault.{HallFault}
use Rattle.hm_hall.specs.declared.fault.HallFault.TheVariants as fault_is
use Rattle.hm_exec.specs.declared.answers.Heard.{Heard}
use Rattle.hm_exec.specs.Hearing.{AnswersReport}
use Rattle.hm_exec.specs.Moment.{IsHalted}
use Rattle.hm_world_model.specs.Measure.{left_to_carry}
use Rattle.hm_world_model.specs.Outside.{delivered, report_to, with_report, with_sent}
use Rattle.hm_world.specs.Scene.{GoesOn, IsFirstDue, NoneIsDue, Scene, world_of}

-- nothing changed but what the executor has
abbrev pub OnlyExec : Scene → Scene → Type 0
OnlyExec old new = new ≡ record old { exec = new.exec }

-- the report that waits longest is heard, recorded or ignored, and waits no longer
abbrev pub Hears : Scene → ReportMsg → List ReportMsg → Scene → Type 0
Hears old report rest new =
    ((heard : Heard) × AnswersReport old.exec report (Ok heard) new.exec) × (new ≡ record old { exec = new.exec; waiting = rest })

-- the oldest call on the wire is delivered, and its report waits, if there is one
abbrev pub Delivers : Scene → Call → List Call → Scene → Type 0
Delivers old call rest new =
    GoesOn old
    × (new ≡ record old { outside = delivered old.outside call; wire = rest; waiting = with_report old.waiting (report_to old.outside call) })

-- the call that is due with the lowest number is sent
abbrev pub Sends : Scene → Scene → Type 0
Sends old new =
    GoesOn old × (call : Call) × IsFirstDue old call
    × (new ≡ record old { outside = with_sent old.outside call; wire = call ∷ [] })

-- nothing halted it, and something can be carried: a report waits, a call is on the wire, or one is due
abbrev pub CanCarry : Scene → Type 0
CanCarry old = GoesOn old × ((old.waiting ≢ []) ⊎ ((old.wire ≢ []) ⊎ (NoneIsDue old → ⊥)))

-- what `carry` answers, and what is left, by the first of these that applies: a report waits; a call is on the wire; a call is due
abbrev pub CarriesBy : List ReportMsg → List Call → Scene → Result Bool HallFault → Scene → Type 0
CarriesBy (report ∷ rest) wire old (Ok true) new = Hears old report rest new
CarriesBy (report ∷ rest) wire old (Ok false) new = ⊥
CarriesBy (report ∷ rest) wire old (Err fault) new = AnswersReport old.exec report (Err fault) new.exec × OnlyExec old new
CarriesBy [] wire old (Err (fault_is.Halted why)) new = IsHalted old.exec why new.exec × OnlyExec old new
CarriesBy [] wire old (Err fault_is.Memory) new = CanCarry old × (new ≡ old)
CarriesBy [] wire old (Err fault) new = ⊥
CarriesBy [] (call ∷ rest) old (Ok true) new = Delivers old call rest new
CarriesBy [] (call ∷ rest) old (Ok false) new = ⊥
CarriesBy [] [] old (Ok true) new = Sends old new
CarriesBy [] [] old (Ok false) new = GoesOn old × NoneIsDue old × (new ≡ old)

-- what `carry` answers, and what is left
abbrev pub Carries : Scene → Result Bool HallFault → Scene → Type 0
Carries old result new = CarriesBy old.waiting old.wire old result new

-- there is less left to carry
abbrev pub IsNearer : Scene → Scene → Type 0
IsNearer old new = left_to_carry (world_of new) + 1 ≤ left_to_carry (world_of old)
