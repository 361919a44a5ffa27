-- What `carry` answers, by what waits and what is on the wire.
use Rattle.std.proofs.Common.{◌≡◌, List, [], ◌∷◌, drop, slice_get, true, false, Some, None, Ok, Err, refl, sym, ap, subst}
use Rattle.std.proofs.lemmas.Option.{none-some, same_Some}
use Rattle.hm_data.specs.declared.call.Call.{Call}
use Rattle.hm_data.specs.declared.call.ReportMsg.{ReportMsg}
use Rattle.hm_hall.specs.declared.fault.Halt.{Halt}
use Rattle.hm_hall.specs.declared.fault.HallFault.{HallFault}
use Rattle.hm_hall.specs.declared.fault.HallFault.TheVariants as fault_is
use Rattle.hm_exec.specs.Hearing.{AnswersReport}
use Rattle.hm_exec.specs.Moment.{IsHalted}
use Rattle.hm_world.specs.Carrying.{CanCarry, Carries, CarriesBy, Delivers, Hears, OnlyExec, Sends}
use Rattle.hm_world.specs.Scene.{GoesOn, NoneIsDue, Scene}

-- the first of a list
pub front : {A : Type 0} (x : A) (xs : List A) → slice_get xs 0 ≡ Some x → xs ≡ x ∷ drop 1 xs
front x [] is = absurd (none-some x is)
front x (y ∷ ys) is = ap (λ z. z ∷ ys) (same_Some y x is)

-- there is none
pub no_front : {A : Type 0} (xs : List A) → slice_get xs 0 ≡ None → xs ≡ []
no_front [] is = refl
no_front (y ∷ ys) is = absurd (none-some y (sym is))

module _ (old new : Scene) where
  pub hears : (report : ReportMsg) (rest : List ReportMsg) → old.waiting ≡ report ∷ rest → Hears old report rest new → Carries old (Ok true) new
  hears report rest is done = subst (λ w. CarriesBy w old.wire old (Ok true) new) (sym is) done

  pub hears_not : (report : ReportMsg) (rest : List ReportMsg) (fault : HallFault) → old.waiting ≡ report ∷ rest → AnswersReport old.exec report (Err fault) new.exec → OnlyExec old new → Carries old (Err fault) new
  hears_not report rest fault is answers only = subst (λ w. CarriesBy w old.wire old (Err fault) new) (sym is) (answers, only)

  pub is_halted : (why : Halt) → old.waiting ≡ [] → IsHalted old.exec why new.exec → OnlyExec old new → Carries old (Err (fault_is.Halted why)) new
  is_halted why none halted only = subst (λ w. CarriesBy w old.wire old (Err (fault_is.Halted why)) new) (sym none) (halted, only)

  pub lacks_memory : old.waiting ≡ [] → CanCarry old → new ≡ old → Carries old (Err fault_is.Memory) new
  lacks_memory none can same = subst (λ w. CarriesBy w old.wire old (Err fault_is.Memory) new) (sym none) (can, same)

  pub delivers : (call : Call) (rest : List Call) → old.waiting ≡ [] → old.wire ≡ call ∷ rest → Delivers old call rest new → Carries old (Ok true) new
  delivers call rest none is done = subst (λ w. CarriesBy w old.wire old (Ok true) new) (sym none) (subst (λ w. CarriesBy [] w old (Ok true) new) (sym is) done)

  pub sends : old.waiting ≡ [] → old.wire ≡ [] → Sends old new → Carries old (Ok true) new
  sends none empty done = subst (λ w. CarriesBy w old.wire old (Ok true) new) (sym none) (subst (λ w. CarriesBy [] w old (Ok true) new) (sym empty) done)

  pub rests : old.waiting ≡ [] → old.wire ≡ [] → GoesOn old → NoneIsDue old → new ≡ old → Carries old (Ok false) new
  rests none empty going still same = subst (λ w. CarriesBy w old.wire old (Ok false) new) (sym none) (subst (λ w. CarriesBy [] w old (Ok false) new) (sym empty) (going, still, same))
