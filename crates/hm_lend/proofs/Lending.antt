-- What decides whether a log is lent, and what comes back with it.
use Rattle.std.proofs.Common.{◌≡◌, ◌⊎◌, ℕ, length, Option, Some, None, Result, Ok, Err, refl, ap, ◌∙◌, inl, inr}
use Rattle.hm_hall.specs.declared.fault.Halt.TheVariants as halt_is
use Rattle.hm_hall.specs.declared.fault.RecordFault.{RecordFault}
use Rattle.hm_hall.specs.declared.fault.RecordFault.TheVariants as fault_is
use Rattle.hm_lend.specs.Outs.{OutView}
use Rattle.hm_lend.specs.Recording.{Recording, Backs, HasNone, Lends, own_of}

module _ {T : Type 0} where
  -- where there is nothing to lend, nothing is lent
  pub lends_none : (terms : T) (old : Recording) (answer : Option (OutView T)) (new : Recording) → Lends terms old answer new → HasNone old → (answer ≡ None) × (new ≡ old)
  lends_none terms old None new is none = (refl, is.1)
  lends_none terms old (Some out) new is none = absurd (is.0 none)

  -- else the log goes out, with all
  pub lends_some : (terms : T) (old : Recording) (answer : Option (OutView T)) (new : Recording) → Lends terms old answer new → (HasNone old → ⊥)
      → (out : OutView T) × (answer ≡ Some out) × (out.list ≡ (own_of old)) × (new.out ≡ Some (length (own_of old))) × (new.next ≡ None)
  lends_some terms old None new is some = absurd (some is.0)
  lends_some terms old (Some out) new is some = (
    out,
    refl,
    ap (λ (o : OutView T). o.list) is.2,
    ap (λ (r : Recording). r.out) is.1,
    ap (λ (r : Recording). r.next) is.1,
  )

  -- what came back is durable, or the log failed
  pub comes_back : (old : Recording) (out : OutView T) (answer : Result ℕ RecordFault) (new : Recording) → Backs old out answer new
      → (new.out ≡ None) × (new.entries ≡ old.entries)
      × ((answer ≡ Ok (length out.list)) × (new.durable ≡ length out.list) × (new.halted ≡ old.halted) ⊎ ((answer ≡ Err fault_is.LogFault) × (new.durable ≡ old.durable) × (new.halted ≡ Some halt_is.LogFault)))
  comes_back old out (Ok number) new is = (
    ap (λ (r : Recording). r.out) is.1,
    ap (λ (r : Recording). r.entries) is.1,
    inl (ap (λ (n : ℕ). Ok n) is.0, ap (λ (r : Recording). r.durable) is.1 ∙ is.0, ap (λ (r : Recording). r.halted) is.1),
  )
  comes_back old out (Err fault_is.LogFault) new is = (
    ap (λ (r : Recording). r.out) is,
    ap (λ (r : Recording). r.entries) is,
    inr (refl, ap (λ (r : Recording). r.durable) is, ap (λ (r : Recording). r.halted) is),
  )
  comes_back old out (Err (fault_is.JournalFull bytes)) new is = absurd is
  comes_back old out (Err (fault_is.Halted why)) new is = absurd is
