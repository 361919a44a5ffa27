-- What the two steps of an append leave, one after the other.
use Rattle.std.proofs.Common.{◌≡◌, inl, ℕ, ◌+◌, ◌++◌, ◌∷◌, [], List, length, take, sym, ◌∙◌, ap, subst}
use Rattle.hm_disk.specs.Disk.{written, Torn, LeavesOnly}
use Rattle.hm_disk.proofs.Moments.{weaker, joined}
use Rattle.hm_log.specs.Format.{image_of, IsWhole}
use Rattle.hm_log.specs.Run.{IsRun, BeforeOrAll}
use Rattle.hm_log.proofs.Stages.{staged, ten_are, torn_behind, written_behind, torn_gate, written_log, written_gate}

module _ (at : ℕ) (frames : List (List ℕ)) (file : List ℕ) (whole : IsWhole file at frames) (run : List ℕ) (more : List (List ℕ)) (is_run : IsRun run more) where
  -- the run is there, after its closed gate
  pub staged_is : (seen : List ℕ) → seen ≡ written (at + 1) run file → seen ≡ staged at frames file whole run
  staged_is seen on_disk = on_disk ∙ written_behind at frames file whole run

  -- the gate is open
  pub opened : (seen new : List ℕ) → seen ≡ staged at frames file whole run → new ≡ written at (43 ∷ []) seen → (new ≡ take 10 file ++ image_of (frames ++ more)) × IsWhole new (at + length run) (frames ++ more)
  opened seen new is on_disk =
      let wrote : new ≡ written at (43 ∷ []) (staged at frames file whole run) = on_disk ∙ ap (λ (f : List ℕ). written at (43 ∷ []) f) is in (
        wrote ∙ written_log at frames file whole run more is_run ∙ ap (λ (l : List ℕ). l ++ image_of (frames ++ more)) (sym (ten_are at frames file whole)),
        subst (λ (f : List ℕ). IsWhole f (at + length run) (frames ++ more)) (sym wrote) (written_gate at frames file whole run more is_run),
      )

  module _ {D : Type 0} (moment : D → ℕ) (left_since : D → ℕ → List ℕ → Type 0) (old mid new : D) (n : ℕ) (first : LeavesOnly moment left_since old mid (λ c. Torn (at + 1) n file c)) where
    pub writes_behind : LeavesOnly moment left_since old mid (BeforeOrAll frames more)
    writes_behind = weaker moment left_since old mid (λ c. Torn (at + 1) n file c) (BeforeOrAll frames more) (λ c torn. inl (torn_behind at frames file whole n c torn)) first

    pub writes_both : (seen : List ℕ) → seen ≡ staged at frames file whole run → LeavesOnly moment left_since mid new (λ c. Torn at 1 seen c) → LeavesOnly moment left_since old new (BeforeOrAll frames more)
    writes_both seen is second =
        joined moment left_since old mid new (BeforeOrAll frames more) writes_behind
        (weaker moment left_since mid new (λ c. Torn at 1 seen c) (BeforeOrAll frames more) (λ c torn. torn_gate at frames file whole run more is_run c (subst (λ (s : List ℕ). Torn at 1 s c) is torn)) second)
