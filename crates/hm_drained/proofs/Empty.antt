-- A drained server has no load.
use Rattle.std.proofs.Common.{◌≡◌, List, [], ◌∷◌, ◌++◌, length, false, refl, sym, ◌∙◌, inl, inr}
use Rattle.std.proofs.lemmas.Bool.{cases_Bool, true≢false}
use Rattle.hm_names.specs.Region.{Region}
use Rattle.hm_model.specs.Locks.{IsIn}
use Rattle.hm_model.specs.Places.{at_server, is_at, place_of}
use Rattle.hm_model.proofs.Counting.{none_unfinished}
use Rattle.hm_model.proofs.Tops.{ended_top, top_root}
use Rattle.hm_costs.proofs.Lost.{listed_at}
use Rattle.hm_drained.specs.Drained.{DrainedAreEmpty}
use Rattle.hm_drained.proofs.Coming.{none_comes_is}
use Rattle.hm_drained.proofs.Leaving.{moved_elsewhere}

pub drained_empty : DrainedAreEmpty
drained_empty server later J legal avoid each none = by (at_server (later ++ J) server) (λ y among. absurd (true≢false (sym (listed_at (later ++ J) server y among) ∙ off y)))
  where
    off : (region : Region) → is_at server (place_of (later ++ J) region) ≡ false
    off region = elim (cases_Bool (is_at server (place_of (later ++ J) region))) [
      | inr gone ↦ gone
      | inl on ↦
          let m = each region (none_comes_is server later J legal avoid region on) in
          let over = none_unfinished (later ++ J) legal none m.0 (top_root (later ++ J) m.0 m.1.0 (m.1.4, m.1.5)) in
          moved_elsewhere server later J legal avoid region m.0 m.1 (sym (ended_top (later ++ J) m.0 m.1.0 m.1.4 m.1.5) ∙ over)
    ]

    by : (list : List Region) → ((y : Region) → IsIn y list → ⊥) → length list ≡ 0
    by [] empty = refl
    by (y ∷ more) empty = absurd (empty y (inl refl))
