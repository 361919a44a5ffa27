-- While picks avoid a server no region comes to it.
use Rattle.std.proofs.Common.{◌≡◌, [], ◌∷◌, ◌++◌, true, Some, ap, sym, ◌∙◌, inl, inr}
use Rattle.std.proofs.lemmas.Bool.{cases_Bool}
use Rattle.hm_names.specs.Region.{Region}
use Rattle.hm_names.specs.Server.{Server}
use Rattle.hm_data.specs.declared.entry.Entry.{Entry}
use Rattle.hm_data.specs.declared.entry.Entry.TheVariants as entry_is
use Rattle.hm_model.specs.Fleet.{same_server}
use Rattle.hm_model.specs.Journal.{Past}
use Rattle.hm_model.specs.Places.{is_at, place_of}
use Rattle.hm_model.specs.Rules.{IsLegal}
use Rattle.hm_model.proofs.NameTies.{same_server-is}
use Rattle.hm_costs.proofs.Opening.{PicksOther, none_comes_other}
use Rattle.hm_drained.specs.Drained.{Avoids, NoneComes}

picks_other : (entry : Entry) (J : Past) (server : Server) → Avoids server entry → PicksOther J server entry
picks_other (entry_is.Step pid pick out) J server avoids = λ picked e live. elim (cases_Bool (same_server server picked)) [
  | inr off ↦ off
  | inl on ↦ absurd (avoids (e ∙ ap Some (sym (same_server-is server picked on))))
]
picks_other (entry_is.Base part) J server avoids = avoids
picks_other entry J server avoids = tt

-- by one entry
pub comes_by : (entry : Entry) (J : Past) → IsLegal (entry ∷ J) → (server : Server) → Avoids server entry → (region : Region) → is_at server (place_of (entry ∷ J) region) ≡ true → is_at server (place_of J region) ≡ true
comes_by entry J legal server avoids region at = none_comes_other entry J legal server (picks_other entry J server avoids) region at

pub none_comes_is : NoneComes
none_comes_is server [] J legal avoid region at = at
none_comes_is server (entry ∷ later) J legal avoid region at = none_comes_is server later J legal.0 avoid.1 region (comes_by entry (later ++ J) legal server avoid.0 region at)
