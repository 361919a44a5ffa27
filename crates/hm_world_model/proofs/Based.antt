-- No server runs at which the base that a journal begins with has a region open.
use Rattle.std.proofs.Common.{◌≡◌, [], ◌∷◌, true, refl, sym, ap, subst}
use Rattle.std.proofs.lemmas.Option.{none-some}
use Rattle.hm_names.specs.Region.{Region}
use Rattle.hm_names.specs.Server.{Server}
use Rattle.hm_data.specs.declared.entry.Entry.{Entry}
use Rattle.hm_data.specs.declared.entry.Entry.TheVariants as entry_is
use Rattle.hm_data.specs.declared.place.Place.{Place}
use Rattle.hm_model.specs.Base.{HasNoHalfBase}
use Rattle.hm_model.specs.Fleet.{came_up}
use Rattle.hm_model.specs.Journal.{Past}
use Rattle.hm_model.specs.Rules.{IsLegal}
use Rattle.hm_model.specs.Single.{IsBasedAt, based_place}
use Rattle.hm_model.proofs.CameUp.{named_came}
use Rattle.hm_model.proofs.Parted.{no_half}
use Rattle.hm_world_model.specs.Outside.{Outside}
use Rattle.hm_world_model.specs.Runs.{IsTrueReport}
use Rattle.hm_world_model.proofs.Servers.{up_stays}

-- an entry that is no part stands after a whole base, and leaves it
abbrev pub LeavesBase : Entry → Past → Type 0
LeavesBase entry J = HasNoHalfBase J × ((region : Region) → based_place (entry ∷ J) region ≡ based_place J region)

pub leaves_base : (entry : Entry) (J : Past) → IsLegal (entry ∷ J) → (o : Outside) → IsTrueReport o entry → LeavesBase entry J
leaves_base (entry_is.Start sheets) J legal o true_report = (subst HasNoHalfBase (sym legal.1.0.0) tt, λ region. refl)
leaves_base (entry_is.Base part) J legal o true_report = absurd true_report
leaves_base entry J legal o true_report = (no_half J legal.1.0, λ region. refl)

-- a server at which a whole base has a region open came up
pub based_came : (J : Past) → IsLegal J → HasNoHalfBase J → (region : Region) (server : Server) → IsBasedAt J region server → came_up J server ≡ true
based_came [] legal whole region server is = absurd (none-some server (ap (λ (p : Place). p.server) is))
based_came (entry_is.Start sheets ∷ J) legal whole region server is = based_came J legal.0 (subst HasNoHalfBase (sym legal.1.0.0) tt) region server is
based_came (entry_is.Base part ∷ J) legal whole region server is = (named_came (entry_is.Base part ∷ J) legal).places whole region server (ap (λ (p : Place). p.server) is)
based_came (entry ∷ J) legal whole region server is = up_stays entry J server (based_came J legal.0 (no_half J legal.1.0) region server is)
