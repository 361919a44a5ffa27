-- The servers, after an entry that tells one, and after one that goes down.
use Rattle.std.proofs.Common.{◌≡◌, List, ◌∷◌, Bool, true, false, Option, Some, None, is_some, refl, ap, sym, subst, ◌∙◌}
use Rattle.std.proofs.lemmas.Bool.{true≢false}
use Rattle.std.proofs.lemmas.Option.{none-some, same_Some}
use Rattle.hm_names.specs.Order.{server_cmp}
use Rattle.hm_names.specs.Server.{Server}
use Rattle.hm_names.specs.declared.pid.Pid.{Pid}
use Rattle.hm_data.specs.declared.call.Told.{Told}
use Rattle.hm_data.specs.declared.entry.Entry.{Entry}
use Rattle.hm_data.specs.declared.entry.Entry.TheVariants as entry_is
use Rattle.hm_data.specs.declared.part.Part.{Part}
use Rattle.hm_data.specs.declared.part.Part.TheVariants as part_is
use Rattle.hm_index.specs.Index.{find, placed}
use Rattle.hm_model.specs.Base.{PartFits}
use Rattle.hm_model.specs.Fleet.{has_newer, has_older_live, is_live}
use Rattle.hm_model.specs.Journal.{Past}
use Rattle.hm_model.specs.Parts.{part_server}
use Rattle.hm_model.specs.Rules.{IsLegal}
use Rattle.hm_model.specs.Standings.{live_if, standings_of}
use Rattle.hm_places.specs.Laws.{StandingsTell, stand_behind, with_told}
use Rattle.hm_places.specs.Servers.{CannotGoDown, as_told}
use Rattle.hm_places.specs.declared.refused.DownRefused.{DownRefused}
use Rattle.hm_places.specs.declared.refused.DownRefused.TheVariants as down_is
use Rattle.hm_model.specs.declared.standing.Standing.{Standing}
use Rattle.hm_records.specs.Parts.{comes_up}

-- no newer server of the address came up, and no older one of it is live
abbrev IsNewest : Past → Server → Type 0
IsNewest J server = (has_newer J server ≡ false) × (has_older_live J server ≡ false)

part_newest : (part : Part) (J : Past) → PartFits part J → (told : Server × Bool) → part_server part ≡ Some told → IsNewest J told.0
part_newest (part_is.Server server fenced) J fits told is = subst (λ (t : Server × Bool). IsNewest J t.0) (same_Some (server, fenced) told is) (fits.1, fits.2)
part_newest part J fits told is = absurd (none-some told is)

pub newest : (entry : Entry) (J : Past) → IsLegal (entry ∷ J) → (told : Server × Bool) → comes_up entry ≡ Some told → IsNewest J told.0
newest (entry_is.Up server) J legal told is = subst (λ (t : Server × Bool). IsNewest J t.0) (same_Some (server, false) told is) (legal.1.1.0, legal.1.1.1.0)
newest (entry_is.Base part) J legal told is = part_newest part J legal.1.0 told is
newest entry J legal told is = absurd (none-some told is)

-- how the servers stand then
pub told_stand : (entry : Entry) (J : Past) (told : Server × Bool) → comes_up entry ≡ Some told → (servers : List (Server × Standing))
    → placed server_cmp servers told.0 (as_told told.1) ≡ stand_behind J entry servers
told_stand (entry_is.Up server) J told is servers = sym (ap (λ (t : Server × Bool). placed server_cmp servers t.0 (as_told t.1)) (same_Some (server, false) told is))
told_stand (entry_is.Base part) J told is servers = sym (ap (with_told servers) is)
told_stand entry J told is servers = absurd (none-some told is)

-- a live server may go down
live_there : (o : Option Standing) → live_if o ≡ true → is_some o ≡ true
live_there None e = e
live_there (Some standing) e = refl

pub can_go_down : (J : Past) (server : Server) → StandingsTell J → is_live J server ≡ true → (why : DownRefused) → CannotGoDown (standings_of J) server why → ⊥
can_go_down J server tell live down_is.Unknown not_up = true≢false (sym (live_there (find server_cmp (standings_of J) server) (tell.live server ∙ live)) ∙ not_up)
can_go_down J server tell live down_is.AlreadyDown gone = true≢false (sym (tell.live server ∙ live) ∙ gone.1)

-- other entries leave the servers as they stand
pub others_stand : (entry : Entry) (J : Past) (servers : List (Server × Standing)) → comes_up entry ≡ None
    → ((call : Pid) (told : Told) → entry ≡ entry_is.Report call told → ⊥) → ((server : Server) → entry ≡ entry_is.Down server → ⊥) → stand_behind J entry servers ≡ servers
others_stand (entry_is.Report call told) J servers none report down = absurd (report call told refl)
others_stand (entry_is.Up server) J servers none report down = absurd (none-some (server, false) (sym none))
others_stand (entry_is.Down server) J servers none report down = absurd (down server refl)
others_stand (entry_is.Base part) J servers none report down = ap (with_told servers) none
others_stand entry J servers none report down = refl
