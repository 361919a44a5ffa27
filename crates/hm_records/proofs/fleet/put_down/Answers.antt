use Rattle.std.proofs.Common.{◌∷◌, ap, sym, subst, ◌∙◌, Some}
use Rattle.hm_names.specs.Server.{Server}
use Rattle.hm_data.specs.declared.entry.Entry.{Entry}
use Rattle.hm_data.specs.declared.entry.Entry.TheVariants as entry_is
use Rattle.hm_model.specs.Journal.{Past}
use Rattle.hm_model.specs.Rules.{IsLegal}
use Rattle.hm_model.specs.Standings.{standings_of}
use Rattle.hm_places.specs.Servers.{CannotGoDown, put_down}
use Rattle.hm_places.specs.declared.refused.DownRefused.{DownRefused}
use Rattle.hm_records.proofs.Servers.{can_go_down}
use Rattle.hm_records.proofs.fleet.put_down.Goals as goal

pub unreachable-requires : goal.unreachable-requires
unreachable-requires c =
    let J : Past = c.args.past.now.past in
    let server : Server = c.in-Down.server in
    let why : DownRefused = c.in_default-down.field-0 in
    let legal : IsLegal (entry_is.Down server ∷ J) = subst (λ (e : Entry). IsLegal (e ∷ J)) c.in-Down.is c.requires.legal in
    let refused : CannotGoDown (standings_of J) server why = subst (λ l. CannotGoDown l server why) c.requires.servers c.in_default-down.ensures.refused in
    can_go_down J server (c.servers_follow.ensures.tell J legal.0) legal.1.1.0 why refused

pub returns-clause-servers : goal.returns-clause-servers
returns-clause-servers c other down =
    let J : Past = c.args.past.now.past in
    let server : Server = c.in-Down.server in
    let legal : IsLegal (entry_is.Down server ∷ J) = subst (λ (e : Entry). IsLegal (e ∷ J)) c.in-Down.is c.requires.legal in
    c.in-Ok.ensures.down.now
    ∙ ap (λ l. put_down l (Some server)) c.requires.servers
    ∙ c.servers_follow.ensures.entries (entry_is.Down server) J legal
    ∙ sym (ap (λ (e : Entry). standings_of (e ∷ J)) c.in-Down.is)
