use Rattle.std.proofs.Common.{Bool, ◌∷◌, ap, sym, subst, ◌∙◌}
use Rattle.hm_names.specs.Order.{server_cmp}
use Rattle.hm_names.specs.Server.{Server}
use Rattle.hm_names.specs.declared.pid.Pid.{Pid}
use Rattle.hm_data.specs.declared.call.Told.{Told}
use Rattle.hm_data.specs.declared.entry.Entry.{Entry}
use Rattle.hm_data.specs.declared.entry.Entry.TheVariants as entry_is
use Rattle.hm_index.specs.Index.{placed}
use Rattle.hm_model.specs.Journal.{Past}
use Rattle.hm_model.specs.Rules.{IsLegal}
use Rattle.hm_model.specs.Standings.{standings_of}
use Rattle.hm_places.specs.Servers.{as_told, has_newer_in, has_older_in}
use Rattle.hm_records.proofs.Servers.{newest, others_stand, told_stand}
use Rattle.hm_records.proofs.fleet.set_servers.Goals as goal

pub tell-requires-clause-newest : goal.tell-requires-clause-newest
tell-requires-clause-newest c =
    let J : Past = c.args.past.now.past in
    let entry : Entry = c.args.entry.now in
    let told : Server × Bool = (c.in-Some.server, c.in-Some.fenced) in
    ap (λ l. has_newer_in l told.0) c.requires.servers ∙ (c.servers_follow.ensures.tell J c.requires.legal.0).newer told.0
    ∙ (newest entry J c.requires.legal told (sym c.requires.up ∙ c.in-Some.is)).0

pub tell-requires-clause-alone : goal.tell-requires-clause-alone
tell-requires-clause-alone c =
    let J : Past = c.args.past.now.past in
    let entry : Entry = c.args.entry.now in
    let told : Server × Bool = (c.in-Some.server, c.in-Some.fenced) in
    ap (λ l. has_older_in l told.0) c.requires.servers ∙ (c.servers_follow.ensures.tell J c.requires.legal.0).older told.0
    ∙ (newest entry J c.requires.legal told (sym c.requires.up ∙ c.in-Some.is)).1

pub returns-in-Some-clause-servers : goal.returns-in-Some-clause-servers
returns-in-Some-clause-servers c =
    let J : Past = c.args.past.now.past in
    let entry : Entry = c.args.entry.now in
    let told : Server × Bool = (c.in-Some.server, c.in-Some.fenced) in
    c.tell.ensures.servers
    ∙ ap (λ l. placed server_cmp l told.0 (as_told told.1)) c.requires.servers
    ∙ told_stand entry J told (sym c.requires.up ∙ c.in-Some.is) (standings_of J)
    ∙ c.servers_follow.ensures.entries entry J c.requires.legal

pub returns-in-Report-clause-servers : goal.returns-in-Report-clause-servers
returns-in-Report-clause-servers c =
    let J : Past = c.args.past.now.past in
    let call : Pid = c.in-Report.call in
    let told : Told = c.in-Report.told in
    let legal : IsLegal (entry_is.Report call told ∷ J) = subst (λ (e : Entry). IsLegal (e ∷ J)) c.in-Report.is c.requires.legal in
    c.fence_shown.ensures.servers
    ∙ c.servers_follow.ensures.entries (entry_is.Report call told) J legal
    ∙ sym (ap (λ (e : Entry). standings_of (e ∷ J)) c.in-Report.is)

pub returns-in-Down-clause-servers : goal.returns-in-Down-clause-servers
returns-in-Down-clause-servers c = c.put_down.ensures.servers c.in-Down.server c.in-Down.is

pub returns-in_default-entry-clause-servers : goal.returns-in_default-entry-clause-servers
returns-in_default-entry-clause-servers c =
    let J : Past = c.args.past.now.past in
    let entry : Entry = c.args.entry.now in
    c.requires.servers
    ∙ sym (others_stand entry J (standings_of J) (sym c.requires.up ∙ c.in_default.is) c.in_default-entry.not-Report c.in_default-entry.not-Down)
    ∙ c.servers_follow.ensures.entries entry J c.requires.legal
