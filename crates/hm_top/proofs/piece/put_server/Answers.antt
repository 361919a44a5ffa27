use Rattle.std.proofs.Common.{ℕ, codes, sym, ap, ◌++◌, ◌∙◌, subst, append_assoc}
use Rattle.std.specs.Prelude.{OnErr}
use Rattle.std.specs.Fmt.{decimal}
use Rattle.hm_names.specs.Server.{Server}
use Rattle.hm_names.specs.Servers.{server_text}
use Rattle.hm_top.specs.Got.{IsPartOf}
use Rattle.hm_top.proofs.Pieces.{on_err, on_err_so, part_first, part_last, parts_early, parts_late}
use Rattle.hm_top.proofs.piece.put_server.Goals as goal

pub returns-in_err-put_behind_comma-clause-part : goal.returns-in_err-put_behind_comma-clause-part
returns-in_err-put_behind_comma-clause-part g c told =
    let k = g.K.Sink in
    let old = k.got c.args.out.now in
    let mid = k.got c.write.new.out in
    let new = k.got c.put_behind_comma.new.out in
    let at = c.server.inside in
    let host = c.in_ok-write.ensures.all told ∙ ap (λ l. old ++ l) c.as_bytes.ensures.value in
    let part = subst (λ (n : ℕ). IsPartOf mid new (codes "," ++ decimal n)) c.from.ensures (c.in_err-put_behind_comma.ensures.part told) in
    on_err _
    (subst (λ (s : Server). IsPartOf old new (server_text s)) c.server.view_is
    (subst (IsPartOf old new) (sym (parts_late at.host (codes ",") (decimal at.port) (decimal at.start))) (part_first old mid new at.host (codes "," ++ decimal at.port) (codes "," ++ decimal at.start) host part)))

pub returns-clause-part : goal.returns-clause-part
returns-clause-part g c told =
    let k = g.K.Sink in
    let old = k.got c.args.out.now in
    let mid = k.got c.put_behind_comma.new.out in
    let new = k.got c.put_behind_comma-2.new.out in
    let at = c.server.inside in
    let host = c.in_ok-write.ensures.all told ∙ ap (λ l. old ++ l) c.as_bytes.ensures.value in
    let port = codes "," ++ decimal at.port in
    let start = codes "," ++ decimal at.start in
    let number = ap (λ (n : ℕ). k.got c.write.new.out ++ (codes "," ++ decimal n)) c.from.ensures in
    let so_far = c.in_ok-put_behind_comma.ensures.all told ∙ number ∙ ap (λ l. l ++ port) host ∙ append_assoc old at.host port in
    subst (λ (s : Server). OnErr c.put_behind_comma-2.result (IsPartOf old new (server_text s))) c.server.view_is
    (on_err_so c.put_behind_comma-2.result (λ part. subst (IsPartOf old new) (sym (parts_early at.host (codes ",") (decimal at.port) (decimal at.start))) (part_last old mid new (at.host ++ port) start so_far part)) (c.put_behind_comma-2.ensures.part told))
