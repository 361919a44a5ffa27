use Rattle.std.proofs.Common.{◌∷◌, [], map, sym, ap, ◌∙◌}
use Rattle.std.proofs.lemmas.List.{map-append}
use Rattle.hm_script.specs.Shapes.{before, many, onto_all, read_rest}
use Rattle.hm_script.specs.Values.{of_server, named, server}
use Rattle.hm_script.proofs.Answering.{onto_all-onto}
use Rattle.hm_script.proofs.words.Words.servers.Goals as goal

pub loop-word-preserved : goal.loop-word-preserved
loop-word-preserved c =
    let before_it = map of_server c.loop-word.servers.items in
    let rest = read_rest (many server) c.next.new.self in
    let one = c.in_ok-server.server in
    let added = c.in_ok-push.ensures.items in
    record {
      so_far = c.loop-word.invariant.so_far
          ∙ ap (λ ws. onto_all before_it (read_rest (many server) ws)) c.in-Some.ensures
          ∙ ap (λ r. onto_all before_it (before (named of_server r) rest)) c.in_ok-server.ensures
          ∙ onto_all-onto before_it (of_server one) rest
          ∙ ap (λ values. onto_all values rest) (sym (ap (map of_server) added ∙ map-append of_server c.loop-word.servers.items (one ∷ [])));
      kept = c.loop-word.invariant.kept;
    }
