use Rattle.std.proofs.Common.{Vec, Global, ℕ, ◌++◌, codes, map, string_bytes, ap, ◌∙◌}
use Rattle.hm_show.specs.Procs.{proc_value, shown}
use Rattle.hm_show.proofs.JsonTexts.{text_told}
use Rattle.hm_show.proofs.json.procs_json.Goals as goal

pub returns : goal.returns
returns c =
    let past = c.args.records.now.past in
    ap (λ (v : Vec ℕ Global). v.items) c.into_bytes.ensures.value
    ∙ c.in_ok-push_str.ensures.bytes
    ∙ ap (λ t. t ++ codes "\n")
    (text_told c.in_ok-values.values (shown past) (string_bytes c.in_ok-text.text)
    (c.in_ok-values.ensures ∙ ap (λ J. map proc_value (shown J)) c.procedures.ensures.past)
    c.in_ok-text.ensures.text)
