use Rattle.std.proofs.Common.{◌≡◌, ◌<◌, ◌^◌, true, ap, subst, arith}
use Rattle.hm_script.specs.Values.{named, of_region}
use Rattle.hm_names.specs.Region.{Region}
use Rattle.hm_names.specs.Regions.{region_text}
use Rattle.hm_script.specs.Printing.{is_word}
use Rattle.hm_script.proofs.TextWords.{word_region}
use Rattle.hm_script.proofs.printing.put_region.Goals as goal

pub returns-clause-read_back : goal.returns-clause-read_back
returns-clause-read_back c =
    let r = c.region.inside in
    let small : r.id < 2 ^ 64 = omega arith in
    let P : Region → Type 0 = λ v. is_word (region_text v) ≡ true in
    let word = word_region (record { table = r.table; id = r.id }) (c.as_bytes-ns.ensures.named, c.as_bytes-qualifier.ensures.named) small in
    (subst P c.region.view_is word, ap (named of_region) c.write.ensures.reads_back)
