use Rattle.hm_script.proofs.PrintLemmas.{fit_merge}
use Rattle.hm_script.proofs.printing.put_merge.Goals as goal

pub returns-clause-fit : goal.returns-clause-fit
returns-clause-fit c most mergeable =
    (c.in_ok-put_nonce.ensures.read_back, fit_merge most c.args.regions.now mergeable c.in_ok-put_regions.ensures.read_back)
