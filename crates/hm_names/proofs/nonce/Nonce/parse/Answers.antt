use Rattle.std.proofs.Common.{rules}
use Rattle.hm_names.proofs.NonceLaws.{read_nonce-Ok}
use Rattle.hm_names.proofs.nonce.Nonce.parse.Goals as goal

pub returns-clause-spelled : goal.returns-clause-spelled
returns-clause-spelled c =
    read_nonce-Ok c.args.text.now (record { group = c.in-Some-parse_decimal.group; number = c.in-Some-parse_decimal-2.number }) (search rules)
