use Rattle.hm_names.proofs.Ascii.{IsAscii-qualifier}
use Rattle.hm_names.proofs.qualifier.Qualifier.made.Goals as goal

pub of-requires : goal.of-requires
of-requires c = IsAscii-qualifier c.args.bytes.now c.requires
