use Rattle.hm_names.proofs.Ascii.{IsAscii-ns}
use Rattle.hm_names.proofs.ns.Ns.made.Goals as goal

pub of-requires : goal.of-requires
of-requires c = IsAscii-ns c.args.bytes.now c.requires
