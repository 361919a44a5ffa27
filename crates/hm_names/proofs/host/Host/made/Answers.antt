use Rattle.hm_names.proofs.Ascii.{IsAscii-host}
use Rattle.hm_names.proofs.host.Host.made.Goals as goal

pub of-requires : goal.of-requires
of-requires c = IsAscii-host c.args.bytes.now c.requires
