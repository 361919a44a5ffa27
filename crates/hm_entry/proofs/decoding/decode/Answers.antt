-- The two laws, at what all of the bytes are read as.
use Rattle.std.proofs.Common.{arith}
use Rattle.hm_entry.proofs.EntryCodec.{is_found, is_only}
use Rattle.hm_entry.proofs.decoding.decode.Goals as goal

pub returns-clause-found : goal.returns-clause-found
returns-clause-found c = is_found c.args.bytes.now c.all.result (λ i. omega (arith, c.type_inv.bytes i)) c.all.ensures

pub returns-clause-only : goal.returns-clause-only
returns-clause-only c = is_only c.args.bytes.now c.all.result c.all.ensures
