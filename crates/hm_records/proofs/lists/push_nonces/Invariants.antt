use Rattle.std.proofs.Common.{◌≡◌, ◌+◌, ◌++◌, vec_capacity, vec_len}
use Rattle.hm_records.specs.Lists.{repeated}
use Rattle.hm_records.proofs.lists.push_nonces.Given as goal

abbrev pub invariant-loop : goal.invariant-loop
invariant-loop l = record {
  items : l.nonces.items ≡ l.fn.nonces.items ++ repeated l.nonce l.counter;
  len : vec_len l.nonces ≡ vec_len l.fn.nonces + l.counter;
  room : vec_capacity l.nonces ≡ vec_capacity l.fn.nonces;
}
