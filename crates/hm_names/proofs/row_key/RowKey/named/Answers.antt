use Rattle.hm_names.proofs.KeyLaws.{read_key-key_text}
use Rattle.hm_names.proofs.row_key.RowKey.named.Goals as goal

pub returns : goal.returns
returns c =
    let small = rw c.as_slice.ensures.value at c.are_bytes.ensures in
    rw (← c.self.view_is) (read_key-key_text c.self.inside.bytes.items small c.self.invariant)
