use Rattle.std.proofs.Common.{◌∙◌, ap}
use Rattle.hm_batch.specs.Pieces.{bytes_of}
use Rattle.hm_batch.specs.View.{BatchView}
use Rattle.hm_batch.proofs.Growing.{byte_count}
use Rattle.hm_batch.proofs.batch.Batch.bytes.Goals as goal

pub returns : goal.returns
returns c =
    let inside = c.self.inside in
    c.len.ensures
    ∙ inside.bytes.ok.0
    ∙ byte_count inside.notes.items inside.bytes.items c.self.invariant.0 c.self.invariant.1
    ∙ ap (λ (b : BatchView). bytes_of b.frames) c.self.view_is
