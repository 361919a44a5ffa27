-- What the laws of the catalog say.
use Rattle.std.proofs.Common.{◌≡◌, Some, ap, sym, ◌∙◌, inl, inr}
use Rattle.std.proofs.lemmas.Bool.{cases_Bool, true≢false}
use Rattle.std.proofs.lemmas.Option.{same_Some}
use Rattle.hm_model.specs.Answers.{done_with}
use Rattle.hm_model.specs.Catalog.{keys_of}
use Rattle.hm_model.specs.Deeds.{deed_of}
use Rattle.hm_model.specs.Reads.{covers}
use Rattle.hm_model.specs.Serial.{serial}
use Rattle.hm_model.specs.Tree.{Node}
use Rattle.hm_model.proofs.Counting.{none_unfinished}
use Rattle.hm_model.proofs.Trees.{grown_all, step_of}
use Rattle.hm_model.proofs.Tops.{holds_open, top_root}
use Rattle.hm_serial.proofs.StandAll.{deed_now, stands_all}
use Rattle.hm_serial.specs.Theorem.{CatalogIsSerial, DeedsApply, SettledCatalogIsSerial}

pub catalog_is : CatalogIsSerial
catalog_is J legal key free = (stands_all J legal).settled key (λ r node h. elim (cases_Bool (covers node.args key)) [
  | inl on ↦ absurd (free (r, node, h.0.0, (h.1, holds_open J r node h), on))
  | inr off ↦ off
])

pub settled_is : SettledCatalogIsSerial
settled_is J legal none key = (stands_all J legal).settled key (λ r node h. absurd (true≢false (sym (none_unfinished J legal none r (top_root J r node h.0)) ∙ holds_open J r node h)))

pub deeds_apply_is : DeedsApply
deeds_apply_is pid pick out J legal node is top told done =
    let step = step_of pid pick out J (grown_all J legal.0) legal in
    let one : step.node ≡ node = same_Some step.node node (sym step.node_is ∙ is) in
    let d = deed_now pid pick out J legal (stands_all J legal.0) (ap (λ (n : Node). n.above) one ∙ top) told (ap (λ a. done_with (Some a)) done) in
    (d.0, ap (λ n. deed_of n.args (keys_of J) (serial J)) (sym one) ∙ d.1)
