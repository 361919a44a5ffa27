-- Edits turned round.
use Rattle.std.proofs.Common.{◌≡◌, List, [], ◌∷◌, ◌++◌, map, reverse, refl, ap, ◌∙◌}
use Rattle.std.proofs.lemmas.List.{reverse-append}
use Rattle.hm_data.specs.declared.catalog.Edit.{Edit}
use Rattle.hm_model.specs.Undoing.{turned, turned_round}

pub reversed : (edits : List Edit) → reverse (map turned edits) ≡ turned_round edits
reversed [] = refl
reversed (edit ∷ edits) =
    reverse-append (turned edit ∷ []) (map turned edits) ∙ ap (λ xs. xs ++ turned edit ∷ []) (reversed edits)
