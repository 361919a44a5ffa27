-- Parts put on a journal, in order.
use Rattle.std.proofs.Common.{◌≡◌, List, [], ◌∷◌, ◌++◌, map, reverse, refl, ap, sym, ◌∙◌, append_assoc}
use Rattle.std.proofs.lemmas.List.{append-nil, reverse-append}
use Rattle.hm_data.specs.declared.entry.Entry.TheVariants as entry_is
use Rattle.hm_data.specs.declared.part.Part.{Part}
use Rattle.hm_model.specs.Journal.{Past}
use Rattle.hm_model.specs.Rebase.{based}

abbrev pub put : Past → List Part → Past
put P [] = P
put P (part ∷ parts) = put (entry_is.Base part ∷ P) parts

pub put_append : (P : Past) (xs ys : List Part) → put P (xs ++ ys) ≡ put (put P xs) ys
put_append P [] ys = refl
put_append P (x ∷ xs) ys = put_append (entry_is.Base x ∷ P) xs ys

put_reversed : (P : Past) (parts : List Part) → put P parts ≡ reverse (map (λ part. entry_is.Base part) parts) ++ P
put_reversed P [] = refl
put_reversed P (part ∷ parts) =
    put_reversed (entry_is.Base part ∷ P) parts
    ∙ sym (append_assoc (reverse (map (λ p. entry_is.Base p) parts)) (entry_is.Base part ∷ []) P)
    ∙ ap (λ l. l ++ P) (sym (reverse-append (entry_is.Base part ∷ []) (map (λ p. entry_is.Base p) parts)))

-- a base of them
pub based_put : (parts : List Part) → based parts ≡ put [] parts
based_put parts = sym (append-nil (based parts)) ∙ sym (put_reversed [] parts)
