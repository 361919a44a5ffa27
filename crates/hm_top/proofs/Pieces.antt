-- A text written in pieces.
use Rattle.std.proofs.Common.{◌≡◌, ◌<◌, ◌+◌, suc, get_or, drop-cons, arith, ℕ, List, ◌∷◌, [], ◌++◌, length, take, drop, Result, Ok, Err, refl, sym, ap, ◌∙◌, subst, inl, inr, append-nil, append_assoc}
use Rattle.std.specs.Prelude.{OnOk, OnErr}
use Rattle.std.specs.List.{flat_map}
use Rattle.std.proofs.Math.Seq.{take-append-add}
use Rattle.std.proofs.lemmas.Grind.{flat_map-append}
use Rattle.std.proofs.lemmas.List.{length-append, take-append-drop, take-append-le}
use Rattle.hm_commands.specs.declared.piece.Piece.{Piece}
use Rattle.hm_ports.specs.Faults.{HasCause, Rose}
use Rattle.hm_top.specs.Got.{IsLast, IsPartOf}
use Rattle.hm_commands.specs.Pieces.{piece_text}

-- a part of a text that stands between others
part_between : (old mid new before text rest whole : List ℕ) → whole ≡ before ++ (text ++ rest) → mid ≡ old ++ before → IsPartOf mid new text → IsPartOf old new whole
part_between old mid new before text rest whole parts so_far part =
    let size : length whole ≡ length before + (length text + length rest) = ap length parts ∙ length-append before (text ++ rest) ∙ ap (λ n. length before + n) (length-append text rest) in
    let short = part.1 in
    let front : take (length before + part.0) whole ≡ before ++ take part.0 text =
    ap (take (length before + part.0)) parts ∙ take-append-add before (text ++ rest) part.0 ∙ ap (λ l. before ++ l) (take-append-le part.0 text rest (omega arith)) in
    (length before + part.0, omega arith, part.2 ∙ ap (λ l. l ++ take part.0 text) so_far ∙ append_assoc old before (take part.0 text) ∙ ap (λ l. old ++ l) (sym front))

-- a part of a text after another, which more may follow
pub part_first : (old mid new before text rest : List ℕ) → mid ≡ old ++ before → IsPartOf mid new text → IsPartOf old new (before ++ (text ++ rest))
part_first old mid new before text rest so_far part = part_between old mid new before text rest (before ++ (text ++ rest)) refl so_far part

pub part_last : (old mid new before text : List ℕ) → mid ≡ old ++ before → IsPartOf mid new text → IsPartOf old new (before ++ text)
part_last old mid new before text so_far part = subst (λ l. IsPartOf old new (before ++ l)) (append-nil text) (part_first old mid new before text [] so_far part)

-- a host, a port and a start code with commas between, by the parts in which they are written
pub parts_early : (host comma port start : List ℕ) → host ++ comma ++ port ++ comma ++ start ≡ (host ++ (comma ++ port)) ++ (comma ++ start)
parts_early host comma port start = append_assoc (host ++ comma ++ port) comma start ∙ ap (λ l. l ++ (comma ++ start)) (append_assoc host comma port)

pub parts_late : (host comma port start : List ℕ) → host ++ comma ++ port ++ comma ++ start ≡ host ++ ((comma ++ port) ++ (comma ++ start))
parts_late host comma port start = parts_early host comma port start ∙ append_assoc host (comma ++ port) (comma ++ start)

-- the first pieces were written, and a part of the next one
pub written_part : (pieces : List Piece) (index : ℕ) (old mid new : List ℕ) → index < length pieces → mid ≡ old ++ flat_map piece_text (take index pieces) → (other : Piece) → IsPartOf mid new (piece_text (get_or pieces index other))
    → IsPartOf old new (flat_map piece_text pieces)
written_part pieces index old mid new within so_far other part =
    let piece = get_or pieces index other in
    let next : drop index pieces ≡ piece ∷ drop (index + 1) pieces =
    let same : suc index ≡ index + 1 = omega arith in
    drop-cons pieces index other within ∙ ap (λ n. piece ∷ drop n pieces) same in
    part_between old mid new (flat_map piece_text (take index pieces)) (piece_text piece) (flat_map piece_text (drop (index + 1) pieces)) (flat_map piece_text pieces)
    (ap (flat_map piece_text) (sym (take-append-drop index pieces) ∙ ap (λ l. take index pieces ++ l) next) ∙ flat_map-append piece_text (take index pieces) (piece ∷ drop (index + 1) pieces))
    so_far part

-- a text that was tried, whether it failed or not
pub tried : {T E : Type 0} (before now : ℕ) (old new text : List ℕ) (r : Result T E) → OnOk r (new ≡ old ++ text) → OnErr r (IsPartOf old new text) → HasCause before now r → IsLast (Rose before now) old new text
tried before now old new text (Ok done) all part cause = inl all
tried before now old new text (Err fault) all part cause = inr (cause.failed, part)

-- what holds whatever was answered
pub on_err : {T E P : Type 0} (r : Result T E) → P → OnErr r P
on_err (Ok done) p = tt
on_err (Err fault) p = p

-- what follows of a failure
pub on_err_so : {T E P Q : Type 0} (r : Result T E) → (P → Q) → OnErr r P → OnErr r Q
on_err_so (Ok done) f p = tt
on_err_so (Err fault) f p = f p
