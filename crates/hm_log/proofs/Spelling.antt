-- How frames are spelled: lengths, and one frame more.
use Rattle.std.proofs.Common.{◌≡◌, ℕ, ◌+◌, ◌≤◌, List, [], ◌∷◌, ◌++◌, length, refl, sym, ◌∙◌, ap, arith, append_assoc, length-append}
use Rattle.std.proofs.lemmas.List.{append-nil}
use Rattle.std.proofs.lemmas.List.Sums.{sum_by-cons}
use Rattle.std.specs.Prelude.{sum_by}
use Rattle.hm_log.specs.Format.{size_bytes, laid, spelled, image_of, image_size, IsFrame}
use Rattle.hm_log.specs.Run.{IsRun}
use Rattle.std.proofs.lemmas.List.Elements.{All-nil, All-push}

pub length-size_bytes : (n : ℕ) → length (size_bytes n) ≡ 4
unfolding size_bytes
length-size_bytes n = refl

pub length-laid : (frame : List ℕ) → length (laid frame) ≡ 4 + length frame
length-laid frame = omega (arith, length-append (size_bytes (length frame)) frame, length-size_bytes (length frame))

-- for each frame its bytes, four for its length, and its gate
pub length-spelled : (frames : List (List ℕ)) → length (spelled frames) ≡ sum_by (λ frame. length frame + 5) frames
length-spelled [] = refl
length-spelled (f ∷ frames) =
    omega (arith, length-spelled frames, length-append (laid f) (spelled frames), length-laid f, sum_by-cons (λ (g : List ℕ). length g + 5) f frames)

-- no more frames than bytes
pub spelled_fewer : (frames : List (List ℕ)) → length frames ≤ length (spelled frames)
spelled_fewer [] = omega arith
spelled_fewer (f ∷ frames) = omega (arith, spelled_fewer frames, length-append (laid f) (spelled frames))

-- one frame more stands after the others
pub spelled-push : (frames : List (List ℕ)) (frame rest : List ℕ) → spelled (frames ++ frame ∷ []) ++ rest ≡ spelled frames ++ 43 ∷ (laid frame ++ rest)
spelled-push [] frame rest = ap (λ (l : List ℕ). 43 ∷ (l ++ rest)) (append-nil (laid frame))
spelled-push (f ∷ frames) frame rest =
    let longer = spelled (frames ++ frame ∷ []) in
    let tail = laid frame ++ rest in
    let behind : laid f ++ longer ++ rest ≡ laid f ++ spelled frames ++ 43 ∷ tail =
    append_assoc (laid f) longer rest
    ∙ ap (λ (l : List ℕ). laid f ++ l) (spelled-push frames frame rest)
    ∙ sym (append_assoc (laid f) (spelled frames) (43 ∷ tail)) in
    ap (λ (l : List ℕ). 43 ∷ l) behind

-- some frames stand after others
pub spelled-append : (frames more : List (List ℕ)) → spelled (frames ++ more) ≡ spelled frames ++ spelled more
spelled-append [] more = refl
spelled-append (f ∷ frames) more =
    ap (λ (l : List ℕ). 43 ∷ laid f ++ l) (spelled-append frames more) ∙ sym (append_assoc (43 ∷ laid f) (spelled frames) (spelled more))

-- a run has as many bytes as its frames with their gates
pub length-run : (run : List ℕ) (more : List (List ℕ)) → IsRun run more → length run ≡ length (spelled more)
length-run run more is = omega (arith, ap length is.spelling, length-append (spelled more) (45 ∷ []))

-- one frame, with the closed gate after it, is a run
pub run_of_one : (run frame : List ℕ) → run ≡ laid frame ++ 45 ∷ [] → IsFrame frame → IsRun run (frame ∷ [])
run_of_one run frame is fits = record {
  some = omega arith;
  each = All-push IsFrame [] frame (All-nil IsFrame) fits;
  spelling = ap (λ (l : List ℕ). 43 ∷ l) is ∙ ap (λ (l : List ℕ). 43 ∷ (l ++ 45 ∷ [])) (sym (append-nil (laid frame)));
}

-- the size of an image
pub length-image : (frames : List (List ℕ)) → length (image_of frames) ≡ image_size frames
length-image frames = omega (arith, length-append (spelled frames) (45 ∷ []), length-spelled frames)

-- the gate before a run, once it is open
pub opened_log : (front : List ℕ) (frames : List (List ℕ)) (run : List ℕ) (more : List (List ℕ)) → IsRun run more → front ++ spelled frames ++ 43 ∷ [] ++ run ≡ front ++ image_of (frames ++ more)
opened_log front frames run more is =
    append_assoc (front ++ spelled frames) (43 ∷ []) run
    ∙ ap (λ (l : List ℕ). front ++ spelled frames ++ l) is.spelling
    ∙ append_assoc front (spelled frames) (spelled more ++ 45 ∷ [])
    ∙ ap (λ (l : List ℕ). front ++ l) (sym (append_assoc (spelled frames) (spelled more) (45 ∷ [])) ∙ ap (λ (l : List ℕ). l ++ 45 ∷ []) (sym (spelled-append frames more)))
