-- One piece after another goes to the log.
use Rattle.std.proofs.Common.{◌≡◌, inl, inr, ℕ, ◌+◌, ◌*◌, ◌<◌, ◌≤◌, List, [], ◌∷◌, ◌++◌, length, take, drop, refl, sym, ◌∙◌, ap, subst, arith, append_assoc, length-append}
use Rattle.std.proofs.lemmas.List.{append-nil, take-append-drop, take_at, drop_at, take_more, drop_more, get_or-map, length-map}
use Rattle.std.proofs.lemmas.List.Elements.{All-get_or}
use Rattle.std.proofs.lemmas.Grind.{flat_map-append}
use Rattle.std.specs.Prelude.{get_or}
use Rattle.hm_disk.specs.Disk.{LeavesOnly, RisesBy}
use Rattle.hm_disk.proofs.Moments.{weaker, joined}
use Rattle.hm_log.specs.Format.{Reads}
use Rattle.hm_log.specs.Run.{IsRun, BeforeOrAll}
use Rattle.hm_batch.specs.Flushing.{ReadsWithFirst}
use Rattle.hm_batch.specs.Pieces.{in_order, run_of, runs_of, IsPiece}
use Rattle.hm_batch.specs.View.{noted, AreLaid}
use Rattle.hm_batch.specs.declared.pieces.Piece.{Piece}
use Rattle.hm_batch.proofs.Runs.{length-run_of, run_is}

-- the piece at a place, and its run
pub record Next (pieces : List (List (List ℕ))) (i : ℕ) (note : Piece) (rest : List ℕ) : Type 0 where
  pub piece : List (List ℕ)
  pub within : i < length pieces
  pub is : IsPiece piece
  pub noted_is : note ≡ noted piece
  pub so_far : take (i + 1) pieces ≡ take i pieces ++ piece ∷ []
  pub split : pieces ≡ take i pieces ++ piece ∷ drop (i + 1) pieces
  pub long : note.bytes ≤ length rest
  pub run : IsRun (take note.bytes rest) piece
  pub behind : drop note.bytes rest ≡ runs_of (drop (i + 1) pieces)

-- the next piece stands at the front of what is left
pub next : (notes : List Piece) (bytes : List ℕ) (pieces : List (List (List ℕ))) → AreLaid notes bytes pieces → (i : ℕ) (d : Piece) (rest : List ℕ) → i < length notes → rest ≡ runs_of (drop i pieces) → Next pieces i (get_or notes i d) rest
next notes bytes pieces laid i d rest low left =
    let note : Piece = get_or notes i d in
    let within : i < length pieces = omega (arith, low, ap length laid.notes_are, length-map pieces noted) in
    let piece : List (List ℕ) = get_or pieces i [] in
    let is : IsPiece piece = All-get_or IsPiece pieces i [] within laid.each in
    let same : note ≡ noted piece = ap (λ (n : List Piece). get_or n i d) laid.notes_are ∙ get_or-map noted pieces i [] d within in
    let parts : drop i pieces ≡ piece ∷ drop (i + 1) pieces = drop_more pieces i [] within in
    let whole : rest ≡ run_of piece ++ runs_of (drop (i + 1) pieces) = left ∙ ap runs_of parts in
    let size : length (run_of piece) ≡ note.bytes = length-run_of piece is.0 ∙ ap (λ (n : Piece). n.bytes) (sym same) in
    record {
      piece = piece;
      within = within;
      is = is;
      noted_is = same;
      so_far = take_more pieces i [] within;
      split = sym (take-append-drop i pieces) ∙ ap (λ (l : List (List (List ℕ))). take i pieces ++ l) parts;
      long = omega (arith, ap length whole, length-append (run_of piece) (runs_of (drop (i + 1) pieces)), size);
      run = subst (λ (r : List ℕ). IsRun r piece) (sym (ap (λ (l : List ℕ). take note.bytes l) whole ∙ take_at (run_of piece) (runs_of (drop (i + 1) pieces)) note.bytes size)) (run_is piece is);
      behind = ap (λ (l : List ℕ). drop note.bytes l) whole ∙ drop_at (run_of piece) (runs_of (drop (i + 1) pieces)) note.bytes size;
    }

-- the frames after one piece more
pub frames_more : (old mid new : List (List ℕ)) (pieces : List (List (List ℕ))) (i : ℕ) (piece : List (List ℕ)) → take (i + 1) pieces ≡ take i pieces ++ piece ∷ [] → mid ≡ old ++ in_order (take i pieces) → new ≡ mid ++ piece
    → new ≡ old ++ in_order (take (i + 1) pieces)
frames_more old mid new pieces i piece so_far before after =
    after
    ∙ ap (λ (l : List (List ℕ)). l ++ piece) before
    ∙ append_assoc old (in_order (take i pieces)) piece
    ∙ ap (λ (l : List (List ℕ)). old ++ l) (sym (ap in_order so_far ∙ flat_map-append (λ (p : List (List ℕ)). p) (take i pieces) (piece ∷ []) ∙ ap (λ (l : List (List ℕ)). in_order (take i pieces) ++ l) (append-nil piece)))

-- what a stop leaves while a piece is added
pub on_the_way : (old mid : List (List ℕ)) (pieces : List (List (List ℕ))) (i : ℕ) (piece : List (List ℕ)) → i < length pieces → take (i + 1) pieces ≡ take i pieces ++ piece ∷ [] → mid ≡ old ++ in_order (take i pieces)
    → (c : List ℕ) → BeforeOrAll mid piece c → ReadsWithFirst old pieces c
on_the_way old mid pieces i piece within so_far before c (inl reads) = (i, omega (arith, within), subst (λ (fs : List (List ℕ)). Reads c fs) before reads)
on_the_way old mid pieces i piece within so_far before c (inr reads) = (i + 1, omega (arith, within), subst (λ (fs : List (List ℕ)). Reads c fs) (frames_more old mid (mid ++ piece) pieces i piece so_far before refl) reads)

-- the moments up to the end of one piece more
module _ {D : Type 0} (moment : D → ℕ) (left_since : D → ℕ → List ℕ → Type 0) (first now then : D) (old mid : List (List ℕ)) (pieces : List (List (List ℕ))) where
  pub moments_more : (i : ℕ) (piece : List (List ℕ)) → i < length pieces → take (i + 1) pieces ≡ take i pieces ++ piece ∷ [] → mid ≡ old ++ in_order (take i pieces)
      → LeavesOnly moment left_since first now (ReadsWithFirst old pieces) → LeavesOnly moment left_since now then (BeforeOrAll mid piece) → LeavesOnly moment left_since first then (ReadsWithFirst old pieces)
  moments_more i piece within so_far before done added =
      joined moment left_since first now then (ReadsWithFirst old pieces) done
      (weaker moment left_since now then (BeforeOrAll mid piece) (ReadsWithFirst old pieces) (on_the_way old mid pieces i piece within so_far before) added)

-- two changes more
pub changes_more : (first now then i : ℕ) → RisesBy (2 * i) first now → RisesBy 2 now then → RisesBy (2 * (i + 1)) first then
changes_more first now then i done added = record {
  later = omega (arith, done.later, added.later);
  least = omega (arith, done.least, added.least);
  most = omega (arith, done.most, added.most);
}
