-- Where frames end: once, and in each content of bytes.
use Rattle.std.proofs.Common.{◌≡◌, ◌≢◌, ◌⊎◌, inl, inr, ℕ, zero, suc, ◌+◌, ◌≤◌, ◌<◌, List, [], ◌∷◌, ◌++◌, length, take, drop, get_or, refl, sym, ◌∙◌, ap, subst, arith, append_assoc, length-append, length-drop, take-append-drop}
use Rattle.std.proofs.lemmas.List.{take_at, drop_at, length-take, get_or_past}
use Rattle.std.proofs.lemmas.List.Elements.{All-nil, All-cons, All-head, All-tail, All-take, All-drop}
use Rattle.std.proofs.lemmas.Bool.{cases_eq, cases_lt}
use Rattle.std.specs.Prelude.{All}
use Rattle.std.specs.Int.{from_le_bytes, w32}
use Rattle.hm_log.specs.Format.{size_bytes, size_of, laid, spelled, IsFrame, IsEnd, NoFrame}
use Rattle.hm_log.proofs.Sizes.{laid_is}
use Rattle.hm_log.proofs.Spelling.{length-size_bytes, length-laid}
use Rattle.hm_log.proofs.Listed.{size_of-size_bytes}

pub some_end : (end : List ℕ) → IsEnd end → 1 ≤ length end
some_end [] is = absurd is
some_end (gate ∷ rest) is = omega arith

-- frames that stand at a place, up to their end
pub record Ends (bytes : List ℕ) : Type 0 where
  pub frames : List (List ℕ)
  pub end : List ℕ
  pub spelling : bytes ≡ spelled frames ++ end
  pub each : All IsFrame frames
  pub is : IsEnd end

-- the size of a frame that stands here
size_here : (frame rest : List ℕ) → IsFrame frame → size_of (laid frame ++ rest) ≡ length frame
size_here frame rest is = ap size_of (append_assoc (size_bytes (length frame)) frame rest) ∙ size_of-size_bytes (length frame) (frame ++ rest) is.most

-- a whole frame and a gate after it are no missing frame
stands : (frame rest : List ℕ) → IsFrame frame → 1 ≤ length rest → NoFrame (laid frame ++ rest) → ⊥
stands frame rest is some none =
    let size = size_here frame rest is in
    let long : length (laid frame ++ rest) ≡ 4 + length frame + length rest = omega (arith, length-append (laid frame) rest, length-laid frame) in
    elim none [
      | inl short ↦ omega (arith, short, long)
      | inr (inl nought) ↦ omega (arith, nought, size, is.some)
      | inr (inr (inl many)) ↦ omega (arith, many, size, is.most)
      | inr (inr (inr short)) ↦ omega (arith, short, size, long)
    ]

-- two frames that stand at one place are one, and so is what follows
same_size : (f g x y : List ℕ) → IsFrame f → IsFrame g → laid f ++ x ≡ laid g ++ y → length f ≡ length g
same_size f g x y is also same = sym (size_here f x is) ∙ ap size_of same ∙ size_here g y also

same_rest : (f g x y : List ℕ) → IsFrame f → IsFrame g → laid f ++ x ≡ laid g ++ y → x ≡ y
same_rest f g x y is also same =
    let sizes = same_size f g x y is also same in
    sym (drop_at (laid f) x (4 + length f) (length-laid f)) ∙ ap (λ (l : List ℕ). drop (4 + length f) l) same ∙ drop_at (laid g) y (4 + length f) (omega (arith, length-laid g, sizes))

behind_size : (f x : List ℕ) → drop 4 (laid f ++ x) ≡ f ++ x
behind_size f x = ap (λ (l : List ℕ). drop 4 l) (append_assoc (size_bytes (length f)) f x) ∙ drop_at (size_bytes (length f)) (f ++ x) 4 (length-size_bytes (length f))

same_frame : (f g x y : List ℕ) → IsFrame f → IsFrame g → laid f ++ x ≡ laid g ++ y → f ≡ g
same_frame f g x y is also same =
    let whole : f ++ x ≡ g ++ y = sym (behind_size f x) ∙ ap (λ (l : List ℕ). drop 4 l) same ∙ behind_size g y in
    sym (take_at f x (length f) refl) ∙ ap (λ (l : List ℕ). take (length f) l) whole ∙ take_at g y (length f) (sym (same_size f g x y is also same))

pub tail_of : (a b : ℕ) (x y : List ℕ) → a ∷ x ≡ b ∷ y → x ≡ y
tail_of a b x y is = cc

pub head_of : (a b : ℕ) (x y : List ℕ) → a ∷ x ≡ b ∷ y → a ≡ b
head_of a b x y is = cc

-- no frame stands where the frames end
no_more : (end g : List ℕ) (gs : List (List ℕ)) (other : List ℕ) → IsEnd end → All IsFrame (g ∷ gs) → IsEnd other → end ≡ spelled (g ∷ gs) ++ other → ⊥
no_more [] g gs other is also ends same = is
no_more (gate ∷ rest) g gs other (inl shut) also ends same = shut (head_of gate 43 rest _ same)
no_more (gate ∷ rest) g gs other (inr bad) also ends same =
    let here : rest ≡ laid g ++ (spelled gs ++ other) = tail_of gate 43 rest _ same ∙ append_assoc (laid g) (spelled gs) other in
    let some : 1 ≤ length (spelled gs ++ other) = omega (arith, length-append (spelled gs) other, some_end other ends) in
    stands g (spelled gs ++ other) (All-head IsFrame g gs also) some (subst NoFrame here bad.1)

pub same_ends : (fs gs : List (List ℕ)) (end other : List ℕ) → All IsFrame fs → All IsFrame gs → IsEnd end → IsEnd other → spelled fs ++ end ≡ spelled gs ++ other → (fs ≡ gs) × (end ≡ other)
same_ends [] [] end other all also is ends same = (refl, same)
same_ends [] (g ∷ gs) end other all also is ends same = absurd (no_more end g gs other is also ends same)
same_ends (f ∷ fs) [] end other all also is ends same = absurd (no_more other f fs end ends all is (sym same))
same_ends (f ∷ fs) (g ∷ gs) end other all also is ends same =
    let here : laid f ++ (spelled fs ++ end) ≡ laid g ++ (spelled gs ++ other) = sym (append_assoc (laid f) (spelled fs) end) ∙ tail_of 43 43 _ _ same ∙ append_assoc (laid g) (spelled gs) other in
    let first : f ≡ g = same_frame f g _ _ (All-head IsFrame f fs all) (All-head IsFrame g gs also) here in
    let rest = same_ends fs gs end other (All-tail IsFrame f fs all) (All-tail IsFrame g gs also) is ends (same_rest f g _ _ (All-head IsFrame f fs all) (All-head IsFrame g gs also) here) in
    ((λ i. first i ∷ rest.0 i), rest.1)

pub closed_or_open : (x y : ℕ) (a b : List ℕ) → x ≢ y → x ∷ a ≡ y ∷ b → ⊥
closed_or_open x y a b ne is = ne (head_of x y a b is)

-- a frame that stands here, and what follows it
record Stands (rest : List ℕ) : Type 0 where
  frame : List ℕ
  next : List ℕ
  is : rest ≡ laid frame ++ next
  fits : IsFrame frame
  some : 1 ≤ length next

abbrev pub IsByte : ℕ → Type 0
IsByte byte = byte < 256

byte_at : (bytes : List ℕ) → All IsByte bytes → (i : ℕ) → get_or bytes i 0 < 256
byte_at bytes all i = elim (cases_lt i (length bytes)) [
  | inl within ↦ all i 0 within
  | inr past ↦ subst IsByte (sym (get_or_past bytes i 0 past)) (omega arith)
]

size_is : (rest : List ℕ) → size_of rest ≡ from_le_bytes w32 (take 4 rest)
unfolding size_of
size_is rest = refl

stands_here : (rest : List ℕ) → All IsByte rest → 1 ≤ size_of rest → size_of rest ≤ 65536 → 4 + size_of rest < length rest → Stands rest
stands_here rest all some most long =
    let n = size_of rest in
    let tail = drop 4 rest in
    let size : length (take n tail) ≡ n = omega (arith, length-take n tail, length-drop 4 rest) in
    record {
      frame = take n tail;
      next = drop n tail;
      is = laid_is rest (take 4 rest) tail n (sym (take-append-drop 4 rest)) (omega (arith, length-take 4 rest)) (size_is rest) (byte_at (take 4 rest) (All-take IsByte 4 rest all)) (take n tail) (drop n tail) (sym (take-append-drop n tail)) size;
      fits = record { some = omega (arith, size); most = omega (arith, size) };
      some = omega (arith, length-drop n tail, length-drop 4 rest);
    }

frame_or_none : (rest : List ℕ) → All IsByte rest → NoFrame rest ⊎ Stands rest
frame_or_none rest all = elim (cases_lt (length rest) 4) [
  | inl short ↦ inl (inl short)
  | inr four ↦ elim (cases_eq (size_of rest) 0) [
    | inl nought ↦ inl (inr (inl nought))
    | inr some ↦ elim (cases_lt 65536 (size_of rest)) [
      | inl many ↦ inl (inr (inr (inl many)))
      | inr most ↦ elim (cases_lt (4 + size_of rest) (length rest)) [
        | inl long ↦ inr (stands_here rest all (omega arith) most long)
        | inr short ↦ inl (inr (inr (inr short)))
      ]
    ]
  ]
]

ends_here : (rest : List ℕ) → IsEnd rest → Ends rest
ends_here rest is = record { frames = []; end = rest; spelling = refl; each = All-nil IsFrame; is = is }

ends_later : (gate : ℕ) (rest : List ℕ) (here : Stands rest) → gate ≡ 43 → Ends here.next → Ends (gate ∷ rest)
ends_later gate rest here is later = record {
  frames = here.frame ∷ later.frames;
  end = later.end;
  spelling = (λ i. is i ∷ here.is i) ∙ ap (λ (l : List ℕ). 43 ∷ (laid here.frame ++ l)) later.spelling ∙ ap (λ (l : List ℕ). 43 ∷ l) (sym (append_assoc (laid here.frame) (spelled later.frames) later.end));
  each = All-cons IsFrame here.frame later.frames here.fits later.each;
  is = later.is;
}

all_next : (rest : List ℕ) (here : Stands rest) → All IsByte rest → All IsByte here.next
all_next rest here all =
    let same : drop (4 + length here.frame) rest ≡ here.next = ap (λ (l : List ℕ). drop (4 + length here.frame) l) here.is ∙ drop_at (laid here.frame) here.next (4 + length here.frame) (length-laid here.frame) in
    let P : List ℕ → Type 0 = λ l. All IsByte l in
    subst P same (All-drop IsByte (4 + length here.frame) rest all)

-- each content that isn't empty
pub ended : (steps : ℕ) (rest : List ℕ) → length rest ≤ steps → 1 ≤ length rest → All IsByte rest → Ends rest
ended steps [] le some all = absurd (omega arith)
ended zero (gate ∷ rest) le some all = absurd (omega arith)
ended (suc steps) (gate ∷ rest) le some all = elim (cases_eq gate 43) [
  | inr shut ↦ ends_here (gate ∷ rest) (inl shut)
  | inl is ↦ elim (frame_or_none rest (All-tail IsByte gate rest all)) [
    | inl none ↦ ends_here (gate ∷ rest) (inr (is, none))
    | inr here ↦ ends_later gate rest here is (ended steps here.next (omega (arith, le, ap length here.is, length-append (laid here.frame) here.next)) here.some (all_next rest here (All-tail IsByte gate rest all)))
  ]
]
