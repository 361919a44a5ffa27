-- What a change makes of a content that is known in parts.
use Rattle.std.proofs.Common.{◌≡◌, inl, inr, ℕ, ◌+◌, ◌-◌, ◌≤◌, List, [], ◌++◌, length, take, drop, refl, sym, ◌∙◌, ap, arith, append_assoc, length-append, length-drop, take-append-drop}
use Rattle.std.proofs.lemmas.List.{append-nil, take_at, drop_at, take_all, drop_all, length-take}
use Rattle.std.proofs.Math.Seq.{drop-drop}
use Rattle.hm_disk.specs.Disk.{written, Torn, CutOrWhole}

-- a write that did nothing is a torn one
pub torn_same : (at n : ℕ) (c : List ℕ) → Torn at n c c
torn_same at n c = record { before = refl; after = refl; no_shorter = omega arith; no_longer = omega arith }

-- a whole write is a torn one
pub torn_written : (at : ℕ) (old bytes : List ℕ) → at ≤ length old → Torn at (length bytes) old (written at bytes old)
torn_written at old bytes low =
    let front : length (take at old) ≡ at = omega (arith, length-take at old) in
    let long : length (written at bytes old) ≡ at + length bytes + length (drop (at + length bytes) old) = omega (arith, front, length-append (take at old ++ bytes) (drop (at + length bytes) old), length-append (take at old) bytes) in
    record {
      before = ap (λ (l : List ℕ). take at l) (append_assoc (take at old) bytes (drop (at + length bytes) old)) ∙ take_at (take at old) (bytes ++ drop (at + length bytes) old) at front;
      after = drop_at (take at old ++ bytes) (drop (at + length bytes) old) (at + length bytes) (omega (arith, front, length-append (take at old) bytes));
      no_shorter = omega (arith, long, length-drop (at + length bytes) old);
      no_longer = omega (arith, long, length-drop (at + length bytes) old);
    }

-- a torn write at the end leaves what stood there
pub torn_end : (at n : ℕ) (old c : List ℕ) → at ≡ length old → Torn at n old c → (tail : List ℕ) × (c ≡ old ++ tail)
torn_end at n old c is torn =
    let front : take at c ≡ old = torn.before ∙ take_all at old (omega arith) in (
      drop at c,
      sym (take-append-drop at c) ∙ ap (λ (l : List ℕ). l ++ drop at c) front,
    )

-- a torn write within leaves what stood before it and after it
pub torn_over : (at n : ℕ) (front mid behind c : List ℕ) → at ≡ length front → n ≡ length mid → Torn at n (front ++ mid ++ behind) c
    → (new : List ℕ) × (length new ≡ n) × (c ≡ front ++ new ++ behind)
torn_over at n front mid behind c is_front is_mid torn =
    let long : length (front ++ mid ++ behind) ≡ at + n + length behind = omega (arith, length-append (front ++ mid) behind, length-append front mid) in
    let before : take at c ≡ front = torn.before ∙ ap (λ (l : List ℕ). take at l) (append_assoc front mid behind) ∙ take_at front (mid ++ behind) at (sym is_front) in
    let after : drop (at + n) c ≡ behind = torn.after ∙ drop_at (front ++ mid) behind (at + n) (omega (arith, length-append front mid)) in
    let rest : List ℕ = drop at c in
    let size : length c ≡ at + n + length behind = omega (arith, torn.no_shorter, torn.no_longer, long) in
    let tail : drop n rest ≡ behind = drop-drop n at c ∙ after in
    let split : c ≡ take at c ++ (take n rest ++ drop n rest) = sym (take-append-drop at c) ∙ ap (λ (l : List ℕ). take at c ++ l) (sym (take-append-drop n rest)) in (
      take n rest,
      omega (arith, length-take n rest, length-drop at c, size),
      split ∙ ap (λ (l : List ℕ). l ++ (take n rest ++ drop n rest)) before ∙ ap (λ (l : List ℕ). front ++ (take n rest ++ l)) tail ∙ sym (append_assoc front (take n rest) behind),
    )

-- a write at the end appends
pub written_end : (at : ℕ) (old bytes : List ℕ) → at ≡ length old → written at bytes old ≡ old ++ bytes
written_end at old bytes is =
    ap (λ (l : List ℕ). l ++ bytes ++ drop (at + length bytes) old) (take_all at old (omega arith))
    ∙ ap (λ (l : List ℕ). old ++ bytes ++ l) (drop_all (at + length bytes) old (omega arith))
    ∙ append-nil (old ++ bytes)

-- a write within replaces what stood there
pub written_over : (at : ℕ) (front mid bytes behind : List ℕ) → at ≡ length front → length bytes ≡ length mid → written at bytes (front ++ mid ++ behind) ≡ front ++ bytes ++ behind
written_over at front mid bytes behind is same =
    ap (λ (l : List ℕ). l ++ bytes ++ drop (at + length bytes) (front ++ mid ++ behind)) (ap (λ (l : List ℕ). take at l) (append_assoc front mid behind) ∙ take_at front (mid ++ behind) at (sym is))
    ∙ ap (λ (l : List ℕ). front ++ bytes ++ l) (drop_at (front ++ mid) behind (at + length bytes) (omega (arith, length-append front mid)))

-- a cut after what stays leaves it
pub cut_end : (at : ℕ) (front tail c : List ℕ) → at ≡ length front → CutOrWhole at (front ++ tail) c → (rest : List ℕ) × (c ≡ front ++ rest)
cut_end at front tail c is (inl same) = (tail, same)
cut_end at front tail c is (inr cut) = ([], cut ∙ take_at front tail at (sym is) ∙ sym (append-nil front))

-- a write of fewer bytes is a torn write of more
pub torn_wider : (at k n : ℕ) (old new : List ℕ) → k ≤ n → Torn at k old new → Torn at n old new
torn_wider at k n old new le torn =
    let sum : at + k + (n - k) ≡ at + n = omega arith in
    let behind : (l : List ℕ) → drop (at + n) l ≡ drop (n - k) (drop (at + k) l) = λ l. ap (λ (m : ℕ). drop m l) (sym sum) ∙ sym (drop-drop (n - k) (at + k) l) in
    record {
      before = torn.before;
      after = behind new ∙ ap (λ (l : List ℕ). drop (n - k) l) torn.after ∙ sym (behind old);
      no_shorter = torn.no_shorter;
      no_longer = omega (arith, torn.no_longer);
    }
