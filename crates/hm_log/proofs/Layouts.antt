-- The three layouts: what they read as, and how the bytes tell them apart.
use Rattle.std.proofs.Common.{◌≡◌, ◌≢◌, ◌⊎◌, inl, inr, ℕ, ◌+◌, ◌-◌, ◌≤◌, ◌<◌, List, [], ◌∷◌, ◌++◌, length, take, drop, get_or, refl, sym, ◌∙◌, ap, arith, append_assoc, length-append, length-drop, take-append-drop}
use Rattle.std.proofs.Math.Seq.{drop-cons}
use Rattle.std.proofs.lemmas.List.{take_at, drop_at, take-take, take_all, length-take, append-nil}
use Rattle.std.proofs.lemmas.Bool.Decides.{nat_tests}
use Rattle.std.specs.Prelude.{All, if◌then◌else◌, ◌==◌}
use Rattle.hm_log.specs.Format.{magic, head, spelled, IsFrame, IsFirst, IsPlain, IsMoved, IsOpenEnded, RunsTo, Reads, place_of, told_place, first_gate, NoBody}
use Rattle.hm_log.specs.Pieces.{body_in}

-- a log of version 1
pub first_reads : (gate : ℕ) → gate ≢ 43 → (frames : List (List ℕ)) → All IsFrame frames → (free c : List ℕ) → c ≡ magic ++ 1 ∷ (spelled frames ++ gate ∷ free) → Reads c frames
first_reads gate shut frames each free c is = record {
  front = magic ++ 1 ∷ [];
  body = spelled frames ++ gate ∷ free;
  free = free;
  layout = inl (inl (record { is = refl; parts = is }));
  runs = record { gate = gate; shut = shut; spelling = refl; each = each };
}

-- a plain log of version 2
pub plain_reads : (version selector gate : ℕ) → version ≢ 1 → selector ≢ 43 → gate ≢ 43 → (frames : List (List ℕ)) → All IsFrame frames → (free c : List ℕ) → c ≡ head version selector ++ (spelled frames ++ gate ∷ free) → Reads c frames
plain_reads version selector gate newer off shut frames each free c is = record {
  front = head version selector;
  body = spelled frames ++ gate ∷ free;
  free = free;
  layout = inl (inr (record { version = version; selector = selector; newer = newer; off = off; is = refl; parts = is }));
  runs = record { gate = gate; shut = shut; spelling = refl; each = each };
}

-- a moved one
pub moved_reads : (front body : List ℕ) (frames : List (List ℕ)) (c : List ℕ) → IsMoved c front body → RunsTo body frames [] → Reads c frames
moved_reads front body frames c moved runs = record { front = front; body = body; free = []; layout = inr (moved, refl); runs = runs }

abbrev version_of : List ℕ → ℕ
version_of bytes = get_or bytes 8 0

abbrev selector_of : List ℕ → ℕ
selector_of bytes = get_or bytes 9 0

-- how many bytes stand after the body
unfoldable pub room_of : List ℕ → ℕ
room_of bytes = if version_of bytes == 1 then 0 else if selector_of bytes == 43 then 8 else 0

-- the front is as long as the bytes say, and so is what stands after the body: nothing, or the eight bytes of a place
pub record Lies (bytes front body : List ℕ) : Type 0 where
  pub behind : List ℕ
  pub parts : bytes ≡ front ++ (body ++ behind)
  pub gate : first_gate bytes ≡ length front
  pub long : length behind ≡ room_of bytes

module _ (bytes front body : List ℕ) (layout : IsFirst bytes front body) where
  first_parts : bytes ≡ magic ++ 1 ∷ body
  first_parts = layout.parts ∙ ap (λ (l : List ℕ). l ++ body) layout.is

  pub first_version : version_of bytes ≡ 1
  first_version = ap version_of first_parts

  pub first_magic : take 8 bytes ≡ magic
  first_magic = ap (λ (l : List ℕ). take 8 l) first_parts

  pub first_size : length bytes ≡ 9 + length body
  first_size = omega (arith, ap length first_parts)

  pub first_lies : Lies bytes front body
  unfolding first_gate room_of
  first_lies = record {
    behind = [];
    parts = layout.parts ∙ ap (λ (l : List ℕ). front ++ l) (sym (append-nil body));
    gate = grind (arith, nat_tests, first_version, ap length layout.is);
    long = grind (arith, nat_tests, first_version);
  }

module _ (bytes front body : List ℕ) (layout : IsPlain bytes front body) where
  plain_parts : bytes ≡ head layout.version layout.selector ++ body
  plain_parts = layout.parts ∙ ap (λ (l : List ℕ). l ++ body) layout.is

  version_is : version_of bytes ≡ layout.version
  version_is = ap version_of plain_parts

  selector_is : selector_of bytes ≡ layout.selector
  selector_is = ap selector_of plain_parts

  pub plain_version : version_of bytes ≢ 1
  plain_version one = layout.newer (sym version_is ∙ one)

  pub plain_selector : selector_of bytes ≢ 43
  plain_selector plus = layout.off (sym selector_is ∙ plus)

  pub plain_magic : take 8 bytes ≡ magic
  plain_magic = ap (λ (l : List ℕ). take 8 l) plain_parts

  pub plain_size : length bytes ≡ 10 + length body
  plain_size = omega (arith, ap length plain_parts)

  pub plain_lies : Lies bytes front body
  unfolding first_gate room_of
  plain_lies = record {
    behind = [];
    parts = layout.parts ∙ ap (λ (l : List ℕ). front ++ l) (sym (append-nil body));
    gate = grind (arith, nat_tests, plain_version, plain_selector, ap length layout.is);
    long = grind (arith, nat_tests, plain_version, plain_selector);
  }

module _ (bytes front body : List ℕ) (layout : IsMoved bytes front body) where
  pub moved_parts : bytes ≡ head layout.version 43 ++ (layout.between ++ (body ++ layout.place))
  moved_parts = layout.parts ∙ append_assoc front body layout.place ∙ ap (λ (l : List ℕ). l ++ (body ++ layout.place)) layout.is ∙ append_assoc (head layout.version 43) layout.between (body ++ layout.place)

  version_now : version_of bytes ≡ layout.version
  version_now = ap version_of moved_parts

  pub moved_version : version_of bytes ≢ 1
  moved_version one = layout.newer (sym version_now ∙ one)

  pub moved_selector : selector_of bytes ≡ 43
  moved_selector = ap selector_of moved_parts

  pub moved_magic : take 8 bytes ≡ magic
  moved_magic = ap (λ (l : List ℕ). take 8 l) moved_parts

  pub moved_size : length bytes ≡ length front + length body + 8
  moved_size = omega (arith, ap length layout.parts, length-append (front ++ body) layout.place, length-append front body, layout.eight)

  front_size : length front ≡ 10 + length layout.between
  front_size = omega (arith, ap length layout.is, length-append (head layout.version 43) layout.between)

  pub moved_told : told_place bytes ≡ length front
  moved_told =
      ap place_of (ap (λ (l : List ℕ). drop (length bytes - 8) l) layout.parts ∙ drop_at (front ++ body) layout.place (length bytes - 8) (omega (arith, moved_size, length-append front body)))
      ∙ layout.at

  pub moved_body : NoBody (told_place bytes) (length bytes) → ⊥
  moved_body (inl low) = omega (arith, low, moved_told, front_size, layout.some, layout.room)
  moved_body (inr (inl high)) = omega (arith, high, moved_told, moved_size, layout.some)
  moved_body (inr (inr tight)) = omega (arith, tight, moved_told, moved_size, front_size, layout.room)

  pub moved_lies : Lies bytes front body
  unfolding first_gate room_of
  moved_lies = record {
    behind = layout.place;
    parts = layout.parts ∙ append_assoc front body layout.place;
    gate = grind (arith, nat_tests, moved_version, moved_selector, moved_told);
    long = grind (arith, nat_tests, moved_version, moved_selector, layout.eight);
  }

-- what stands after the front
pub behind_front : (bytes front body : List ℕ) (lies : Lies bytes front body) → drop (first_gate bytes) bytes ≡ body ++ lies.behind
behind_front bytes front body lies = ap (λ (l : List ℕ). drop (first_gate bytes) l) lies.parts ∙ drop_at front (body ++ lies.behind) (first_gate bytes) (sym lies.gate)

-- the magic and a byte
pub split_nine : (bytes : List ℕ) → 9 ≤ length bytes → take 8 bytes ≡ magic → bytes ≡ magic ++ get_or bytes 8 0 ∷ drop 9 bytes
split_nine bytes long is =
    sym (take-append-drop 8 bytes)
    ∙ ap (λ (l : List ℕ). l ++ drop 8 bytes) is
    ∙ ap (λ (l : List ℕ). magic ++ l) (drop-cons bytes 8 0 (omega arith))

-- the magic and two bytes
pub split_ten : (bytes : List ℕ) → 10 ≤ length bytes → take 8 bytes ≡ magic → bytes ≡ head (get_or bytes 8 0) (get_or bytes 9 0) ++ drop 10 bytes
split_ten bytes long is =
    split_nine bytes (omega arith) is
    ∙ ap (λ (l : List ℕ). magic ++ get_or bytes 8 0 ∷ l) (drop-cons bytes 9 0 (omega arith))

-- a body that goes on to the end
body_all : (first limit : ℕ) (bytes : List ℕ) → limit ≡ length bytes → body_in first limit bytes ≡ drop first bytes
body_all first limit bytes is = ap (λ (l : List ℕ). drop first l) (take_all limit bytes (omega arith))

-- a content of version 1
pub is_first : (bytes : List ℕ) (limit : ℕ) → limit ≡ length bytes → 10 ≤ length bytes → take 8 bytes ≡ magic → get_or bytes 8 0 ≡ 1 → IsFirst bytes (magic ++ 1 ∷ []) (body_in 9 limit bytes)
is_first bytes limit all long is one = record {
  is = refl;
  parts = split_nine bytes (omega arith) is ∙ ap (λ (v : ℕ). magic ++ v ∷ drop 9 bytes) one ∙ ap (λ (l : List ℕ). magic ++ 1 ∷ l) (sym (body_all 9 limit bytes all));
}

-- a plain one of version 2
pub is_plain : (bytes : List ℕ) (limit : ℕ) → limit ≡ length bytes → 10 ≤ length bytes → take 8 bytes ≡ magic → get_or bytes 8 0 ≢ 1 → get_or bytes 9 0 ≢ 43
    → IsPlain bytes (head (get_or bytes 8 0) (get_or bytes 9 0)) (body_in 10 limit bytes)
is_plain bytes limit all long is newer off = record {
  version = get_or bytes 8 0;
  selector = get_or bytes 9 0;
  newer = newer;
  off = off;
  is = refl;
  parts = split_ten bytes long is ∙ ap (λ (l : List ℕ). head (get_or bytes 8 0) (get_or bytes 9 0) ++ l) (sym (body_all 10 limit bytes all));
}

-- a moved one
pub is_moved : (bytes : List ℕ) (first limit : ℕ) → limit + 8 ≡ length bytes → 11 ≤ length bytes → take 8 bytes ≡ magic → get_or bytes 8 0 ≢ 1 → get_or bytes 9 0 ≡ 43
    → first ≡ told_place bytes → (NoBody first (length bytes) → ⊥) → IsMoved bytes (take first bytes) (body_in first limit bytes)
is_moved bytes first limit ends long is newer plus told body =
    let low : 11 ≤ first = omega (arith, no_low) in
    let high : first < limit = omega (arith, no_high, ends) in
    let within : length (take limit bytes) ≡ limit = omega (arith, length-take limit bytes, ends) in
    let front : length (take first bytes) ≡ first = omega (arith, length-take first bytes, high, ends) in
    let between = drop 10 (take first bytes) in
    let size : length (body_in first limit bytes) ≡ limit - first = omega (arith, length-drop first (take limit bytes), within) in
    record {
      version = get_or bytes 8 0;
      between = between;
      place = drop limit bytes;
      newer = newer;
      is = front_is;
      eight = omega (arith, length-drop limit bytes, ends);
      at = ap (λ (n : ℕ). place_of (drop n bytes)) (omega (arith, ends)) ∙ sym told ∙ sym front;
      some = omega (arith, size, high);
      room = omega (arith, size, length-drop 10 (take first bytes), front, no_tight, low, high, ends);
      parts =
          sym (take-append-drop limit bytes)
          ∙ ap (λ (l : List ℕ). l ++ drop limit bytes) (sym (take-append-drop first (take limit bytes)) ∙ ap (λ (l : List ℕ). l ++ body_in first limit bytes) (take-take first limit bytes (omega (arith, high))));
    }
  where
    no_low : first < 11 → ⊥
    no_low less = body (inl less)

    no_high : length bytes < first + 9 → ⊥
    no_high less = body (inr (inl less))

    no_tight : first + first < length bytes + 2 → ⊥
    no_tight less = body (inr (inr less))

    front_is : take first bytes ≡ head (get_or bytes 8 0) 43 ++ drop 10 (take first bytes)
    front_is =
        let low : 11 ≤ first = omega (arith, no_low) in
        let ten : take 10 (take first bytes) ≡ head (get_or bytes 8 0) 43 =
        take-take 10 first bytes (omega (arith, low))
        ∙ ap (λ (l : List ℕ). take 10 l) (split_ten bytes (omega arith) is)
        ∙ ap (λ (s : ℕ). head (get_or bytes 8 0) s) plus in
        sym (take-append-drop 10 (take first bytes)) ∙ ap (λ (l : List ℕ). l ++ drop 10 (take first bytes)) ten

-- how any log lies
pub lies_of : (bytes front body : List ℕ) → IsOpenEnded bytes front body ⊎ IsMoved bytes front body → Lies bytes front body
lies_of bytes front body (inl (inl first)) = first_lies bytes front body first
lies_of bytes front body (inl (inr plain)) = plain_lies bytes front body plain
lies_of bytes front body (inr moved) = moved_lies bytes front body moved

-- two bodies of the same bytes are one
pub same_body : (bytes f g b c : List ℕ) → Lies bytes f b → Lies bytes g c → (length f ≡ length g) × (b ≡ c)
same_body bytes f g b c one other =
    let whole : b ++ one.behind ≡ c ++ other.behind = sym (behind_front bytes f b one) ∙ behind_front bytes g c other in
    let long : length b ≡ length c = omega (arith, ap length whole, length-append b one.behind, length-append c other.behind, one.long, other.long) in (
      sym one.gate ∙ other.gate,
      sym (take_at b one.behind (length b) refl) ∙ ap (λ (l : List ℕ). take (length b) l) whole ∙ take_at c other.behind (length b) (sym long),
    )

-- a body that goes on to the end isn't that of a moved log
pub not_moved : (bytes f g b c : List ℕ) → IsOpenEnded bytes f b → IsMoved bytes g c → ⊥
not_moved bytes f g b c (inl first) moved = moved_version bytes g c moved (first_version bytes f b first)
not_moved bytes f g b c (inr plain) moved = plain_selector bytes f b plain (moved_selector bytes g c moved)

-- the layout of a log that reads as frames
pub layout_of : (bytes : List ℕ) (frames : List (List ℕ)) (reads : Reads bytes frames) → IsOpenEnded bytes reads.front reads.body ⊎ IsMoved bytes reads.front reads.body
layout_of bytes frames reads = by reads.layout
  where
    by : IsOpenEnded bytes reads.front reads.body ⊎ (IsMoved bytes reads.front reads.body × (reads.free ≡ [])) → IsOpenEnded bytes reads.front reads.body ⊎ IsMoved bytes reads.front reads.body
    by (inl straight) = inl straight
    by (inr moved) = inr moved.0
