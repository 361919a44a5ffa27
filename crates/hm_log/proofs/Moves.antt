-- What a stop leaves at each step of a move, and what its steps make of the bytes.
use Rattle.std.proofs.Common.{◌≡◌, ◌≢◌, ◌⊎◌, inl, inr, ℕ, ◌+◌, ◌^◌, ◌≤◌, ◌<◌, List, [], ◌∷◌, ◌++◌, length, take, drop, refl, sym, ◌∙◌, ap, subst, arith, append_assoc, length-append, length-drop, take-append-drop}
use Rattle.std.proofs.lemmas.List.{take_at, length-take}
use Rattle.std.proofs.lemmas.Nat.{from_le_bytes-to_le_bytes_8}
use Rattle.std.proofs.lemmas.Bool.{cases_eq}
use Rattle.std.specs.Prelude.{All}
use Rattle.hm_disk.specs.Disk.{written, CutOrWhole, Torn, LeavesOnly}
use Rattle.hm_disk.proofs.Moments.{weaker, joined}
use Rattle.hm_disk.proofs.Splice.{torn_end, torn_over, written_over, cut_end}
use Rattle.hm_log.specs.Format.{magic, head, laid, spelled, image_of, image_size, place_bytes, place_of, IsFrame, IsWhole, OldOrNew, Reads, RunsTo}
use Rattle.hm_log.specs.Moving.{IsStaged, IsMovedLog, IsWholeFirst}
use Rattle.hm_log.proofs.Layouts.{first_reads, plain_reads, moved_reads}
use Rattle.hm_log.proofs.Spelling.{length-image}
use Rattle.hm_log.proofs.Stages.{torn_behind}

length-place : (n : ℕ) → length (place_bytes n) ≡ 8
unfolding place_bytes
length-place n = refl

place_of-place_bytes : (n : ℕ) → n < 2 ^ 64 → place_of (place_bytes n) ≡ n
unfolding place_of place_bytes
place_of-place_bytes n fits = from_le_bytes-to_le_bytes_8 n fits

-- an image runs to its closed gate
pub image_runs : (frames : List (List ℕ)) → All IsFrame frames → RunsTo (image_of frames) frames []
image_runs frames each = record { gate = 45; shut = omega arith; spelling = refl; each = each }

-- an image and its place after a front that is so long
abbrev pub placed : List (List ℕ) → ℕ → List ℕ
placed frames place = image_of frames ++ place_bytes place

-- a selector that is a plus, and room in front of the image
pub moved_log : (version : ℕ) → version ≢ 1 → (frames : List (List ℕ)) → All IsFrame frames → (between c : List ℕ) (place : ℕ) → place ≡ 10 + length between → place < 2 ^ 64
    → length (image_of frames) ≤ length between → c ≡ head version 43 ++ (between ++ placed frames place) → IsMovedLog c frames
moved_log version newer frames each between c place at fits room is = (
  head version 43 ++ between,
  image_of frames,
  record {
    version = version;
    between = between;
    place = place_bytes place;
    newer = newer;
    is = refl;
    eight = length-place place;
    at = place_of-place_bytes place fits ∙ omega (arith, at, length-append (head version 43) between);
    some = omega (arith, length-append (spelled frames) (45 ∷ []));
    room = room;
    parts = is ∙ sym (append_assoc (head version 43) between (placed frames place)) ∙ sym (append_assoc (head version 43 ++ between) (image_of frames) (place_bytes place));
  },
  image_runs frames each,
)

pub moved_log_reads : (c : List ℕ) (frames : List (List ℕ)) → IsMovedLog c frames → Reads c frames
moved_log_reads c frames log = moved_reads log.0 log.1 frames c log.2 log.3

-- one byte of any value
pub one_byte : (P : List ℕ → Type 0) (front : List ℕ) (old : ℕ) (behind c : List ℕ) (at : ℕ) → at ≡ length front → Torn at 1 (front ++ old ∷ [] ++ behind) c
    → ((x : ℕ) → P (front ++ x ∷ [] ++ behind)) → P c
one_byte P front old behind c at is torn so =
    let split = torn_over at 1 front (old ∷ []) behind c is refl torn in
    by split.0 split.1 split.2
  where
    by : (new : List ℕ) → length new ≡ 1 → c ≡ front ++ new ++ behind → P c
    by [] one same = absurd (cc)
    by (x ∷ []) one same = subst P (sym same) (so x)
    by (x ∷ y ∷ new) one same = absurd (omega (arith, one))

-- a log of version 2 with an image after it
module _ (version selector : ℕ) (newer : version ≢ 1) (off : selector ≢ 43) (old : List (List ℕ)) (olds : All IsFrame old) (gate : ℕ) (shut : gate ≢ 43) (fill : List ℕ) (new : List (List ℕ)) (news : All IsFrame new) (place : ℕ)
    (at : place ≡ 10 + length (spelled old ++ gate ∷ fill)) (fits : place < 2 ^ 64) (room : length (image_of new) ≤ length (spelled old ++ gate ∷ fill)) where
  abbrev between : List ℕ
  between = spelled old ++ gate ∷ fill

  -- the selector is torn
  switch_byte : (x : ℕ) → OldOrNew old new (head version x ++ (between ++ placed new place))
  switch_byte x = by (cases_eq x 43)
    where
      by : (x ≡ 43) ⊎ (x ≢ 43) → OldOrNew old new (head version x ++ (between ++ placed new place))
      by (inl plus) = inr (moved_log_reads _ new (moved_log version newer new news between _ place at fits room (ap (λ (s : ℕ). head version s ++ (between ++ placed new place)) plus)))
      by (inr other) = inl (plain_reads version x gate newer other shut old olds (fill ++ placed new place) _ (ap (λ (l : List ℕ). head version x ++ l) (append_assoc (spelled old) (gate ∷ fill) (placed new place))))

  pub switch_torn : (c : List ℕ) → Torn 9 1 (head version selector ++ (between ++ placed new place)) c → OldOrNew old new c
  switch_torn c torn = one_byte (OldOrNew old new) (magic ++ version ∷ []) selector (between ++ placed new place) c 9 refl torn switch_byte

  pub switched : written 9 (43 ∷ []) (head version selector ++ (between ++ placed new place)) ≡ head version 43 ++ (between ++ placed new place)
  switched = written_over 9 (magic ++ version ∷ []) (selector ∷ []) (43 ∷ []) (between ++ placed new place) refl refl

  pub switched_log : IsMovedLog (head version 43 ++ (between ++ placed new place)) new
  switched_log = moved_log version newer new news between _ place at fits room refl

-- a log of version 1 with a frame, and an image after it: its first gate is the selector
module _ (rest : List ℕ) (old : List (List ℕ)) (olds : All IsFrame old) (gate : ℕ) (shut : gate ≢ 43) (fill : List ℕ) (starts : spelled old ++ gate ∷ fill ≡ 43 ∷ rest) (new : List (List ℕ)) (news : All IsFrame new) (place : ℕ)
    (at : place ≡ 10 + length rest) (fits : place < 2 ^ 64) (room : length (image_of new) ≤ length rest) where
  version_byte : (x : ℕ) → OldOrNew old new (magic ++ x ∷ 43 ∷ (rest ++ placed new place))
  version_byte x = by (cases_eq x 1)
    where
      by : (x ≡ 1) ⊎ (x ≢ 1) → OldOrNew old new (magic ++ x ∷ 43 ∷ (rest ++ placed new place))
      by (inl one) = inl (first_reads gate shut old olds (fill ++ placed new place) _
          (ap (λ (v : ℕ). magic ++ v ∷ 43 ∷ (rest ++ placed new place)) one
          ∙ ap (λ (l : List ℕ). magic ++ 1 ∷ (l ++ placed new place)) (sym starts)
          ∙ ap (λ (l : List ℕ). magic ++ 1 ∷ l) (append_assoc (spelled old) (gate ∷ fill) (placed new place))))
      by (inr newer) = inr (moved_log_reads _ new (moved_log x newer new news rest _ place at fits room refl))

  pub version_torn : (c : List ℕ) → Torn 8 1 (magic ++ 1 ∷ 43 ∷ (rest ++ placed new place)) c → OldOrNew old new c
  version_torn c torn = one_byte (OldOrNew old new) magic 1 (43 ∷ (rest ++ placed new place)) c 8 refl torn version_byte

  pub version_written : written 8 (2 ∷ []) (magic ++ 1 ∷ 43 ∷ (rest ++ placed new place)) ≡ head 2 43 ++ (rest ++ placed new place)
  version_written = written_over 8 magic (1 ∷ []) (2 ∷ []) (43 ∷ (rest ++ placed new place)) refl refl

  pub version_log : IsMovedLog (head 2 43 ++ (rest ++ placed new place)) new
  version_log = moved_log 2 (omega arith) new news rest _ place at fits room refl

-- The three last steps of a move, from any moved log.
module _ (bytes : List ℕ) (frames : List (List ℕ)) (log : IsMovedLog bytes frames) where
  abbrev pub version : ℕ
  version = log.2.version

  abbrev pub gap : List ℕ
  gap = log.2.between

  abbrev pub body : List ℕ
  body = log.1

  abbrev pub behind : List ℕ
  behind = body ++ log.2.place

  parts : bytes ≡ head version 43 ++ (gap ++ behind)
  parts = log.2.parts ∙ append_assoc log.0 log.1 log.2.place ∙ ap (λ (l : List ℕ). l ++ (log.1 ++ log.2.place)) log.2.is ∙ append_assoc (head log.2.version 43) log.2.between (log.1 ++ log.2.place)

  each : All IsFrame frames
  each = log.3.each

  -- another as long gap the selector and the body
  with_between : (other c : List ℕ) → length other ≡ length gap → c ≡ head version 43 ++ (other ++ behind) → Reads c frames
  with_between other c long is =
      moved_reads (head version 43 ++ other) log.1 frames c (record {
        version = log.2.version;
        between = other;
        place = log.2.place;
        newer = log.2.newer;
        is = refl;
        eight = log.2.eight;
        at = log.2.at ∙ omega (arith, ap length log.2.is, length-append (head log.2.version 43) log.2.between, length-append (head log.2.version 43) other, long);
        some = log.2.some;
        room = omega (arith, log.2.room, long);
        parts = is ∙ sym (append_assoc (head log.2.version 43) other (log.1 ++ log.2.place)) ∙ sym (append_assoc (head log.2.version 43 ++ other) log.1 log.2.place);
      }) log.3

  pub image_long : length (image_of frames) ≡ length body
  image_long = omega (arith, ap length log.3.spelling, length-append (spelled frames) (log.3.gate ∷ []), length-append (spelled frames) (45 ∷ []))

  image_fits : length (image_of frames) ≤ length gap
  image_fits = omega (arith, image_long, log.2.room)

  -- what the image is written over, and what stays
  abbrev pub over : List ℕ
  over = take (length (image_of frames)) gap

  abbrev pub stays : List ℕ
  stays = drop (length (image_of frames)) gap

  over_long : length over ≡ length (image_of frames)
  over_long = omega (arith, length-take (length (image_of frames)) gap, image_fits)

  whole : bytes ≡ head version 43 ++ over ++ (stays ++ behind)
  whole =
      parts
      ∙ ap (λ (l : List ℕ). head version 43 ++ (l ++ behind)) (sym (take-append-drop (length (image_of frames)) gap))
      ∙ ap (λ (l : List ℕ). head version 43 ++ l) (append_assoc (take (length (image_of frames)) gap) (drop (length (image_of frames)) gap) behind)
      ∙ sym (append_assoc (head version 43) (take (length (image_of frames)) gap) (drop (length (image_of frames)) gap ++ behind))

  between_long : (new : List ℕ) → length new ≡ length (image_of frames) → length (new ++ stays) ≡ length gap
  between_long new long = omega (arith, length-append new (drop (length (image_of frames)) gap), long, length-drop (length (image_of frames)) gap, image_fits)

  -- the image is written in front
  pub front_torn : (c : List ℕ) → Torn 10 (image_size frames) bytes c → Reads c frames
  front_torn c torn =
      let split = torn_over 10 (image_size frames) (head version 43) over (stays ++ behind) c refl (omega (arith, over_long, length-image frames)) (subst (λ (f : List ℕ). Torn 10 (image_size frames) f c) whole torn) in
      with_between (split.0 ++ stays) c (between_long split.0 (omega (arith, split.1, length-image frames)))
      (split.2 ∙ append_assoc (head version 43) split.0 (stays ++ behind) ∙ ap (λ (l : List ℕ). head version 43 ++ l) (sym (append_assoc split.0 stays behind)))

  -- what it leaves
  abbrev pub free : List ℕ
  free = stays ++ behind

  pub front_written : written 10 (image_of frames) bytes ≡ head version 43 ++ (image_of frames ++ free)
  front_written =
      ap (λ (f : List ℕ). written 10 (image_of frames) f) whole
      ∙ written_over 10 (head version 43) over (image_of frames) free refl (sym over_long)
      ∙ append_assoc (head version 43) (image_of frames) free

  -- the frames in front are read, whatever follows them
  minus_reads : (x : ℕ) → x ≢ 43 → (tail c : List ℕ) → c ≡ head version x ++ (image_of frames ++ tail) → Reads c frames
  minus_reads x off tail c is = plain_reads log.2.version x 45 log.2.newer off (omega arith) frames log.3.each tail c (is ∙ ap (λ (l : List ℕ). head log.2.version x ++ l) (append_assoc (spelled frames) (45 ∷ []) tail))

  -- the selector is torn back
  back_byte : (x : ℕ) → Reads (head version x ++ (image_of frames ++ free)) frames
  back_byte x = by (cases_eq x 43)
    where
      by : (x ≡ 43) ⊎ (x ≢ 43) → Reads (head version x ++ (image_of frames ++ free)) frames
      by (inl plus) = with_between (image_of frames ++ stays) _ (between_long (image_of frames) refl)
          (ap (λ (s : ℕ). head version s ++ (image_of frames ++ free)) plus ∙ ap (λ (l : List ℕ). head version 43 ++ l) (sym (append_assoc (image_of frames) stays behind)))
      by (inr other) = minus_reads x other free _ refl

  pub back_torn : (c : List ℕ) → Torn 9 1 (head version 43 ++ (image_of frames ++ free)) c → Reads c frames
  back_torn c torn = one_byte (λ (f : List ℕ). Reads f frames) (magic ++ version ∷ []) 43 (image_of frames ++ free) c 9 refl torn back_byte

  pub back_written : written 9 (45 ∷ []) (head version 43 ++ (image_of frames ++ free)) ≡ head version 45 ++ (image_of frames ++ free)
  back_written = written_over 9 (magic ++ version ∷ []) (43 ∷ []) (45 ∷ []) (image_of frames ++ free) refl refl

  front_size : 10 + image_size frames ≡ length (head version 45 ++ image_of frames)
  front_size = omega (arith, length-append (head version 45) (image_of frames), length-image frames)

  -- what is after the image is cut
  pub cut_torn : (c : List ℕ) → CutOrWhole (10 + image_size frames) (head version 45 ++ (image_of frames ++ free)) c → Reads c frames
  cut_torn c cut =
      let end = cut_end (10 + image_size frames) (head version 45 ++ image_of frames) free c front_size (subst (λ (f : List ℕ). CutOrWhole (10 + image_size frames) f c) (sym (append_assoc (head version 45) (image_of frames) free)) cut) in
      minus_reads 45 (omega arith) end.0 c (end.1 ∙ append_assoc (head version 45) (image_of frames) end.0)

  pub cut_written : take (10 + image_size frames) (head version 45 ++ (image_of frames ++ free)) ≡ head version 45 ++ image_of frames
  cut_written =
      ap (λ (f : List ℕ). take (10 + image_size frames) f) (sym (append_assoc (head version 45) (image_of frames) free))
      ∙ take_at (head version 45 ++ image_of frames) free (10 + image_size frames) (sym front_size)

  -- the version that stands there
  pub version_here : (other : ℕ) (rest : List ℕ) → bytes ≡ head other 43 ++ rest → version ≡ other
  version_here other rest is = let same : head version 43 ++ (gap ++ behind) ≡ head other 43 ++ rest = sym parts ∙ is in cc

-- what a move leaves of the front of a log: its first nine bytes
pub front_kept : (version selector : ℕ) (rest bytes image new : List ℕ) → bytes ≡ head version selector ++ rest → new ≡ head version 45 ++ image → new ≡ take 9 bytes ++ 45 ∷ image
front_kept version selector rest bytes image new parts is = is ∙ ap (λ (l : List ℕ). take 9 l ++ 45 ∷ image) (sym parts)

-- a log that was written so is whole
pub written_whole : (version : ℕ) → version ≢ 1 → (frames : List (List ℕ)) → All IsFrame frames → (bytes : List ℕ) (at : ℕ) → at ≡ 9 + image_size frames → bytes ≡ head version 45 ++ image_of frames → IsWhole bytes at frames
written_whole version newer frames each bytes at place is = record {
  version = version;
  selector = 45;
  gate = 45;
  newer = newer;
  off = omega arith;
  shut = omega arith;
  spelling = is ∙ sym (append_assoc (head version 45) (spelled frames) (45 ∷ []));
  place = omega (arith, place, length-image frames, length-append (head version 45) (spelled frames), length-append (spelled frames) (45 ∷ []));
  each = each;
}

-- the steps that end a move, one after the other
module _ {D : Type 0} (moment : D → ℕ) (left_since : D → ℕ → List ℕ → Type 0) (seen : D → List ℕ) (start front back end : D) (frames : List (List ℕ)) (log : IsMovedLog (seen start) frames) where
  abbrev P : List ℕ → Type 0
  P c = Reads c frames

  pub fronted : seen front ≡ written 10 (image_of frames) (seen start) → seen front ≡ head (version (seen start) frames log) 43 ++ (image_of frames ++ free (seen start) frames log)
  fronted is = is ∙ front_written (seen start) frames log

  pub backed : seen front ≡ written 10 (image_of frames) (seen start) → seen back ≡ written 9 (45 ∷ []) (seen front) → seen back ≡ head (version (seen start) frames log) 45 ++ (image_of frames ++ free (seen start) frames log)
  backed first second = second ∙ ap (λ (f : List ℕ). written 9 (45 ∷ []) f) (fronted first) ∙ back_written (seen start) frames log

  pub backed_long : seen front ≡ written 10 (image_of frames) (seen start) → seen back ≡ written 9 (45 ∷ []) (seen front) → image_size frames + 10 ≤ length (seen back)
  backed_long first second =
      omega (arith, ap length (backed first second), length-append (image_of frames) (free (seen start) frames log), length-image frames)

  pub moved_long : 10 ≤ length (seen start)
  moved_long = omega (arith, ap length log.2.parts, ap length log.2.is, length-append (log.0 ++ log.1) log.2.place, length-append log.0 log.1, length-append (head log.2.version 43) log.2.between)

  pub fronted_long : seen front ≡ written 10 (image_of frames) (seen start) → 9 ≤ length (seen front)
  fronted_long first = omega (arith, ap length (fronted first))

  pub ended : (n : ℕ) → n ≡ image_size frames + 10 → seen front ≡ written 10 (image_of frames) (seen start) → seen back ≡ written 9 (45 ∷ []) (seen front) → seen end ≡ take n (seen back)
      → (other : ℕ) (rest : List ℕ) → seen start ≡ head other 43 ++ rest → seen end ≡ head other 45 ++ image_of frames
  ended n size first second third other rest is =
      third
      ∙ ap (λ (f : List ℕ). take n f) (backed first second)
      ∙ ap (λ (m : ℕ). take m (head (version (seen start) frames log) 45 ++ (image_of frames ++ free (seen start) frames log))) (omega (arith, size))
      ∙ cut_written (seen start) frames log
      ∙ ap (λ (v : ℕ). head v 45 ++ image_of frames) (version_here (seen start) frames log other rest is)

  pub leaves_front : LeavesOnly moment left_since start front (λ c. Torn 10 (image_size frames) (seen start) c) → LeavesOnly moment left_since start front P
  leaves_front run = weaker moment left_since start front (λ c. Torn 10 (image_size frames) (seen start) c) P (front_torn (seen start) frames log) run

  pub leaves_back : seen front ≡ written 10 (image_of frames) (seen start) → LeavesOnly moment left_since start front (λ c. Torn 10 (image_size frames) (seen start) c)
      → LeavesOnly moment left_since front back (λ c. Torn 9 1 (seen front) c) → LeavesOnly moment left_since start back P
  leaves_back is first second =
      joined moment left_since start front back P (leaves_front first)
      (weaker moment left_since front back (λ c. Torn 9 1 (seen front) c) P (λ c torn. back_torn (seen start) frames log c (subst (λ (f : List ℕ). Torn 9 1 f c) (fronted is) torn)) second)

  pub leaves_end : (n : ℕ) → n ≡ image_size frames + 10 → seen front ≡ written 10 (image_of frames) (seen start) → seen back ≡ written 9 (45 ∷ []) (seen front) → LeavesOnly moment left_since start front (λ c. Torn 10 (image_size frames) (seen start) c)
      → LeavesOnly moment left_since front back (λ c. Torn 9 1 (seen front) c) → LeavesOnly moment left_since back end (CutOrWhole n (seen back)) → LeavesOnly moment left_since start end P
  leaves_end n size is so first second third =
      joined moment left_since start back end P (leaves_back is first second)
      (weaker moment left_since back end (CutOrWhole n (seen back)) P
      (λ c cut. cut_torn (seen start) frames log c (subst (λ (f : List ℕ). CutOrWhole (10 + image_size frames) f c) (backed is so) (subst (λ (m : ℕ). CutOrWhole m (seen back) c) (omega (arith, size)) cut))) third)

-- what is staged after a log of version 2
module _ (bytes : List ℕ) (gate : ℕ) (old : List (List ℕ)) (whole : IsWhole bytes gate old) (new : List (List ℕ)) (news : All IsFrame new) (place : ℕ) (fits : place < 2 ^ 64) (room : image_size new + 10 ≤ place) (now : List ℕ) (staged : IsStaged bytes new place now) where
  abbrev fill : List ℕ
  fill = staged.0

  staged_is : now ≡ head whole.version whole.selector ++ ((spelled old ++ whole.gate ∷ fill) ++ placed new place)
  staged_is =
      staged.2
      ∙ ap (λ (l : List ℕ). l ++ (staged.0 ++ placed new place)) whole.spelling
      ∙ append_assoc (head whole.version whole.selector ++ spelled old) (whole.gate ∷ []) (staged.0 ++ placed new place)
      ∙ append_assoc (head whole.version whole.selector) (spelled old) (whole.gate ∷ (staged.0 ++ placed new place))
      ∙ ap (λ (l : List ℕ). head whole.version whole.selector ++ l) (sym (append_assoc (spelled old) (whole.gate ∷ staged.0) (placed new place)))

  at : place ≡ 10 + length (spelled old ++ whole.gate ∷ fill)
  at = omega (arith, staged.1, ap length whole.spelling, length-append (head whole.version whole.selector ++ spelled old) (whole.gate ∷ []), length-append (head whole.version whole.selector) (spelled old), length-append (spelled old) (whole.gate ∷ staged.0))

  has_room : length (image_of new) ≤ length (spelled old ++ whole.gate ∷ fill)
  has_room = omega (arith, room, at, length-image new)

  pub staged_torn : (c : List ℕ) → Torn 9 1 now c → OldOrNew old new c
  staged_torn c torn =
      switch_torn whole.version whole.selector whole.newer whole.off old whole.each whole.gate whole.shut fill new news place at fits has_room c (subst (λ (f : List ℕ). Torn 9 1 f c) staged_is torn)

  staged_next : (next : List ℕ) → next ≡ written 9 (43 ∷ []) now → next ≡ head whole.version 43 ++ ((spelled old ++ whole.gate ∷ fill) ++ placed new place)
  staged_next next is =
      is ∙ ap (λ (f : List ℕ). written 9 (43 ∷ []) f) staged_is ∙ switched whole.version whole.selector whole.newer whole.off old whole.each whole.gate whole.shut fill new news place at fits has_room

  pub staged_switched : (next : List ℕ) → next ≡ written 9 (43 ∷ []) now → (rest : List ℕ) × (next ≡ head whole.version 43 ++ rest)
  staged_switched next is = ((spelled old ++ whole.gate ∷ fill) ++ placed new place, staged_next next is)

  pub staged_log : (next : List ℕ) → next ≡ written 9 (43 ∷ []) now → IsMovedLog next new
  staged_log next is =
      subst (λ (f : List ℕ). IsMovedLog f new) (sym (staged_next next is)) (switched_log whole.version whole.selector whole.newer whole.off old whole.each whole.gate whole.shut fill new news place at fits has_room)

  pub staged_long : 9 ≤ length now
  staged_long = omega (arith, ap length staged_is)

starts_open : (frames : List (List ℕ)) → 1 ≤ length frames → (tail : List ℕ) → (rest : List ℕ) × (spelled frames ++ tail ≡ 43 ∷ rest)
starts_open [] some tail = absurd (omega arith)
starts_open (f ∷ frames) some tail = (laid f ++ spelled frames ++ tail, refl)

-- what is staged after a log of version 1 with frames
module _ (bytes : List ℕ) (gate : ℕ) (frames : List (List ℕ)) (whole : IsWholeFirst bytes gate frames) (some : 1 ≤ length frames) (place : ℕ) (fits : place < 2 ^ 64) (behind : place ≡ gate + 2) (now : List ℕ) (staged : IsStaged bytes frames place now) where
  abbrev first_rest : List ℕ
  first_rest = (starts_open frames some (whole.runs.gate ∷ staged.0)).0

  starts : spelled frames ++ whole.runs.gate ∷ staged.0 ≡ 43 ∷ first_rest
  starts = (starts_open frames some (whole.runs.gate ∷ staged.0)).1

  first_is : now ≡ magic ++ 1 ∷ 43 ∷ (first_rest ++ placed frames place)
  first_is =
      staged.2
      ∙ ap (λ (l : List ℕ). l ++ (staged.0 ++ placed frames place)) (whole.first.parts ∙ (λ i. whole.first.is i ++ whole.runs.spelling i))
      ∙ ap (λ (l : List ℕ). magic ++ 1 ∷ l) (append_assoc (spelled frames) (whole.runs.gate ∷ []) (staged.0 ++ placed frames place) ∙ sym (append_assoc (spelled frames) (whole.runs.gate ∷ staged.0) (placed frames place)))
      ∙ ap (λ (l : List ℕ). magic ++ 1 ∷ (l ++ placed frames place)) starts

  first_at : place ≡ 10 + length first_rest
  first_at =
      omega (arith, ap length starts, staged.1, length-append (spelled frames) (whole.runs.gate ∷ staged.0), ap length whole.first.parts, length-append whole.front whole.body, ap length whole.first.is, ap length whole.runs.spelling, length-append (spelled frames) (whole.runs.gate ∷ []), whole.place, behind)

  first_room : length (image_of frames) ≤ length first_rest
  first_room =
      omega (arith, ap length starts, staged.1, length-append (spelled frames) (whole.runs.gate ∷ staged.0), length-append (spelled frames) (45 ∷ []), whole.place, behind)

  pub first_torn : (c : List ℕ) → Torn 8 1 now c → Reads c frames
  first_torn c torn =
      elim (version_torn first_rest frames whole.runs.each whole.runs.gate whole.runs.shut staged.0 starts frames whole.runs.each place first_at fits first_room c (subst (λ (f : List ℕ). Torn 8 1 f c) first_is torn)) [
        | inl reads ↦ reads
        | inr reads ↦ reads
      ]

  first_next : (next : List ℕ) → next ≡ written 8 (2 ∷ []) now → next ≡ head 2 43 ++ (first_rest ++ placed frames place)
  first_next next is =
      is ∙ ap (λ (f : List ℕ). written 8 (2 ∷ []) f) first_is ∙ version_written first_rest frames whole.runs.each whole.runs.gate whole.runs.shut staged.0 starts frames whole.runs.each place first_at fits first_room

  pub first_switched : (next : List ℕ) → next ≡ written 8 (2 ∷ []) now → (rest : List ℕ) × (next ≡ head 2 43 ++ rest)
  first_switched next is = (first_rest ++ placed frames place, first_next next is)

  pub first_log : (next : List ℕ) → next ≡ written 8 (2 ∷ []) now → IsMovedLog next frames
  first_log next is =
      subst (λ (f : List ℕ). IsMovedLog f frames) (sym (first_next next is)) (version_log first_rest frames whole.runs.each whole.runs.gate whole.runs.shut staged.0 starts frames whole.runs.each place first_at fits first_room)

  pub first_long : 8 ≤ length now
  first_long = omega (arith, ap length first_is)

-- a whole log of version 1 with anything after it
pub first_behind : (bytes : List ℕ) (gate : ℕ) (frames : List (List ℕ)) (whole : IsWholeFirst bytes gate frames) (more c : List ℕ) → c ≡ bytes ++ more → Reads c frames
first_behind bytes gate frames whole more c is =
    first_reads whole.runs.gate whole.runs.shut frames whole.runs.each more c
    (is ∙ ap (λ (l : List ℕ). l ++ more) (whole.first.parts ∙ (λ i. whole.first.is i ++ whole.runs.spelling i)) ∙ ap (λ (l : List ℕ). magic ++ 1 ∷ l) (append_assoc (spelled frames) (whole.runs.gate ∷ []) more))

-- what a stop leaves of a replacing
module _ {D : Type 0} (moment : D → ℕ) (left_since : D → ℕ → List ℕ → Type 0) (seen : D → List ℕ) (start staged switched_to : D) (gate : ℕ) (old : List (List ℕ)) (whole : IsWhole (seen start) gate old) (new : List (List ℕ)) where
  -- while the image is written after the log
  pub replace_behind : (n : ℕ) → LeavesOnly moment left_since start staged (λ c. Torn (gate + 1) n (seen start) c) → LeavesOnly moment left_since start staged (OldOrNew old new)
  replace_behind n run = weaker moment left_since start staged (λ c. Torn (gate + 1) n (seen start) c) (OldOrNew old new) (λ c torn. inl (torn_behind gate old (seen start) whole n c torn)) run

  -- while the selector is switched
  pub replace_switch : (n : ℕ) → LeavesOnly moment left_since start staged (λ c. Torn (gate + 1) n (seen start) c) → ((c : List ℕ) → Torn 9 1 (seen staged) c → OldOrNew old new c)
      → LeavesOnly moment left_since staged switched_to (λ c. Torn 9 1 (seen staged) c) → LeavesOnly moment left_since start switched_to (OldOrNew old new)
  replace_switch n run so second =
      joined moment left_since start staged switched_to (OldOrNew old new) (replace_behind n run)
      (weaker moment left_since staged switched_to (λ c. Torn 9 1 (seen staged) c) (OldOrNew old new) so second)

-- what it leaves of a move from version 1
module _ {D : Type 0} (moment : D → ℕ) (left_since : D → ℕ → List ℕ → Type 0) (seen : D → List ℕ) (start staged switched_to : D) (gate : ℕ) (frames : List (List ℕ)) (whole : IsWholeFirst (seen start) gate frames) where
  abbrev Same : List ℕ → Type 0
  Same c = Reads c frames

  pub up_behind : (n : ℕ) → LeavesOnly moment left_since start staged (λ c. Torn (gate + 1) n (seen start) c) → LeavesOnly moment left_since start staged Same
  up_behind n run =
      weaker moment left_since start staged (λ c. Torn (gate + 1) n (seen start) c) Same
      (λ c torn. let split = torn_end (gate + 1) n (seen start) c whole.place torn in first_behind (seen start) gate frames whole split.0 c split.1) run

  pub up_switch : (n : ℕ) → LeavesOnly moment left_since start staged (λ c. Torn (gate + 1) n (seen start) c) → ((c : List ℕ) → Torn 8 1 (seen staged) c → Reads c frames)
      → LeavesOnly moment left_since staged switched_to (λ c. Torn 8 1 (seen staged) c) → LeavesOnly moment left_since start switched_to Same
  up_switch n run so second =
      joined moment left_since start staged switched_to Same (up_behind n run)
      (weaker moment left_since staged switched_to (λ c. Torn 8 1 (seen staged) c) Same so second)
