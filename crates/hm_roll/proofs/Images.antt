-- Parts and the frames that spell them.
use Rattle.std.proofs.Common.{◌≡◌, ◌⊎◌, ℕ, zero, suc, ◌+◌, ◌<◌, ◌≤◌, List, [], ◌∷◌, ◌++◌, length, take, get_or, slice_get, Some, Result, Ok, Err, All, refl, inl, inr, arith, sym, ap, ◌∙◌, subst, length-append}
use Rattle.std.proofs.lemmas.List.{take_more, map-append}
use Rattle.std.proofs.lemmas.List.Elements.{All-head, All-push, All-tail}
use Rattle.std.proofs.lemmas.Option.{none-some, same_Some, slice_get_within, get_or_from_slice_get}
use Rattle.hm_log.specs.Format.{IsFrame}
use Rattle.hm_data.specs.declared.entry.Entry.{Entry}
use Rattle.hm_data.specs.declared.entry.Entry.TheVariants as entry_is
use Rattle.hm_data.specs.declared.part.Part.{Part}
use Rattle.hm_entry.specs.Fits.{PartFits}
use Rattle.hm_entry.specs.Reading.{all_of}
use Rattle.hm_entry.specs.Spelling.{byte, entry as spelling, part as part_spelling}
use Rattle.hm_entry.specs.declared.fault.EntryFault.{EntryFault}
use Rattle.hm_entry.specs.declared.fault.EntryFault.TheVariants as entry_fault_is
use Rattle.hm_entry.proofs.EntryCodec.{all_again, one_entry}
use Rattle.hm_roll.specs.Parts.{frame_of, frames_of, IsFirstWrong, IsNoImage, IsNotRead, IsShort, NoPartAt, Spells, SpellsAt}
use Rattle.hm_roll.specs.declared.why.PartsWhy.{PartsWhy}
use Rattle.hm_roll.specs.declared.why.PartsWhy.TheVariants as why_is

-- the frame of a part isn't empty: its first byte tells what it is
pub frame_some : (part : Part) → 1 ≤ length (frame_of part)
unfolding spelling
frame_some part = omega (arith, length-append (byte 8) (part_spelling part))

-- the frame of a part is a frame of a log
pub is_frame : (part : Part) (bytes : List ℕ) → bytes ≡ frame_of part → IsShort part → IsFrame bytes
is_frame part bytes is short = subst IsFrame (sym is) (record { some = frame_some part; most = short })

-- frames to which one more was added are those of one part more
frames_more : (parts more : List Part) (part : Part) → more ≡ parts ++ part ∷ [] → frames_of more ≡ frames_of parts ++ frame_of part ∷ []
frames_more parts more part is = ap frames_of is ∙ map-append frame_of parts (part ∷ [])

-- one item more
take_item : {A : Type 0} (items : List A) (place : ℕ) (item : A) → place < length items → get_or items place item ≡ item → take (place + 1) items ≡ take place items ++ item ∷ []
take_item items place item within is = take_more items place item within ∙ ap (λ i. take place items ++ i ∷ []) is

-- the frame of the next part
pub next_frame : (parts : List Part) (place : ℕ) (part : Part) (frames more : List (List ℕ)) → place < length parts → part ≡ get_or parts place part → frames ≡ frames_of (take place parts)
    → more ≡ frames ++ frame_of part ∷ [] → more ≡ frames_of (take (place + 1) parts)
next_frame parts place part frames more within is so_far added =
    added ∙ ap (λ fs. fs ++ frame_of part ∷ []) so_far ∙ sym (frames_more (take place parts) (take (place + 1) parts) part (take_item parts place part within (sym is)))

-- the next part fits too
pub next_fits : (parts : List Part) (place : ℕ) (part : Part) → place < length parts → part ≡ get_or parts place part → All PartFits (take place parts) → PartFits part → All PartFits (take (place + 1) parts)
next_fits parts place part within is fit fits =
    subst (All PartFits) (sym (take_item parts place part within (sym is))) (All-push PartFits (take place parts) part fit fits)

-- one frame more spells one part more
pub spells_more : (frames : List (List ℕ)) (number : ℕ) (parts more : List Part) (part : Part) → Spells (take number frames) parts → SpellsAt frames number part → more ≡ parts ++ part ∷ []
    → Spells (take (number + 1) frames) more
spells_more frames number parts more part so_far here is = record {
  are = frames_more parts more part is ∙ ap (λ fs. fs ++ frame_of part ∷ []) so_far.are ∙ sym (take_item frames number (frame_of part) (slice_get_within frames number (frame_of part) here.there) (get_or_from_slice_get frames number (frame_of part) (frame_of part) here.there));
  fit = subst (All PartFits) (sym is) (All-push PartFits parts part so_far.fit here.fits);
}

-- a frame that shows that it spells no part spells none
pub spells_none : (frame : List ℕ) (at : ℕ) → NoPartAt (all_of frame) at → (part : Part) → PartFits part → frame ≡ frame_of part → ⊥
spells_none frame at shown part fits is =
    let P : Result Entry EntryFault → Type 0 = λ r. NoPartAt r at in
    let other : NoPartAt (Ok (entry_is.Base part)) at = subst P (ap all_of is ∙ all_again (entry_is.Base part) fits) shown in
    other.0 part refl

-- the first frame from which no part was read, after those that spell some
pub first_wrong : (frames : List (List ℕ)) (number : ℕ) (parts : List Part) (why : PartsWhy) → Spells (take number frames) parts → IsNotRead frames number why → IsNoImage frames why
first_wrong frames number parts (why_is.Entry wrong at) before none =
    let P : ℕ → Type 0 = λ n. Spells (take n frames) parts in
    let Q : ℕ → Type 0 = λ n. slice_get frames n ≡ Some none.1.0 in
    record {
      parts = parts;
      before = subst P (sym none.0) before;
      frame = none.1.0;
      there = subst Q (sym none.0) none.1.1;
      none = spells_none none.1.0 at none.1.2;
      shown = none.1.2;
    }
first_wrong frames number parts why_is.Memory before none = tt

-- parts with the same frames are the same
same_parts : (parts others : List Part) → All PartFits parts → All PartFits others → frames_of parts ≡ frames_of others → parts ≡ others
same_parts [] [] fit fit_too same = refl
same_parts [] (other ∷ others) fit fit_too same = absurd cc
same_parts (part ∷ parts) [] fit fit_too same = absurd cc
same_parts (part ∷ parts) (other ∷ others) fit fit_too same =
    let first : frame_of part ≡ frame_of other = cc in
    let rest : frames_of parts ≡ frames_of others = cc in
    let is : entry_is.Base part ≡ entry_is.Base other =
    one_entry (entry_is.Base part) (entry_is.Base other) (All-head PartFits part parts fit) (All-head PartFits other others fit_too) first in
    let one : part ≡ other = cc in
    let more : parts ≡ others = same_parts parts others (All-tail PartFits part parts fit) (All-tail PartFits other others fit_too) rest in
    cc

-- frames spell at most one list of parts
pub one_list : (frames : List (List ℕ)) (parts others : List Part) → Spells frames parts → Spells frames others → parts ≡ others
one_list frames parts others spells spell_too = same_parts parts others spells.fit spell_too.fit (spells.are ∙ sym spell_too.are)

-- each frame of parts spells one
some_part : (parts : List Part) (number : ℕ) (frame : List ℕ) → All PartFits parts → slice_get (frames_of parts) number ≡ Some frame → (part : Part) × PartFits part × (frame ≡ frame_of part)
some_part [] number frame fit here = absurd (none-some frame here)
some_part (part ∷ parts) zero frame fit here = (part, All-head PartFits part parts fit, sym (same_Some (frame_of part) frame here))
some_part (part ∷ parts) (suc number) frame fit here = some_part parts number frame (All-tail PartFits part parts fit) here

-- where one frame is the first that spells no part, the frames spell no parts
pub not_all : (frames : List (List ℕ)) (number at : ℕ) (parts : List Part) → IsFirstWrong frames number at → Spells frames parts → ⊥
not_all frames number at parts wrong spells =
    let some = some_part parts number wrong.frame spells.fit (ap (λ fs. slice_get fs number) spells.are ∙ wrong.there) in
    wrong.none some.0 some.1 some.2

-- where frames spell parts, only memory that runs out keeps them from being read
pub only_memory : (frames : List (List ℕ)) (parts : List Part) (why : PartsWhy) → Spells frames parts → IsNoImage frames why → why ≡ why_is.Memory
only_memory frames parts (why_is.Entry number at) spells wrong = absurd (not_all frames number at parts wrong spells)
only_memory frames parts why_is.Memory spells wrong = refl

-- what stands before a place stands in the front up to it
slice_get_take : {A : Type 0} (xs : List A) (n i : ℕ) → i < n → slice_get (take n xs) i ≡ slice_get xs i
slice_get_take xs zero i before = absurd (omega arith)
slice_get_take [] (suc n) i before = refl
slice_get_take (x ∷ xs) (suc n) zero before = refl
slice_get_take (x ∷ xs) (suc n) (suc i) before = slice_get_take xs n i (omega arith)

-- a place before which each frame spells a part is no place after the first that spells none
not_after : (frames : List (List ℕ)) (number at other at_other : ℕ) → IsFirstWrong frames number at → IsFirstWrong frames other at_other → number < other → ⊥
not_after frames number at other at_other wrong next before =
    let here : slice_get (take other frames) number ≡ Some wrong.frame = slice_get_take frames other number before ∙ wrong.there in
    let some = some_part next.parts number wrong.frame next.before.fit (ap (λ fs. slice_get fs number) next.before.are ∙ here) in
    wrong.none some.0 some.1 some.2

-- a frame shows at one byte that it spells no part
one_byte : (read : Result Entry EntryFault) (at other : ℕ) → NoPartAt read at → NoPartAt read other → at ≡ other
one_byte (Ok entry) at other shown too = shown.1 ∙ sym too.1
one_byte (Err (entry_fault_is.Short place)) at other shown too = sym shown ∙ too
one_byte (Err (entry_fault_is.Field place)) at other shown too = sym shown ∙ too
one_byte (Err (entry_fault_is.Rest place)) at other shown too = sym shown ∙ too
one_byte (Err entry_fault_is.Memory) at other shown too = absurd shown

-- one frame alone is the first that spells no part
one_wrong : (frames : List (List ℕ)) (number at other at_other : ℕ) → IsFirstWrong frames number at → IsFirstWrong frames other at_other → (number ≡ other) × (at ≡ at_other)
one_wrong frames number at other at_other wrong too =
    let not_less : number < other → ⊥ = not_after frames number at other at_other wrong too in
    let not_more : other < number → ⊥ = not_after frames other at_other number at too wrong in
    let same : number ≡ other = omega arith in
    let one : wrong.frame ≡ too.frame = same_Some wrong.frame too.frame (sym wrong.there ∙ ap (slice_get frames) same ∙ too.there) in
    let P : List ℕ → Type 0 = λ f. NoPartAt (all_of f) at in
    (same, one_byte (all_of too.frame) at at_other (subst P one wrong.shown) too.shown)

-- what is told where a frame is the first that spells no part
pub told_wrong : (frames : List (List ℕ)) (number at : ℕ) (why : PartsWhy) → IsFirstWrong frames number at → IsNoImage frames why → (why ≡ why_is.Entry number at) ⊎ (why ≡ why_is.Memory)
told_wrong frames number at (why_is.Entry other at_other) wrong told =
    let same = one_wrong frames number at other at_other wrong told in
    inl (ap (λ n. why_is.Entry n at_other) (sym same.0) ∙ ap (λ a. why_is.Entry number a) (sym same.1))
told_wrong frames number at why_is.Memory wrong told = inr refl
