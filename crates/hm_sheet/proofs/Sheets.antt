-- Sheets by kind, among those of several handlers.
use Rattle.std.proofs.Common.{◌≡◌, ℕ, zero, suc, ◌+◌, ◌<◌, List, [], ◌∷◌, ◌++◌, length, drop, map, get_or, slice_get, Option, Some, None, IsSome, IfSome, is_some, min, subst, ◌≤◌, Bool, true, false, refl, ap, ◌∙◌, sym, arith, if◌then◌else◌}
use Rattle.std.specs.Bool.{◌==◌}
use Rattle.std.proofs.lemmas.Option.{slice_get-get_or}
use Rattle.std.proofs.lemmas.List.{at_drop_all}
use Rattle.std.specs.List.{flat_map}
use Rattle.hm_data.specs.declared.sheet.Sheet.{Sheet}
use Rattle.hm_model.specs.Sheets.{sheet_for}
use Rattle.hm_sheet.specs.Words.{count_of, place_for}

pub count_append : (sheets more : List Sheet) (kind : ℕ) → count_of (sheets ++ more) kind ≡ count_of sheets kind + count_of more kind
count_append [] more kind = omega arith
count_append (sheet ∷ sheets) more kind = grind (arith, count_append sheets more kind)

-- the first that has it is in front
front_of : (own : Bool) (sheet : Sheet) (rest all : Option Sheet) → (IsSome rest → all ≡ rest) → IsSome (if own then Some sheet else rest) → (if own then Some sheet else all) ≡ (if own then Some sheet else rest)
front_of true sheet rest all same some = refl
front_of false sheet rest all same some = same some

pub in_front : (sheets more : List Sheet) (kind : ℕ) → IsSome (sheet_for sheets kind) → sheet_for (sheets ++ more) kind ≡ sheet_for sheets kind
in_front [] more kind some = absurd (cc)
in_front (sheet ∷ sheets) more kind some =
    front_of (sheet.kind == kind) sheet (sheet_for sheets kind) (sheet_for (sheets ++ more) kind) (in_front sheets more kind) some

behind_of : (own : Bool) (sheet : Sheet) (rest all more : Option Sheet) → (rest ≡ None → all ≡ more) → (if own then Some sheet else rest) ≡ None → (if own then Some sheet else all) ≡ more
behind_of true sheet rest all more same none = absurd (cc)
behind_of false sheet rest all more same none = same none

pub in_rest : (sheets more : List Sheet) (kind : ℕ) → sheet_for sheets kind ≡ None → sheet_for (sheets ++ more) kind ≡ sheet_for more kind
in_rest [] more kind none = refl
in_rest (sheet ∷ sheets) more kind none =
    behind_of (sheet.kind == kind) sheet (sheet_for sheets kind) (sheet_for (sheets ++ more) kind) (sheet_for more kind) (in_rest sheets more kind) none

-- the sheets of some things, from a place on
pub from_place : {H : Type 0} (f : H → List Sheet) (hs : List H) (i : ℕ) (h : H) → i < length hs → h ≡ get_or hs i h → flat_map f (drop i hs) ≡ f h ++ flat_map f (drop (i + 1) hs)
from_place f [] i h lt is = absurd (omega arith)
from_place f (first ∷ hs) zero h lt is = ap (λ x. f x ++ flat_map f hs) (sym is)
from_place f (first ∷ hs) (suc i) h lt is =
    let same : suc i + 1 ≡ suc (i + 1) = omega arith in rw same (from_place f hs i h (omega arith) is)

-- a thing whose sheets have the kind is where the first of all is
pub served : {H : Type 0} (f : H → List Sheet) (hs : List H) (i : ℕ) (h : H) (kind : ℕ) → i < length hs → h ≡ get_or hs i h → IsSome (sheet_for (f h) kind) → sheet_for (flat_map f (drop i hs)) kind ≡ sheet_for (f h) kind
served f hs i h kind lt is some = ap (λ (s : List Sheet). sheet_for s kind) (from_place f hs i h lt is) ∙ in_front (f h) (flat_map f (drop (i + 1) hs)) kind some

-- a thing whose sheets don't have it is passed over
pub passed : {H : Type 0} (f : H → List Sheet) (hs : List H) (i : ℕ) (h : H) (kind : ℕ) → i < length hs → h ≡ get_or hs i h → sheet_for (f h) kind ≡ None → sheet_for (flat_map f (drop i hs)) kind ≡ sheet_for (flat_map f (drop (i + 1) hs)) kind
passed f hs i h kind lt is none = ap (λ (s : List Sheet). sheet_for s kind) (from_place f hs i h lt is) ∙ in_rest (f h) (flat_map f (drop (i + 1) hs)) kind none

-- counts add up
pub counted : {H : Type 0} (f : H → List Sheet) (hs : List H) (i : ℕ) (h : H) (kind : ℕ) → i < length hs → h ≡ get_or hs i h → count_of (flat_map f (drop i hs)) kind ≡ count_of (f h) kind + count_of (flat_map f (drop (i + 1) hs)) kind
counted f hs i h kind lt is = ap (λ (s : List Sheet). count_of s kind) (from_place f hs i h lt is) ∙ count_append (f h) (flat_map f (drop (i + 1) hs)) kind

pub served_clause : {H : Type 0} (f : H → List Sheet) (hs : List H) (i : ℕ) (h : H) (kind : ℕ) → i < length hs → h ≡ get_or hs i h → IsSome (sheet_for (f h) kind) → sheet_for (flat_map f (drop i hs)) kind ≡ sheet_for (flat_map f hs) kind → IfSome (slice_get hs i) (λ x. sheet_for (f x) kind ≡ sheet_for (flat_map f hs) kind)
served_clause f hs i h kind lt is some same =
    rw (slice_get-get_or hs i h lt, ← is) (sym (served f hs i h kind lt is some) ∙ same)

pub there_clause : {H : Type 0} (f : H → List Sheet) (hs : List H) (i : ℕ) (h : H) (kind : ℕ) → i < length hs → h ≡ get_or hs i h → IsSome (sheet_for (f h) kind) → sheet_for (flat_map f (drop i hs)) kind ≡ sheet_for (flat_map f hs) kind → IsSome (sheet_for (flat_map f hs) kind)
there_clause f hs i h kind lt is some same = subst (λ (x : Option Sheet). IsSome x) (sym (served f hs i h kind lt is some) ∙ same) some

is_none_of : (x : Option Sheet) → is_some x ≡ false → x ≡ None
is_none_of None none = refl
is_none_of (Some sheet) none = absurd (cc)

pub passed_clause : {H : Type 0} (f : H → List Sheet) (hs : List H) (i : ℕ) (h : H) (kind : ℕ) → i < length hs → h ≡ get_or hs i h → is_some (sheet_for (f h) kind) ≡ false → sheet_for (flat_map f (drop i hs)) kind ≡ sheet_for (flat_map f hs) kind → sheet_for (flat_map f (drop (i + 1) hs)) kind ≡ sheet_for (flat_map f hs) kind
passed_clause f hs i h kind lt is none same = sym (passed f hs i h kind lt is (is_none_of (sheet_for (f h) kind) none)) ∙ same

pub counted_clause : {H : Type 0} (f : H → List Sheet) (hs : List H) (i : ℕ) (h : H) (kind count now most : ℕ) → i < length hs → h ≡ get_or hs i h → now ≡ min (count + count_of (f h) kind) most → min (count + count_of (flat_map f (drop i hs)) kind) most ≡ min (count_of (flat_map f hs) kind) most → min (now + count_of (flat_map f (drop (i + 1) hs)) kind) most ≡ min (count_of (flat_map f hs) kind) most
counted_clause f hs i h kind count now most lt is more same =
    let step : count_of (flat_map f (drop i hs)) kind ≡ count_of (f h) kind + count_of (flat_map f (drop (i + 1) hs)) kind = counted f hs i h kind lt is in
    omega arith

pub all_counted : {H : Type 0} (f : H → List Sheet) (hs : List H) (i kind count most : ℕ) → length hs ≤ i → count ≤ most → min (count + count_of (flat_map f (drop i hs)) kind) most ≡ min (count_of (flat_map f hs) kind) most → count ≡ min (count_of (flat_map f hs) kind) most
all_counted f hs i kind count most all fits same =
    let none : count_of (flat_map f (drop i hs)) kind ≡ 0 = at_drop_all (λ xs. count_of (flat_map f xs) kind) hs i all in
    omega arith

-- what some things have, from a place on
from_map : {H Y : Type 0} (f : H → Y) (hs : List H) (i : ℕ) (h : H) → i < length hs → h ≡ get_or hs i h → map f (drop i hs) ≡ f h ∷ map f (drop (i + 1) hs)
from_map f [] i h lt is = absurd (omega (arith, lt))
from_map f (first ∷ hs) zero h lt is = ap (λ x. f x ∷ map f hs) (sym is)
from_map f (first ∷ hs) (suc i) h lt is =
    let same : suc i + 1 ≡ suc (i + 1) = omega arith in
    rw same (from_map f hs i h (omega (arith, lt)) is)

place_from : {H : Type 0} (f : H → List Sheet) (hs : List H) (i : ℕ) (h : H) (kind : ℕ) (own : Bool) → i < length hs → h ≡ get_or hs i h → is_some (sheet_for (f h) kind) ≡ own → place_for kind (map f (drop i hs)) ≡ (if own then 0 else place_for kind (map f (drop (i + 1) hs)) + 1)
place_from f hs i h kind own lt is has =
    ap (place_for kind) (from_map f hs i h lt is)
    ∙ ap (λ b. if b then 0 else place_for kind (map f (drop (i + 1) hs)) + 1) has

pub first_clause : {H : Type 0} (f : H → List Sheet) (hs : List H) (i : ℕ) (h : H) (kind : ℕ) → i < length hs → h ≡ get_or hs i h → is_some (sheet_for (f h) kind) ≡ true → place_for kind (map f hs) ≡ i + place_for kind (map f (drop i hs)) → i ≡ place_for kind (map f hs)
first_clause f hs i h kind lt is has passed_so_far = let here = place_from f hs i h kind true lt is has in omega (arith, here, passed_so_far)

pub behind_clause : {H : Type 0} (f : H → List Sheet) (hs : List H) (i : ℕ) (h : H) (kind : ℕ) → i < length hs → h ≡ get_or hs i h → is_some (sheet_for (f h) kind) ≡ false → place_for kind (map f hs) ≡ i + place_for kind (map f (drop i hs)) → place_for kind (map f hs) ≡ (i + 1) + place_for kind (map f (drop (i + 1) hs))
behind_clause f hs i h kind lt is has passed_so_far = let here = place_from f hs i h kind false lt is has in omega (arith, here, passed_so_far)
