-- Drafts, one after another, and for how much they ask.
use Rattle.std.proofs.Common.{◌≡◌, ◌≢◌, ℕ, zero, suc, ◌+◌, ◌-◌, ◌<◌, ◌≤◌, ◌++◌, [], ◌∷◌, List, length, map, if◌then◌else◌, cond, nat_lt, eqb, Option, Some, None, slice_get, refl, ap, sym, ◌∙◌, inl, inr, arith, length-append}
use Rattle.std.specs.List.{flat_map}
use Rattle.std.specs.Iterator.{Yields}
use Rattle.std.specs.Option.{option_map}
use Rattle.std.proofs.lemmas.Bool.{cases_eq, cases_lt, cond-false, cond-true, eq-eqb, le-ltb, lt-ltb, ne_eqb}
use Rattle.std.proofs.lemmas.Bool.Decides.{nat_tests}
use Rattle.std.specs.Vec.Iter.{into_iter_items, into_iter_steps}
use Rattle.std.specs.declared.vec.IntoIter.{IntoIter}
use Rattle.std.proofs.lemmas.Option.{slice_get_past}
use Rattle.hm_data.specs.declared.args.Args.{Args}
use Rattle.hm_data.specs.declared.args.Args.TheVariants as args_are
use Rattle.hm_data.specs.declared.entry.Entry.{Entry}
use Rattle.hm_data.specs.declared.entry.Entry.TheVariants as entry_is
use Rattle.hm_data.specs.declared.request.Request.{Request}
use Rattle.hm_data.specs.declared.request.Request.TheVariants as request_is
use Rattle.hm_names.specs.Region.{Region}
use Rattle.hm_locks.specs.Book.{AreChanged, DraftView, Row, drafted, row_of}
use Rattle.hm_model.specs.declared.lock.Ask.{Ask}
use Rattle.hm_model.specs.Journal.{Past}
use Rattle.hm_model.specs.Kinds.{table_of_request}
use Rattle.hm_model.specs.Locks.{merge_asks, request_asks}
use Rattle.hm_model.specs.Rules.{IsLegal}
use Rattle.hm_model.specs.Tree.{args_in, first_of}
use Rattle.hm_procedures.specs.Kept.{args_made}
use Rattle.hm_records.specs.Book.{above_made, asked, asks_in, asks_of, draft_of, drafts_of, or_drafted, stepper_of}
use Rattle.hm_records.proofs.BookBehind.{first_fits}
use Rattle.hm_records.proofs.Whole.{made_count}

-- asks of drafts one after another
pub asks_append : (xs ys : List DraftView) → asks_in (xs ++ ys) ≡ asks_in xs + asks_in ys
asks_append [] ys = omega arith
asks_append (x ∷ xs) ys =
    let whole = length-append x.asks (flat_map (λ (draft : DraftView). draft.asks) (xs ++ ys)) in
    let front = length-append x.asks (flat_map (λ (draft : DraftView). draft.asks) xs) in
    let more = asks_append xs ys in
    omega (arith, whole, front, more)

pub asks_one : (x : DraftView) → asks_in (x ∷ []) ≡ length x.asks
asks_one x = let whole = length-append x.asks [] in omega (arith, whole)

count_map : {X Y : Type 0} (f : X → Y) (xs : List X) → length (map f xs) ≡ length xs
count_map f [] = refl
count_map f (x ∷ xs) = ap suc (count_map f xs)

-- no more than there are procedures that the entry makes, and roots of a base
pub drafts_count : (J : Past) (entry : Entry) → length (drafts_of J entry) ≤ length (args_made [] entry)
drafts_count J (entry_is.Base part) = omega arith
drafts_count J entry = let many = count_map (draft_of (above_made J (stepper_of entry))) (args_made J entry) in let same = made_count J entry in omega (arith, many, same)

-- whatever their ancestors
asks_above : (above other : List ℕ) (made : List Args) → asks_in (map (draft_of above) made) ≡ asks_in (map (draft_of other) made)
asks_above above other [] = refl
asks_above above other (args ∷ made) =
    let one = length-append (asked args) (flat_map (λ (draft : DraftView). draft.asks) (map (draft_of above) made)) in
    let two = length-append (asked args) (flat_map (λ (draft : DraftView). draft.asks) (map (draft_of other) made)) in
    let more = asks_above above other made in
    omega (arith, one, two, more)

-- a request asks for as much, whatever its first id
merge_many : (regions : List Region) (n m : ℕ) → length (merge_asks regions n) ≡ length (merge_asks regions m)
merge_many [] n m = refl
merge_many (region ∷ more) n m = ap (λ k. suc (suc k)) (last (map _ _) _ _)
  where
    last : (xs : List Ask) (a b : Ask) → length (xs ++ a ∷ []) ≡ length (xs ++ b ∷ [])
    last xs a b = let one = length-append xs (a ∷ []) in let two = length-append xs (b ∷ []) in omega (arith, one, two)

request_many : (request : Request) (n m : ℕ) → length (request_asks request n) ≡ length (request_asks request m)
request_many (request_is.MergeRegions regions) n m = merge_many regions n m
request_many request n m = refl

root_asks : (J : Past) → IsLegal J → (request : Request) → length (asked (args_are.Root request (first_of J (table_of_request request)))) ≡ length (request_asks request 1)
root_asks J legal request =
    ap (λ b. length (if b then request_asks request (first_of J (table_of_request request)) else [])) (first_fits J legal (table_of_request request))
    ∙ request_many request (first_of J (table_of_request request)) 1

submit_asks : (J : Past) → IsLegal J → (request : Request) → asks_in (draft_of [] (args_are.Root request (first_of J (table_of_request request))) ∷ []) ≡ length (request_asks request 1)
submit_asks J legal request = asks_one (draft_of [] (args_are.Root request (first_of J (table_of_request request)))) ∙ root_asks J legal request

-- what an entry makes asks for as much, whatever was before it
pub asks_same : (entry : Entry) (J : Past) → IsLegal J → asks_in (drafts_of J entry) ≡ asks_of entry
asks_same (entry_is.Submit nonce request) J legal = submit_asks J legal request ∙ sym (submit_asks [] tt request)
asks_same (entry_is.Step pid pick out) J legal = asks_above (above_made J (Some pid)) (above_made [] (Some pid)) (args_in out.children)
asks_same entry J legal = refl

get_push : {X : Type 0} (xs : List X) (y : X) (k : ℕ) → slice_get (xs ++ y ∷ []) k ≡ cond (eqb (length xs) k) (Some y) (slice_get xs k)
get_push [] y zero = refl
get_push [] y (suc k) = grind (arith, nat_tests)
get_push (x ∷ xs) y zero = grind (arith, nat_tests)
get_push (x ∷ xs) y (suc k) = grind (arith, nat_tests, get_push xs y k)

-- one draft more is enlisted
pub drafted_next : (old now new : List Row) (last : ℕ) (done : List DraftView) (draft : DraftView) (pid : ℕ) → pid ≡ last + length done + 1
    → ((p : ℕ) → row_of now p ≡ or_drafted last done p (row_of old p)) → AreChanged now pid (Some (drafted pid draft)) new
    → (p : ℕ) → row_of new p ≡ or_drafted last (done ++ draft ∷ []) p (row_of old p)
drafted_next old now new last done draft pid at was changed p = elim (cases_eq pid p) [
  | inl here ↦
      (let k : length done ≡ p - last - 1 = omega (arith, at, here) in
      changed p ∙ ap (λ b. if b then Some (drafted pid draft) else row_of now p) (eq-eqb pid p here)
      ∙ ap (λ n. Some (drafted n draft)) here
      ∙ sym (cond-true (nat_lt last p) (option_map (drafted p) (slice_get (done ++ draft ∷ []) (p - last - 1))) (row_of old p) (lt-ltb last p (omega (arith, at, here)))
      ∙ ap (option_map (drafted p)) (get_push done draft (p - last - 1) ∙ ap (λ b. cond b (Some draft) (slice_get done (p - last - 1))) (eq-eqb (length done) (p - last - 1) k))))
  | inr there ↦
      changed p ∙ ap (λ b. if b then Some (drafted pid draft) else row_of now p) (ne_eqb pid p there) ∙ was p
      ∙ elim (cases_lt last p) [
        | inl lt ↦
            (let k : length done ≢ p - last - 1 = λ e. there (omega (arith, at, lt, e)) in
            ap (λ o. if nat_lt last p then option_map (drafted p) o else row_of old p)
            (sym (get_push done draft (p - last - 1) ∙ ap (λ b. cond b (Some draft) (slice_get done (p - last - 1))) (ne_eqb (length done) (p - last - 1) k))))
        | inr le ↦
            cond-false (nat_lt last p) (option_map (drafted p) (slice_get done (p - last - 1))) (row_of old p) (le-ltb last p le)
            ∙ sym (cond-false (nat_lt last p) (option_map (drafted p) (slice_get (done ++ draft ∷ []) (p - last - 1))) (row_of old p) (le-ltb last p le))
      ]
]

-- who comes next isn't enlisted yet
pub none_yet : (last : ℕ) (done : List DraftView) (p : ℕ) (row : Option Row) → p ≡ last + length done + 1 → or_drafted last done p row ≡ None
none_yet last done p row at =
    cond-true (nat_lt last p) (option_map (drafted p) (slice_get done (p - last - 1))) row (lt-ltb last p (omega (arith, at)))
    ∙ ap (option_map (drafted p)) (slice_get_past done (p - last - 1) (omega (arith, at)))

-- there is room for what the next one asks for
pub asks_room : (all done rest : List DraftView) (draft : DraftView) (spare now : ℕ) → all ≡ (done ++ draft ∷ []) ++ rest → asks_in all ≤ spare → spare ≤ now + asks_in done → length draft.asks ≤ now
asks_room all done rest draft spare now is fits left =
    let whole = ap asks_in is in
    let parts = asks_append (done ++ draft ∷ []) rest in
    let front = asks_append done (draft ∷ []) in
    let own = asks_one draft in
    omega (arith, whole, parts, front, own, fits, left)

-- what the iterator of a vector has given is a front of its items
pub taken_front : {X A : Type 0} (s : IntoIter X A) (xs : List X) (t : IntoIter X A) → Yields into_iter_steps s xs t → into_iter_items s ≡ xs ++ into_iter_items t
taken_front s [] t y = ap into_iter_items y
taken_front s (x ∷ xs) t y = y.1.0 ∙ ap (λ ys. x ∷ ys) (taken_front y.0 xs t y.2)

-- nobody is drafted
pub drafted_none : (last p : ℕ) (row : Option Row) → (last < p → row ≡ None) → row ≡ or_drafted last [] p row
drafted_none last p row new = elim (cases_lt last p) [
  | inl lt ↦ new lt ∙ sym (cond-true (nat_lt last p) None row (lt-ltb last p lt))
  | inr le ↦ sym (cond-false (nat_lt last p) None row (le-ltb last p le))
]
