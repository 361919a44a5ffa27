-- The nonces of the roots, after an entry.
use Rattle.std.proofs.Common.{◌≡◌, ℕ, zero, suc, ◌+◌, ◌-◌, ◌<◌, ◌≤◌, ◌==◌, List, [], ◌∷◌, ◌++◌, length, map, filter, Bool, true, false, if◌then◌else◌, Option, Some, None, is_some, slice_get, refl, ap, sym, ◌∙◌, append-nil, arith}
use Rattle.std.specs.List.{flat_map}
use Rattle.std.specs.Option.{option_map}
use Rattle.std.proofs.lemmas.Bool.{cond-false, cond-true, eq-eqb, false≢true, ne_eqb, true≢false}
use Rattle.std.proofs.lemmas.Grind.{flat_map-append}
use Rattle.std.proofs.lemmas.List.{append_assoc, map-append}
use Rattle.std.proofs.lemmas.List.Elements.{filter-append}
use Rattle.hm_names.specs.declared.nonce.Nonce.{Nonce}
use Rattle.hm_names.specs.declared.pid.Pid.{Pid}
use Rattle.hm_data.specs.declared.args.Args.{Args}
use Rattle.hm_data.specs.declared.entry.Entry.{Entry}
use Rattle.hm_data.specs.declared.entry.Entry.TheVariants as entry_is
use Rattle.hm_data.specs.declared.part.Part.{Part}
use Rattle.hm_data.specs.declared.part.Part.TheVariants as part_is
use Rattle.hm_model.specs.Base.{PartFits}
use Rattle.hm_model.specs.Image.{nonce_of, old_roots}
use Rattle.hm_model.specs.Journal.{Past}
use Rattle.hm_model.specs.Parts.{part_made}
use Rattle.hm_model.specs.Pieces.{numbers_from}
use Rattle.hm_model.specs.Rules.{IsLegal}
use Rattle.hm_model.specs.Tree.{Node, args_in, children_of, is_root, is_root_in, made, node_of, pid_of, root_node}
use Rattle.hm_model.proofs.Grown.{down_new, down_old, step_new, step_old, submit_new, submit_old, undo_new, undo_old}
use Rattle.hm_model.proofs.Parted.{no_node}
use Rattle.hm_procedures.specs.Kept.{args_made}
use Rattle.hm_records.proofs.Begins.{by_first}
use Rattle.hm_records.specs.Lists.{no_nonce, nonce_made, nonces_in, own_nonces, repeated, root_nonces, so_often}

-- numbers from one on, in two parts
numbers_more : (first a b : ℕ) → numbers_from first (a + b) ≡ numbers_from first a ++ numbers_from (first + a) b
numbers_more first zero b =
    let none : zero + b ≡ b = omega arith in
    let same : first ≡ first + zero = omega arith in
    ap (numbers_from first) none ∙ ap (λ f. numbers_from f b) same
numbers_more first (suc a) b =
    let next : suc a + b ≡ suc (a + b) = omega arith in
    let at : first + 1 + a ≡ first + suc a = omega arith in
    ap (numbers_from first) next ∙ ap (λ l. first ∷ l) (numbers_more (first + 1) a b ∙ ap (λ f. numbers_from (first + 1) a ++ numbers_from f b) at)

-- the nonces of those among numbers that are roots
abbrev told : (ℕ → Bool) → (ℕ → Nonce) → List ℕ → List Nonce
told is_one nonce numbers = map nonce (filter is_one numbers)

told_append : (is_one : ℕ → Bool) (nonce : ℕ → Nonce) (xs ys : List ℕ) → told is_one nonce (xs ++ ys) ≡ told is_one nonce xs ++ told is_one nonce ys
told_append is_one nonce xs ys = ap (map nonce) (filter-append is_one xs ys) ∙ map-append nonce (filter is_one xs) (filter is_one ys)

keep : (f g : ℕ → Nonce) (p : ℕ) (xs ys : List ℕ) (b c : Bool) → b ≡ c → f p ≡ g p → map f xs ≡ map g ys → map f (if b then p ∷ xs else xs) ≡ map g (if c then p ∷ ys else ys)
keep f g p xs ys true true e is rest = ap (λ n. n ∷ map f xs) is ∙ ap (λ l. g p ∷ l) rest
keep f g p xs ys true false e is rest = absurd (true≢false e)
keep f g p xs ys false true e is rest = absurd (false≢true e)
keep f g p xs ys false false e is rest = rest

told_same : (P Q : ℕ → Bool) (f g : ℕ → Nonce) (first count : ℕ) → ((p : ℕ) → first ≤ p → p < first + count → (P p ≡ Q p) × (f p ≡ g p))
    → told P f (numbers_from first count) ≡ told Q g (numbers_from first count)
told_same P Q f g first zero each = refl
told_same P Q f g first (suc count) each =
    let here = each first (omega arith) (omega arith) in
    keep f g first (filter P (numbers_from (first + 1) count)) (filter Q (numbers_from (first + 1) count)) (P first) (Q first) here.0 here.1
    (told_same P Q f g (first + 1) count (λ p le lt. each p (omega (arith, le)) (omega (arith, lt))))

told_none : (P : ℕ → Bool) (f : ℕ → Nonce) (first count : ℕ) → ((p : ℕ) → first ≤ p → p < first + count → P p ≡ false) → told P f (numbers_from first count) ≡ []
told_none P f first zero each = refl
told_none P f first (suc count) each =
    ap (map f) (cond-false (P first) (first ∷ filter P (numbers_from (first + 1) count)) (filter P (numbers_from (first + 1) count)) (each first (omega arith) (omega arith)))
    ∙ told_none P f (first + 1) count (λ p le lt. each p (omega (arith, le)) (omega (arith, lt)))

told_all : (P : ℕ → Bool) (f : ℕ → Nonce) (nonce : Nonce) (first count : ℕ) → ((p : ℕ) → first ≤ p → p < first + count → (P p ≡ true) × (f p ≡ nonce))
    → told P f (numbers_from first count) ≡ repeated nonce count
told_all P f nonce first zero each = refl
told_all P f nonce first (suc count) each =
    let here = each first (omega arith) (omega arith) in
    ap (map f) (cond-true (P first) (first ∷ filter P (numbers_from (first + 1) count)) (filter P (numbers_from (first + 1) count)) here.0)
    ∙ ap (λ n. n ∷ told P f (numbers_from (first + 1) count)) here.1
    ∙ ap (λ l. nonce ∷ l) (told_all P f nonce (first + 1) count (λ p le lt. each p (omega (arith, le)) (omega (arith, lt))))

-- the roots that entries made
map_two : (f : Pid → Nonce) (xs : List ℕ) → map f (map pid_of xs) ≡ map (λ p. f (pid_of p)) xs
map_two f [] = refl
map_two f (x ∷ xs) = ap (λ l. f (pid_of x) ∷ l) (map_two f xs)

own_told : (J : Past) → own_nonces J ≡ told (is_root J) (nonce_of J) (numbers_from 1 (made J))
own_told J = map_two (λ root. nonce_of J root.0) (filter (is_root J) (numbers_from 1 (made J)))

-- who was made before is told the same, and more come behind
own_more : (entry : Entry) (J : Past) (count : ℕ) → made (entry ∷ J) ≡ made J + count
    → ((p : ℕ) → p ≤ made J → (is_root (entry ∷ J) p ≡ is_root J p) × (nonce_of (entry ∷ J) p ≡ nonce_of J p))
    → (new : List Nonce) → told (is_root (entry ∷ J)) (nonce_of (entry ∷ J)) (numbers_from (1 + made J) count) ≡ new → own_nonces (entry ∷ J) ≡ own_nonces J ++ new
own_more entry J count more same new new_is =
    own_told (entry ∷ J)
    ∙ ap (λ n. told (is_root (entry ∷ J)) (nonce_of (entry ∷ J)) n) (ap (numbers_from 1) more ∙ numbers_more 1 (made J) count)
    ∙ told_append (is_root (entry ∷ J)) (nonce_of (entry ∷ J)) (numbers_from 1 (made J)) (numbers_from (1 + made J) count)
    ∙ ap (λ l. l ++ told (is_root (entry ∷ J)) (nonce_of (entry ∷ J)) (numbers_from (1 + made J) count))
    (told_same (is_root (entry ∷ J)) (is_root J) (nonce_of (entry ∷ J)) (nonce_of J) 1 (made J) (λ p le lt. same p (omega (arith, lt))) ∙ sym (own_told J))
    ∙ ap (λ l. own_nonces J ++ l) new_is

-- no nonce is told of who wasn't made
part_beyond : (part : Part) (J : Past) → PartFits part J → (p : ℕ) → part_made part (made J) < p → (made J < p → nonce_of J p ≡ no_nonce) → nonce_of J p ≡ no_nonce
part_beyond (part_is.Head entries last parts sheets) J fits p lt rest = ap (λ l. nonce_of l p) fits.0
part_beyond part J fits p lt rest = rest lt

beyond : (J : Past) → IsLegal J → (p : ℕ) → made J < p → nonce_of J p ≡ no_nonce
beyond [] legal p lt = refl
beyond (entry_is.Submit nonce request ∷ J) legal p lt =
    cond-false (p == made J + 1) nonce (nonce_of J p) (ne_eqb p (made J + 1) (λ e. omega (arith, lt, e))) ∙ beyond J legal.0 p (omega (arith, lt))
beyond (entry_is.Step pid pick out ∷ J) legal p lt = beyond J legal.0 p (omega (arith, lt))
beyond (entry_is.Undo pid row out ∷ J) legal p lt = beyond J legal.0 p (omega (arith, lt))
beyond (entry_is.Down server ∷ J) legal p lt = beyond J legal.0 p (omega (arith, lt))
beyond (entry_is.Base part ∷ J) legal p lt = part_beyond part J legal.1.0 p lt (beyond J legal.0 p)
beyond (entry ∷ J) legal p lt = beyond J legal.0 p lt

-- a child is no root, and a follower is one
child_below : (pid : ℕ) (up : Option Node) (args : Option Args) → is_root_in (children_of pid up args) ≡ false
child_below pid None args = refl
child_below pid (Some up) None = refl
child_below pid (Some up) (Some args) = refl

there : {X : Type 0} (xs : List X) (k : ℕ) → k < length xs → is_some (slice_get xs k) ≡ true
there [] k lt = absurd (omega (arith, lt))
there (x ∷ xs) zero lt = refl
there (x ∷ xs) (suc k) lt = there xs k (omega (arith, lt))

follower_root : (p : ℕ) (args : Option Args) → is_some args ≡ true → is_root_in (option_map (λ own. root_node p own 1) args) ≡ true
follower_root p None is = absurd (false≢true is)
follower_root p (Some args) is = refl

-- after each entry that makes procedures
submit_more : (nonce : Nonce) (request : _) (J : Past) → own_nonces (entry_is.Submit nonce request ∷ J) ≡ own_nonces J ++ nonce ∷ []
submit_more nonce request J =
    own_more (entry_is.Submit nonce request) J 1 refl
    (λ p le. (ap is_root_in (submit_old nonce request J p (λ e. omega (arith, le, e))), cond-false (p == made J + 1) nonce (nonce_of J p) (ne_eqb p (made J + 1) (λ e. omega (arith, le, e)))))
    (nonce ∷ [])
    (told_all (is_root (entry_is.Submit nonce request ∷ J)) (nonce_of (entry_is.Submit nonce request ∷ J)) nonce (1 + made J) 1
    (λ p le lt.
    (let new : p ≡ made J + 1 = omega (arith, le, lt) in
    (ap is_root_in (submit_new nonce request J p new), cond-true (p == made J + 1) nonce (nonce_of J p) (eq-eqb p (made J + 1) new)))))

down_more : (server : _) (J : Past) → IsLegal J → own_nonces (entry_is.Down server ∷ J) ≡ own_nonces J ++ no_nonce ∷ []
down_more server J legal =
    own_more (entry_is.Down server) J 1 refl (λ p le. (ap is_root_in (down_old server J p (λ e. omega (arith, le, e))), refl)) (no_nonce ∷ [])
    (told_all (is_root (entry_is.Down server ∷ J)) (nonce_of (entry_is.Down server ∷ J)) no_nonce (1 + made J) 1
    (λ p le lt.
    (let new : p ≡ made J + 1 = omega (arith, le, lt) in
    (ap is_root_in (down_new server J p new), beyond J legal p (omega (arith, le))))))

step_more : (pid : Pid) (pick : _) (out : _) (J : Past) → own_nonces (entry_is.Step pid pick out ∷ J) ≡ own_nonces J ++ []
step_more pid pick out J =
    own_more (entry_is.Step pid pick out) J (length (args_in out.children)) refl (λ p le. (ap is_root_in (step_old pid pick out J p le), refl)) []
    (told_none (is_root (entry_is.Step pid pick out ∷ J)) (nonce_of (entry_is.Step pid pick out ∷ J)) (1 + made J) (length (args_in out.children))
    (λ p le lt.
    ap is_root_in (step_new pid pick out J p (omega (arith, le))) ∙ child_below pid.0 (node_of J pid.0) (slice_get (args_in out.children) (p - made J - 1))))

undo_more : (pid : Pid) (row : ℕ) (out : _) (J : Past) → IsLegal J → own_nonces (entry_is.Undo pid row out ∷ J) ≡ own_nonces J ++ repeated no_nonce (length (args_in out.followers))
undo_more pid row out J legal =
    own_more (entry_is.Undo pid row out) J (length (args_in out.followers)) refl (λ p le. (ap is_root_in (undo_old pid row out J p le), refl)) (repeated no_nonce (length (args_in out.followers)))
    (told_all (is_root (entry_is.Undo pid row out ∷ J)) (nonce_of (entry_is.Undo pid row out ∷ J)) no_nonce (1 + made J) (length (args_in out.followers))
    (λ p le lt. (
      ap is_root_in (undo_new pid row out J p (omega (arith, le))) ∙ follower_root p (slice_get (args_in out.followers) (p - made J - 1)) (there (args_in out.followers) (p - made J - 1) (omega (arith, le, lt))),
      beyond J legal p (omega (arith, le)),
    )))

-- a base has no procedures
none_own : (J : Past) → ((p : ℕ) → node_of J p ≡ None) → own_nonces J ≡ []
none_own J none = own_told J ∙ told_none (is_root J) (nonce_of J) 1 (made J) (λ p le lt. ap is_root_in (none p))

old_more : (part : Part) (J : Past) → flat_map nonces_in (old_roots (entry_is.Base part ∷ J)) ≡ flat_map nonces_in (old_roots J) ++ so_often (nonce_made (entry_is.Base part)) (length (args_made J (entry_is.Base part)))
old_more (part_is.Root pid nonce args cause) J = flat_map-append nonces_in (old_roots J) (part_is.Root pid nonce args cause ∷ [])
old_more part J = sym (simp append-nil)

base_more : (part : Part) (J : Past) → PartFits part J → root_nonces (entry_is.Base part ∷ J) ≡ root_nonces J ++ so_often (nonce_made (entry_is.Base part)) (length (args_made J (entry_is.Base part)))
base_more part J fits =
    let olds : List Nonce = flat_map nonces_in (old_roots J) in
    let new : List Nonce = so_often (nonce_made (entry_is.Base part)) (length (args_made J (entry_is.Base part))) in
    let now_none = none_own (entry_is.Base part ∷ J) (λ p. refl) in
    let was_none = none_own J (no_node part J fits) in
    let last : olds ++ new ++ [] ≡ olds ++ [] ++ new = simp append-nil in
    ap (λ l. flat_map nonces_in (old_roots (entry_is.Base part ∷ J)) ++ l) now_none
    ∙ ap (λ l. l ++ []) (old_more part J)
    ∙ last
    ∙ sym (ap (λ l. olds ++ l ++ new) was_none)

behind : (J : Past) (own new : List Nonce) → own ≡ own_nonces J ++ new → flat_map nonces_in (old_roots J) ++ own ≡ root_nonces J ++ new
behind J own new is = ap (λ l. flat_map nonces_in (old_roots J) ++ l) is ∙ sym (append_assoc (flat_map nonces_in (old_roots J)) (own_nonces J) new)

pub root_nonces_more : (entry : Entry) (J : Past) → IsLegal (entry ∷ J) → root_nonces (entry ∷ J) ≡ root_nonces J ++ so_often (nonce_made entry) (length (args_made J entry))
root_nonces_more (entry_is.Submit nonce request) J legal = behind J _ (nonce ∷ []) (submit_more nonce request J)
root_nonces_more (entry_is.Step pid pick out) J legal = behind J _ [] (step_more pid pick out J)
root_nonces_more (entry_is.Undo pid row out) J legal = behind J _ (repeated no_nonce (length (args_in out.followers))) (undo_more pid row out J legal.0)
root_nonces_more (entry_is.Down server) J legal = behind J _ (no_nonce ∷ []) (down_more server J legal.0)
root_nonces_more (entry_is.Base part) J legal = base_more part J legal.1.0
root_nonces_more entry J legal = behind J _ [] (sym (simp append-nil))

-- a start and a base's head have none
pub no_root_nonces : (entry : Entry) → IsLegal (entry ∷ []) → root_nonces (entry ∷ []) ≡ []
no_root_nonces entry legal =
    root_nonces_more entry [] legal
    ∙ by_first (λ e. so_often (nonce_made e) (length (args_made [] e)) ≡ []) (λ sheets. refl) (λ entries last parts sheets. refl) entry legal

-- what is added
pub more_roots : (entry : Entry) (J : Past) → IsLegal (entry ∷ J) → (count : ℕ) → count ≡ length (args_made J entry) → (old new : List Nonce) → old ≡ root_nonces J
    → new ≡ old ++ so_often (nonce_made entry) count → new ≡ root_nonces (entry ∷ J)
more_roots entry J legal count count_is old new was more =
    more ∙ ap (λ l. l ++ so_often (nonce_made entry) count) was ∙ ap (λ n. root_nonces J ++ so_often (nonce_made entry) n) count_is ∙ sym (root_nonces_more entry J legal)

-- one more of a nonce
pub repeated_more : (nonce : Nonce) (count : ℕ) → repeated nonce (count + 1) ≡ repeated nonce count ++ nonce ∷ []
repeated_more nonce zero = refl
repeated_more nonce (suc count) = let next : suc count + 1 ≡ suc (count + 1) = omega arith in ap (repeated nonce) next ∙ ap (λ l. nonce ∷ l) (repeated_more nonce count)
