-- The parts of the roots tell the roots of the journal, in order.
use Rattle.std.proofs.Common.{◌≡◌, ℕ, zero, suc, ◌+◌, ◌-◌, ◌<◌, ◌≤◌, List, [], ◌∷◌, ◌++◌, length, true, false, cond, ◌==◌, nat_lt, Option, Some, None, option_map, slice_get, refl, ap, sym, ◌∙◌, subst, inl, inr, ◌⊎◌, arith}
use Rattle.std.specs.List.{flat_map}
use Rattle.std.proofs.lemmas.Grind.{flat_map-append}
use Rattle.std.proofs.lemmas.Bool.{cond-false, cond-true, eq-eqb, false≢true, lt-ltb, ne_eqb}
use Rattle.std.proofs.lemmas.List.{append-nil}
use Rattle.hm_names.specs.Server.{Server}
use Rattle.hm_names.specs.declared.nonce.Nonce.{Nonce}
use Rattle.hm_names.specs.declared.pid.Pid.{Pid}
use Rattle.hm_data.specs.declared.answer.Cause.{Cause}
use Rattle.hm_data.specs.declared.args.Args.{Args}
use Rattle.hm_data.specs.declared.args.Args.TheVariants as args_are
use Rattle.hm_data.specs.declared.entry.Entry.{Entry}
use Rattle.hm_data.specs.declared.entry.Entry.TheVariants as entry_is
use Rattle.hm_data.specs.declared.part.Part.{Part}
use Rattle.hm_data.specs.declared.part.Part.TheVariants as part_is
use Rattle.hm_data.specs.declared.request.Request.{Request}
use Rattle.hm_data.specs.declared.step.StepOut.{StepOut}
use Rattle.hm_model.specs.Image.{first_made, nonce_of, numbers_of, old_roots, root_parts, root_parts_by, with_root}
use Rattle.hm_model.specs.Journal.{Past}
use Rattle.hm_model.specs.Kinds.{table_of_request}
use Rattle.hm_model.specs.Laws.{is_part}
use Rattle.hm_model.specs.Locks.{IsIn}
use Rattle.hm_model.specs.Phase.{cause}
use Rattle.hm_model.specs.Procedures.{number_at, offset}
use Rattle.hm_model.specs.Rules.{IsLegal}
use Rattle.hm_model.specs.Tree.{Node, args_in, child_of, first_of, is_top, made, node_of, pid_of, root_node, submitted}
use Rattle.hm_model.proofs.Grown.{ends_parted, grown_all}
use Rattle.hm_model.proofs.Parted.{by_parts}
use Rattle.hm_model.proofs.Trees.{grown_all as trees_grown, node_new, step_of}
use Rattle.hm_rebase.proofs.Cores.{Core, cores, followers, if_args, no_nonce, part_core}
use Rattle.hm_rebase.proofs.Staying.{node_old}
use Rattle.hm_rebase.proofs.Telling.{nonce_old, rooted}

abbrev pub Tells : List Part → List Core → Type 0
Tells [] [] = Unit {0}
Tells (part_is.Root pid nonce args cause ∷ parts) (core ∷ list) = ((pid.0 ≡ core.pid) × (nonce ≡ core.nonce) × (args ≡ core.args)) × Tells parts list
Tells parts list = ⊥

tells_append : (xs ys : List Part) (cs ds : List Core) → Tells xs cs → Tells ys ds → Tells (xs ++ ys) (cs ++ ds)
tells_append [] ys [] ds h k = k
tells_append [] ys (c ∷ cs) ds h k = absurd h
tells_append (part_is.Root pid nonce args cause ∷ xs) ys [] ds h k = absurd h
tells_append (part_is.Root pid nonce args cause ∷ xs) ys (c ∷ cs) ds h k = (h.0, tells_append xs ys cs ds h.1 k)
tells_append (part ∷ xs) ys cs ds h k = absurd h

-- numbers behind one
abbrev span : ℕ → ℕ → List ℕ
span base zero = []
span base (suc k) = span base k ++ ((base + k + 1) ∷ [])

append_assoc : (xs ys zs : List ℕ) → (xs ++ ys) ++ zs ≡ xs ++ (ys ++ zs)
append_assoc [] ys zs = refl
append_assoc (x ∷ xs) ys zs = ap (λ l. x ∷ l) (append_assoc xs ys zs)

parts_assoc : (xs ys zs : List Part) → (xs ++ ys) ++ zs ≡ xs ++ (ys ++ zs)
parts_assoc [] ys zs = refl
parts_assoc (x ∷ xs) ys zs = ap (λ l. x ∷ l) (parts_assoc xs ys zs)

first_split : (A : Past) (m k : ℕ) → first_made A (m + k) ≡ first_made A m ++ span (offset A + m) k
first_split A m zero = (let e : m + 0 ≡ m = omega arith in ap (first_made A) e) ∙ sym (append-nil (first_made A m))
first_split A m (suc k) =
    let e : m + suc k ≡ suc (m + k) = omega arith in
    let number : offset A + (m + k) + 1 ≡ offset A + m + k + 1 = omega arith in
    ap (first_made A) e
    ∙ ap (λ l. l ++ ((offset A + (m + k) + 1) ∷ [])) (first_split A m k)
    ∙ ap (λ n. (first_made A m ++ span (offset A + m) k) ++ (n ∷ [])) number
    ∙ append_assoc (first_made A m) (span (offset A + m) k) ((offset A + m + k + 1) ∷ [])

first_same : (A B : Past) (n : ℕ) → offset A ≡ offset B → first_made A n ≡ first_made B n
first_same A B zero same = refl
first_same A B (suc n) same = ap (λ l. l ++ ((offset A + n + 1) ∷ [])) (first_same A B n same) ∙ ap (λ o. first_made B n ++ ((o + n + 1) ∷ [])) same

in_append : (q : ℕ) (xs ys : List ℕ) → IsIn q (xs ++ ys) → IsIn q xs ⊎ IsIn q ys
in_append q [] ys h = inr h
in_append q (x ∷ xs) ys (inl here) = inl (inl here)
in_append q (x ∷ xs) ys (inr later) = elim (in_append q xs ys later) [ inl old ↦ inl (inr old) | inr new ↦ inr new ]

first_bound : (A : Past) (n q : ℕ) → IsIn q (first_made A n) → q ≤ offset A + n
first_bound A zero q h = elim h [ ]
first_bound A (suc n) q h = elim (in_append q (first_made A n) (number_at A n ∷ []) h) [
  | inl old ↦ let b = first_bound A n q old in omega (arith, b)
  | inr new ↦ elim new [ inl here ↦ (let e : q ≡ offset A + n + 1 = here in omega (arith, e)) | inr never ↦ elim never [ ] ]
]

span_above : (base k q : ℕ) → IsIn q (span base k) → base < q
span_above base zero q h = elim h [ ]
span_above base (suc k) q h = elim (in_append q (span base k) ((base + k + 1) ∷ []) h) [
  | inl old ↦ span_above base k q old
  | inr new ↦ elim new [ inl here ↦ (let e : q ≡ base + k + 1 = here in omega (arith, e)) | inr never ↦ elim never [ ] ]
]

same_map : (f g : ℕ → List Part) (xs : List ℕ) → ((q : ℕ) → IsIn q xs → f q ≡ g q) → flat_map f xs ≡ flat_map g xs
same_map f g [] same = refl
same_map f g (x ∷ xs) same = ap (λ l. l ++ flat_map f xs) (same x (inl refl)) ∙ ap (λ l. g x ++ l) (same_map f g xs (λ q among. same q (inr among)))

none_map : (f : ℕ → List Part) (xs : List ℕ) → ((q : ℕ) → IsIn q xs → f q ≡ []) → flat_map f xs ≡ []
none_map f [] none = refl
none_map f (x ∷ xs) none = ap (λ l. l ++ flat_map f xs) (none x (inl refl)) ∙ none_map f xs (λ q among. none q (inr among))

-- a base has no submissions
pub base_none : (J : Past) → ends_parted J ≡ true → IsLegal J → (p : ℕ) → nonce_of J p ≡ no_nonce
base_none [] e legal p = refl
base_none (entry_is.Base part ∷ J) e legal p = base_none J (by_parts (λ j. ends_parted j ≡ true) refl (λ o older. refl) part J legal.1.0) legal.0 p
base_none (entry ∷ J) e legal p = absurd (false≢true e)

pub nonce_high : (J : Past) → IsLegal J → (p : ℕ) → made J < p → nonce_of J p ≡ no_nonce
nonce_high [] legal p lt = refl
nonce_high (entry_is.Submit nonce request ∷ J) legal p lt = cond-false (p == made J + 1) nonce (nonce_of J p) (ne_eqb p (made J + 1) (λ e. omega (arith, lt, e))) ∙ nonce_high J legal.0 p (omega (arith, lt))
nonce_high (entry_is.Step pid pick out ∷ J) legal p lt = nonce_high J legal.0 p (omega (arith, lt))
nonce_high (entry_is.Undo pid row out ∷ J) legal p lt = nonce_high J legal.0 p (omega (arith, lt))
nonce_high (entry_is.Down server ∷ J) legal p lt = nonce_high J legal.0 p (omega (arith, lt))
nonce_high (entry_is.Base part ∷ J) legal p lt = base_none J (by_parts (λ j. ends_parted j ≡ true) refl (λ o older. refl) part J legal.1.0) legal.0 p
nonce_high (entry ∷ J) legal p lt = nonce_high J legal.0 p lt

module _ (f : ℕ → Option Cause) where
  abbrev with_cause : Past → ℕ → Option Node → List Part
  with_cause J p None = []
  with_cause J p (Some node) = cond (is_top node.above) (part_is.Root (pid_of p) (nonce_of J p) node.args (f p) ∷ []) []

  abbrev own_parts : Past → List Part
  own_parts J = flat_map (λ p. with_cause J p (node_of J p)) (numbers_of J)

  -- an entry adds those of its numbers
  module _ (entry : Entry) (J : Past) (other : is_part entry ≡ false) (legal : IsLegal J) (k : ℕ) (last : made (entry ∷ J) ≡ made J + k) (base : offset (entry ∷ J) ≡ offset J) where
    numbers_on : numbers_of (entry ∷ J) ≡ numbers_of J ++ span (made J) k
    numbers_on =
        let low = (grown_all J legal).low in
        let count : made (entry ∷ J) - offset (entry ∷ J) ≡ (made J - offset J) + k = omega (arith, low, last, base) in
        let start : offset (entry ∷ J) + (made J - offset J) ≡ made J = omega (arith, low, base) in
        ap (first_made (entry ∷ J)) count
        ∙ first_split (entry ∷ J) (made J - offset J) k
        ∙ ap (λ l. l ++ span (offset (entry ∷ J) + (made J - offset J)) k) (first_same (entry ∷ J) J (made J - offset J) base)
        ∙ ap (λ b. numbers_of J ++ span b k) start

    old_same : (q : ℕ) → IsIn q (numbers_of J) → with_cause (entry ∷ J) q (node_of (entry ∷ J) q) ≡ with_cause J q (node_of J q)
    old_same q among =
        let low = (grown_all J legal).low in
        let bound = first_bound J (made J - offset J) q among in
        let le : q ≤ made J = omega (arith, bound, low) in
        ap (with_cause (entry ∷ J) q) (node_old entry J other q le) ∙ by (node_of J q) (nonce_old entry J q le)
      where
        by : (o : Option Node) → nonce_of (entry ∷ J) q ≡ nonce_of J q → with_cause (entry ∷ J) q o ≡ with_cause J q o
        by None e = refl
        by (Some node) e = ap (λ n. cond (is_top node.above) (part_is.Root (pid_of q) n node.args (f q) ∷ []) []) e

    own_on : own_parts (entry ∷ J) ≡ own_parts J ++ flat_map (λ p. with_cause (entry ∷ J) p (node_of (entry ∷ J) p)) (span (made J) k)
    own_on =
        ap (flat_map (λ p. with_cause (entry ∷ J) p (node_of (entry ∷ J) p))) numbers_on
        ∙ flat_map-append (λ p. with_cause (entry ∷ J) p (node_of (entry ∷ J) p)) (numbers_of J) (span (made J) k)
        ∙ ap (λ l. l ++ flat_map (λ p. with_cause (entry ∷ J) p (node_of (entry ∷ J) p)) (span (made J) k)) (same_map (λ p. with_cause (entry ∷ J) p (node_of (entry ∷ J) p)) (λ p. with_cause J p (node_of J p)) (numbers_of J) old_same)

  -- a base has no numbers of its own
  base_empty : (J : Past) → ends_parted J ≡ true → own_parts J ≡ []
  base_empty [] e = refl
  base_empty (entry_is.Base part ∷ J) e =
      let zero_is : made (entry_is.Base part ∷ J) - made (entry_is.Base part ∷ J) ≡ 0 = omega arith in
      ap (λ n. flat_map (λ p. with_cause (entry_is.Base part ∷ J) p (node_of (entry_is.Base part ∷ J) p)) (first_made (entry_is.Base part ∷ J) n)) zero_is
  base_empty (entry ∷ J) e = absurd (false≢true e)

  tells_part : (part : Part) (parts : List Part) (list : List Core) → Tells parts list → Tells (with_root part parts) (part_core part list)
  tells_part (part_is.Root pid nonce args why) parts list h = tells_append parts (part_is.Root pid nonce args why ∷ []) list (record { pid = pid.0; nonce = nonce; args = args } ∷ []) h ((refl, refl, refl), tt)
  tells_part part parts list h = h

  -- an entry that adds these
  tells_more : (entry : Entry) (J : Past) → is_part entry ≡ false → IsLegal J → (k : ℕ) → made (entry ∷ J) ≡ made J + k → offset (entry ∷ J) ≡ offset J → old_roots (entry ∷ J) ≡ old_roots J
      → (news : List Core) → cores (entry ∷ J) ≡ cores J ++ news → Tells (flat_map (λ p. with_cause (entry ∷ J) p (node_of (entry ∷ J) p)) (span (made J) k)) news
      → Tells (old_roots J ++ own_parts J) (cores J) → Tells (old_roots (entry ∷ J) ++ own_parts (entry ∷ J)) (cores (entry ∷ J))
  tells_more entry J other legal k last base old news cores_is new before =
      subst (Tells (old_roots (entry ∷ J) ++ own_parts (entry ∷ J))) (sym cores_is)
      (subst (λ l. Tells l (cores J ++ news))
      (parts_assoc (old_roots J) (own_parts J) (flat_map (λ p. with_cause (entry ∷ J) p (node_of (entry ∷ J) p)) (span (made J) k))
      ∙ ap (λ l. old_roots J ++ l) (sym (own_on entry J other legal k last base))
      ∙ ap (λ l. l ++ own_parts (entry ∷ J)) (sym old))
      (tells_append (old_roots J ++ own_parts J) (flat_map (λ p. with_cause (entry ∷ J) p (node_of (entry ∷ J) p)) (span (made J) k)) (cores J) news before new))

  cores_none : (xs : List Core) → xs ≡ xs ++ []
  cores_none xs = sym (append-nil xs)

  -- children are no roots
  step_none : (pid : Pid) (pick : Option Server) (out : StepOut) (J : Past) → IsLegal (entry_is.Step pid pick out ∷ J) → (k : ℕ) → flat_map (λ p. with_cause (entry_is.Step pid pick out ∷ J) p (node_of (entry_is.Step pid pick out ∷ J) p)) (span (made J) k) ≡ []
  step_none pid pick out J legal k = none_map (λ p. with_cause (entry_is.Step pid pick out ∷ J) p (node_of (entry_is.Step pid pick out ∷ J) p)) (span (made J) k) (λ q among.
      let me = step_of pid pick out J (trees_grown J legal.0) legal in
      ap (with_cause (entry_is.Step pid pick out ∷ J) q) (node_new pid pick out J me.node me.node_is q (span_above (made J) k q among)) ∙ by q me.node (slice_get (args_in out.children) (q - made J - 1)))
    where
      by : (q : ℕ) (node : Node) (o : Option Args) → with_cause (entry_is.Step pid pick out ∷ J) q (option_map (child_of pid.0 node) o) ≡ []
      by q node None = refl
      by q node (Some args) = refl

  submit_new : (nonce : Nonce) (request : Request) (J : Past) → Tells (flat_map (λ p. with_cause (entry_is.Submit nonce request ∷ J) p (node_of (entry_is.Submit nonce request ∷ J) p)) (span (made J) 1)) ((let first = first_of J (table_of_request request) in record { pid = made J + 1; nonce = nonce; args = args_are.Root request first }) ∷ [])
  submit_new nonce request J =
      let one : made J + 0 + 1 ≡ made J + 1 = omega arith in
      let mine = eq-eqb (made J + 0 + 1) (made J + 1) one in
      subst (λ o. Tells (with_cause (entry_is.Submit nonce request ∷ J) (made J + 0 + 1) o ++ []) ((let first = first_of J (table_of_request request) in record { pid = made J + 1; nonce = nonce; args = args_are.Root request first }) ∷ []))
      (sym (cond-true (made J + 0 + 1 == made J + 1) (Some (submitted J request (made J + 0 + 1))) (node_of J (made J + 0 + 1)) mine))
      ((one, cond-true (made J + 0 + 1 == made J + 1) nonce (nonce_of J (made J + 0 + 1)) mine, refl), tt)

  down_new : (server : Server) (J : Past) → IsLegal J → Tells (flat_map (λ p. with_cause (entry_is.Down server ∷ J) p (node_of (entry_is.Down server ∷ J) p)) (span (made J) 1)) (record { pid = made J + 1; nonce = no_nonce; args = args_are.Crash server } ∷ [])
  down_new server J legal =
      let one : made J + 0 + 1 ≡ made J + 1 = omega arith in
      let mine = eq-eqb (made J + 0 + 1) (made J + 1) one in
      subst (λ o. Tells (with_cause (entry_is.Down server ∷ J) (made J + 0 + 1) o ++ []) (record { pid = made J + 1; nonce = no_nonce; args = args_are.Crash server } ∷ []))
      (sym (cond-true (made J + 0 + 1 == made J + 1) (Some (root_node (made J + 0 + 1) (args_are.Crash server) 1)) (node_of J (made J + 0 + 1)) mine))
      ((one, nonce_high J legal (made J + 0 + 1) (omega arith), refl), tt)

  undo_new : (pid : Pid) (row : ℕ) (out : StepOut) (J : Past) → IsLegal J → (k : ℕ) → Tells (flat_map (λ p. with_cause (entry_is.Undo pid row out ∷ J) p (node_of (entry_is.Undo pid row out ∷ J) p)) (span (made J) k)) (followers (made J) (args_in out.followers) k)
  undo_new pid row out J legal zero = tt
  undo_new pid row out J legal (suc k) =
      subst (λ l. Tells l (followers (made J) (args_in out.followers) (suc k)))
      (sym (flat_map-append (λ p. with_cause (entry_is.Undo pid row out ∷ J) p (node_of (entry_is.Undo pid row out ∷ J) p)) (span (made J) k) ((made J + k + 1) ∷ [])))
      (tells_append (flat_map (λ p. with_cause (entry_is.Undo pid row out ∷ J) p (node_of (entry_is.Undo pid row out ∷ J) p)) (span (made J) k)) (flat_map (λ p. with_cause (entry_is.Undo pid row out ∷ J) p (node_of (entry_is.Undo pid row out ∷ J) p)) ((made J + k + 1) ∷ []))
      (followers (made J) (args_in out.followers) k) (if_args (made J + k + 1) (slice_get (args_in out.followers) k))
      (undo_new pid row out J legal k)
      (let size : made J + k + 1 - made J - 1 ≡ k = omega arith in
      subst (λ o. Tells (with_cause (entry_is.Undo pid row out ∷ J) (made J + k + 1) o ++ []) (if_args (made J + k + 1) (slice_get (args_in out.followers) k)))
      (sym (cond-true (nat_lt (made J) (made J + k + 1)) (option_map (λ a. root_node (made J + k + 1) a 1) (slice_get (args_in out.followers) (made J + k + 1 - made J - 1))) (node_of J (made J + k + 1)) (lt-ltb (made J) (made J + k + 1) (omega arith))
      ∙ ap (λ i. option_map (λ a. root_node (made J + k + 1) a 1) (slice_get (args_in out.followers) i)) size))
      (by (slice_get (args_in out.followers) k))))
    where
      by : (o : Option Args) → Tells (with_cause (entry_is.Undo pid row out ∷ J) (made J + k + 1) (option_map (λ a. root_node (made J + k + 1) a 1) o) ++ []) (if_args (made J + k + 1) o)
      by None = tt
      by (Some args) = ((refl, nonce_high J legal (made J + k + 1) (omega arith), refl), tt)

  tells_all : (J : Past) → IsLegal J → Tells (old_roots J ++ own_parts J) (cores J)
  tells_all [] legal = tt
  tells_all (entry_is.Submit nonce request ∷ J) legal = tells_more (entry_is.Submit nonce request) J refl legal.0 1 refl refl refl _ refl (submit_new nonce request J) (tells_all J legal.0)
  tells_all (entry_is.Down server ∷ J) legal = tells_more (entry_is.Down server) J refl legal.0 1 refl refl refl _ refl (down_new server J legal.0) (tells_all J legal.0)
  tells_all (entry_is.Undo pid row out ∷ J) legal = tells_more (entry_is.Undo pid row out) J refl legal.0 (length (args_in out.followers)) refl refl refl _ refl (undo_new pid row out J legal.0 (length (args_in out.followers))) (tells_all J legal.0)
  tells_all (entry_is.Step pid pick out ∷ J) legal =
      tells_more (entry_is.Step pid pick out) J refl legal.0 (length (args_in out.children)) refl refl refl [] (cores_none (cores J)) (subst (λ l. Tells l []) (sym (step_none pid pick out J legal (length (args_in out.children)))) tt) (tells_all J legal.0)
  tells_all (entry_is.Base part ∷ J) legal =
      let before = subst (λ l. Tells l (cores J)) (ap (λ l. old_roots J ++ l) (base_empty J (by_parts (λ j. ends_parted j ≡ true) refl (λ o older. refl) part J legal.1.0)) ∙ append-nil (old_roots J)) (tells_all J legal.0) in
      subst (λ l. Tells l (part_core part (cores J))) (sym (ap (λ l. with_root part (old_roots J) ++ l) (base_empty (entry_is.Base part ∷ J) refl) ∙ append-nil (with_root part (old_roots J)))) (tells_part part (old_roots J) (cores J) before)
  tells_all (entry ∷ J) legal = tells_more entry J refl legal.0 0 (omega arith) refl refl [] (cores_none (cores J)) tt (tells_all J legal.0)

-- the parts of the roots tell just them
pub roots_tell : (J : Past) → IsLegal J → Tells (root_parts J) (cores J)
roots_tell J legal =
    subst (λ l. Tells (old_roots J ++ l) (cores J))
    (same_map (λ p. with_cause (cause J) J p (node_of J p)) (λ p. root_parts_by J p (node_of J p)) (numbers_of J) (λ q among. by q (node_of J q)))
    (tells_all (cause J) J legal)
  where
    by : (q : ℕ) (o : Option Node) → with_cause (cause J) J q o ≡ root_parts_by J q o
    by q None = refl
    by q (Some node) = refl

-- parts that tell roots are roots
pub told_rooted : (parts : List Part) (list : List Core) → Tells parts list → rooted parts ≡ parts
told_rooted [] list tells = refl
told_rooted (part_is.Root pid nonce args why ∷ parts) [] tells = absurd tells
told_rooted (part_is.Root pid nonce args why ∷ parts) (core ∷ list) tells = ap (λ l. part_is.Root pid nonce args why ∷ l) (told_rooted parts list tells.1)
told_rooted (part ∷ parts) list tells = absurd tells
