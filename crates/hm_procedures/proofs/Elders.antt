-- Each procedure and its eldest sibling, after an entry, and the next child of the same parent.
use Rattle.std.proofs.Common.{◌≡◌, ℕ, zero, suc, ◌+◌, ◌-◌, ◌<◌, ◌≤◌, ◌==◌, List, [], ◌∷◌, ◌++◌, true, false, Option, Some, None, is_some, length, slice_get, refl, ap, sym, ◌∙◌, subst, inl, inr, arith, length-append}
use Rattle.std.specs.Option.{option_map, option_or}
use Rattle.std.proofs.lemmas.Bool.{cases_Bool, cases_eq, cases_lt, cond-true, eq-eqb, false≢true, ne_eqb}
use Rattle.std.proofs.lemmas.List.{append_assoc}
use Rattle.std.proofs.lemmas.Option.{none-some, same_Some, slice_get_past, slice_get_within}
use Rattle.hm_names.specs.Server.{Server}
use Rattle.hm_names.specs.declared.pid.Pid.{Pid}
use Rattle.hm_data.specs.declared.args.Args.{Args}
use Rattle.hm_data.specs.declared.args.Args.TheVariants as args_are
use Rattle.hm_data.specs.declared.entry.Entry.{Entry}
use Rattle.hm_data.specs.declared.entry.Entry.TheVariants as entry_is
use Rattle.hm_data.specs.declared.step.StepOut.{StepOut}
use Rattle.hm_data.specs.declared.part.Part.{Part}
use Rattle.hm_model.specs.Journal.{Past}
use Rattle.hm_model.specs.Kinds.{table_of_request}
use Rattle.hm_model.specs.Phase.{child_in, is_parent}
use Rattle.hm_model.specs.Procedures.{offset}
use Rattle.hm_model.specs.Rules.{IsLegal}
use Rattle.hm_model.specs.Tree.{Node, args_in, child_of, first_of, made, node_of, root_node}
use Rattle.hm_model.proofs.Grown.{down_new, down_old, grown_all, submit_new, submit_old, undo_new}
use Rattle.hm_model.proofs.Trees.{node_new}
use Rattle.hm_procedures.specs.Book.{HasElder, IsRooting}
use Rattle.hm_procedures.specs.Changes.{added, elder_by, elders, first_made}
use Rattle.hm_procedures.specs.Kept.{AreElders, args_made, eldest_in, eldest_of, first_child_of}
use Rattle.hm_procedures.specs.Procedures.{IsNextChild}
use Rattle.hm_procedures.specs.Trees.{IsNext}
use Rattle.hm_procedures.specs.declared.kept.Tracked.{Tracked}
use Rattle.hm_procedures.proofs.Enters.{none_made, one_new}
use Rattle.hm_procedures.proofs.Firsts.{first_stays, first_there, firsts, none_low, stays}
use Rattle.hm_procedures.proofs.Members.{end_at, low_at}
use Rattle.hm_procedures.proofs.Places.{length-added, slice_get-high, slice_get-low}

-- what is told of new procedures
long_elders : (n : ℕ) (eldest : Option Pid) (made : List Args) → length (elders n eldest made) ≡ length made
long_elders n eldest [] = refl
long_elders n eldest (args ∷ more) = ap suc (long_elders (n + 1) eldest more)

elder_of : (n : ℕ) (eldest : Option Pid) (made : List Args) (i : ℕ) → slice_get (elders n eldest made) i ≡ option_map (λ a. elder_by (n + i + 1) eldest) (slice_get made i)
elder_of n eldest [] i = refl
elder_of n eldest (args ∷ more) zero = let e : n + 1 ≡ n + 0 + 1 = omega arith in ap (λ k. Some (elder_by k eldest)) e
elder_of n eldest (args ∷ more) (suc i) = let e : n + 1 + i + 1 ≡ n + suc i + 1 = omega arith in elder_of (n + 1) eldest more i ∙ ap (λ k. option_map (λ a. elder_by k eldest) (slice_get more i)) e

-- one more after others
elders_snoc : (n : ℕ) (eldest : Option Pid) (ys : List Args) (args : Args) → elders n eldest (ys ++ args ∷ []) ≡ elders n eldest ys ++ elders (n + length ys) eldest (args ∷ [])
elders_snoc n eldest [] args = let e : n + 1 ≡ n + 0 + 1 = omega arith in ap (λ k. elder_by k eldest ∷ []) e
elders_snoc n eldest (y ∷ ys) args =
    let e : n + 1 + length ys ≡ n + suc (length ys) = omega arith in
    ap (λ l. elder_by (n + 1) eldest ∷ l) (elders_snoc (n + 1) eldest ys args ∙ ap (λ k. elders (n + 1) eldest ys ++ elders k eldest (args ∷ [])) e)

pub elders_next : (list : List Pid) (n : ℕ) (eldest : Option Pid) (ys : List Args) (args : Args) (m : ℕ) (now : List Pid) → m ≡ n + length ys → now ≡ list ++ elders n eldest ys
    → now ++ elders m eldest (args ∷ []) ≡ list ++ elders n eldest (ys ++ args ∷ [])
elders_next list n eldest ys args m now long is =
    ap (λ l. l ++ elders m eldest (args ∷ [])) is
    ∙ append_assoc list (elders n eldest ys) (elders m eldest (args ∷ []))
    ∙ ap (λ k. list ++ (elders n eldest ys ++ elders k eldest (args ∷ []))) long
    ∙ ap (λ l. list ++ l) (sym (elders_snoc n eldest ys args))

-- these and what is kept grow alike
pub elders_more : (low : ℕ) (list : List Pid) (kept : List Tracked) (up : Option (Pid × Pid)) (edition : ℕ) (eldest : Option Pid) (ys : List Args) (list' : List Pid) (kept' : List Tracked) → length list ≡ length kept
    → list' ≡ list ++ elders (low + length kept) eldest ys → kept' ≡ kept ++ added (low + length kept) up edition ys → length list' ≡ length kept'
elders_more low list kept up edition eldest ys list' kept' same are is =
    let one = ap length are ∙ length-append list (elders (low + length kept) eldest ys) in
    let two = ap length is ∙ length-append kept (added (low + length kept) up edition ys) in
    let long = long_elders (low + length kept) eldest ys in
    let more = length-added (low + length kept) up edition ys in
    omega (arith, one, two, long, more, same)

-- the eldest stays, and a new one that is the eldest is there then
pub elder_next : (from : ℕ) (list : List Pid) (eldest : Option Pid) → HasElder from list eldest → HasElder from (list ++ elder_by (from + length list + 1) eldest ∷ []) eldest
elder_next from list None has = tt
elder_next from list (Some eldest) has = (
  has.0,
  elim has.1 [
    | inl new ↦ (let e : eldest.0 - from - 1 ≡ length list = omega (arith, new) in inr (ap (slice_get (list ++ eldest ∷ [])) e ∙ end_at list eldest))
    | inr there ↦ inr (low_at list eldest (eldest.0 - from - 1) (slice_get_within list (eldest.0 - from - 1) eldest there) ∙ there)
  ],
)

-- lists that hold items at the same places are as long
as_long : {X Y : Type 0} (xs : List X) (ys : List Y) → ((q : ℕ) → is_some (slice_get xs q) ≡ is_some (slice_get ys q)) → length xs ≡ length ys
as_long [] [] each = refl
as_long [] (y ∷ ys) each = absurd (false≢true (each 0))
as_long (x ∷ xs) [] each = absurd (false≢true (sym (each 0)))
as_long (x ∷ xs) (y ∷ ys) each = ap suc (as_long xs ys (λ q. each (suc q)))

some_map : {X Y : Type 0} (f : X → Y) (o : Option X) → is_some (option_map f o) ≡ is_some o
some_map f None = refl
some_map f (Some x) = refl

module _ (J : Past) (legal : IsLegal J) (list : List Pid) (are : AreElders J list) where
  -- who was made has one
  pub elders_long : {X : Type 0} (f : ℕ → Node → X) (xs : List X) → ((q : ℕ) → slice_get xs q ≡ option_map (f (offset J + q + 1)) (node_of J (offset J + q + 1))) → length list ≡ length xs
  elders_long f xs each = as_long list xs (λ q. ap is_some (are q) ∙ some_map (eldest_of J (offset J + q + 1)) (node_of J (offset J + q + 1)) ∙ sym (ap is_some (each q) ∙ some_map (f (offset J + q + 1)) (node_of J (offset J + q + 1))))

  eldest_child : (p q : ℕ) (above : List ℕ) (first : Pid) → is_parent p above ≡ true → first_child_of J p ≡ Some first → eldest_in J q above ≡ first
  eldest_child p q [] first child is = absurd (false≢true child)
  eldest_child p q (up ∷ above) first child is = elim (cases_eq up p) [
    | inl same ↦ ap (λ u. elder_by q (first_child_of J u)) same ∙ ap (elder_by q) is
    | inr other ↦ absurd (false≢true (sym (ne_eqb up p other) ∙ child))
  ]

  -- a child has a number behind the offset
  child_behind : (p q : ℕ) → child_in p (node_of J q) ≡ true → offset J < q
  child_behind p q child = elim (cases_lt (offset J) q) [
    | inl lt ↦ lt
    | inr le ↦ absurd (false≢true (sym (ap (child_in p) (none_low J legal q le)) ∙ child))
  ]

  -- a child has the first child of its parent
  pub elder_at : (p q : ℕ) (first : Pid) → child_in p (node_of J q) ≡ true → first_child_of J p ≡ Some first → slice_get list (q - offset J - 1) ≡ Some first
  elder_at p q first child is =
      let low = child_behind p q child in
      let e : offset J + (q - offset J - 1) + 1 ≡ q = omega (arith, low) in
      are (q - offset J - 1) ∙ ap (λ i. option_map (eldest_of J i) (node_of J i)) e ∙ by (node_of J q) child
    where
      by : (o : Option Node) → child_in p o ≡ true → option_map (eldest_of J q) o ≡ Some first
      by None child = absurd (false≢true child)
      by (Some x) child = ap Some (eldest_child p q x.above first child is)

  -- who has the first child of a procedure is a child of it
  of_elder : (p q : ℕ) (first : Pid) → offset J < q → first.0 < q → child_in p (node_of J first.0) ≡ true → slice_get list (q - offset J - 1) ≡ Some first → child_in p (node_of J q) ≡ true
  of_elder p q first low lt child has =
      let e : offset J + (q - offset J - 1) + 1 ≡ q = omega (arith, low) in
      by (node_of J q) refl (sym (are (q - offset J - 1) ∙ ap (λ i. option_map (eldest_of J i) (node_of J i)) e) ∙ has)
    where
      same_parent : (o : Option Node) (a : ℕ) → child_in a o ≡ true → child_in p o ≡ true → a ≡ p
      same_parent None a one two = absurd (false≢true one)
      same_parent (Some x) a one two = up_is x.above one two
        where
          up_is : (above : List ℕ) → is_parent a above ≡ true → is_parent p above ≡ true → a ≡ p
          up_is [] one two = absurd (false≢true one)
          up_is (up ∷ above) one two = elim (cases_eq up a) [
            | inr other ↦ absurd (false≢true (sym (ne_eqb up a other) ∙ one))
            | inl same ↦ elim (cases_eq up p) [
              | inr other ↦ absurd (false≢true (sym (ne_eqb up p other) ∙ two))
              | inl own ↦ sym same ∙ own
            ]
          ]

      parent_is : (x : Node) → node_of J q ≡ Some x → (above : List ℕ) → x.above ≡ above → eldest_in J q above ≡ first → is_parent p above ≡ true
      parent_is x is [] e same = let own = ap (λ (i : Pid). i.0) same in absurd (omega (arith, own, lt))
      parent_is x is (up ∷ above) e same =
          let mine : child_in up (node_of J q) ≡ true = ap (child_in up) is ∙ ap (is_parent up) e ∙ eq-eqb up up refl in
          let found = first_there J legal up q mine in
          let here : found.0 ≡ first = sym (ap (elder_by q) found.1) ∙ same in
          let up_child : child_in up (node_of J first.0) ≡ true = ap (λ (i : Pid). child_in up (node_of J i.0)) (sym here) ∙ found.3 in
          eq-eqb up p (same_parent (node_of J first.0) up up_child child)

      by : (o : Option Node) → node_of J q ≡ o → option_map (eldest_of J q) o ≡ Some first → child_in p o ≡ true
      by None e has = absurd (none-some first has)
      by (Some x) e has = parent_is x e x.above refl (same_Some (eldest_of J q x) first has)

  -- the next in the list is the next child
  pub next_of : (p c : ℕ) → child_in p (node_of J c) ≡ true → (next : Option Pid) → ((root : Pid) → slice_get list (c - offset J - 1) ≡ Some root → IsNext (offset J) list root (c - offset J - 1) next) → IsNextChild J p c next
  next_of p c child next told = by next (told found.0 (elder_at p c found.0 child found.1))
    where
      found : (first : Pid) × (first_child_of J p ≡ Some first) × (first.0 ≤ c) × (child_in p (node_of J first.0) ≡ true)
      found = first_there J legal p c child

      low : offset J < c
      low = child_behind p c child

      not_child : (q : ℕ) → (slice_get list (q - offset J - 1) ≡ Some found.0 → ⊥) → child_in p (node_of J q) ≡ false
      not_child q never = elim (cases_Bool (child_in p (node_of J q))) [
        | inl on ↦ absurd (never (elder_at p q found.0 on found.1))
        | inr off ↦ off
      ]

      by : (next : Option Pid) → IsNext (offset J) list found.0 (c - offset J - 1) next → IsNextChild J p c next
      by None none = λ q lt. not_child q (none (q - offset J - 1) (omega (arith, lt, low)))
      by (Some next) is =
          let over = is.0 in
          let few = found.2 in
          let lt : c < next.0 = omega (arith, over, low) in (
            lt,
            of_elder p next.0 found.0 (omega (arith, over)) (omega (arith, few, lt)) found.3 is.1,
            λ q more below. not_child q (is.2 (q - offset J - 1) (omega (arith, more, low)) (omega (arith, more, below, low))),
          )

  -- an entry, and those that it makes
  module _ (entry : Entry) (legal' : IsLegal (entry ∷ J)) (off_is : offset (entry ∷ J) ≡ offset J) where
    abbrev now : Past
    now = entry ∷ J

    old_elders : (q : ℕ) → offset J + q + 1 ≤ made J → slice_get list q ≡ option_map (eldest_of now (offset J + q + 1)) (node_of now (offset J + q + 1))
    old_elders q le = are q ∙ by (offset J + q + 1) (node_of J (offset J + q + 1)) refl ∙ sym (ap (option_map (eldest_of now (offset J + q + 1))) (stays entry J legal' (offset J + q + 1) le))
      where
        same : (p : ℕ) (x : Node) → node_of J p ≡ Some x → (above : List ℕ) → x.above ≡ above → eldest_in J p above ≡ eldest_in now p above
        same p x is [] e = refl
        same p x is (up ∷ above) e =
            let found = first_there J legal up p (ap (child_in up) is ∙ ap (is_parent up) e ∙ eq-eqb up up refl) in
            ap (elder_by p) (found.1 ∙ sym (first_stays entry J legal' up found.0 found.1))

        by : (p : ℕ) (o : Option Node) → node_of J p ≡ o → option_map (eldest_of J p) o ≡ option_map (eldest_of now p) o
        by p None e = refl
        by p (Some x) e = ap Some (same p x e x.above refl)

    in_place : (q : ℕ) → slice_get list q ≡ option_map (eldest_of now (offset J + q + 1)) (node_of now (offset J + q + 1)) → slice_get list q ≡ option_map (eldest_of now (offset now + q + 1)) (node_of now (offset now + q + 1))
    in_place q is = is ∙ ap (λ n. option_map (eldest_of now (n + q + 1)) (node_of now (n + q + 1))) (sym off_is)

    pub more_elders : offset J + length list ≡ made J → (eldest : Option Pid) (make : ℕ → Args → Node) (args : List Args) → ((p : ℕ) (a : Args) → eldest_of now p (make p a) ≡ elder_by p eldest)
        → ((p : ℕ) → made J < p → node_of now p ≡ option_map (make p) (slice_get args (p - made J - 1))) → AreElders now (list ++ elders (made J) eldest args)
    more_elders long eldest make args eldest_is new q = elim (cases_lt q (length list)) [
      | inl lt ↦ slice_get-low list (elders (made J) eldest args) q lt ∙ in_place q (old_elders q (omega (arith, lt, long)))
      | inr le ↦ (let number : made J + (q - length list) + 1 ≡ offset J + q + 1 = omega (arith, le, long) in
          let place : q - length list ≡ offset J + q + 1 - made J - 1 = omega (arith, le, long) in
          slice_get-high list (elders (made J) eldest args) q le
          ∙ elder_of (made J) eldest args (q - length list)
          ∙ ap (λ k. option_map (λ a. elder_by k eldest) (slice_get args (q - length list))) number
          ∙ ap (λ k. option_map (λ a. elder_by (offset J + q + 1) eldest) (slice_get args k)) place
          ∙ by (offset J + q + 1) (slice_get args (offset J + q + 1 - made J - 1))
          ∙ sym (ap (option_map (eldest_of now (offset J + q + 1))) (new (offset J + q + 1) (omega (arith, le, long))))
          ∙ ap (λ n. option_map (eldest_of now (n + q + 1)) (node_of now (n + q + 1))) (sym off_is))
    ]
      where
        by : (p : ℕ) (o : Option Args) → option_map (λ a. elder_by p eldest) o ≡ option_map (eldest_of now p) (option_map (make p) o)
        by p None = refl
        by p (Some a) = ap Some (sym (eldest_is p a))

    -- none is made
    pub same_elders : ((q : ℕ) → made J < q → node_of now q ≡ node_of J q) → AreElders now list
    same_elders none q = elim (cases_lt (made J) (offset J + q + 1)) [
      | inr le ↦ in_place q (old_elders q le)
      | inl lt ↦ (let gone = (grown_all J legal).numbered (offset J + q + 1) lt in
          in_place q (are q ∙ ap (option_map (eldest_of J (offset J + q + 1))) gone ∙ sym (ap (option_map (eldest_of now (offset J + q + 1))) (none (offset J + q + 1) lt ∙ gone))))
    ]

  module _ (long : offset J + length list ≡ made J) where
    pub elders_root : (entry : Entry) → IsRooting entry → IsLegal (entry ∷ J) → AreElders (entry ∷ J) (list ++ elders (made J) None (args_made J entry))
    elders_root (entry_is.Submit nonce request) makes legal' =
        let first = first_of J (table_of_request request) in
        more_elders (entry_is.Submit nonce request) legal' refl long None (λ p a. root_node p a first) (args_are.Root request first ∷ []) (λ p a. refl)
        (one_new J (entry_is.Submit nonce request ∷ J) legal (args_are.Root request first) first (λ q differs. submit_old nonce request J q differs) (λ q same. submit_new nonce request J q same))
    elders_root (entry_is.Down server) makes legal' =
        more_elders (entry_is.Down server) legal' refl long None (λ p a. root_node p a 1) (args_are.Crash server ∷ []) (λ p a. refl)
        (one_new J (entry_is.Down server ∷ J) legal (args_are.Crash server) 1 (λ q differs. down_old server J q differs) (λ q same. down_new server J q same))
    elders_root entry makes legal' = absurd makes

    -- before a part of a base there is none
    pub elders_part : (part : Part) → IsLegal (entry_is.Base part ∷ J) → AreElders (entry_is.Base part ∷ J) list
    elders_part part legal' q = let none = none_made part J legal'.1.0 in slice_get_past list q (omega (arith, none, long))

    pub elders_undo : (pid : Pid) (row : ℕ) (out : StepOut) → IsLegal (entry_is.Undo pid row out ∷ J) → AreElders (entry_is.Undo pid row out ∷ J) (list ++ elders (made J) None (args_in out.followers))
    elders_undo pid row out legal' =
        more_elders (entry_is.Undo pid row out) legal' refl long None (λ p a. root_node p a 1) (args_in out.followers) (λ p a. refl)
        (λ p lt. undo_new pid row out J p lt)

    module _ (pid : Pid) (pick : Option Server) (out : StepOut) (legal' : IsLegal (entry_is.Step pid pick out ∷ J)) (me : Node) (is_me : node_of J pid.0 ≡ Some me) where
      abbrev after : Past
      after = entry_is.Step pid pick out ∷ J

      pub elders_step : AreElders after (list ++ elders (made J) (first_child_of after pid.0) (args_in out.children))
      elders_step =
          more_elders (entry_is.Step pid pick out) legal' refl long (first_child_of after pid.0) (λ p a. child_of pid.0 me a) (args_in out.children) (λ p a. refl)
          (λ p lt. node_new pid pick out J me is_me p lt)

      -- the eldest child of who steps is there, or is made first
      pub elder_step : HasElder (offset J) list (first_child_of after pid.0)
      elder_step = subst (HasElder (offset J) list) (sym own) (by (first_child_of J pid.0) refl)
        where
          own : first_child_of after pid.0 ≡ option_or (first_child_of J pid.0) (first_made (made J) (length (args_in out.children)))
          own = cond-true (pid.0 == pid.0) (option_or (first_child_of J pid.0) (first_made (made J) (length (args_in out.children)))) (first_child_of J pid.0) (eq-eqb pid.0 pid.0 refl)

          new : (n : ℕ) → HasElder (offset J) list (first_made (made J) n)
          new zero = tt
          new (suc n) = (omega (arith, long), inl (omega (arith, long)))

          there : (first : Pid) → first_child_of J pid.0 ≡ Some first → IsNextChild J pid.0 0 (Some first) → HasElder (offset J) list (Some first)
          there first e is = (child_behind pid.0 first.0 is.1, inr (elder_at pid.0 first.0 first is.1 e))

          by : (o : Option Pid) → first_child_of J pid.0 ≡ o → HasElder (offset J) list (option_or o (first_made (made J) (length (args_in out.children))))
          by None e = new (length (args_in out.children))
          by (Some first) e = there first e (subst (IsNextChild J pid.0 0) e (firsts J legal pid.0))
