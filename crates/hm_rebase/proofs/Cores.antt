-- The roots of a journal by their numbers, nonces and what they work on, in order: a base may have them.
use Rattle.std.proofs.Common.{◌≡◌, ℕ, zero, suc, ◌+◌, ◌-◌, ◌<◌, ◌≤◌, List, [], ◌∷◌, ◌++◌, length, Bool, true, false, cond, not, ◌&&◌, ◌==◌, nat_lt, Option, Some, None, option_map, slice_get, refl, ap, sym, ◌∙◌, subst, inl, inr, arith}
use Rattle.std.proofs.lemmas.Bool.{and_right, cond-false, cond-true, false≢true, lt-ltb, ltb-true}
use Rattle.std.proofs.lemmas.Bool.Decides.{nat_tests}
use Rattle.std.proofs.lemmas.List.{append-nil}
use Rattle.hm_names.specs.declared.nonce.Nonce.{Nonce}
use Rattle.hm_names.specs.declared.pid.Pid.{Pid}
use Rattle.hm_data.specs.declared.args.Args.{Args}
use Rattle.hm_data.specs.declared.args.Args.TheVariants as args_are
use Rattle.hm_data.specs.declared.answer.Cause.{Cause}
use Rattle.hm_data.specs.declared.entry.Entry.TheVariants as entry_is
use Rattle.hm_data.specs.declared.part.Part.{Part}
use Rattle.hm_data.specs.declared.part.Part.TheVariants as part_is
use Rattle.hm_data.specs.declared.step.StepOut.{StepOut}
use Rattle.hm_model.specs.Base.{MayRoot, PartFits, rises}
use Rattle.hm_model.specs.Journal.{Past}
use Rattle.hm_model.specs.Kinds.{table_of_request}
use Rattle.hm_model.specs.Nonces.{by_nonce, is_same}
use Rattle.hm_model.specs.Rules.{IsLegal}
use Rattle.hm_model.specs.Tree.{args_in, first_of, made, node_of, root_node}
use Rattle.hm_model.proofs.Grown.{ends_parted, grown_all}
use Rattle.hm_model.proofs.Parted.{by_parts}
use Rattle.hm_model.proofs.Nonces.{no_nonce as zero_same}
use Rattle.hm_costs.proofs.Dead.{IsFollower, follower_is}
use Rattle.hm_rebase.proofs.Served.{IsMiddle}

-- what a base tells of a root, its end aside
pub record Core : Type 0 where
  pub pid : ℕ
  pub nonce : Nonce
  pub args : Args

abbrev pub no_nonce : Nonce
no_nonce = record { group = 0; number = 0 }

-- the root that stands under a nonce: the last of some, else the one before
abbrev pub under : List Core → (Nonce → Option ℕ) → Nonce → Option ℕ
under [] used nonce = used nonce
under (core ∷ more) used nonce = under more (λ n. cond (is_same core.nonce n) (Some core.pid) (used n)) nonce

-- the last number
abbrev pub top : ℕ → List Core → ℕ
top low [] = low
top low (core ∷ more) = top core.pid more

-- roots that may follow one another in a base, up to a number
abbrev pub Good : ℕ → ℕ → (Nonce → Option ℕ) → List Core → Type 0
Good limit low used [] = Unit {0}
Good limit low used (core ∷ more) =
    ((low < core.pid) × (core.pid ≤ limit) × (used core.nonce ≡ None) × MayRoot core.args) × Good limit core.pid (λ n. cond (is_same core.nonce n) (Some core.pid) (used n)) more

under_append : (xs ys : List Core) (used : Nonce → Option ℕ) (nonce : Nonce) → under (xs ++ ys) used nonce ≡ under ys (under xs used) nonce
under_append [] ys used nonce = refl
under_append (core ∷ more) ys used nonce = under_append more ys (λ n. cond (is_same core.nonce n) (Some core.pid) (used n)) nonce

top_append : (low : ℕ) (xs ys : List Core) → top low (xs ++ ys) ≡ top (top low xs) ys
top_append low [] ys = refl
top_append low (core ∷ more) ys = top_append core.pid more ys

good_append : (limit low : ℕ) (used : Nonce → Option ℕ) (xs ys : List Core) → Good limit low used xs → Good limit (top low xs) (under xs used) ys → Good limit low used (xs ++ ys)
good_append limit low used [] ys good more = more
good_append limit low used (core ∷ xs) ys good more = (good.0, good_append limit core.pid (λ n. cond (is_same core.nonce n) (Some core.pid) (used n)) xs ys good.1 more)

good_more : (limit later low : ℕ) (used : Nonce → Option ℕ) (xs : List Core) → limit ≤ later → Good limit low used xs → Good later low used xs
good_more limit later low used [] le good = tt
good_more limit later low used (core ∷ xs) le good = (let within = good.0.1 in (good.0.0, omega (arith, within, le), good.0.2, good.0.3), good_more limit later core.pid (λ n. cond (is_same core.nonce n) (Some core.pid) (used n)) xs le good.1)

none_same : (nonce : Nonce) → is_same no_nonce nonce ≡ false
none_same nonce = by (nonce.number == 0) refl
  where
    by : (b : Bool) → (nonce.number == 0) ≡ b → ((not b && (0 == nonce.group)) && (0 == nonce.number)) ≡ false
    by true e = refl
    by false e = and_right (0 == nonce.group) (0 == nonce.number) (grind (arith, nat_tests))

under_zero : (xs : List Core) (used : Nonce → Option ℕ) (nonce : Nonce) → nonce.number ≡ 0 → under xs used nonce ≡ used nonce
under_zero [] used nonce none = refl
under_zero (core ∷ more) used nonce none =
    under_zero more (λ n. cond (is_same core.nonce n) (Some core.pid) (used n)) nonce none
    ∙ cond-false (is_same core.nonce nonce) (Some core.pid) (used nonce) (zero_same core.nonce nonce none)

-- roots without a nonce change nothing
abbrev AreBare : List Core → Type 0
AreBare [] = Unit {0}
AreBare (core ∷ more) = (core.nonce ≡ no_nonce) × AreBare more

-- the followers of an undo
abbrev pub if_args : ℕ → Option Args → List Core
if_args p None = []
if_args p (Some args) = record { pid = p; nonce = no_nonce; args = args } ∷ []

abbrev pub followers : ℕ → List Args → ℕ → List Core
followers base list zero = []
followers base list (suc k) = followers base list k ++ if_args (base + k + 1) (slice_get list k)

-- the roots that a journal has
abbrev pub part_core : Part → List Core → List Core
part_core (part_is.Root pid nonce args cause) cores = cores ++ (record { pid = pid.0; nonce = nonce; args = args } ∷ [])
part_core part cores = cores

abbrev pub cores : Past → List Core
cores [] = []
cores (entry_is.Submit nonce request ∷ J) =
    let first = first_of J (table_of_request request) in cores J ++ (record { pid = made J + 1; nonce = nonce; args = args_are.Root request first } ∷ [])
cores (entry_is.Undo pid row out ∷ J) = cores J ++ followers (made J) (args_in out.followers) (length (args_in out.followers))
cores (entry_is.Down server ∷ J) = cores J ++ (record { pid = made J + 1; nonce = no_nonce; args = args_are.Crash server } ∷ [])
cores (entry_is.Base part ∷ J) = part_core part (cores J)
cores (entry ∷ J) = cores J

abbrev nobody : Nonce → Option ℕ
nobody nonce = None

-- what is known of them
pub record HasCores (J : Past) : Type 0 where
  pub good : Good (made J) 0 nobody (cores J)
  pub said : (nonce : Nonce) → under (cores J) nobody nonce ≡ by_nonce J nonce
  pub low : top 0 (cores J) ≤ made J

zero_none : (J : Past) (nonce : Nonce) → HasCores J → nonce.number ≡ 0 → under (cores J) nobody nonce ≡ None
zero_none J nonce has none = under_zero (cores J) nobody nonce none

-- one root more
module _ (J J' : Past) (has : HasCores J) (nonce : Nonce) (args : Args) (p : ℕ) (low : top 0 (cores J) < p) (p_within : p ≤ made J') (made_le : made J ≤ made J') (cores_is : cores J' ≡ cores J ++ (record { pid = p; nonce = nonce; args = args } ∷ []))
    (fresh : under (cores J) nobody nonce ≡ None) (may : MayRoot args) (now : (n : Nonce) → by_nonce J' n ≡ cond (is_same nonce n) (Some p) (by_nonce J n)) where
  core_more : HasCores J'
  core_more = record {
    good = subst (Good (made J') 0 nobody) (sym cores_is) (good_append (made J') 0 nobody (cores J) (record { pid = p; nonce = nonce; args = args } ∷ []) (good_more (made J) (made J') 0 nobody (cores J) made_le has.good) ((low, p_within, fresh, may), tt));
    said = λ n. ap (λ l. under l nobody n) cores_is ∙ under_append (cores J) (record { pid = p; nonce = nonce; args = args } ∷ []) nobody n ∙ ap (cond (is_same nonce n) (Some p)) (has.said n) ∙ sym (now n);
    low = (let e = ap (top 0) cores_is in let t = top_append 0 (cores J) (record { pid = p; nonce = nonce; args = args } ∷ []) in omega (arith, e, t, p_within));
  }

-- no root more
same_cores : (J J' : Past) → HasCores J → cores J' ≡ cores J → made J ≤ made J' → ((n : Nonce) → by_nonce J' n ≡ by_nonce J n) → HasCores J'
same_cores J J' has cores_is le now = record {
  good = subst (Good (made J') 0 nobody) (sym cores_is) (good_more (made J) (made J') 0 nobody (cores J) le has.good);
  said = λ n. ap (λ l. under l nobody n) cores_is ∙ has.said n ∙ sym (now n);
  low = (let e = ap (top 0) cores_is in let t = has.low in omega (arith, e, t, le));
}

may_follow : (args : Args) → IsFollower args → MayRoot args
may_follow (args_are.Transit region goal to) is = tt
may_follow (args_are.SweepLayout root) is = tt
may_follow args is = absurd is

-- followers of an undo
module _ (J : Past) (has : HasCores J) (list : List Args) (all : (k : ℕ) (args : Args) → slice_get list k ≡ Some args → IsFollower args) where
  pub record Follow (k : ℕ) : Type 0 where
    pub good : Good (made J + k) 0 nobody (cores J ++ followers (made J) list k)
    pub said : (nonce : Nonce) → under (cores J ++ followers (made J) list k) nobody nonce ≡ by_nonce J nonce
    pub low : top 0 (cores J ++ followers (made J) list k) ≤ made J + k

  append_assoc : (xs ys zs : List Core) → (xs ++ ys) ++ zs ≡ xs ++ (ys ++ zs)
  append_assoc [] ys zs = refl
  append_assoc (x ∷ xs) ys zs = ap (λ l. x ∷ l) (append_assoc xs ys zs)

  follow_one : (k : ℕ) → Follow k → (o : Option Args) → slice_get list k ≡ o → (l : List Core) → l ≡ (cores J ++ followers (made J) list k) ++ if_args (made J + k + 1) o → Good (made J + suc k) 0 nobody l × ((nonce : Nonce) → under l nobody nonce ≡ by_nonce J nonce) × (top 0 l ≤ made J + suc k)
  follow_one k f None e l is =
      let same = is ∙ append-nil (cores J ++ followers (made J) list k) in
      let low = f.low in (
        subst (Good (made J + suc k) 0 nobody) (sym same) (good_more (made J + k) (made J + suc k) 0 nobody (cores J ++ followers (made J) list k) (omega arith) f.good),
        (λ n. ap (λ x. under x nobody n) same ∙ f.said n),
        (let t = ap (top 0) same in omega (arith, t, low)),
      )
  follow_one k f (Some args) e l is =
      let xs = cores J ++ followers (made J) list k in
      let low = f.low in (
        subst (Good (made J + suc k) 0 nobody) (sym is) (good_append (made J + suc k) 0 nobody xs (record { pid = made J + k + 1; nonce = no_nonce; args = args } ∷ []) (good_more (made J + k) (made J + suc k) 0 nobody xs (omega arith) f.good) ((omega (arith, low), omega arith, under_zero xs nobody no_nonce refl, may_follow args (all k args e)), tt)),
        (λ n. ap (λ x. under x nobody n) is ∙ under_append xs (record { pid = made J + k + 1; nonce = no_nonce; args = args } ∷ []) nobody n ∙ cond-false (is_same no_nonce n) (Some (made J + k + 1)) (under xs nobody n) (none_same n) ∙ f.said n),
        (let t = ap (top 0) is ∙ top_append 0 xs (record { pid = made J + k + 1; nonce = no_nonce; args = args } ∷ []) in omega (arith, t)),
      )

  follow : (k : ℕ) → Follow k
  follow zero = record {
    good = subst (Good (made J + 0) 0 nobody) (sym (append-nil (cores J))) (good_more (made J) (made J + 0) 0 nobody (cores J) (omega arith) has.good);
    said = λ n. ap (λ x. under x nobody n) (append-nil (cores J)) ∙ has.said n;
    low = (let t = ap (top 0) (append-nil (cores J)) in let l = has.low in omega (arith, t, l));
  }
  follow (suc k) =
      let f = follow k in
      let o = follow_one k f (slice_get list k) refl (cores J ++ followers (made J) list (suc k)) (sym (append_assoc (cores J) (followers (made J) list k) (if_args (made J + k + 1) (slice_get list k)))) in
      record { good = o.0; said = o.1; low = o.2 }

-- what an undo makes
undo_follows : (pid : Pid) (row : ℕ) (out : StepOut) (J : Past) → IsLegal (entry_is.Undo pid row out ∷ J) → (k : ℕ) (args : Args) → slice_get (args_in out.followers) k ≡ Some args → IsFollower args
undo_follows pid row out J legal k args is =
    let p = made J + k + 1 in
    let size : made J + k + 1 - made J - 1 ≡ k = omega arith in
    let there : node_of (entry_is.Undo pid row out ∷ J) (made J + k + 1) ≡ Some (root_node (made J + k + 1) args 1) =
    cond-true (nat_lt (made J) (made J + k + 1)) (option_map (λ a. root_node (made J + k + 1) a 1) (slice_get (args_in out.followers) (made J + k + 1 - made J - 1))) (node_of J (made J + k + 1)) (lt-ltb (made J) (made J + k + 1) (omega arith))
    ∙ ap (λ i. option_map (λ a. root_node (made J + k + 1) a 1) (slice_get (args_in out.followers) i)) size ∙ ap (option_map (λ a. root_node (made J + k + 1) a 1)) is in
    follower_is pid row out J legal (made J + k + 1) (root_node (made J + k + 1) args 1) ((grown_all J legal.0).numbered (made J + k + 1) (omega arith)) there

-- in a base roots come late
none_behind : (own one : Part) → IsMiddle one → rises own one ≡ true → IsMiddle own
none_behind (part_is.Root pid nonce args cause) (part_is.Head entries last parts sheets) middle up = absurd (false≢true up)
none_behind (part_is.Root pid nonce args cause) (part_is.Namespace ns) middle up = absurd (false≢true up)
none_behind (part_is.Root pid nonce args cause) (part_is.Table table own row) middle up = absurd (false≢true up)
none_behind (part_is.Root pid nonce args cause) (part_is.Region region range status parents place) middle up = absurd (false≢true up)
none_behind (part_is.Root pid nonce args cause) (part_is.Server server fenced) middle up = absurd (false≢true up)
none_behind (part_is.Root pid nonce args cause) (part_is.Root other used work why) middle up = absurd middle
none_behind (part_is.Root pid nonce args cause) (part_is.Layout other) middle up = absurd middle
none_behind (part_is.Layout pid) (part_is.Head entries last parts sheets) middle up = absurd (false≢true up)
none_behind (part_is.Layout pid) (part_is.Namespace ns) middle up = absurd (false≢true up)
none_behind (part_is.Layout pid) (part_is.Table table own row) middle up = absurd (false≢true up)
none_behind (part_is.Layout pid) (part_is.Region region range status parents place) middle up = absurd (false≢true up)
none_behind (part_is.Layout pid) (part_is.Server server fenced) middle up = absurd (false≢true up)
none_behind (part_is.Layout pid) (part_is.Root other used work why) middle up = absurd middle
none_behind (part_is.Layout pid) (part_is.Layout other) middle up = absurd middle
none_behind part one middle up = tt

-- a part that is the head, or rises behind another
pub rises_of : (part : Part) (own : Part) (Q : Past) → PartFits part (entry_is.Base own ∷ Q) → rises own part ≡ true
rises_of (part_is.Head entries last parts sheets) own Q fits = (let no : entry_is.Base own ∷ Q ≡ [] = fits.0 in cc)
rises_of (part_is.Namespace ns) own Q fits = fits
rises_of part own Q fits = fits.0

quiet_core : (part : Part) (list : List Core) → IsMiddle part → part_core part list ≡ list
quiet_core (part_is.Root pid nonce args cause) list middle = absurd middle
quiet_core (part_is.Layout pid) list middle = absurd middle
quiet_core part list middle = refl

pub middle_none : (own : Part) (Q : Past) → IsLegal (entry_is.Base own ∷ Q) → IsMiddle own → cores (entry_is.Base own ∷ Q) ≡ []
middle_none own [] legal middle = quiet_core own [] middle
middle_none own (entry_is.Base last ∷ Q) legal middle = quiet_core own (cores (entry_is.Base last ∷ Q)) middle ∙ middle_none last Q legal.0 (none_behind last own middle (rises_of own last Q legal.1.0))
middle_none own (entry ∷ Q) legal middle = absurd (false≢true (by_parts (λ j. ends_parted j ≡ true) refl (λ o older. refl) own (entry ∷ Q) legal.1.0))

-- the roots before one of a base have lower numbers
low_root : (J : Past) → IsLegal J → (pid : Pid) (nonce : Nonce) (args : Args) (cause : Option Cause) → PartFits (part_is.Root pid nonce args cause) J → top 0 (cores J) < pid.0
low_root [] legal pid nonce args cause fits = absurd fits.0
low_root (entry_is.Base (part_is.Root one used work why) ∷ Q) legal pid nonce args cause fits =
    let t = top_append 0 (cores Q) (record { pid = one.0; nonce = used; args = work } ∷ []) in
    let less = ltb-true one.0 pid.0 fits.0 in
    omega (arith, t, less)
low_root (entry_is.Base (part_is.Layout one) ∷ Q) legal pid nonce args cause fits = absurd (false≢true fits.0)
low_root (entry_is.Base (part_is.Head entries last parts sheets) ∷ Q) legal pid nonce args cause fits = (let t = ap (top 0) (middle_none (part_is.Head entries last parts sheets) Q legal tt) in let one = fits.1 in omega (arith, t, one))
low_root (entry_is.Base (part_is.Namespace ns) ∷ Q) legal pid nonce args cause fits = (let t = ap (top 0) (middle_none (part_is.Namespace ns) Q legal tt) in let one = fits.1 in omega (arith, t, one))
low_root (entry_is.Base (part_is.Table table n row) ∷ Q) legal pid nonce args cause fits = (let t = ap (top 0) (middle_none (part_is.Table table n row) Q legal tt) in let one = fits.1 in omega (arith, t, one))
low_root (entry_is.Base (part_is.Region region range status parents place) ∷ Q) legal pid nonce args cause fits = (let t = ap (top 0) (middle_none (part_is.Region region range status parents place) Q legal tt) in let one = fits.1 in omega (arith, t, one))
low_root (entry_is.Base (part_is.Server server fenced) ∷ Q) legal pid nonce args cause fits = (let t = ap (top 0) (middle_none (part_is.Server server fenced) Q legal tt) in let one = fits.1 in omega (arith, t, one))
low_root (entry ∷ Q) legal pid nonce args cause fits = absurd fits.0

pub cores_all : (J : Past) → IsLegal J → HasCores J
cores_all [] legal = record { good = tt; said = λ n. refl; low = omega arith }
cores_all (entry_is.Submit nonce request ∷ J) legal =
    let has = cores_all J legal.0 in
    let low = has.low in
    core_more J (entry_is.Submit nonce request ∷ J) has nonce (args_are.Root request (first_of J (table_of_request request))) (made J + 1) (omega (arith, low)) (omega arith) (omega arith) refl
    (elim legal.1.1.1.0 [ inl zero_is ↦ zero_none J nonce has zero_is | inr new ↦ has.said nonce ∙ new ]) legal.1.1.0 (λ n. refl)
cores_all (entry_is.Undo pid row out ∷ J) legal =
    let f = follow J (cores_all J legal.0) (args_in out.followers) (undo_follows pid row out J legal) (length (args_in out.followers)) in
    record { good = f.good; said = f.said; low = f.low }
cores_all (entry_is.Down server ∷ J) legal =
    let has = cores_all J legal.0 in
    let low = has.low in
    core_more J (entry_is.Down server ∷ J) has no_nonce (args_are.Crash server) (made J + 1) (omega (arith, low)) (omega arith) (omega arith) refl (zero_none J no_nonce has refl) tt
    (λ n. sym (cond-false (is_same no_nonce n) (Some (made J + 1)) (by_nonce J n) (none_same n)))
cores_all (entry_is.Base (part_is.Root pid nonce args cause) ∷ J) legal =
    let has = cores_all J legal.0 in
    core_more J (entry_is.Base (part_is.Root pid nonce args cause) ∷ J) has nonce args pid.0 (low_root J legal.0 pid nonce args cause legal.1.0) legal.1.0.2 (omega arith) refl (has.said nonce ∙ legal.1.0.3) legal.1.0.4 (λ n. refl)
cores_all (entry_is.Base (part_is.Head entries last parts sheets) ∷ J) legal =
    same_cores J (entry_is.Base (part_is.Head entries last parts sheets) ∷ J) (cores_all J legal.0) refl (let e = ap made legal.1.0.0 in omega (arith, e)) (λ n. refl)
cores_all (entry_is.Base (part_is.Namespace ns) ∷ J) legal = same_cores J (entry_is.Base (part_is.Namespace ns) ∷ J) (cores_all J legal.0) refl (omega arith) (λ n. refl)
cores_all (entry_is.Base (part_is.Table table n row) ∷ J) legal = same_cores J (entry_is.Base (part_is.Table table n row) ∷ J) (cores_all J legal.0) refl (omega arith) (λ n. refl)
cores_all (entry_is.Base (part_is.Region region range status parents place) ∷ J) legal = same_cores J (entry_is.Base (part_is.Region region range status parents place) ∷ J) (cores_all J legal.0) refl (omega arith) (λ n. refl)
cores_all (entry_is.Base (part_is.Server server fenced) ∷ J) legal = same_cores J (entry_is.Base (part_is.Server server fenced) ∷ J) (cores_all J legal.0) refl (omega arith) (λ n. refl)
cores_all (entry_is.Base (part_is.Layout pid) ∷ J) legal = same_cores J (entry_is.Base (part_is.Layout pid) ∷ J) (cores_all J legal.0) refl (omega arith) (λ n. refl)
cores_all (entry ∷ J) legal = same_cores J (entry ∷ J) (cores_all J legal.0) refl (omega arith) (λ n. refl)
