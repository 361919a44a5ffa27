-- The roots of a base are who is shown by the numbers up to its last.
use Rattle.std.proofs.Common.{◌≡◌, ◌≢◌, ℕ, zero, suc, ◌+◌, ◌-◌, ◌<◌, ◌≤◌, ◌==◌, [], ◌∷◌, ◌++◌, true, Option, Some, None, nat_lt, refl, ap, sym, ◌∙◌, inl, inr, arith}
use Rattle.std.specs.List.{cons_option, filter_map}
use Rattle.std.proofs.lemmas.Bool.{cases_eq, cases_lt, cond-false, cond-true, eq-eqb, false≢true, le-ltb, ne_eqb}
use Rattle.std.proofs.lemmas.List.Elements.{filter_map-append}
use Rattle.std.proofs.lemmas.Option.{none-some}
use Rattle.hm_names.specs.declared.nonce.Nonce.{Nonce}
use Rattle.hm_names.specs.declared.pid.Pid.{Pid}
use Rattle.hm_data.specs.declared.answer.Cause.{Cause}
use Rattle.hm_data.specs.declared.args.Args.{Args}
use Rattle.hm_data.specs.declared.entry.Entry.TheVariants as entry_is
use Rattle.hm_data.specs.declared.part.Part.{Part}
use Rattle.hm_data.specs.declared.part.Part.TheVariants as part_is
use Rattle.hm_data.specs.declared.record.Record.{Record}
use Rattle.hm_model.specs.Base.{PartFits, Rises, rises}
use Rattle.hm_model.specs.Journal.{Past}
use Rattle.hm_model.specs.OldRoots.{old_record, old_record_of, old_records}
use Rattle.hm_model.specs.Pieces.{numbers_from}
use Rattle.hm_model.specs.Procedures.{offset}
use Rattle.hm_model.specs.Rules.{IsLegal}
use Rattle.hm_model.specs.Tree.{made}
use Rattle.hm_model.proofs.Grown.{grown_all}

-- numbers in two pieces
pub numbers_joined : (first m n : ℕ) → numbers_from first (m + n) ≡ numbers_from first m ++ numbers_from (first + m) n
numbers_joined first zero n =
    let e : 0 + n ≡ n = omega arith in
    let f : first ≡ first + 0 = omega arith in
    ap (numbers_from first) e ∙ ap (λ k. numbers_from k n) f
numbers_joined first (suc m) n =
    let e : suc m + n ≡ suc (m + n) = omega arith in
    let f : first + 1 + m ≡ first + suc m = omega arith in
    ap (numbers_from first) e ∙ ap (λ l. first ∷ l) (numbers_joined (first + 1) m n ∙ ap (λ k. numbers_from (first + 1) m ++ numbers_from k n) f)

-- what is told alike of each of some numbers
pub alike : {X : Type 0} (f g : ℕ → Option X) (first count : ℕ) → ((p : ℕ) → first ≤ p → p < first + count → f p ≡ g p) → filter_map f (numbers_from first count) ≡ filter_map g (numbers_from first count)
alike f g first zero same = refl
alike f g first (suc count) same =
    ap (λ o. cons_option o (filter_map f (numbers_from (first + 1) count))) (same first (omega arith) (omega arith))
    ∙ ap (cons_option (g first)) (alike f g (first + 1) count (λ p low high. same p (omega (arith, low)) (omega (arith, high))))

-- and where nothing is told
pub nothing : {X : Type 0} (f : ℕ → Option X) (first count : ℕ) → ((p : ℕ) → first ≤ p → p < first + count → f p ≡ None) → filter_map f (numbers_from first count) ≡ []
nothing f first zero none = refl
nothing f first (suc count) none =
    ap (λ o. cons_option o (filter_map f (numbers_from (first + 1) count))) (none first (omega arith) (omega arith))
    ∙ nothing f (first + 1) count (λ p low high. none p (omega (arith, low)) (omega (arith, high)))

-- a root of this number may stand up to a part: a root of this number or a greater one, or a layout
abbrev UpTo : Part → ℕ → Type 0
UpTo (part_is.Root pid nonce args cause) p = p ≤ pid.0
UpTo (part_is.Layout pid) p = Unit {0}
UpTo part p = ⊥

-- so it may up to the newest entry, where that is a part
abbrev Within : Past → ℕ → Type 0
Within [] p = ⊥
Within (entry_is.Base own ∷ before) p = UpTo own p
Within (entry ∷ before) p = Unit {0}

lower : (a b : ℕ) → nat_lt a b ≡ true → a < b
lower a b is = elim (cases_lt a b) [
  | inl lt ↦ lt
  | inr le ↦ absurd (false≢true (sym (le-ltb a b le) ∙ is))
]

below_root : (own : Part) (p : ℕ) (pid : Pid) (nonce : Nonce) (args : Args) (cause : Option Cause) → UpTo own p → rises own (part_is.Root pid nonce args cause) ≡ true → p < pid.0
below_root (part_is.Root one used work why) p pid nonce args cause up rise = let lt = lower one.0 pid.0 rise in omega (arith, up, lt)
below_root (part_is.Layout one) p pid nonce args cause up rise = absurd (false≢true rise)
below_root part p pid nonce args cause up rise = absurd up

before_root : (before : Past) (p : ℕ) (pid : Pid) (nonce : Nonce) (args : Args) (cause : Option Cause) → Within before p → Rises before (part_is.Root pid nonce args cause) → p < pid.0
before_root (entry_is.Base own ∷ before) p pid nonce args cause up rise = below_root own p pid nonce args cause up rise
before_root before p pid nonce args cause up rise = absurd rise

-- a part of an earlier sort than roots
abbrev IsEarly : Part → Type 0
IsEarly (part_is.Root pid nonce args cause) = ⊥
IsEarly (part_is.Layout pid) = ⊥
IsEarly part = Unit {0}

-- comes behind none
early : (own part : Part) (p : ℕ) → UpTo own p → IsEarly part → rises own part ≡ true → ⊥
early (part_is.Root pid nonce args cause) (part_is.Head entries last parts sheets) p up is rise = false≢true rise
early (part_is.Root pid nonce args cause) (part_is.Namespace ns) p up is rise = false≢true rise
early (part_is.Root pid nonce args cause) (part_is.Table table own row) p up is rise = false≢true rise
early (part_is.Root pid nonce args cause) (part_is.Region region range status parents place) p up is rise = false≢true rise
early (part_is.Root pid nonce args cause) (part_is.Server server fenced) p up is rise = false≢true rise
early (part_is.Root pid nonce args cause) (part_is.Root other used work why) p up is rise = is
early (part_is.Root pid nonce args cause) (part_is.Layout other) p up is rise = is
early (part_is.Layout pid) (part_is.Head entries last parts sheets) p up is rise = false≢true rise
early (part_is.Layout pid) (part_is.Namespace ns) p up is rise = false≢true rise
early (part_is.Layout pid) (part_is.Table table own row) p up is rise = false≢true rise
early (part_is.Layout pid) (part_is.Region region range status parents place) p up is rise = false≢true rise
early (part_is.Layout pid) (part_is.Server server fenced) p up is rise = false≢true rise
early (part_is.Layout pid) (part_is.Root other used work why) p up is rise = is
early (part_is.Layout pid) (part_is.Layout other) p up is rise = is
early own part p up is rise = up

before_early : (before : Past) (part : Part) (p : ℕ) → Within before p → IsEarly part → Rises before part → ⊥
before_early (entry_is.Base own ∷ before) part p up is rise = early own part p up is rise
before_early before part p up is rise = rise

-- each root stands up to the newest part
within : (J : Past) → IsLegal J → (p : ℕ) (one : Record) → old_record_of J p ≡ Some one → Within J p
within [] legal p one is = absurd (none-some one is)
within (entry_is.Base own ∷ before) legal p one is = by (within before legal.0 p) own legal.1.0 is
  where
    by : ((other : Record) → old_record_of before p ≡ Some other → Within before p) → (part : Part) → PartFits part before → old_record_of (entry_is.Base part ∷ before) p ≡ Some one → UpTo part p
    by on (part_is.Head entries last parts sheets) fits at = absurd (none-some one (sym (ap (λ j. old_record_of j p) fits.0) ∙ at))
    by on (part_is.Namespace ns) fits at = absurd (before_early before (part_is.Namespace ns) p (on one at) tt fits)
    by on (part_is.Root pid nonce args cause) fits at = elim (cases_eq p pid.0) [
      | inl same ↦ omega (arith, same)
      | inr differs ↦
          (let old = sym (cond-false (p == pid.0) (Some (old_record pid args cause)) (old_record_of before p) (ne_eqb p pid.0 differs)) ∙ at in
          let lt = before_root before p pid nonce args cause (on one old) fits.0 in omega (arith, lt))
    ]
    by on (part_is.Layout pid) fits at = tt
    by on part fits at = absurd (before_early before part p (on one at) tt fits.0)
within (entry ∷ before) legal p one is = tt

-- their numbers are those up to the last of the base
pub up_to_last : (J : Past) → IsLegal J → (p : ℕ) (one : Record) → old_record_of J p ≡ Some one → p ≤ offset J
up_to_last [] legal p one is = absurd (none-some one is)
up_to_last (entry_is.Base own ∷ before) legal p one is = by (up_to_last before legal.0 p one) own legal.1.0 is
  where
    low : (old_record_of before p ≡ Some one → p ≤ offset before) → old_record_of before p ≡ Some one → p ≤ made before
    low on at = let few = on at in let most = (grown_all before legal.0).low in omega (arith, few, most)

    by : (old_record_of before p ≡ Some one → p ≤ offset before) → (part : Part) → PartFits part before → old_record_of (entry_is.Base part ∷ before) p ≡ Some one → p ≤ offset (entry_is.Base part ∷ before)
    by on (part_is.Head entries last parts sheets) fits at = absurd (none-some one (sym (ap (λ j. old_record_of j p) fits.0) ∙ at))
    by on (part_is.Root pid nonce args cause) fits at = elim (cases_eq p pid.0) [
      | inl same ↦ (let few = fits.2 in omega (arith, same, few))
      | inr differs ↦ low on (sym (cond-false (p == pid.0) (Some (old_record pid args cause)) (old_record_of before p) (ne_eqb p pid.0 differs)) ∙ at)
    ]
    by on part fits at = low on at
up_to_last (entry ∷ before) legal p one is = up_to_last before legal.0 p one is

-- who is told under no number up to a last one isn't told under any
absent : (o : Option Record) → ((one : Record) → o ≡ Some one → ⊥) → o ≡ None
absent None never = refl
absent (Some one) never = absurd (never one refl)

-- a root more, behind those of lower numbers
one_more : (before : Past) (pid : Pid) (args : Args) (cause : Option Cause) (f : ℕ → Option Record) (n : ℕ) → 1 ≤ pid.0 → pid.0 ≤ n → f pid.0 ≡ Some (old_record pid args cause) → ((p : ℕ) → p ≢ pid.0 → f p ≡ old_record_of before p)
    → ((p : ℕ) (one : Record) → old_record_of before p ≡ Some one → p < pid.0) → filter_map (old_record_of before) (numbers_from 1 (pid.0 - 1)) ≡ old_records before
    → filter_map f (numbers_from 1 n) ≡ old_records before ++ old_record pid args cause ∷ []
one_more before pid args cause f n low high here else_where less was =
    let parted : n ≡ (pid.0 - 1) + suc (n - pid.0) = omega (arith, low, high) in
    let place : 1 + (pid.0 - 1) ≡ pid.0 = omega (arith, low) in
    ap (λ k. filter_map f (numbers_from 1 k)) parted
    ∙ ap (filter_map f) (numbers_joined 1 (pid.0 - 1) (suc (n - pid.0)))
    ∙ filter_map-append f (numbers_from 1 (pid.0 - 1)) (numbers_from (1 + (pid.0 - 1)) (suc (n - pid.0)))
    ∙ ap (λ l. l ++ filter_map f (numbers_from (1 + (pid.0 - 1)) (suc (n - pid.0)))) (alike f (old_record_of before) 1 (pid.0 - 1) (λ p a b. else_where p (λ e. omega (arith, b, e, low))) ∙ was)
    ∙ ap (λ k. old_records before ++ filter_map f (numbers_from k (suc (n - pid.0)))) place
    ∙ ap (λ o. old_records before ++ cons_option o (filter_map f (numbers_from (pid.0 + 1) (n - pid.0)))) here
    ∙ ap (λ l. old_records before ++ old_record pid args cause ∷ l) (nothing f (pid.0 + 1) (n - pid.0) (λ p a b. else_where p (λ e. omega (arith, a, e)) ∙ absent (old_record_of before p) (λ one at. let lt = less p one at in omega (arith, lt, a))))

-- the roots of a base are told by the numbers up to any that is no lower than theirs
old_told : (J : Past) → IsLegal J → (n : ℕ) → ((p : ℕ) (one : Record) → old_record_of J p ≡ Some one → p ≤ n) → filter_map (old_record_of J) (numbers_from 1 n) ≡ old_records J
old_told [] legal n most = nothing (old_record_of []) 1 n (λ p a b. refl)
old_told (entry_is.Base own ∷ before) legal n most = by (old_told before legal.0) own legal.1.0 most
  where
    by : ((m : ℕ) → ((p : ℕ) (one : Record) → old_record_of before p ≡ Some one → p ≤ m) → filter_map (old_record_of before) (numbers_from 1 m) ≡ old_records before) → (part : Part) → PartFits part before → ((p : ℕ) (one : Record) → old_record_of (entry_is.Base part ∷ before) p ≡ Some one → p ≤ n) → filter_map (old_record_of (entry_is.Base part ∷ before)) (numbers_from 1 n) ≡ old_records (entry_is.Base part ∷ before)
    by on (part_is.Root pid nonce args cause) fits most =
        let J = entry_is.Base (part_is.Root pid nonce args cause) ∷ before in
        let here = cond-true (pid.0 == pid.0) (Some (old_record pid args cause)) (old_record_of before pid.0) (eq-eqb pid.0 pid.0 refl) in
        let less : (p : ℕ) (one : Record) → old_record_of before p ≡ Some one → p < pid.0 = λ p one at. before_root before p pid nonce args cause (within before legal.0 p one at) fits.0 in
        one_more before pid args cause (old_record_of J) n fits.1 (most pid.0 (old_record pid args cause) here) here
        (λ p differs. cond-false (p == pid.0) (Some (old_record pid args cause)) (old_record_of before p) (ne_eqb p pid.0 differs))
        less
        (on (pid.0 - 1) (λ p one at. let lt = less p one at in omega (arith, lt)))
    by on part fits most = alike (old_record_of (entry_is.Base part ∷ before)) (old_record_of before) 1 n (λ p a b. refl) ∙ on n most
old_told (entry ∷ before) legal n most = alike (old_record_of (entry ∷ before)) (old_record_of before) 1 n (λ p a b. refl) ∙ old_told before legal.0 n most

pub roots_told : (J : Past) → IsLegal J → filter_map (old_record_of J) (numbers_from 1 (offset J)) ≡ old_records J
roots_told J legal = old_told J legal (offset J) (up_to_last J legal)
