-- The parts of the roots: of those of the base as they are shown, and of those that entries made, where all have ended.
use Rattle.std.proofs.Common.{◌≡◌, ℕ, zero, suc, ◌+◌, ◌-◌, ◌<◌, ◌≤◌, List, [], ◌∷◌, ◌++◌, length, map, filter, Bool, true, false, cond, drop, Option, Some, None, option_map, refl, ap, sym, ◌∙◌, inl, inr, arith}
use Rattle.std.specs.List.{flat_map}
use Rattle.std.specs.Cmp.{nat_cmp_is}
use Rattle.std.specs.Ordering.{nat_cmp}
use Rattle.std.specs.declared.cmp.Ordering.TheVariants.{Less}
use Rattle.std.proofs.lemmas.Bool.{cases_eq, false≢true}
use Rattle.std.proofs.lemmas.Cmp.{nat_cmp_total}
use Rattle.std.proofs.Math.Seq.{drop-append_seam}
use Rattle.std.proofs.lemmas.Grind.{flat_map-append}
use Rattle.std.proofs.lemmas.List.{append_assoc, length-append, length-map}
use Rattle.hm_names.specs.declared.nonce.Nonce.{Nonce}
use Rattle.hm_names.specs.declared.pid.Pid.{Pid}
use Rattle.hm_data.specs.declared.answer.Answer.{Answer}
use Rattle.hm_data.specs.declared.answer.Answer.TheVariants as answer_is
use Rattle.hm_data.specs.declared.answer.Cause.{Cause}
use Rattle.hm_data.specs.declared.entry.Entry.TheVariants as entry_is
use Rattle.hm_data.specs.declared.part.Part.{Part}
use Rattle.hm_data.specs.declared.part.Part.TheVariants as part_is
use Rattle.hm_data.specs.declared.record.Record.{Record}
use Rattle.hm_model.specs.Answers.{done_with, is_stopped, last_answer}
use Rattle.hm_model.specs.Image.{nonce_of, numbers_of, old_roots, root_parts, root_parts_by}
use Rattle.hm_model.specs.Journal.{Past}
use Rattle.hm_model.specs.Locks.{IsIn}
use Rattle.hm_model.specs.OldRoots.{old_phase, old_record, old_records}
use Rattle.hm_model.specs.Phase.{cause, children_ended, ended_node, own_phase, phase, phase_table, rolled_back, root_over}
use Rattle.hm_model.specs.Pieces.{numbers_from}
use Rattle.hm_model.specs.Procedures.{offset}
use Rattle.hm_model.specs.Rebase.{under_way}
use Rattle.hm_model.specs.Records.{record_at, record_of}
use Rattle.hm_model.specs.Rules.{IsLegal}
use Rattle.hm_model.specs.Tree.{Node, is_root, is_root_in, is_top, made, node_of, pid_of}
use Rattle.hm_model.proofs.Grown.{grown_all}
use Rattle.hm_model.proofs.Small.{top_is}
use Rattle.hm_model.proofs.Trees.{grown_all as trees_grown, is_there}
use Rattle.hm_procedures.specs.Procedures.{roots}
use Rattle.hm_rebase.proofs.Bounds.{above_base}
use Rattle.hm_rebase.proofs.Imaged.{first_rising}
use Rattle.hm_rebase.proofs.Laid.{first_has}
use Rattle.hm_rebase.proofs.Orders.{AllLater, InOrder, same_kept}
use Rattle.hm_rebase.proofs.Shown.{flat_map_kept, is_some_of, order_rising}
use Rattle.hm_rebase.proofs.Still.{still}
use Rattle.hm_records.specs.Lists.{nonces_in, own_nonces, root_nonces}
use Rattle.hm_image.specs.Roots.{cause_told, made_told, one_told, roots_told}

-- the parts are of roots
abbrev IsRootPart : Part → Type 0
IsRootPart (part_is.Root pid nonce args cause) = Unit {0}
IsRootPart part = ⊥

abbrev AreRoots : List Part → Type 0
AreRoots [] = Unit {0}
AreRoots (part ∷ more) = IsRootPart part × AreRoots more

-- a part's root as it is shown, if the part is of one
abbrev record_in : Part → List Record
record_in (part_is.Root pid nonce args cause) = old_record pid args cause ∷ []
record_in part = []

roots_more : (parts : List Part) (part : Part) → AreRoots parts → IsRootPart part → AreRoots (parts ++ (part ∷ []))
roots_more [] part are is = (is, tt)
roots_more (first ∷ more) part are is = (are.0, roots_more more part are.1 is)

old_are : (J : Past) → AreRoots (old_roots J)
old_are [] = tt
old_are (entry_is.Base (part_is.Root pid nonce args cause) ∷ J) = roots_more (old_roots J) (part_is.Root pid nonce args cause) (old_are J) tt
old_are (entry_is.Base part ∷ J) = old_are J
old_are (entry ∷ J) = old_are J

records_are : (J : Past) → old_records J ≡ flat_map record_in (old_roots J)
records_are [] = refl
records_are (entry_is.Base (part_is.Root pid nonce args cause) ∷ J) =
    ap (λ l. l ++ (old_record pid args cause ∷ [])) (records_are J)
    ∙ sym (flat_map-append record_in (old_roots J) (part_is.Root pid nonce args cause ∷ []))
records_are (entry_is.Base part ∷ J) = records_are J
records_are (entry ∷ J) = records_are J

cause_back : (c : Option Cause) → cause_told (old_phase c) ≡ c
cause_back None = refl
cause_back (Some c) = refl

told_zip : (parts : List Part) (rest : List Nonce) → AreRoots parts → roots_told (flat_map record_in parts) (flat_map nonces_in parts ++ rest) ≡ parts
told_zip [] rest are = refl
told_zip (part_is.Root pid nonce args cause ∷ more) rest are =
    ap (λ c. part_is.Root pid nonce args c ∷ roots_told (flat_map record_in more) (flat_map nonces_in more ++ rest)) (cause_back cause)
    ∙ ap (λ l. part_is.Root pid nonce args cause ∷ l) (told_zip more rest are.1)
told_zip (part ∷ more) rest are = absurd are.0

-- the parts of the roots of the base
pub old_told : (J : Past) → roots_told (old_records J) (root_nonces J) ≡ old_roots J
old_told J = ap (λ l. roots_told l (root_nonces J)) (records_are J) ∙ told_zip (old_roots J) (own_nonces J) (old_are J)

as_many : (parts : List Part) → AreRoots parts → length (flat_map record_in parts) ≡ length (flat_map nonces_in parts)
as_many [] are = refl
as_many (part_is.Root pid nonce args cause ∷ more) are = ap (λ n. suc n) (as_many more are.1)
as_many (part ∷ more) are = absurd are.0

pub old_count : (J : Past) → length (old_records J) ≡ length (flat_map nonces_in (old_roots J))
old_count J = ap length (records_are J) ∙ as_many (old_roots J) (old_are J)

-- the cause of a root that has ended, by its phase
told_cause : (c : Option Cause) (rolled : Bool) (last : Option Answer) (kids : Bool) → root_over c rolled (done_with last) ≡ true → cause_told (phase_table c rolled true (own_phase last kids)) ≡ c
told_cause (Some c) true last kids over = refl
told_cause (Some c) false last kids over = absurd (false≢true over)
told_cause None rolled None kids over = absurd (false≢true over)
told_cause None rolled (Some (answer_is.Done told)) kids over = refl
told_cause None rolled (Some (answer_is.More next)) kids over = absurd (false≢true over)
told_cause None rolled (Some (answer_is.Wait next)) kids over = absurd (false≢true over)
told_cause None rolled (Some (answer_is.Await next)) kids over = absurd (false≢true over)
told_cause None rolled (Some (answer_is.Fail why)) kids over = absurd (false≢true over)
told_cause None rolled (Some answer_is.Undone) kids over = absurd (false≢true over)

-- numbers from one on are in order, and each is among them
later_from : (n first count : ℕ) → n < first → AllLater nat_cmp n (numbers_from first count)
later_from n first zero lt = tt
later_from n first (suc count) lt = (sym (nat_cmp_is n first Less lt), later_from n (first + 1) count (omega (arith, lt)))

order_from : (first count : ℕ) → InOrder nat_cmp (numbers_from first count)
order_from first zero = tt
order_from first (suc count) = (later_from first (first + 1) count (omega arith), order_from (first + 1) count)

has_from : (first count p : ℕ) → first ≤ p → p < first + count → IsIn p (numbers_from first count)
has_from first zero p le lt = absurd (omega (arith, le, lt))
has_from first (suc count) p le lt = elim (cases_eq p first) [
  | inl same ↦ inl same
  | inr differs ↦ inr (has_from (first + 1) count p (omega (arith, le, differs)) (omega (arith, lt)))
]

-- what those give that pass a test is what all give, where the others give nothing
kept_map : (test : ℕ → Bool) (F G : ℕ → List Part) → ((p : ℕ) → test p ≡ true → F p ≡ G p) → ((p : ℕ) → test p ≡ false → G p ≡ []) → (list : List ℕ) → flat_map F (filter test list) ≡ flat_map G list
kept_map test F G same bare [] = refl
kept_map test F G same bare (p ∷ more) = by (test p) refl (filter test more) (kept_map test F G same bare more)
  where
    by : (b : Bool) → test p ≡ b → (kept : List ℕ) → flat_map F kept ≡ flat_map G more → flat_map F (cond b (p ∷ kept) kept) ≡ G p ++ flat_map G more
    by true on kept rest = ap (λ l. l ++ flat_map F kept) (same p on) ∙ ap (λ l. G p ++ l) rest
    by false off kept rest = rest ∙ ap (λ l. l ++ flat_map G more) (sym (bare p off))

made_zip : (found : ℕ → Option Record) (nonce : ℕ → Nonce) (numbers : List ℕ) → made_told found (map pid_of numbers) (map (λ root. nonce root.0) (map pid_of numbers)) ≡ flat_map (λ p. one_told (found p) (nonce p)) numbers
made_zip found nonce [] = refl
made_zip found nonce (p ∷ more) = ap (λ l. one_told (found p) (nonce p) ++ l) (made_zip found nonce more)

module _ (J : Past) (legal : IsLegal J) (none : under_way J ≡ 0) where
  abbrev own : ℕ → List Part
  own p = root_parts_by J p (node_of J p)

  -- a root is told as it is shown
  root_one : (p : ℕ) → is_root J p ≡ true → one_told (record_of J p) (nonce_of J p) ≡ own p
  root_one p root = by (node_of J p) refl root
    where
      by : (o : Option Node) → node_of J p ≡ o → is_root_in o ≡ true → one_told (option_map (record_at J p) o) (nonce_of J p) ≡ root_parts_by J p o
      by None is root = absurd (false≢true root)
      by (Some node) is root =
          let top : node.root ≡ p = (trees_grown J legal).tops p node is (top_is node.above root) in
          let over : root_over (cause J p) (rolled_back J p) (done_with (last_answer J p)) ≡ true =
          sym (ap (λ b. cond b (root_over (cause J p) (rolled_back J p) (done_with (last_answer J p))) (is_stopped (last_answer J p))) root) ∙ sym (ap (ended_node J p) is) ∙ still J legal none p node is in
          let told : cause_told (phase J p node) ≡ cause J p =
          ap (λ r. cause_told (phase_table (cause J r) (rolled_back J r) (is_top node.above) (own_phase (last_answer J p) (children_ended J p)))) top
          ∙ ap (λ b. cause_told (phase_table (cause J p) (rolled_back J p) b (own_phase (last_answer J p) (children_ended J p)))) root
          ∙ told_cause (cause J p) (rolled_back J p) (last_answer J p) (children_ended J p) over in
          ap (λ c. part_is.Root (pid_of p) (nonce_of J p) node.args c ∷ []) told
          ∙ sym (ap (λ b. cond b (part_is.Root (pid_of p) (nonce_of J p) node.args (cause J p) ∷ []) []) root)

  other_none : (p : ℕ) → is_root J p ≡ false → own p ≡ []
  other_none p off = by (node_of J p) off
    where
      by : (o : Option Node) → is_root_in o ≡ false → root_parts_by J p o ≡ []
      by None off = refl
      by (Some node) off = ap (λ b. cond b (part_is.Root (pid_of p) (nonce_of J p) node.args (cause J p) ∷ []) []) off

  own_there : (p : ℕ) → is_some_of (own p) ≡ true → (offset J < p) × (p ≤ made J)
  own_there p some = by (node_of J p) refl some
    where
      by : (o : Option Node) → node_of J p ≡ o → is_some_of (root_parts_by J p o) ≡ true → (offset J < p) × (p ≤ made J)
      by None is some = absurd (false≢true some)
      by (Some node) is some = (above_base J legal p node is, is_there J (trees_grown J legal) p node is)

  in_numbers : (p : ℕ) → is_some_of (own p) ≡ true → IsIn p (numbers_of J)
  in_numbers p some = (let at = own_there p some in let low = at.0 in let high = at.1 in first_has J (made J - offset J) p low (omega (arith, low, high)))

  in_all : (p : ℕ) → is_some_of (own p) ≡ true → IsIn p (numbers_from 1 (made J))
  in_all p some = (let at = own_there p some in let low = at.0 in let high = at.1 in has_from 1 (made J) p (omega (arith, low)) (omega (arith, high)))

  numbers_order : InOrder nat_cmp (numbers_of J)
  numbers_order = (let low = (grown_all J legal).low in order_rising (offset J) (made J) (numbers_of J) (first_rising J (made J - offset J) (made J) (omega (arith, low))).0)

  -- the parts of the roots that entries made
  pub new_told : made_told (record_of J) (roots J) (own_nonces J) ≡ flat_map own (numbers_of J)
  new_told =
      made_zip (record_of J) (nonce_of J) (filter (is_root J) (numbers_from 1 (made J)))
      ∙ kept_map (is_root J) (λ p. one_told (record_of J p) (nonce_of J p)) own root_one other_none (numbers_from 1 (made J))
      ∙ flat_map_kept own (numbers_from 1 (made J))
      ∙ ap (flat_map own) (same_kept nat_cmp nat_cmp_total (λ p. is_some_of (own p)) (numbers_from 1 (made J)) (numbers_of J) (order_from 1 (made J)) numbers_order in_all in_numbers)
      ∙ sym (flat_map_kept own (numbers_of J))

  -- the parts of all roots, as they are added: those of the base, and those that entries made
  pub roots_added : (P : Past) → P ≡ J → (old : List Record) → old ≡ old_records P → (nonces rest : List Nonce) → nonces ≡ root_nonces J → rest ≡ drop (length old) nonces → (pids : List Pid) → pids ≡ roots P
      → (before one two : List Part) → one ≡ before ++ roots_told old nonces → two ≡ one ++ made_told (record_of P) pids rest → two ≡ before ++ root_parts J
  roots_added P same old old_is nonces rest nonces_are rest_is pids pids_are before one two first second =
      second
      ∙ ap (λ l. l ++ made_told (record_of P) pids rest) first
      ∙ append_assoc before (roots_told old nonces) (made_told (record_of P) pids rest)
      ∙ ap (λ l. before ++ (l ++ made_told (record_of P) pids rest)) olds
      ∙ ap (λ l. before ++ (old_roots J ++ l)) news
    where
      olds : roots_told old nonces ≡ old_roots J
      olds = ap (λ l. roots_told l nonces) (old_is ∙ ap old_records same) ∙ ap (roots_told (old_records J)) nonces_are ∙ old_told J

      behind : rest ≡ own_nonces J
      behind =
          rest_is
          ∙ ap (λ n. drop n nonces) (ap length (old_is ∙ ap old_records same) ∙ old_count J)
          ∙ ap (drop (length (flat_map nonces_in (old_roots J)))) nonces_are
          ∙ drop-append_seam (flat_map nonces_in (old_roots J)) (own_nonces J)

      news : made_told (record_of P) pids rest ≡ flat_map own (numbers_of J)
      news =
          ap (λ (K : Past). made_told (record_of K) pids rest) same
          ∙ ap (λ l. made_told (record_of J) l rest) (pids_are ∙ ap roots same)
          ∙ ap (made_told (record_of J) (roots J)) behind
          ∙ new_told

-- there are enough nonces
pub old_fit : (J P : Past) → P ≡ J → (old : List Record) → old ≡ old_records P → (nonces : List Nonce) → nonces ≡ root_nonces J → length old ≤ length nonces
old_fit J P same old old_is nonces nonces_are =
    let count : length old ≡ length (flat_map nonces_in (old_roots J)) = ap length (old_is ∙ ap old_records same) ∙ old_count J in
    let all : length nonces ≡ length (flat_map nonces_in (old_roots J)) + length (own_nonces J) = ap length nonces_are ∙ length-append (flat_map nonces_in (old_roots J)) (own_nonces J) in
    omega (arith, count, all)

pub made_fit : (J P : Past) → P ≡ J → (old : List Record) → old ≡ old_records P → (nonces rest : List Nonce) → nonces ≡ root_nonces J → length rest + length old ≡ length nonces → (pids : List Pid) → pids ≡ roots P → length pids ≤ length rest
made_fit J P same old old_is nonces rest nonces_are parted pids pids_are =
    let count : length old ≡ length (flat_map nonces_in (old_roots J)) = ap length (old_is ∙ ap old_records same) ∙ old_count J in
    let all : length nonces ≡ length (flat_map nonces_in (old_roots J)) + length (own_nonces J) = ap length nonces_are ∙ length-append (flat_map nonces_in (old_roots J)) (own_nonces J) in
    let many : length (own_nonces J) ≡ length (roots J) = length-map (roots J) (λ root. nonce_of J root.0) in
    let one : length pids ≡ length (roots J) = ap length (pids_are ∙ ap roots same) in
    omega (arith, count, all, many, one, parted)
