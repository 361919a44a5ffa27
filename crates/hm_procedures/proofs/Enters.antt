-- What is kept, after entries that are no step: new procedures, reports, aborts, and entries that change nothing of it.
use Rattle.std.proofs.Common.{◌≡◌, ◌≢◌, ℕ, suc, ◌+◌, ◌-◌, ◌<◌, ◌≤◌, ◌==◌, List, [], ◌∷◌, ◌++◌, Bool, true, not, ◌&&◌, Option, Some, None, length, map, slice_get, refl, ap, sym, ◌∙◌, inl, inr, arith, length-append}
use Rattle.std.specs.Option.{option_map}
use Rattle.std.proofs.lemmas.Bool.{cases_Bool, cases_eq, cases_lt}
use Rattle.std.proofs.lemmas.Option.{none-some, same_Some, slice_get-map, slice_get_past}
use Rattle.hm_names.specs.Server.{Server}
use Rattle.hm_names.specs.declared.nonce.Nonce.{Nonce}
use Rattle.hm_names.specs.declared.pid.Pid.{Pid}
use Rattle.hm_data.specs.declared.args.Args.{Args}
use Rattle.hm_data.specs.declared.args.Args.TheVariants as args_are
use Rattle.hm_data.specs.declared.call.Told.{Told}
use Rattle.hm_data.specs.declared.entry.Entry.{Entry}
use Rattle.hm_data.specs.declared.entry.Entry.TheVariants as entry_is
use Rattle.hm_data.specs.declared.record.Phase.{Phase}
use Rattle.hm_data.specs.declared.record.Phase.TheVariants as phase_is
use Rattle.hm_data.specs.declared.request.Request.{Request}
use Rattle.hm_data.specs.declared.sheet.Sheet.{Sheet}
use Rattle.hm_data.specs.declared.part.Part.{Part}
use Rattle.hm_model.specs.Apart.{tree_of}
use Rattle.hm_model.specs.Base.{PartFits}
use Rattle.hm_model.specs.Editions.{edition_of, editions}
use Rattle.hm_model.specs.Journal.{Past}
use Rattle.hm_model.specs.Kinds.{table_of_request}
use Rattle.hm_model.specs.Phase.{ended, phase}
use Rattle.hm_model.specs.Procedures.{offset}
use Rattle.hm_model.specs.Records.{unfinished}
use Rattle.hm_model.specs.Rules.{IsLegal}
use Rattle.hm_model.specs.Tree.{Node, first_of, is_root, is_root_in, is_top, made, node_of, root_node}
use Rattle.hm_model.proofs.Editions.{made_in_force}
use Rattle.hm_model.proofs.Forest.{rooted_all}
use Rattle.hm_model.proofs.Grown.{down_new, down_old, grown_all, made_up_to, submit_new, submit_old}
use Rattle.hm_model.proofs.Parted.{by_parts, count_none}
use Rattle.hm_procedures.specs.Book.{IsRooting}
use Rattle.hm_procedures.specs.Changes.{aborted, added, fresh, reported}
use Rattle.hm_procedures.specs.Kept.{IsKept, args_made, kept_at, kept_in, kept_of, root_shown}
use Rattle.hm_procedures.specs.declared.kept.Tracked.{Tracked}
use Rattle.hm_procedures.proofs.Blank.{IsBlank, blank_new}
use Rattle.hm_procedures.proofs.Counts.{all_stay, closed, is_open, no_root, open_root}
use Rattle.hm_procedures.proofs.Facts.{fresh_root, on_abort, on_report, still_adopt, still_down, still_start, still_submit, still_up}
use Rattle.hm_procedures.proofs.Firsts.{none_low}
use Rattle.hm_procedures.proofs.InTrees.{others, others_end, root_runs}
use Rattle.hm_procedures.proofs.Places.{length-added, slice_get-added, slice_get-high, slice_get-low}

-- lists that are told item by item are as long
pub same_length : {X Y : Type 0} (f : ℕ → Y → X) (xs : List X) (ys : List Y) → ((q : ℕ) → slice_get xs q ≡ option_map (f q) (slice_get ys q)) → length xs ≡ length ys
same_length f [] [] each = refl
same_length f [] (y ∷ ys) each = absurd (none-some (f 0 y) (each 0))
same_length f (x ∷ xs) [] each = absurd (none-some x (sym (each 0)))
same_length f (x ∷ xs) (y ∷ ys) each = ap suc (same_length (λ q. f (suc q)) xs ys (λ q. each (suc q)))

pub roots_added : (roots : List Pid) (mid more : List Tracked) → ((q : ℕ) → slice_get roots q ≡ option_map root_shown (slice_get mid q)) → (q : ℕ) → slice_get (roots ++ map root_shown more) q ≡ option_map root_shown (slice_get (mid ++ more) q)
roots_added roots mid more each q =
    let long : length roots ≡ length mid = same_length (λ i. root_shown) roots mid each in
    elim (cases_lt q (length mid)) [
      | inl lt ↦ slice_get-low roots (map root_shown more) q (omega (arith, lt, long)) ∙ each q ∙ sym (ap (option_map root_shown) (slice_get-low mid more q lt))
      | inr le ↦
          slice_get-high roots (map root_shown more) q (omega (arith, le, long))
          ∙ ap (λ n. slice_get (map root_shown more) (q - n)) long
          ∙ slice_get-map root_shown more (q - length mid)
          ∙ sym (ap (option_map root_shown) (slice_get-high mid more q le))
    ]

-- procedures, each in a phase
abbrev pub shown_as : (ℕ → Node → Phase) → Past → ℕ → Option Tracked
shown_as phases J p = option_map (λ x. kept_in (phases p x) J p x) (node_of J p)

-- those that were there, and those that an entry makes, numbered after n
module _ (J' : Past) (from n : ℕ) (up : Option (Pid × Pid)) (edition : ℕ) (make : ℕ → Args → Node)
    (fresh_is : (p : ℕ) (args : Args) → n < p → node_of J' p ≡ Some (make p args) → IsBlank J' p → kept_in phase_is.Runnable J' p (make p args) ≡ fresh p up edition args)
    (phases : ℕ → Node → Phase) (kept : List Tracked) (long : from + length kept ≡ n) (made : List Args) where
  pub more_made : ((q : ℕ) → q < length kept → slice_get kept q ≡ shown_as phases J' (from + q + 1)) → ((p : ℕ) → n < p → node_of J' p ≡ option_map (make p) (slice_get made (p - n - 1))) → ((p : ℕ) → n < p → IsBlank J' p)
      → ((p : ℕ) (x : Node) → n < p → node_of J' p ≡ Some x → phases p x ≡ phase_is.Runnable)
      → (q : ℕ) → slice_get (kept ++ added n up edition made) q ≡ shown_as phases J' (from + q + 1)
  more_made old new blank runs q = elim (cases_lt q (length kept)) [
    | inl lt ↦ slice_get-low kept (added n up edition made) q lt ∙ old q lt
    | inr le ↦ (let number : n + (q - length kept) + 1 ≡ from + q + 1 = omega (arith, le, long) in
        let place : q - length kept ≡ from + q + 1 - n - 1 = omega (arith, le, long) in
        let behind : n < from + q + 1 = omega (arith, le, long) in
        slice_get-high kept (added n up edition made) q le
        ∙ slice_get-added n up edition made (q - length kept)
        ∙ ap (λ k. option_map (fresh k up edition) (slice_get made (q - length kept))) number
        ∙ ap (λ k. option_map (fresh (from + q + 1) up edition) (slice_get made k)) place
        ∙ by (from + q + 1) behind (slice_get made (from + q + 1 - n - 1)) (new (from + q + 1) behind))
  ]
    where
      by : (p : ℕ) → n < p → (o : Option Args) → node_of J' p ≡ option_map (make p) o → option_map (fresh p up edition) o ≡ shown_as phases J' p
      by p lt None e = sym (ap (option_map (λ x. kept_in (phases p x) J' p x)) e)
      by p lt (Some args) e =
          sym (ap (option_map (λ x. kept_in (phases p x) J' p x)) e
          ∙ ap (λ f. Some (kept_in f J' p (make p args))) (runs p (make p args) lt e)
          ∙ ap Some (fresh_is p args lt e (blank p lt)))

-- the number of those that are kept now
pub count_more : (kept : List Tracked) (n : ℕ) (up : Option (Pid × Pid)) (edition : ℕ) (made : List Args) → length (kept ++ added n up edition made) ≡ length kept + length made
count_more kept n up edition made = length-append kept (added n up edition made) ∙ ap (λ k. length kept + k) (length-added n up edition made)

-- the root that an entry makes
pub one_new : (J J' : Past) → IsLegal J → (args : Args) (first : ℕ) → ((q : ℕ) → q ≢ made J + 1 → node_of J' q ≡ node_of J q) → ((q : ℕ) → q ≡ made J + 1 → node_of J' q ≡ Some (root_node q args first))
    → (p : ℕ) → made J < p → node_of J' p ≡ option_map (λ a. root_node p a first) (slice_get (args ∷ []) (p - made J - 1))
one_new J J' legal args first old new p lt = elim (cases_eq p (made J + 1)) [
  | inl same ↦ (let e : p - made J - 1 ≡ 0 = omega (arith, same) in new p same ∙ sym (ap (λ i. option_map (λ a. root_node p a first) (slice_get (args ∷ []) i)) e))
  | inr far ↦ (let e : p - made J - 1 ≡ suc (p - made J - 2) = omega (arith, lt, far) in
      old p far ∙ (grown_all J legal).numbered p lt ∙ sym (ap (λ i. option_map (λ a. root_node p a first) (slice_get (args ∷ []) i)) e))
]

-- who is there has a number behind the offset
pub behind_low : (J : Past) → IsLegal J → (p : ℕ) (x : Node) → node_of J p ≡ Some x → offset J < p
behind_low J legal p x is = elim (cases_lt (offset J) p) [
  | inl lt ↦ lt
  | inr le ↦ absurd (none-some x (sym (none_low J legal p le) ∙ is))
]

-- the root of who is there was made
pub root_within : (J : Past) → IsLegal J → (p : ℕ) (x : Node) → node_of J p ≡ Some x → x.root ≤ made J
root_within J legal p x is = let root = rooted_all J legal p x is in (made_up_to J (grown_all J legal) x.root root.root root.there).1

-- an entry that makes a root of its own
module _ (entry : Entry) (J : Past) (legal : IsLegal (entry ∷ J)) (off_is : offset (entry ∷ J) ≡ offset J) (kept : List Tracked) (roots : List Pid) (left : ℕ) (was : IsKept J kept roots left) (args : Args) (first : ℕ)
    (tree : tree_of J entry ≡ made J + 1) (made_is : made (entry ∷ J) ≡ made J + 1)
    (old : (q : ℕ) → q ≢ made J + 1 → node_of (entry ∷ J) q ≡ node_of J q) (new : (q : ℕ) → q ≡ made J + 1 → node_of (entry ∷ J) q ≡ Some (root_node q args first))
    (still : (shown : Phase) (p : ℕ) (x : Node) → x.root ≤ made J → kept_in shown (entry ∷ J) p x ≡ kept_in shown J p x) where
  abbrev now : Past
  now = entry ∷ J

  abbrev made_now : List Args
  made_now = args ∷ []

  low_root : (p : ℕ) (x : Node) → node_of J p ≡ Some x → x.root ≢ made J + 1
  low_root p x is e = let few = root_within J legal.0 p x is in omega (arith, few, e)

  old_kept : (q : ℕ) → q < length kept → slice_get kept q ≡ kept_of now (offset J + q + 1)
  old_kept q lt =
      was.kept_are q ∙ by (offset J + q + 1) (node_of J (offset J + q + 1)) refl
      ∙ sym (ap (option_map (kept_at now (offset J + q + 1))) (old (offset J + q + 1) (λ e. let count = was.count in omega (arith, lt, e, count))))
    where
      by : (p : ℕ) (o : Option Node) → node_of J p ≡ o → option_map (kept_at J p) o ≡ option_map (kept_at now p) o
      by p None e = refl
      by p (Some x) e = ap Some (sym (ap (λ f. kept_in f now p x) (others entry J legal (made J + 1) tree p x e (low_root p x e)) ∙ still (phase J p x) p x (root_within J legal.0 p x e)))

  new_runs : (p : ℕ) (x : Node) → made J < p → node_of now p ≡ Some x → phase now p x ≡ phase_is.Runnable
  new_runs p x lt is = elim (cases_eq p (made J + 1)) [
    | inl same ↦ ap (phase now p) (same_Some x (root_node p args first) (sym is ∙ new p same)) ∙ root_runs now p args first (blank_new entry J legal p lt)
    | inr far ↦ absurd (none-some x (sym (old p far ∙ (grown_all J legal.0).numbered p lt) ∙ is))
  ]

  open_same : (q : ℕ) → q ≤ made J → is_open now q ≡ is_open J q
  open_same q le = by (node_of J q) refl
    where
      here : node_of now q ≡ node_of J q
      here = old q (λ e. omega (arith, le, e))

      by : (o : Option Node) → node_of J q ≡ o → is_open now q ≡ is_open J q
      by None e = closed now q (here ∙ e) ∙ sym (closed J q e)
      by (Some x) e = elim (cases_Bool (is_top x.above)) [
        | inl top ↦
            ap (λ n. is_root_in n && not (ended now q)) here
            ∙ ap (λ b. is_root J q && not b) (others_end entry J legal (made J + 1) tree q x e top (λ same. omega (arith, le, same)))
        | inr below ↦ no_root now q x (here ∙ e) below ∙ sym (no_root J q x e below)
      ]

  -- in the edition in force
  new_edition : (p : ℕ) → made J < p → (x : Node) → node_of now p ≡ Some x → is_top x.above ≡ true → edition_of now p ≡ editions J
  new_edition p lt x is top = (made_in_force entry J legal p lt (ap is_root_in is ∙ top)).1

  pub rooted_kept : IsKept now (kept ++ added (made J) None (editions J) made_now) (roots ++ map root_shown (added (made J) None (editions J) made_now)) (left + 1)
  rooted_kept = record {
    legal = legal;
    count = (let long = count_more kept (made J) None (editions J) made_now in let count = was.count in omega (arith, long, count, made_is, off_is));
    kept_are = λ q.
        more_made now (offset J) (made J) None (editions J) (λ p a. root_node p a first) (λ p a lt is blank. fresh_root now p a first (editions J) (new_edition p lt (root_node p a first) is refl) blank) (phase now) kept was.count made_now old_kept (one_new J now legal.0 args first old new) (λ p lt. blank_new entry J legal p lt) new_runs q
        ∙ ap (λ n. kept_of now (n + q + 1)) (sym off_is);
    roots_are = roots_added roots kept (added (made J) None (editions J) made_now) was.roots_are;
    left_are = ap (λ n. n + 1) was.left_are ∙ sym (all_stay J now 1 made_is true (λ q lt le. open_root now q (root_node q args first) (new q (omega (arith, lt, le))) refl (blank_new entry J legal q lt)) open_same);
  }

-- before a part of a base entries made nobody, and nobody is unfinished
pub none_made : (part : Part) (before : Past) → PartFits part before → made before ≡ offset before
none_made = by_parts (λ J. made J ≡ offset J) refl (λ own older. refl)

none_unfinished : (part : Part) (before : Past) → PartFits part before → unfinished before ≡ 0
none_unfinished = by_parts (λ J. unfinished J ≡ 0) refl (λ own older. count_none (made (entry_is.Base own ∷ older) + 1))

-- entries that make nothing: what is kept stays, or is changed of one
module _ (J : Past) (kept : List Tracked) (roots : List Pid) (left : ℕ) (was : IsKept J kept roots left) where
  pub start_kept : (sheets : List Sheet) → IsLegal (entry_is.Start sheets ∷ J) → IsKept (entry_is.Start sheets ∷ J) kept roots left
  start_kept sheets legal = record { legal = legal; count = was.count; kept_are = λ q. was.kept_are q ∙ by (offset J + q + 1) (node_of J (offset J + q + 1)); roots_are = was.roots_are; left_are = was.left_are }
    where
      by : (p : ℕ) (o : Option Node) → option_map (kept_at J p) o ≡ option_map (kept_at (entry_is.Start sheets ∷ J) p) o
      by p None = refl
      by p (Some x) = ap Some (sym (still_start (phase J p x) J p x sheets legal))

  pub up_kept : (server : Server) → IsLegal (entry_is.Up server ∷ J) → IsKept (entry_is.Up server ∷ J) kept roots left
  up_kept server legal = record { legal = legal; count = was.count; kept_are = λ q. was.kept_are q ∙ by (offset J + q + 1) (node_of J (offset J + q + 1)); roots_are = was.roots_are; left_are = was.left_are }
    where
      by : (p : ℕ) (o : Option Node) → option_map (kept_at J p) o ≡ option_map (kept_at (entry_is.Up server ∷ J) p) o
      by p None = refl
      by p (Some x) = ap Some (sym (still_up (phase J p x) J p x server legal))

  pub adopt_kept : (sheets : List Sheet) → IsLegal (entry_is.Adopt sheets ∷ J) → IsKept (entry_is.Adopt sheets ∷ J) kept roots left
  adopt_kept sheets legal = record { legal = legal; count = was.count; kept_are = λ q. was.kept_are q ∙ by (offset J + q + 1) (node_of J (offset J + q + 1)); roots_are = was.roots_are; left_are = was.left_are }
    where
      by : (p : ℕ) (o : Option Node) → option_map (kept_at J p) o ≡ option_map (kept_at (entry_is.Adopt sheets ∷ J) p) o
      by p None = refl
      by p (Some x) = ap Some (sym (still_adopt (phase J p x) J p x sheets legal))

  -- before a part of a base nobody is kept
  pub part_none : (part : Part) → IsLegal (entry_is.Base part ∷ J) → length kept ≡ 0
  part_none part legal = let count = was.count in let none = none_made part J legal.1.0 in omega (arith, count, none)

  pub part_kept : (part : Part) → IsLegal (entry_is.Base part ∷ J) → IsKept (entry_is.Base part ∷ J) kept roots left
  part_kept part legal =
      let none = part_none part legal in
      record {
        legal = legal;
        count = omega (arith, none);
        kept_are = λ q. slice_get_past kept q (omega (arith, none));
        roots_are = was.roots_are;
        left_are = was.left_are ∙ none_unfinished part J legal.1.0 ∙ sym (count_none (made (entry_is.Base part ∷ J) + 1));
      }

  pub report_kept : (call : Pid) (told : Told) → IsLegal (entry_is.Report call told ∷ J) → (new : List Tracked)
      → ((q : ℕ) → slice_get new q ≡ option_map (reported (offset J + q + 1 == call.0) told) (slice_get kept q)) → IsKept (entry_is.Report call told ∷ J) new roots left
  report_kept call told legal new each = record {
    legal = legal;
    count = ap (λ n. offset J + n) (same_length (λ q. reported (offset J + q + 1 == call.0) told) new kept each) ∙ was.count;
    kept_are = λ q. each q ∙ ap (option_map (reported (offset J + q + 1 == call.0) told)) (was.kept_are q) ∙ by (offset J + q + 1) (node_of J (offset J + q + 1));
    roots_are = λ q. was.roots_are q ∙ same (offset J + q + 1 == call.0) (slice_get kept q) ∙ sym (ap (option_map root_shown) (each q));
    left_are = was.left_are;
  }
    where
      by : (p : ℕ) (o : Option Node) → option_map (reported (p == call.0) told) (option_map (kept_at J p) o) ≡ option_map (kept_at (entry_is.Report call told ∷ J) p) o
      by p None = refl
      by p (Some x) = ap Some (sym (on_report (phase J p x) J p x call told legal))

      same : (b : Bool) (o : Option Tracked) → option_map root_shown o ≡ option_map root_shown (option_map (reported b told) o)
      same b None = refl
      same b (Some one) = refl

  pub abort_kept : (pid : Pid) → IsLegal (entry_is.Abort pid ∷ J) → (new : List Tracked)
      → ((q : ℕ) → slice_get new q ≡ option_map (aborted (offset J + q + 1 == pid.0)) (slice_get kept q)) → IsKept (entry_is.Abort pid ∷ J) new roots left
  abort_kept pid legal new each = record {
    legal = legal;
    count = ap (λ n. offset J + n) (same_length (λ q. aborted (offset J + q + 1 == pid.0)) new kept each) ∙ was.count;
    kept_are = λ q. each q ∙ ap (option_map (aborted (offset J + q + 1 == pid.0))) (was.kept_are q) ∙ by (offset J + q + 1) (node_of J (offset J + q + 1));
    roots_are = λ q. was.roots_are q ∙ same (offset J + q + 1 == pid.0) (slice_get kept q) ∙ sym (ap (option_map root_shown) (each q));
    left_are = was.left_are;
  }
    where
      by : (p : ℕ) (o : Option Node) → option_map (aborted (p == pid.0)) (option_map (kept_at J p) o) ≡ option_map (kept_at (entry_is.Abort pid ∷ J) p) o
      by p None = refl
      by p (Some x) = ap Some (sym (on_abort (phase J p x) J p x pid legal))

      same : (b : Bool) (o : Option Tracked) → option_map root_shown o ≡ option_map root_shown (option_map (aborted b) o)
      same b None = refl
      same b (Some one) = refl

  pub submit_kept : (nonce : Nonce) (request : Request) → IsLegal (entry_is.Submit nonce request ∷ J)
      → let args : Args = args_are.Root request (first_of J (table_of_request request)) in IsKept (entry_is.Submit nonce request ∷ J) (kept ++ added (made J) None (editions J) (args ∷ [])) (roots ++ map root_shown (added (made J) None (editions J) (args ∷ []))) (left + 1)
  submit_kept nonce request legal =
      rooted_kept (entry_is.Submit nonce request) J legal refl kept roots left was (args_are.Root request (first_of J (table_of_request request))) (first_of J (table_of_request request)) refl refl
      (λ q differs. submit_old nonce request J q differs) (λ q same. submit_new nonce request J q same) (λ shown p x le. still_submit shown J p x nonce request legal le)

  pub down_kept : (server : Server) → IsLegal (entry_is.Down server ∷ J)
      → IsKept (entry_is.Down server ∷ J) (kept ++ added (made J) None (editions J) (args_are.Crash server ∷ [])) (roots ++ map root_shown (added (made J) None (editions J) (args_are.Crash server ∷ []))) (left + 1)
  down_kept server legal =
      rooted_kept (entry_is.Down server) J legal refl kept roots left was (args_are.Crash server) 1 refl refl
      (λ q differs. down_old server J q differs) (λ q same. down_new server J q same) (λ shown p x le. still_down shown J p x server legal le)

  pub root_kept : (entry : Entry) → IsRooting entry → IsLegal (entry ∷ J)
      → IsKept (entry ∷ J) (kept ++ added (made J) None (editions J) (args_made J entry)) (roots ++ map root_shown (added (made J) None (editions J) (args_made J entry))) (left + 1)
  root_kept (entry_is.Submit nonce request) makes legal = submit_kept nonce request legal
  root_kept (entry_is.Down server) makes legal = down_kept server legal
  root_kept entry makes legal = absurd makes
