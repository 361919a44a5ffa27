-- All who are shown: the roots of the base, and then the procedures that entries made.
use Rattle.std.proofs.Common.{◌≡◌, ℕ, ◌+◌, ◌-◌, ◌<◌, ◌≤◌, List, [], ◌∷◌, ◌++◌, Bool, true, false, cond, filter, is_none, map, Option, Some, None, refl, ap, sym, ◌∙◌, arith}
use Rattle.std.specs.List.{cons_option, filter_map}
use Rattle.std.specs.Option.{option_map}
use Rattle.std.proofs.lemmas.List.{map-append}
use Rattle.std.proofs.lemmas.List.Elements.{filter-append, filter_map-append}
use Rattle.serde_json.specs.Data.{Data}
use Rattle.hm_names.specs.declared.pid.Pid.{Pid}
use Rattle.hm_data.specs.declared.entry.Entry.{Entry}
use Rattle.hm_data.specs.declared.entry.Entry.TheVariants as entry_is
use Rattle.hm_data.specs.declared.part.Part.{Part}
use Rattle.hm_data.specs.declared.part.Part.TheVariants as part_is
use Rattle.hm_data.specs.declared.record.Record.{Record}
use Rattle.hm_model.specs.Journal.{Past}
use Rattle.hm_model.specs.OldRoots.{old_record, old_record_of, old_records, one_of, shown_of}
use Rattle.hm_model.specs.Pieces.{numbers_from}
use Rattle.hm_model.specs.Procedures.{offset}
use Rattle.hm_model.specs.Records.{record_at, record_of}
use Rattle.hm_model.specs.Rules.{IsLegal}
use Rattle.hm_model.specs.Tree.{Node, is_root, is_root_in, is_top, made, node_of, parent_in, pid_of}
use Rattle.hm_model.proofs.Grown.{down_old, grown_all, step_old, submit_old, undo_old}
use Rattle.hm_model.proofs.Parted.{no_node}
use Rattle.hm_procedures.specs.Procedures.{roots}
use Rattle.hm_show.specs.Procs.{has_no_parent, made_behind, pids, proc_line, proc_value, shown}
use Rattle.hm_show.proofs.OldRoots.{alike, nothing, numbers_joined, roots_told}
use Rattle.hm_show.proofs.Shown.{lines_are, lines_of, told}

-- who was there stays
stays : (entry : Entry) (J : Past) → IsLegal (entry ∷ J) → (q : ℕ) → q ≤ made J → node_of (entry ∷ J) q ≡ node_of J q
stays (entry_is.Submit nonce request) J legal q le = submit_old nonce request J q (λ e. omega (arith, le, e))
stays (entry_is.Step pid pick out) J legal q le = step_old pid pick out J q le
stays (entry_is.Undo pid row out) J legal q le = undo_old pid row out J q le
stays (entry_is.Down server) J legal q le = down_old server J q (λ e. omega (arith, le, e))
stays (entry_is.Base part) J legal q le = sym (no_node part J legal.1.0 q)
stays entry J legal q le = refl

-- no entry made a procedure of a number up to the base's last
none_low : (J : Past) → IsLegal J → (p : ℕ) → p ≤ offset J → node_of J p ≡ None
none_low [] legal p le = refl
none_low (entry_is.Base part ∷ J) legal p le = refl
none_low (entry ∷ J) legal p le = let few = (grown_all J legal.0).low in stays entry J legal p (omega (arith, le, few)) ∙ none_low J legal.0 p le

module _ (J : Past) (legal : IsLegal J) where
  no_record : (p : ℕ) → p ≤ offset J → record_of J p ≡ None
  no_record p le = ap (option_map (record_at J p)) (none_low J legal p le)

  -- the numbers up to the last of the base, and those behind
  in_two : pids J ≡ numbers_from 1 (offset J) ++ numbers_from (offset J + 1) (made J - offset J)
  in_two =
      let low = (grown_all J legal).low in
      let e : made J ≡ offset J + (made J - offset J) = omega (arith, low) in
      let f : 1 + offset J ≡ offset J + 1 = omega arith in
      ap (numbers_from 1) e ∙ numbers_joined 1 (offset J) (made J - offset J) ∙ ap (λ k. numbers_from 1 (offset J) ++ numbers_from k (made J - offset J)) f

  -- behind, a procedure is shown as it stands
  shown_behind : (p : ℕ) → offset J + 1 ≤ p → p < offset J + 1 + (made J - offset J) → shown_of J p ≡ record_of J p
  shown_behind p low high =
      let most = (grown_all J legal).low in
      let there = (grown_all J legal).there p (omega (arith, low)) (omega (arith, high, most)) in
      by (record_of J p) (record_at J p there.0) (ap (option_map (record_at J p)) there.1)
    where
      by : (o : Option Record) (one : Record) → o ≡ Some one → one_of o (old_record_of J p) ≡ o
      by o one is = ap (λ r. one_of r (old_record_of J p)) is ∙ sym is

  pub shown_are : shown J ≡ old_records J ++ made_behind J
  shown_are =
      ap (filter_map (shown_of J)) in_two
      ∙ filter_map-append (shown_of J) (numbers_from 1 (offset J)) (numbers_from (offset J + 1) (made J - offset J))
      ∙ ap (λ l. l ++ filter_map (shown_of J) (numbers_from (offset J + 1) (made J - offset J)))
      (alike (shown_of J) (old_record_of J) 1 (offset J) (λ p a b. ap (λ o. one_of o (old_record_of J p)) (no_record p (omega (arith, b)))) ∙ roots_told J legal)
      ∙ ap (λ l. old_records J ++ l) (alike (shown_of J) (record_of J) (offset J + 1) (made J - offset J) shown_behind)

  -- the numbers up to the last of the base tell no procedure
  made_are : told J (pids J) ≡ made_behind J
  made_are =
      ap (told J) in_two
      ∙ filter_map-append (record_of J) (numbers_from 1 (offset J)) (numbers_from (offset J + 1) (made J - offset J))
      ∙ ap (λ l. l ++ made_behind J) (nothing (record_of J) 1 (offset J) (λ p a b. no_record p (omega (arith, b))))

-- roots have no parent
old_tops : (J : Past) → filter has_no_parent (old_records J) ≡ old_records J
old_tops [] = refl
old_tops (entry_is.Base own ∷ before) = by (old_tops before) own
  where
    by : filter has_no_parent (old_records before) ≡ old_records before → (part : Part) → filter has_no_parent (old_records (entry_is.Base part ∷ before)) ≡ old_records (entry_is.Base part ∷ before)
    by on (part_is.Root pid nonce args cause) =
        filter-append has_no_parent (old_records before) (old_record pid args cause ∷ [])
        ∙ ap (λ l. l ++ old_record pid args cause ∷ []) on
    by on part = on
old_tops (entry ∷ before) = old_tops before

-- so have those procedures alone
no_parent_in : (above : List ℕ) → is_none (option_map pid_of (parent_in above)) ≡ is_top above
no_parent_in [] = refl
no_parent_in (up ∷ above) = refl

made_tops : (J : Past) (numbers : List ℕ) → filter has_no_parent (told J numbers) ≡ told J (filter (is_root J) numbers)
made_tops J [] = refl
made_tops J (n ∷ numbers) = by (node_of J n) refl (made_tops J numbers)
  where
    one_in : (one : Record) (a b : Bool) → a ≡ b → record_of J n ≡ Some one → filter has_no_parent (told J numbers) ≡ told J (filter (is_root J) numbers)
        → cond a (one ∷ filter has_no_parent (told J numbers)) (filter has_no_parent (told J numbers)) ≡ told J (cond b (n ∷ filter (is_root J) numbers) (filter (is_root J) numbers))
    one_in one a true same is rest =
        ap (λ c. cond c (one ∷ filter has_no_parent (told J numbers)) (filter has_no_parent (told J numbers))) same
        ∙ ap (λ l. one ∷ l) rest
        ∙ sym (ap (λ o. cons_option o (told J (filter (is_root J) numbers))) is)
    one_in one a false same is rest = ap (λ c. cond c (one ∷ filter has_no_parent (told J numbers)) (filter has_no_parent (told J numbers))) same ∙ rest

    by : (o : Option Node) → node_of J n ≡ o → filter has_no_parent (told J numbers) ≡ told J (filter (is_root J) numbers)
        → filter has_no_parent (cons_option (option_map (record_at J n) o) (told J numbers)) ≡ told J (cond (is_root_in o) (n ∷ filter (is_root J) numbers) (filter (is_root J) numbers))
    by None e rest = rest
    by (Some node) e rest = one_in (record_at J n node) (has_no_parent (record_at J n node)) (is_top node.above) (no_parent_in node.above) (ap (option_map (record_at J n)) e) rest

-- the roots of all who are shown
pub tops_are : (J : Past) → IsLegal J → filter has_no_parent (shown J) ≡ old_records J ++ told J (filter (is_root J) (pids J))
tops_are J legal =
    ap (filter has_no_parent) (shown_are J legal)
    ∙ filter-append has_no_parent (old_records J) (made_behind J)
    ∙ ap (λ l. l ++ filter has_no_parent (made_behind J)) (old_tops J)
    ∙ ap (λ l. old_records J ++ filter has_no_parent l) (sym (made_are J legal))
    ∙ ap (λ l. old_records J ++ l) (made_tops J (pids J))

-- the lines of the roots
pub root_lines_are : (J : Past) → IsLegal J → (tops : List Pid) → tops ≡ roots J → map proc_line (old_records J) ++ lines_of J tops ≡ map proc_line (filter has_no_parent (shown J))
root_lines_are J legal tops made =
    let behind = filter (is_root J) (pids J) in
    ap (λ l. map proc_line (old_records J) ++ l) (ap (lines_of J) made ∙ lines_are J behind)
    ∙ sym (map-append proc_line (old_records J) (told J behind))
    ∙ ap (map proc_line) (sym (tops_are J legal))

-- the values of all who are shown
pub values_are : (J : Past) → IsLegal J → (none old all : List Data) → none ≡ [] → old ≡ none ++ map proc_value (old_records J) → all ≡ old ++ map proc_value (made_behind J) → all ≡ map proc_value (shown J)
values_are J legal none old all empty first then =
    then
    ∙ ap (λ l. l ++ map proc_value (made_behind J)) (first ∙ ap (λ l. l ++ map proc_value (old_records J)) empty)
    ∙ sym (map-append proc_value (old_records J) (made_behind J))
    ∙ ap (map proc_value) (sym (shown_are J legal))
