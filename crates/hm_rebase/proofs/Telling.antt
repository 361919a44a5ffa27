-- The roots that a journal tells: those up to a number, and those above.
use Rattle.std.proofs.Common.{◌≡◌, ℕ, zero, suc, ◌+◌, ◌-◌, ◌<◌, ◌≤◌, List, [], ◌∷◌, ◌++◌, map, Bool, true, false, cond, ◌==◌, Option, Some, None, refl, ap, sym, ◌∙◌, arith, append_assoc}
use Rattle.std.specs.List.{flat_map}
use Rattle.std.proofs.lemmas.Grind.{flat_map-append}
use Rattle.std.proofs.lemmas.Bool.{cond-false, ne_eqb, true≢false}
use Rattle.hm_data.specs.declared.catalog.CatKey.{CatKey}
use Rattle.hm_data.specs.declared.catalog.CatKey.TheVariants as key_is
use Rattle.hm_data.specs.declared.catalog.CatRow.{CatRow}
use Rattle.hm_data.specs.declared.catalog.CatRow.TheVariants as row_is
use Rattle.hm_data.specs.declared.catalog.TableState.{TableState}
use Rattle.hm_data.specs.declared.entry.Entry.{Entry}
use Rattle.hm_data.specs.declared.entry.Entry.TheVariants as entry_is
use Rattle.hm_data.specs.declared.part.Part.{Part}
use Rattle.hm_data.specs.declared.part.Part.TheVariants as part_is
use Rattle.hm_names.specs.Server.{Server}
use Rattle.hm_names.specs.declared.table.TableName.{TableName}
use Rattle.hm_model.specs.Catalog.{cat}
use Rattle.hm_model.specs.Image.{catalog_parts, first_made, key_parts, named_keys, nonce_of, old_roots, root_parts, root_parts_by, server_part, table_in, table_parts, with_root}
use Rattle.hm_model.specs.Journal.{Past}
use Rattle.hm_model.specs.Laws.{is_part}
use Rattle.hm_model.specs.Phase.{cause}
use Rattle.hm_model.specs.Procedures.{number_at, offset}
use Rattle.hm_model.specs.Tree.{Node, drawn, is_top, made, node_of, pid_of}
use Rattle.hm_rebase.proofs.Putting.{put}

parts_none : (xs : List Part) → xs ++ [] ≡ xs
parts_none [] = refl
parts_none (x ∷ xs) = ap (λ l. x ∷ l) (parts_none xs)

-- nonces of submissions
pub nonce_old : (entry : Entry) (J : Past) → (p : ℕ) → p ≤ made J → nonce_of (entry ∷ J) p ≡ nonce_of J p
nonce_old (entry_is.Submit nonce request) J p le = cond-false (p == made J + 1) nonce (nonce_of J p) (ne_eqb p (made J + 1) (λ e. omega (arith, le, e)))
nonce_old entry J p le = refl

-- an entry behind a base leaves its roots and its last number
pub record LeavesBase (entry : Entry) (J : Past) : Type 0 where
  pub roots : old_roots (entry ∷ J) ≡ old_roots J
  pub base : offset (entry ∷ J) ≡ offset J
  pub grows : made J ≤ made (entry ∷ J)

pub leaves_base : (entry : Entry) (J : Past) → is_part entry ≡ false → LeavesBase entry J
leaves_base (entry_is.Base part) J other = absurd (true≢false other)
leaves_base entry J other = record { roots = refl; base = refl; grows = omega arith }

-- parts of the n numbers behind one
gather : (ℕ → List Part) → ℕ → ℕ → List Part
gather f base zero = []
gather f base (suc n) = gather f base n ++ f (base + n + 1)

gather_made : (J : Past) (f : ℕ → List Part) (n : ℕ) → flat_map f (first_made J n) ≡ gather f (offset J) n
unfolding gather
gather_made J f zero = refl
gather_made J f (suc n) =
    flat_map-append f (first_made J n) (number_at J n ∷ [])
    ∙ ap (λ l. l ++ (f (number_at J n) ++ [])) (gather_made J f n)
    ∙ ap (λ l. gather f (offset J) n ++ l) (parts_none (f (number_at J n)))

gather_split : (f : ℕ → List Part) (base m k : ℕ) → gather f base (m + k) ≡ gather f base m ++ gather f (base + m) k
unfolding gather
gather_split f base m zero = (let e : m + 0 ≡ m = omega arith in ap (gather f base) e) ∙ sym (parts_none (gather f base m))
gather_split f base m (suc k) =
    let e : m + suc k ≡ suc (m + k) = omega arith in
    let number : base + (m + k) + 1 ≡ base + m + k + 1 = omega arith in
    ap (gather f base) e
    ∙ ap (λ l. l ++ f (base + (m + k) + 1)) (gather_split f base m k)
    ∙ ap (λ n. (gather f base m ++ gather f (base + m) k) ++ f n) number
    ∙ append_assoc (gather f base m) (gather f (base + m) k) (f (base + m + k + 1))

gather_same : (f g : ℕ → List Part) (base n : ℕ) → ((q : ℕ) → base < q → q ≤ base + n → f q ≡ g q) → gather f base n ≡ gather g base n
unfolding gather
gather_same f g base zero same = refl
gather_same f g base (suc n) same =
    ap (λ l. l ++ f (base + n + 1)) (gather_same f g base n (λ q above within. same q above (omega (arith, within))))
    ∙ ap (λ l. gather g base n ++ l) (same (base + n + 1) (omega arith) (omega arith))

-- the parts of a number
abbrev told : Past → ℕ → List Part
told J p = root_parts_by J p (node_of J p)

pub told_same : (A B : Past) (p : ℕ) → node_of A p ≡ node_of B p → nonce_of A p ≡ nonce_of B p → cause A p ≡ cause B p → told A p ≡ told B p
told_same A B p node nonce why = ap (root_parts_by A p) node ∙ by (node_of B p)
  where
    by : (o : Option Node) → root_parts_by A p o ≡ root_parts_by B p o
    by None = refl
    by (Some its) =
        ap (λ n. cond (is_top its.above) (part_is.Root (pid_of p) n its.args (cause A p) ∷ []) []) nonce
        ∙ ap (λ c. cond (is_top its.above) (part_is.Root (pid_of p) (nonce_of B p) its.args c ∷ []) []) why

-- those up to a number, and those above
pub below : Past → ℕ → List Part
below J low = old_roots J ++ gather (told J) (offset J) (low - offset J)

pub above : Past → ℕ → List Part
above J low = gather (told J) low (made J - low)

pub roots_split : (J : Past) (low : ℕ) → offset J ≤ low → low ≤ made J → root_parts J ≡ below J low ++ above J low
unfolding below above
roots_split J low base within =
    let count : made J - offset J ≡ (low - offset J) + (made J - low) = omega (arith, base, within) in
    let start : offset J + (low - offset J) ≡ low = omega (arith, base) in
    ap (λ l. old_roots J ++ l)
    (gather_made J (told J) (made J - offset J)
    ∙ ap (gather (told J) (offset J)) count
    ∙ gather_split (told J) (offset J) (low - offset J) (made J - low)
    ∙ ap (λ b. gather (told J) (offset J) (low - offset J) ++ gather (told J) b (made J - low)) start)
    ∙ sym (append_assoc (old_roots J) (gather (told J) (offset J) (low - offset J)) (gather (told J) low (made J - low)))

pub below_on : (entry : Entry) (J : Past) (low : ℕ) → LeavesBase entry J → ((q : ℕ) → offset J < q → q ≤ low → told (entry ∷ J) q ≡ told J q) → below (entry ∷ J) low ≡ below J low
unfolding below
below_on entry J low leaves same =
    ap (λ l. l ++ gather (told (entry ∷ J)) (offset (entry ∷ J)) (low - offset (entry ∷ J))) leaves.roots
    ∙ ap (λ o. old_roots J ++ gather (told (entry ∷ J)) o (low - o)) leaves.base
    ∙ ap (λ l. old_roots J ++ l) (gather_same (told (entry ∷ J)) (told J) (offset J) (low - offset J) (λ q high within. same q high (omega (arith, high, within))))

pub above_same : (A B : Past) (low : ℕ) → made A ≡ made B → ((q : ℕ) → low < q → told A q ≡ told B q) → above A low ≡ above B low
unfolding above
above_same A B low last same = gather_same (told A) (told B) low (made A - low) (λ q high within. same q high) ∙ ap (λ n. gather (told B) low (n - low)) last

-- a base tells what it lists
pub base_tells : (part : Part) (P : Past) → root_parts (entry_is.Base part ∷ P) ≡ old_roots (entry_is.Base part ∷ P)
base_tells part P =
    let none : made (entry_is.Base part ∷ P) - made (entry_is.Base part ∷ P) ≡ 0 = omega arith in
    ap (λ n. old_roots (entry_is.Base part ∷ P) ++ flat_map (told (entry_is.Base part ∷ P)) (first_made (entry_is.Base part ∷ P) n)) none
    ∙ parts_none (old_roots (entry_is.Base part ∷ P))

-- the roots among parts
abbrev pub rooted : List Part → List Part
rooted parts = flat_map (λ part. with_root part []) parts

put_one : (part : Part) (roots : List Part) → with_root part roots ≡ roots ++ with_root part []
put_one (part_is.Root pid nonce args why) roots = refl
put_one part roots = sym (parts_none roots)

pub old_put : (P : Past) (parts : List Part) → old_roots (put P parts) ≡ old_roots P ++ rooted parts
old_put P [] = sym (parts_none (old_roots P))
old_put P (part ∷ parts) =
    old_put (entry_is.Base part ∷ P) parts
    ∙ ap (λ l. l ++ rooted parts) (put_one part (old_roots P))
    ∙ append_assoc (old_roots P) (with_root part []) (rooted parts)

pub put_none : (P : Past) (parts : List Part) → rooted parts ≡ [] → old_roots (put P parts) ≡ old_roots P
put_none P parts none = old_put P parts ∙ ap (λ l. old_roots P ++ l) none ∙ parts_none (old_roots P)

-- the parts of the catalog, the servers and the layouts are none
pub catalog_none : (J : Past) → rooted (catalog_parts J) ≡ []
catalog_none J = by (named_keys J)
  where
    by_table : (table : TableName) (n : ℕ) (o : Option (TableState × ℕ)) → rooted (table_parts table n o) ≡ []
    by_table table n None = by_count (n == 0)
      where
        by_count : (b : Bool) → rooted (cond b [] (part_is.Table table n None ∷ [])) ≡ []
        by_count true = refl
        by_count false = refl
    by_table table n (Some both) = refl

    one : (key : CatKey) (row : Option CatRow) → rooted (key_parts J key row) ≡ []
    one (key_is.Ns ns) None = refl
    one (key_is.Ns ns) (Some row) = refl
    one (key_is.Table table) row = by_table table (drawn J table) (table_in row)
    one (key_is.Region region) (Some (row_is.Region range status parents)) = refl
    one (key_is.Region region) (Some (row_is.Table state version)) = refl
    one (key_is.Region region) (Some row_is.Ns) = refl
    one (key_is.Region region) None = refl

    by : (keys : List CatKey) → rooted (flat_map (λ key. key_parts J key (cat J key)) keys) ≡ []
    by [] = refl
    by (key ∷ keys) =
        flat_map-append (λ part. with_root part []) (key_parts J key (cat J key)) (flat_map (λ k. key_parts J k (cat J k)) keys)
        ∙ ap (λ l. l ++ rooted (flat_map (λ k. key_parts J k (cat J k)) keys)) (one key (cat J key)) ∙ by keys

pub servers_none : (J : Past) (servers : List Server) → rooted (map (server_part J) servers) ≡ []
servers_none J [] = refl
servers_none J (server ∷ servers) = servers_none J servers

pub layouts_none : (roots : List ℕ) → rooted (map (λ root. part_is.Layout (pid_of root)) roots) ≡ []
layouts_none [] = refl
layouts_none (root ∷ roots) = layouts_none roots
