-- The image of a journal with nothing unfinished is a whole base, and reads alike.
use Rattle.std.proofs.Common.{◌≡◌, ◌≢◌, ℕ, zero, suc, ◌+◌, ◌-◌, ◌<◌, ◌≤◌, List, [], ◌∷◌, ◌++◌, length, Bool, true, false, cond, ◌||◌, codes, bytes_eq, Option, Some, None, refl, ap, sym, ◌∙◌, subst, inl, inr, ◌⊎◌, arith}
use Rattle.std.specs.List.{filter}
use Rattle.std.proofs.lemmas.Bool.{cases_eq, false≢true, ltb-true, or_right}
use Rattle.std.proofs.lemmas.Option.{none-some}
use Rattle.hm_names.specs.Region.{Region}
use Rattle.hm_names.specs.Server.{Server}
use Rattle.hm_names.specs.declared.nonce.Nonce.{Nonce}
use Rattle.hm_names.specs.declared.pid.Pid.{Pid}
use Rattle.hm_names.specs.declared.table.TableName.{TableName}
use Rattle.hm_data.specs.declared.catalog.CatKey.{CatKey}
use Rattle.hm_data.specs.declared.catalog.CatKey.TheVariants as key_is
use Rattle.hm_data.specs.declared.catalog.CatRow.{CatRow}
use Rattle.hm_data.specs.declared.entry.Entry.{Entry}
use Rattle.hm_data.specs.declared.entry.Entry.TheVariants as entry_is
use Rattle.hm_model.proofs.KeyTests.{bytes_eq-refl}
use Rattle.hm_rebase.specs.Alike.{Alike, IsForgotten, IsIdle, base_of}
use Rattle.hm_rebase.proofs.Untold.{untold}
use Rattle.hm_data.specs.declared.part.Part.{Part}
use Rattle.hm_data.specs.declared.part.Part.TheVariants as part_is
use Rattle.hm_data.specs.declared.place.RegionState.TheVariants as place_is
use Rattle.hm_model.specs.Base.{IsBegun, IsWhole, PartFits, rises}
use Rattle.hm_model.specs.Catalog.{cat}
use Rattle.hm_model.specs.Fleet.{is_live, servers_of}
use Rattle.hm_model.specs.Image.{catalog_parts, counted, image, layout_parts, named_keys, nonce_of, numbers_of, first_made, old_layouts, old_roots, root_parts, server_parts, shown, with_layout}
use Rattle.hm_model.specs.Journal.{Past}
use Rattle.hm_model.specs.Layouts.{is_laid}
use Rattle.hm_model.specs.Locks.{IsIn}
use Rattle.hm_model.specs.Nonces.{by_nonce}
use Rattle.hm_model.specs.Places.{place_of, tries_of}
use Rattle.hm_model.specs.Procedures.{number_at, offset}
use Rattle.hm_model.specs.Ranges.{IsCovered}
use Rattle.hm_model.specs.Rebase.{MayRoll, based, under_way}
use Rattle.hm_model.specs.Rules.{IsLegal}
use Rattle.hm_model.specs.Requests.{is_fixed}
use Rattle.hm_model.specs.Serial.{serial}
use Rattle.hm_model.specs.Sheets.{sheets_of}
use Rattle.hm_model.specs.Answers.{is_aborted, last_answer, report_of}
use Rattle.hm_model.specs.Inputs.{made_at_step}
use Rattle.hm_model.specs.Phase.{cause}
use Rattle.hm_model.specs.Reports.{verb_of}
use Rattle.hm_model.specs.Undo.{stack}
use Rattle.hm_model.specs.TransitActs.{is_placed, nowhere}
use Rattle.hm_model.specs.Tree.{drawn, made, node_of, pid_of}
use Rattle.hm_model.proofs.Grown.{ends_parted, grown_all, sheets_are}
use Rattle.hm_model.proofs.Parted.{by_parts, no_half}
use Rattle.hm_serial.proofs.Serial.{settled_is}
use Rattle.hm_cover.proofs.Now.{live_cover}
use Rattle.hm_rebase.proofs.Cores.{cores, cores_all, no_nonce, rises_of, top, under}
use Rattle.hm_rebase.proofs.Drawn.{known_all}
use Rattle.hm_rebase.proofs.Fixed.{fixed_there}
use Rattle.hm_rebase.proofs.Keyed.{Keyed, Reached, free, reach_all}
use Rattle.hm_rebase.proofs.Laid.{image_laid, roots_unlaid}
use Rattle.hm_rebase.proofs.Latest.{servers_order}
use Rattle.hm_rebase.proofs.Named.{named_drawn, named_order, named_row}
use Rattle.hm_rebase.proofs.Putting.{based_put, put, put_append}
use Rattle.hm_rebase.proofs.Rooted.{AreRising, HasAll, HasRooted, Says, first_all, first_rooted, layout_all, root_all}
use Rattle.hm_rebase.proofs.Rooting.{base_none, nonce_high, roots_tell, told_rooted}
use Rattle.hm_rebase.proofs.Served.{HasServed, first_served, serve_all}
use Rattle.hm_rebase.proofs.Telling.{base_tells, catalog_none, layouts_none, old_put, put_none, servers_none}
use Rattle.hm_rebase.proofs.Still.{none_left, place_stands, still}

-- numbers that rise
abbrev pub last_of : ℕ → List ℕ → ℕ
last_of low [] = low
last_of low (n ∷ more) = last_of n more

rising_more : (low high : ℕ) (xs ys : List ℕ) → AreRising low high xs → AreRising (last_of low xs) high ys → AreRising low high (xs ++ ys)
rising_more low high [] ys up more = more
rising_more low high (n ∷ xs) ys up more = (up.0, up.1, rising_more n high xs ys up.2 more)

rising_wide : (low high wide : ℕ) (xs : List ℕ) → high ≤ wide → AreRising low high xs → AreRising low wide xs
rising_wide low high wide [] le up = tt
rising_wide low high wide (n ∷ xs) le up = (up.0, (let h = up.1 in omega (arith, h, le)), rising_wide n high wide xs le up.2)

rising_low : (low less high : ℕ) (xs : List ℕ) → less ≤ low → AreRising low high xs → AreRising less high xs
rising_low low less high [] le up = tt
rising_low low less high (n ∷ xs) le up = ((let h = up.0 in omega (arith, h, le)), up.1, up.2)

last_within : (low high : ℕ) (xs : List ℕ) → low ≤ high → AreRising low high xs → last_of low xs ≤ high
last_within low high [] le up = le
last_within low high (n ∷ xs) le up = last_within n high xs up.1 up.2

last_append : (low : ℕ) (xs : List ℕ) (n : ℕ) → last_of low (xs ++ (n ∷ [])) ≡ n
last_append low [] n = refl
last_append low (x ∷ xs) n = last_append x xs n

rising_filter : (test : ℕ → Bool) (low high : ℕ) (xs : List ℕ) → AreRising low high xs → AreRising low high (filter test xs)
rising_filter test low high [] up = tt
rising_filter test low high (n ∷ xs) up =
    let above = up.0 in
    subst (AreRising low high) (sym (split (test n) refl)) (by (test n) (rising_filter test n high xs up.2) (rising_low n low high (filter test xs) (omega (arith, above)) (rising_filter test n high xs up.2)))
  where
    split : (b : Bool) → test n ≡ b → filter test (n ∷ xs) ≡ cond b (n ∷ filter test xs) (filter test xs)
    split b e = ap (λ x. cond x (n ∷ filter test xs) (filter test xs)) e

    by : (b : Bool) → AreRising n high (filter test xs) → AreRising low high (filter test xs) → AreRising low high (cond b (n ∷ filter test xs) (filter test xs))
    by true here there = (up.0, up.1, here)
    by false here there = there

-- the numbers of a journal rise from its base on
pub first_rising : (J : Past) (n high : ℕ) → offset J + n ≤ high → AreRising (offset J) high (first_made J n) × (last_of (offset J) (first_made J n) ≤ offset J + n)
first_rising J zero high le = (tt, omega arith)
first_rising J (suc n) high le =
    let h = first_rising J n high (omega (arith, le)) in
    let last = h.1 in
    let end = last_append (offset J) (first_made J n) (number_at J n) in
    (rising_more (offset J) high (first_made J n) (number_at J n ∷ []) h.0 (omega (arith, last), omega (arith, le), tt), omega (arith, end))

-- no layout
abbrev IsBeforeLayouts : Part → Type 0
IsBeforeLayouts (part_is.Layout pid) = ⊥
IsBeforeLayouts part = Unit {0}

none_behind : (own one : Part) → IsBeforeLayouts one → rises own one ≡ true → IsBeforeLayouts own
none_behind (part_is.Layout pid) (part_is.Head entries last parts sheets) early up = absurd (false≢true up)
none_behind (part_is.Layout pid) (part_is.Namespace ns) early up = absurd (false≢true up)
none_behind (part_is.Layout pid) (part_is.Table table n row) early up = absurd (false≢true up)
none_behind (part_is.Layout pid) (part_is.Region region range status parents place) early up = absurd (false≢true up)
none_behind (part_is.Layout pid) (part_is.Server server fenced) early up = absurd (false≢true up)
none_behind (part_is.Layout pid) (part_is.Root other nonce args cause) early up = absurd (false≢true up)
none_behind (part_is.Layout pid) (part_is.Layout other) early up = absurd early
none_behind part one early up = tt

quiet_layout : (part : Part) (list : List ℕ) → IsBeforeLayouts part → with_layout part list ≡ list
quiet_layout (part_is.Layout pid) list early = absurd early
quiet_layout part list early = refl

early_none : (own : Part) (Q : Past) → IsLegal (entry_is.Base own ∷ Q) → IsBeforeLayouts own → old_layouts (entry_is.Base own ∷ Q) ≡ []
early_none own [] legal early = quiet_layout own [] early
early_none own (entry_is.Base last ∷ Q) legal early = quiet_layout own (old_layouts (entry_is.Base last ∷ Q)) early ∙ early_none last Q legal.0 (none_behind last own early (rises_of own last Q legal.1.0))
early_none own (entry ∷ Q) legal early = absurd (false≢true (by_parts (λ j. ends_parted j ≡ true) refl (λ o older. refl) own (entry ∷ Q) legal.1.0))

-- those of a base rise
low_layout : (J : Past) → IsLegal J → (pid : Pid) → PartFits (part_is.Layout pid) J → last_of 0 (old_layouts J) < pid.0
low_layout [] legal pid fits = absurd fits.0
low_layout (entry_is.Base (part_is.Layout one) ∷ Q) legal pid fits = (let end = last_append 0 (old_layouts Q) one.0 in let less = ltb-true one.0 pid.0 fits.0 in omega (arith, end, less))
low_layout (entry_is.Base (part_is.Head entries last parts sheets) ∷ Q) legal pid fits = (let end = ap (last_of 0) (early_none (part_is.Head entries last parts sheets) Q legal tt) in let one = fits.1 in omega (arith, end, one))
low_layout (entry_is.Base (part_is.Namespace ns) ∷ Q) legal pid fits = (let end = ap (last_of 0) (early_none (part_is.Namespace ns) Q legal tt) in let one = fits.1 in omega (arith, end, one))
low_layout (entry_is.Base (part_is.Table table n row) ∷ Q) legal pid fits = (let end = ap (last_of 0) (early_none (part_is.Table table n row) Q legal tt) in let one = fits.1 in omega (arith, end, one))
low_layout (entry_is.Base (part_is.Region region range status parents place) ∷ Q) legal pid fits = (let end = ap (last_of 0) (early_none (part_is.Region region range status parents place) Q legal tt) in let one = fits.1 in omega (arith, end, one))
low_layout (entry_is.Base (part_is.Server server fenced) ∷ Q) legal pid fits = (let end = ap (last_of 0) (early_none (part_is.Server server fenced) Q legal tt) in let one = fits.1 in omega (arith, end, one))
low_layout (entry_is.Base (part_is.Root other nonce args cause) ∷ Q) legal pid fits = (let end = ap (last_of 0) (early_none (part_is.Root other nonce args cause) Q legal tt) in let one = fits.1 in omega (arith, end, one))
low_layout (entry ∷ Q) legal pid fits = absurd fits.0

offset_made : (J : Past) → ends_parted J ≡ true → offset J ≡ made J
offset_made [] e = refl
offset_made (entry_is.Base part ∷ J) e = refl
offset_made (entry ∷ J) e = absurd (false≢true e)

old_rising : (J : Past) → IsLegal J → AreRising 0 (offset J) (old_layouts J)
old_rising [] legal = tt
old_rising (entry_is.Base (part_is.Layout pid) ∷ J) legal =
    let base = offset_made J (by_parts (λ j. ends_parted j ≡ true) refl (λ o older. refl) (part_is.Layout pid) J legal.1.0) in
    rising_more 0 (made J) (old_layouts J) (pid.0 ∷ []) (subst (λ n. AreRising 0 n (old_layouts J)) base (old_rising J legal.0)) (low_layout J legal.0 pid legal.1.0, legal.1.0.2, tt)
old_rising (entry_is.Base (part_is.Head entries last parts sheets) ∷ J) legal = subst (AreRising 0 last.0) (sym (ap old_layouts legal.1.0.0)) tt
old_rising (entry_is.Base (part_is.Namespace ns) ∷ J) legal = subst (λ n. AreRising 0 n (old_layouts J)) (offset_made J (by_parts (λ j. ends_parted j ≡ true) refl (λ o older. refl) (part_is.Namespace ns) J legal.1.0)) (old_rising J legal.0)
old_rising (entry_is.Base (part_is.Table table n row) ∷ J) legal = subst (λ n. AreRising 0 n (old_layouts J)) (offset_made J (by_parts (λ j. ends_parted j ≡ true) refl (λ o older. refl) (part_is.Table table n row) J legal.1.0)) (old_rising J legal.0)
old_rising (entry_is.Base (part_is.Region region range status parents place) ∷ J) legal = subst (λ n. AreRising 0 n (old_layouts J)) (offset_made J (by_parts (λ j. ends_parted j ≡ true) refl (λ o older. refl) (part_is.Region region range status parents place) J legal.1.0)) (old_rising J legal.0)
old_rising (entry_is.Base (part_is.Server server fenced) ∷ J) legal = subst (λ n. AreRising 0 n (old_layouts J)) (offset_made J (by_parts (λ j. ends_parted j ≡ true) refl (λ o older. refl) (part_is.Server server fenced) J legal.1.0)) (old_rising J legal.0)
old_rising (entry_is.Base (part_is.Root pid nonce args cause) ∷ J) legal = subst (λ n. AreRising 0 n (old_layouts J)) (offset_made J (by_parts (λ j. ends_parted j ≡ true) refl (λ o older. refl) (part_is.Root pid nonce args cause) J legal.1.0)) (old_rising J legal.0)
old_rising (entry ∷ J) legal = old_rising J legal.0

-- so do they with the numbers behind it
pub numbers_rising : (J : Past) → IsLegal J → AreRising 0 (made J) (old_layouts J ++ numbers_of J)
numbers_rising J legal =
    let low = (grown_all J legal).low in
    let old = old_rising J legal in
    let end = last_within 0 (offset J) (old_layouts J) (omega arith) old in
    rising_more 0 (made J) (old_layouts J) (numbers_of J) (rising_wide 0 (offset J) (made J) (old_layouts J) low old)
    (rising_low (offset J) (last_of 0 (old_layouts J)) (made J) (numbers_of J) end (first_rising J (made J - offset J) (made J) (omega (arith, low))).0)

layouts_rising : (J : Past) → IsLegal J → AreRising 0 (made J) (filter (is_laid J) (old_layouts J ++ numbers_of J))
layouts_rising J legal = rising_filter (is_laid J) 0 (made J) (old_layouts J ++ numbers_of J) (numbers_rising J legal)

put_length : (P : Past) (parts : List Part) → length (put P parts) ≡ length P + length parts
put_length P [] = omega arith
put_length P (part ∷ parts) = (let on = put_length (entry_is.Base part ∷ P) parts in omega (arith, on))

puts : (P : Past) (a b c d : List Part) → put P (a ++ b ++ c ++ d) ≡ put (put (put (put P a) b) c) d
puts P a b c d = put_append P (a ++ b ++ c) d ∙ ap (λ X. put X d) (put_append P (a ++ b) c ∙ ap (λ X. put X c) (put_append P a b))

module _ (J : Past) (legal : IsLegal J) (begun : IsBegun J) (may : MayRoll J) where
  none : under_way J ≡ 0
  none = may.0

  abbrev size : ℕ
  size = length (shown J) + 1

  abbrev head : Part
  head = part_is.Head (counted J) (pid_of (made J)) (length (shown J)) (sheets_of J)

  some_there : J ≢ []
  some_there gone = subst IsBegun gone begun

  head_fits : PartFits head []
  head_fits = (let small = may.1 in (refl, sheets_are J legal some_there, omega (arith, small), omega (arith, small)))

  begin_keyed : Keyed J legal begun may.0 size head [] (named_keys J)
  begin_keyed = record {
    legal_now = (tt, (head_fits, tt));
    last = refl;
    sheets = refl;
    counts = refl;
    promised = refl;
    early = tt;
    before = λ key among. tt;
    fresh = λ key among. refl;
    rows = λ key. by_row key (cat J key) refl;
    undrawn = λ t among. refl;
    ids = λ t. elim (cases_eq (drawn J t) 0) [ inl low ↦ inl (sym low) | inr some ↦ inr (named_drawn J t some) ];
    places = λ r. inr (refl, elim (by_row (key_is.Region r) (cat J (key_is.Region r)) refl) [ inl gone ↦ inl (sym gone) | inr among ↦ inr among ]);
    servers = refl;
    nonces = λ n. refl;
    live = λ s. refl;
    fenced = λ s. refl;
    laid = λ r. refl;
  }
    where
      by_row : (key : CatKey) (o : Option CatRow) → cat J key ≡ o → (None ≡ cat J key) ⊎ IsIn key (named_keys J)
      by_row key None e = inl (sym e)
      by_row key (Some row) e = inr (named_row J key (λ gone. none-some row (sym gone ∙ e)))

  catalog_put : Reached J legal begun may.0 size (put (entry_is.Base head ∷ []) (catalog_parts J)) []
  catalog_put = reach_all J legal begun may.0 size (named_keys J) (named_order J) (entry_is.Base head ∷ []) (record { own = head; behind = []; is = refl; keyed = begin_keyed })

  abbrev C : Past
  C = put (entry_is.Base head ∷ []) (catalog_parts J)

  servers_put : HasServed J legal begun may.0 size (put C (server_parts J)) []
  servers_put = serve_all J legal begun may.0 size (servers_of J) (servers_order J) C (record {
    own = catalog_put.own;
    behind = catalog_put.behind;
    is = catalog_put.is;
    served = first_served J legal begun may.0 size catalog_put.own catalog_put.behind catalog_put.keyed;
  })

  abbrev S : Past
  S = put C (server_parts J)

  roots_put : HasRooted J legal begun may.0 size (put S (root_parts J)) (top 0 (cores J)) (under (cores J) (λ n. None))
  roots_put = root_all J legal begun may.0 size (root_parts J) (cores J) (roots_tell J legal) S 0 (λ n. None) (cores_all J legal).good
      (subst (λ X. HasRooted J legal begun may.0 size X 0 (λ n. None)) (sym servers_put.is) (first_rooted J legal begun may.0 size servers_put.own servers_put.behind servers_put.served))

  abbrev R : Past
  R = put S (root_parts J)

  all_put : (end : ℕ) × HasAll J legal begun may.0 size (put R (layout_parts J)) end (under (cores J) (λ n. None))
  all_put = layout_all J legal begun may.0 size (filter (is_laid J) (old_layouts J ++ numbers_of J)) 0 (under (cores J) (λ n. None)) (layouts_rising J legal) R (first_all J legal begun may.0 size R (top 0 (cores J)) (under (cores J) (λ n. None)) roots_put)

  whole_is : based (image J) ≡ put R (layout_parts J)
  whole_is =
      based_put (image J) ∙ puts (entry_is.Base head ∷ []) (catalog_parts J) (server_parts J) (root_parts J) (layout_parts J)

  pub says : Says J legal begun may.0 size (based (image J))
  says = subst (Says J legal begun may.0 size) (sym whole_is) all_put.1.says

  pub nonces_are : (nonce : Nonce) → by_nonce (based (image J)) nonce ≡ by_nonce J nonce
  nonces_are nonce = ap (λ X. by_nonce X nonce) whole_is ∙ all_put.1.nonces nonce ∙ (cores_all J legal).said nonce

  laid_are : (root : ℕ) → is_laid (based (image J)) root ≡ is_laid J root
  laid_are root = ap (λ X. is_laid X root) whole_is ∙ image_laid J legal R root (roots_unlaid (root_parts J) (cores J) (roots_tell J legal) S root ∙ ap (λ X. is_laid X root) servers_put.is ∙ servers_put.served.laid root)

  -- the image in its form
  pub record IsImaged : Type 0 where
    pub own : Part
    pub behind : Past
    pub is : based (image J) ≡ entry_is.Base own ∷ behind

  pub imaged : IsImaged
  imaged = record { own = all_put.1.own; behind = all_put.1.behind; is = whole_is ∙ all_put.1.is }

  -- by the catalog
  cat_serial : (key : CatKey) → cat J key ≡ serial J key
  cat_serial key = settled_is J legal (none_left J legal may.0) key

  space_there : (ns : List ℕ) → is_fixed ns ≡ true → cat (based (image J)) (key_is.Ns ns) ≢ None
  space_there ns on gone = fixed_there J legal begun ns on (sym (cat_serial (key_is.Ns ns)) ∙ sym (says.rows (key_is.Ns ns)) ∙ gone)

  covers : (table : TableName) → cat (based (image J)) (key_is.Table table) ≢ None → IsCovered (cat (based (image J))) table
  covers table some key =
      let c = live_cover J legal (no_half J begun) table (free J legal begun may.0 size (key_is.Table table)) (λ gone. some (says.rows (key_is.Table table) ∙ gone)) key in
      (c.0, c.1, c.2, (c.3.0, says.rows (key_is.Region c.0) ∙ c.3.1), c.4)

  opens : (region : Region) → is_placed (place_of (based (image J)) region) ≡ true → (server : Server) × (place_of (based (image J)) region ≡ record { state = place_is.Opened; server = Some server }) × (is_live (based (image J)) server ≡ true)
  opens region placed = elim (says.places region) [
    | inr off ↦ absurd (false≢true (ap is_placed (sym off.0) ∙ placed))
    | inl same ↦ elim (place_stands J legal may.0 begun region) [
      | inl idle ↦ absurd (false≢true (sym idle.unplaced ∙ ap is_placed (sym same) ∙ placed))
      | inr held ↦ (held.server, same ∙ held.place, says.live held.server ∙ held.alive)
    ]
  ]

  pub whole : IsWhole (based (image J))
  whole = record {
    count = ap length (based_put (image J)) ∙ put_length [] (image J) ∙ one_more ∙ sym says.promised;
    spaces = (space_there (codes "default") (ap (λ b. b || bytes_eq (codes "default") (codes "hbase")) (bytes_eq-refl (codes "default"))), space_there (codes "hbase") (or_right (bytes_eq (codes "hbase") (codes "default")) (bytes_eq (codes "hbase") (codes "hbase")) (bytes_eq-refl (codes "hbase"))));
    covered = covers;
    opened = opens;
  }
    where
      one_more : length {A = Entry} [] + length (image J) ≡ length (shown J) + 1
      one_more = omega arith

  pub image_begun : IsBegun (based (image J))
  image_begun = subst IsBegun (sym imaged.is) (subst IsWhole imaged.is whole)

  -- the image reads as the journal
  pub offset_is : offset (based (image J)) ≡ made J
  offset_is = ap offset imaged.is ∙ sym (ap made imaged.is) ∙ says.last

  base_node : (p : ℕ) → node_of (based (image J)) p ≡ None
  base_node p = ap (λ X. node_of X p) imaged.is

  -- the image tells its roots
  roots_are : root_parts (based (image J)) ≡ root_parts J
  roots_are =
      ap root_parts imaged.is ∙ base_tells imaged.own imaged.behind ∙ sym (ap old_roots imaged.is)
      ∙ ap old_roots whole_is
      ∙ put_none R (layout_parts J) (layouts_none (filter (is_laid J) (old_layouts J ++ numbers_of J)))
      ∙ old_put S (root_parts J)
      ∙ ap (λ l. old_roots S ++ l) (told_rooted (root_parts J) (cores J) (roots_tell J legal))
      ∙ ap (λ l. l ++ root_parts J) (put_none C (server_parts J) (servers_none J (servers_of J)) ∙ put_none (entry_is.Base head ∷ []) (catalog_parts J) (catalog_none J))

  base_nonce : (p : ℕ) → nonce_of (based (image J)) p ≡ no_nonce
  base_nonce p = ap (λ X. nonce_of X p) imaged.is ∙ base_none (entry_is.Base imaged.own ∷ imaged.behind) refl (subst IsLegal imaged.is says.legal_now) p

  base_is : base_of (based (image J)) ≡ based (image J)
  base_is = ap base_of imaged.is ∙ sym imaged.is

  -- a region that the image doesn't tell
  forgotten : (region : Region) → place_of (based (image J)) region ≡ nowhere place_is.Offline → cat J (key_is.Region region) ≡ None → (place_of J region ≡ place_of (based (image J)) region) ⊎ IsForgotten J (based (image J)) region
  forgotten region off gone = elim (known_all J legal region) [
    | inl first ↦ inl (first ∙ sym off)
    | inr had ↦ elim (place_stands J legal may.0 begun region) [
      | inl idle ↦
          let rowless : cat (based (image J)) (key_is.Region region) ≡ None = says.rows (key_is.Region region) ∙ gone in
          inr (record {
            old = subst (λ X. region.id ≤ drawn X region.table) (sym base_is) (subst (λ n. region.id ≤ n) (sym (says.ids region.table)) had.1);
            unbased = subst (λ X. cat X (key_is.Region region) ≡ None) (sym base_is) rowless;
            rowless = rowless;
            one = idle;
            other = subst IsIdle (sym off) (record { unplaced = refl; untried = refl; nowhere = refl });
          })
      | inr held ↦ absurd (none-some _ (sym gone ∙ held.live.1))
    ]
  ]

  pub image_alike : Alike J (based (image J))
  image_alike = record {
    counts = sym says.counts;
    last = sym says.last;
    same = λ p high.
        let lt : made J < p = omega (arith, high, offset_is) in
        let g = grown_all J legal in
        let gone = g.numbered p lt in
        let u = untold J legal p lt in
        record {
          node = gone ∙ sym (base_node p);
          nonce = nonce_high J legal p lt ∙ sym (base_nonce p);
          answer = g.unmade p gone ∙ sym (ap (λ X. last_answer X p) imaged.is);
          verb = g.uncalled p gone ∙ sym (ap (λ X. verb_of X p) imaged.is);
          report = g.unreported p gone ∙ sym (ap (λ X. report_of X p) imaged.is);
          aborted = g.unaborted p gone ∙ sym (ap (λ X. is_aborted X p) imaged.is);
          tries = u.tries ∙ sym (ap (λ X. tries_of X p) imaged.is);
          stepped = u.stepped ∙ sym (ap (λ X. made_at_step X p) imaged.is);
          sheets = λ node is at. absurd (none-some node (sym gone ∙ is));
          failure = u.failure ∙ sym (ap (λ X. cause X p) imaged.is);
          left = u.left ∙ sym (ap (λ X. stack X p) imaged.is);
        };
    over = λ p node le is. still J legal may.0 p node is;
    roots = sym roots_are;
    sheets = sym says.sheets;
    rows = λ key. sym (says.rows key);
    places = λ region. elim (says.places region) [ inl same ↦ inl (sym same) | inr off ↦ forgotten region off.0 off.1 ];
    servers = sym says.servers;
    live = λ s. sym (says.live s);
    fenced = λ s. sym (says.fenced s);
    nonces = λ n. sym (nonces_are n);
    ids = λ t. sym (says.ids t);
    laid = λ r. sym (laid_are r);
  }
