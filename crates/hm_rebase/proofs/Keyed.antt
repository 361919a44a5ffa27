-- The parts of a catalog, put behind a head: each fits, and they tell the catalog, the drawn ids and the places.
use Rattle.std.proofs.Common.{◌≡◌, ◌≢◌, ℕ, ◌≤◌, List, [], ◌∷◌, length, Bool, true, false, cond, ◌==◌, Option, Some, None, refl, ap, sym, ◌∙◌, subst, inl, inr, ◌⊎◌}
use Rattle.std.specs.List.{flat_map}
use Rattle.std.specs.Ordering.{is_lt}
use Rattle.std.specs.declared.cmp.Ordering.TheVariants.{Equal, Greater, Less}
use Rattle.std.proofs.lemmas.Bool.{cases_Bool, cond-false, cond-true, eqb-true, true≢false}
use Rattle.std.proofs.lemmas.Option.{none-some, same_Some}
use Rattle.hm_names.specs.Region.{Region}
use Rattle.hm_names.specs.Server.{Server}
use Rattle.hm_names.specs.declared.nonce.Nonce.{Nonce}
use Rattle.hm_names.specs.declared.range.KeyRange.{KeyRange}
use Rattle.hm_names.specs.declared.table.TableName.{TableName}
use Rattle.hm_data.specs.Keys.{key_cmp}
use Rattle.hm_data.specs.declared.catalog.CatKey.{CatKey}
use Rattle.hm_data.specs.declared.catalog.CatKey.TheVariants as key_is
use Rattle.hm_data.specs.declared.catalog.CatRow.{CatRow}
use Rattle.hm_data.specs.declared.catalog.CatRow.TheVariants as row_is
use Rattle.hm_data.specs.declared.catalog.Status.{Status}
use Rattle.hm_data.specs.declared.catalog.Status.TheVariants as status_is
use Rattle.hm_data.specs.declared.catalog.TableState.{TableState}
use Rattle.hm_data.specs.declared.catalog.TableState.TheVariants as state_is
use Rattle.hm_data.specs.declared.entry.Entry.TheVariants as entry_is
use Rattle.hm_data.specs.declared.part.Part.{Part}
use Rattle.hm_data.specs.declared.part.Part.TheVariants as part_is
use Rattle.hm_data.specs.declared.place.Place.{Place}
use Rattle.hm_data.specs.declared.place.RegionState.TheVariants as place_is
use Rattle.hm_model.specs.Base.{IsBegun, MayStand, PartFits, RangeFits, announced, rises}
use Rattle.hm_model.specs.Catalog.{cat}
use Rattle.hm_model.specs.Fleet.{is_fenced, is_live, servers_of}
use Rattle.hm_model.specs.Image.{counted, key_parts}
use Rattle.hm_model.specs.Journal.{Past}
use Rattle.hm_model.specs.Keys.{same_key, same_table}
use Rattle.hm_model.specs.Layouts.{is_laid}
use Rattle.hm_model.specs.Locks.{IsIn}
use Rattle.hm_model.specs.Nonces.{by_nonce}
use Rattle.hm_model.specs.Parts.{part_drawn, part_row, table_row}
use Rattle.hm_model.specs.Places.{part_place, place_of}
use Rattle.hm_model.specs.Ranges.{IsLiveWith}
use Rattle.hm_model.specs.Reads.{IsBusy}
use Rattle.hm_model.specs.Rebase.{under_way}
use Rattle.hm_model.specs.RowLaws.{AllBehind, AreInOrder}
use Rattle.hm_model.specs.Rules.{IsLegal}
use Rattle.hm_model.specs.Sheets.{sheets_of}
use Rattle.hm_model.specs.TransitActs.{is_state, nowhere}
use Rattle.hm_model.specs.Tree.{drawn, made}
use Rattle.hm_model.proofs.Grown.{ids_within}
use Rattle.hm_model.proofs.KeyTests.{cases_key, key_cmp-same, same_table-is, same_table-refl}
use Rattle.hm_model.proofs.Parted.{no_half}
use Rattle.hm_ids.proofs.DrawnAll.{ids_are_drawn}
use Rattle.hm_cover.proofs.Never.{have_keys, never_overlap}
use Rattle.hm_cover.proofs.Now.{missing_bare}
use Rattle.hm_rebase.proofs.Putting.{put, put_append}
use Rattle.hm_rebase.proofs.Rows.{IsFineRow, IsSteady}
use Rattle.hm_rebase.proofs.Still.{place_stands, row_fine, spaces_are, still}

-- a part of the catalog, or the head, comes before a key
abbrev pub Precedes : Part → CatKey → Type 0
Precedes (part_is.Head entries last parts sheets) key = Unit {0}
Precedes (part_is.Namespace ns) key = key_cmp (key_is.Ns ns) key ≡ Less
Precedes (part_is.Table table own row) key = key_cmp (key_is.Table table) key ≡ Less
Precedes (part_is.Region region range status parents place) key = key_cmp (key_is.Region region) key ≡ Less
Precedes part key = ⊥

rises_ns : (own : Part) (ns : List ℕ) → Precedes own (key_is.Ns ns) → rises own (part_is.Namespace ns) ≡ true
rises_ns (part_is.Head entries last parts sheets) ns h = refl
rises_ns (part_is.Namespace one) ns h = ap is_lt h
rises_ns (part_is.Table table own row) ns h = absurd (cc)
rises_ns (part_is.Region region range status parents place) ns h = absurd (cc)
rises_ns part ns h = absurd h

rises_table : (own : Part) (t : TableName) (n : ℕ) (row : Option (TableState × ℕ)) → Precedes own (key_is.Table t) → rises own (part_is.Table t n row) ≡ true
rises_table (part_is.Head entries last parts sheets) t n row h = refl
rises_table (part_is.Namespace one) t n row h = refl
rises_table (part_is.Table table own state) t n row h = ap is_lt h
rises_table (part_is.Region region range status parents place) t n row h = absurd (cc)
rises_table part t n row h = absurd h

rises_region : (own : Part) (r : Region) (range : KeyRange) (status : Status) (parents : List ℕ) (place : Place) → Precedes own (key_is.Region r) → rises own (part_is.Region r range status parents place) ≡ true
rises_region (part_is.Region region other was ids at) r range status parents place h = ap is_lt h
rises_region (part_is.Server server fenced) r range status parents place h = absurd h
rises_region (part_is.Root pid nonce args cause) r range status parents place h = absurd h
rises_region (part_is.Layout pid) r range status parents place h = absurd h
rises_region part r range status parents place h = refl

behind_in : (key k : CatKey) (keys : List CatKey) → AllBehind key keys → IsIn k keys → key_cmp key k ≡ Less
behind_in key k [] behind h = elim h [ ]
behind_in key k (first ∷ more) behind (inl here) = ap (key_cmp key) here ∙ behind.0
behind_in key k (first ∷ more) behind (inr later) = behind_in key k more behind.1 later

-- the head, or a part of the catalog
abbrev pub IsEarly : Part → Type 0
IsEarly (part_is.Head entries last parts sheets) = Unit {0}
IsEarly (part_is.Namespace ns) = Unit {0}
IsEarly (part_is.Table table own row) = Unit {0}
IsEarly (part_is.Region region range status parents place) = Unit {0}
IsEarly part = ⊥

-- a part that says nothing of servers, roots and layouts, nor of the whole
pub record IsQuiet (part : Part) (P : Past) : Type 0 where
  pub last : made (entry_is.Base part ∷ P) ≡ made P
  pub sheets : sheets_of (entry_is.Base part ∷ P) ≡ sheets_of P
  pub counts : counted (entry_is.Base part ∷ P) ≡ counted P
  pub promised : announced (entry_is.Base part ∷ P) ≡ announced P
  pub servers : servers_of (entry_is.Base part ∷ P) ≡ servers_of P
  pub nonces : (nonce : Nonce) → by_nonce (entry_is.Base part ∷ P) nonce ≡ by_nonce P nonce
  pub live : (server : Server) → is_live (entry_is.Base part ∷ P) server ≡ is_live P server
  pub fenced : (server : Server) → is_fenced (entry_is.Base part ∷ P) server ≡ is_fenced P server
  pub laid : (root : ℕ) → is_laid (entry_is.Base part ∷ P) root ≡ is_laid P root

module _ (J : Past) (legal : IsLegal J) (begun : IsBegun J) (none : under_way J ≡ 0) (size : ℕ) where
  -- what the parts so far say, where those of some keys are to come
  pub record Keyed (own : Part) (Q : Past) (keys : List CatKey) : Type 0 where
    pub legal_now : IsLegal (entry_is.Base own ∷ Q)
    pub last : made (entry_is.Base own ∷ Q) ≡ made J
    pub sheets : sheets_of (entry_is.Base own ∷ Q) ≡ sheets_of J
    pub counts : counted (entry_is.Base own ∷ Q) ≡ counted J
    pub promised : announced (entry_is.Base own ∷ Q) ≡ size
    pub early : IsEarly own
    pub before : (key : CatKey) → IsIn key keys → Precedes own key
    pub fresh : (key : CatKey) → IsIn key keys → cat (entry_is.Base own ∷ Q) key ≡ None
    pub rows : (key : CatKey) → (cat (entry_is.Base own ∷ Q) key ≡ cat J key) ⊎ IsIn key keys
    pub undrawn : (t : TableName) → IsIn (key_is.Table t) keys → drawn (entry_is.Base own ∷ Q) t ≡ 0
    pub ids : (t : TableName) → (drawn (entry_is.Base own ∷ Q) t ≡ drawn J t) ⊎ IsIn (key_is.Table t) keys
    pub places : (region : Region) → (place_of (entry_is.Base own ∷ Q) region ≡ place_of J region) ⊎ ((place_of (entry_is.Base own ∷ Q) region ≡ nowhere place_is.Offline) × ((cat J (key_is.Region region) ≡ None) ⊎ IsIn (key_is.Region region) keys))
    pub servers : servers_of (entry_is.Base own ∷ Q) ≡ []
    pub nonces : (nonce : Nonce) → by_nonce (entry_is.Base own ∷ Q) nonce ≡ None
    pub live : (server : Server) → is_live (entry_is.Base own ∷ Q) server ≡ false
    pub fenced : (server : Server) → is_fenced (entry_is.Base own ∷ Q) server ≡ false
    pub laid : (root : ℕ) → is_laid (entry_is.Base own ∷ Q) root ≡ false

  pub record Reached (P : Past) (keys : List CatKey) : Type 0 where
    pub own : Part
    pub behind : Past
    pub is : P ≡ entry_is.Base own ∷ behind
    pub keyed : Keyed own behind keys

  -- a key without a part
  keyed_none : (own : Part) (Q : Past) (key : CatKey) (more : List CatKey) → Keyed own Q (key ∷ more) → cat J key ≡ None → ((t : TableName) → key_is.Table t ≡ key → drawn J t ≡ 0) → Keyed own Q more
  keyed_none own Q key more k gone low = record {
    legal_now = k.legal_now;
    last = k.last;
    sheets = k.sheets;
    counts = k.counts;
    promised = k.promised;
    early = k.early;
    before = λ other among. k.before other (inr among);
    fresh = λ other among. k.fresh other (inr among);
    rows = λ other. elim (k.rows other) [
      | inl same ↦ inl same
      | inr among ↦ elim among [ inl here ↦ inl (k.fresh other (inl here) ∙ sym (ap (cat J) here ∙ gone)) | inr later ↦ inr later ]
    ];
    undrawn = λ t among. k.undrawn t (inr among);
    ids = λ t. elim (k.ids t) [
      | inl same ↦ inl same
      | inr among ↦ elim among [ inl here ↦ inl (k.undrawn t (inl here) ∙ sym (low t here)) | inr later ↦ inr later ]
    ];
    places = λ r. elim (k.places r) [
      | inl same ↦ inl same
      | inr off ↦ inr (off.0, elim off.1 [ inl rowless ↦ inl rowless | inr among ↦ elim among [ inl here ↦ inl (ap (cat J) here ∙ gone) | inr later ↦ inr later ] ])
    ];
    servers = k.servers;
    nonces = k.nonces;
    live = k.live;
    fenced = k.fenced;
    laid = k.laid;
  }

  -- a key with one
  module _ (own : Part) (Q : Past) (key : CatKey) (more : List CatKey) (order : AreInOrder (key ∷ more)) (k : Keyed own Q (key ∷ more)) where
    abbrev P : Past
    P = entry_is.Base own ∷ Q

    other_key : (q : CatKey) → IsIn q more → same_key q key ≡ false
    other_key q among = elim (cases_key q key) [
      | inr differs ↦ differs.0
      | inl same ↦
          let less : key_cmp key q ≡ Less = behind_in key q more order.0 among in
          let tied : key_cmp key q ≡ Equal = key_cmp-same key q (sym same.1) in
          absurd (cc)
    ]

    keyed_one : (part : Part) → IsEarly part → IsQuiet part P → PartFits part P
        → ((q : CatKey) → part_row part q (cat P q) ≡ cond (same_key q key) (cat J key) (cat P q))
        → ((q : CatKey) → IsIn q more → Precedes part q)
        → ((t : TableName) → (part_drawn part t (drawn P t) ≡ drawn J t) ⊎ IsIn (key_is.Table t) more)
        → ((t : TableName) → IsIn (key_is.Table t) more → part_drawn part t (drawn P t) ≡ 0)
        → ((r : Region) → (part_place part r (place_of P r) ≡ place_of J r) ⊎ ((part_place part r (place_of P r) ≡ nowhere place_is.Offline) × ((cat J (key_is.Region r) ≡ None) ⊎ IsIn (key_is.Region r) more)))
        → Keyed part P more
    keyed_one part early quiet fits row before ids undrawn places = record {
      legal_now = (k.legal_now, (fits, tt));
      last = quiet.last ∙ k.last;
      sheets = quiet.sheets ∙ k.sheets;
      counts = quiet.counts ∙ k.counts;
      promised = quiet.promised ∙ k.promised;
      early = early;
      before = before;
      fresh = λ q among. row q ∙ ap (λ b. cond b (cat J key) (cat P q)) (other_key q among) ∙ k.fresh q (inr among);
      rows = λ q. elim (cases_key q key) [
        | inl same ↦ inl (row q ∙ ap (λ b. cond b (cat J key) (cat P q)) same.0 ∙ ap (cat J) (sym same.1))
        | inr differs ↦ elim (k.rows q) [
          | inl same ↦ inl (row q ∙ ap (λ b. cond b (cat J key) (cat P q)) differs.0 ∙ same)
          | inr among ↦ elim among [ inl here ↦ absurd (differs.1 here) | inr later ↦ inr later ]
        ]
      ];
      undrawn = undrawn;
      ids = ids;
      places = places;
      servers = quiet.servers ∙ k.servers;
      nonces = λ n. quiet.nonces n ∙ k.nonces n;
      live = λ s. quiet.live s ∙ k.live s;
      fenced = λ s. quiet.fenced s ∙ k.fenced s;
      laid = λ r. quiet.laid r ∙ k.laid r;
    }

    same_ids : ((t : TableName) → key_is.Table t ≢ key) → (t : TableName) → (drawn P t ≡ drawn J t) ⊎ IsIn (key_is.Table t) more
    same_ids other t = elim (k.ids t) [ inl same ↦ inl same | inr among ↦ elim among [ inl here ↦ absurd (other t here) | inr later ↦ inr later ] ]

    same_places : ((r : Region) → key_is.Region r ≢ key) → (r : Region) → (place_of P r ≡ place_of J r) ⊎ ((place_of P r ≡ nowhere place_is.Offline) × ((cat J (key_is.Region r) ≡ None) ⊎ IsIn (key_is.Region r) more))
    same_places other r = elim (k.places r) [
      | inl same ↦ inl same
      | inr off ↦ inr (off.0, elim off.1 [ inl rowless ↦ inl rowless | inr among ↦ elim among [ inl here ↦ absurd (other r here) | inr later ↦ inr later ] ])
    ]

    -- what stands in order before this key is said already
    said_row : (q : CatKey) → key_cmp key q ≡ Greater → cat P q ≡ cat J q
    said_row q after = elim (k.rows q) [
      | inl same ↦ same
      | inr among ↦ elim among [
        | inl here ↦ (let tied : key_cmp key q ≡ Equal = key_cmp-same key q (sym here) in absurd (cc))
        | inr later ↦ (let less : key_cmp key q ≡ Less = behind_in key q more order.0 later in absurd (cc))
      ]
    ]

    said_ids : (t : TableName) → key_cmp key (key_is.Table t) ≡ Greater → drawn P t ≡ drawn J t
    said_ids t after = elim (k.ids t) [
      | inl same ↦ same
      | inr among ↦ elim among [
        | inl here ↦ (let tied : key_cmp key (key_is.Table t) ≡ Equal = key_cmp-same key (key_is.Table t) (sym here) in absurd (cc))
        | inr later ↦ (let less : key_cmp key (key_is.Table t) ≡ Less = behind_in key (key_is.Table t) more order.0 later in absurd (cc))
      ]
    ]

  pub free : (key : CatKey) → IsBusy J key → ⊥
  free key busy = true≢false (sym (still J legal none busy.0 busy.1 busy.2) ∙ busy.3.1)

  -- a namespace
  reach_ns : (own : Part) (Q : Past) (ns : List ℕ) (more : List CatKey) → AreInOrder (key_is.Ns ns ∷ more) → Keyed own Q (key_is.Ns ns ∷ more) → Reached (put (entry_is.Base own ∷ Q) (key_parts J (key_is.Ns ns) (cat J (key_is.Ns ns)))) more
  reach_ns own Q ns more order k = by (cat J (key_is.Ns ns)) refl (row_fine J legal none (key_is.Ns ns))
    where
      by : (o : Option CatRow) → cat J (key_is.Ns ns) ≡ o → IsFineRow (key_is.Ns ns) o → Reached (put (entry_is.Base own ∷ Q) (key_parts J (key_is.Ns ns) o)) more
      by None e fine = record { own = own; behind = Q; is = refl; keyed = keyed_none own Q (key_is.Ns ns) more k e (λ t here. absurd (cc)) }
      by (Some row_is.Ns) e fine = record {
        own = part_is.Namespace ns;
        behind = entry_is.Base own ∷ Q;
        is = refl;
        keyed = keyed_one own Q (key_is.Ns ns) more order k (part_is.Namespace ns) tt
            (record { last = refl; sheets = refl; counts = refl; promised = refl; servers = refl; nonces = λ n. refl; live = λ s. refl; fenced = λ s. refl; laid = λ r. refl })
            (rises_ns own ns (k.before (key_is.Ns ns) (inl refl)))
            (λ q. ap (λ o. cond (same_key q (key_is.Ns ns)) o (cat (entry_is.Base own ∷ Q) q)) (sym e))
            (λ q among. behind_in (key_is.Ns ns) q more order.0 among)
            (same_ids own Q (key_is.Ns ns) more order k (λ t here. (let no : key_is.Table t ≡ key_is.Ns ns = here in cc)))
            (λ t among. k.undrawn t (inr among))
            (same_places own Q (key_is.Ns ns) more order k (λ r here. (let no : key_is.Region r ≡ key_is.Ns ns = here in cc)));
      }
      by (Some (row_is.Table state version)) e fine = absurd fine
      by (Some (row_is.Region range status parents)) e fine = absurd fine

  -- a table, with a row or with ids alone
  module _ (own : Part) (Q : Past) (t : TableName) (more : List CatKey) (order : AreInOrder (key_is.Table t ∷ more)) (k : Keyed own Q (key_is.Table t ∷ more)) where
    with_ids : (row : Option (TableState × ℕ)) → ((both : TableState × ℕ) → row ≡ Some both → (cat (entry_is.Base own ∷ Q) (key_is.Ns t.ns) ≢ None) × IsSteady both.0) → table_row row ≡ cat J (key_is.Table t) → Keyed (part_is.Table t (drawn J t) row) (entry_is.Base own ∷ Q) more
    with_ids row fine is = keyed_one own Q (key_is.Table t) more order k (part_is.Table t (drawn J t) row) tt
        (record { last = refl; sheets = refl; counts = refl; promised = refl; servers = refl; nonces = λ n. refl; live = λ s. refl; fenced = λ s. refl; laid = λ r. refl })
        (rises_table own t (drawn J t) row (k.before (key_is.Table t) (inl refl)), ids_within J legal t, fine)
        (λ q. ap (λ o. cond (same_key q (key_is.Table t)) o (cat (entry_is.Base own ∷ Q) q)) is)
        (λ q among. behind_in (key_is.Table t) q more order.0 among)
        (λ u. elim (cases_Bool (same_table t u)) [
          | inl same ↦ inl (cond-true (same_table t u) (drawn J t) (drawn (entry_is.Base own ∷ Q) u) same ∙ ap (drawn J) (same_table-is t u same))
          | inr differs ↦ elim (k.ids u) [
            | inl same ↦ inl (cond-false (same_table t u) (drawn J t) (drawn (entry_is.Base own ∷ Q) u) differs ∙ same)
            | inr among ↦ elim among [
              | inl here ↦ (let one : u ≡ t = table_of here in absurd (true≢false (sym (same_table-refl t) ∙ ap (same_table t) (sym one) ∙ differs)))
              | inr later ↦ inr later
            ]
          ]
        ])
        (λ u among. elim (cases_Bool (same_table t u)) [
          | inl same ↦
              let one = same_table-is t u same in
              absurd (true≢false (sym (same_table-refl t) ∙ ap (λ v. same_table v t) one ∙ other_key own Q (key_is.Table t) more order k (key_is.Table u) among))
          | inr differs ↦ cond-false (same_table t u) (drawn J t) (drawn (entry_is.Base own ∷ Q) u) differs ∙ k.undrawn u (inr among)
        ])
        (same_places own Q (key_is.Table t) more order k (λ r here. (let no : key_is.Region r ≡ key_is.Table t = here in cc)))
      where
        table_of : {u : TableName} → key_is.Table u ≡ key_is.Table t → u ≡ t
        table_of e = cc

    reach_table : Reached (put (entry_is.Base own ∷ Q) (key_parts J (key_is.Table t) (cat J (key_is.Table t)))) more
    reach_table = by (cat J (key_is.Table t)) refl (row_fine J legal none (key_is.Table t))
      where
        by_ids : cat J (key_is.Table t) ≡ None → (b : Bool) → (drawn J t == 0) ≡ b → Reached (put (entry_is.Base own ∷ Q) (cond b [] (part_is.Table t (drawn J t) None ∷ []))) more
        by_ids e true zero = record {
          own = own;
          behind = Q;
          is = refl;
          keyed = keyed_none own Q (key_is.Table t) more k e (λ u here. (let one : u ≡ t = cc in ap (drawn J) one ∙ eqb-true (drawn J t) 0 zero));
        }
        by_ids e false some = record {
          own = part_is.Table t (drawn J t) None;
          behind = entry_is.Base own ∷ Q;
          is = refl;
          keyed = with_ids None (λ both h. absurd (none-some both h)) (sym e);
        }

        by : (o : Option CatRow) → cat J (key_is.Table t) ≡ o → IsFineRow (key_is.Table t) o → Reached (put (entry_is.Base own ∷ Q) (key_parts J (key_is.Table t) o)) more
        by None e fine = by_ids e (drawn J t == 0) refl
        by (Some row_is.Ns) e fine = absurd fine
        by (Some (row_is.Region range status parents)) e fine = absurd fine
        by (Some (row_is.Table state version)) e fine = record {
          own = part_is.Table t (drawn J t) (Some (state, version));
          behind = entry_is.Base own ∷ Q;
          is = refl;
          keyed = with_ids (Some (state, version)) (λ both h. (there, subst (λ (b : TableState × ℕ). IsSteady b.0) (same_Some (state, version) both h) fine)) (sym e);
        }
          where
            there : cat (entry_is.Base own ∷ Q) (key_is.Ns t.ns) ≢ None
            there gone = spaces_are J legal none t (λ no. none-some (row_is.Table state version) (sym no ∙ e)) (sym (said_row own Q (key_is.Table t) more order k (key_is.Ns t.ns) refl) ∙ gone)

  -- a region
  module _ (own : Part) (Q : Past) (r : Region) (more : List CatKey) (order : AreInOrder (key_is.Region r ∷ more)) (k : Keyed own Q (key_is.Region r ∷ more)) where
    abbrev R : Past
    R = entry_is.Base own ∷ Q

    module _ (range : KeyRange) (status : Status) (parents : List ℕ) (e : cat J (key_is.Region r) ≡ Some (row_is.Region range status parents)) where
      there : cat J (key_is.Region r) ≢ None
      there gone = none-some (row_is.Region range status parents) (sym gone ∙ e)

      table_row_is : (state : TableState) × (version : ℕ) × (cat J (key_is.Table r.table) ≡ Some (row_is.Table state version))
      table_row_is = by (cat J (key_is.Table r.table)) refl (row_fine J legal none (key_is.Table r.table))
        where
          by : (o : Option CatRow) → cat J (key_is.Table r.table) ≡ o → IsFineRow (key_is.Table r.table) o → (state : TableState) × (version : ℕ) × (cat J (key_is.Table r.table) ≡ Some (row_is.Table state version))
          by None gone fine = absurd (there (missing_bare J legal (no_half J begun) r.table (free (key_is.Table r.table)) gone r refl))
          by (Some row_is.Ns) is fine = absurd fine
          by (Some (row_is.Region span was ids)) is fine = absurd fine
          by (Some (row_is.Table state version)) is fine = (state, version, is)

      table_now : cat R (key_is.Table r.table) ≡ cat J (key_is.Table r.table)
      table_now = said_row own Q (key_is.Region r) more order k (key_is.Table r.table) refl

      stands : (state : TableState) × (version : ℕ) × (cat R (key_is.Table r.table) ≡ Some (row_is.Table state version)) × MayStand (place_of J r) status state
      stands = elim (place_stands J legal none begun r) [
        | inl idle ↦ (table_row_is.0, table_row_is.1, table_now ∙ table_row_is.2, inl (idle.unplaced, idle.untried, idle.nowhere))
        | inr held ↦
            let same : row_is.Region range status parents ≡ row_is.Region held.range status_is.Live held.live.0 = same_Some _ _ (sym e ∙ held.live.1) in
            let live : status ≡ status_is.Live = cc in
            (state_is.Enabled, held.version, table_now ∙ held.table, inr (ap (is_state place_is.Opened) held.place, live, refl, held.server, ap (λ (p : Place). p.server) held.place))
      ]

      live_now : (other : Region) (span : KeyRange) → IsLiveWith (cat R) other span → IsLiveWith (cat J) other span
      live_now other span is = elim (k.rows (key_is.Region other)) [
        | inl same ↦ (is.0, sym same ∙ is.1)
        | inr among ↦ absurd (none-some _ (sym (k.fresh (key_is.Region other) among) ∙ is.1))
      ]

      range_fits : RangeFits R r range status
      range_fits live = (
        ((have_keys J legal r.table).0 r range refl (parents, e ∙ ap (λ s. Some (row_is.Region range s parents)) live)),
        (λ other span same is.
            let differs : r ≢ other = (λ one. none-some _ (sym (ap (λ x. cat R (key_is.Region x)) (sym one) ∙ k.fresh (key_is.Region r) (inl refl)) ∙ is.1)) in
            let mine : IsLiveWith (cat J) r range = (parents, e ∙ ap (λ s. Some (row_is.Region range s parents)) live) in
            let theirs = live_now other span is in (
              never_overlap J legal r.table r other range span refl same differs mine theirs,
              never_overlap J legal r.table other r span range same refl (λ one. differs (sym one)) theirs mine,
            )),
      )

      keyed_region : length parents ≤ 10 → Keyed (part_is.Region r range status parents (place_of J r)) R more
      keyed_region few =
          let ids = ids_are_drawn J legal r.table r.id there in
          keyed_one own Q (key_is.Region r) more order k (part_is.Region r range status parents (place_of J r)) tt
          (record { last = refl; sheets = refl; counts = refl; promised = refl; servers = refl; nonces = λ n. refl; live = λ s. refl; fenced = λ s. refl; laid = λ r. refl })
          (rises_region own r range status parents (place_of J r) (k.before (key_is.Region r) (inl refl)), ids.0, subst (λ n. r.id ≤ n) (sym (said_ids own Q (key_is.Region r) more order k r.table refl)) ids.1, few, stands, range_fits)
          (λ q. ap (λ o. cond (same_key q (key_is.Region r)) o (cat R q)) (sym e))
          (λ q among. behind_in (key_is.Region r) q more order.0 among)
          (same_ids own Q (key_is.Region r) more order k (λ t here. (let no : key_is.Table t ≡ key_is.Region r = here in cc)))
          (λ t among. k.undrawn t (inr among))
          (λ x. elim (cases_key (key_is.Region x) (key_is.Region r)) [
            | inl same ↦ inl (ap (λ b. cond b (place_of J r) (place_of R x)) same.0 ∙ ap (place_of J) (region_of (sym same.1)))
            | inr differs ↦
                let off : cond (same_key (key_is.Region x) (key_is.Region r)) (place_of J r) (place_of R x) ≡ place_of R x = ap (λ b. cond b (place_of J r) (place_of R x)) differs.0 in
                elim (k.places x) [
                  | inl same ↦ inl (off ∙ same)
                  | inr out ↦ inr (off ∙ out.0, elim out.1 [ inl rowless ↦ inl rowless | inr among ↦ elim among [ inl here ↦ absurd (differs.1 here) | inr later ↦ inr later ] ])
                ]
          ])
        where
          region_of : {x y : Region} → key_is.Region x ≡ key_is.Region y → x ≡ y
          region_of e = cc

    reach_region : Reached (put R (key_parts J (key_is.Region r) (cat J (key_is.Region r)))) more
    reach_region = by (cat J (key_is.Region r)) refl (row_fine J legal none (key_is.Region r))
      where
        by : (o : Option CatRow) → cat J (key_is.Region r) ≡ o → IsFineRow (key_is.Region r) o → Reached (put (entry_is.Base own ∷ Q) (key_parts J (key_is.Region r) o)) more
        by None e fine = record { own = own; behind = Q; is = refl; keyed = keyed_none own Q (key_is.Region r) more k e (λ t here. absurd (cc)) }
        by (Some row_is.Ns) e fine = absurd fine
        by (Some (row_is.Table state version)) e fine = absurd fine
        by (Some (row_is.Region range status parents)) e fine = record {
          own = part_is.Region r range status parents (place_of J r);
          behind = R;
          is = refl;
          keyed = keyed_region range status parents e fine;
        }

  reach_key : (own : Part) (Q : Past) (key : CatKey) (more : List CatKey) → AreInOrder (key ∷ more) → Keyed own Q (key ∷ more) → Reached (put (entry_is.Base own ∷ Q) (key_parts J key (cat J key))) more
  reach_key own Q (key_is.Ns ns) more order k = reach_ns own Q ns more order k
  reach_key own Q (key_is.Table t) more order k = reach_table own Q t more order k
  reach_key own Q (key_is.Region r) more order k = reach_region own Q r more order k

  -- all of them
  pub reach_all : (keys : List CatKey) → AreInOrder keys → (P : Past) → Reached P keys → Reached (put P (flat_map (λ key. key_parts J key (cat J key)) keys)) []
  reach_all [] order P reached = reached
  reach_all (key ∷ more) order P reached =
      let now = reach_key reached.own reached.behind key more order reached.keyed in
      subst (λ X. Reached X []) (sym (put_append P (key_parts J key (cat J key)) (flat_map (λ key. key_parts J key (cat J key)) more)))
      (reach_all more order.1 (put P (key_parts J key (cat J key))) (subst (λ X. Reached (put X (key_parts J key (cat J key))) more) (sym reached.is) now))
