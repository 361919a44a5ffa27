-- The parts of the roots and of the layouts, put behind those of the servers: each fits.
use Rattle.std.proofs.Common.{◌≡◌, ℕ, ◌<◌, ◌≤◌, List, [], ◌∷◌, map, true, cond, Option, Some, None, refl, ap, sym, ◌∙◌, subst, inl, inr, ◌⊎◌, arith}
use Rattle.std.proofs.lemmas.Bool.{lt-ltb}
use Rattle.hm_names.specs.Region.{Region}
use Rattle.hm_names.specs.Server.{Server}
use Rattle.hm_names.specs.declared.nonce.Nonce.{Nonce}
use Rattle.hm_names.specs.declared.pid.Pid.{Pid}
use Rattle.hm_names.specs.declared.table.TableName.{TableName}
use Rattle.hm_data.specs.declared.answer.Cause.{Cause}
use Rattle.hm_data.specs.declared.args.Args.{Args}
use Rattle.hm_data.specs.declared.catalog.CatKey.{CatKey}
use Rattle.hm_data.specs.declared.catalog.CatKey.TheVariants as key_is
use Rattle.hm_data.specs.declared.entry.Entry.TheVariants as entry_is
use Rattle.hm_data.specs.declared.part.Part.{Part}
use Rattle.hm_data.specs.declared.part.Part.TheVariants as part_is
use Rattle.hm_data.specs.declared.place.RegionState.TheVariants as place_is
use Rattle.hm_model.specs.Base.{IsBegun, MayRoot, PartFits, Rises, announced, rises}
use Rattle.hm_model.specs.Catalog.{cat}
use Rattle.hm_model.specs.Fleet.{is_fenced, is_live, servers_of}
use Rattle.hm_model.specs.Image.{counted}
use Rattle.hm_model.specs.Journal.{Past}
use Rattle.hm_model.specs.Nonces.{by_nonce, is_same}
use Rattle.hm_model.specs.Places.{place_of}
use Rattle.hm_model.specs.Rebase.{under_way}
use Rattle.hm_model.specs.Rules.{IsLegal}
use Rattle.hm_model.specs.Sheets.{sheets_of}
use Rattle.hm_model.specs.TransitActs.{nowhere}
use Rattle.hm_model.specs.Tree.{drawn, made, pid_of}
use Rattle.hm_rebase.proofs.Cores.{Core, Good, top, under}
use Rattle.hm_rebase.proofs.Putting.{put}
use Rattle.hm_rebase.proofs.Rooting.{Tells}
use Rattle.hm_rebase.proofs.Served.{IsMiddle, Served, served_same}

-- a part comes before that of a root above a number
abbrev pub Lower : Part → ℕ → Type 0
Lower (part_is.Root one nonce args cause) low = one.0 ≡ low
Lower (part_is.Layout one) low = ⊥
Lower part low = Unit {0}

rises_root : (own : Part) (low : ℕ) (pid : Pid) (nonce : Nonce) (args : Args) (cause : Option Cause) → Lower own low → low < pid.0 → rises own (part_is.Root pid nonce args cause) ≡ true
rises_root (part_is.Root one used work why) low pid nonce args cause h lt = lt-ltb one.0 pid.0 (omega (arith, h, lt))
rises_root (part_is.Layout one) low pid nonce args cause h lt = absurd h
rises_root part low pid nonce args cause h lt = refl

middle_lower : (own : Part) → IsMiddle own → Lower own 0
middle_lower (part_is.Root one used work why) h = absurd h
middle_lower (part_is.Layout one) h = absurd h
middle_lower part h = tt

-- a part comes before that of a layout above a number
abbrev pub Under : Part → ℕ → Type 0
Under (part_is.Layout one) low = one.0 ≤ low
Under part low = Unit {0}

rises_layout : (own : Part) (low : ℕ) (pid : Pid) → Under own low → low < pid.0 → rises own (part_is.Layout pid) ≡ true
rises_layout (part_is.Layout one) low pid h lt = lt-ltb one.0 pid.0 (omega (arith, h, lt))
rises_layout part low pid h lt = refl

lower_under : (own : Part) (low : ℕ) → Lower own low → Under own 0
lower_under (part_is.Layout one) low h = absurd h
lower_under part low h = tt

-- numbers that rise, from above one up to another
abbrev pub AreRising : ℕ → ℕ → List ℕ → Type 0
AreRising low high [] = Unit {0}
AreRising low high (n ∷ more) = (low < n) × (n ≤ high) × AreRising n high more

module _ (J : Past) (legal : IsLegal J) (begun : IsBegun J) (none : under_way J ≡ 0) (size : ℕ) where
  -- what all parts say but the nonces and the layouts
  pub record Says (P : Past) : Type 0 where
    pub legal_now : IsLegal P
    pub last : made P ≡ made J
    pub sheets : sheets_of P ≡ sheets_of J
    pub counts : counted P ≡ counted J
    pub promised : announced P ≡ size
    pub rows : (key : CatKey) → cat P key ≡ cat J key
    pub ids : (t : TableName) → drawn P t ≡ drawn J t
    pub places : (region : Region) → (place_of P region ≡ place_of J region) ⊎ ((place_of P region ≡ nowhere place_is.Offline) × (cat J (key_is.Region region) ≡ None))
    pub servers : servers_of P ≡ servers_of J
    pub live : (s : Server) → is_live P s ≡ is_live J s
    pub fenced : (s : Server) → is_fenced P s ≡ is_fenced J s

  -- the part of a root or of a layout leaves what the others say
  says_on : (part : Part) → (IsMiddle part → ⊥) → (P : Past) → Says P → PartFits part P → Says (entry_is.Base part ∷ P)
  says_on (part_is.Head entries last parts sheets) late P s fits = absurd (late tt)
  says_on (part_is.Namespace ns) late P s fits = absurd (late tt)
  says_on (part_is.Table table drawn row) late P s fits = absurd (late tt)
  says_on (part_is.Region region range status parents place) late P s fits = absurd (late tt)
  says_on (part_is.Server server fenced) late P s fits = absurd (late tt)
  says_on part late P s fits = record {
    legal_now = (s.legal_now, (fits, tt));
    last = s.last;
    sheets = s.sheets;
    counts = s.counts;
    promised = s.promised;
    rows = s.rows;
    ids = s.ids;
    places = s.places;
    servers = s.servers;
    live = s.live;
    fenced = s.fenced;
  }

  -- the latest part, of which something holds with a number, what the parts say, and the nonces that they use
  pub record HasParts (Before : Part → ℕ → Type 0) (P : Past) (low : ℕ) (used : Nonce → Option ℕ) : Type 0 where
    pub own : Part
    pub behind : Past
    pub is : P ≡ entry_is.Base own ∷ behind
    pub says : Says P
    pub before : Before own low
    pub nonces : (nonce : Nonce) → by_nonce P nonce ≡ used nonce

  abbrev pub HasRooted : Past → ℕ → (Nonce → Option ℕ) → Type 0
  HasRooted = HasParts Lower

  pub first_rooted : (own : Part) (Q : Past) → Served J legal begun none size own Q [] → HasRooted (entry_is.Base own ∷ Q) 0 (λ n. None)
  first_rooted own Q k = record {
    own = own;
    behind = Q;
    is = refl;
    says = record {
      legal_now = k.legal_now;
      last = k.last;
      sheets = k.sheets;
      counts = k.counts;
      promised = k.promised;
      rows = k.rows;
      ids = k.ids;
      places = k.places;
      servers = served_same J legal begun none size own Q k;
      live = λ s. elim (k.live s) [ inl same ↦ same | inr among ↦ absurd among ];
      fenced = λ s. elim (k.fenced s) [ inl same ↦ same | inr among ↦ absurd among ];
    };
    before = middle_lower own k.middle;
    nonces = k.nonces;
  }

  root_one : (P : Past) (low : ℕ) (used : Nonce → Option ℕ) → HasRooted P low used → (pid : Pid) (nonce : Nonce) (args : Args) (cause : Option Cause) (core : Core) → pid.0 ≡ core.pid → nonce ≡ core.nonce → args ≡ core.args
      → (low < core.pid) × (core.pid ≤ made J) × (used core.nonce ≡ None) × MayRoot core.args → HasRooted (entry_is.Base (part_is.Root pid nonce args cause) ∷ P) core.pid (λ n. cond (is_same core.nonce n) (Some core.pid) (used n))
  root_one P low used h pid nonce args cause core p_is n_is a_is good =
      let s = h.says in
      let last = s.last in
      let above = good.0 in
      let within = good.1 in
      record {
        own = part_is.Root pid nonce args cause;
        behind = P;
        is = refl;
        says = says_on (part_is.Root pid nonce args cause) (λ middle. middle) P s (
          rises_behind (rises_root h.own low pid nonce args cause h.before (omega (arith, above, p_is))),
          omega (arith, above, p_is),
          omega (arith, within, p_is, last),
          h.nonces nonce ∙ ap used n_is ∙ good.2,
          subst MayRoot (sym a_is) good.3,
        );
        before = p_is;
        nonces = λ n. ap (λ x. cond (is_same x n) (Some pid.0) (by_nonce P n)) n_is ∙ ap (λ x. cond (is_same core.nonce n) (Some x) (by_nonce P n)) p_is ∙ ap (cond (is_same core.nonce n) (Some core.pid)) (h.nonces n);
      }
    where
      rises_behind : rises h.own (part_is.Root pid nonce args cause) ≡ true → Rises P (part_is.Root pid nonce args cause)
      rises_behind up = subst (λ X. Rises X (part_is.Root pid nonce args cause)) (sym h.is) up

  pub root_all : (parts : List Part) (list : List Core) → Tells parts list → (P : Past) (low : ℕ) (used : Nonce → Option ℕ) → Good (made J) low used list → HasRooted P low used → HasRooted (put P parts) (top low list) (under list used)
  root_all [] [] tells P low used good h = h
  root_all [] (core ∷ list) tells P low used good h = absurd tells
  root_all (part_is.Root pid nonce args cause ∷ parts) [] tells P low used good h = absurd tells
  root_all (part_is.Root pid nonce args cause ∷ parts) (core ∷ list) tells P low used good h =
      root_all parts list tells.1 (entry_is.Base (part_is.Root pid nonce args cause) ∷ P) core.pid (λ n. cond (is_same core.nonce n) (Some core.pid) (used n)) good.1 (root_one P low used h pid nonce args cause core tells.0.0 tells.0.1 tells.0.2 good.0)
  root_all (part ∷ parts) list tells P low used good h = absurd tells

  -- behind the roots the layouts
  abbrev pub HasAll : Past → ℕ → (Nonce → Option ℕ) → Type 0
  HasAll = HasParts Under

  pub first_all : (P : Past) (low : ℕ) (used : Nonce → Option ℕ) → HasRooted P low used → HasAll P 0 used
  first_all P low used h = record { own = h.own; behind = h.behind; is = h.is; says = h.says; before = lower_under h.own low h.before; nonces = h.nonces }

  layout_one : (P : Past) (low : ℕ) (used : Nonce → Option ℕ) → HasAll P low used → (root : ℕ) → low < root → root ≤ made J → HasAll (entry_is.Base (part_is.Layout (pid_of root)) ∷ P) root used
  layout_one P low used h root above within =
      let s = h.says in
      let last = s.last in
      record {
        own = part_is.Layout (pid_of root);
        behind = P;
        is = refl;
        says = says_on (part_is.Layout (pid_of root)) (λ middle. middle) P s (
          subst (λ X. Rises X (part_is.Layout (pid_of root))) (sym h.is) (rises_layout h.own low (pid_of root) h.before above),
          omega (arith, above),
          omega (arith, within, last),
        );
        before = omega arith;
        nonces = h.nonces;
      }

  pub layout_all : (roots : List ℕ) (low : ℕ) (used : Nonce → Option ℕ) → AreRising low (made J) roots → (P : Past) → HasAll P low used → (end : ℕ) × HasAll (put P (map (λ root. part_is.Layout (pid_of root)) roots)) end used
  layout_all [] low used rising P h = (low, h)
  layout_all (root ∷ roots) low used rising P h = layout_all roots root used rising.2 (entry_is.Base (part_is.Layout (pid_of root)) ∷ P) (layout_one P low used h root rising.0 rising.1)
