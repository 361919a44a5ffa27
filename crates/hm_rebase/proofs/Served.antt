-- The parts of the servers, put behind those of the catalog: each fits, and they tell who came up, is live and is fenced.
use Rattle.std.proofs.Common.{◌≡◌, ℕ, List, [], ◌∷◌, map, Bool, true, false, not, ◌&&◌, ◌||◌, nat_lt, None, refl, ap, sym, ◌∙◌, subst, inl, inr, ◌⊎◌}
use Rattle.std.specs.Ordering.{is_lt}
use Rattle.std.specs.declared.cmp.Ordering.TheVariants.{Equal, Less}
use Rattle.std.proofs.lemmas.Bool.{cases_Bool, true≢false}
use Rattle.std.proofs.lemmas.Cmp.{tied_itself}
use Rattle.hm_names.specs.Order.{server_cmp}
use Rattle.hm_names.specs.Region.{Region}
use Rattle.hm_names.specs.Server.{Server}
use Rattle.hm_names.specs.declared.nonce.Nonce.{Nonce}
use Rattle.hm_names.specs.declared.table.TableName.{TableName}
use Rattle.hm_data.specs.declared.catalog.CatKey.{CatKey}
use Rattle.hm_data.specs.declared.catalog.CatKey.TheVariants as key_is
use Rattle.hm_data.specs.declared.entry.Entry.TheVariants as entry_is
use Rattle.hm_data.specs.declared.part.Part.{Part}
use Rattle.hm_data.specs.declared.part.Part.TheVariants as part_is
use Rattle.hm_data.specs.declared.place.RegionState.TheVariants as place_is
use Rattle.hm_model.specs.Base.{IsBegun, announced, rises}
use Rattle.hm_model.specs.Catalog.{cat}
use Rattle.hm_model.specs.Fleet.{has_newer, has_older_live, is_fenced, is_live, same_address, same_server, servers_of}
use Rattle.hm_model.specs.Image.{counted, server_part}
use Rattle.hm_model.specs.Journal.{Past}
use Rattle.hm_model.specs.Layouts.{is_laid}
use Rattle.hm_model.specs.Locks.{IsIn}
use Rattle.hm_model.specs.Nonces.{by_nonce}
use Rattle.hm_model.specs.Places.{place_of}
use Rattle.hm_model.specs.Rebase.{under_way}
use Rattle.hm_model.specs.Rules.{IsLegal}
use Rattle.hm_model.specs.Sheets.{sheets_of}
use Rattle.hm_model.specs.TransitActs.{nowhere}
use Rattle.hm_model.specs.Tree.{drawn, made}
use Rattle.hm_model.proofs.CameUp.{fenced_came, live_came}
use Rattle.hm_model.proofs.NameTies.{same_server-is, same_server-refl, server_cmp-is, servers_total}
use Rattle.hm_costs.proofs.Dead.{live_unfenced}
use Rattle.hm_rebase.proofs.Downed.{down_fenced}
use Rattle.hm_rebase.proofs.Keyed.{IsEarly, Keyed}
use Rattle.hm_rebase.proofs.Latest.{any_none, came_in, in_came, latest_all, servers_order, start_less}
use Rattle.hm_rebase.proofs.Orders.{InOrder, from_with, in_with, later_in, same_list}
use Rattle.hm_rebase.proofs.Putting.{put}
use Rattle.hm_rebase.proofs.Still.{still}
use Rattle.std.proofs.Math.Bool.{not-not, or-false}

-- a part comes before that of a server
abbrev pub Leads : Part → Server → Type 0
Leads (part_is.Server own fenced) server = server_cmp own server ≡ Less
Leads (part_is.Root pid nonce args cause) server = ⊥
Leads (part_is.Layout pid) server = ⊥
Leads part server = Unit {0}

early_leads : (own : Part) (server : Server) → IsEarly own → Leads own server
early_leads (part_is.Server own fenced) server early = absurd early
early_leads (part_is.Root pid nonce args cause) server early = absurd early
early_leads (part_is.Layout pid) server early = absurd early
early_leads part server early = tt

rises_server : (own : Part) (server : Server) (fenced : Bool) → Leads own server → rises own (part_is.Server server fenced) ≡ true
rises_server (part_is.Server own gone) server fenced h = ap is_lt h
rises_server (part_is.Root pid nonce args cause) server fenced h = absurd h
rises_server (part_is.Layout pid) server fenced h = absurd h
rises_server part server fenced h = refl

-- no root or layout
abbrev pub IsMiddle : Part → Type 0
IsMiddle (part_is.Root pid nonce args cause) = ⊥
IsMiddle (part_is.Layout pid) = ⊥
IsMiddle part = Unit {0}

early_middle : (own : Part) → IsEarly own → IsMiddle own
early_middle (part_is.Root pid nonce args cause) early = absurd early
early_middle (part_is.Layout pid) early = absurd early
early_middle part early = tt

module _ (J : Past) (legal : IsLegal J) (begun : IsBegun J) (none : under_way J ≡ 0) (size : ℕ) where
  -- what the parts so far say, where some servers are to come
  pub record Served (own : Part) (Q : Past) (rest : List Server) : Type 0 where
    pub legal_now : IsLegal (entry_is.Base own ∷ Q)
    pub last : made (entry_is.Base own ∷ Q) ≡ made J
    pub sheets : sheets_of (entry_is.Base own ∷ Q) ≡ sheets_of J
    pub counts : counted (entry_is.Base own ∷ Q) ≡ counted J
    pub promised : announced (entry_is.Base own ∷ Q) ≡ size
    pub middle : IsMiddle own
    pub rows : (key : CatKey) → cat (entry_is.Base own ∷ Q) key ≡ cat J key
    pub ids : (t : TableName) → drawn (entry_is.Base own ∷ Q) t ≡ drawn J t
    pub places : (region : Region) → (place_of (entry_is.Base own ∷ Q) region ≡ place_of J region) ⊎ ((place_of (entry_is.Base own ∷ Q) region ≡ nowhere place_is.Offline) × (cat J (key_is.Region region) ≡ None))
    pub before : (s : Server) → IsIn s rest → Leads own s
    pub inside : (s : Server) → IsIn s rest → IsIn s (servers_of J)
    pub within : (y : Server) → IsIn y (servers_of (entry_is.Base own ∷ Q)) → IsIn y (servers_of J)
    pub listed : (y : Server) → IsIn y (servers_of J) → IsIn y (servers_of (entry_is.Base own ∷ Q)) ⊎ IsIn y rest
    pub earlier : (y s : Server) → IsIn y (servers_of (entry_is.Base own ∷ Q)) → IsIn s rest → server_cmp y s ≡ Less
    pub dead : (s : Server) → IsIn s rest → (is_live (entry_is.Base own ∷ Q) s ≡ false) × (is_fenced (entry_is.Base own ∷ Q) s ≡ false)
    pub live : (s : Server) → (is_live (entry_is.Base own ∷ Q) s ≡ is_live J s) ⊎ IsIn s rest
    pub fenced : (s : Server) → (is_fenced (entry_is.Base own ∷ Q) s ≡ is_fenced J s) ⊎ IsIn s rest
    pub nonces : (nonce : Nonce) → by_nonce (entry_is.Base own ∷ Q) nonce ≡ None
    pub laid : (root : ℕ) → is_laid (entry_is.Base own ∷ Q) root ≡ false

  pub record HasServed (P : Past) (rest : List Server) : Type 0 where
    pub own : Part
    pub behind : Past
    pub is : P ≡ entry_is.Base own ∷ behind
    pub served : Served own behind rest

  -- who never came up is neither live nor fenced
  off_live : (s : Server) → (IsIn s (servers_of J) → ⊥) → is_live J s ≡ false
  off_live s out = elim (cases_Bool (is_live J s)) [ inr off ↦ off | inl on ↦ absurd (out (came_in s (servers_of J) (live_came J s on))) ]

  off_fenced : (s : Server) → (IsIn s (servers_of J) → ⊥) → is_fenced J s ≡ false
  off_fenced s out = elim (cases_Bool (is_fenced J s)) [ inr off ↦ off | inl on ↦ absurd (out (came_in s (servers_of J) (fenced_came J legal s on))) ]

  in_or : (s : Server) (list : List Server) → IsIn s list ⊎ (IsIn s list → ⊥)
  in_or s [] = inr (λ h. h)
  in_or s (first ∷ more) = elim (cases_Bool (same_server s first)) [
    | inl same ↦ inl (inl (same_server-is s first same))
    | inr differs ↦ elim (in_or s more) [
      | inl later ↦ inl (inr later)
      | inr out ↦ inr (λ h. elim h [ inl here ↦ true≢false (sym (ap (same_server s) (sym here) ∙ same_server-refl s) ∙ differs) | inr later ↦ out later ])
    ]
  ]

  -- behind the parts of the catalog
  pub first_served : (own : Part) (Q : Past) → Keyed J legal begun none size own Q [] → Served own Q (servers_of J)
  first_served own Q k = record {
    legal_now = k.legal_now;
    last = k.last;
    sheets = k.sheets;
    counts = k.counts;
    promised = k.promised;
    middle = early_middle own k.early;
    rows = λ key. elim (k.rows key) [ inl same ↦ same | inr among ↦ absurd among ];
    ids = λ t. elim (k.ids t) [ inl same ↦ same | inr among ↦ absurd among ];
    places = λ r. elim (k.places r) [ inl same ↦ inl same | inr off ↦ inr (off.0, elim off.1 [ inl gone ↦ gone | inr among ↦ absurd among ]) ];
    before = λ s among. early_leads own s k.early;
    inside = λ s among. among;
    within = λ y among. absurd (subst (IsIn y) k.servers among);
    listed = λ y among. inr among;
    earlier = λ y s among later. absurd (subst (IsIn y) k.servers among);
    dead = λ s among. (k.live s, k.fenced s);
    live = λ s. elim (in_or s (servers_of J)) [ inl among ↦ inr among | inr out ↦ inl (k.live s ∙ sym (off_live s out)) ];
    fenced = λ s. elim (in_or s (servers_of J)) [ inl among ↦ inr among | inr out ↦ inl (k.fenced s ∙ sym (off_fenced s out)) ];
    nonces = k.nonces;
    laid = k.laid;
  }

  -- one more server
  module _ (own : Part) (Q : Past) (s : Server) (rest : List Server) (order : InOrder server_cmp (s ∷ rest)) (k : Served own Q (s ∷ rest)) where
    abbrev P : Past
    P = entry_is.Base own ∷ Q

    here_in : IsIn s (servers_of J)
    here_in = k.inside s (inl refl)

    newer_none : has_newer P s ≡ false
    newer_none = any_none (λ other. same_address s other && not (nat_lt other.start s.start)) (servers_of P) (λ y among. by y among (same_address s y) refl)
      where
        by : (y : Server) → IsIn y (servers_of P) → (b : Bool) → same_address s y ≡ b → (b && not (nat_lt y.start s.start)) ≡ false
        by y among false e = refl
        by y among true e = ap not (start_less y s e (k.earlier y s among (inl refl)))

    older_none : has_older_live P s ≡ false
    older_none = any_none (λ other. same_address s other && (nat_lt other.start s.start && is_live P other)) (servers_of P) (λ y among. by y (same_address s y) refl (nat_lt y.start s.start) refl (is_live P y) refl)
      where
        by : (y : Server) (a : Bool) → same_address s y ≡ a → (b : Bool) → nat_lt y.start s.start ≡ b → (c : Bool) → is_live P y ≡ c → (a && (b && c)) ≡ false
        by y false near b less c live = refl
        by y true near false less c live = refl
        by y true near true less false live = refl
        by y true near true less true live = elim (k.live y) [
          | inl same ↦ absurd (latest_all J legal y s (in_came s (servers_of J) here_in) (sym same ∙ live) near less)
          | inr among ↦ absurd (true≢false (sym live ∙ (k.dead y among).0))
        ]

    -- the part says whether it is live, and whether it is fenced
    live_said : not (not (is_live J s)) ≡ is_live J s
    live_said = not-not (is_live J s)

    fenced_said : not (is_live J s) ≡ is_fenced J s
    fenced_said = elim (cases_Bool (is_live J s)) [
      | inl on ↦ ap not on ∙ sym (live_unfenced J legal s on)
      | inr off ↦ ap not off ∙ sym (down_fenced J legal (still J legal none) s (in_came s (servers_of J) here_in) off)
    ]

    apart : (x : Server) → IsIn x rest → same_server x s ≡ false
    apart x among = elim (cases_Bool (same_server x s)) [
      | inr off ↦ off
      | inl on ↦
          let less : server_cmp s x ≡ Less = later_in server_cmp s x rest order.0 among in
          let tied : server_cmp s x ≡ Equal = ap (server_cmp s) (same_server-is x s on) ∙ tied_itself servers_total s in
          absurd (cc)
    ]

    -- what a reading by servers is with the part
    reading : (said was : Bool) (now : Server → Bool) (then : Server → Bool) → ((x : Server) → (now x ≡ then x) ⊎ IsIn x (s ∷ rest)) → now s ≡ false → said ≡ then s → (x : Server) → (((same_server x s && said) || now x) ≡ then x) ⊎ IsIn x rest
    reading said was now then old fresh is x = elim (cases_Bool (same_server x s)) [
      | inl same ↦
          let one = same_server-is x s same in
          inl (ap (λ b. (b && said) || now x) same ∙ ap (λ y. said || now y) one ∙ ap (λ b. said || b) fresh ∙ or-false said ∙ is ∙ ap then (sym one))
      | inr differs ↦ elim (old x) [
        | inl same ↦ inl (ap (λ b. (b && said) || now x) differs ∙ same)
        | inr among ↦ elim among [
          | inl here ↦ absurd (true≢false (sym (ap (same_server x) (sym here) ∙ same_server-refl x) ∙ differs))
          | inr later ↦ inr later
        ]
      ]
    ]

    served_one : Served (server_part J s) P rest
    served_one = record {
      legal_now = (k.legal_now, ((rises_server own s (not (is_live J s)) (k.before s (inl refl)), newer_none, older_none), tt));
      last = k.last;
      sheets = k.sheets;
      counts = k.counts;
      promised = k.promised;
      middle = tt;
      rows = k.rows;
      ids = k.ids;
      places = k.places;
      before = λ x among. later_in server_cmp s x rest order.0 among;
      inside = λ x among. k.inside x (inr among);
      within = λ y among. elim (from_with server_cmp y s (servers_of P) among) [ inl new ↦ subst (λ z. IsIn z (servers_of J)) (sym new) here_in | inr old ↦ k.within y old ];
      listed = λ y among. elim (k.listed y among) [
        | inl old ↦ inl (in_with server_cmp servers_total server_cmp-is y s (servers_of P) (inr old))
        | inr later ↦ elim later [ inl here ↦ inl (in_with server_cmp servers_total server_cmp-is y s (servers_of P) (inl here)) | inr more ↦ inr more ]
      ];
      earlier = λ y x among later. elim (from_with server_cmp y s (servers_of P) among) [
        | inl new ↦ ap (λ z. server_cmp z x) new ∙ later_in server_cmp s x rest order.0 later
        | inr old ↦ k.earlier y x old (inr later)
      ];
      dead = λ x among.
          let d = k.dead x (inr among) in (
            ap (λ b. (b && not (not (is_live J s))) || is_live P x) (apart x among) ∙ d.0,
            ap (λ b. (b && not (is_live J s)) || is_fenced P x) (apart x among) ∙ d.1,
          );
      live = reading (not (not (is_live J s))) false (is_live P) (is_live J) k.live (k.dead s (inl refl)).0 live_said;
      fenced = reading (not (is_live J s)) false (is_fenced P) (is_fenced J) k.fenced (k.dead s (inl refl)).1 fenced_said;
      nonces = k.nonces;
      laid = k.laid;
    }

  pub serve_all : (rest : List Server) → InOrder server_cmp rest → (P : Past) → HasServed P rest → HasServed (put P (map (server_part J) rest)) []
  serve_all [] order P h = h
  serve_all (s ∷ rest) order P h =
      serve_all rest order.1 (entry_is.Base (server_part J s) ∷ P) (record {
        own = server_part J s;
        behind = P;
        is = refl;
        served = subst (λ X. Served (server_part J s) X rest) (sym h.is) (served_one h.own h.behind s rest order h.served);
      })

  -- then all servers are the same
  pub served_same : (own : Part) (Q : Past) → Served own Q [] → servers_of (entry_is.Base own ∷ Q) ≡ servers_of J
  served_same own Q k = same_list server_cmp servers_total (servers_of (entry_is.Base own ∷ Q)) (servers_of J) (servers_order (entry_is.Base own ∷ Q)) (servers_order J) k.within (λ y among. elim (k.listed y among) [ inl old ↦ old | inr later ↦ absurd later ])
