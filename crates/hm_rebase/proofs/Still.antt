-- What holds of a journal with nothing unfinished.
use Rattle.std.proofs.Common.{◌≡◌, ◌≢◌, ℕ, ◌+◌, [], Bool, true, false, not, ◌&&◌, ◌||◌, Option, Some, None, is_some, refl, ap, sym, ◌∙◌, subst, inl, inr, ◌⊎◌, arith}
use Rattle.std.proofs.lemmas.Bool.{and_from, cases_Bool, false≢true, or_left, or_parts, or_right, true≢false}
use Rattle.hm_names.specs.Region.{Region}
use Rattle.hm_names.specs.Server.{Server}
use Rattle.hm_names.specs.declared.range.KeyRange.{KeyRange}
use Rattle.hm_data.specs.declared.catalog.CatKey.{CatKey}
use Rattle.hm_data.specs.declared.catalog.CatKey.TheVariants as key_is
use Rattle.hm_data.specs.declared.catalog.CatRow.TheVariants as row_is
use Rattle.hm_data.specs.declared.catalog.TableState.{TableState}
use Rattle.hm_data.specs.declared.catalog.TableState.TheVariants as state_is
use Rattle.hm_data.specs.declared.place.Place.{Place}
use Rattle.hm_data.specs.declared.place.RegionState.{RegionState}
use Rattle.hm_data.specs.declared.place.RegionState.TheVariants as place_is
use Rattle.hm_model.specs.Base.{IsBegun}
use Rattle.hm_model.specs.Catalog.{cat}
use Rattle.hm_model.specs.Fleet.{is_live}
use Rattle.hm_model.specs.Holding.{HoldsWith}
use Rattle.hm_model.specs.Journal.{Past}
use Rattle.hm_model.specs.Phase.{ended}
use Rattle.hm_model.specs.Places.{is_at, is_the_server, place_of}
use Rattle.hm_model.specs.Ranges.{IsLiveWith}
use Rattle.hm_model.specs.Rebase.{under_way}
use Rattle.hm_model.specs.Records.{unfinished}
use Rattle.hm_model.specs.Rules.{IsLegal}
use Rattle.hm_model.specs.TransitActs.{is_placed, is_state}
use Rattle.hm_model.specs.Tree.{Node, is_root, is_root_in, made, node_of}
use Rattle.hm_model.proofs.Counting.{all_ended, count_some}
use Rattle.hm_model.proofs.NameTies.{same_server-refl}
use Rattle.hm_model.proofs.Trees.{grown_all, is_there, some_of}
use Rattle.hm_serial.proofs.Serial.{settled_is}
use Rattle.hm_single.specs.Calls.{NextIs}
use Rattle.hm_single.proofs.All.{kept_all, place_by_row}
use Rattle.hm_single.proofs.Kin.{goes_holds}
use Rattle.hm_single.proofs.Live.{all_live, all_on}
use Rattle.hm_single.proofs.Placed.{opened_told}
use Rattle.hm_single.proofs.Tried.{trying_all}
use Rattle.hm_rebase.specs.Alike.{IsIdle}
use Rattle.hm_rebase.proofs.Downed.{placed_alive}
use Rattle.hm_rebase.proofs.Places.{IsClean, clean_all}
use Rattle.hm_rebase.proofs.Rows.{IsFineRow, fine_rows}
use Rattle.hm_rebase.proofs.Spaces.{HasSpaces, has_spaces}

module _ (J : Past) (legal : IsLegal J) (none : under_way J ≡ 0) where
  -- each procedure has ended
  pub still : (p : ℕ) (node : Node) → node_of J p ≡ Some node → ended J p ≡ true
  still p node is = elim (cases_Bool (ended J p)) [
    | inl on ↦ on
    | inr off ↦
        let within = is_there J (grown_all J legal) p node is in
        let some = count_some (made J + 1) (λ q. is_some (node_of J q) && not (ended J q)) p (omega (arith, within)) (and_from (is_some (node_of J p)) (not (ended J p)) (ap is_some is) (ap not off)) in
        absurd (omega (arith, some, none))
  ]

  none_holds : (p : ℕ) → HoldsWith J [] p → ⊥
  none_holds p h = let there = some_of (node_of J p) h.0 in true≢false (sym (still p there.0 there.1) ∙ h.1)

  pub none_left : unfinished J ≡ 0
  none_left = all_ended J (λ p root. by p root (node_of J p) refl)
    where
      by : (p : ℕ) → is_root J p ≡ true → (o : Option Node) → node_of J p ≡ o → ended J p ≡ true
      by p root None e = absurd (false≢true (sym (ap is_root_in e) ∙ root))
      by p root (Some x) e = still p x e

  pub row_fine : (key : CatKey) → IsFineRow key (cat J key)
  row_fine key = subst (IsFineRow key) (sym (settled_is J legal none_left key)) (fine_rows J legal key)

  pub spaces_are : HasSpaces (cat J)
  spaces_are t some = λ gone. has_spaces J legal t (λ e. some (settled_is J legal none_left (key_is.Table t) ∙ e)) (sym (settled_is J legal none_left (key_is.Ns t.ns)) ∙ gone)

  tried_not : (region : Region) → (is_state place_is.Opening (place_of J region) || is_state place_is.FailedOpen (place_of J region)) ≡ false
  tried_not region = elim (cases_Bool (is_state place_is.Opening (place_of J region) || is_state place_is.FailedOpen (place_of J region))) [
    | inr off ↦ off
    | inl on ↦
        let t = trying_all J legal region on in
        let kept = kept_all J legal in
        let w = kept.worker t.p region t.works in
        absurd (none_holds t.p (goes_holds J (grown_all J legal) kept t.p region w.0 t.goes))
  ]

  off_first : (a b : Bool) → (a || b) ≡ false → a ≡ false
  off_first true b e = absurd (true≢false e)
  off_first false b e = refl

  pub not_opening : (region : Region) → is_state place_is.Opening (place_of J region) ≡ false
  not_opening region = off_first (is_state place_is.Opening (place_of J region)) (is_state place_is.FailedOpen (place_of J region)) (tried_not region)

  pub not_failed : (region : Region) → is_state place_is.FailedOpen (place_of J region) ≡ false
  not_failed region = (or_parts (is_state place_is.Opening (place_of J region)) (is_state place_is.FailedOpen (place_of J region)) (tried_not region)).1

  pub not_closing : (region : Region) → is_state place_is.Closing (place_of J region) ≡ false
  not_closing region = elim (cases_Bool (is_state place_is.Closing (place_of J region))) [
    | inr off ↦ off
    | inl on ↦ let next : NextIs J region 4 = (place_by_row J legal region).1.0 on in absurd (none_holds next.0 next.4)
  ]

  module _ (begun : IsBegun J) where
    -- a region is open at a live server, live, and of an enabled table
    pub record IsOpenAt (region : Region) : Type 0 where
      pub server : Server
      pub place : place_of J region ≡ record { state = place_is.Opened; server = Some server }
      pub alive : is_live J server ≡ true
      pub range : KeyRange
      pub live : IsLiveWith (cat J) region range
      pub version : ℕ
      pub table : cat J (key_is.Table region.table) ≡ Some (row_is.Table state_is.Enabled version)

    open_place : (region : Region) → is_state place_is.Opened (place_of J region) ≡ true → IsOpenAt region
    open_place region on =
        let told = opened_told J legal region on in
        let placed : is_placed (place_of J region) ≡ true = or_right (is_state place_is.Opening (place_of J region)) (is_state place_is.Opened (place_of J region) || is_state place_is.Closing (place_of J region)) (or_left (is_state place_is.Opened (place_of J region)) (is_state place_is.Closing (place_of J region)) on) in
        let at : is_at told.0 (place_of J region) ≡ true = and_from (is_placed (place_of J region)) (is_the_server told.0 (place_of J region).server) placed (ap (is_the_server told.0) told.1 ∙ same_server-refl told.0) in
        let live = all_live J legal region placed in
        let table = all_on J legal region placed in
        record {
          server = told.0;
          place = opened (place_of J region).state on ∙ ap (λ s. record { state = place_is.Opened; server = s }) told.1;
          alive = placed_alive J legal still begun told.0 region at;
          range = live.0;
          live = live.1;
          version = table.1;
          table = table.2 ∙ ap (λ s. Some (row_is.Table s table.1)) (enabled table.0 table.3 (subst (IsFineRow (key_is.Table region.table)) table.2 (row_fine (key_is.Table region.table))));
        }
      where
        opened : (state : RegionState) → is_state place_is.Opened (record { state = state; server = (place_of J region).server }) ≡ true → ◌≡◌ {A = Place} (record { state = state; server = (place_of J region).server }) (record { state = place_is.Opened; server = (place_of J region).server })
        opened place_is.Opened on = refl
        opened state on = absurd (false≢true on)

        enabled : (state : TableState) → state ≢ state_is.Disabled → (state ≡ state_is.Enabled) ⊎ (state ≡ state_is.Disabled) → state ≡ state_is.Enabled
        enabled state not_off (inl on) = on
        enabled state not_off (inr off) = absurd (not_off off)

    -- where it isn't, its place is idle
    shut_place : (region : Region) → is_state place_is.Opened (place_of J region) ≡ false → IsIdle (place_of J region)
    shut_place region off = record {
      unplaced = three (is_state place_is.Opening (place_of J region)) (is_state place_is.Opened (place_of J region)) (is_state place_is.Closing (place_of J region)) (not_opening region) off (not_closing region);
      untried = not_failed region;
      nowhere = by (place_of J region).state (place_of J region).server (not_opening region) off (not_closing region) (not_failed region) (clean_all J legal region);
    }
      where
        three : (a b c : Bool) → a ≡ false → b ≡ false → c ≡ false → (a || (b || c)) ≡ false
        three a b c e f g = ap (λ x. x || (b || c)) e ∙ ap (λ x. x || c) f ∙ g

        by : (state : RegionState) (server : Option Server) → is_state place_is.Opening (record { state = state; server = server }) ≡ false → is_state place_is.Opened (record { state = state; server = server }) ≡ false → is_state place_is.Closing (record { state = state; server = server }) ≡ false → is_state place_is.FailedOpen (record { state = state; server = server }) ≡ false → IsClean state server → server ≡ None
        by place_is.Opening server a b c d clean = absurd (true≢false a)
        by place_is.Opened server a b c d clean = absurd (true≢false b)
        by place_is.Closing server a b c d clean = absurd (true≢false c)
        by place_is.FailedOpen server a b c d clean = absurd (true≢false d)
        by state server a b c d clean = clean

    pub place_stands : (region : Region) → IsIdle (place_of J region) ⊎ IsOpenAt region
    place_stands region = elim (cases_Bool (is_state place_is.Opened (place_of J region))) [
      | inl on ↦ inr (open_place region on)
      | inr off ↦ inl (shut_place region off)
    ]
