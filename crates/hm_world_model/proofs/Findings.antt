-- Which findings come where the servers fit the journal.
use Rattle.std.proofs.Common.{◌≡◌, ◌≢◌, ℕ, ◌&&◌, ◌||◌, true, false, Option, Some, None, refl, ap, sym, ◌∙◌, subst, inl, inr, ◌⊎◌}
use Rattle.std.specs.declared.cmp.Ordering.TheVariants.{Less, Equal}
use Rattle.std.proofs.lemmas.Bool.{and_parts, or_cases, true≢false}
use Rattle.std.proofs.lemmas.Cmp.{tied_itself}
use Rattle.std.proofs.lemmas.Option.{same_Some}
use Rattle.hm_names.specs.Order.{region_cmp, server_cmp}
use Rattle.hm_names.specs.Ranges.{overlaps}
use Rattle.hm_names.specs.Region.{Region}
use Rattle.hm_names.specs.Server.{Server}
use Rattle.hm_names.specs.declared.range.KeyRange.{KeyRange}
use Rattle.hm_data.specs.declared.catalog.CatKey.TheVariants as key_is
use Rattle.hm_model.specs.Catalog.{cat}
use Rattle.hm_model.specs.Base.{HasNoHalfBase}
use Rattle.hm_model.specs.Findings.{DeadPlace, Finding, Hole, IsBefore, IsHolder, IsSo, NoActor, NoRow, NotHeld, Overlap, Stray, rows_touch}
use Rattle.hm_model.specs.Findings as finding_is
use Rattle.hm_model.specs.Journal.{Past}
use Rattle.hm_model.specs.Keys.{same_region, same_table}
use Rattle.hm_model.specs.Ranges.{IsLiveWith}
use Rattle.hm_model.specs.Reports.{peer_of}
use Rattle.hm_model.specs.RowsSaid.{range_in}
use Rattle.hm_model.specs.Single.{overlap_if}
use Rattle.hm_model.proofs.KeyTests.{same_region-is, same_table-is}
use Rattle.hm_model.proofs.NameTies.{regions_total, servers_total}
use Rattle.hm_cover.proofs.Never.{never_overlap}
use Rattle.hm_world_model.specs.Findings.{FewCome, MayCome}
use Rattle.hm_world_model.specs.Outside.{Outside}
use Rattle.hm_world_model.specs.Points.{Points}
use Rattle.hm_world_model.specs.Safe.{Safe}
use Rattle.hm_world_model.proofs.Facts.{one_server}
use Rattle.hm_world_model.proofs.Held.{opened_held}
use Rattle.hm_world_model.proofs.Points.{held_at, points}
use Rattle.hm_world_model.proofs.Tails.{safe_past}

module _ (J : Past) (o : Outside) (safe : Safe J o) where
  says : Points J o
  says = points J o safe

  -- who holds a region was called last about it
  called : (r : Region) (s : Server) → IsHolder J o.actors r s → (p : ℕ) × (Rattle.hm_model.specs.Reports.last_call J r ≡ Some p) × (peer_of J p ≡ Some (Rattle.hm_data.specs.declared.call.Peer.TheVariants.Server s))
  called r s h = says.holders.alone r s h.0 (h.1, h.2) (inl h.3)

  live : (r : Region) (s : Server) → IsHolder J o.actors r s → (range : KeyRange) × IsLiveWith (cat J) r range
  live r s h = held_at J o safe r s h.0 (h.1, h.2) h.3

  -- one region isn't held by two
  one_holder : (r : Region) (s t : Server) → IsHolder J o.actors r s → IsHolder J o.actors r t → s ≡ t
  one_holder r s t a b =
      let first = called r s a in
      let second = called r t b in
      one_server (peer_of J first.0) s t first.2 (ap (peer_of J) (same_Some first.0 second.0 (sym first.1 ∙ second.1)) ∙ second.2)

  -- nor two that touch
  one_region : (a b : Region) → ((range : KeyRange) × IsLiveWith (cat J) a range) → ((range : KeyRange) × IsLiveWith (cat J) b range) → rows_touch J a b ≡ true → a ≢ b → ⊥
  one_region a b one other touch differs = elim (or_cases (same_region a b) (same_table a.table b.table && overlap_if (range_in (cat J (key_is.Region a))) (range_in (cat J (key_is.Region b)))) touch) [
    | inl same ↦ differs (same_region-is a b same)
    | inr over ↦ (
        let parts = and_parts (same_table a.table b.table) (overlap_if (range_in (cat J (key_is.Region a))) (range_in (cat J (key_is.Region b)))) over in
        let overlap : overlaps one.0 other.0 ≡ true =
        sym (ap (λ x. overlap_if (range_in x) (range_in (cat J (key_is.Region b)))) one.1.1 ∙ ap (λ x. overlap_if (Some one.0) (range_in x)) other.1.1) ∙ parts.1 in
        true≢false (sym overlap ∙ never_overlap J safe.legal a.table a b one.0 other.0 refl (sym (same_table-is a.table b.table parts.0)) differs one.1 other.1)
        )
  ]

  not_less : Less ≡ Equal → ⊥
  not_less e = cc

  -- nothing comes before itself
  before_differs : (a b : Region) (s t : Server) → IsBefore a s b t → a ≡ b → s ≢ t
  before_differs a b s t (inl less) same = absurd (not_less (sym less ∙ ap (region_cmp a) (sym same) ∙ tied_itself regions_total a))
  before_differs a b s t (inr more) same = λ one. not_less (sym more.1 ∙ ap (server_cmp s) (sym one) ∙ tied_itself servers_total s)

  twice : (a b : Region) (s t : Server) → IsBefore a s b t → rows_touch J a b ≡ true → IsHolder J o.actors a s → IsHolder J o.actors b t → ⊥
  twice a b s t before touch one other = elim (same_or_not (same_region a b) refl) [
    | inl same ↦ before_differs a b s t before same (one_holder a s t one (subst (λ r. IsHolder J o.actors r t) (sym same) other))
    | inr differs ↦ one_region a b (live a s one) (live b t other) touch differs
  ]
    where
      same_or_not : (test : Rattle.std.proofs.Common.Bool) → same_region a b ≡ test → (a ≡ b) ⊎ (a ≢ b)
      same_or_not true e = inl (same_region-is a b e)
      same_or_not false e = inr (λ same. true≢false (sym (Rattle.hm_model.proofs.KeyTests.same_region-refl a) ∙ ap (same_region a) same ∙ e))

  pub so : HasNoHalfBase J → (finding : Finding) → IsSo J o.actors finding → MayCome finding
  so whole (Hole table key) h = tt
  so whole (Overlap a b) h = true≢false (sym h.3.4 ∙ never_overlap J safe.legal a.table a b h.3.0 h.3.1 refl (sym h.1) h.2 h.3.2 h.3.3)
  so whole (NotHeld region server) h = true≢false (sym (opened_held J o safe whole region server h.1.0 h.0.0 h.0.1 h.1.1) ∙ h.1.2)
  so whole (NoActor region server) h = tt
  so whole (Stray region server) h = (let holder = h.0 in true≢false (sym (says.holders.placed region server holder.0 (holder.1, holder.2) (inl holder.3)) ∙ h.1))
  so whole (finding_is.Twice a at b other) h = twice a b at other h.0 h.1 h.2 h.3
  so whole (NoRow region server) h = (let found = live region server h.0 in h.1 found.0 found.1)
  so whole (DeadPlace region server) h = tt

pub few_come : FewCome
few_come w kept whole finding h = so w.past w.outside (safe_past w kept) whole finding h
