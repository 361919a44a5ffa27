-- All that is found is all that is so.
use Rattle.std.proofs.Common.{◌≡◌, ◌↔◌, List, [], ◌++◌, Option, Bool, refl, inl, inr, ◌⊎◌, ap, sym, ◌∙◌, subst}
use Rattle.std.specs.List.{flat_map}
use Rattle.std.specs.Ordering.{ordering_then}
use Rattle.std.specs.declared.cmp.Ordering.{Ordering}
use Rattle.std.specs.declared.cmp.Ordering.TheVariants.{Less, Equal, Greater}
use Rattle.std.proofs.lemmas.Cmp.{tied_itself}
use Rattle.hm_names.specs.Order.{region_cmp, server_cmp}
use Rattle.hm_names.specs.Region.{Region}
use Rattle.hm_names.specs.Server.{Server}
use Rattle.hm_data.specs.declared.catalog.CatKey.TheVariants as key_is
use Rattle.hm_data.specs.declared.place.Place.{Place}
use Rattle.hm_model.specs.Actors.{Actor}
use Rattle.hm_model.specs.Catalog.{cat, row_at}
use Rattle.hm_model.specs.Findings.{IsBefore, IsHolder, IsSo, Overlap as said_overlap, Twice as said_twice, rows_touch}
use Rattle.hm_model.specs.Fleet.{is_fenced, is_live}
use Rattle.hm_model.specs.Journal.{Past}
use Rattle.hm_model.specs.Loads.{places_of}
use Rattle.hm_model.specs.Locks.{IsIn}
use Rattle.hm_model.specs.Places.{place_of}
use Rattle.hm_model.specs.RowsSaid.{Rows}
use Rattle.hm_model.proofs.KeyTests.{region_cmp-is}
use Rattle.hm_model.proofs.NameTies.{regions_total}
use Rattle.hm_catalog.specs.Rows.{rows_in}
use Rattle.hm_places.specs.Places.{place_in}
use Rattle.hm_server.specs.Actors.{ActorView}
use Rattle.hm_ranges.proofs.Lists.{in_either, in_front, in_rest}
use Rattle.hm_hbck.specs.Findings.{NamesDiffer, running, said}
use Rattle.hm_hbck.specs.Found.{Adds, AllAreHeld, Hold, all_held, of_hold, of_place}
use Rattle.hm_hbck.specs.Holes.{IsHoleAmong}
use Rattle.hm_hbck.specs.Pairs.{IsPairOf, meet}
use Rattle.hm_hbck.specs.declared.finding.Finding.{Finding}
use Rattle.hm_hbck.specs.declared.finding.Finding.TheVariants as finding_is
use Rattle.hm_hbck.proofs.Holders.{held, hold_row, hold_runs, holder, holds_so, runner, runs_held, so_no_row, so_stray}
use Rattle.hm_hbck.proofs.Placed.{placed_so, so_dead_place, so_no_actor, so_not_held}
use Rattle.hm_hbck.proofs.Rows.{hole_so, so_hole}

-- two comparisons in turn are below exactly where the first is, or ties and the second is
first_or_second : (o p : Ordering) → ordering_then o p ≡ Less → (o ≡ Less) ⊎ ((o ≡ Equal) × (p ≡ Less))
first_or_second Less p e = inl refl
first_or_second Equal p e = inr (refl, e)
first_or_second Greater p e = cc

before : (a : Region) (at : Server) (b : Region) (there : Server) → ordering_then (region_cmp a b) (server_cmp at there) ≡ Less → IsBefore a at b there
before a at b there e = elim (first_or_second (region_cmp a b) (server_cmp at there) e) [
  | inl less ↦ inl less
  | inr tie ↦ inr (region_cmp-is a b tie.0, tie.1)
]

is_before : (a : Region) (at : Server) (b : Region) (there : Server) → IsBefore a at b there → ordering_then (region_cmp a b) (server_cmp at there) ≡ Less
is_before a at b there (inl less) = rw less refl
is_before a at b there (inr tie) = rw (ap (region_cmp a) (sym tie.0) ∙ tied_itself regions_total a) tie.1

-- a journal, the servers that run, and what is read of both
pub record AreRead (J : Past) (fenced lives : Server → Bool) (actors : List ActorView) (runs : Server → Option Actor) (place : Region → Place) : Type 0 where
  pub rows : row_at (rows_in J) ≡ cat J
  pub unfenced : (server : Server) → fenced server ≡ is_fenced J server
  pub live : (server : Server) → lives server ≡ is_live J server
  pub run : (server : Server) → runs server ≡ running actors server
  pub placed : (region : Region) → place region ≡ place_of J region
  pub tell : (region : Region) → place_in (places_of J) region ≡ place_of J region
  pub differ : NamesDiffer actors
  pub held : AllAreHeld fenced actors
  pub apart : (a b : Region) → IsSo J (running actors) (said_overlap a b) → ⊥

module _ (J : Past) (fenced lives : Server → Bool) (actors : List ActorView) (runs : Server → Option Actor) (place : Region → Place) (read : AreRead J fenced lives actors runs place) where
  abbrev pub holds : List Hold
  holds = all_held (rows_in J) fenced actors

  touched : (one other : Hold) → IsIn one holds → IsIn other holds → rows_touch J one.region other.region ≡ meet one other
  touched one other there too =
      rw (row_of one there, row_of other too) refl
    where
      row_of : (hold : Hold) → IsIn hold holds → hold.row ≡ cat J (key_is.Region hold.region)
      row_of hold there = hold_row (rows_in J) fenced actors hold there ∙ ap (λ (f : _). f (key_is.Region hold.region)) read.rows

  pair_so : (finding : Finding) → IsPairOf holds finding → IsSo J (running actors) (said finding)
  pair_so finding (one, other, there, too, less, on, same) =
      subst (λ (f : Finding). IsSo J (running actors) (said f)) (sym same)
      (before one.region one.server other.region other.server less, touched one other there too ∙ on, held_so one there, held_so other too)
    where
      held_so : (hold : Hold) → IsIn hold holds → IsHolder J (running actors) hold.region hold.server
      held_so hold there = holder J (rows_in J) fenced actors place read.rows read.unfenced read.placed read.differ read.held hold.region hold.server (hold_runs (rows_in J) fenced actors hold read.differ read.held there)

  so_pair : (a : Region) (at : Server) (b : Region) (other : Server) → IsSo J (running actors) (said_twice a at b other) → IsPairOf holds (finding_is.Twice a at b other)
  so_pair a at b other (order, touch, one_held, other_held) =
      let one_in = in_holds a at one_held in
      let other_in = in_holds b other other_held in
      (held (rows_in J) a at, held (rows_in J) b other, one_in, other_in, is_before a at b other order, sym (touched (held (rows_in J) a at) (held (rows_in J) b other) one_in other_in) ∙ touch, refl)
    where
      in_holds : (region : Region) (server : Server) → IsHolder J (running actors) region server → IsIn (held (rows_in J) region server) holds
      in_holds region server is = runs_held (rows_in J) fenced actors region server read.held (runner J (rows_in J) fenced actors place read.rows read.unfenced read.placed read.differ read.held region server is)

  module _ (holes places helds all : List Finding) (first : Adds (IsHoleAmong (rows_in J) (rows_in J)) [] holes) (second : places ≡ holes ++ flat_map (of_place runs lives) (places_of J))
      (third : helds ≡ places ++ flat_map (of_hold place) holds) (fourth : Adds (IsPairOf holds) helds all) where
    found_so : (finding : Finding) → IsIn finding all → IsSo J (running actors) (said finding)
    found_so finding there = elim ((fourth finding).0 there) [
      | inl there ↦ elim (in_either finding places (flat_map (of_hold place) holds) (subst (IsIn finding) third there)) [
        | inl there ↦ elim (in_either finding holes (flat_map (of_place runs lives) (places_of J)) (subst (IsIn finding) second there)) [
          | inl there ↦ elim ((first finding).0 there) [ inl none ↦ absurd none | inr hole ↦ hole_so J (running actors) finding hole ]
          | inr place_found ↦ placed_so J (running actors) runs lives read.run read.live finding place_found
        ]
        | inr held_found ↦ holds_so J (rows_in J) fenced actors place read.rows read.unfenced read.placed read.differ read.held finding held_found
      ]
      | inr pair ↦ pair_so finding pair
    ]

    from_held : (finding : Finding) → IsIn finding helds → IsIn finding all
    from_held finding there = (fourth finding).1 (inl there)

    from_places : (finding : Finding) → IsIn finding places → IsIn finding all
    from_places finding there = from_held finding (subst (IsIn finding) (sym third) (in_front finding places (flat_map (of_hold place) holds) there))

    of_places : (finding : Finding) → IsIn finding (flat_map (of_place runs lives) (places_of J)) → IsIn finding all
    of_places finding there = from_places finding (subst (IsIn finding) (sym second) (in_rest finding holes (flat_map (of_place runs lives) (places_of J)) there))

    of_holds : (finding : Finding) → IsIn finding (flat_map (of_hold place) holds) → IsIn finding all
    of_holds finding there = from_held finding (subst (IsIn finding) (sym third) (in_rest finding places (flat_map (of_hold place) holds) there))

    so_found : (finding : Finding) → IsSo J (running actors) (said finding) → IsIn finding all
    so_found (finding_is.Hole table key) is =
        let hole = finding_is.Hole table key in
        from_places hole (subst (IsIn hole) (sym second) (in_front hole holes (flat_map (of_place runs lives) (places_of J)) ((first hole).1 (inr (so_hole J (running actors) table key is)))))
    so_found (finding_is.Overlap one other) is = absurd (read.apart one other is)
    so_found (finding_is.NotHeld region server) is = of_places (finding_is.NotHeld region server) (so_not_held J (running actors) runs lives read.run read.live read.tell region server is)
    so_found (finding_is.NoActor region server) is = of_places (finding_is.NoActor region server) (so_no_actor J (running actors) runs lives read.run read.live read.tell region server is)
    so_found (finding_is.Stray region server) is =
        of_holds (finding_is.Stray region server) (so_stray J (rows_in J) fenced actors place read.rows read.unfenced read.placed read.differ read.held region server is)
    so_found (finding_is.Twice one at other there) is = (fourth (finding_is.Twice one at other there)).1 (inr (so_pair one at other there is))
    so_found (finding_is.NoRow region server) is =
        of_holds (finding_is.NoRow region server) (so_no_row J (rows_in J) fenced actors place read.rows read.unfenced read.placed read.differ read.held region server is)
    so_found (finding_is.DeadPlace region server) is = of_places (finding_is.DeadPlace region server) (so_dead_place J (running actors) runs lives read.run read.live read.tell region server is)

    pub gathered : (finding : Finding) → IsIn finding all ↔ IsSo J (running actors) (said finding)
    gathered finding = (found_so finding, so_found finding)

  -- the same by what the parts of a state give
  pub gathered_by : (rows : Rows) (list : List (Region × Place)) (hold : List Hold) (begun found_holes found_places found_holds all : List Finding)
      → rows ≡ rows_in J → list ≡ places_of J → hold ≡ all_held rows fenced actors → begun ≡ []
      → Adds (IsHoleAmong rows rows) begun found_holes → found_places ≡ found_holes ++ flat_map (of_place runs lives) list
      → found_holds ≡ found_places ++ flat_map (of_hold place) hold → Adds (IsPairOf hold) found_holds all
      → (finding : Finding) → IsIn finding all ↔ IsSo J (running actors) (said finding)
  gathered_by rows list hold begun found_holes found_places found_holds all rows_are list_is hold_is none first second third fourth =
      let whole : hold ≡ holds = hold_is ∙ ap (λ (r : Rows). all_held r fenced actors) rows_are in
      gathered found_holes found_places found_holds all
      (subst (λ (r : Rows). Adds (IsHoleAmong r r) [] found_holes) rows_are (subst (λ (l : List Finding). Adds (IsHoleAmong rows rows) l found_holes) none first))
      (second ∙ ap (λ (l : List (Region × Place)). found_holes ++ flat_map (of_place runs lives) l) list_is)
      (third ∙ ap (λ (h : List Hold). found_places ++ flat_map (of_hold place) h) whole)
      (subst (λ (h : List Hold). Adds (IsPairOf h) found_holds all) whole fourth)
