-- Findings that tie in their order are one.
use Rattle.std.proofs.Common.{◌≡◌, List, [], ◌∷◌, ap, sym, ◌∙◌}
use Rattle.std.specs.List.{AllByRecursion}
use Rattle.std.specs.List.Sorted.{IsStrictlySortedBy}
use Rattle.std.specs.Cmp.Lexicographic.{texts_ties}
use Rattle.std.specs.Ordering.{is_eq, ordering_then}
use Rattle.std.specs.declared.cmp.Ordering.{Ordering}
use Rattle.std.specs.declared.cmp.Ordering.TheVariants.{Less, Equal}
use Rattle.hm_names.specs.Order.{bytes_cmp, region_cmp, server_cmp, table_cmp}
use Rattle.hm_names.specs.Region.{Region}
use Rattle.hm_names.specs.Server.{Server}
use Rattle.hm_model.proofs.KeyTests.{bytes_eq-is, region_cmp-is, table_cmp-is}
use Rattle.hm_model.proofs.NameTies.{server_cmp-is}
use Rattle.hm_hbck.specs.Findings.{finding_cmp}
use Rattle.hm_hbck.specs.declared.finding.Finding.{Finding}
use Rattle.hm_hbck.specs.declared.finding.Finding.TheVariants.{Hole, Overlap, NotHeld, NoActor, Stray, Twice, NoRow, DeadPlace}
use Rattle.hm_hbck.proofs.Order.{both_tie}

two : (make : Region → Server → Finding) (r : Region) (s : Server) (a : Region) (u : Server) → ordering_then (region_cmp r a) (server_cmp s u) ≡ Equal → make r s ≡ make a u
two make r s a u e =
    let ties = both_tie (region_cmp r a) (server_cmp s u) e in
    ap (λ (x : Region). make x s) (region_cmp-is r a ties.0) ∙ ap (make a) (server_cmp-is s u ties.1)

pub one_finding : (a b : Finding) → finding_cmp a b ≡ Equal → a ≡ b
one_finding (Hole table key) (Hole t k) e =
    let ties = both_tie (table_cmp table t) (bytes_cmp key k) e in
    ap (λ x. Hole x key) (table_cmp-is table t ties.0) ∙ ap (Hole t) (bytes_eq-is key k (texts_ties key k ∙ ap is_eq ties.1))
one_finding (Overlap one other) (Overlap a b) e =
    let ties = both_tie (region_cmp one a) (region_cmp other b) e in
    ap (λ x. Overlap x other) (region_cmp-is one a ties.0) ∙ ap (Overlap a) (region_cmp-is other b ties.1)
one_finding (NotHeld region server) (NotHeld r s) e = two NotHeld region server r s e
one_finding (NoActor region server) (NoActor r s) e = two NoActor region server r s e
one_finding (Stray region server) (Stray r s) e = two Stray region server r s e
one_finding (Twice one at other there) (Twice a s b u) e =
    let first = both_tie (region_cmp one a) (ordering_then (server_cmp at s) (ordering_then (region_cmp other b) (server_cmp there u))) e in
    let second = both_tie (server_cmp at s) (ordering_then (region_cmp other b) (server_cmp there u)) first.1 in
    let third = both_tie (region_cmp other b) (server_cmp there u) second.1 in
    ap (λ x. Twice x at other there) (region_cmp-is one a first.0) ∙ ap (λ x. Twice a x other there) (server_cmp-is at s second.0)
    ∙ ap (λ x. Twice a s x there) (region_cmp-is other b third.0) ∙ ap (Twice a s b) (server_cmp-is there u third.1)
one_finding (NoRow region server) (NoRow r s) e = two NoRow region server r s e
one_finding (DeadPlace region server) (DeadPlace r s) e = two DeadPlace region server r s e
one_finding a b e = cc

-- what is sorted by an order is sorted by an equal one
all_alike : {X : Type 0} (one other : X → X → Ordering) → ((a b : X) → one a b ≡ other a b) → (x : X) (xs : List X) → AllByRecursion (λ y. one x y ≡ Less) xs → AllByRecursion (λ y. other x y ≡ Less) xs
all_alike one other same x [] all = tt
all_alike one other same x (y ∷ xs) all = (sym (same x y) ∙ all.0, all_alike one other same x xs all.1)

pub sorted_alike : {X : Type 0} (one other : X → X → Ordering) → ((a b : X) → one a b ≡ other a b) → (xs : List X) → IsStrictlySortedBy one xs → IsStrictlySortedBy other xs
unfolding IsStrictlySortedBy
sorted_alike one other same [] up = tt
sorted_alike one other same (x ∷ xs) up = (all_alike one other same x xs up.0, sorted_alike one other same xs up.1)
