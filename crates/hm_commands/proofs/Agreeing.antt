-- When all of some lists of sheets agree with the first.
use Rattle.std.proofs.Common.{◌≡◌, ℕ, ◌+◌, ◌<◌, ◌≤◌, ◌↔◌, List, [], ◌∷◌, length, map, get_or, take, All, IsTrue, Bool, true, false, sym, ap, subst, ◌∙◌, arith}
use Rattle.std.proofs.lemmas.Bool.{false≢true}
use Rattle.std.proofs.lemmas.List.{get_or-map, take_all, length-map}
use Rattle.std.proofs.lemmas.List.Elements.{All-map, All-more}
use Rattle.hm_data.specs.declared.sheet.Sheet.{Sheet}
use Rattle.hm_commands.specs.Hands.{AreEqual, HandsAgree, first_sheets}

-- the first sheets are those of the first
pub first_is : {X : Type 0} (sheets : X → List Sheet) (hands : List X) (first : X) → 1 ≤ length hands → first ≡ get_or hands 0 first → first_sheets (map sheets hands) ≡ sheets first
first_is sheets [] first some is = absurd (omega (arith, some))
first_is sheets (hand ∷ hands) first some is = ap sheets (sym is)

-- one more that agrees
pub agrees_more : {X : Type 0} (sheets : X → List Sheet) (hands : List X) (first other : X) (index : ℕ) (tested : Bool) → index < length hands → other ≡ get_or hands index other
    → (IsTrue tested ↔ AreEqual (sheets first) (sheets other)) → tested ≡ true → All (λ r. AreEqual (sheets first) (sheets r)) (take index hands)
    → All (λ r. AreEqual (sheets first) (sheets r)) (take (index + 1) hands)
agrees_more sheets hands first other index tested within is tells equal so_far =
    All-more (λ r. AreEqual (sheets first) (sheets r)) hands index other within so_far (subst (λ r. AreEqual (sheets first) (sheets r)) is (tells.0 equal))

-- all agree
pub all_agree : {X : Type 0} (sheets : X → List Sheet) (hands : List X) (first : X) (index : ℕ) → length hands ≡ 17 → first ≡ get_or hands 0 first → length hands ≤ index
    → All (λ r. AreEqual (sheets first) (sheets r)) (take index hands) → HandsAgree (map sheets hands)
all_agree sheets hands first index seventeen is over all =
    let alike : All (λ r. AreEqual (sheets first) (sheets r)) hands = subst (All (λ r. AreEqual (sheets first) (sheets r))) (take_all index hands over) all in
    record {
      seventeen = length-map hands sheets ∙ seventeen;
      alike = subst (λ one. All (AreEqual one) (map sheets hands)) (sym (first_is sheets hands first (omega (arith, seventeen)) is)) (All-map (AreEqual (sheets first)) sheets hands alike);
    }

-- one that doesn't agree
pub one_differs : {X : Type 0} (sheets : X → List Sheet) (hands : List X) (first other : X) (index : ℕ) (tested : Bool) → first ≡ get_or hands 0 first → index < length hands
    → other ≡ get_or hands index other → (IsTrue tested ↔ AreEqual (sheets first) (sheets other)) → tested ≡ false → HandsAgree (map sheets hands) → ⊥
one_differs sheets hands first other index tested first_one within is tells unequal agree =
    let begins = first_is sheets hands first (omega (arith, within)) first_one in
    let there : AreEqual (first_sheets (map sheets hands)) (get_or (map sheets hands) index (sheets other)) = agree.alike index (sheets other) (omega (arith, within, length-map hands sheets)) in
    let place : get_or (map sheets hands) index (sheets other) ≡ sheets other = get_or-map sheets hands index other (sheets other) within ∙ ap sheets (sym is) in
    false≢true (sym unequal ∙ tells.1 (subst (λ one. AreEqual one (sheets other)) begins (subst (AreEqual (first_sheets (map sheets hands))) place there)))
