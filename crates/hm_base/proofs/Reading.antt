-- One part read after another.
use Rattle.std.proofs.Common.{◌≡◌, ℕ, ◌+◌, List, [], ◌∷◌, map, reverse, take, slice_get, Some, true, if◌then◌else◌, refl, ap, sym, ◌∙◌, subst}
use Rattle.std.proofs.lemmas.List.{map-append, reverse-append}
use Rattle.hm_names.specs.declared.range.KeyRange.{KeyRange}
use Rattle.hm_data.specs.declared.entry.Entry.{Entry}
use Rattle.hm_data.specs.declared.entry.Entry.TheVariants as entry_is
use Rattle.hm_data.specs.declared.part.Part.{Part}
use Rattle.hm_data.specs.declared.part.Part.TheVariants as part_is
use Rattle.hm_model.specs.Base.{announced, part_count, rises}
use Rattle.hm_model.specs.Journal.{Past}
use Rattle.hm_model.specs.Rebase.{based}
use Rattle.hm_model.specs.Rules.{IsLegal}
use Rattle.hm_ranges.specs.Laws.{TellFit}
use Rattle.hm_base.specs.Fits.{Suits}
use Rattle.hm_base.specs.Live.{AreLiveBy, PartAmong, TakesPart, are_siblings}
use Rattle.hm_base.proofs.Among.{live_after, turned}
use Rattle.hm_base.proofs.Fitting.{fits_by}
use Rattle.hm_sheet.proofs.ValidSheets.{take_item}

abbrev as_entry : Part → Entry
as_entry part = entry_is.Base part

-- a base of one part more
pub based_more : (parts : List Part) (n : ℕ) (part : Part) → slice_get parts n ≡ Some part → based (take (n + 1) parts) ≡ entry_is.Base part ∷ based (take n parts)
based_more parts n part here =
    ap based (take_item parts n part here)
    ∙ ap reverse (map-append as_entry (take n parts) (part ∷ []))
    ∙ reverse-append (map as_entry (take n parts)) (entry_is.Base part ∷ [])

-- a part that isn't the first leaves the count that is announced
pub count_stays : (past : Past) (part : Part) → Suits past part → (n : ℕ) → part_count part n ≡ n
count_stays past (part_is.Head entries last parts sheets) suits n = absurd suits
count_stays past part suits n = refl

-- the range of a part that has what it needs fits among those of its table
pub among_by : TellFit → (past : Past) (part : Part) (ranges : List KeyRange) → AreLiveBy past part ranges → Suits past part → PartAmong ranges part
among_by tell past (part_is.Region region range status parents place) ranges live suits = (tell past region ranges live range status).0 suits.1
among_by tell past part ranges live suits = tt

-- the parts with one that fits are legal
pub legal_more : (one : Part) (older : Past) (part : Part) → IsLegal (entry_is.Base one ∷ older) → rises one part ≡ true → Suits (entry_is.Base one ∷ older) part → IsLegal (entry_is.Base part ∷ entry_is.Base one ∷ older)
legal_more one older part legal up suits = (legal, (fits_by one older part up suits, tt))

-- one part behind the last
module _ (last part : Part) (past older : Past) (is : past ≡ entry_is.Base last ∷ older) where
  module _ (legal : IsLegal past) (up : rises last part ≡ true) where
    last_legal : IsLegal (entry_is.Base last ∷ older)
    last_legal = subst IsLegal is legal

    pub live_turned : (old new : List KeyRange) → AreLiveBy (entry_is.Base last ∷ older) last old → new ≡ (if are_siblings last part then old else []) → AreLiveBy past part new
    live_turned old new live same =
        subst (λ J. AreLiveBy J part new) (sym is) (subst (λ l. AreLiveBy (entry_is.Base last ∷ older) part l) (sym same) (turned last older last_legal part up old live))

    module _ (suits : Suits past part) where
      pub legal_on : IsLegal (entry_is.Base part ∷ past)
      legal_on = subst (λ J. IsLegal (entry_is.Base part ∷ J)) (sym is) (legal_more last older part last_legal up (subst (λ J. Suits J part) is suits))

      pub live_on : (old new : List KeyRange) → AreLiveBy past part old → TakesPart part old new → AreLiveBy (entry_is.Base part ∷ past) part new
      live_on old new live takes =
          subst (λ J. AreLiveBy (entry_is.Base part ∷ J) part new) (sym is) (live_after last older last_legal part up old new (subst (λ J. AreLiveBy J part old) is live) takes)

      pub announced_on : (n : ℕ) → announced (entry_is.Base last ∷ older) ≡ n → announced (entry_is.Base part ∷ past) ≡ n
      announced_on n so = count_stays past part suits (announced past) ∙ ap announced is ∙ so
