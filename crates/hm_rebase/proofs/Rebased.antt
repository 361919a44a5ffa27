-- Journals whose first entries are replaced by their image.
use Rattle.std.proofs.Common.{◌≡◌, ℕ, ◌+◌, ◌≤◌, [], ◌∷◌, Bool, true, false, cond, not, ◌&&◌, nat_lt, Option, Some, None, is_some, refl, ap, sym, ◌∙◌, subst, inl, inr}
use Rattle.std.proofs.lemmas.Bool.{false≢true, true≢false}
use Rattle.std.proofs.lemmas.Option.{none-some}
use Rattle.hm_data.specs.declared.catalog.CatKey.TheVariants as key_is
use Rattle.hm_data.specs.declared.entry.Entry.{Entry}
use Rattle.hm_data.specs.declared.entry.Entry.TheVariants as entry_is
use Rattle.hm_data.specs.declared.part.Part.{Part}
use Rattle.hm_data.specs.declared.part.Part.TheVariants as part_is
use Rattle.hm_model.specs.Base.{IsBegun, PartFits}
use Rattle.hm_model.specs.Counts.{count_below}
use Rattle.hm_model.specs.Image.{counted, image}
use Rattle.hm_model.specs.Journal.{Past}
use Rattle.hm_model.specs.Laws.{is_part}
use Rattle.hm_model.specs.Phase.{ended}
use Rattle.hm_model.specs.Procedures.{offset}
use Rattle.hm_model.specs.Rebase.{MayRoll, based, rebase, up_to}
use Rattle.hm_model.specs.Rules.{IsLegal}
use Rattle.hm_model.specs.Tree.{Node, made, node_of}
use Rattle.hm_model.proofs.Counting.{count_same}
use Rattle.hm_model.proofs.Grown.{ends_parted}
use Rattle.hm_model.proofs.Parted.{by_parts}
use Rattle.hm_model.proofs.Trees.{le_or_lt}
use Rattle.hm_rebase.specs.Alike.{Alike, AlikePlaces}
use Rattle.hm_rebase.specs.Rebased.{AlikeUnderWay, DownAreFenced, ImagesAreBases, OpenAreServed, ParentsAreFew, RebasedAreAlike, TablesAreSteady}
use Rattle.hm_rebase.proofs.Allowing.{allowed_to}
use Rattle.hm_rebase.proofs.Bounds.{none_below}
use Rattle.hm_rebase.proofs.Downed.{down_fenced, placed_alive}
use Rattle.hm_rebase.proofs.Imaged.{image_alike, image_begun, says}
use Rattle.hm_rebase.proofs.Readings.{ended_same}
use Rattle.hm_rebase.proofs.Rows.{IsFineRow}
use Rattle.hm_rebase.proofs.Staying.{alike_stay}
use Rattle.hm_rebase.proofs.Still.{row_fine, spaces_are, still}

pub down_is_fenced : DownAreFenced
down_is_fenced J legal none = down_fenced J legal (still J legal none)

pub open_is_served : OpenAreServed
open_is_served J legal begun none = placed_alive J legal (still J legal none) begun

pub table_is_steady : TablesAreSteady
table_is_steady J legal none table state version is =
    (subst (IsFineRow (key_is.Table table)) is (row_fine J legal none (key_is.Table table)), spaces_are J legal none table (λ gone. none-some _ (sym gone ∙ is)))

pub parents_are_few : ParentsAreFew
parents_are_few J legal none region range status parents is = subst (IsFineRow (key_is.Region region)) is (row_fine J legal none (key_is.Region region))

pub image_is_base : ImagesAreBases
image_is_base J legal begun may = ((says J legal begun may).legal_now, image_begun J legal begun may, image_alike J legal begun may)

-- a head stands first; other parts count nothing
cut_part : (part : Part) (J : Past) (r : ℕ) → PartFits part J → (nat_lt r (counted J) ≡ true → IsBegun (up_to J r) → ⊥) → nat_lt r (counted (entry_is.Base part ∷ J)) ≡ true → IsBegun (up_to J r) → ⊥
cut_part (part_is.Head entries last parts sheets) J r fits on low begun = subst (λ X. IsBegun (up_to X r)) fits.0 begun
cut_part part J r fits on low begun = on low begun

-- within a base nothing can be cut off
uncut : (J : Past) (r : ℕ) → IsLegal J → ends_parted J ≡ true → nat_lt r (counted J) ≡ true → IsBegun (up_to J r) → ⊥
uncut [] r legal parted low begun = begun
uncut (entry_is.Base part ∷ J) r legal parted low begun =
    cut_part part J r legal.1.0 (uncut J r legal.0 (by_parts (λ j. ends_parted j ≡ true) refl (λ o older. refl) part J legal.1.0)) low
    (subst (λ b. IsBegun (cond b (up_to J r) (entry_is.Base part ∷ J))) low begun)
uncut (entry ∷ J) r legal parted low begun = absurd (false≢true parted)

abbrev IsRebased : Past → Past → Type 0
IsRebased J K = IsLegal K × IsBegun K × Alike J K

-- one entry more
more : (entry : Entry) (J K : Past) → is_part entry ≡ false → IsLegal (entry ∷ J) → IsBegun J → IsRebased J K → IsRebased (entry ∷ J) (entry ∷ K)
more entry J K other legal begun h =
    let allowed = allowed_to J K legal.0 h.0 h.2 begun h.1 entry other legal.1 in
    ((h.0, allowed), by entry other, alike_stay J K legal.0 h.0 begun h.1 h.2 entry other legal.1)
  where
    by : (entry : Entry) → is_part entry ≡ false → IsBegun (entry ∷ K)
    by (entry_is.Base part) other = absurd (true≢false other)
    by entry other = tt

-- behind what is kept an entry is no part, and something had begun
behind : (entry : Entry) (J : Past) (r : ℕ) → IsLegal (entry ∷ J) → nat_lt r (counted (entry ∷ J)) ≡ true → IsBegun (up_to J r) → (is_part entry ≡ false) × IsBegun J
behind (entry_is.Start sheets) J r legal low begun = absurd (subst (λ X. IsBegun (up_to X r)) legal.1.0.0 begun)
behind (entry_is.Base part) J r legal low begun = absurd (uncut (entry_is.Base part ∷ J) r legal refl low (subst (λ b. IsBegun (cond b (up_to J r) (entry_is.Base part ∷ J))) (sym low) begun))
behind entry J r legal low begun = (refl, legal.1.0)

pub rebased_is_alike : RebasedAreAlike
rebased_is_alike [] r legal begun may = absurd begun
rebased_is_alike (entry ∷ J) r legal begun may = by (rebased_is_alike J r legal.0) (nat_lt r (counted (entry ∷ J))) refl begun may
  where
    by : (IsBegun (up_to J r) → MayRoll (up_to J r) → IsRebased J (rebase J r)) → (b : Bool) → nat_lt r (counted (entry ∷ J)) ≡ b → IsBegun (cond b (up_to J r) (entry ∷ J)) → MayRoll (cond b (up_to J r) (entry ∷ J)) → IsRebased (entry ∷ J) (cond b (entry ∷ rebase J r) (based (image (entry ∷ J))))
    by on false e begun may = image_is_base (entry ∷ J) legal begun may
    by on true e begun may =
        let kept = behind entry J r legal e begun in
        more entry J (rebase J r) kept.0 legal kept.1 (on begun may)

pub alike_under_way : AlikeUnderWay
alike_under_way J K legal_J legal_K alike =
    count_same (made J + 1) (λ p. is_some (node_of J p) && not (ended J p)) (λ p. is_some (node_of K p) && not (ended K p)) (λ p lt. one p)
    ∙ ap (λ n. count_below (λ p. is_some (node_of K p) && not (ended K p)) (n + 1)) alike.last
  where
    one : (p : ℕ) → (is_some (node_of J p) && not (ended J p)) ≡ (is_some (node_of K p) && not (ended K p))
    one p = elim (le_or_lt p (offset K)) [
      | inr high ↦
          ap (λ o. is_some o && not (ended J p)) (alike.same p high).node
          ∙ ap (λ b. is_some (node_of K p) && not b) (ended_same J K legal_J legal_K alike p high)
      | inl le ↦ old le (node_of J p) refl ∙ sym (ap (λ o. is_some o && not (ended K p)) (none_below K legal_K p le))
    ]
      where
        old : p ≤ offset K → (o : Option Node) → node_of J p ≡ o → (is_some (node_of J p) && not (ended J p)) ≡ false
        old le None e = ap (λ o. is_some o && not (ended J p)) e
        old le (Some x) e = ap (λ o. is_some o && not (ended J p)) e ∙ ap not (alike.over p x le e)

pub alike_places : AlikePlaces
alike_places J K alike region row = elim (alike.places region) [ inl same ↦ same | inr forgotten ↦ absurd (row (alike.rows (key_is.Region region) ∙ forgotten.rowless)) ]
