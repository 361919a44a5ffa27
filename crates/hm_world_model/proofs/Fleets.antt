-- Fleets that live on.
use Rattle.std.proofs.Common.{◌≡◌, ℕ, ◌-◌, ◌≤◌, List, [], ◌∷◌, ◌++◌, length, take, drop, length-drop, Option, Some, None, refl, ap, sym, ◌∙◌, subst, inl, inr, arith}
use Rattle.std.proofs.lemmas.List.{length-reverse, reverse-reverse}
use Rattle.hm_data.specs.declared.entry.Entry.{Entry}
use Rattle.hm_model.specs.Journal.{Past, back}
use Rattle.hm_model.specs.Rebase.{rebase}
use Rattle.hm_model.proofs.Prefixes.{back-cut}
use Rattle.hm_world_model.specs.Events.{Ends, Stop}
use Rattle.hm_world_model.specs.Fleets.{FitsAreStops, FitsTheFirst, MayBeRebased, MayHaveFailed, ResumedIsKept, ResumedIsStopped, lived_of, read_as}
use Rattle.hm_world_model.specs.Runs.{MayBeRolled}
use Rattle.hm_world_model.specs.World.{World, first, rebased_by}
use Rattle.hm_world_model.proofs.Tails.{event_keeps}

-- the first k entries, back from the newest of them
drop_front : (front rest : Past) → drop (length front) (front ++ rest) ≡ rest
drop_front [] rest = refl
drop_front (x ∷ front) rest = drop_front front rest

first_back : (k : ℕ) (all : List Entry) → k ≤ length all → first k (back all) ≡ back (take k all)
first_back k all h =
    let longer : length (back all) - k ≡ length (back (drop k all)) = omega (arith, h, length-reverse all, length-reverse (drop k all), length-drop k all) in
    ap (λ n. drop n (back all)) longer ∙ ap (drop (length (back (drop k all)))) (back-cut k all) ∙ drop_front (back (drop k all)) (back (take k all))

back_back : (a b : List Entry) → back a ≡ back b → a ≡ b
back_back a b e = sym (reverse-reverse a) ∙ ap back e ∙ reverse-reverse b

-- what is rebased, read from the oldest entry on
read_back : (rolled : Option ℕ) (entries : List Entry) → rebased_by rolled (back entries) ≡ back (read_as rolled entries)
read_back None entries = refl
read_back (Some r) entries = sym (reverse-reverse (rebase (back entries) r))

pub fits_first : FitsTheFirst
fits_first lived rolled all journal is = (
  (λ f. let le : f.0 ≤ length all = longest f.0 f.2 in (f.0, f.1, le, f.3, back_back journal (read_as rolled (take f.0 all)) (f.4 ∙ front f.0 le))),
  (λ f. (f.0, f.1, shortest f.0 f.2, f.3, ap back f.4 ∙ sym (front f.0 f.2))),
)
  where
    lengths : length lived.past ≡ length all
    lengths = ap length is ∙ length-reverse all

    longest : (k : ℕ) → k ≤ length lived.past → k ≤ length all
    longest k h = omega (arith, h, lengths)

    shortest : (k : ℕ) → k ≤ length all → k ≤ length lived.past
    shortest k h = omega (arith, h, lengths)

    front : (k : ℕ) → k ≤ length all → rebased_by rolled (first k lived.past) ≡ back (read_as rolled (take k all))
    front k le = ap (λ past. rebased_by rolled (first k past)) is ∙ ap (rebased_by rolled) (first_back k all le) ∙ read_back rolled (take k all)

-- what a roll that failed may have left, a stop may leave
stop_leaves : (w : World) (failed rolled : Option ℕ) → MayHaveFailed w failed → MayBeRebased (lived_of w failed) rolled → MayBeRolled w rolled
stop_leaves w failed rolled may (inl same) = inl same
stop_leaves w failed rolled may (inr roll) = inr (roll.0, roll.1, subst (MayHaveFailed w) roll.2 may)

-- and what a stop may leave was so before, or is what a roll that failed may have left
abbrev Left : World → Option ℕ → Type 0
Left w rolled = (failed : Option ℕ) × MayHaveFailed w failed × MayBeRebased (lived_of w failed) rolled

left_by : (w : World) (rolled : Option ℕ) → MayBeRolled w rolled → Left w rolled
left_by w rolled (inl same) = (None, tt, inl same)
left_by w rolled (inr roll) = (Some roll.0, roll.2, inr (roll.0, roll.1, refl))

pub fits_are_stops : FitsAreStops
fits_are_stops w rolled journal = (
  (λ f. let fits = f.2 in (fits.0, (fits.1, fits.2, stop_leaves w f.0 rolled f.1 fits.3), sym fits.4)),
  (λ s. let left = left_by w rolled s.1.2 in (left.0, left.1, (s.0, s.1.0, s.1.1, left.2, sym s.2))),
)

pub resumed_stopped : ResumedIsStopped
resumed_stopped w failed rolled journal fits = (refl, sym fits.4)

pub resumed_kept : ResumedIsKept
resumed_kept w failed rolled journal kept may fits =
    event_keeps w (Ends (Stop fits.0 rolled)) kept (fits.1, fits.2, stop_leaves w failed rolled may fits.3)
