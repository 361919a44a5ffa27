-- Who stands in the way of a transit that goes on: a root of another tree that asks alone for a row that the transit reads.
use Rattle.std.proofs.Common.{◌≡◌, ◌≢◌, ℕ, List, [], ◌∷◌, true, false, Some, None, refl, ap, sym, ◌∙◌, subst, inl, inr}
use Rattle.std.proofs.lemmas.Bool.{cases_Bool, or_right}
use Rattle.std.proofs.lemmas.Option.{none-some, same_Some}
use Rattle.hm_names.specs.Region.{Region}
use Rattle.hm_data.specs.declared.args.Args.{Args}
use Rattle.hm_data.specs.declared.args.Args.TheVariants as args_are
use Rattle.hm_data.specs.declared.catalog.CatKey.{CatKey}
use Rattle.hm_model.specs.Answers.{last_answer}
use Rattle.hm_model.specs.Holding.{HoldsWith, InConflict}
use Rattle.hm_model.specs.Journal.{Past}
use Rattle.hm_model.specs.Locks.{AsksClash, Clash, IsAbove, IsIn, asks}
use Rattle.hm_model.specs.Reads.{covers, reads}
use Rattle.hm_model.specs.Rules.{IsLegal}
use Rattle.hm_model.specs.Tree.{Node, node_of}
use Rattle.hm_model.specs.Whereabouts.{moved_by}
use Rattle.hm_model.proofs.Tops.{TopHolds, TopIs, holds_with}
use Rattle.hm_model.proofs.Trees.{Grown, grown_all}
use Rattle.hm_kinds.proofs.Covering.{rows_table}
use Rattle.hm_kinds.proofs.LockForms.{IsRight, lock_law}
use Rattle.hm_serial.proofs.FallAll.{falls_all}
use Rattle.hm_model.proofs.Taken.{legal_apart}
use Rattle.hm_single.specs.Calls.{Moves}
use Rattle.hm_single.proofs.All.{kept_all}
use Rattle.hm_single.proofs.Kept.{IsGoing}
use Rattle.hm_single.proofs.Kin.{goes_holds}

-- a transit's rows aren't listed
moved_rows : (args : Args) (region : Region) → moved_by args ≡ Some region → rows_table args ≡ None
moved_rows (args_are.AddRegions table first bounds) region m = absurd (none-some region m)
moved_rows (args_are.DropRegions table ids) region m = absurd (none-some region m)
moved_rows args region m = refl

-- an ancestor is there, and of the same tree
ancestor_root : (J : Past) → Grown J → (above : List ℕ) (q : ℕ) (x : Node) → node_of J q ≡ Some x → x.above ≡ above → (s : ℕ) → IsIn s above → (up : Node) × (node_of J s ≡ Some up) × (up.root ≡ x.root)
ancestor_root J grown [] q x is e s among = absurd among
ancestor_root J grown (u ∷ rest) q x is e s (inl same) = (let up = grown.ups q x is u rest e in (up.0, ap (node_of J) same ∙ up.1, up.3))
ancestor_root J grown (u ∷ rest) q x is e s (inr among) =
    let up = grown.ups q x is u rest e in
    let more = ancestor_root J grown rest u up.0 up.1 up.2 s among in
    (more.0, more.1, more.2 ∙ up.3)

-- a transit that goes on, and a row that it reads
module _ (J : Past) (legal : IsLegal J) (q : ℕ) (region : Region) (m : Moves J q region) (going : IsGoing (last_answer J q)) where
  pub held : HoldsWith J [] q
  held = goes_holds J (grown_all J legal) (kept_all J legal) q region m going

  -- a root of another tree that asks for the row alone stands in its way
  pub in_way : (s : ℕ) (top : Node) → TopIs J s top → s ≢ m.0.root → (key : CatKey) → reads m.0.args key ≡ true → covers top.args key ≡ true → InConflict J s q
  in_way s top is other key reading c = (differs, (above, below, subst (λ o. AsksClash o (node_of J q)) (sym is.0) (subst (AsksClash (Some top)) (sym m.1) clash)))
    where
      grown : Grown J
      grown = grown_all J legal

      asked : (p : ℕ) (x : Node) → node_of J p ≡ Some x → IsRight x.args
      asked = (falls_all J legal).asked

      clash : Clash (asks top.args) (asks m.0.args)
      clash = lock_law top.args m.0.args (asked s top is.0) (asked q m.0 m.1) (moved_rows m.0.args region m.2) key c (or_right (covers m.0.args key) (reads m.0.args key) reading)

      differs : s ≢ q
      differs same =
          let one : m.0 ≡ top = same_Some m.0 top (sym m.1 ∙ ap (node_of J) (sym same) ∙ is.0) in
          other (same ∙ sym (grown.tops q m.0 m.1 (ap (λ (n : Node). n.above) one ∙ is.1)))

      above : IsAbove s (node_of J q) → ⊥
      above h =
          let up = ancestor_root J grown m.0.above q m.0 m.1 refl s (subst (IsAbove s) m.1 h) in
          let one : up.0 ≡ top = same_Some up.0 top (sym up.1 ∙ is.0) in
          other (sym (grown.tops s top is.0 is.1) ∙ ap (λ (n : Node). n.root) (sym one) ∙ up.2)

      below : IsAbove q (node_of J s) → ⊥
      below h = subst (IsIn q) is.1 (subst (IsAbove q) is.0 h)

  -- one that holds asks for no such row alone
  pub left_alone : (s : ℕ) (top : Node) → TopHolds J s top → s ≢ m.0.root → (key : CatKey) → reads m.0.args key ≡ true → covers top.args key ≡ false
  left_alone s top h other key reading = elim (cases_Bool (covers top.args key)) [
    | inr off ↦ off
    | inl on ↦ absurd (legal_apart J legal s q (holds_with J s top h) held (in_way s top h.0 other key reading on))
  ]
