-- Every legal journal's trees stand.
use Rattle.hm_model.proofs.Parted.{no_node}
use Rattle.hm_model.specs.Parts.{part_row}
use Rattle.std.proofs.Common.{◌≡◌, ◌≢◌, ℕ, ◌+◌, List, [], ◌∷◌, true, false, Option, Some, None, refl, ap, sym, ◌∙◌, subst, inl, inr, arith}
use Rattle.std.proofs.lemmas.Option.{none-some, same_Some}
use Rattle.hm_names.specs.Server.{Server}
use Rattle.hm_names.specs.declared.nonce.Nonce.{Nonce}
use Rattle.hm_names.specs.declared.pid.Pid.{Pid}
use Rattle.hm_data.specs.declared.catalog.CatKey.{CatKey}
use Rattle.hm_data.specs.declared.entry.Entry.{Entry}
use Rattle.hm_data.specs.declared.entry.Entry.TheVariants as entry_is
use Rattle.hm_data.specs.declared.request.Request.{Request}
use Rattle.hm_data.specs.declared.step.StepOut.{StepOut}
use Rattle.hm_model.specs.Answers.{last_answer}
use Rattle.hm_model.specs.Apart.{IsSameTree, tree_of}
use Rattle.hm_model.specs.Catalog.{cat, keys_of, was}
use Rattle.hm_model.specs.Journal.{Past}
use Rattle.hm_model.specs.Locks.{IsIn}
use Rattle.hm_model.specs.Reads.{covers, guards}
use Rattle.hm_model.specs.Phase.{cause, root_ended}
use Rattle.hm_model.specs.Rules.{IsLegal}
use Rattle.hm_model.specs.Serial.{serial}
use Rattle.hm_model.specs.Sheets.{sheets_by}
use Rattle.hm_model.specs.Tree.{Node, made, node_of, root_of}
use Rattle.hm_model.proofs.Apart.{others_stay}
use Rattle.hm_model.proofs.Grown.{nodes_stay}
use Rattle.hm_model.proofs.Rows.{in_with_keys}
use Rattle.hm_model.proofs.Trees.{Grown, does_of, down_rooted, grown_all, is_there, sheets_stay, start_none, step_of, submit_rooted}
use Rattle.hm_kinds.proofs.Within.{within_others}
use Rattle.hm_serial.proofs.Apart.{Aside, step_top}
use Rattle.hm_serial.proofs.FallAll.{falls_all, held_before, sick, step_aside, top, top_is, undo_aside, undo_back, undo_holds, undo_unwinds, undo_within}
use Rattle.hm_serial.proofs.Fallen.{root_of_node}
use Rattle.hm_serial.proofs.FallStep.{kid_or_root, own_root, unwinds_now}
use Rattle.hm_serial.proofs.Failing.{nothing_left}
use Rattle.hm_serial.proofs.Frame.{unwound}
use Rattle.hm_model.proofs.Tops.{TopHolds, TopIs}
use Rattle.hm_serial.proofs.Stands.{Stands, Tree, holds_behind, settled_on, tree_like, tree_on, trees_on}
use Rattle.hm_serial.proofs.StandStep.{cat_others, keys_grow, root_keeps}
use Rattle.hm_serial.proofs.StandKid.{kid_here, kid_over, kid_serials}

stands_nothing : Stands []
stands_nothing = record {
  tree = λ r node h. absurd (none-some node h.0.0);
  settled = λ key free. refl;
}

-- an entry of no tree that was there
rooted_stands : (entry : Entry) (J : Past) → IsLegal (entry ∷ J) → Grown J → Stands J → keys_of (entry ∷ J) ≡ keys_of J
    → ((key : CatKey) → cat (entry ∷ J) key ≡ cat J key) → ((key : CatKey) → serial (entry ∷ J) key ≡ serial J key) → ((s : ℕ) (x : Node) → TopIs J s x → s ≢ tree_of J entry) → ((s : ℕ) (x : Node) → TopHolds (entry ∷ J) s x → TopHolds J s x) → Stands (entry ∷ J)
rooted_stands entry J legal grown stands keys cats serials other old = record {
  tree = λ r node h.
      let before = old r node h in
      tree_on J (entry ∷ J) r node before.0 (grown.tops r node before.0.0 before.0.1) (same_of r node before.0) stays (sheets_stay entry J legal r node before.0.0) (λ key among. subst (IsIn key) (sym keys) among) (λ key g. cats key) (λ key g. serials key) (stands.tree r node before);
  settled = λ key free. cats key ∙ stands.settled key (λ r node h. free r node (holds_behind J (entry ∷ J) r node h.0 (grown.tops r node h.0.0 h.0.1) (same_of r node h.0) stays h)) ∙ sym (serials key);
}
  where
    stays : (q : ℕ) (x : Node) → node_of J q ≡ Some x → node_of (entry ∷ J) q ≡ Some x
    stays = nodes_stay entry J legal

    same_of : (s : ℕ) (x : Node) → TopIs J s x → IsSameTree J (entry ∷ J) s
    same_of s x at = others_stay entry J legal s x at.0 at.1 (other s x at)

not_next : (J : Past) → Grown J → (s : ℕ) (x : Node) → TopIs J s x → s ≢ made J + 1
not_next J grown s x at same = (let le = is_there J grown s x at.0 in omega (arith, le, same))

stands_submit : (nonce : Nonce) (request : Request) (J : Past) → IsLegal (entry_is.Submit nonce request ∷ J) → Stands J → Stands (entry_is.Submit nonce request ∷ J)
stands_submit nonce request J legal stands =
    let grown = grown_all J legal.0 in
    rooted_stands (entry_is.Submit nonce request) J legal grown stands refl (λ key. refl) (λ key. refl) (not_next J grown) (λ s x h. held_before J (entry_is.Submit nonce request ∷ J) (submit_rooted nonce request J grown) grown s x refl refl refl h)

stands_down : (server : Server) (J : Past) → IsLegal (entry_is.Down server ∷ J) → Stands J → Stands (entry_is.Down server ∷ J)
stands_down server J legal stands =
    let grown = grown_all J legal.0 in
    rooted_stands (entry_is.Down server) J legal grown stands refl (λ key. refl) (λ key. refl) (not_next J grown) (λ s x h. held_before J (entry_is.Down server ∷ J) (down_rooted server J grown) grown s x refl refl refl h)

-- a step
module _ (pid : Pid) (pick : Option Server) (out : StepOut) (J : Past) (legal : IsLegal (entry_is.Step pid pick out ∷ J)) (stands : Stands J) where
  abbrev J' : Past
  J' = entry_is.Step pid pick out ∷ J

  abbrev grown : Grown J
  grown = grown_all J legal.0

  abbrev all : Rattle.hm_serial.proofs.FallAll.All J
  all = falls_all J legal.0

  abbrev step : Rattle.hm_model.proofs.LegalSteps.StepFacts J pid.0 pick out
  step = step_of pid pick out J grown legal

  abbrev d : Rattle.hm_model.proofs.StepDoes.Does J pid.0 step.node.args (last_answer J pid.0) step.sheet.rows out
  d = does_of pid pick out J grown step

  abbrev pub its_top : (y : Node) × TopIs J step.node.root y
  its_top = root_of_node J grown pid.0 step.node step.node_is

  abbrev aside : Aside J step.node.root its_top.0
  aside = step_aside pid pick out J legal all

  own_is : (own_root pid pick out J grown all.falls step d aside).0 ≡ its_top.0
  own_is = let own = own_root pid pick out J grown all.falls step d aside in same_Some own.0 its_top.0 (sym own.1.0 ∙ its_top.1.0)

  left_back : cause J' step.node.root ≢ None → root_ended J' step.node.root ≡ true → (key : CatKey) → covers its_top.0.args key ≡ true → cat J' key ≡ was J' step.node.root key
  left_back failed ended key c =
      ap (λ l. unwound l key (cat J' key)) (sym (nothing_left J' step.node.root ended failed))
      ∙ unwinds_now pid pick out J grown all.falls step d aside (inr (inl failed)) key (ap (λ (n : Node). covers n.args key) own_is ∙ c)

  -- what the root of the tree doesn't cover has the row of the deeds that it had
  pub serials_now : (key : CatKey) → covers its_top.0.args key ≡ false → serial J' key ≡ serial J key
  serials_now key off = elim (kid_or_root pid pick out J grown all.falls step d aside) [
    | inl e ↦ (root_keeps pid pick out J grown all.falls stands step d aside its_top.0 its_top.1 aside e).serials key off
    | inr kid ↦ kid_serials pid pick out J grown all.falls stands step d aside its_top.0 its_top.1 kid key
  ]

  here_now : root_ended J' step.node.root ≡ false → Tree J' step.node.root its_top.0
  here_now running = elim (kid_or_root pid pick out J grown all.falls step d aside) [
    | inl e ↦ (root_keeps pid pick out J grown all.falls stands step d aside its_top.0 its_top.1 aside e).here running
    | inr kid ↦ kid_here pid pick out J grown all.falls stands step d aside its_top.0 its_top.1 kid
  ]

  -- and once the root has ended, what it covers has that row
  pub over_now : root_ended J' step.node.root ≡ true → (key : CatKey) → covers its_top.0.args key ≡ true → cat J' key ≡ serial J' key
  over_now ended key c = elim (kid_or_root pid pick out J grown all.falls step d aside) [
    | inl e ↦ (root_keeps pid pick out J grown all.falls stands step d aside its_top.0 its_top.1 aside e).over left_back ended key c
    | inr kid ↦ kid_over pid pick out J grown all.falls stands step d aside its_top.0 its_top.1 kid left_back ended key c
  ]

  begun_now : last_answer J' step.node.root ≢ None
  begun_now = Rattle.hm_serial.proofs.FallStep.own_begun pid pick out J grown all.falls step d aside

  root_of_step : tree_of J (entry_is.Step pid pick out) ≡ step.node.root
  root_of_step = ap Rattle.hm_model.specs.Tree.root_in step.node_is

  old_now : (s : ℕ) (x : Node) → TopHolds J' s x → TopIs J s x
  old_now s x h = step_top pid pick out J step s x h.0

  cats_now : (key : CatKey) → covers its_top.0.args key ≡ false → cat J' key ≡ cat J key
  cats_now = cat_others pid pick out J grown all.falls stands step d aside its_top.0 its_top.1 aside

  keys_now : (key : CatKey) → IsIn key (keys_of J) → IsIn key (keys_of J')
  keys_now = keys_grow pid pick out J grown all.falls stands step d aside its_top.0 its_top.1 aside

  apart_now : (s : ℕ) (x : Node) → TopHolds J s x → s ≢ step.node.root → (key : CatKey) → guards x.args key ≡ true → covers its_top.0.args key ≡ false
  apart_now s x h differs key g = (aside s x h differs key).0 g

  pub stands_step : Stands (entry_is.Step pid pick out ∷ J)
  stands_step = record {
    tree = trees_on (entry_is.Step pid pick out) J legal grown stands step.node.root its_top.0 its_top.1 root_of_step keys_now cats_now serials_now apart_now begun_now old_now here_now over_now;
    settled = settled_on (entry_is.Step pid pick out) J legal grown stands step.node.root its_top.0 its_top.1 root_of_step keys_now cats_now serials_now apart_now begun_now old_now here_now over_now;
  }

  -- the deed of a root that ends well
  pub deed_now : step.node.above ≡ [] → (told : Rattle.hm_data.specs.declared.call.Told.Told) → Rattle.hm_model.specs.Answers.done_with (Some out.answer) ≡ Some told → (edits : List Rattle.hm_data.specs.declared.catalog.Edit.Edit) × (Rattle.hm_model.specs.Deeds.deed_of step.node.args (keys_of J) (serial J) ≡ Rattle.std.specs.Prelude.Ok edits)
  deed_now e told done = (root_keeps pid pick out J grown all.falls stands step d aside its_top.0 its_top.1 aside e).deed told done

-- an undo
module _ (pid : Pid) (row : ℕ) (out : StepOut) (J : Past) (legal : IsLegal (entry_is.Undo pid row out ∷ J)) (stands : Stands J) where
  abbrev K : Past
  K = entry_is.Undo pid row out ∷ J

  abbrev grown_here : Grown J
  grown_here = grown_all J legal.0

  abbrev all_here : Rattle.hm_serial.proofs.FallAll.All J
  all_here = falls_all J legal.0

  abbrev root_here : Node
  root_here = top pid row out J legal grown_here all_here.falls

  at_top : TopIs J (root_of J pid.0) root_here
  at_top = top_is pid row out J legal grown_here all_here.falls

  holds_it : TopHolds J (root_of J pid.0) root_here
  holds_it = undo_holds pid row out J legal grown_here all_here.falls

  failed : cause J (root_of J pid.0) ≢ None
  failed = sick pid row out J legal grown_here all_here.falls

  apart_here : (s : ℕ) (x : Node) → TopHolds J s x → s ≢ root_of J pid.0 → (key : CatKey) → guards x.args key ≡ true → covers root_here.args key ≡ false
  apart_here s x h differs key g = (undo_aside pid row out J legal all_here s x h differs key).0 g

  tree_here : Tree K (root_of J pid.0) root_here
  tree_here = let t = stands.tree (root_of J pid.0) root_here holds_it in record {
    stage = λ none runs. absurd (failed none);
    base = λ key g. t.base key g;
    based = λ key some. in_with_keys key out.edits (keys_of J) (t.based key some);
  }

  over_here : root_ended K (root_of J pid.0) ≡ true → (key : CatKey) → covers root_here.args key ≡ true → cat K key ≡ serial K key
  over_here ended key c =
      ap (λ l. unwound l key (cat K key)) (sym (nothing_left K (root_of J pid.0) ended failed))
      ∙ undo_unwinds pid row out J legal grown_here all_here.falls (inr (inl failed)) key c
      ∙ sym ((stands.tree (root_of J pid.0) root_here holds_it).base key (Rattle.hm_serial.proofs.Frame.cover_guards root_here.args key c))

  pub stands_undo : Stands (entry_is.Undo pid row out ∷ J)
  stands_undo = record {
    tree = trees_on (entry_is.Undo pid row out) J legal grown_here stands (root_of J pid.0) root_here at_top refl (λ key among. in_with_keys key out.edits (keys_of J) among) (λ key off. within_others root_here.args out.edits (undo_within pid row out J legal grown_here all_here.falls) key off (cat J key)) (λ key off. refl) apart_here holds_it.1 (λ s x h. (undo_back pid row out J legal grown_here all_here.falls s x h).0) (λ running. tree_here) over_here;
    settled = settled_on (entry_is.Undo pid row out) J legal grown_here stands (root_of J pid.0) root_here at_top refl (λ key among. in_with_keys key out.edits (keys_of J) among) (λ key off. within_others root_here.args out.edits (undo_within pid row out J legal grown_here all_here.falls) key off (cat J key)) (λ key off. refl) apart_here holds_it.1 (λ s x h. (undo_back pid row out J legal grown_here all_here.falls s x h).0) (λ running. tree_here) over_here;
  }

-- an entry that changes neither procedures nor the catalog
plain_tree : (entry : Entry) (J : Past) → last_answer (entry ∷ J) ≡ last_answer J → node_of (entry ∷ J) ≡ node_of J → cause (entry ∷ J) ≡ cause J → was (entry ∷ J) ≡ was J → sheets_by (entry ∷ J) ≡ sheets_by J → keys_of (entry ∷ J) ≡ keys_of J → cat (entry ∷ J) ≡ cat J → serial (entry ∷ J) ≡ serial J → (r : ℕ) (node : Node) → Tree J r node → Tree (entry ∷ J) r node
plain_tree entry J last nodes causes base sheets keys cats serials r node tree =
    tree_like J (entry ∷ J) r node (ap (λ f. f r) last) (ap (λ f. f r) causes) (ap (λ f. f r) base) (ap (λ f. f node.root) sheets) (λ key among. subst (IsIn key) (sym keys) among) (λ key g. ap (λ f. f key) cats) (λ key g. ap (λ f. f key) serials)
    (λ q x is of. (ap (λ f. f q) (sym nodes) ∙ is, ap (λ f. f q) last)) (λ q x is of. (ap (λ f. f q) nodes ∙ is, ap (λ f. f q) last)) tree

pub stands_all : (J : Past) → IsLegal J → Stands J
stands_all [] legal = stands_nothing
stands_all (entry_is.Start sheets ∷ J) legal =
    let none = start_none J legal.1.0.0 in
    let s = stands_all J legal.0 in
    record {
      tree = λ r node h. absurd (none-some node (sym (none r) ∙ h.0.0));
      settled = λ key free. s.settled key (λ r node h. absurd (none-some node (sym (none r) ∙ h.0.0)));
    }
stands_all (entry_is.Submit nonce request ∷ J) legal = stands_submit nonce request J legal (stands_all J legal.0)
stands_all (entry_is.Step pid pick out ∷ J) legal = stands_step pid pick out J legal (stands_all J legal.0)
stands_all (entry_is.Undo pid row out ∷ J) legal = stands_undo pid row out J legal (stands_all J legal.0)
stands_all (entry_is.Down server ∷ J) legal = stands_down server J legal (stands_all J legal.0)
stands_all (entry_is.Base part ∷ J) legal = record {
  tree = λ r node h. absurd (none-some node h.0.0);
  settled = λ key free. ap (part_row part key) ((stands_all J legal.0).settled key (λ r node h. absurd (none-some node (sym (no_node part J legal.1.0 r) ∙ h.0.0))));
}
stands_all (entry ∷ J) legal =
    let s = stands_all J legal.0 in
    record { tree = λ r node h. plain_tree entry J refl refl refl refl refl refl refl refl r node (s.tree r node h); settled = s.settled }
