-- What every legal journal keeps of the steps that may still be undone: undone, they lead back.
use Rattle.std.proofs.Common.{◌≡◌, ◌≢◌, ◌≤◌, ℕ, List, [], ◌∷◌, true, false, Some, None, refl, ap, sym, ◌∙◌, subst, inl, inr, ◌⊎◌}
use Rattle.std.proofs.lemmas.Option.{none-some, same_Some}
use Rattle.hm_names.specs.Region.{Region}
use Rattle.hm_names.specs.declared.table.TableName.{TableName}
use Rattle.hm_data.specs.declared.catalog.CatKey.{CatKey}
use Rattle.hm_data.specs.declared.sheet.Row.{Row}
use Rattle.hm_model.specs.Answers.{is_stopped, last_answer, row_after, row_of}
use Rattle.hm_model.specs.Catalog.{cat, was}
use Rattle.hm_model.specs.Journal.{Past}
use Rattle.hm_model.specs.Kinds.{first_row_of}
use Rattle.hm_model.specs.Locks.{IsIn, asks, exclusive}
use Rattle.hm_model.specs.Reads.{covers}
use Rattle.hm_model.specs.Phase.{cause}
use Rattle.hm_model.specs.Sheets.{next_row, sheets_by}
use Rattle.hm_model.specs.Tree.{Node, made, node_of}
use Rattle.hm_model.specs.Undo.{stack}
use Rattle.hm_model.specs.Whereabouts.{moved_by}
use Rattle.hm_model.specs.declared.lock.Resource.TheVariants as resource_is
use Rattle.hm_model.proofs.Trees.{Grown, root_within}
use Rattle.hm_serial.proofs.Editing.{rows_table}
use Rattle.hm_serial.proofs.Frame.{AllWithin, unwound}
use Rattle.hm_serial.proofs.Kinship.{is_bare, is_kid, is_lined, may_fail}
use Rattle.hm_model.proofs.Tops.{TopHolds, TopIs}

-- the tree of a root may still be undone: it lists no rows, has failed, or runs a row next that is before the point
abbrev pub MayFall : Past → ℕ → Node → Type 0
MayFall J r node =
    (is_lined node.args ≡ false)
    ⊎ ((cause J r ≢ None)
    ⊎ ((is_stopped (last_answer J r) ≡ false) × (row : Row) × (next_row J r node ≡ Some row) × (row.after ≡ false)))

abbrev pub Unwinds : Past → ℕ → Node → Type 0
Unwinds J r node = MayFall J r node → (key : CatKey) → covers node.args key ≡ true → unwound (stack J r) key (cat J key) ≡ was J r key

pub record Falls (J : Past) : Type 0 where
  pub fresh : (r : ℕ) (node : Node) → TopIs J r node → last_answer J r ≡ None → (stack J r ≡ []) × (cause J r ≡ None)
  pub gone : (r : ℕ) → node_of J r ≡ None → (stack J r ≡ []) × (cause J r ≡ None)
  pub tops : (q : ℕ) (x : Node) → TopIs J q x → rows_table x.args ≡ None
  pub kids : (q : ℕ) (x : Node) → node_of J q ≡ Some x → x.above ≢ [] → is_kid x.args ≡ true
  pub belongs : (q : ℕ) (x : Node) → node_of J q ≡ Some x → (t : TableName) → rows_table x.args ≡ Some t → (y : Node) → node_of J x.root ≡ Some y → IsIn (exclusive (resource_is.Table t)) (asks y.args)
  pub near : (q : ℕ) (x : Node) → node_of J q ≡ Some x → x.above ≢ [] → (r : Region) → moved_by x.args ≡ Some r → row_of J q x ≢ 5
  pub safe : (q : ℕ) (x : Node) → node_of J q ≡ Some x → x.above ≢ [] → is_stopped (last_answer J q) ≡ false → may_fail x.args ≡ true → (y : Node) → node_of J x.root ≡ Some y → MayFall J x.root y
  pub bare : (q : ℕ) (x : Node) → node_of J q ≡ Some x → x.above ≢ [] → is_stopped (last_answer J q) ≡ false → is_bare x.args ≡ true → (y : Node) → node_of J x.root ≡ Some y → MayFall J x.root y → ⊥
  pub tree : (r : ℕ) (node : Node) → TopHolds J r node → Unwinds J r node × AllWithin node.args (stack J r)

pub falls_nothing : Falls []
falls_nothing = record {
  fresh = λ r node top. absurd (none-some node top.0);
  gone = λ r none. (refl, refl);
  tops = λ q x top. absurd (none-some x top.0);
  kids = λ q x is. absurd (none-some x is);
  belongs = λ q x is. absurd (none-some x is);
  near = λ q x is. absurd (none-some x is);
  safe = λ q x is. absurd (none-some x is);
  bare = λ q x is. absurd (none-some x is);
  tree = λ r node h. absurd (none-some node h.0.0);
}

-- a tree whose root's cause, last step and sheets are the same may be undone as before
pub may_on : (J J' : Past) (r : ℕ) (node : Node) → cause J' r ≡ cause J r → last_answer J' r ≡ last_answer J r → sheets_by J' node.root ≡ sheets_by J node.root → MayFall J r node → MayFall J' r node
may_on J J' r node causes last sheets (inl exact) = inl exact
may_on J J' r node causes last sheets (inr (inl failed)) = inr (inl (λ none. failed (sym causes ∙ none)))
may_on J J' r node causes last sheets (inr (inr runs)) = inr (inr (ap is_stopped last ∙ runs.0, runs.1, (rw (sheets, last) runs.2), runs.3))

-- the root of a procedure is there, and a root
root_at : (J : Past) → Grown J → (above : List ℕ) (q : ℕ) (x : Node) → node_of J q ≡ Some x → x.above ≡ above → (y : Node) × TopIs J x.root y
root_at J grown [] q x is e = (x, (ap (node_of J) (grown.tops q x is e) ∙ is, e))
root_at J grown (u ∷ rest) q x is e =
    let up = grown.ups q x is u rest e in
    let y = root_at J grown rest u up.0 up.1 up.2 in
    (y.0, (ap (node_of J) (sym up.3) ∙ y.1.0, y.1.1))

pub root_of_node : (J : Past) → Grown J → (q : ℕ) (x : Node) → node_of J q ≡ Some x → (y : Node) × TopIs J x.root y
root_of_node J grown q x is = root_at J grown x.above q x is refl

pub some_cons : (u : ℕ) (rest : List ℕ) → u ∷ rest ≢ []
some_cons u rest e = cc

-- an entry without a step, for all but what is undone
module _ (J J' : Past) (grown : Grown J) (falls : Falls J)
    (nodes : (p : ℕ) (x : Node) → node_of J' p ≡ Some x → (node_of J p ≡ Some x) ⊎ ((node_of J p ≡ None) × (x.above ≡ []) × (rows_table x.args ≡ None) × (last_answer J' p ≡ None)))
    (still : (p : ℕ) (x : Node) → node_of J p ≡ Some x → node_of J' p ≡ Some x)
    (nobody : (p : ℕ) → node_of J' p ≡ None → node_of J p ≡ None)
    (last : (p : ℕ) → last_answer J' p ≡ last_answer J p)
    (causes : (p : ℕ) → cause J' p ≡ cause J p)
    (sheets : (root : ℕ) → root ≤ made J → sheets_by J' root ≡ sheets_by J root)
    (stacks : (p : ℕ) → stack J p ≡ [] → stack J' p ≡ [])
    (tree : (r : ℕ) (node : Node) → TopHolds J' r node → Unwinds J' r node × AllWithin node.args (stack J' r)) where
  same_root : (q : ℕ) (x y : Node) → node_of J q ≡ Some x → node_of J' x.root ≡ Some y → node_of J x.root ≡ Some y
  same_root q x y is at =
      let r = root_of_node J grown q x is in
      r.1.0 ∙ ap Some (same_Some r.0 y (sym (still x.root r.0 r.1.0) ∙ at))

  same_sheets : (r : ℕ) (node : Node) → node_of J r ≡ Some node → sheets_by J' node.root ≡ sheets_by J node.root
  same_sheets r node is = sheets node.root (root_within J grown r node is)

  pub falls_calm : Falls J'
  falls_calm = record {
    fresh = λ r node top none. elim (nodes r node top.0) [
      | inl old ↦ let f = falls.fresh r node (old, top.1) (sym (last r) ∙ none) in (stacks r f.0, causes r ∙ f.1)
      | inr new ↦ let f = falls.gone r new.0 in (stacks r f.0, causes r ∙ f.1)
    ];
    gone = λ r none. let f = falls.gone r (nobody r none) in (stacks r f.0, causes r ∙ f.1);
    tops = λ q x top. elim (nodes q x top.0) [ inl old ↦ falls.tops q x (old, top.1) | inr new ↦ new.2 ];
    kids = λ q x is some. elim (nodes q x is) [ inl old ↦ falls.kids q x old some | inr new ↦ absurd (some new.1) ];
    belongs = λ q x is t rows y at. elim (nodes q x is) [ inl old ↦ falls.belongs q x old t rows y (same_root q x y old at) | inr new ↦ absurd (none-some t (sym new.2 ∙ rows)) ];
    near = λ q x is some r m. elim (nodes q x is) [ inl old ↦ subst (λ o. row_after (first_row_of x.args) o ≢ 5) (sym (last q)) (falls.near q x old some r m) | inr new ↦ absurd (some new.1) ];
    safe = λ q x is some runs may y at. elim (nodes q x is) [
      | inl old ↦ may_on J J' x.root y (causes x.root) (last x.root) (same_sheets x.root y (same_root q x y old at)) (falls.safe q x old some (ap is_stopped (sym (last q)) ∙ runs) may y (same_root q x y old at))
      | inr new ↦ absurd (some new.1)
    ];
    bare = λ q x is some runs b y at may. elim (nodes q x is) [
      | inl old ↦ falls.bare q x old some (ap is_stopped (sym (last q)) ∙ runs) b y (same_root q x y old at) (may_on J' J x.root y (sym (causes x.root)) (sym (last x.root)) (sym (same_sheets x.root y (same_root q x y old at))) may)
      | inr new ↦ absurd (some new.1)
    ];
    tree = tree;
  }
