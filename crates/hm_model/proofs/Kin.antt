-- In a tree no two that go on ask for what clashes, unless one is an ancestor of the other.
use Rattle.std.proofs.Common.{◌≡◌, ◌≢◌, ℕ, ◌-◌, ◌<◌, ◌≤◌, List, [], ◌∷◌, true, false, ◌||◌, Option, Some, None, is_some, refl, ap, sym, ◌∙◌, subst, arith, inl, inr, ◌⊎◌, slice_get}
use Rattle.std.proofs.lemmas.Bool.{false≢true, true≢false}
use Rattle.std.proofs.lemmas.Option.{none-some, same_Some}
use Rattle.hm_names.specs.Region.{Region}
use Rattle.hm_names.specs.Server.{Server}
use Rattle.hm_names.specs.declared.pid.Pid.{Pid}
use Rattle.hm_names.specs.declared.table.TableName.{TableName}
use Rattle.hm_data.specs.declared.act.Act.{Act}
use Rattle.hm_data.specs.declared.act.Act.TheVariants as act_is
use Rattle.hm_data.specs.declared.answer.Answer.{Answer}
use Rattle.hm_data.specs.declared.answer.Answer.TheVariants as answer_is
use Rattle.hm_data.specs.declared.args.Args.{Args}
use Rattle.hm_data.specs.declared.args.Args.TheVariants as args_are
use Rattle.hm_data.specs.declared.entry.Entry.{Entry}
use Rattle.hm_data.specs.declared.entry.Entry.TheVariants as entry_is
use Rattle.hm_data.specs.declared.step.StepIn.{StepIn}
use Rattle.hm_data.specs.declared.step.StepOut.{StepOut}
use Rattle.hm_model.specs.declared.lock.Ask.{Ask}
use Rattle.hm_model.specs.declared.lock.Resource.TheVariants as resource_is
use Rattle.hm_model.specs.Acts.{act_answer}
use Rattle.hm_model.specs.Answers.{is_stopped, last_answer, row_of}
use Rattle.hm_model.specs.Catalog.{cat, keys_of, row_at}
use Rattle.hm_model.specs.Inputs.{regions_on, step_input}
use Rattle.hm_model.specs.Journal.{Past}
use Rattle.hm_model.specs.Kinds.{kind_of}
use Rattle.hm_model.specs.Lists.{exact_rows}
use Rattle.hm_model.specs.Locks.{Clash, IsIn, asks, exclusive, shared}
use Rattle.hm_model.specs.Outs.{edits_rows, given}
use Rattle.hm_model.specs.Pieces.{ranges_between}
use Rattle.hm_model.specs.Changes.{add_ranges, remove_regions}
use Rattle.hm_model.specs.Wanted.{ids_of}
use Rattle.hm_model.specs.Phase.{children_ended}
use Rattle.hm_model.specs.Places.{at_server}
use Rattle.hm_model.specs.Reads.{reads}
use Rattle.hm_model.specs.RowsSaid.{is_live_status, status_in}
use Rattle.hm_model.specs.Rules.{IsLegal}
use Rattle.hm_model.specs.Tree.{Node, args_in, made, node_of}
use Rattle.hm_model.specs.Verbs.{verb_in}
use Rattle.hm_model.specs.Views.{bounds_of, first_id_of, regions_in, table_of}
use Rattle.hm_model.specs.Whereabouts.{crashed_in, moved_by}
use Rattle.hm_model.proofs.ExactRows.{is_listed, led_row, row_passes}
use Rattle.hm_model.proofs.Grown.{nodes_stay}
use Rattle.hm_model.proofs.LegalSteps.{ReadyBy, StepFacts, ready_stops}
use Rattle.hm_model.proofs.PlainActs.{is_caller, is_high, is_plain}
use Rattle.hm_model.proofs.Rows.{keys_in_order}
use Rattle.hm_model.proofs.StepDoes.{Does, bears_by, calls as calls_part, crash as crash_part, lined as lined_part, moves as moves_part, part_of, row_by}
use Rattle.hm_model.proofs.Trees.{Grown, IsRooted, IsWaiting, child_stopped, does_of, down_rooted, grown_all, le_or_lt, new_child, node_same, old_or_new, ran_before, step_of, submit_rooted, undo_rooted}
use Rattle.hm_model.proofs.StepDoes.{exact_row_is}
use Rattle.hm_model.proofs.Distinct.{AreDistinct, OnePerRegion, SeesEachOnce, act_one, distinct_among, distinct_order, distinct_taken}
use Rattle.hm_model.proofs.InOrder.{at_order}
use Rattle.hm_model.proofs.Highs.{own_all}
use Rattle.hm_model.proofs.Transits.{caller_facts}
use Rattle.hm_model.proofs.Small.{nil_cons, same_head}

-- what a step sees has each region once
sees_once : (J : Past) → IsLegal J → (p : ℕ) (x : Node) → node_of J p ≡ Some x → (pick : Option Server) → SeesEachOnce (step_input J p x pick)
sees_once J legal p x is pick = record {
  rows = λ table. distinct_among table (λ row. is_live_status (status_in (Some row))) (reads x.args) (cat J) (keys_of J) (keys_in_order J);
  closed = (own_all J legal p x is).apart;
  lost = by (crashed_in x.args);
}
  where
    by : (o : Option Server) → AreDistinct (regions_on J o)
    by None = tt
    by (Some server) = distinct_taken 64 (at_server J server) (distinct_order (at_server J server) (at_order J server))

-- what AddRegions does makes nothing
adds_none : (act : Act) → is_listed 20 act ≡ true → (next : ℕ) (at : StepIn) → (act_answer act next at).children ≡ []
adds_none act_is.AddRegionRows listed next at = by (table_of at.args)
  where
    bounded : (o : Option (List (List ℕ))) (table : TableName) → (given o next (λ bounds. edits_rows next (add_ranges (row_at at.rows) table (first_id_of at.args) (ranges_between bounds)))).children ≡ []
    bounded None table = refl
    bounded (Some bounds) table = refl

    by : (o : Option TableName) → (given o next (λ table. given (bounds_of at.args) next (λ bounds. edits_rows next (add_ranges (row_at at.rows) table (first_id_of at.args) (ranges_between bounds))))).children ≡ []
    by None = refl
    by (Some table) = bounded (bounds_of at.args) table
adds_none act listed next at = absurd (false≢true listed)

-- nor does what DropRegions does
drops_none : (act : Act) → is_listed 21 act ≡ true → (next : ℕ) (at : StepIn) → (act_answer act next at).children ≡ []
drops_none act_is.DropRegionRows listed next at = by (table_of at.args)
  where
    by : (o : Option TableName) → (given o next (λ table. edits_rows next (remove_regions (row_at at.rows) (regions_in table (ids_of at.args))))).children ≡ []
    by None = refl
    by (Some table) = refl
drops_none act listed next at = absurd (false≢true listed)

module _ (pid : Pid) (pick : Option Server) (out : StepOut) (J : Past) (legal : IsLegal (entry_is.Step pid pick out ∷ J)) where
  abbrev pub grown : Grown J
  grown = grown_all J legal.0

  abbrev pub step : StepFacts J pid.0 pick out
  step = step_of pid pick out J grown legal

  does : Does J pid.0 step.node.args (last_answer J pid.0) step.sheet.rows out
  does = does_of pid pick out J grown step

  runs : is_stopped (last_answer J pid.0) ≡ false
  runs = ready_stops J pid.0 step.node (last_answer J pid.0) step.ready

  no_child : (i : ℕ) (args : Args) → out.children ≡ [] → slice_get (args_in out.children) i ≡ Some args → ⊥
  no_child i args none is = none-some args (ap (λ c. slice_get (args_in c) i) (sym none) ∙ is)

  -- who makes a transit is a root
  lined_high : (args : Args) → step.node.args ≡ args → exact_rows (kind_of args) ≡ [] → is_listed (kind_of args) step.row.act ≡ true → (i : ℕ) (made_args : Args) → slice_get (args_in out.children) i ≡ Some made_args → (is_high args ≡ true)
  lined_high (args_are.Root request first) e exact listed i a is = refl
  lined_high (args_are.Crash server) e exact listed i a is = refl
  lined_high (args_are.AddRegions table first bounds) e exact listed i a is = absurd (no_child i a (ap (λ (o : StepOut). o.children) step.out_is ∙ row_by (λ o. o.children ≡ []) step.row (step_input J pid.0 step.node pick) (λ c. refl) (adds_none step.row.act listed step.row.next (step_input J pid.0 step.node pick))) is)
  lined_high (args_are.DropRegions table ids) e exact listed i a is = absurd (no_child i a (ap (λ (o : StepOut). o.children) step.out_is ∙ row_by (λ o. o.children ≡ []) step.row (step_input J pid.0 step.node pick) (λ c. refl) (drops_none step.row.act listed step.row.next (step_input J pid.0 step.node pick))) is)
  lined_high args e exact listed i a is = cc

  crash_high : (args : Args) → kind_of args ≡ 11 → moved_by args ≡ None → verb_in args ≡ None → (is_high args ≡ true)
  crash_high (args_are.Crash server) kind unmoved uncalled = refl
  crash_high (args_are.Root request first) kind unmoved uncalled = refl
  crash_high args kind unmoved uncalled = absurd (omega (arith, kind))

  one_plain : is_plain step.row.act ≡ true → OnePerRegion (args_in out.children)
  one_plain plain = subst (λ (o : StepOut). OnePerRegion (args_in o.children)) (sym step.out_is) (row_by (λ o. OnePerRegion (args_in o.children)) step.row (step_input J pid.0 step.node pick) (λ c. λ i j a b region at. absurd (none-some a at)) (act_one step.row.act plain step.row.next (step_input J pid.0 step.node pick) (sees_once J legal.0 pid.0 step.node step.node_is pick)))

  -- of what it makes at most one moves a region, and then it is a root
  pub makes_one : OnePerRegion (args_in out.children) × ((i : ℕ) (args : Args) (region : Region) → slice_get (args_in out.children) i ≡ Some args → moved_by args ≡ Some region → (is_high step.node.args ≡ true))
  makes_one = elim (part_of step.node.args) [
    | lined_part exact unmoved uncalled ↦
        let row = led_row (kind_of step.node.args) step.sheet step.valid (row_of J pid.0 step.node) (grown.led pid.0 step.node step.node_is exact step.sheet step.sheet_is runs) step.row step.row_is in
        (one_plain row.plain, λ i args region is m. lined_high step.node.args refl exact row.listed i args is)
    | crash_part kind unmoved uncalled ↦
        (one_plain (row_passes (λ row. is_plain row.act) (exact_rows 11) refl (row_of J pid.0 step.node) step.row (exact_row_is J pid.0 pick out step 11 kind _ _ refl)), λ i args region is m. crash_high step.node.args kind unmoved uncalled)
    | moves_part r m kind uncalled ↦
        let still : (i : ℕ) (args : Args) (region : Region) → slice_get (args_in out.children) i ≡ Some args → moved_by args ≡ Some region → ⊥ = (λ i args region is n. none-some region (sym (caller_facts args (sym (ap (λ o. bears_by (is_some o) (is_some (verb_in step.node.args)) (is_caller args)) m) ∙ does.bearing i args is)).0 ∙ n)) in
        ((λ i j a b region at there n k. absurd (still i a region at n)), λ i args region is n. absurd (still i args region is n))
    | calls_part verb v unmoved exact ↦
        let none = (does.calls verb v).childless in
        ((λ i j a b region at there n k. absurd (no_child i a none at)), λ i args region is n. absurd (no_child i args none is))
  ]

-- a transit that is no root is the child of a root
abbrev AreFlat : Past → Type 0
AreFlat J = (q : ℕ) (x : Node) (u : ℕ) (rest : List ℕ) (region : Region) → node_of J q ≡ Some x → x.above ≡ u ∷ rest → moved_by x.args ≡ Some region → (up : Node) × (node_of J u ≡ Some up) × (is_high up.args ≡ true)

-- of the children of one procedure at most one that goes on moves a region
abbrev AreApart : Past → Type 0
AreApart J = (p q : ℕ) (x y : Node) (u : ℕ) (one other : List ℕ) (region : Region) → node_of J p ≡ Some x → node_of J q ≡ Some y → x.above ≡ u ∷ one → y.above ≡ u ∷ other → moved_by x.args ≡ Some region → moved_by y.args ≡ Some region → is_stopped (last_answer J p) ≡ false → is_stopped (last_answer J q) ≡ false → p ≡ q

-- entries that make only roots
old_child : (entry : Entry) (J : Past) → IsLegal (entry ∷ J) → ((q : ℕ) (x : Node) → node_of (entry ∷ J) q ≡ Some x → (node_of J q ≡ Some x) ⊎ (x.above ≡ [])) → (q : ℕ) (x : Node) (u : ℕ) (rest : List ℕ) → node_of (entry ∷ J) q ≡ Some x → x.above ≡ u ∷ rest → node_of J q ≡ Some x
old_child entry J legal roots q x u rest is above = elim (roots q x is) [ inl was ↦ was | inr top ↦ absurd (nil_cons u rest (sym top ∙ above)) ]

flat_roots : (entry : Entry) (J : Past) → IsLegal (entry ∷ J) → ((q : ℕ) (x : Node) → node_of (entry ∷ J) q ≡ Some x → (node_of J q ≡ Some x) ⊎ (x.above ≡ [])) → AreFlat J → AreFlat (entry ∷ J)
flat_roots entry J legal roots flat q x u rest region is above m =
    let f = flat q x u rest region (old_child entry J legal roots q x u rest is above) above m in
    (f.0, nodes_stay entry J legal u f.0 f.1, f.2)

apart_roots : (entry : Entry) (J : Past) → IsLegal (entry ∷ J) → ((q : ℕ) (x : Node) → node_of (entry ∷ J) q ≡ Some x → (node_of J q ≡ Some x) ⊎ (x.above ≡ [])) → ((q : ℕ) → last_answer (entry ∷ J) q ≡ last_answer J q) → AreApart J → AreApart (entry ∷ J)
apart_roots entry J legal roots last apart p q x y u one other region is there above below m n goes on =
    apart p q x y u one other region (old_child entry J legal roots p x u one is above) (old_child entry J legal roots q y u other there below) above below m n (ap is_stopped (sym (last p)) ∙ goes) (ap is_stopped (sym (last q)) ∙ on)

module _ (pid : Pid) (pick : Option Server) (out : StepOut) (J : Past) (legal : IsLegal (entry_is.Step pid pick out ∷ J)) where
  flat_step : AreFlat J → AreFlat (entry_is.Step pid pick out ∷ J)
  flat_step flat q x u rest region is above m = elim (le_or_lt q (made J)) [
    | inl le ↦
        let f = flat q x u rest region (sym (node_same pid pick out J q le) ∙ is) above m in
        (f.0, nodes_stay (entry_is.Step pid pick out) J legal u f.0 f.1, f.2)
    | inr lt ↦
        let st = step pid pick out J legal in
        let c = new_child pid pick out J st.node st.node_is q lt x is in
        let own : pid.0 ≡ u = same_head pid.0 u st.node.above rest (ap (λ (n : Node). n.above) (sym c.2) ∙ above) in
        (st.node, ap (node_of (entry_is.Step pid pick out ∷ J)) (sym own) ∙ nodes_stay (entry_is.Step pid pick out) J legal pid.0 st.node st.node_is, (makes_one pid pick out J legal).1 (q - made J - 1) c.0 region c.1 (ap (λ (n : Node). moved_by n.args) (sym c.2) ∙ m))
  ]

  waited : (o : Option Answer) (x : Node) → IsWaiting o → ReadyBy J pid.0 x o → children_ended J pid.0 ≡ true
  waited None x w ready = absurd w
  waited (Some (answer_is.More n)) x w ready = absurd w
  waited (Some (answer_is.Wait n)) x w ready = ready
  waited (Some (answer_is.Await n)) x w ready = absurd w
  waited (Some (answer_is.Done told)) x w ready = absurd w
  waited (Some (answer_is.Fail c)) x w ready = absurd w
  waited (Some answer_is.Undone) x w ready = absurd w

  -- the older children of who makes a step have stopped
  none_older : (q : ℕ) (y : Node) (other : List ℕ) → node_of J q ≡ Some y → y.above ≡ pid.0 ∷ other → is_stopped (last_answer J q) ≡ false → ⊥
  none_older q y other is above goes =
      let st = step pid pick out J legal in
      let g = grown pid pick out J legal in
      true≢false (sym (child_stopped J g pid.0 (waited (last_answer J pid.0) st.node (g.waits q y is pid.0 other above goes) st.ready) q y is other above) ∙ goes)

  mixed : (p q : ℕ) (x y : Node) (u : ℕ) (one other : List ℕ) → node_of (entry_is.Step pid pick out ∷ J) p ≡ Some x → made J < p → node_of J q ≡ Some y → x.above ≡ u ∷ one → y.above ≡ u ∷ other → is_stopped (last_answer J q) ≡ false → ⊥
  mixed p q x y u one other is lt there above below goes =
      let st = step pid pick out J legal in
      let c = new_child pid pick out J st.node st.node_is p lt x is in
      none_older q y other there (below ∙ ap (λ k. k ∷ other) (sym (same_head pid.0 u st.node.above one (ap (λ (n : Node). n.above) (sym c.2) ∙ above)))) goes

  apart_step : AreApart J → AreApart (entry_is.Step pid pick out ∷ J)
  apart_step apart p q x y u one other region is there above below m n goes on = by (le_or_lt p (made J)) (le_or_lt q (made J))
    where
      by : (p ≤ made J) ⊎ (made J < p) → (q ≤ made J) ⊎ (made J < q) → p ≡ q
      by (inl le) (inl few) = apart p q x y u one other region (sym (node_same pid pick out J p le) ∙ is) (sym (node_same pid pick out J q few) ∙ there) above below m n (ran_before pid pick out J (runs pid pick out J legal) p goes) (ran_before pid pick out J (runs pid pick out J legal) q on)
      by (inl le) (inr lt) = absurd (mixed q p y x u other one there lt (sym (node_same pid pick out J p le) ∙ is) below above (ran_before pid pick out J (runs pid pick out J legal) p goes))
      by (inr lt) (inl few) = absurd (mixed p q x y u one other is lt (sym (node_same pid pick out J q few) ∙ there) above below (ran_before pid pick out J (runs pid pick out J legal) q on))
      by (inr lt) (inr more) =
          let st = step pid pick out J legal in
          let c = new_child pid pick out J st.node st.node_is p lt x is in
          let d = new_child pid pick out J st.node st.node_is q more y there in
          let same = (makes_one pid pick out J legal).0 (p - made J - 1) (q - made J - 1) c.0 d.0 region c.1 d.1 (ap (λ (k : Node). moved_by k.args) (sym c.2) ∙ m) (ap (λ (k : Node). moved_by k.args) (sym d.2) ∙ n) in
          omega (arith, same, lt, more)

made_roots : (entry : Entry) (J J' : Past) → J' ≡ entry ∷ J → IsRooted J J' → Grown J → (q : ℕ) (x : Node) → node_of J' q ≡ Some x → (node_of J q ≡ Some x) ⊎ (x.above ≡ [])
made_roots entry J J' e rooted g q x is = elim (old_or_new J J' rooted g q x is) [ inl was ↦ inl was | inr new ↦ inr (ap (λ (n : Node). n.above) new.2) ]

-- how procedures of one tree stand to each other
pub record IsKin (J : Past) : Type 0 where
  pub flat : AreFlat J
  pub apart : AreApart J

kin_roots : (entry : Entry) (J : Past) → IsLegal (entry ∷ J) → ((q : ℕ) (x : Node) → node_of (entry ∷ J) q ≡ Some x → (node_of J q ≡ Some x) ⊎ (x.above ≡ [])) → ((q : ℕ) → last_answer (entry ∷ J) q ≡ last_answer J q) → IsKin J → IsKin (entry ∷ J)
kin_roots entry J legal roots last kin = record { flat = flat_roots entry J legal roots kin.flat; apart = apart_roots entry J legal roots last kin.apart }

pub kin_all : (J : Past) → IsLegal J → IsKin J
kin_all [] legal = record { flat = λ q x u rest region is. absurd (none-some x is); apart = λ p q x y u one other region is. absurd (none-some x is) }
kin_all (entry_is.Submit nonce request ∷ J) legal = let g = grown_all J legal.0 in kin_roots (entry_is.Submit nonce request) J legal (made_roots (entry_is.Submit nonce request) J _ refl (submit_rooted nonce request J g) g) (λ q. refl) (kin_all J legal.0)
kin_all (entry_is.Step pid pick out ∷ J) legal = let k = kin_all J legal.0 in record { flat = flat_step pid pick out J legal k.flat; apart = apart_step pid pick out J legal k.apart }
kin_all (entry_is.Undo pid row out ∷ J) legal = let g = grown_all J legal.0 in kin_roots (entry_is.Undo pid row out) J legal (made_roots (entry_is.Undo pid row out) J _ refl (undo_rooted pid row out J g) g) (λ q. refl) (kin_all J legal.0)
kin_all (entry_is.Down server ∷ J) legal = let g = grown_all J legal.0 in kin_roots (entry_is.Down server) J legal (made_roots (entry_is.Down server) J _ refl (down_rooted server J g) g) (λ q. refl) (kin_all J legal.0)
kin_all (entry_is.Base part ∷ J) legal = record { flat = λ q x u rest region is. absurd (none-some x is); apart = λ p q x y u one other region is. absurd (none-some x is) }
kin_all (entry ∷ J) legal = kin_roots entry J legal (λ q x is. inl is) (λ q. refl) (kin_all J legal.0)

-- a descendant that asks for anything is a transit
asks_moves : (args : Args) → (is_high args ≡ true → ⊥) → (ask : Ask) → IsIn ask (asks args) → (region : Region) × (moved_by args ≡ Some region) × (asks args ≡ shared (resource_is.Ns region.table.ns) ∷ shared (resource_is.Table region.table) ∷ exclusive (resource_is.Region region) ∷ [])
asks_moves (args_are.Root request first) low ask among = absurd (low refl)
asks_moves (args_are.Crash server) low ask among = absurd (low refl)
asks_moves (args_are.Transit region goal to) low ask among = (region, refl, refl)
asks_moves args low ask among = absurd among

-- what two transits ask for clashes only where they move one region
abbrev asked_by : Region → List Ask
asked_by region = shared (resource_is.Ns region.table.ns) ∷ shared (resource_is.Table region.table) ∷ exclusive (resource_is.Region region) ∷ []

same_asked : (one other : Region) (a b : Ask) → IsIn a (asked_by one) → IsIn b (asked_by other) → a.resource ≡ b.resource → (a.exclusive || b.exclusive) ≡ true → one ≡ other
same_asked one other a b (inl e) (inl k) same alone = absurd (false≢true (sym (ap (λ (x : Ask). x.exclusive || b.exclusive) e ∙ ap (λ (x : Ask). false || x.exclusive) k) ∙ alone))
same_asked one other a b (inl e) (inr (inl k)) same alone = absurd (false≢true (sym (ap (λ (x : Ask). x.exclusive || b.exclusive) e ∙ ap (λ (x : Ask). false || x.exclusive) k) ∙ alone))
same_asked one other a b (inr (inl e)) (inl k) same alone = absurd (false≢true (sym (ap (λ (x : Ask). x.exclusive || b.exclusive) e ∙ ap (λ (x : Ask). false || x.exclusive) k) ∙ alone))
same_asked one other a b (inr (inl e)) (inr (inl k)) same alone = absurd (false≢true (sym (ap (λ (x : Ask). x.exclusive || b.exclusive) e ∙ ap (λ (x : Ask). false || x.exclusive) k) ∙ alone))
same_asked one other a b (inl e) (inr (inr (inl k))) same alone = let r : resource_is.Ns one.table.ns ≡ resource_is.Region other = sym (ap (λ (x : Ask). x.resource) e) ∙ same ∙ ap (λ (x : Ask). x.resource) k in cc
same_asked one other a b (inr (inl e)) (inr (inr (inl k))) same alone = let r : resource_is.Table one.table ≡ resource_is.Region other = sym (ap (λ (x : Ask). x.resource) e) ∙ same ∙ ap (λ (x : Ask). x.resource) k in cc
same_asked one other a b (inr (inr (inl e))) (inl k) same alone = let r : resource_is.Region one ≡ resource_is.Ns other.table.ns = sym (ap (λ (x : Ask). x.resource) e) ∙ same ∙ ap (λ (x : Ask). x.resource) k in cc
same_asked one other a b (inr (inr (inl e))) (inr (inl k)) same alone = let r : resource_is.Region one ≡ resource_is.Table other.table = sym (ap (λ (x : Ask). x.resource) e) ∙ same ∙ ap (λ (x : Ask). x.resource) k in cc
same_asked one other a b (inr (inr (inl e))) (inr (inr (inl k))) same alone = let r : resource_is.Region one ≡ resource_is.Region other = sym (ap (λ (x : Ask). x.resource) e) ∙ same ∙ ap (λ (x : Ask). x.resource) k in cc
same_asked one other a b (inl e) (inr (inr (inr none))) same alone = elim none [ ]
same_asked one other a b (inr (inl e)) (inr (inr (inr none))) same alone = elim none [ ]
same_asked one other a b (inr (inr (inl e))) (inr (inr (inr none))) same alone = elim none [ ]
same_asked one other a b (inr (inr (inr none))) among same alone = elim none [ ]

-- of two descendants of one root that go on, and ask for what clashes, one is the other
pub kin_clash : (J : Past) → IsLegal J → (p q : ℕ) (x y : Node) → node_of J p ≡ Some x → node_of J q ≡ Some y → x.root ≡ y.root → x.above ≢ [] → y.above ≢ [] → is_stopped (last_answer J p) ≡ false → is_stopped (last_answer J q) ≡ false → Clash (asks x.args) (asks y.args) → p ≡ q
kin_clash J legal p q x y is there root low below goes on clash = by x.above refl y.above refl
  where
    mine : (region : Region) × (moved_by x.args ≡ Some region) × (asks x.args ≡ asked_by region)
    mine = asks_moves x.args (λ high. low ((own_all J legal p x is).high high)) clash.0 clash.2

    theirs : (region : Region) × (moved_by y.args ≡ Some region) × (asks y.args ≡ asked_by region)
    theirs = asks_moves y.args (λ high. below ((own_all J legal q y there).high high)) clash.1 clash.3

    one : mine.0 ≡ theirs.0
    one = same_asked mine.0 theirs.0 clash.0 clash.1 (subst (IsIn clash.0) mine.2 clash.2) (subst (IsIn clash.1) theirs.2 clash.3) clash.4 clash.5

    -- the parent of a transit is its root
    parent : (k : ℕ) (z : Node) (u : ℕ) (rest : List ℕ) (region : Region) → node_of J k ≡ Some z → z.above ≡ u ∷ rest → moved_by z.args ≡ Some region → z.root ≡ u
    parent k z u rest region at above m =
        let f = (kin_all J legal).flat k z u rest region at above m in
        let up = (grown_all J legal).ups k z at u rest above in
        let top = (own_all J legal u f.0 f.1).high f.2 in
        let same : f.0 ≡ up.0 = same_Some f.0 up.0 (sym f.1 ∙ up.1) in
        sym up.3 ∙ (grown_all J legal).tops u up.0 up.1 (ap (λ (n : Node). n.above) (sym same) ∙ top)

    by : (above : List ℕ) → x.above ≡ above → (under : List ℕ) → y.above ≡ under → p ≡ q
    by [] e under k = absurd (low e)
    by (u ∷ rest) e [] k = absurd (below k)
    by (u ∷ rest) e (v ∷ more) k =
        let same : u ≡ v = sym (parent p x u rest mine.0 is e mine.1) ∙ root ∙ parent q y v more theirs.0 there k theirs.1 in
        (kin_all J legal).apart p q x y u rest more theirs.0 is there e (k ∙ ap (λ w. w ∷ more) (sym same)) (mine.1 ∙ ap Some one) theirs.1 goes on
