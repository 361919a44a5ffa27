-- In every legal journal whose submissions name regions by ids from 1 on, procedures name ids.
use Rattle.std.proofs.Common.{◌≡◌, ℕ, ◌+◌, ◌-◌, ◌≤◌, ◌<◌, ◌^◌, true, not, nat_lt, ◌==◌, List, [], ◌∷◌, Option, Some, None, refl, sym, ap, subst, ◌∙◌, inl, inr, arith, slice_get}
use Rattle.std.specs.Option.{option_map}
use Rattle.std.proofs.lemmas.Bool.{cases_eq, cond-true, cond-false, eq-eqb, ne_eqb, lt-ltb, le-ltb, true≢false, false≢true, not-true}
use Rattle.std.proofs.lemmas.Option.{none-some, same_Some}
use Rattle.hm_names.specs.Region.{Region}
use Rattle.hm_names.specs.Server.{Server}
use Rattle.hm_names.specs.declared.nonce.Nonce.{Nonce}
use Rattle.hm_names.specs.declared.pid.Pid.{Pid}
use Rattle.hm_names.specs.declared.table.TableName.{TableName}
use Rattle.hm_data.specs.declared.act.Act.{Act}
use Rattle.hm_data.specs.declared.act.Act.TheVariants as act_is
use Rattle.hm_data.specs.declared.args.Args.{Args}
use Rattle.hm_data.specs.declared.args.Args.TheVariants as args_are
use Rattle.hm_data.specs.declared.catalog.CatKey.TheVariants as key_is
use Rattle.hm_data.specs.declared.entry.Entry.TheVariants as entry_is
use Rattle.hm_data.specs.declared.place.Place.{Place}
use Rattle.hm_data.specs.declared.request.Request.{Request}
use Rattle.hm_data.specs.declared.sheet.Row.{Row}
use Rattle.hm_data.specs.declared.step.StepOut.{StepOut}
use Rattle.hm_model.proofs.ExactRows.{all_rows, is_listed, led_row, row_passes}
use Rattle.hm_model.proofs.Grown.{ids_within}
use Rattle.hm_model.proofs.LegalSteps.{StepFacts, ready_stops}
use Rattle.hm_model.proofs.StepDoes.{exact_row_is}
use Rattle.hm_model.proofs.Trees.{grown_all, le_or_lt, new_child, node_same, step_of}
use Rattle.hm_model.specs.Answers.{last_answer, row_of}
use Rattle.hm_model.specs.Catalog.{cat, keys_of}
use Rattle.hm_model.specs.Inputs.{regions_on, step_input}
use Rattle.hm_model.specs.Journal.{Past}
use Rattle.hm_model.specs.Kinds.{kind_of, table_of_request}
use Rattle.hm_model.specs.Lists.{exact_rows}
use Rattle.hm_model.specs.Base.{PartFits}
use Rattle.hm_data.specs.declared.part.Part.{Part}
use Rattle.hm_data.specs.declared.part.Part.TheVariants as part_is
use Rattle.hm_model.specs.Laws.{are_parts}
use Rattle.hm_model.proofs.Grown.{all_parts}
use Rattle.hm_model.specs.Places.{part_placed, at_server, is_at, joined_if, place_of, placed, region_if}
use Rattle.hm_model.specs.Reads.{reads}
use Rattle.hm_model.specs.Rules.{IsLegal}
use Rattle.hm_model.specs.Tree.{Node, args_in, first_of, made, node_of, root_node, submitted}
use Rattle.hm_model.specs.Views.{first_id_of}
use Rattle.hm_model.specs.Whereabouts.{crashed_in}
use Rattle.hm_ids.proofs.DrawnAll.{DrawnIn, args_more, drawn_all, from_one}
use Rattle.hm_ids.proofs.Ids.{AreRegions, ChildrenNameIds, SeesIds, Small, all_filter, all_take, followers_name, join_one, made_names, none_of_none, opens_new, read_ids, region_named, row_names}
use Rattle.hm_ids.proofs.UndoneArgs.{undone_of}
use Rattle.hm_ids.specs.Ids.{IdsAreNamed, NoneAskForZero}
use Rattle.hm_model.specs.RegionIds.{AreNamed, NamesIds}

pub record IdsKept (J : Past) : Type 0 where
  pub args : (p : ℕ) (node : Node) → node_of J p ≡ Some node → NamesIds node.args
  pub places : AreRegions (placed J)

-- ids that were drawn are small
small_drawn : (J : Past) → IsLegal J → (t : TableName) (i : ℕ) → DrawnIn J t i → Small t i
small_drawn J legal t i at = (at.0, (let le = at.1 in let most = ids_within J legal t in omega (arith, le, most)))

-- the regions of a server
server_regions : (J : Past) → AreRegions (placed J) → (o : Option Server) → AreRegions (regions_on J o)
server_regions J all None = tt
server_regions J all (Some server) =
    all_take (λ (r : Region). 1 ≤ r.id) 64 (at_server J server) (all_filter (λ (r : Region). 1 ≤ r.id) (λ region. is_at server (place_of J region)) (placed J) all)

-- a step of a kind of exact rows doesn't open what a request drew
exact_opens : (J : Past) (p : ℕ) (pick : Option Server) (out : StepOut) (step : StepFacts J p pick out) (kind : ℕ) → kind_of step.node.args ≡ kind → (first : Row) (more : List Row) → exact_rows kind ≡ first ∷ more
    → all_rows (λ row. not (opens_new row.act)) (exact_rows kind) ≡ true → opens_new step.row.act ≡ true → ⊥
exact_opens J p pick out step kind e first more is none opens =
    true≢false (sym opens ∙ not-true (opens_new step.row.act) (row_passes (λ row. not (opens_new row.act)) (exact_rows kind) none (row_of J p step.node) step.row (exact_row_is J p pick out step kind e first more is)))

drops_no_new : (act : Act) → is_listed 21 act ≡ true → opens_new act ≡ true → ⊥
drops_no_new act_is.OpenDaughters listed opens = false≢true listed
drops_no_new act_is.OpenMerged listed opens = false≢true listed
drops_no_new act listed opens = false≢true opens

-- a step
module _ (pid : Pid) (pick : Option Server) (out : StepOut) (J : Past) (legal : IsLegal (entry_is.Step pid pick out ∷ J)) (kept : IdsKept J) where
  its : StepFacts J pid.0 pick out
  its = step_of pid pick out J (grown_all J legal.0) legal

  listed : exact_rows (kind_of its.node.args) ≡ [] → is_listed (kind_of its.node.args) its.row.act ≡ true
  listed none = (led_row (kind_of its.node.args) its.sheet its.valid (row_of J pid.0 its.node) ((grown_all J legal.0).led pid.0 its.node its.node_is none its.sheet its.sheet_is (ready_stops J pid.0 its.node (last_answer J pid.0) its.ready)) its.row its.row_is).listed

  first_by : (args : Args) → its.node.args ≡ args → NamesIds args → opens_new its.row.act ≡ true → 1 ≤ first_id_of args
  first_by (args_are.DropRegions table ids) e names opens =
      absurd (drops_no_new its.row.act (ap (λ a. is_listed (kind_of a) its.row.act) (sym e) ∙ listed (ap (λ a. exact_rows (kind_of a)) e)) opens)
  first_by (args_are.Transit region goal to) e names opens = absurd (exact_opens J pid.0 pick out its 10 (ap kind_of e) _ _ refl refl opens)
  first_by (args_are.Crash server) e names opens = absurd (exact_opens J pid.0 pick out its 11 (ap kind_of e) _ _ refl refl opens)
  first_by (args_are.AssignCall region server) e names opens = absurd (exact_opens J pid.0 pick out its 23 (ap kind_of e) _ _ refl refl opens)
  first_by (args_are.CloseCall region server) e names opens = absurd (exact_opens J pid.0 pick out its 24 (ap kind_of e) _ _ refl refl opens)
  first_by (args_are.FenceCall server) e names opens = absurd (exact_opens J pid.0 pick out its 25 (ap kind_of e) _ _ refl refl opens)
  first_by (args_are.LayoutCall root) e names opens = absurd (exact_opens J pid.0 pick out its 26 (ap kind_of e) _ _ refl refl opens)
  first_by (args_are.SweepLayout root) e names opens = absurd (exact_opens J pid.0 pick out its 27 (ap kind_of e) _ _ refl refl opens)
  first_by args e names opens = names.0.0

  own : NamesIds its.node.args
  own = kept.args pid.0 its.node its.node_is

  sees : SeesIds its.row.act (step_input J pid.0 its.node pick)
  sees = record {
    names = own;
    drawn = args_more (DrawnIn J) Small (small_drawn J legal.0) its.node.args ((drawn_all J legal.0).args pid.0 its.node its.node_is);
    first = first_by its.node.args refl own;
    rows = read_ids (reads its.node.args) (cat J) (keys_of J) (λ region some. ((drawn_all J legal.0).rows (key_is.Region region) some).0);
    on_server = server_regions J kept.places (crashed_in its.node.args);
  }

  step_children : ChildrenNameIds out.children
  step_children = subst (λ (o : StepOut). ChildrenNameIds o.children) (sym its.out_is) (row_names its.row (step_input J pid.0 its.node pick) sees)

  step_args : (p : ℕ) (node : Node) → node_of (entry_is.Step pid pick out ∷ J) p ≡ Some node → NamesIds node.args
  step_args p node is = elim (le_or_lt p (made J)) [
    | inl le ↦ kept.args p node (sym (node_same pid pick out J p le) ∙ is)
    | inr lt ↦
        let kid = new_child pid pick out J its.node its.node_is p lt node is in
        subst (λ (n : Node). NamesIds n.args) (sym kid.2) (made_names out.children step_children (p - made J - 1) kid.0 kid.1)
  ]

  joined : (o : Option Region) (place : Option Place) → ((region : Region) → o ≡ Some region → 1 ≤ region.id) → AreRegions (joined_if o place (placed J))
  joined o None each = kept.places
  joined None (Some place) each = kept.places
  joined (Some region) (Some place) each = join_one region (placed J) (each region refl) kept.places

  step_kept : IdsKept (entry_is.Step pid pick out ∷ J)
  step_kept = record {
    args = step_args;
    places = joined (region_if (node_of J pid.0)) out.place (λ region is. region_named its.node.args region own (sym (ap region_if its.node_is) ∙ is));
  }

-- an undo
module _ (pid : Pid) (row : ℕ) (out : StepOut) (J : Past) (legal : IsLegal (entry_is.Undo pid row out ∷ J)) (kept : IdsKept J) where
  undo_children : ChildrenNameIds out.followers
  undo_children =
      let u = undone_of pid row out J legal in
      subst (λ (o : StepOut). ChildrenNameIds o.followers) (sym u.out_is) (followers_name u.undo u.node.args u.root (kept.args u.latest.pid u.node u.node_is))

  undo_args : (p : ℕ) (node : Node) → node_of (entry_is.Undo pid row out ∷ J) p ≡ Some node → NamesIds node.args
  undo_args p node is = elim (le_or_lt p (made J)) [
    | inl le ↦ kept.args p node (sym (cond-false (nat_lt (made J) p) (option_map (λ args. root_node p args 1) (slice_get (args_in out.followers) (p - made J - 1))) (node_of J p) (le-ltb (made J) p le)) ∙ is)
    | inr lt ↦ by (slice_get (args_in out.followers) (p - made J - 1)) refl (sym (cond-true (nat_lt (made J) p) (option_map (λ args. root_node p args 1) (slice_get (args_in out.followers) (p - made J - 1))) (node_of J p) (lt-ltb (made J) p lt)) ∙ is)
  ]
    where
      by : (o : Option Args) → slice_get (args_in out.followers) (p - made J - 1) ≡ o → option_map (λ args. root_node p args 1) o ≡ Some node → NamesIds node.args
      by None e m = absurd (none-some node m)
      by (Some args) e m = subst (λ (n : Node). NamesIds n.args) (same_Some (root_node p args 1) node m) (made_names out.followers undo_children (p - made J - 1) args e)

-- a submission
module _ (nonce : Nonce) (request : Request) (J : Past) (legal : IsLegal J) (named : AreNamed (entry_is.Submit nonce request ∷ J)) (kept : IdsKept J) where
  first_small : (o : Option TableName) → first_of J o < 2 ^ 32
  first_small None = omega arith
  first_small (Some table) = let most = ids_within J legal table in omega (arith, most)

  submit_args : (p : ℕ) (node : Node) → node_of (entry_is.Submit nonce request ∷ J) p ≡ Some node → NamesIds node.args
  submit_args p node is = elim (cases_eq p (made J + 1)) [
    | inl same ↦
        let one : submitted J request p ≡ node = same_Some (submitted J request p) node (sym (cond-true (p == made J + 1) (Some (submitted J request p)) (node_of J p) (eq-eqb p (made J + 1) same)) ∙ is) in
        subst (λ (n : Node). NamesIds n.args) one ((from_one nonce request J (drawn_all J legal) (table_of_request request), named.0), first_small (table_of_request request))
    | inr differs ↦ kept.args p node (sym (cond-false (p == made J + 1) (Some (submitted J request p)) (node_of J p) (ne_eqb p (made J + 1) differs)) ∙ is)
  ]

-- a server that went down
down_args : (server : Server) (J : Past) → IdsKept J → (p : ℕ) (node : Node) → node_of (entry_is.Down server ∷ J) p ≡ Some node → NamesIds node.args
down_args server J kept p node is = elim (cases_eq p (made J + 1)) [
  | inl same ↦ subst (λ (n : Node). NamesIds n.args) (same_Some (root_node p (args_are.Crash server) 1) node (sym (cond-true (p == made J + 1) (Some (root_node p (args_are.Crash server) 1)) (node_of J p) (eq-eqb p (made J + 1) same)) ∙ is)) (tt, omega arith)
  | inr differs ↦ kept.args p node (sym (cond-false (p == made J + 1) (Some (root_node p (args_are.Crash server) 1)) (node_of J p) (ne_eqb p (made J + 1) differs)) ∙ is)
]

part_ids : (part : Part) (J : Past) → PartFits part J → AreRegions (placed J) → AreRegions (part_placed part (placed J))
part_ids (part_is.Region own range status parents place) J fits was = join_one own (placed J) fits.1 was
part_ids part J fits was = was

parts_placed : (J : Past) → IsLegal J → are_parts J ≡ true → AreRegions (placed J)
parts_placed [] legal is = tt
parts_placed (entry_is.Base part ∷ J) legal is = part_ids part J legal.1.0 (parts_placed J legal.0 is)
parts_placed (entry ∷ J) legal is = absurd (false≢true is)

pub ids_kept : (J : Past) → IsLegal J → AreNamed J → IdsKept J
ids_kept [] legal named = record { args = λ p node is. absurd (none-some node is); places = tt }
ids_kept (entry_is.Submit nonce request ∷ J) legal named = let k = ids_kept J legal.0 named.1 in record { args = submit_args nonce request J legal.0 named k; places = k.places }
ids_kept (entry_is.Step pid pick out ∷ J) legal named = step_kept pid pick out J legal (ids_kept J legal.0 named)
ids_kept (entry_is.Undo pid row out ∷ J) legal named = let k = ids_kept J legal.0 named in record { args = undo_args pid row out J legal k; places = k.places }
ids_kept (entry_is.Down server ∷ J) legal named = let k = ids_kept J legal.0 named in record { args = down_args server J k; places = k.places }
ids_kept (entry_is.Base part ∷ J) legal named = record { args = λ p node is. absurd (none-some node is); places = parts_placed (entry_is.Base part ∷ J) legal (all_parts (entry_is.Base part ∷ J) legal refl) }
ids_kept (entry ∷ J) legal named = let k = ids_kept J legal.0 named in record { args = k.args; places = k.places }

pub ids_named : IdsAreNamed
ids_named J legal named p node is = (ids_kept J legal named).args p node is

pub none_ask : NoneAskForZero
none_ask (entry_is.Step pid pick out) J legal named asks = false≢true (sym (none_of_none out.children (step_children pid pick out J legal (ids_kept J legal.0 named))) ∙ asks)
none_ask (entry_is.Undo pid row out) J legal named asks = false≢true (sym (none_of_none out.followers (undo_children pid row out J legal (ids_kept J legal.0 named))) ∙ asks)
none_ask entry J legal named asks = false≢true asks
