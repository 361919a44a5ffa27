-- The storage of a journal is built.
use Rattle.std.proofs.Common.{◌≡◌, ℕ, zero, suc, ◌+◌, ◌<◌, ◌≤◌, List, [], ◌∷◌, map, length, take, get_or, ◌==◌, ◌&&◌, ◌||◌, Bool, true, false, if◌then◌else◌, None, Some, refl, sym, ap, ◌∙◌, inl, inr, subst, arith}
use Rattle.std.proofs.Math.Numerals.{add-one}
use Rattle.std.proofs.Math.Path.{fun_ext}
use Rattle.std.proofs.lemmas.List.{map-append}
use Rattle.std.proofs.lemmas.List.Folds.{list_any-append, list_any_more}
use Rattle.std.proofs.lemmas.Option.{none-some, same_Some}
use Rattle.std.specs.List.{list_any}
use Rattle.std.specs.Option.{option_map}
use Rattle.hm_names.specs.Server.{Server}
use Rattle.hm_names.specs.declared.pid.Pid.{Pid}
use Rattle.hm_data.specs.declared.call.Told.{Told}
use Rattle.hm_data.specs.declared.entry.Entry.TheVariants as entry_is
use Rattle.hm_data.specs.declared.part.Part.{Part}
use Rattle.hm_data.specs.declared.part.Part.TheVariants as part_is
use Rattle.hm_data.specs.declared.record.Record.{Record}
use Rattle.hm_judge.proofs.Found.{there_of}
use Rattle.hm_model.specs.Storages.{Storage, empty_storage, fence_in, lay_in}
use Rattle.hm_model.specs.Answers.{report_of}
use Rattle.hm_model.specs.Base.{PartFits}
use Rattle.hm_model.specs.Calls.{CallsAreOwn, ReportsFit}
use Rattle.hm_model.specs.Fleet.{came_up, is_fenced, same_server, servers_of}
use Rattle.hm_model.specs.Image.{old_layouts, with_layout}
use Rattle.hm_model.specs.Journal.{Past}
use Rattle.hm_model.specs.Laws.{IsGrown}
use Rattle.hm_model.specs.Layouts.{is_laid, laid_by, laid_if, layout_called}
use Rattle.hm_model.specs.Parts.{part_laid}
use Rattle.hm_model.specs.Procedures.{offset}
use Rattle.hm_model.specs.Records.{record_at, record_of}
use Rattle.hm_model.specs.Reports.{verb_of}
use Rattle.hm_model.specs.Rules.{IsLegal}
use Rattle.hm_model.specs.Standings.{standing_of, standings_of}
use Rattle.hm_model.specs.Tree.{Node, made, pid_of}
use Rattle.hm_model.specs.Verbs.{verb_in}
use Rattle.hm_model.proofs.CameUp.{fenced_came}
use Rattle.hm_model.proofs.Grown as numbers
use Rattle.hm_model.proofs.Parted.{by_parts}
use Rattle.hm_model.proofs.Trees.{grown_all}
use Rattle.hm_model.specs.declared.standing.Standing.{Standing}
use Rattle.hm_server.specs.Actors.{IsStorage}
use Rattle.hm_world_model.specs.Layouts.{LayoutsTell, based_layout, laid_below, laid_told}
use Rattle.hm_world_model.specs.World.{shown_storage}
use Rattle.hm_world_model.proofs.Facts.{cases_server}
use Rattle.hm_world_model.proofs.Layouts.{none_if}
use Rattle.hm_world.specs.Shown.{IsFencedBut, fence_if, fenced_among, laid_among, shown_below, with_fences, with_laid}
use Rattle.hm_world.proofs.Below.{none_low}
use Rattle.hm_world.proofs.Keeps.{storage_is}

-- the rows of a journal say who is fenced
same_both : (s t : Server) → same_server s t ≡ same_server t s
same_both s t = elim (cases_server s t) [
  | inl same ↦ ap (same_server s) (sym same.1) ∙ ap (λ u. same_server u s) same.1
  | inr differs ↦ elim (cases_server t s) [ inl same ↦ absurd (differs.1 (sym same.1)) | inr other ↦ differs.0 ∙ sym other.0 ]
]

among_rows : (J : Past) (s : Server) (servers : List Server) → fenced_among (map (λ t. (t, standing_of J t)) servers) s ≡ (list_any (λ t. same_server s t) servers && is_fenced J s)
among_rows J s [] = refl
among_rows J s (t ∷ more) = elim (cases_server s t) [
  | inl same ↦ rw (same_both t s, same.0) (ap (λ u. is_fenced J u || fenced_among (map (λ t. (t, standing_of J t)) more) s) (sym same.1) ∙ ap (λ b. is_fenced J s || b) (among_rows J s more) ∙ absorbed (is_fenced J s) (list_any (λ t. same_server s t) more))
  | inr differs ↦ rw (same_both t s, differs.0) (among_rows J s more)
]
  where
    absorbed : (b c : Bool) → (b || (c && b)) ≡ b
    absorbed true c = refl
    absorbed false true = refl
    absorbed false false = refl

rows_tell : (J : Past) → IsLegal J → (s : Server) → fenced_among (standings_of J) s ≡ is_fenced J s
rows_tell J legal s = among_rows J s (servers_of J) ∙ by (came_up J s) (is_fenced J s) (fenced_came J legal s)
  where
    by : (came is : Bool) → (is ≡ true → came ≡ true) → (came && is) ≡ is
    by true is so = refl
    by false true so = so refl
    by false false so = refl

pub fences_first : (J : Past) → IsLegal J → (storage : Storage) → IsStorage empty_storage storage → IsFencedBut J (standings_of J) storage
fences_first J legal storage empty = subst (IsFencedBut J (standings_of J)) (storage_is empty_storage storage empty) (refl, λ s. or_false (fenced_among (standings_of J) s) ∙ rows_tell J legal s)
  where
    or_false : (b : Bool) → (b || false) ≡ b
    or_false true = refl
    or_false false = refl

pub fences_next : (J : Past) (server : Server) (standing : Standing) (rest : List (Server × Standing)) (old new : Storage) → IsFencedBut J ((server, standing) ∷ rest) old → new ≡ fence_if standing.fenced server old → IsFencedBut J rest new
fences_next J server standing rest old new before is = subst (IsFencedBut J rest) (sym is) (by standing.fenced before.1)
  where
    off : (a b : Bool) → ((a && false) || b) ≡ b
    off true b = refl
    off false b = refl

    moved : (a b c : Bool) → (b || (a || c)) ≡ (((a && true) || b) || c)
    moved true true c = refl
    moved true false c = refl
    moved false b c = refl

    by : (on : Bool) → ((s : Server) → (((same_server server s && on) || fenced_among rest s) || old.fenced s) ≡ is_fenced J s) → IsFencedBut J rest (fence_if on server old)
    by false each = (before.0, λ s. ap (λ b. b || old.fenced s) (sym (off (same_server server s) (fenced_among rest s))) ∙ each s)
    by true each = (ap (fence_in server) before.0, λ s. moved (same_server server s) (fenced_among rest s) (old.fenced s) ∙ each s)

-- then there are all fences
pub fences_last : (J : Past) (storage : Storage) → IsFencedBut J [] storage → storage ≡ with_laid J (λ root. false)
fences_last J storage all = all.0 ∙ ap with_fences (fun_ext all.1)

-- one layout of the base more
pub layout_more : (J : Past) (roots : List Pid) (n : ℕ) (d : Pid) (old new : Storage) → n < length roots → old ≡ with_laid J (laid_among (take n roots)) → IsStorage (lay_in (get_or roots n d) true old) new → new ≡ with_laid J (laid_among (take (n + 1) roots))
layout_more J roots n d old new less is laid =
    sym (storage_is (lay_in root true old) new laid) ∙ ap (lay_in root true) is ∙ ap (with_laid J) (fun_ext says)
  where
    root : Pid
    root = get_or roots n d

    by : (a b : Bool) → (if b then true else a) ≡ (a || b)
    by true true = refl
    by true false = refl
    by false true = refl
    by false false = refl

    says : (other : Pid) → (if root.0 == other.0 then true else laid_among (take n roots) other) ≡ laid_among (take (n + 1) roots) other
    says other = by (laid_among (take n roots) other) (root.0 == other.0) ∙ sym (list_any_more (λ (own : Pid). own.0 == other.0) roots n d less)

-- before a part of a base stands nothing else
part_based : (part : Part) (J : Past) → PartFits part J → (root : ℕ) → is_laid J root ≡ based_layout J root
part_based = by_parts (λ J. (root : ℕ) → is_laid J root ≡ based_layout J root) (λ root. refl) (λ own older root. refl)

-- the layout of a part, beside those of the parts before it
part_told : (part : Part) (roots : List ℕ) (root : Pid) → laid_among (map pid_of (with_layout part roots)) root ≡ part_laid part root.0 (laid_among (map pid_of roots) root)
part_told (part_is.Layout pid) roots root =
    ap (λ (l : List Pid). laid_among l root) (map-append pid_of roots (pid.0 ∷ []))
    ∙ list_any-append (λ (own : Pid). own.0 == root.0) (map pid_of roots) (pid_of pid.0 ∷ []) ∙ by (laid_among (map pid_of roots) root) (pid.0 == root.0)
  where
    by : (a b : Bool) → (a || (b || false)) ≡ (if b then true else a)
    by true true = refl
    by true false = refl
    by false true = refl
    by false false = refl
part_told part roots root = refl

-- the base has the layouts that its parts tell
based_told : (J : Past) → IsLegal J → (root : Pid) → laid_among (map pid_of (old_layouts J)) root ≡ based_layout J root.0
based_told [] legal root = refl
based_told (entry_is.Base part ∷ J) legal root = part_told part (old_layouts J) root ∙ ap (part_laid part root.0) (based_told J legal.0 root ∙ sym (part_based part J legal.1.0 root.0))
based_told (entry ∷ J) legal root = based_told J legal.0 root

pub layouts_last : (J : Past) → IsLegal J → (storage : Storage) → storage ≡ with_laid J (laid_among (map pid_of (old_layouts J))) → storage ≡ shown_below J 0
layouts_last J legal storage is = is ∙ ap (with_laid J) (fun_ext (based_told J legal))

-- the report of one more procedure says nothing of a layout
pub layout_kept : (J : Past) (n : ℕ) (storage : Storage) → ((root : ℕ) (b : Bool) → laid_if (layout_called (verb_of J n)) (laid_told (report_of J n)) root b ≡ b) → storage ≡ shown_below J n → storage ≡ shown_below J (n + 1)
layout_kept J n storage quiet is =
    is ∙ ap (with_laid J) (fun_ext (λ (root : Pid). sym (quiet root.0 (laid_below J n root.0))))
    ∙ ap (shown_below J) (sym (add-one n))

pub untold : (J : Past) (n : ℕ) → report_of J n ≡ None → (root : ℕ) (b : Bool) → laid_if (layout_called (verb_of J n)) (laid_told (report_of J n)) root b ≡ b
untold J n none root b = ap (λ o. laid_if (layout_called (verb_of J n)) (laid_told o) root b) none ∙ none_if (layout_called (verb_of J n)) root b

-- no procedure up to the last of a base has one
low_shown : (J : Past) → IsLegal J → (n : ℕ) → n ≤ offset J + 1 → (root : ℕ) → laid_below J n root ≡ based_layout J root
low_shown J legal zero le root = refl
low_shown J legal (suc n) le root =
    untold J n (by_made.unreported n (none_low J legal n (omega (arith, le)))) root (laid_below J n root) ∙ low_shown J legal n (omega (arith, le)) root
  where
    by_made : IsGrown J
    by_made = numbers.grown_all J legal

pub shown_first : (J : Past) → IsLegal J → (n : ℕ) (storage : Storage) → n ≡ offset J + 1 → storage ≡ shown_below J 0 → storage ≡ shown_below J n
shown_first J legal n storage first is = is ∙ ap (with_laid J) (fun_ext (λ (root : Pid). sym (low_shown J legal n (omega (arith, first)) root.0)))

-- a procedure that has a report called for what it works on
pub told_as : (J : Past) → IsLegal J → (n : ℕ) (told : Told) (its : Record) → Some told ≡ report_of J n → Some its ≡ record_of J n → (root : ℕ) (b : Bool)
    → laid_if (layout_called (verb_of J n)) (laid_told (report_of J n)) root b ≡ laid_if (layout_called (verb_in its.args)) (laid_by told) root b
told_as J legal n told its is found root b =
    let grown = grown_all J legal in
    let fits = grown.fits n told (sym is) in
    let node = grown.verbs n fits.0 fits.1 in
    let there = there_of J n its found in
    let args : its.args ≡ node.0.args = ap (λ (r : Record). r.args) there.2 ∙ ap (λ (x : Node). x.args) (same_Some there.0 node.0 (sym there.1 ∙ node.1)) in
    ap (λ o. laid_if (layout_called (verb_of J n)) (laid_told o) root b) (sym is) ∙ ap (λ v. laid_if (layout_called v) (laid_by told) root b) (fits.1 ∙ sym node.2 ∙ ap verb_in (sym args))

-- a procedure that has a report is shown
pub told_there : (J : Past) → IsLegal J → CallsAreOwn → ReportsFit → (n : ℕ) (told : Told) → Some told ≡ report_of J n → None ≡ record_of J n → ⊥
told_there J legal own fit n told is none =
    let fits = fit J legal n told (sym is) in
    let node = own J legal n fits.0 fits.1 in
    none-some (record_at J n node.0) (none ∙ ap (option_map (record_at J n)) node.1)

-- or it says that one is there, or gone
pub layout_shown : (J : Past) (n : ℕ) (old new : Storage) (root : Pid) (there : Bool) → ((other : ℕ) (b : Bool) → laid_if (layout_called (verb_of J n)) (laid_told (report_of J n)) other b ≡ (if root.0 == other then there else b))
    → old ≡ shown_below J n → IsStorage (lay_in root there old) new → new ≡ shown_below J (n + 1)
layout_shown J n old new root there says is laid =
    sym (storage_is (lay_in root there old) new laid) ∙ ap (lay_in root there) is
    ∙ ap (with_laid J) (fun_ext (λ (other : Pid). sym (says other.0 (laid_below J n other.0))))
    ∙ ap (shown_below J) (sym (add-one n))

pub shown_all : (J : Past) → IsLegal J → LayoutsTell → (n : ℕ) (storage : Storage) → n ≡ made J + 1 → storage ≡ shown_below J n → storage ≡ shown_storage J
shown_all J legal tell n storage all is =
    is ∙ ap (shown_below J) all ∙ ap (with_laid J) (fun_ext (λ (root : Pid). tell J legal root.0))
