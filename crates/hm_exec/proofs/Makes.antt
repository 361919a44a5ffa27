-- An entry that is no part of a base, and makes procedures which are enlisted.
use Rattle.std.proofs.Common.{◌≡◌, List, false, Option, ap, sym, subst, ◌∙◌}
use Rattle.hm_names.specs.declared.pid.Pid.{Pid}
use Rattle.hm_data.specs.declared.args.Args.{Args}
use Rattle.hm_data.specs.declared.entry.Entry.{Entry}
use Rattle.hm_model.specs.Journal.{Past}
use Rattle.hm_model.specs.Laws.{is_part}
use Rattle.hm_model.specs.Rules.{Allowed}
use Rattle.hm_procedures.specs.Kept.{args_made}
use Rattle.hm_roster.specs.Desk.{Makes, parent_made}

-- what such an entry makes that may follow
pub makes : (J kept past : Past) (entry : Entry) (works : List Args) (parent : Option Pid) → kept ≡ J → past ≡ J → Allowed J entry → is_part entry ≡ false → works ≡ args_made past entry → parent_made entry ≡ parent → Makes kept entry works parent
makes J kept past entry works parent same was allowed other made above = record {
  allowed = subst (λ (K : Past). Allowed K entry) (sym same) allowed;
  no_part = other;
  args = ap (λ (K : Past). args_made K entry) (same ∙ sym was) ∙ sym made;
  above = above;
}
