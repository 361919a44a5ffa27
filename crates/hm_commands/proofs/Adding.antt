-- A command adds entries of its own alone.
use Rattle.std.proofs.Common.{◌≡◌, List, [], ◌∷◌, ◌++◌, Option, Some, None, refl, sym, ap, ◌∙◌, subst, inl, inr, append-nil, append_assoc}
use Rattle.std.specs.Prelude.{MatchOption}
use Rattle.std.proofs.lemmas.Option.{none-some}
use Rattle.std.proofs.lemmas.List.Elements.{All-append}
use Rattle.hm_data.specs.declared.entry.Entry.{Entry}
use Rattle.hm_hall.specs.declared.fault.Halt.{Halt}
use Rattle.hm_hall.specs.declared.fault.Halt.TheVariants as halt_is
use Rattle.hm_journal.specs.Since.{with_tail}
use Rattle.hm_script.specs.declared.command.Command.{Command}
use Rattle.hm_world.specs.Scene.{Scene}
use Rattle.hm_commands.specs.Additions.{AddsItsOwn, CommandsAddTheirOwn, IsTailless}
use Rattle.hm_commands.specs.Commands.{ComesAt, MayAdd}
use Rattle.hm_commands.specs.Scenes.{halt_at, journal_at, kept_at, whole}
use Rattle.hm_commands.specs.declared.answer.Answer.TheVariants as answer_is
use Rattle.hm_commands.proofs.Failing.{Fails, at_fails}
use Rattle.hm_commands.proofs.Growth.{Grows, all_none, all_one, comes_grows}

module _ (command : Command) (old new : Scene) where
  -- nothing was done
  adds_none : new ≡ old → IsTailless old → AddsItsOwn command old new × IsTailless new
  adds_none same tailless = (
    record {
      recorded = [];
      failed = None;
      each = all_none (MayAdd command);
      grown = ap journal_at same ∙ sym (append-nil (journal_at old));
      whole_grown = ap whole same ∙ sym (append-nil (whole old));
    },
    subst IsTailless (sym same) tailless,
  )

  -- entries were recorded, and perhaps one more failed
  adds_some : Grows (MayAdd command) (kept_at old) (kept_at new) → (kept_at old).tail ≡ None → Fails (MayAdd command) (kept_at old) (kept_at new) → AddsItsOwn command old new × IsTailless new
  adds_some grows none (inl same) =
      let kept : whole new ≡ journal_at new = ap (with_tail (journal_at new)) (same ∙ none) in
      let was : whole old ≡ journal_at old = ap (with_tail (journal_at old)) none in (
        record {
          recorded = grows.added;
          failed = None;
          each = grows.each;
          grown = grows.grown;
          whole_grown = kept ∙ grows.grown ∙ ap (λ l. l ++ grows.added) (sym was);
        },
        λ going. same ∙ none,
      )
  adds_some grows none (inr (entry, may, tail, halted)) =
      let more : List Entry = grows.added ++ entry ∷ [] in
      let kept : whole new ≡ journal_at new ++ entry ∷ [] = ap (with_tail (journal_at new)) tail in
      let was : whole old ≡ journal_at old = ap (with_tail (journal_at old)) none in
      let longer : journal_at new ++ entry ∷ [] ≡ journal_at old ++ more = ap (λ l. l ++ entry ∷ []) grows.grown ∙ append_assoc (journal_at old) grows.added (entry ∷ []) in (
        record {
          recorded = grows.added;
          failed = Some entry;
          each = All-append (MayAdd command) grows.added (entry ∷ []) grows.each (all_one (MayAdd command) entry may);
          grown = grows.grown;
          whole_grown = kept ∙ longer ∙ ap (λ l. l ++ more) (sym was);
        },
        λ going. absurd (none-some halt_is.LogFault (sym going ∙ halted)),
      )

pub commands_add : CommandsAddTheirOwn
commands_add command old answer new comes tailless = by (halt_at old) refl comes
  where
    by : (halted : Option Halt) → halt_at old ≡ halted → MatchOption halted (ComesAt command old answer new) (λ why. (answer ≡ Some (answer_is.Halted why)) × (new ≡ old)) → AddsItsOwn command old new × IsTailless new
    by None going c = adds_some command old new (comes_grows old new command answer comes) (tailless going) (at_fails old new going command answer c)
    by (Some why) halted c = adds_none command old new c.1 tailless
