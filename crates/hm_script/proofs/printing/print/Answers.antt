use Rattle.std.proofs.Common.{◌≡◌, ◌≤◌, ◌<◌, List, ℕ, length, take, subst, ap, ◌∙◌, arith}
use Rattle.std.specs.Prelude.{All}
use Rattle.std.proofs.lemmas.List.{take_all}
use Rattle.std.proofs.lemmas.List.Elements.{All-more}
use Rattle.hm_script.specs.declared.command.Command.{Command}
use Rattle.hm_script.specs.Printing.{IsFitting}
use Rattle.hm_script.specs.Script.{IsSpelled, read_to, script_text}
use Rattle.hm_script.specs.Spellings.{spelling}
use Rattle.hm_script.proofs.PrintLemmas.{script_more, script_read}
use Rattle.hm_script.proofs.printing.print.Goals as goal

abbrev Fits : ℕ → Command → Type 0
Fits most c = IsSpelled most c → IsFitting most (spelling c)

pub loop-command-preserved : goal.loop-command-preserved
loop-command-preserved c =
    let commands = c.args.commands.now in
    let i = c.loop-command.command-index in
    let within : i < length commands = omega arith in
    let command = c.command-item.result in
    record {
      written = script_more _ _ commands i command within c.command-item.is c.loop-command.invariant.written c.in_ok-put_line.ensures.written;
      fit = λ most. All-more (Fits most) commands i command within (c.loop-command.invariant.fit most) (subst (Fits most) c.command-item.is (c.in_ok-put_line.ensures.fit most));
    }

pub returns-clause-reads_back : goal.returns-clause-reads_back
returns-clause-reads_back c reader printable short =
    let commands = c.args.commands.now in
    let all : take c.loop-command.command-index commands ≡ commands = take_all c.loop-command.command-index commands (omega arith) in
    let whole : c.loop-command.out.items ≡ script_text commands = c.loop-command.invariant.written ∙ ap script_text all in
    let P : List ℕ → Type 0 = λ text. length text ≤ 1048576 in
    ap (read_to reader) whole
    ∙ script_read reader commands (subst (All (Fits reader.most_regions)) all (c.loop-command.invariant.fit reader.most_regions)) printable (subst P whole short)
