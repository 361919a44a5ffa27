-- Lines that are added one by one.
use Rattle.std.proofs.Common.{◌≡◌, ℕ, ◌+◌, ◌≤◌, List, [], ◌∷◌, ◌++◌, Option, Some, None, ap, sym, ◌∙◌, append_assoc, append-nil, length-append, subst, arith}
use Rattle.std.specs.List.{cons_option, flat_map}
use Rattle.std.proofs.lemmas.Grind.{flat_map-append}
use Rattle.hm_show.specs.Lines.{AreLines, AreLinesBut, IsMore, IsMoreIf}
use Rattle.hm_show.specs.Tables.{Line, line_text}
use Rattle.hm_show.specs.declared.lines.Lines.{Lines}

-- before the first line
pub but_all : (all : List Line) (kept : Lines) → AreLines [] kept → AreLinesBut all all kept
but_all all kept none = record {
  text = ap (λ t. t ++ flat_map line_text all) none.text;
  count = (let n = none.count in omega (arith, n));
}

-- after some lines, before the rest
pub but_rest : (done rest : List Line) (kept : Lines) → AreLines done kept → AreLinesBut rest (done ++ rest) kept
but_rest done rest kept are = record {
  text = ap (λ t. t ++ flat_map line_text rest) are.text ∙ sym (flat_map-append line_text done rest);
  count = (let n = are.count in let long = length-append done rest in omega (arith, n, long));
}

-- after the last one
pub but_none : (all : List Line) (kept : Lines) → AreLinesBut [] all kept → AreLines all kept
but_none all kept rest = record {
  text = sym (append-nil _) ∙ rest.text;
  count = (let n = rest.count in omega (arith, n));
}

-- after one line more
pub but_more : (line : Line) (rest all : List Line) (old new : Lines) → AreLinesBut (line ∷ rest) all old → IsMore line old new → AreLinesBut rest all new
but_more line rest all old new was more =
    let joined : (a b c : List ℕ) → (a ++ b) ++ c ≡ a ++ (b ++ c) = λ a b c. simp append_assoc in
    record {
      text = ap (λ t. t ++ flat_map line_text rest) more.text ∙ joined _ (line_text line) (flat_map line_text rest) ∙ was.text;
      count = (let n = was.count in let one = more.count in omega (arith, n, one));
    }

-- after one line more, if there is one
pub but_more_if : (o : Option Line) (rest all : List Line) (old new : Lines) → AreLinesBut (cons_option o rest) all old → IsMoreIf o old new → AreLinesBut rest all new
but_more_if None rest all old new was same = subst (AreLinesBut rest all) (sym same) was
but_more_if (Some line) rest all old new was more = but_more line rest all old new was more

-- they are no more than there may be
pub few_more : (o : Option Line) (old new : Lines) (rest most : ℕ) → IsMoreIf o old new → old.count + (rest + 1) ≤ most → new.count + rest ≤ most
few_more None old new rest most same few = let e = ap (λ (l : Lines). l.count) same in omega (arith, e, few)
few_more (Some line) old new rest most more few = let e = more.count in omega (arith, e, few)

pub none_few : (kept : Lines) (rest most : ℕ) → AreLines [] kept → rest ≤ most → kept.count + rest ≤ most
none_few kept rest most none le = let n = none.count in omega (arith, n, le)
