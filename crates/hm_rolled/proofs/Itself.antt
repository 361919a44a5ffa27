-- A journal reads as itself.
use Rattle.std.proofs.Common.{ℕ, refl, sym, ◌∙◌, inl}
use Rattle.std.proofs.lemmas.Option.{none-some}
use Rattle.hm_model.specs.Journal.{Past}
use Rattle.hm_model.specs.Rules.{IsLegal}
use Rattle.hm_rebase.specs.Alike.{Alike, IsSame}
use Rattle.hm_rebase.proofs.Bounds.{none_below}

same_itself : (J : Past) (p : ℕ) → IsSame J J p
same_itself J p = record {
  node = refl;
  nonce = refl;
  answer = refl;
  verb = refl;
  report = refl;
  aborted = refl;
  tries = refl;
  stepped = refl;
  sheets = λ node is top. refl;
  failure = refl;
  left = refl;
}

pub alike_itself : (J : Past) → IsLegal J → Alike J J
alike_itself J legal = record {
  counts = refl;
  last = refl;
  same = λ p high. same_itself J p;
  over = λ p node le is. absurd (none-some node (sym (none_below J legal p le) ∙ is));
  roots = refl;
  sheets = refl;
  rows = λ key. refl;
  places = λ region. inl refl;
  servers = refl;
  live = λ server. refl;
  fenced = λ server. refl;
  nonces = λ nonce. refl;
  ids = λ table. refl;
  laid = λ root. refl;
}
