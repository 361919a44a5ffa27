-- A procedure as it is shown, and what the journal says of it.
use Rattle.std.proofs.Common.{◌≡◌, ℕ, Option, Some, None, refl, ap, sym, ◌∙◌}
use Rattle.std.specs.Option.{option_map}
use Rattle.std.proofs.lemmas.Option.{none-some, same_Some}
use Rattle.hm_data.specs.declared.record.Record.{Record}
use Rattle.hm_model.specs.Journal.{Past}
use Rattle.hm_model.specs.Records.{record_at, record_of}
use Rattle.hm_model.specs.Tree.{Node, node_of}

-- who isn't shown isn't there
pub gone_of : (J : Past) (p : ℕ) → None ≡ record_of J p → node_of J p ≡ None
gone_of J p none = by (node_of J p) refl none
  where
    by : (o : Option Node) → node_of J p ≡ o → None ≡ option_map (record_at J p) o → o ≡ None
    by None e h = refl
    by (Some x) e h = absurd (none-some (record_at J p x) h)

-- who is shown is there
pub there_of : (J : Past) (p : ℕ) (its : Record) → Some its ≡ record_of J p → (x : Node) × (node_of J p ≡ Some x) × (its ≡ record_at J p x)
there_of J p its some = by (node_of J p) refl some
  where
    by : (o : Option Node) → node_of J p ≡ o → Some its ≡ option_map (record_at J p) o → (x : Node) × (node_of J p ≡ Some x) × (its ≡ record_at J p x)
    by None e h = absurd (none-some its (sym h))
    by (Some x) e h = (x, e, same_Some its (record_at J p x) h)

-- what there is of one that is shown
pub shown_of : (J : Past) (p : ℕ) (its : Record) → Some its ≡ record_of J p → (x : Node) → node_of J p ≡ Some x → its ≡ record_at J p x
shown_of J p its some x is = let t = there_of J p its some in t.2 ∙ ap (record_at J p) (same_Some t.0 x (sym t.1 ∙ is))

-- nobody is there of one that isn't
pub nobody : (J : Past) (p : ℕ) → node_of J p ≡ None → (x : Node) → node_of J p ≡ Some x → ⊥
nobody J p none x some = none-some x (sym none ∙ some)
