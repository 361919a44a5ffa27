-- What holds of the tables of the catalog of now that nobody asks for alone.
use Rattle.hm_model.specs.Base.{HasNoHalfBase}
use Rattle.std.proofs.Common.{◌≡◌, ℕ, ◌<◌, false, arith, inl, inr}
use Rattle.std.proofs.lemmas.Bool.{cases_Bool}
use Rattle.hm_names.specs.declared.table.TableName.{TableName}
use Rattle.hm_data.specs.declared.catalog.CatKey.TheVariants as key_is
use Rattle.hm_model.specs.Catalog.{cat}
use Rattle.hm_model.specs.Journal.{Past}
use Rattle.hm_model.specs.Ranges.{IsBare, IsCovered}
use Rattle.hm_model.specs.Reads.{IsBusy, covers}
use Rattle.hm_model.specs.Rules.{IsLegal}
use Rattle.hm_model.specs.Tree.{Node}
use Rattle.hm_model.proofs.Tops.{holds_open, TopHolds}
use Rattle.hm_cover.proofs.CatWhole.{cat_whole}
use Rattle.hm_cover.proofs.Whole.{Whole, bare_at, covered}
use Rattle.hm_cover.specs.Theorem.{LiveRegionsCover, MissingTablesAreBare}

-- a table that isn't busy is whole
pub free_whole : (n : ℕ) → 4096 < n → (J : Past) → IsLegal J → HasNoHalfBase J → (t : TableName) → (IsBusy J (key_is.Table t) → ⊥) → Whole n (cat J) t
free_whole n big J legal begun t free = cat_whole n big J legal begun t free_root
  where
    free_root : (r : ℕ) (node : Node) → TopHolds J r node → covers node.args (key_is.Table t) ≡ false
    free_root r node h = elim (cases_Bool (covers node.args (key_is.Table t))) [
      | inl on ↦ absurd (free (r, node, h.0.0, (h.1, holds_open J r node h), on))
      | inr off ↦ off
    ]

pub live_cover : LiveRegionsCover
live_cover J legal begun table free some = at 4097 (omega arith)
  where
    at : (n : ℕ) → 4096 < n → IsCovered (cat J) table
    at n big = covered n (cat J) table (free_whole n big J legal begun table free) some

pub missing_bare : MissingTablesAreBare
missing_bare J legal begun table free none = at 4097 (omega arith)
  where
    at : (n : ℕ) → 4096 < n → IsBare (cat J) table
    at n big = bare_at n (cat J) table (free_whole n big J legal begun table free) none
