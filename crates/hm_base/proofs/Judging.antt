-- How many parts were read.
use Rattle.std.proofs.Common.{◌≡◌, ℕ, ◌+◌, ◌-◌, List, [], ◌∷◌, slice_get, Some, ap, sym, ◌∙◌, subst, arith}
use Rattle.hm_data.specs.declared.entry.Entry.TheVariants as entry_is
use Rattle.hm_data.specs.declared.part.Part.{Part}
use Rattle.hm_data.specs.declared.part.Part.TheVariants as part_is
use Rattle.hm_data.specs.declared.sheet.Sheet.{Sheet}
use Rattle.hm_names.specs.declared.pid.Pid.{Pid}
use Rattle.hm_base.specs.Live.{AreLiveBy}
use Rattle.hm_model.specs.Base.{announced}
use Rattle.hm_base.specs.Read.{AreRead, IsReadOn, IsReadTo, past_of}
use Rattle.hm_base.specs.declared.reader.Reader.{Reader}
use Rattle.hm_base.proofs.Reading.{based_more}

-- the first part was read
pub read_one : (parts : List Part) (first : Part) (reader : Reader) → slice_get parts 0 ≡ Some first → past_of reader ≡ entry_is.Base first ∷ [] → IsReadTo first reader → AreRead parts 1 reader
read_one parts first reader here is to = record { last = first; at = here; past = is ∙ sym (based_more parts 0 first here); to = to }

module _ (parts : List Part) (n : ℕ) (reader : Reader) (was : AreRead parts n reader) where
  -- one part more was read
  pub read_more : (part : Part) (new : Reader) → slice_get parts n ≡ Some part → IsReadOn part reader new → AreRead parts (n + 1) new
  read_more part new here on = record {
    last = part;
    at = ap (slice_get parts) same ∙ here;
    past = on.past ∙ ap (λ J. entry_is.Base part ∷ J) was.past ∙ sym (based_more parts n part here);
    to = on.to;
  }
    where
      same : n + 1 - 1 ≡ n
      same = omega arith

-- a head was read
pub head_read : (first : Part) (reader : Reader) (entries : ℕ) (last : Pid) (parts : ℕ) (sheets : List Sheet) → first ≡ part_is.Head entries last parts sheets → past_of reader ≡ entry_is.Base first ∷ [] → reader.follow ≡ parts → IsReadTo first reader
head_read first reader entries last parts sheets is past follow = record {
  older = [];
  past = past;
  live = subst (λ p. AreLiveBy (entry_is.Base p ∷ []) p (let ranges = reader.ranges in ranges.ranges)) (sym is) tt;
  announces = ap (λ p. announced (entry_is.Base p ∷ [])) is ∙ ap (λ n. n + 1) (sym follow);
}
