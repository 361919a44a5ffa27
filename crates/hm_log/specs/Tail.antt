-- A place after some of a log's frames.
use Rattle.std.specs.Prelude.{◌≡◌, ℕ, ◌+◌, ◌≤◌, List, length, take, sum_by}
use Rattle.hm_log.specs.declared.tail.Cursor.{Cursor}

-- the gate after the first frames, as many as its number, stands at its place
pub record IsCursor (frames : List (List ℕ)) (cursor : Cursor) : Type 0 where
  pub within : cursor.number ≤ length frames
  pub at : cursor.place ≡ 10 + sum_by (λ frame. length frame + 5) (take cursor.number frames)
