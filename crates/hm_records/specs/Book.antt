-- How the lock book stands to the journal, and what an entry changes there.
use Rattle.std.specs.Prelude.{◌≡◌, ◌↔◌, ◌≢◌, ℕ, ◌-◌, ◌^◌, List, [], ◌∷◌, length, map, Option, Some, None, Bool, true, false, ◌==◌, ◌&&◌, nat_lt, if◌then◌else◌, is_some, slice_get}
use Rattle.std.specs.List.{flat_map}
use Rattle.std.specs.Option.{option_map}
use Rattle.hm_names.specs.declared.pid.Pid.{Pid}
use Rattle.hm_data.specs.declared.args.Args.{Args}
use Rattle.hm_data.specs.declared.args.Args.TheVariants as args_are
use Rattle.hm_data.specs.declared.entry.Entry.{Entry}
use Rattle.hm_data.specs.declared.entry.Entry.TheVariants as entry_is
use Rattle.hm_locks.specs.Book.{DraftView, IsEnlisted, Row, above_in, drafted, holding, row_of}
use Rattle.hm_model.specs.declared.lock.Ask.{Ask}
use Rattle.hm_model.specs.Answers.{last_answer}
use Rattle.hm_model.specs.Journal.{Past}
use Rattle.hm_model.specs.Locks.{asks}
use Rattle.hm_model.specs.Phase.{ended}
use Rattle.hm_model.specs.Tree.{Node, made, node_of}
use Rattle.hm_procedures.specs.Kept.{args_made}

-- the row of a procedure, by whether it has ended and whether it has a step
abbrev pub book_row : Bool → Bool → ℕ → Option Node → Option Row
book_row ended stepped p None = None
book_row true stepped p (Some node) = None
book_row false stepped p (Some node) = Some (record { pid = p; above = node.above; asks = asks node.args; holds = stepped })

-- the row of a procedure: it is there until the procedure ends, and holds from its first step on
abbrev pub row_at : Past → ℕ → Option Row
row_at past p = book_row (ended past p) (is_some (last_answer past p)) p (node_of past p)

-- the rows are those of the procedures
abbrev pub AreRows : Past → List Row → Type 0
AreRows past rows = (p : ℕ) → row_of rows p ≡ row_at past p

-- those are enlisted that are there and haven't ended
abbrev pub ListOpen : Past → List Row → Type 0
ListOpen past rows = (p : ℕ) → IsEnlisted rows p ↔ ((node_of past p ≢ None) × (ended past p ≡ false))

-- the procedure whose step an entry is: the parent of all that the entry makes, which are roots where there is none
abbrev pub stepper_of : Entry → Option Pid
stepper_of (entry_is.Step pid pick out) = Some pid
stepper_of entry = None

-- a root's first region id is one that can be drawn
abbrev pub has_first : Args → Bool
has_first (args_are.Root request first) = nat_lt 0 first && nat_lt first (2 ^ 32)
has_first args = true

-- what a procedure asks for; nothing where its first region id can't be drawn
abbrev pub asked : Args → List Ask
asked args = if has_first args then asks args else []

-- the ancestors of what a procedure makes by a step; none of roots
abbrev pub above_made : Past → Option Pid → List ℕ
above_made before None = []
above_made before (Some pid) = pid.0 ∷ above_in (row_at before pid.0)

-- what will be enlisted of a procedure with these ancestors
abbrev pub draft_of : List ℕ → Args → DraftView
draft_of above args = record { above = above; asks = asked args }

-- those of what an entry makes that are procedures, to be enlisted: the roots of a base aren't
abbrev pub enlisted : Entry → List Args → List Args
enlisted (entry_is.Base part) made = []
enlisted entry made = made

-- what will be enlisted of the procedures that an entry makes, in order
abbrev pub drafts_of : Past → Entry → List DraftView
drafts_of before entry = map (draft_of (above_made before (stepper_of entry))) (enlisted entry (args_made before entry))

-- for how much drafts ask in all
abbrev pub asks_in : List DraftView → ℕ
asks_in drafts = length (flat_map (λ (draft : DraftView). draft.asks) drafts)

-- for how much the procedures ask that an entry makes, which are as many whatever was before it
abbrev pub asks_of : Entry → ℕ
asks_of entry = asks_in (drafts_of [] entry)

-- the row of a draft where one of them is that of the procedure, the first that of the one after a last
abbrev pub or_drafted : ℕ → List DraftView → ℕ → Option Row → Option Row
or_drafted last drafts p row = if nat_lt last p then option_map (drafted p) (slice_get drafts (p - last - 1)) else row

-- the row of a procedure, which holds from its step on
abbrev pub or_taken : Option Pid → ℕ → Option Row → Option Row
or_taken None p row = row
or_taken (Some pid) p row = if pid.0 == p then option_map (holding true) row else row

-- no row of who has ended
abbrev pub unless_ended : Bool → Option Row → Option Row
unless_ended true row = None
unless_ended false row = row

-- the rows with those of the procedures that an entry makes, and the procedure of its step holds
abbrev pub AreRowsWith : Past → Entry → List Row → Type 0
AreRowsWith before entry rows =
    (p : ℕ) → row_of rows p ≡ or_drafted (made before) (drafts_of before entry) p (or_taken (stepper_of entry) p (row_at before p))
