-- What the laws of worlds want is kept.
use Rattle.std.proofs.Common.{◌≡◌, ◌≢◌, ℕ, zero, suc, List, ◌+◌, ◌≤◌, ◌∷◌, drop, length, false, None, Option, Some, ap, refl, sym, ◌∙◌, inl, inr, arith}
use Rattle.std.specs.Option.{option_map}
use Rattle.std.proofs.lemmas.Bool.{true≢false}
use Rattle.std.proofs.lemmas.Option.{none-some}
use Rattle.hm_data.specs.declared.entry.Entry.{Entry}
use Rattle.hm_data.specs.declared.entry.Entry.TheVariants as entry_is
use Rattle.hm_hall.specs.Recording.{Recording}
use Rattle.hm_hall.specs.declared.fault.Halt.{Halt}
use Rattle.hm_hall.specs.declared.fault.Halt.TheVariants as halt_is
use Rattle.hm_model.specs.Base.{IsBegun}
use Rattle.hm_model.specs.Holding.{NoneClash}
use Rattle.hm_model.specs.Journal.{Past, back}
use Rattle.hm_model.specs.Laws.{is_part}
use Rattle.hm_model.specs.Locks.{IsIn}
use Rattle.hm_model.specs.Rules.{IsLegal}
use Rattle.hm_model.specs.Tree.{node_of}
use Rattle.hm_tied.specs.Tied.{CanGo}
use Rattle.hm_fleet.specs.Fleet.{FleetView, outside_of}
use Rattle.hm_world_model.specs.Outside.{Outside}
use Rattle.hm_world_model.specs.Safe.{IsKept, IsPlainBehind, Safe}
use Rattle.hm_world_model.specs.World as model
use Rattle.hm_world_model.specs.World.{with_tail}
use Rattle.hm_world_model.proofs.Rolling.{plain_opened, plain_pushed}
use Rattle.hm_world.specs.Scene.{halted_by, scene_with, world_of}
use Rattle.hm_world.specs.Sound.{IsSound}

-- who can go on is there
goes_there : (J : Past) (p : ℕ) → CanGo J p → node_of J p ≢ None
goes_there J p (inl (node, is, ready)) none = none-some node (sym none ∙ is)
goes_there J p (inr (node, is, undoes)) none = none-some node (sym none ∙ is)

-- what the world knows no fault of the log halted, none did
no_fault : (halt : Option Halt) → option_map halted_by halt ≢ Some model.LogFault → halt ≢ Some halt_is.LogFault
no_fault halt going fault = going (ap (option_map halted_by) fault)

-- each part of a journal with its tail that is no shorter than the journal is safe
tails_safe : (tail : Option Entry) (past : Past) (o : Outside) → Safe past o → ((entry : Entry) → tail ≡ Some entry → Safe (entry ∷ past) o) → (n : ℕ) → n + length past ≤ length (with_tail tail past) → Safe (drop n (with_tail tail past)) o
tails_safe None past o safe tailed zero le = safe
tails_safe None past o safe tailed (suc n) le = absurd (omega (arith, le))
tails_safe (Some entry) past o safe tailed zero le = tailed entry refl
tails_safe (Some entry) past o safe tailed (suc zero) le = safe
tails_safe (Some entry) past o safe tailed (suc (suc n)) le = absurd (omega (arith, le))

-- the whole is legal
pub legal_whole : (tail : Option Entry) (past : Past) (o : Outside) → Safe past o → ((entry : Entry) → tail ≡ Some entry → Safe (entry ∷ past) o) → IsLegal (with_tail tail past)
legal_whole None past o safe tailed = safe.legal
legal_whole (Some entry) past o safe tailed = let tail = tailed entry refl in tail.legal

-- and has begun, since its tail is no part of a base
begun_behind : (entry : Entry) (past : Past) → is_part entry ≡ false → IsBegun (entry ∷ past)
begun_behind (entry_is.Base part) past other = absurd (true≢false other)
begun_behind entry past other = tt

pub begun_whole : (tail : Option Entry) (past : Past) → IsBegun past → ((entry : Entry) → tail ≡ Some entry → is_part entry ≡ false) → IsBegun (with_tail tail past)
begun_whole None past begun other = begun
begun_whole (Some entry) past begun other = begun_behind entry past (other entry refl)

-- no part stands behind what is durable
plain_tailed : (tail : Option Entry) (past : Past) → ((entry : Entry) → tail ≡ Some entry → is_part entry ≡ false) → IsPlainBehind (length past) (with_tail tail past)
plain_tailed None past other = plain_opened past
plain_tailed (Some entry) past other = plain_pushed entry past (length past) (other entry refl) (plain_opened past)

pub kept_of : (kept : Recording) (claimed : List ℕ) (fleet : FleetView) (numbers : List ℕ) → IsSound kept fleet numbers → NoneClash (back kept.entries) claimed → ((p : ℕ) → IsIn p claimed → CanGo (back kept.entries) p) → IsKept (world_of (scene_with kept claimed fleet))
kept_of kept claimed fleet numbers sound apart able = record {
  within = omega arith;
  tailless = λ going. sound.safe.tailless (no_fault kept.halted going);
  wire_is = sound.sent.wire_is;
  waiting_is = sound.sent.waiting_is;
  apart = record { once = tt; among = λ p none. absurd none; there = λ p there. goes_there (back kept.entries) p (able p there); none_clash = apart };
  tails = tails_safe kept.tail (back kept.entries) (outside_of fleet) sound.safe.safe sound.safe.tailed;
  plain = plain_tailed kept.tail (back kept.entries) sound.safe.other;
  rolls = λ r is. absurd (none-some r is);
}
