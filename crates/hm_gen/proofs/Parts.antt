-- The parts of the script as they are made, and the sorts of its commands.
use Rattle.std.proofs.Common.{◌≡◌, ℕ, zero, suc, ◌+◌, ◌/◌, List, [], ◌∷◌, ◌++◌, All, map, append_assoc, ap, sym, ◌∙◌, arith}
use Rattle.std.proofs.lemmas.List.{map-append}
use Rattle.std.proofs.lemmas.List.Elements.{All-append, All-cons, All-from_recursion, All-map}
use Rattle.std.specs.Int.{div_ceil}
use Rattle.hm_script.specs.declared.command.Command.{Command}
use Rattle.hm_script.specs.declared.command.Command.TheVariants as C
use Rattle.hm_gen.specs.Generated.{IsGenerated, generated, numbers_from, servers, create, creates, next_draw, draws, move, moves, ending}

-- one number more
pub numbers_more : (first count : ℕ) → numbers_from first (count + 1) ≡ numbers_from first count ++ (first + count) ∷ []
numbers_more first zero = ap (λ n. n ∷ []) (let e : first ≡ first + 0 = omega arith in e)
numbers_more first (suc count) =
    ap (numbers_from first) (let e : suc count + 1 ≡ suc (count + 1) = omega arith in e)
    ∙ ap (λ numbers. first ∷ numbers) (numbers_more (first + 1) count ∙ ap (λ n. numbers_from (first + 1) count ++ n ∷ []) (let e : (first + 1) + count ≡ first + suc count = omega arith in e))

-- what is made of the number after others stands after what is made of these
pub made_more : {X : Type 0} (make : ℕ → X) (before now then : List X) (first count more number : ℕ) (x : X) → now ≡ before ++ map make (numbers_from first count) → number ≡ first + count → more ≡ count + 1 → x ≡ make number → then ≡ now ++ x ∷ [] → then ≡ before ++ map make (numbers_from first more)
made_more make before now then first count more number x was at adds is put =
    put ∙ rw (was, is, at, adds) (append_assoc before (map make (numbers_from first count)) (make (first + count) ∷ [])
    ∙ ap (λ xs. before ++ xs) (sym (ap (map make) (numbers_more first count) ∙ map-append make (numbers_from first count) ((first + count) ∷ []))))

-- what is made of the next draw stands before what is made of those that are left
pub draws_more : {X : Type 0} (make : ℕ → X) (all now then : List X) (drawn next count left : ℕ) (x : X) → now ++ map make (draws drawn count) ≡ all → count ≡ suc left → next ≡ next_draw drawn → x ≡ make next → then ≡ now ++ x ∷ [] → then ++ map make (draws next left) ≡ all
draws_more make all now then drawn next count left x was more is made put =
    rw (put, made, is) (append_assoc now (make (next_draw drawn) ∷ []) (map make (draws (next_draw drawn) left))
    ∙ sym (ap (λ n. now ++ map make (draws drawn n)) more) ∙ was)

-- the script by its parts, one after the other
pub whole : (seed count : ℕ) (none up created settled moved still all : List Command) → none ≡ [] → up ≡ none ++ servers → created ≡ up ++ creates count → settled ≡ created ++ C.Settle ∷ [] → moved ≡ settled ++ moves seed count → still ≡ moved ++ C.Settle ∷ [] → all ≡ still ++ ending → all ≡ generated seed count
unfolding generated
whole seed count none up created settled moved still all none_is up_is created_is settled_is moved_is still_is all_is =
    rw (all_is, still_is, moved_is, settled_is, created_is, up_is, none_is)
    (append_assoc (((servers ++ creates count) ++ C.Settle ∷ []) ++ moves seed count) (C.Settle ∷ []) ending
    ∙ ap (λ commands. commands ++ C.Settle ∷ ending) (append_assoc (servers ++ creates count) (C.Settle ∷ []) (moves seed count)))

-- the script has commands of its own sorts
pub all_generated : (seed count : ℕ) → All IsGenerated (generated seed count)
unfolding generated
all_generated seed count =
    All-append IsGenerated ((servers ++ creates count) ++ C.Settle ∷ moves seed count) (C.Settle ∷ ending)
    (All-append IsGenerated (servers ++ creates count) (C.Settle ∷ moves seed count)
    (All-append IsGenerated servers (creates count)
    (All-from_recursion IsGenerated servers (tt, (tt, (tt, (tt, tt)))))
    (All-map IsGenerated (create count) (numbers_from 0 (div_ceil count 64)) (λ k d within. tt)))
    (All-cons IsGenerated C.Settle (moves seed count) tt
    (All-map IsGenerated (move count) (draws seed (count / 8)) (λ k d within. tt))))
    (All-from_recursion IsGenerated (C.Settle ∷ ending) (tt, (tt, (tt, (tt, (tt, (tt, tt)))))))
