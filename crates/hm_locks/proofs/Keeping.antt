-- A lock book stays kept when an entry takes, gives back, leaves or comes.
use Rattle.std.proofs.Common.{◌≡◌, ◌≢◌, ℕ, ◌+◌, ◌-◌, ◌<◌, ◌≤◌, ◌^◌, true, false, List, [], ◌∷◌, ◌++◌, length, set, cond, Option, Some, None, Result, slice_get, refl, sym, ap, ◌∙◌, subst, inl, inr, ◌⊎◌, arith, length-append}
use Rattle.std.proofs.lemmas.Bool.{cases_eq, cases_lt, false≢true}
use Rattle.std.proofs.lemmas.Option.{same_Some, none-some}
use Rattle.std.specs.Ordering.{is_eq, nat_cmp}
use Rattle.std.specs.Prelude.{◌↔◌, OnErr, OnOk, replicate}
use Rattle.hm_index.specs.Index.{find}
use Rattle.hm_lists.specs.Chains.{IsIn, list_at}
use Rattle.hm_model.specs.declared.lock.Ask.{Ask}
use Rattle.hm_model.specs.declared.lock.Resource.{Resource}
use Rattle.hm_locks.specs.declared.entry.Entry.{Entry}
use Rattle.hm_locks.specs.declared.entry.Want.{Want}
use Rattle.hm_locks.specs.declared.key.Key.{Key}
use Rattle.hm_locks.specs.Book.{row_of}
use Rattle.hm_locks.specs.Entries.{with_holds}
use Rattle.hm_locks.specs.Kept.{desk_of, entry_at, lane, rows_in, HaveNodes, HoldsNode, IsAmong, IsKept, IsWanted, Sits, SitsBy, WantsList}
use Rattle.hm_locks.proofs.Found.{found_nothing, which, found_set, which_push, found_push}
use Rattle.hm_locks.proofs.Room.{wider}
use Rattle.hm_locks.proofs.Places.{entry_within, get_left, get_right, get_within, got}

-- the want that sits
pub sitting : (es : List (Option Entry)) (wants : List Want) (l n : ℕ) → Sits es wants l n
    → (w : Want) × (slice_get wants n ≡ Some w) × (lane w.desk w.exclusive ≡ l) × ((e : Entry) × (entry_at es w.place ≡ Some e) × HoldsNode (Some e) n)
sitting es wants l n sits = by (slice_get wants n) refl sits
  where
    at : (w : Want) (o : Option Entry) → entry_at es w.place ≡ o → HoldsNode o n → (e : Entry) × (entry_at es w.place ≡ Some e) × HoldsNode (Some e) n
    at w None is holds = absurd holds
    at w (Some e) is holds = (e, is, holds)

    by : (o : Option Want) → slice_get wants n ≡ o → SitsBy es l n o → (w : Want) × (slice_get wants n ≡ Some w) × (lane w.desk w.exclusive ≡ l) × ((e : Entry) × (entry_at es w.place ≡ Some e) × HoldsNode (Some e) n)
    by None is s = absurd s
    by (Some w) is s = (w, is, s.0, at w (entry_at es w.place) refl s.1)

pub sits_of : (es : List (Option Entry)) (wants : List Want) (l n : ℕ) (w : Want) (e : Entry) → slice_get wants n ≡ Some w → lane w.desk w.exclusive ≡ l → entry_at es w.place ≡ Some e → HoldsNode (Some e) n → Sits es wants l n
sits_of es wants l n w e is lane_is at holds = subst (SitsBy es l n) (sym is) (lane_is, subst (λ o. HoldsNode o n) (sym at) holds)

-- the want of an ask
pub wanted : (numbers : List (Key × ℕ)) (i : ℕ) (a : Ask) (o : Option Want) → IsWanted numbers i a o
    → (w : Want) × (o ≡ Some w) × (w.place ≡ i) × (w.exclusive ≡ a.exclusive) × (desk_of numbers a.resource ≡ Some w.desk)
wanted numbers i a None is = absurd is
wanted numbers i a (Some w) is = (w, refl, is.0, is.1, is.2)

module _ (places : List (ℕ × ℕ)) (es : List (Option Entry)) (wants : List Want) (numbers : List (Key × ℕ)) (lists : List (List ℕ)) (spare : ℕ)
    (kept : IsKept places es wants numbers lists spare) where
  -- the node of an ask is of its entry
  pub own_node : (i : ℕ) (e : Entry) (n : ℕ) → entry_at es i ≡ Some e → e.first ≤ n → n < e.first + length e.asked → (w : Want) × (slice_get wants n ≡ Some w) × (w.place ≡ i)
  own_node i e n is low high =
      let k = n - e.first in
      let here : e.first + (n - e.first) ≡ n = omega (arith, low) in
      let a = got e.asked (n - e.first) (omega (arith, low, high)) in
      let w = wanted numbers i a.0 (slice_get wants (e.first + (n - e.first))) (kept.asks i e (n - e.first) a.0 is a.1) in
      (w.0, ap (slice_get wants) (sym here) ∙ w.1, w.2)

  module _ (p i : ℕ) (e : Entry) (at : find nat_cmp places p ≡ Some i) (is : entry_at es i ≡ Some e) where
    -- the nodes of one that doesn't hold are in no list
    pub out : e.holds ≡ false → (n : ℕ) → e.first ≤ n → n < e.first + length e.asked → (l : ℕ) → IsIn n (list_at lists l) → ⊥
    out free n low high l here =
        let s = sitting es wants l n (kept.listed l n here) in
        let w = own_node i e n is low high in
        let same : w.0 ≡ s.0 = same_Some w.0 s.0 (sym w.1 ∙ s.1) in
        let place : s.0.place ≡ i = ap (λ (x : Want). x.place) (sym same) ∙ w.2 in
        let mine : e ≡ s.3.0 = same_Some e s.3.0 (sym is ∙ ap (entry_at es) (sym place) ∙ s.3.1) in
        false≢true (sym free ∙ ap (λ (x : Entry). x.holds) mine ∙ s.3.2.0)

    -- those of one that holds are in the lists of what they want
    pub held : e.holds ≡ true → (n : ℕ) → e.first ≤ n → n < e.first + length e.asked → (l : ℕ) × IsIn n (list_at lists l)
    held holds n low high =
        let w = own_node i e n is low high in
        (lane w.0.desk w.0.exclusive, kept.sits (lane w.0.desk w.0.exclusive) n (sits_of es wants (lane w.0.desk w.0.exclusive) n w.0 e w.1 refl (ap (entry_at es) w.2 ∙ is) (holds, low, high)))

    -- an entry that changes and keeps its asks has its nodes
    module _ (o : Option Entry) (same : (d : Entry) → o ≡ Some d → (d.pid ≡ e.pid) × (d.first ≡ e.first) × (d.asked ≡ e.asked)) where
      pids : (d : Entry) → o ≡ Some d → d.pid ≡ e.pid
      pids d f = (same d f).0

      now : (j : ℕ) → ((i ≡ j) × (entry_at (set es i o) j ≡ o)) ⊎ ((i ≢ j) × (entry_at (set es i o) j ≡ entry_at es j))
      now = which places es kept.index p i e at is o pids

      nodes_set : HaveNodes (set es i o) wants numbers
      nodes_set j d k a here ask = elim (now j) [
        | inl new ↦
            let s = same d (sym new.1 ∙ here) in
            subst (λ n. IsWanted numbers j a (slice_get wants (n + k))) (sym s.1)
            (subst (λ m. IsWanted numbers m a (slice_get wants (e.first + k))) new.0 (kept.asks i e k a is (ap (λ xs. slice_get xs k) (sym s.2) ∙ ask)))
        | inr old ↦ kept.asks j d k a (sym old.1 ∙ here) ask
      ]

      -- the lists after a change
      pub kept_set : (lists' : List (List ℕ)) → length lists' ≡ length lists
          → ((l n : ℕ) → IsIn n (list_at lists' l) → Sits (set es i o) wants l n) → ((l n : ℕ) → Sits (set es i o) wants l n → IsIn n (list_at lists' l))
          → IsKept places (set es i o) wants numbers lists' spare
      kept_set lists' count listed sits = record {
        index = found_set places es kept.index p i e at is o pids;
        asks = nodes_set;
        ranges = λ j d here. elim (now j) [
          | inl new ↦
              let s = same d (sym new.1 ∙ here) in
              subst (λ n. n + length d.asked ≤ length wants) (sym s.1) (subst (λ n. e.first + n ≤ length wants) (sym (ap length s.2)) (kept.ranges i e is))
          | inr old ↦ kept.ranges j d (sym old.1 ∙ here)
        ];
        lanes = λ n w f. (let lt = (kept.lanes n w f).0 in (omega (arith, lt, count), (kept.lanes n w f).1));
        nodes = kept.nodes;
        small = kept.small;
        listed = listed;
        sits = sits;
      }

      -- what sits elsewhere is as it was
      sits_elsewhere : (l n : ℕ) (w : Want) (d : Entry) → slice_get wants n ≡ Some w → lane w.desk w.exclusive ≡ l → i ≢ w.place → entry_at es w.place ≡ Some d → HoldsNode (Some d) n → Sits (set es i o) wants l n
      sits_elsewhere l n w d f lane_is differs there holds = elim (now w.place) [
        | inl here ↦ absurd (differs here.0)
        | inr old ↦ sits_of (set es i o) wants l n w d f lane_is (old.1 ∙ there) holds
      ]

      was_elsewhere : (l n : ℕ) (w : Want) (d : Entry) → slice_get wants n ≡ Some w → lane w.desk w.exclusive ≡ l → i ≢ w.place → entry_at (set es i o) w.place ≡ Some d → HoldsNode (Some d) n → Sits es wants l n
      was_elsewhere l n w d f lane_is differs there holds = elim (now w.place) [
        | inl here ↦ absurd (differs here.0)
        | inr old ↦ sits_of es wants l n w d f lane_is (sym old.1 ∙ there) holds
      ]

      at_new : (w : Want) (d : Entry) → i ≡ w.place → entry_at (set es i o) w.place ≡ Some d → o ≡ Some d
      at_new w d here there = elim (now w.place) [ inl new ↦ sym new.1 ∙ there | inr old ↦ absurd (old.0 here) ]

      at_here : (w : Want) → i ≡ w.place → entry_at (set es i o) w.place ≡ o
      at_here w here = elim (now w.place) [ inl new ↦ new.1 | inr old ↦ absurd (old.0 here) ]

    -- it takes
    pub kept_take : e.holds ≡ false → (lists' : List (List ℕ)) → length lists' ≡ length lists
        → ((l n : ℕ) → IsIn n (list_at lists' l) ↔ (IsIn n (list_at lists l) ⊎ IsAmong wants e.first (length e.asked) l n))
        → IsKept places (set es i (Some (with_holds true e))) wants numbers lists' spare
    kept_take free lists' count each =
        let same : (d : Entry) → Some (with_holds true e) ≡ Some d → (d.pid ≡ e.pid) × (d.first ≡ e.first) × (d.asked ≡ e.asked) = λ d f. (
        let s : with_holds true e ≡ d = same_Some (with_holds true e) d f in
        (ap (λ (x : Entry). x.pid) (sym s), ap (λ (x : Entry). x.first) (sym s), ap (λ (x : Entry). x.asked) (sym s))) in
        let o : Option Entry = Some (with_holds true e) in
        kept_set o same lists' count
        (λ l n here. elim ((each l n).0 here) [
          | inl was ↦
              let s = sitting es wants l n (kept.listed l n was) in
              sits_elsewhere o same l n s.0 s.3.0 s.1 s.2 (λ place. false≢true (sym free ∙ ap (λ (x : Entry). x.holds) (same_Some e s.3.0 (sym is ∙ ap (entry_at es) place ∙ s.3.1)) ∙ s.3.2.0)) s.3.1 s.3.2
          | inr among ↦
              let w = own_node i e n is among.0 among.1 in
              sits_of (set es i o) wants l n w.0 (with_holds true e) w.1 (subst (WantsList l) w.1 among.2) (at_here o same w.0 (sym w.2)) (refl, among.0, among.1)
        ])
        (λ l n sits.
        let s = sitting (set es i o) wants l n sits in
        (each l n).1 (elim (cases_eq i s.0.place) [
          | inl here ↦
              let d = same_Some (with_holds true e) s.3.0 (at_new o same s.0 s.3.0 here s.3.1) in
              let holds : HoldsNode (Some (with_holds true e)) n = subst (λ x. HoldsNode (Some x) n) (sym d) s.3.2 in
              inr (holds.1, holds.2, subst (WantsList l) (sym s.1) s.2)
          | inr there ↦ inl (kept.sits l n (was_elsewhere o same l n s.0 s.3.0 s.1 s.2 there s.3.1 s.3.2))
        ]))

    -- it gives back what it holds
    pub kept_give : e.holds ≡ true → (lists' : List (List ℕ)) → length lists' ≡ length lists
        → ((l n : ℕ) → IsIn n (list_at lists' l) ↔ (IsIn n (list_at lists l) × ((n < e.first) ⊎ (e.first + length e.asked ≤ n))))
        → IsKept places (set es i (Some (with_holds false e))) wants numbers lists' spare
    kept_give holds lists' count each =
        let same : (d : Entry) → Some (with_holds false e) ≡ Some d → (d.pid ≡ e.pid) × (d.first ≡ e.first) × (d.asked ≡ e.asked) = λ d f. (
        let s : with_holds false e ≡ d = same_Some (with_holds false e) d f in
        (ap (λ (x : Entry). x.pid) (sym s), ap (λ (x : Entry). x.first) (sym s), ap (λ (x : Entry). x.asked) (sym s))) in
        let o : Option Entry = Some (with_holds false e) in
        kept_set o same lists' count
        (λ l n here.
        let was = (each l n).0 here in
        let s = sitting es wants l n (kept.listed l n was.0) in
        sits_elsewhere o same l n s.0 s.3.0 s.1 s.2
        (λ place.
        let mine : e ≡ s.3.0 = same_Some e s.3.0 (sym is ∙ ap (entry_at es) place ∙ s.3.1) in
        let inside : HoldsNode (Some e) n = subst (λ x. HoldsNode (Some x) n) (sym mine) s.3.2 in
        elim was.1 [ inl low ↦ (let ge = inside.1 in absurd (omega (arith, low, ge))) | inr high ↦ (let lt = inside.2 in absurd (omega (arith, high, lt))) ])
        s.3.1 s.3.2)
        (λ l n sits.
        let s = sitting (set es i o) wants l n sits in
        elim (cases_eq i s.0.place) [
          | inl here ↦
              let d = same_Some (with_holds false e) s.3.0 (at_new o same s.0 s.3.0 here s.3.1) in
              absurd (false≢true (ap (λ (x : Entry). x.holds) d ∙ s.3.2.0))
          | inr there ↦ (each l n).1 (
            kept.sits l n (was_elsewhere o same l n s.0 s.3.0 s.1 s.2 there s.3.1 s.3.2),
            elim (cases_lt n e.first) [
              | inl low ↦ inl low
              | inr ge ↦ elim (cases_lt n (e.first + length e.asked)) [
                | inl lt ↦
                    let w = own_node i e n is ge lt in
                    absurd (there (sym w.2 ∙ ap (λ (x : Want). x.place) (same_Some w.0 s.0 (sym w.1 ∙ s.1))))
                | inr high ↦ inr high
              ]
            ],
          )
        ])

    -- it leaves
    pub kept_leave : e.holds ≡ false → IsKept places (set es i None) wants numbers lists spare
    kept_leave free =
        let same : (d : Entry) → None ≡ Some d → (d.pid ≡ e.pid) × (d.first ≡ e.first) × (d.asked ≡ e.asked) = λ d f. absurd (none-some d f) in
        kept_set None same lists refl
        (λ l n here.
        let s = sitting es wants l n (kept.listed l n here) in
        sits_elsewhere None same l n s.0 s.3.0 s.1 s.2 (λ place. false≢true (sym free ∙ ap (λ (x : Entry). x.holds) (same_Some e s.3.0 (sym is ∙ ap (entry_at es) place ∙ s.3.1)) ∙ s.3.2.0)) s.3.1 s.3.2)
        (λ l n sits.
        let s = sitting (set es i None) wants l n sits in
        elim (cases_eq i s.0.place) [
          | inl here ↦ absurd (none-some s.3.0 (at_new None same s.0 s.3.0 here s.3.1))
          | inr there ↦ kept.sits l n (was_elsewhere None same l n s.0 s.3.0 s.1 s.2 there s.3.1 s.3.2)
        ])

  -- numbers that were kept, lists that are as they were, and room
  pub kept_room : (numbers' : List (Key × ℕ)) (lists' : List (List ℕ)) (spare' : ℕ)
      → ((a : Resource) (d : ℕ) → desk_of numbers a ≡ Some d → desk_of numbers' a ≡ Some d)
      → ((l : ℕ) → list_at lists' l ≡ list_at lists l) → length lists ≤ length lists' → spare ≤ spare'
      → IsKept places es wants numbers' lists' spare'
  kept_room numbers' lists' spare' still same longer wider = record {
    index = kept.index;
    asks = λ i e k a is ask.
        (let w = wanted numbers i a (slice_get wants (e.first + k)) (kept.asks i e k a is ask) in
        subst (IsWanted numbers' i a) (sym w.1) (w.2, w.3, still a.resource w.0.desk w.4));
    ranges = kept.ranges;
    lanes = λ n w f. (let lt = (kept.lanes n w f).0 in (omega (arith, lt, longer), (kept.lanes n w f).1));
    nodes = (let le = kept.nodes in omega (arith, le, wider));
    small = kept.small;
    listed = λ l n here. kept.listed l n (subst (IsIn n) (same l) here);
    sits = λ l n sits. subst (IsIn n) (sym (same l)) (kept.sits l n sits);
  }

  -- more lists after the others, and more nodes
  pub kept_wider : {T E : Type 0} (r : Result T E) (old new : List (List ℕ)) (n spare' : ℕ) → old ≡ lists → OnOk r (new ≡ old ++ replicate n []) → OnErr r (new ≡ old) → spare ≤ spare' → IsKept places es wants numbers new spare'
  kept_wider r old new n spare' is ok err wide =
      let more = wider r old new n ok err in
      let long = ap length is in
      let longer = more.1 in
      kept_room numbers new spare' (λ a d e. e) (λ l. more.0 l ∙ ap (λ ls. list_at ls l) is) (omega (arith, long, longer)) wide

  -- an entry more, with its wants
  pub kept_push : (places' : List (ℕ × ℕ)) (e : Entry) (more : List Want) → row_of (rows_in es) e.pid ≡ None
      → ((q : ℕ) → find nat_cmp places' q ≡ cond (is_eq (nat_cmp e.pid q)) (Some (length es)) (find nat_cmp places q))
      → e.holds ≡ false → e.first ≡ length wants → length more ≡ length e.asked
      → ((k : ℕ) (a : Ask) → slice_get e.asked k ≡ Some a → IsWanted numbers (length es) a (slice_get more k))
      → ((a : Resource) (d : ℕ) → desk_of numbers a ≡ Some d → (d + d + 1 < length lists) × (d + d + 1 < 2 ^ 32))
      → length wants + length more ≤ spare → length wants + length more < 2 ^ 32
      → IsKept places' (es ++ Some e ∷ []) (wants ++ more) numbers lists spare
  kept_push places' e more fresh each free first count asked lanes nodes small =
      let es' : List (Option Entry) = es ++ Some e ∷ [] in
      let all : List Want = wants ++ more in
      let long : length (wants ++ more) ≡ length wants + length more = length-append wants more in
      record {
        index = found_push places places' es kept.index e fresh each;
        asks = λ i d k a here ask. elim (pushed i) [
          | inl last ↦
              let d_is : e ≡ d = same_Some e d (sym last.1 ∙ here) in
              let ask' : slice_get e.asked k ≡ Some a = ap (λ (x : Entry). slice_get x.asked k) d_is ∙ ask in
              subst (λ (x : Entry). IsWanted numbers i a (slice_get (wants ++ more) (x.first + k))) d_is
              (subst (λ n. IsWanted numbers i a (slice_get (wants ++ more) (n + k))) (sym first)
              (subst (IsWanted numbers i a) (sym (get_right wants more k))
              (subst (λ n. IsWanted numbers n a (slice_get more k)) last.0 (asked k a ask'))))
          | inr old ↦
              let w = wanted numbers i a (slice_get wants (d.first + k)) (kept.asks i d k a (sym old.1 ∙ here) ask) in
              subst (IsWanted numbers i a) (sym (get_left wants more (d.first + k) (get_within wants (d.first + k) w.0 w.1) ∙ w.1)) (w.2, w.3, w.4)
        ];
        ranges = λ i d here. elim (pushed i) [
          | inl last ↦
              let d_is : e ≡ d = same_Some e d (sym last.1 ∙ here) in
              subst (λ (x : Entry). x.first + length x.asked ≤ length (wants ++ more)) d_is (omega (arith, first, long, count))
          | inr old ↦ (let le = kept.ranges i d (sym old.1 ∙ here) in omega (arith, le, long))
        ];
        lanes = λ n w f. elim (split n w f) [
          | inl old ↦ kept.lanes n w old
          | inr new ↦ lanes new.1.0.resource w.desk new.1.1.2
        ];
        nodes = omega (arith, long, nodes);
        small = omega (arith, long, small);
        listed = λ l n here.
            (let s = sitting es wants l n (kept.listed l n here) in
            let lt = entry_within es s.0.place s.3.0 s.3.1 in
            sits_of (es ++ Some e ∷ []) (wants ++ more) l n s.0 s.3.0 (get_left wants more n (get_within wants n s.0 s.1) ∙ s.1) s.2
            (elim (pushed s.0.place) [ inl last ↦ absurd (let at = last.0 in omega (arith, at, lt)) | inr old ↦ old.1 ∙ s.3.1 ]) s.3.2);
        sits = λ l n sits.
            (let s = sitting (es ++ Some e ∷ []) (wants ++ more) l n sits in
            elim (pushed s.0.place) [
              | inl last ↦ absurd (false≢true (sym free ∙ ap (λ (x : Entry). x.holds) (same_Some e s.3.0 (sym last.1 ∙ s.3.1)) ∙ s.3.2.0))
              | inr old ↦ elim (split n s.0 s.1) [
                | inl was ↦ kept.sits l n (sits_of es wants l n s.0 s.3.0 was s.2 (sym old.1 ∙ s.3.1) s.3.2)
                | inr new ↦ absurd (old.0 (sym new.1.1.0))
              ]
            ]);
      }
    where
      pushed : (j : ℕ) → ((length es ≡ j) × (entry_at (es ++ Some e ∷ []) j ≡ Some e)) ⊎ ((length es ≢ j) × (entry_at (es ++ Some e ∷ []) j ≡ entry_at es j))
      pushed = which_push places places' es kept.index e fresh each

      -- a want was there, or is one of the new
      split : (n : ℕ) (w : Want) → slice_get (wants ++ more) n ≡ Some w
          → (slice_get wants n ≡ Some w) ⊎ ((length wants ≤ n) × ((a : Ask) × ((w.place ≡ length es) × (w.exclusive ≡ a.exclusive) × (desk_of numbers a.resource ≡ Some w.desk))))
      split n w f = elim (cases_lt n (length wants)) [
        | inl lt ↦ inl (sym (get_left wants more n lt) ∙ f)
        | inr ge ↦
            let k = n - length wants in
            let here : length wants + (n - length wants) ≡ n = omega (arith, ge) in
            let there : slice_get more (n - length wants) ≡ Some w = sym (get_right wants more (n - length wants)) ∙ ap (slice_get (wants ++ more)) here ∙ f in
            let lt = get_within more (n - length wants) w there in
            let a = got e.asked (n - length wants) (omega (arith, lt, count)) in
            inr (ge, (a.0, subst (IsWanted numbers (length es) a.0) there (asked (n - length wants) a.0 a.1)))
      ]

-- nothing is kept
pub kept_nothing : (numbers : List (Key × ℕ)) (lists : List (List ℕ)) (spare : ℕ) → ((l : ℕ) → list_at lists l ≡ []) → IsKept [] [] [] numbers lists spare
kept_nothing numbers lists spare none = record {
  index = found_nothing;
  asks = λ i e k a is ask. absurd (none-some e is);
  ranges = λ i e is. absurd (none-some e is);
  lanes = λ n w f. absurd (none-some w f);
  nodes = omega arith;
  small = omega arith;
  listed = λ l n here. absurd (subst (IsIn n) (none l) here);
  sits = λ l n sits. absurd sits;
}
