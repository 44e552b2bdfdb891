-- Some processor can go on. Take the first entry whose orders some processor has not obeyed whole. Where its next order is a
-- take, the task was taken by all earlier entries that take it, and by no later one, since the takes were obeyed in the order
-- of their numbers; and where it was not released as often, the processor that it was linked to before the entry can release it.
use Rattle.std.proofs.Common.{◌≡◌, ◌≢◌, ℕ, zero, suc, ◌+◌, ◌-◌, ◌<◌, ◌≤◌, Bool, not, ◌&&◌, ◌==◌, List, [], ◌∷◌, ◌++◌, length, length-append}
use Rattle.std.proofs.Common.{append_assoc, append-nil, take, Option, Some, None, refl, sym, ap, ◌∙◌, subst, inl, inr, ◌⊎◌, arith, eq-eqb}
use Rattle.std.proofs.Common.{ne_eqb}
use Rattle.std.specs.Prelude.{slice_get, count_by}
use Rattle.std.specs.List.{range_with_len}
use Rattle.std.proofs.lemmas.Bool.{cases_Bool, cases_eq, cases_lt}
use Rattle.std.proofs.lemmas.List.Sums.{length-filter}
use Rattle.std.proofs.Math.Seq.{take-length}
use Rattle.std.proofs.lemmas.Option.{same_Some, slice_get_within}
use Rattle.task_set.specs.declared.order.Order.{Order}
use Rattle.task_set.specs.declared.order.Order.TheVariants.{Release, Take, Run, Stop}
use Rattle.strong_apa.specs.declared.reply.Entry.{Entry}
use Rattle.strong_apa.specs.State.{State, IsState, start_of, task_on, is_task}
use Rattle.strong_apa.specs.History.{IsLegalFrom, effect_of}
use Rattle.strong_apa.specs.Dispatch.{taken_between, release_of, orders_of, closed_orders_of}
use Rattle.strong_apa.proofs.Histories.{entry_orders}
use Rattle.strong_apa.proofs.Least.{Decided}
use Rattle.strong_apa.proofs.Linked.{is_task-same, is_task-true}
use Rattle.strong_apa.proofs.SameTasks.{same_tasks-effect}
use Rattle.strong_apa.proofs.Start.{IsState-start}
use Rattle.strong_apa.proofs.Steps.{step_keeps_state}
use Rattle.strong_apa.proofs.FirstFound.{both_decided, exists_below}
use Rattle.history_laws.proofs.CarriedAlong.{is_task-other}
use Rattle.history_laws.proofs.OrderLists.{close_orders, closed_orders_of-split}
use Rattle.history_laws.proofs.Starts.{nobody_ready}
use Rattle.scheduling_laws.specs.Going.{takes_task, releases_task, steps_of, obeyed, obeyed_count, times_taken, times_released, CanBeObeyed}
use Rattle.scheduling_laws.specs.Going.{IsRun, NeverStops, CanBeEnded, OrdersCanGoOnFrom, OrdersCanGoOn, OrdersCanBeEndedFrom}
use Rattle.scheduling_laws.specs.Going.{OrdersCanBeEnded, HasOrders, CanGoOn}
use Rattle.scheduling_laws.proofs.GoingEntries.{IsFree, IsEnding, no_orders, none_ends, close_ends, event_takes, event_releases, IsTakeOf}
use Rattle.scheduling_laws.proofs.GoingEntries.{take_in_event, release_in_event, all_orders, all_orders_are, all_obeyable}
use Rattle.scheduling_laws.proofs.GoingEntries.{take_number_least, releases_bounded}
use Rattle.scheduling_laws.proofs.GoingSums.{one_if, sum_below, range_sum, sum-add, sum-le, sum-zero, sum-at, sum-more, slice_get-left}
use Rattle.scheduling_laws.proofs.GoingSums.{slice_get-right, slice_get-is, count-cons, count_take-append, count_take-more}

-- how many of the first orders of each processor pass the test, in all
abbrev total : (Order → Bool) → ℕ → (ℕ → List Order) → (ℕ → ℕ) → ℕ
total test m orders n = sum_below (λ q. count_by test (take (n q) (orders q))) m

-- on how many processors t is linked
abbrev places : State → ℕ → ℕ → ℕ
places s m t = sum_below (λ q. one_if (is_task t (task_on s q))) m

-- some processor can obey its next order
record GoesOn (m : ℕ) (taken released : ℕ → ℕ) (orders : ℕ → List Order) (n : ℕ → ℕ) : Type 0 where
  processor : ℕ
  inside : processor < m
  next : Order
  is_next : slice_get (orders processor) (n processor) ≡ Some next
  can : CanBeObeyed taken released next

-- ---- an order that is no take can be obeyed at any time
free_can : (taken released : ℕ → ℕ) (order : Order) → IsFree order → CanBeObeyed taken released order
free_can taken released (Take t k) free = absurd free
free_can taken released (Release t) free = tt
free_can taken released (Run units) free = tt
free_can taken released Stop free = tt

take_or_free : (order : Order) → ((t : ℕ) × (k : ℕ) × (order ≡ Take t k)) ⊎ IsFree order
take_or_free (Take t k) = inl (t, k, refl)
take_or_free (Release t) = inr tt
take_or_free (Run units) = inr tt
take_or_free Stop = inr tt

below_decided : (x y : ℕ) → Decided (x < y)
below_decided x y = elim (cases_lt x y) [ inl lt ↦ inl lt | inr ge ↦ inr (λ lt. omega arith) ]

not_below : (x y : ℕ) → (x < y → ⊥) → y ≤ x
not_below x y fails = elim (cases_lt x y) [ inl lt ↦ absurd (fails lt) | inr ge ↦ ge ]

occupant_decided : (o : Option ℕ) (t : ℕ) → Decided (o ≡ Some t)
occupant_decided None t = inr (λ e. cc)
occupant_decided (Some u) t = elim (cases_eq u t) [
  | inl e ↦ inl (ap (λ (x : ℕ). Some x) e)
  | inr ne ↦ inr (λ e. ne (same_Some u t e))
]

-- ---- what the takes of an entry are in all
taken_sum : (s new : State) (t : ℕ) → length (taken_between s new t)
    ≡ sum_below (λ q. one_if (is_task t (task_on new q) && not (is_task t (task_on s q)))) s.processors
taken_sum s new t =
    length-filter (λ (q : ℕ). is_task t (task_on new q) && not (is_task t (task_on s q))) (range_with_len 0 s.processors)
    ∙ range_sum (λ (q : ℕ). one_if (is_task t (task_on new q) && not (is_task t (task_on s q)))) s.processors

-- whoever comes to a processor is taken
taken_at : (s new : State) (t q : ℕ) → q < s.processors → task_on new q ≡ Some t → task_on s q ≢ Some t → 1 ≤ length (taken_between s new t)
taken_at s new t q inside comes was =
    let all = taken_sum s new t in
    let one = sum-at (λ p. one_if (is_task t (task_on new p) && not (is_task t (task_on s p)))) s.processors q inside in
    let here : one_if (is_task t (task_on new q) && not (is_task t (task_on s q)))
    ≡ 1 = rw (comes, is_task-same t, is_task-other t (task_on s q) was) refl in
    omega arith

module _ (ending : Option ℕ → List Order) (ends : IsEnding ending) (m : ℕ) (taken released : ℕ → ℕ) where
  -- the takes were obeyed in the order of their numbers, from `first` on
  abbrev InTurn : (ℕ → ℕ) → (ℕ → List Order) → (ℕ → ℕ) → Type 0
  InTurn first orders n =
      (t k : ℕ) → first t ≤ k → k < taken t → (q i : ℕ) × (q < m) × (i < n q) × (slice_get (orders q) i ≡ Some (Take t k))

  -- what the processors obeyed of the orders of a history and its close, before which each task was taken so many times
  record Obeyed (s : State) (takes : ℕ → ℕ) (history : List Entry) (n : ℕ → ℕ) : Type 0 where
    times_taken : (t : ℕ) → taken t ≡ takes t + total (takes_task t) m (all_orders ending s takes history) n
    times_released : (t : ℕ) → released t + places s m t ≡ takes t + total (releases_task t) m (all_orders ending s takes history) n
    in_turn : InTurn takes (all_orders ending s takes history) n

  module _ (s : State) (takes : ℕ → ℕ) (first : Entry) (rest : List Entry) (all : s.processors ≡ m) (ok : IsState s)
      (legal : IsLegalFrom s (first ∷ rest)) (n : ℕ → ℕ) (obeyed_so : Obeyed s takes (first ∷ rest) n) where
    abbrev next : State
    next = effect_of s first

    abbrev takes' : ℕ → ℕ
    takes' t = takes t + length (taken_between s next t)

    abbrev here : ℕ → List Order
    here q = entry_orders s takes first q

    abbrev later : ℕ → List Order
    later q = all_orders ending next takes' rest q

    abbrev whole : ℕ → List Order
    whole q = all_orders ending s takes (first ∷ rest) q

    ok' : IsState next
    ok' = step_keeps_state s first.event first.reply next ok legal.0

    -- ---- the entry whose orders q has not obeyed whole
    module _ (q : ℕ) (inside : q < m) (short : n q < length (here q)) (b k : ℕ) (is_next : slice_get (here q) (n q) ≡ Some (Take b k)) where
      it : IsTakeOf takes (task_on s q) (task_on next q) (n q) b k
      it = take_in_event takes first.event (task_on s q) (task_on next q) (n q) b k is_next

      -- no take of b from this entry on was obeyed
      none_taken : taken b ≡ takes b
      none_taken = elim (cases_lt (takes b) (taken b)) [
        | inr few ↦ (let count = obeyed_so.times_taken b in omega arith)
        | inl more ↦ absurd (
            let found = obeyed_so.in_turn b (takes b) (omega arith) more in
            let p = found.0 in
            let i = found.1 in
            elim (cases_lt i (length (here p))) [
              | inl early ↦ (
                  let that = take_in_event takes first.event (task_on s p) (task_on next p) i b (takes b)
                  (sym (slice_get-left (here p) (later p) i early) ∙ found.4) in
                  let same : p ≡ q = ok'.once p q b that.comes it.comes in
                  let place = that.position in
                  let place' = it.position in
                  let before = found.3 in
                  let e = ap (λ (x : ℕ). length (release_of (task_on s x))) same in
                  let e' = ap n same in
                  omega arith)
              | inr late ↦ (
                  let le = take_number_least ending ends next takes' rest p _ b (takes b)
                  (sym (slice_get-right (here p) (later p) i late) ∙ found.4) in
                  let one = taken_at s next b q (let e = all in omega arith) it.comes it.was in
                  omega arith)
            ])
      ]

      -- b is linked to a processor that has obeyed no order of the entry, or was released as often as it was taken
      at_take : GoesOn m taken released whole n
      at_take = elim (exists_below (λ p. (task_on s p ≡ Some b) × (n p ≡ 0))
          (λ p. both_decided (task_on s p ≡ Some b) (n p ≡ 0) (occupant_decided (task_on s p) b) (cases_eq (n p) 0)) m) [
            | inl found ↦ (
                let p = found.0 in
                let there = found.2.0 in
                let leaves : task_on next p ≢ Some b = λ stays. it.was (ap (task_on s) (sym (ok'.once p q b stays it.comes)) ∙ there) in
                let release = release_in_event takes first.event (task_on s p) (task_on next p) b there leaves in
                record {
                  processor = p;
                  inside = found.1;
                  next = Release b;
                  is_next = ap (slice_get (whole p)) found.2.1 ∙ first_of (here p) (later p) (Release b) release;
                  can = tt;
                })
            | inr none ↦ record {
              processor = q;
              inside = inside;
              next = Take b k;
              is_next = slice_get-left (here q) (later q) (n q) short ∙ is_next;
              can = (
                none_taken ∙ sym it.number,
                (
                    let fewer = sum-le (λ p. one_if (is_task b (task_on s p))) (λ p. count_by (releases_task b) (take (n p) (whole p))) m
                    (λ p lt. released_there none p lt) in
                    let count = obeyed_so.times_taken b in
                    let count' = obeyed_so.times_released b in
                    let is = none_taken in
                    let number = it.number in
                    let both = sum-add (λ p. count_by (takes_task b) (take (n p) (whole p)) + one_if (is_task b (task_on s p)))
                    (λ p. count_by (takes_task b) (take (n p) (whole p))) (λ p. one_if (is_task b (task_on s p))) m (λ p lt. refl) in
                    let more = sum-le (λ p. count_by (releases_task b) (take (n p) (whole p)))
                    (λ p. count_by (takes_task b) (take (n p) (whole p)) + one_if (is_task b (task_on s p))) m
                    (λ p lt. releases_bounded b (task_on s p) (whole p) (n p) (all_obeyable ending ends s takes (first ∷ rest) p legal)) in
                    omega arith),
              );
            }
          ]
        where
          first_of : (xs ys : List Order) (x : Order) → slice_get xs 0 ≡ Some x → slice_get (xs ++ ys) 0 ≡ Some x
          first_of [] ys x e = absurd (cc)
          first_of (y ∷ xs) ys x e = e

          counted : (xs : List Order) (k : ℕ) → slice_get xs 0 ≡ Some (Release b) → 1 ≤ k → 1 ≤ count_by (releases_task b) (take k xs)
          counted [] k e some = absurd (cc)
          counted (x ∷ xs) zero e some = absurd (omega arith)
          counted (x ∷ xs) (suc k) e some =
              let same : x ≡ Release b = cc in
              let count = count-cons (releases_task b) x (take k xs) in
              let one : one_if (releases_task b x) ≡ 1 = rw (same, eq-eqb b b refl) refl in
              omega arith

          -- where b is linked, it was released
          released_there : ((p : ℕ) × (p < m) × ((task_on s p ≡ Some b) × (n p ≡ 0)) → ⊥) → (p : ℕ) → p < m
              → one_if (is_task b (task_on s p)) ≤ count_by (releases_task b) (take (n p) (whole p))
          released_there none p lt = elim (cases_Bool (is_task b (task_on s p))) [
            | inr elsewhere ↦ rw elsewhere (omega arith)
            | inl linked ↦ (
                let there : task_on s p ≡ Some b = is_task-true b (task_on s p) linked in
                let leaves : task_on next p ≢ Some b = λ stays. it.was (ap (task_on s) (sym (ok'.once p q b stays it.comes)) ∙ there) in
                let release = release_in_event takes first.event (task_on s p) (task_on next p) b there leaves in
                let some : 1 ≤ n p = elim (cases_eq (n p) 0) [ inl e ↦ absurd (none (p, lt, (there, e))) | inr ne ↦ omega arith ] in
                rw linked (counted (whole p) (n p) (first_of (here p) (later p) (Release b) release) some))
          ]

    -- whatever its next order is
    at_entry : (q : ℕ) → q < m → n q < length (here q) → GoesOn m taken released whole n
    at_entry q inside short =
        let order = slice_get-is (here q) (n q) short in
        elim (take_or_free order.0) [
          | inl is_take ↦ at_take q inside short is_take.0 is_take.1 (order.1 ∙ ap (λ (o : Order). Some o) is_take.2)
          | inr free ↦ record {
            processor = q;
            inside = inside;
            next = order.0;
            is_next = slice_get-left (here q) (later q) (n q) short ∙ order.1;
            can = free_can taken released order.0 free;
          }
        ]

    -- ---- all processors have obeyed the orders of the entry
    module _ (past : (q : ℕ) → q < m → length (here q) ≤ n q) where
      abbrev left : ℕ → ℕ
      left q = n q - length (here q)

      split : (test : Order → Bool) → total test m whole n ≡ sum_below (λ q. count_by test (here q)) m + total test m later left
      split test = sum-add (λ q. count_by test (take (n q) (whole q))) (λ q. count_by test (here q))
          (λ q. count_by test (take (left q) (later q))) m (λ q lt. count_take-append test (here q) (later q) (n q) (past q lt))

      entry_takes : (t : ℕ) → sum_below (λ q. count_by (takes_task t) (here q)) m ≡ length (taken_between s next t)
      entry_takes t =
          let each = sum-add (λ q. count_by (takes_task t) (here q))
          (λ q. one_if (is_task t (task_on next q) && not (is_task t (task_on s q)))) (λ q. 0) m
          (λ q lt. let e = event_takes takes first.event (task_on s q) (task_on next q) t in omega arith) in
          let none = sum-zero (λ q. 0) m (λ q lt. refl) in
          let here_all = taken_sum s next t in
          let same = ap (sum_below (λ q. one_if (is_task t (task_on next q) && not (is_task t (task_on s q))))) all in
          omega arith

      entry_releases : (t : ℕ) → places next m t + sum_below (λ q. count_by (releases_task t) (here q)) m ≡ places s m t
          + sum_below (λ q. count_by (takes_task t) (here q)) m
      entry_releases t =
          let one = sum-add (λ q. one_if (is_task t (task_on next q)) + count_by (releases_task t) (here q))
          (λ q. one_if (is_task t (task_on next q))) (λ q. count_by (releases_task t) (here q)) m (λ q lt. refl) in
          let other = sum-add (λ q. one_if (is_task t (task_on next q)) + count_by (releases_task t) (here q))
          (λ q. one_if (is_task t (task_on s q))) (λ q. count_by (takes_task t) (here q)) m
          (λ q lt. event_releases takes first.event (task_on s q) (task_on next q) t) in
          omega arith

      obeyed_later : Obeyed next takes' rest left
      obeyed_later = record {
        times_taken = λ t. (let e = obeyed_so.times_taken t in let parts = split (takes_task t) in let mine = entry_takes t in omega arith);
        times_released = λ t. (let e = obeyed_so.times_released t in let parts = split (releases_task t) in let mine = entry_takes t in
            let moved = entry_releases t in omega arith);
        in_turn = λ t k le lt.
            let found = obeyed_so.in_turn t k (omega arith) lt in
            let p = found.0 in
            let i = found.1 in
            elim (cases_lt i (length (here p))) [
              | inl early ↦ absurd (
                  let that = take_in_event takes first.event (task_on s p) (task_on next p) i t k
                  (sym (slice_get-left (here p) (later p) i early) ∙ found.4) in
                  let one = taken_at s next t p (let e = all in let below = found.2 in omega arith) that.comes that.was in
                  let number = that.number in
                  omega arith)
              | inr late ↦ (
                p,
                i - length (here p),
                found.2,
                (let before = found.3 in omega arith),
                sym (slice_get-right (here p) (later p) i late) ∙ found.4,
              )
            ];
      }

      goes_later : GoesOn m taken released later left → GoesOn m taken released whole n
      goes_later on = record {
        processor = on.processor;
        inside = on.inside;
        next = on.next;
        is_next = slice_get-right (here on.processor) (later on.processor) (n on.processor) (past on.processor on.inside) ∙ on.is_next;
        can = on.can;
      }

  goes_on : (s : State) (takes : ℕ → ℕ) (history : List Entry) → s.processors ≡ m → IsState s → IsLegalFrom s history → (n : ℕ → ℕ)
      → Obeyed s takes history n
      → (p : ℕ) → p < m → n p < length (all_orders ending s takes history p) → GoesOn m taken released (all_orders ending s takes history) n
  goes_on s takes [] all ok legal n so p inside short =
      let last = slice_get-is (ending (task_on s p)) (n p) short in
      record {
        processor = p;
        inside = inside;
        next = last.0;
        is_next = last.1;
        can = free_can taken released last.0
            (ends.free (task_on s p) (n p) last.0 last.1);
      }
  goes_on s takes (first ∷ rest) all ok legal n so p inside short =
      let ok_next = step_keeps_state s first.event first.reply (effect_of s first) ok legal.0 in
      let all_next = (same_tasks-effect s first).processors ∙ all in
      let here = entry_orders s takes first in
      elim (exists_below (λ q. n q < length (here q)) (λ q. below_decided (n q) (length (here q))) m) [
        | inl found ↦ at_entry s takes first rest all ok legal n so found.0 found.1 found.2
        | inr none ↦ (
            let past : (q : ℕ) → q < m → length (here q) ≤ n q = λ q lt. not_below (n q) (length (here q)) (λ less. none (q, lt, less)) in
            goes_later s takes first rest all ok legal n so past
            (goes_on (effect_of s first) (λ t. takes t + length (taken_between s (effect_of s first) t)) rest all_next ok_next legal.1
            (λ q. n q - length (here q))
            (obeyed_later s takes first rest all ok legal n so past) p inside
            (let len = length-append (here p) (all_orders ending (effect_of s first)
            (λ t. takes t + length (taken_between s (effect_of s first) t)) rest p) in let le = past p inside in omega arith)))
      ]

-- ---- runs
-- one more step of p obeys its next order
module _ (m : ℕ) (orders : ℕ → List Order) (run : List ℕ) (p : ℕ) where
  steps_here : steps_of (p ∷ run) p ≡ suc (steps_of run p)
  steps_here = count-cons (λ q. q == p) p run ∙ (let one : one_if (p == p) ≡ 1 = rw (eq-eqb p p refl) refl in omega arith)

  steps_there : (q : ℕ) → q ≢ p → steps_of (p ∷ run) q ≡ steps_of run q
  steps_there q ne =
      count-cons (λ x. x == q) p run ∙ (let none : one_if (p == q) ≡ 0 = rw (ne_eqb p q (λ e. ne (sym e))) refl in omega arith)

  steps_no_fewer : (q : ℕ) → steps_of run q ≤ steps_of (p ∷ run) q
  steps_no_fewer q = (let e = count-cons (λ x. x == q) p run in omega arith)

  count_step : (test : Order → Bool) (next : Order) → p < m → slice_get (orders p) (steps_of run p) ≡ Some next
      → obeyed_count test m orders (p ∷ run) ≡ obeyed_count test m orders run + one_if (test next)
  count_step test next inside is_next =
      range_sum (λ q. count_by test (obeyed orders (p ∷ run) q)) m
      ∙ sum-more (λ q. count_by test (obeyed orders run q)) (λ q. count_by test (obeyed orders (p ∷ run) q)) (one_if (test next)) m p inside
      (ap (λ (k : ℕ). count_by test (take k (orders p))) steps_here ∙ count_take-more test (orders p) (steps_of run p) next is_next)
      (λ q lt ne. ap (λ (k : ℕ). count_by test (take k (orders q))) (steps_there q ne))
      ∙ ap (λ (k : ℕ). k + one_if (test next)) (sym (range_sum (λ q. count_by test (obeyed orders run q)) m))

-- before the first step nothing was obeyed
nothing_obeyed : (test : Order → Bool) (m : ℕ) (orders : ℕ → List Order) → obeyed_count test m orders [] ≡ 0
nothing_obeyed test m orders =
    range_sum (λ q. count_by test (obeyed orders [] q)) m ∙ sum-zero (λ q. count_by test (obeyed orders [] q)) m (λ q lt. refl)

-- in a run the takes are obeyed in the order of their numbers
run_in_turn : (m : ℕ) (orders : ℕ → List Order) (run : List ℕ) → IsRun m orders run → (t k : ℕ) → k < times_taken m orders run t
    → (q i : ℕ) × (q < m) × (i < steps_of run q) × (slice_get (orders q) i ≡ Some (Take t k))
run_in_turn m orders [] is t k lt = absurd (let none = nothing_obeyed (takes_task t) m orders in omega arith)
run_in_turn m orders (p ∷ run) is t k lt =
    let on = is.0 in
    let count = count_step m orders run p (takes_task t) on.next on.processor on.is_next in
    elim (cases_lt k (times_taken m orders run t)) [
      | inl early ↦ (
          let found = run_in_turn m orders run is.1 t k early in
          let more = steps_no_fewer m orders run p found.0 in
          (found.0, found.1, found.2, (let before = found.3 in omega arith), found.4))
      | inr late ↦ elim (take_or_free on.next) [
        | inl is_take ↦ elim (cases_eq is_take.0 t) [
          | inl same ↦ (
              let can : CanBeObeyed (times_taken m orders run) (times_released m orders run) (Take is_take.0 is_take.1) = subst
              (CanBeObeyed (times_taken m orders run) (times_released m orders run)) is_take.2 on.can in
              let one : one_if (takes_task t on.next) ≡ 1 = rw (is_take.2, eq-eqb is_take.0 t same) refl in
              let turn = can.0 in
              let at : times_taken m orders run is_take.0 ≡ times_taken m orders run t = ap (times_taken m orders run) same in
              let number : is_take.1 ≡ k = omega arith in
              let step = steps_here m orders run p in (
                p,
                steps_of run p,
                on.processor,
                omega arith,
                on.is_next
                    ∙ ap (λ (o : Order). Some o) (is_take.2 ∙ ap (λ (x : ℕ). Take x is_take.1) same ∙ ap (Take t) number),
              ))
          | inr other ↦ absurd (let none : one_if (takes_task t on.next) ≡ 0 = rw (is_take.2, ne_eqb is_take.0 t other) refl in omega arith)
        ]
        | inr free ↦ absurd (let none = no_take on.next free in omega arith)
      ]
    ]
  where
    no_take : (order : Order) → IsFree order → one_if (takes_task t order) ≡ 0
    no_take (Take b j) free = absurd free
    no_take (Release b) free = refl
    no_take (Run units) free = refl
    no_take Stop free = refl

-- ---- the orders of a history
all_go_on : (ending : Option ℕ → List Order) → IsEnding ending → (start : State) (history : List Entry) → IsState start
    → ((q : ℕ) → task_on start q ≡ None) → IsLegalFrom start history
    → NeverStops start.processors (all_orders ending start (λ t. 0) history)
all_go_on ending ends start history ok idle legal run p is inside short =
    let m = start.processors in
    let orders = all_orders ending start (λ t. 0) history in
    let on = goes_on ending ends m (times_taken m orders run) (times_released m orders run) start (λ t. 0) history refl ok legal
    (steps_of run) record {
      times_taken = λ t. range_sum (λ q. count_by (takes_task t) (obeyed orders run q)) m ∙ omega arith;
      times_released = λ t. (
          let e = range_sum (λ q. count_by (releases_task t) (obeyed orders run q)) m in
          let none = sum-zero (λ q. one_if (is_task t (task_on start q))) m (λ q lt. rw (idle q) refl) in
          omega arith);
      in_turn = λ t k le lt. run_in_turn m orders run is t k lt;
    } p inside short in
    (on.processor, record { processor = on.inside; next = on.next; is_next = on.is_next; can = on.can })

open_are : (start : State) (history : List Entry) → all_orders no_orders start (λ t. 0) history ≡ orders_of start history
open_are start history = λ i p. (all_orders_are no_orders start (λ t. 0) history p ∙ append-nil (orders_of start history p)) i

closed_are : (start : State) (history : List Entry) → all_orders close_orders start (λ t. 0) history ≡ closed_orders_of start history
closed_are start history = λ i p. (all_orders_are close_orders start (λ t. 0) history p ∙ sym (closed_orders_of-split start history p)) i

-- ---- to the end
module _ (m : ℕ) (orders : ℕ → List Order) (never : NeverStops m orders) where
  -- no processor makes more steps than it has orders
  steps_within : (run : List ℕ) → IsRun m orders run → (p : ℕ) → steps_of run p ≤ length (orders p)
  steps_within [] is p = omega arith
  steps_within (q ∷ run) is p = elim (cases_eq p q) [
    | inl same ↦ (
        let more = steps_here m orders run q in
        let fits = slice_get_within (orders q) (steps_of run q) is.0.next is.0.is_next in
        let e = ap (steps_of (q ∷ run)) same in
        let e' = ap (λ (x : ℕ). length (orders x)) same in
        omega arith)
    | inr other ↦ (let before = steps_within run is.1 p in let same = steps_there m orders run q p other in omega arith)
  ]

  abbrev left_of : List ℕ → ℕ → ℕ
  left_of run p = length (orders p) - steps_of run p

  abbrev Ends : List ℕ → Type 0
  Ends run = (more : List ℕ) × IsRun m orders (more ++ run) × ((p : ℕ) → p < m → obeyed orders (more ++ run) p ≡ orders p)

  has_orders_decided : (run : List ℕ) → Decided ((p : ℕ) × (p < m) × HasOrders orders run p)
  has_orders_decided run =
      exists_below (λ p. steps_of run p < length (orders p)) (λ p. below_decided (steps_of run p) (length (orders p))) m

  -- nobody has orders left
  ended : (run : List ℕ) → IsRun m orders run → ((p : ℕ) × (p < m) × HasOrders orders run p → ⊥) → Ends run
  ended run is none = (
    [],
    is,
    λ p lt. (
        let most = steps_within run is p in
        let least = not_below (steps_of run p) (length (orders p)) (λ short. none (p, lt, short)) in
        let all : steps_of run p ≡ length (orders p) = omega arith in
        ap (λ (k : ℕ). take k (orders p)) all ∙ take-length (orders p)),
  )

  -- one more step leaves one order fewer
  one_fewer : (run : List ℕ) (q : ℕ) → CanGoOn m orders run q → sum_below (left_of run) m ≡ sum_below (left_of (q ∷ run)) m + 1
  one_fewer run q on =
      let fits = slice_get_within (orders q) (steps_of run q) on.next on.is_next in
      let more = steps_here m orders run q in
      sum-more (left_of (q ∷ run)) (left_of run) 1 m q on.processor (omega arith)
      (λ p lt ne. (let same = steps_there m orders run q p ne in omega arith))

  joined : (run : List ℕ) (q : ℕ) → Ends (q ∷ run) → Ends run
  joined run q rest =
      let same : (rest.0 ++ q ∷ []) ++ run ≡ rest.0 ++ q ∷ run = append_assoc rest.0 (q ∷ []) run in (
        rest.0 ++ q ∷ [],
        subst (IsRun m orders) (sym same) rest.1,
        λ p lt. subst (λ (all : List ℕ). obeyed orders all p ≡ orders p) (sym same) (rest.2 p lt),
      )

  ends_by : (fuel : ℕ) (run : List ℕ) → IsRun m orders run → sum_below (left_of run) m ≤ fuel → Ends run
  ends_by zero run is enough = elim (has_orders_decided run) [
    | inl found ↦ absurd (let one = sum-at (left_of run) m found.0 found.1 in let short = found.2 in omega arith)
    | inr none ↦ ended run is none
  ]
  ends_by (suc n) run is enough = elim (has_orders_decided run) [
    | inl found ↦ (
        let on = never run found.0 is found.1 found.2 in
        let fewer = one_fewer run on.0 on.1 in
        joined run on.0 (ends_by n (on.0 ∷ run) (on.1, is) (omega arith)))
    | inr none ↦ ended run is none
  ]

  can_be_ended : CanBeEnded m orders
  can_be_ended run is = ends_by (sum_below (left_of run) m) run is (omega arith)

-- ---- the laws
pub orders_can_go_on-from : OrdersCanGoOnFrom
orders_can_go_on-from start history ok nobody legal = (
  subst (NeverStops start.processors) (open_are start history) (all_go_on no_orders none_ends start history ok nobody.idle legal),
  subst (NeverStops start.processors) (closed_are start history) (all_go_on close_orders close_ends start history ok nobody.idle legal),
)

pub orders_can_go_on : OrdersCanGoOn
orders_can_go_on set history valid = orders_can_go_on-from (start_of set) history (IsState-start set valid) (nobody_ready set)

pub orders_can_be_ended-from : OrdersCanBeEndedFrom
orders_can_be_ended-from start history ok nobody legal =
    let never = orders_can_go_on-from start history ok nobody legal in (
      can_be_ended start.processors (orders_of start history) never.0,
      can_be_ended start.processors (closed_orders_of start history)
          never.1,
    )

pub orders_can_be_ended : OrdersCanBeEnded
orders_can_be_ended set history valid = orders_can_be_ended-from (start_of set) history (IsState-start set valid) (nobody_ready set)
