-- The orders of one entry, of a whole history and of its close: how they take and release a task.
use Rattle.std.proofs.Common.{◌≡◌, ◌≢◌, ℕ, zero, suc, ◌+◌, ◌≤◌, Bool, true, false, not, ◌&&◌, ◌==◌, List, [], ◌∷◌, ◌++◌, length, take}
use Rattle.std.proofs.Common.{Option, Some, None, refl, sym, ap, ◌∙◌, subst, inl, inr, arith, append_assoc, eq-eqb, ne_eqb, eqb-true}
use Rattle.std.specs.Prelude.{slice_get, count_by}
use Rattle.std.proofs.lemmas.Bool.{cases_Bool, cases_eq, cases_lt}
use Rattle.task_set.specs.Orders.{IsObeyableFrom}
use Rattle.task_set.specs.declared.event.Event.{Event}
use Rattle.task_set.specs.declared.event.Event.TheVariants.{Tick}
use Rattle.task_set.specs.declared.order.Order.{Order}
use Rattle.task_set.specs.declared.order.Order.TheVariants.{Release, Take, Run, Stop}
use Rattle.strong_apa.specs.declared.reply.Entry.{Entry}
use Rattle.strong_apa.specs.State.{State, task_on, is_task}
use Rattle.strong_apa.specs.History.{IsLegalFrom, effect_of, state_after}
use Rattle.strong_apa.specs.Dispatch.{change_orders, tick_orders, release_of, taken_between, orders_from}
use Rattle.strong_apa.proofs.Histories.{entry_orders}
use Rattle.history_laws.proofs.OrderLists.{event_orders, close_orders, orders_then}
use Rattle.scheduling_laws.specs.Going.{takes_task, releases_task}
use Rattle.scheduling_laws.proofs.GoingSums.{one_if, slice_get-left, slice_get-right, count-cons, count-append}

-- ---- counts
tick_count : (test : Order → Bool) → ((units : ℕ) → test (Run units) ≡ false) → (event : Event) (o : Option ℕ)
    → count_by test (tick_orders event o) ≡ 0
tick_count test none (Tick units) None = refl
tick_count test none (Tick units) (Some a) = count-cons test (Run units) [] ∙ rw (none units) refl
tick_count test none event o = refl

and_not_same : (b : Bool) → one_if (b && not b) ≡ 0
and_not_same true = refl
and_not_same false = refl

and_not_false : (b : Bool) → one_if (b && not false) ≡ one_if b
and_not_false true = refl
and_not_false false = refl

change_takes : (takes : ℕ → ℕ) (old new : Option ℕ) (t : ℕ) → count_by (takes_task t) (change_orders takes old new)
    ≡ one_if (is_task t new && not (is_task t old))
change_takes takes None None t = refl
change_takes takes None (Some b) t = count-cons (takes_task t) (Take b (takes b)) [] ∙ (let e = and_not_false (b == t) in omega arith)
change_takes takes (Some a) None t = refl
change_takes takes (Some a) (Some b) t = elim (cases_eq a b) [
  | inl same ↦ rw (eq-eqb a b same) (rw same (sym (and_not_same (b == t))))
  | inr other ↦ rw (ne_eqb a b other) (count-cons (takes_task t) (Release a) (Take b (takes b) ∷ [])
      ∙ (let one = count-cons (takes_task t) (Take b (takes b)) [] in let e = apart other in omega arith))
]
  where
    apart : a ≢ b → one_if ((b == t) && not (a == t)) ≡ one_if (b == t)
    apart other = elim (cases_Bool (b == t)) [
      | inl here ↦ (let e : b ≡ t = eqb-true b t here in rw (here, ne_eqb a t (λ at. other (at ∙ sym e))) refl)
      | inr elsewhere ↦ rw elsewhere refl
    ]

change_releases : (takes : ℕ → ℕ) (old new : Option ℕ) (t : ℕ)
    → one_if (is_task t new) + count_by (releases_task t) (change_orders takes old new) ≡ one_if (is_task t old)
    + count_by (takes_task t) (change_orders takes old new)
change_releases takes None None t = refl
change_releases takes None (Some b) t =
    let r = count-cons (releases_task t) (Take b (takes b)) [] in
    let k = count-cons (takes_task t) (Take b (takes b)) [] in omega arith
change_releases takes (Some a) None t =
    let r = count-cons (releases_task t) (Release a) [] in
    let k = count-cons (takes_task t) (Release a) [] in omega arith
change_releases takes (Some a) (Some b) t = elim (cases_eq a b) [
  | inl same ↦ rw (eq-eqb a b same) (rw same refl)
  | inr other ↦ rw (ne_eqb a b other) (
      let r = count-cons (releases_task t) (Release a) (Take b (takes b) ∷ []) in
      let r' = count-cons (releases_task t) (Take b (takes b)) [] in
      let k = count-cons (takes_task t) (Release a) (Take b (takes b) ∷ []) in
      let k' = count-cons (takes_task t) (Take b (takes b)) [] in omega arith)
]

-- by an event a task is taken where it comes
pub event_takes : (takes : ℕ → ℕ) (event : Event) (old new : Option ℕ) (t : ℕ) → count_by (takes_task t) (event_orders takes event old new)
    ≡ one_if (is_task t new && not (is_task t old))
event_takes takes event old new t =
    let both = count-append (takes_task t) (change_orders takes old new) (tick_orders event old) in
    let ticks = tick_count (takes_task t) (λ units. refl) event old in
    let change = change_takes takes old new t in omega arith

-- and released where it leaves
pub event_releases : (takes : ℕ → ℕ) (event : Event) (old new : Option ℕ) (t : ℕ)
    → one_if (is_task t new) + count_by (releases_task t) (event_orders takes event old new) ≡ one_if (is_task t old)
    + count_by (takes_task t) (event_orders takes event old new)
event_releases takes event old new t =
    let r = count-append (releases_task t) (change_orders takes old new) (tick_orders event old) in
    let k = count-append (takes_task t) (change_orders takes old new) (tick_orders event old) in
    let r_ticks = tick_count (releases_task t) (λ units. refl) event old in
    let k_ticks = tick_count (takes_task t) (λ units. refl) event old in
    let change = change_releases takes old new t in omega arith

-- ---- the take of an entry
in_tick : (event : Event) (o : Option ℕ) (i b k : ℕ) → slice_get (tick_orders event o) i ≡ Some (Take b k) → ⊥
in_tick (Tick units) None i b k e = cc
in_tick (Tick units) (Some a) zero b k e = cc
in_tick (Tick units) (Some a) (suc i) b k e = cc
in_tick event o i b k e = cc

-- an order of an entry that takes b is where the release of the old occupant ends, and b comes
pub record IsTakeOf (takes : ℕ → ℕ) (old new : Option ℕ) (i b k : ℕ) : Type 0 where
  pub position : i ≡ length (release_of old)
  pub comes : new ≡ Some b
  pub was : old ≢ Some b
  pub number : k ≡ takes b

pub take_in_event : (takes : ℕ → ℕ) (event : Event) (old new : Option ℕ) (i b k : ℕ) → slice_get (event_orders takes event old new) i
    ≡ Some (Take b k) → IsTakeOf takes old new i b k
take_in_event takes event None None i b k e = absurd (in_tick event None i b k e)
take_in_event takes event None (Some c) zero b k e =
    let same : c ≡ b = cc in
    let it : takes c ≡ k = cc in
    record { position = refl; comes = ap Some same; was = λ h. cc; number = sym it ∙ ap takes same }
take_in_event takes event None (Some c) (suc i) b k e = absurd (in_tick event None i b k e)
take_in_event takes event (Some a) None zero b k e = absurd (cc)
take_in_event takes event (Some a) None (suc i) b k e = absurd (in_tick event (Some a) i b k e)
take_in_event takes event (Some a) (Some c) i b k e = elim (cases_eq a c) [
  | inl same ↦ absurd (in_tick event (Some a) i b k (rw (eq-eqb a c same) at e))
  | inr other ↦ at other i (rw (ne_eqb a c other) at e)
]
  where
    at : a ≢ c → (i : ℕ) → slice_get (Release a ∷ Take c (takes c) ∷ tick_orders event (Some a)) i ≡ Some (Take b k)
        → IsTakeOf takes (Some a) (Some c) i b k
    at other zero e = absurd (cc)
    at other (suc zero) e =
        let same : c ≡ b = cc in
        let it : takes c ≡ k = cc in
        record {
          position = refl;
          comes = ap Some same;
          was = λ h. (let there : a ≡ b = cc in other (there ∙ sym same));
          number = sym it
              ∙ ap takes same;
        }
    at other (suc (suc i)) e = absurd (in_tick event (Some a) i b k e)

-- where b leaves, its release is the first order
pub release_in_event : (takes : ℕ → ℕ) (event : Event) (old new : Option ℕ) (b : ℕ) → old ≡ Some b → new ≢ Some b
    → slice_get (event_orders takes event old new) 0 ≡ Some (Release b)
release_in_event takes event None new b was leaves = absurd (cc)
release_in_event takes event (Some a) None b was leaves = (let same : a ≡ b = cc in ap (λ (x : ℕ). Some (Release x)) same)
release_in_event takes event (Some a) (Some c) b was leaves =
    let same : a ≡ b = cc in
    rw (ne_eqb a c (λ e. leaves (ap Some (sym e ∙ same)))) (ap (λ (x : ℕ). Some (Release x)) same)

same_Some_order : (a b : Order) → Some a ≡ Some b → a ≡ b
same_Some_order a b e = cc

-- ---- the orders of a history and of what comes after it
-- an order that is no take can be obeyed at any time
abbrev pub IsFree : Order → Type 0
IsFree (Take t k) = ⊥
IsFree (Release t) = Unit {0}
IsFree (Run units) = Unit {0}
IsFree Stop = Unit {0}

-- orders that end a history, by the occupant: they can be obeyed, and take nobody
pub record IsEnding (ending : Option ℕ → List Order) : Type 0 where
  pub obeyable : (o : Option ℕ) → IsObeyableFrom o (ending o)
  pub free : (o : Option ℕ) (i : ℕ) (order : Order) → slice_get (ending o) i ≡ Some order → IsFree order

abbrev pub no_orders : Option ℕ → List Order
no_orders o = []

pub none_ends : IsEnding no_orders
none_ends = record { obeyable = λ o. tt; free = λ o i order e. cc }

pub close_ends : IsEnding close_orders
close_ends = record { obeyable = close_obeyable; free = close_free }
  where
    close_obeyable : (o : Option ℕ) → IsObeyableFrom o (close_orders o)
    close_obeyable None = (tt, refl, tt)
    close_obeyable (Some a) = (refl, tt, (tt, refl, tt))

    close_free : (o : Option ℕ) (i : ℕ) (order : Order) → slice_get (close_orders o) i ≡ Some order → IsFree order
    close_free None zero order e = subst IsFree (same_Some_order Stop order e) tt
    close_free None (suc i) order e = cc
    close_free (Some a) zero order e = subst IsFree (same_Some_order (Release a) order e) tt
    close_free (Some a) (suc zero) order e = subst IsFree (same_Some_order Stop order e) tt
    close_free (Some a) (suc (suc i)) order e = cc

module _ (ending : Option ℕ → List Order) where
  abbrev pub all_orders : State → (ℕ → ℕ) → List Entry → ℕ → List Order
  all_orders s takes [] p = ending (task_on s p)
  all_orders s takes (first ∷ rest) p =
      entry_orders s takes first p ++ all_orders (effect_of s first) (λ t. takes t + length (taken_between s (effect_of s first) t)) rest p

  pub all_orders_are : (s : State) (takes : ℕ → ℕ) (history : List Entry) (p : ℕ)
      → all_orders s takes history p ≡ orders_from s takes history p ++ ending (task_on (state_after s history) p)
  all_orders_are s takes [] p = refl
  all_orders_are s takes (first ∷ rest) p =
      let next = effect_of s first in
      let takes' : ℕ → ℕ = λ t. takes t + length (taken_between s next t) in
      ap (λ (l : List Order). entry_orders s takes first p ++ l) (all_orders_are next takes' rest p)
      ∙ sym (append_assoc (entry_orders s takes first p) (orders_from next takes' rest p) (ending (task_on (state_after next rest) p)))

  module _ (ends : IsEnding ending) where
    pub all_obeyable : (s : State) (takes : ℕ → ℕ) (history : List Entry) (p : ℕ) → IsLegalFrom s history
        → IsObeyableFrom (task_on s p) (all_orders s takes history p)
    all_obeyable s takes history p legal =
        subst (IsObeyableFrom (task_on s p)) (sym (all_orders_are s takes history p))
        (orders_then s takes history p _ legal (ends.obeyable (task_on (state_after s history) p)))

    -- the numbers of the takes of b begin with that of its takes so far
    pub take_number_least : (s : State) (takes : ℕ → ℕ) (history : List Entry) (p i b k : ℕ) → slice_get (all_orders s takes history p) i
        ≡ Some (Take b k) → takes b ≤ k
    take_number_least s takes [] p i b k e = absurd (ends.free (task_on s p) i (Take b k) e)
    take_number_least s takes (first ∷ rest) p i b k e =
        let next = effect_of s first in
        let takes' : ℕ → ℕ = λ t. takes t + length (taken_between s next t) in
        let here = entry_orders s takes first p in
        elim (cases_lt i (length here)) [
          | inl early ↦ (let it = take_in_event takes first.event (task_on s p) (task_on next p) i b k
              (sym (slice_get-left here (all_orders next takes' rest p) i early) ∙ e) in let number = it.number in omega arith)
          | inr late ↦ (let le = take_number_least next takes' rest p _ b k
              (sym (slice_get-right here (all_orders next takes' rest p) i late) ∙ e) in omega arith)
        ]

-- ---- of the orders that were obeyed, no more release a task than take it, but for the one that was held
pub releases_bounded : (t : ℕ) (held : Option ℕ) (orders : List Order) (n : ℕ) → IsObeyableFrom held orders
    → count_by (releases_task t) (take n orders) ≤ count_by (takes_task t) (take n orders) + one_if (is_task t held)
releases_bounded t held [] zero h = omega arith
releases_bounded t held [] (suc n) h = omega arith
releases_bounded t held (order ∷ rest) zero h = omega arith
releases_bounded t None (Take b k ∷ rest) (suc n) h =
    let later = releases_bounded t (Some b) rest n h.2 in
    let r = count-cons (releases_task t) (Take b k) (take n rest) in
    let c = count-cons (takes_task t) (Take b k) (take n rest) in omega arith
releases_bounded t (Some a) (Take b k ∷ rest) (suc n) h = absurd h.0
releases_bounded t None (Release b ∷ rest) (suc n) h = absurd h.0
releases_bounded t (Some a) (Release b ∷ rest) (suc n) h =
    let later = releases_bounded t None rest n h.2 in
    let r = count-cons (releases_task t) (Release b) (take n rest) in
    let c = count-cons (takes_task t) (Release b) (take n rest) in
    let same = ap (λ (x : ℕ). one_if (x == t)) h.0 in omega arith
releases_bounded t held (Run units ∷ rest) (suc n) h =
    let later = releases_bounded t held rest n h.2 in
    let r = count-cons (releases_task t) (Run units) (take n rest) in
    let c = count-cons (takes_task t) (Run units) (take n rest) in omega arith
releases_bounded t held (Stop ∷ rest) (suc n) h =
    let later = releases_bounded t held rest n h.2 in
    let r = count-cons (releases_task t) Stop (take n rest) in
    let c = count-cons (takes_task t) Stop (take n rest) in omega arith
