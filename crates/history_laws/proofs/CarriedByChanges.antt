-- A task carries its context through an event that is no tick: its stint ends where it leaves, and one begins where it
-- comes.
use Rattle.std.proofs.Common.{◌≡◌, ◌≢◌, ℕ, ◌<◌, List, [], ◌∷◌, ◌++◌, length, fold, Option, Some, None, refl, sym, ap, ◌∙◌, inl, inr}
use Rattle.std.proofs.Common.{append-nil}
use Rattle.std.proofs.lemmas.Bool.{cases_Bool, cases_eq, true≢false}
use Rattle.task_set.specs.declared.context.Context.{Context}
use Rattle.task_set.specs.declared.order.Order.{Order}
use Rattle.task_set.specs.Orders.{Stint, stint_after}
use Rattle.task_set.specs.Context.{context_after_take, stints_of_task}
use Rattle.strong_apa.specs.declared.reply.Entry.{Entry}
use Rattle.strong_apa.specs.State.{State, IsState, task_on, is_task, is_linked}
use Rattle.strong_apa.specs.History.{state_after}
use Rattle.strong_apa.specs.Dispatch.{change_orders, tick_orders, taken_between, processors_of, runs_of, tick_runs, context_of}
use Rattle.strong_apa.specs.Dispatch.{context_from}
use Rattle.strong_apa.proofs.Contexts.{context_from-take}
use Rattle.strong_apa.proofs.Histories.{state_after-push}
use Rattle.strong_apa.proofs.Linked.{is_task-same, is_task-true, place_in, task_on-linked, not_on, occupied_number}
use Rattle.history_laws.proofs.CarriedAlong.{ended, IsSettled, IsResting, IsUnderWay, IsFollowed, ended_on, ended_on-push, ended_on-none}
use Rattle.history_laws.proofs.CarriedAlong.{ended-none, context_of-push, processors_of-entry, times_taken-push, taken-none, taken-one}
use Rattle.history_laws.proofs.StintsOfTask.{own, stints_of_task-closed, carried_context-more, All-closed, AreTakes-push}
use Rattle.history_laws.proofs.StintsOrdered.{under_way_on, task_of-under_way, begun, ended-other, ended-stays, under_way-stays}
use Rattle.history_laws.proofs.StintsOrdered.{ended-leaves, under_way-comes, under_way-push, times_taken, next_state, next_orders}

-- the event of the entry gives neither orders nor runs: it is no tick
pub record IsNoTick (entry : Entry) : Type 0 where
  pub orders : (occupant : Option ℕ) → tick_orders entry.event occupant ≡ []
  pub runs : (places : List ℕ) → tick_runs entry.event places ≡ []

module _ (start : State) (idle : (q : ℕ) → task_on start q ≡ None) (history : List Entry) (t : ℕ) (entry : Entry)
    (calm : IsNoTick entry) where
  change_alone : (p : ℕ) → next_orders start history entry p
      ≡ change_orders (times_taken start history) (task_on (state_after start history) p) (task_on (next_state start history entry) p)
  change_alone p = ap (λ (l : List Order). change_orders (times_taken start history) (task_on (state_after start history) p)
      (task_on (next_state start history entry) p) ++ l) (calm.orders (task_on (state_after start history) p)) ∙ append-nil _

  -- where t is not linked, no stint of it ends
  ended_on-elsewhere : (p : ℕ) → task_on (state_after start history) p ≢ Some t → ended_on start (history ++ entry ∷ []) t p
      ≡ ended_on start history t p
  ended_on-elsewhere p other =
      ended_on-none start idle history t entry p _ (change_alone p)
      (ended-other p t (times_taken start history) (under_way_on start history p) _ _ (task_of-under_way start idle history p) other)

  -- where it stays, none ends either
  ended_on-stays : (p : ℕ) → task_on (state_after start history) p ≡ Some t → task_on (next_state start history entry) p ≡ Some t
      → ended_on start (history ++ entry ∷ []) t p ≡ ended_on start history t p
  ended_on-stays p was is =
      ended_on-none start idle history t entry p _ (change_alone p)
      (ap (own t) (ended-stays p t (times_taken start history) (under_way_on start history p) _ _ (task_of-under_way start idle history p)
      was is))

  -- a task that was linked nowhere: all its stints ended before
  settled-resting : IsResting start history t
      → IsSettled start (history ++ entry ∷ []) t (processors_of start history t) (context_of start history t)
  settled-resting resting =
      let same = ended-none start idle history t entry (λ p. ended_on-elsewhere p (resting.nowhere p)) in
      record { earlier = rw same resting.settled.earlier; takes = rw same resting.settled.takes; carried = rw same resting.settled.carried }

  -- a task that leaves its processor: its latest stint ends
  settled-leaving : (p : ℕ) → IsState (state_after start history) → (state_after start history).processors ≡ start.processors
      → IsUnderWay start history t p → task_on (next_state start history entry) p ≢ Some t
      → IsSettled start (history ++ entry ∷ []) t (processors_of start history t) (context_of start history t)
  settled-leaving p ok same on leaves =
      let fits : p < start.processors = rw (← same) (occupied_number (state_after start history) p t ok on.there) in
      let others : (q : ℕ) → q ≢ p → ended_on start (history ++ entry ∷ []) t q
      ≡ ended_on start history t q = λ q other. ended_on-elsewhere q (λ e. other (ok.once q p t e on.there)) in
      let here : ended_on start (history ++ entry ∷ []) t p ≡ ended_on start history t p ++ on.stint ∷ [] =
      ended_on-push start idle history t entry p _ (change_alone p)
      ∙ ap (λ (l : List Stint). ended_on start history t p ++ l)
      (ended-leaves p t (times_taken start history) (under_way_on start history p) _ _ (task_of-under_way start idle history p)
      on.stint on.under_way on.task on.there leaves) in
      let more : stints_of_task t (ended start (history ++ entry ∷ []) t) ≡ stints_of_task t (ended start history t) ++ on.stint ∷ [] =
      stints_of_task-closed t start.processors p (ended_on start history t) (ended_on start (history ++ entry ∷ []) t)
      on.stint fits on.task on.earlier others here in
      record {
        earlier = All-closed start.processors p (ended_on start history t) (ended_on start (history ++ entry ∷ []) t) on.stint
            (times_taken start history t) fits on.number on.earlier others here;
        takes = rw more on.takes;
        carried = carried_context-more t (ended start history t) (ended start (history ++ entry ∷ []) t) on.stint more ∙ on.carried;
      }

  calm_context : (taken : List ℕ) → taken_between (state_after start history) (next_state start history entry) t ≡ taken
      → context_of start (history ++ entry ∷ []) t ≡ context_from t (runs_of start history t) (processors_of start history t ++ taken)
  calm_context taken is = context_of-push start history entry t [] taken (calm.runs _) is
      ∙ ap (λ (runs : List (ℕ × ℕ)). context_from t runs (processors_of start history t ++ taken)) (append-nil (runs_of start history t))

  -- where t is taken nowhere, its context stays
  calm_context-stays : taken_between (state_after start history) (next_state start history entry) t ≡ []
      → context_of start (history ++ entry ∷ []) t ≡ context_of start history t
  calm_context-stays is = calm_context [] is ∙ ap (context_from t (runs_of start history t)) (append-nil (processors_of start history t))

  processors_of-stays : taken_between (state_after start history) (next_state start history entry) t ≡ []
      → processors_of start (history ++ entry ∷ []) t ≡ processors_of start history t
  processors_of-stays is = processors_of-entry start history entry t [] is ∙ append-nil (processors_of start history t)

  -- t is linked nowhere then
  rests : IsSettled start (history ++ entry ∷ []) t (processors_of start history t) (context_of start history t)
      → ((q : ℕ) → task_on (next_state start history entry) q ≢ Some t) → IsResting start (history ++ entry ∷ []) t
  rests settled nowhere =
      let none = taken-none (state_after start history) (next_state start history entry) t (λ q e. absurd (nowhere q e)) in
      record {
        nowhere = λ q. rw (state_after-push start history entry) (nowhere q);
        settled = record {
          earlier = rw (processors_of-stays none) settled.earlier;
          takes = rw (processors_of-stays none) settled.takes;
          carried = settled.carried ∙ sym (calm_context-stays none);
        };
      }

  -- t comes to p
  comes : (p : ℕ) → IsSettled start (history ++ entry ∷ []) t (processors_of start history t) (context_of start history t)
      → p < (state_after start history).processors → task_on (next_state start history entry) p ≡ Some t
      → task_on (state_after start history) p ≢ Some t → ((q : ℕ) → task_on (next_state start history entry) q ≡ Some t → q ≡ p)
      → IsUnderWay start (history ++ entry ∷ []) t p
  comes p settled fits is was alone =
      let one = taken-one (state_after start history) (next_state start history entry) t p fits is was alone in
      let count = times_taken-push start history entry t (p ∷ []) one in
      let takes : ℕ → ℕ = λ u. length (processors_of start history u) in
      record {
        there = rw (state_after-push start history entry) is;
        stint = begun p takes t;
        under_way =
            under_way-push start history entry p
            ∙ ap (fold (stint_after p) (under_way_on start history p)) (change_alone p)
            ∙ under_way-comes p t takes (under_way_on start history p) _ _ (task_of-under_way start idle history p) is was;
        task = refl;
        processor = refl;
        number = sym count;
        earlier = settled.earlier;
        takes = rw (processors_of-entry start history entry t (p ∷ []) one)
            (AreTakes-push (stints_of_task t (ended start (history ++ entry ∷ []) t)) (processors_of start history t) (begun p takes t)
            p settled.takes refl refl);
        carried =
            ap (λ (c : Context). context_after_take c p) settled.carried
            ∙ sym (calm_context (p ∷ []) one ∙ context_from-take t (runs_of start history t) (processors_of start history t) p);
      }

  -- t stays on p
  stays : (p : ℕ) → IsState (state_after start history) → IsState (next_state start history entry) → IsUnderWay start history t p
      → task_on (next_state start history entry) p ≡ Some t
      → IsUnderWay start (history ++ entry ∷ []) t p
  stays p ok ok' on is =
      let none = taken-none (state_after start history) (next_state start history entry) t (λ q e. rw (ok'.once q p t e is) on.there) in
      let same = ended-none start idle history t entry (λ q. elim (cases_eq q p) [
        | inl here ↦ rw here (ended_on-stays p on.there is)
        | inr other ↦ ended_on-elsewhere q (λ e. other (ok.once q p t e on.there))
      ]) in
      record {
        there = rw (state_after-push start history entry) is;
        stint = on.stint;
        under_way =
            under_way-push start history entry p
            ∙ ap (fold (stint_after p) (under_way_on start history p)) (change_alone p)
            ∙ under_way-stays p t (times_taken start history) (under_way_on start history p) _ _ (task_of-under_way start idle history p)
            on.there is
            ∙ on.under_way;
        task = on.task;
        processor = on.processor;
        number = on.number ∙ sym (ap length (processors_of-stays none));
        earlier = rw same on.earlier;
        takes = rw (same, processors_of-stays none) on.takes;
        carried = rw same on.carried ∙ sym (calm_context-stays none);
      }

  -- all stints of t ended, and it stands on no processor on which it stood before
  followed-settled : IsState (next_state start history entry) → (next_state start history entry).processors
      ≡ (state_after start history).processors
      → IsSettled start (history ++ entry ∷ []) t (processors_of start history t) (context_of start history t)
      → ((q : ℕ) → task_on (next_state start history entry) q ≡ Some t → task_on (state_after start history) q ≢ Some t)
      → IsFollowed start (history ++ entry ∷ []) t
  followed-settled ok' count settled was =
      let next = next_state start history entry in
      let place = place_in t next.on in
      elim (cases_Bool (is_linked next t)) [
        | inl linked ↦ (
            let is = task_on-linked next t linked in
            inr (
              place,
              comes place settled (rw (← count) (occupied_number next place t ok' is)) is (was place is)
                  (λ q e. ok'.once q place t e is),
            )
            )
        | inr not_linked ↦ inl (rests settled (λ q. not_on next q t not_linked))
      ]

  -- the whole entry
  pub followed-change : IsState (state_after start history) → IsState (next_state start history entry)
      → (state_after start history).processors ≡ start.processors
      → (next_state start history entry).processors ≡ (state_after start history).processors → IsFollowed start history t
      → IsFollowed start (history ++ entry ∷ []) t
  followed-change ok ok' same count (inl resting) = followed-settled ok' count (settled-resting resting) (λ q e. resting.nowhere q)
  followed-change ok ok' same count (inr on) =
      let next = next_state start history entry in
      elim (cases_Bool (is_task t (task_on next on.0))) [
        | inl is ↦ inr (on.0, stays on.0 ok ok' on.1 (is_task-true t (task_on next on.0) is))
        | inr isnt ↦ (
            let leaves : task_on next on.0 ≢ Some t = λ e. true≢false (sym (ap (is_task t) e ∙ is_task-same t) ∙ isnt) in
            followed-settled ok' count (settled-leaving on.0 ok same on.1 leaves)
            (λ q e was. leaves (rw (← ok.once q on.0 t was on.1.there) e))
            )
      ]
