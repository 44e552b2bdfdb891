-- A task carries its context through a tick: the stint that is under way runs the units.
use Rattle.std.proofs.Common.{◌≡◌, ℕ, List, [], ◌∷◌, ◌++◌, length, fold, Option, None, refl, sym, ap, ◌∙◌, inl, inr, append-nil}
use Rattle.task_set.specs.declared.context.Context.{Context}
use Rattle.task_set.specs.declared.event.Event.{Event}
use Rattle.task_set.specs.declared.event.Event.TheVariants.{Tick}
use Rattle.task_set.specs.declared.order.Order.TheVariants.{Run}
use Rattle.task_set.specs.Orders.{Stint, stint_after}
use Rattle.task_set.specs.Context.{context_after_take, context_after_run, context_after_stint, carried_context, stints_of_task}
use Rattle.task_set.proofs.Carried.{context_after_runs-push}
use Rattle.strong_apa.specs.declared.reply.Entry.{Entry}
use Rattle.strong_apa.specs.State.{State, IsState, task_on}
use Rattle.strong_apa.specs.History.{state_after}
use Rattle.strong_apa.specs.Dispatch.{tick_orders, taken_between, places_of, processors_of, runs_of, tick_runs, context_of, context_from}
use Rattle.strong_apa.proofs.Contexts.{context_from-run}
use Rattle.strong_apa.proofs.Histories.{state_after-push}
use Rattle.strong_apa.proofs.Linked.{occupied_number}
use Rattle.history_laws.proofs.CarriedAlong.{IsResting, IsUnderWay, IsFollowed, ended, ended_on-none, ended-none, context_of-push}
use Rattle.history_laws.proofs.CarriedAlong.{processors_of-entry, taken-none, places-none, places-one}
use Rattle.history_laws.proofs.OrderLists.{event_orders, event_orders-tick}
use Rattle.history_laws.proofs.StintsOfTask.{own, AreTakes-run}
use Rattle.history_laws.proofs.StintsOrdered.{under_way_on, ended-tick, under_way-push, times_taken, next_state, next_orders}

module _ (start : State) (idle : (q : ℕ) → task_on start q ≡ None) (history : List Entry) (t : ℕ) (entry : Entry) (units : ℕ)
    (tick : entry.event ≡ Tick units) (still : next_state start history entry ≡ state_after start history) where
  tick_alone : (p : ℕ) → next_orders start history entry p ≡ tick_orders (Tick units) (task_on (state_after start history) p)
  tick_alone p =
      ap (λ (event : Event). event_orders (times_taken start history) event (task_on (state_after start history) p)
      (task_on (next_state start history entry) p)) tick
      ∙ event_orders-tick (times_taken start history) units (task_on (state_after start history) p)
      (task_on (next_state start history entry) p) (ap (λ (s : State). task_on s p) still)

  -- no stint ends
  ended-stays : ended start (history ++ entry ∷ []) t ≡ ended start history t
  ended-stays =
      ended-none start idle history t entry
      (λ p. ended_on-none start idle history t entry p _ (tick_alone p)
      (ap (own t) (ended-tick p (under_way_on start history p) (Tick units) (task_on (state_after start history) p))))

  -- no task is taken
  none_taken : taken_between (state_after start history) (next_state start history entry) t ≡ []
  none_taken =
      taken-none (state_after start history) (next_state start history entry) t (λ q e. sym (ap (λ (s : State). task_on s q) still) ∙ e)

  processors_of-stays : processors_of start (history ++ entry ∷ []) t ≡ processors_of start history t
  processors_of-stays = processors_of-entry start history entry t [] none_taken ∙ append-nil (processors_of start history t)

  tick_context : (places : List ℕ) → places_of (state_after start history) t ≡ places
      → context_of start (history ++ entry ∷ []) t ≡ context_from t (runs_of start history t ++ tick_runs (Tick units) places)
      (processors_of start history t)
  tick_context places are =
      context_of-push start history entry t (tick_runs (Tick units) places) [] (rw (tick, are) refl) none_taken
      ∙ ap (context_from t (runs_of start history t ++ tick_runs (Tick units) places)) (append-nil (processors_of start history t))

  -- a task that is linked nowhere does not run
  rests_on : IsResting start history t → IsResting start (history ++ entry ∷ []) t
  rests_on resting = record {
    nowhere = λ q. rw (state_after-push start history entry, still) (resting.nowhere q);
    settled = record {
      earlier = rw (processors_of-stays, ended-stays) resting.settled.earlier;
      takes = rw (processors_of-stays, ended-stays) resting.settled.takes;
      carried =
          rw ended-stays resting.settled.carried
          ∙ sym (tick_context [] (places-none (state_after start history) t resting.nowhere)
          ∙ ap (λ (runs : List (ℕ × ℕ)). context_from t runs (processors_of start history t)) (append-nil (runs_of start history t)));
    };
  }

  -- a linked task runs the units
  runs_on : (p : ℕ) → IsState (state_after start history) → IsUnderWay start history t p → IsUnderWay start (history ++ entry ∷ []) t p
  runs_on p ok on =
      let places = places-one (state_after start history) t p (occupied_number (state_after start history) p t ok on.there) on.there
      (λ q e. ok.once q p t e on.there) in
      let c : Context = carried_context t (ended start history t) in
      record {
        there = rw (state_after-push start history entry, still) on.there;
        stint = record on.stint { units = on.stint.units ++ units ∷ [] };
        under_way =
            under_way-push start history entry p
            ∙ ap (fold (stint_after p) (under_way_on start history p)) (tick_alone p ∙ ap (tick_orders (Tick units)) on.there)
            ∙ ap (λ (under_way : Option Stint). fold (stint_after p) under_way (Run units ∷ [])) on.under_way;
        task = on.task;
        processor = on.processor;
        number = on.number ∙ sym (ap length processors_of-stays);
        earlier = rw ended-stays on.earlier;
        takes = rw (processors_of-stays, ended-stays)
            (AreTakes-run (stints_of_task t (ended start history t)) (processors_of start history t) on.stint (on.stint.units ++ units ∷ [])
            on.takes);
        carried =
            ap (λ (d : Context). context_after_stint d (record on.stint { units = on.stint.units ++ units ∷ [] }))
            (ap (λ (l : List Stint). carried_context t l) ended-stays)
            ∙ context_after_runs-push (context_after_take c on.stint.processor) on.stint.processor units on.stint.units
            ∙ ap (λ (d : Context). context_after_run d on.stint.processor units) on.carried
            ∙ ap (λ (q : ℕ). context_after_run (context_of start history t) q units) on.processor
            ∙ sym (tick_context (p ∷ []) places ∙ context_from-run t (runs_of start history t) (processors_of start history t) p units);
      }

  -- the whole entry
  pub followed-tick : IsState (state_after start history) → IsFollowed start history t → IsFollowed start (history ++ entry ∷ []) t
  followed-tick ok (inl resting) = inl (rests_on resting)
  followed-tick ok (inr on) = inr (on.0, runs_on on.0 ok on.1)
