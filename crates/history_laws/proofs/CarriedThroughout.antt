-- A task carries its context through a whole history and its close.
use Rattle.std.proofs.Common.{◌≡◌, ◌≢◌, ℕ, zero, suc, ◌+◌, ◌<◌, ◌==◌, List, [], ◌∷◌, ◌++◌, fold, Option, Some, None, refl, sym, ap, ◌∙◌}
use Rattle.std.proofs.Common.{inl, inr, append_assoc, append-nil}
use Rattle.std.specs.Prelude.{option_to_list}
use Rattle.std.specs.List.{range_with_len, flat_map}
use Rattle.std.proofs.lemmas.List.Elements.{All-nil, filter-append}
use Rattle.task_set.specs.declared.event.Event.{Event}
use Rattle.task_set.specs.declared.event.Event.TheVariants.{Tick}
use Rattle.task_set.specs.Orders.{Stint, stints_in}
use Rattle.task_set.specs.Context.{carried_context, context_after_stint, fresh_context, stints_of_task}
use Rattle.task_set.proofs.Stints.{stints_from-append}
use Rattle.strong_apa.specs.declared.reply.Entry.{Entry}
use Rattle.strong_apa.specs.State.{State, IsState, start_of, task_on}
use Rattle.strong_apa.specs.Step.{SchedulerStep}
use Rattle.strong_apa.specs.History.{effect_of, state_after, IsLegalFrom}
use Rattle.strong_apa.specs.Dispatch.{closed_orders_of, orders_of, context_of, processors_of}
use Rattle.strong_apa.proofs.Histories.{state_after-push, IsState-state_after}
use Rattle.strong_apa.proofs.Linked.{occupied_number}
use Rattle.strong_apa.proofs.Start.{IsState-start}
use Rattle.strong_apa.proofs.Steps.{step_keeps_state}
use Rattle.history_laws.specs.StintLaw.{StintsGiveContextFrom, StintsGiveContext, StintsAreTakesFrom, StintsAreTakes, AreTakes}
use Rattle.history_laws.specs.StintLaw.{stints_of_history}
use Rattle.history_laws.proofs.CarriedAlong.{ended, IsFollowed, ended_on}
use Rattle.history_laws.proofs.CarriedByChanges.{followed-change}
use Rattle.history_laws.proofs.CarriedByTicks.{followed-tick}
use Rattle.history_laws.proofs.OrderLists.{close_orders, closed_orders_of-split}
use Rattle.strong_apa.proofs.SameTasks.{same_tasks-effect, same_tasks-history}
use Rattle.history_laws.proofs.Starts.{nobody_ready}
use Rattle.history_laws.proofs.StintsOfTask.{flat_range-same, own, stints_of_task-flat_map, stints_of_task-closed, carried_context-more}
use Rattle.history_laws.proofs.StintsOrdered.{under_way_on, task_of-under_way, own-other, own-one, ended-close, next_state}

module _ (start : State) (idle : (q : ℕ) → task_on start q ≡ None) (t : ℕ) where
  -- ---- one more entry
  followed-entry : (history : List Entry) (entry : Entry) (event : Event) → entry.event ≡ event → IsState (state_after start history)
      → (state_after start history).processors ≡ start.processors
      → SchedulerStep (state_after start history) event entry.reply (next_state start history entry)
      → IsState (next_state start history entry)
      → IsFollowed start history t → IsFollowed start (history ++ entry ∷ []) t
  followed-entry history entry (Tick units) is ok same step ok' = followed-tick start idle history t entry units is step.1 ok
  followed-entry history entry event is ok same step ok' =
      followed-change start idle history t entry (record { orders = λ occupant. rw is refl; runs = λ places. rw is refl }) ok ok' same
      (same_tasks-effect (state_after start history) entry).processors

  -- ---- a whole history
  followed-history : (history rest : List Entry) → IsState (state_after start history) → (state_after start history).processors
      ≡ start.processors → IsLegalFrom (state_after start history) rest
      → IsFollowed start history t → IsFollowed start (history ++ rest) t
  followed-history history [] ok same legal followed = rw (append-nil history) followed
  followed-history history (entry ∷ rest) ok same legal followed =
      let s = state_after start history in
      let ok' : IsState (effect_of s entry) = step_keeps_state s entry.event entry.reply (effect_of s entry) ok legal.0 in
      let next = state_after-push start history entry in
      rw (← append_assoc history (entry ∷ []) rest)
      (followed-history (history ++ entry ∷ []) rest (rw next ok') (rw next ((same_tasks-effect s entry).processors ∙ same))
      (rw next legal.1)
      (followed-entry history entry entry.event refl ok same legal.0 ok' followed))

  -- before any entry
  followed-start : IsFollowed start [] t
  followed-start = inl (record {
    nowhere = λ q e. let none = idle q in cc;
    settled = let empty = none_ended start.processors 0 in
        record {
          earlier = rw empty (All-nil (λ (stint : Stint). stint.number < 0));
          takes = rw empty (record { numbers = refl; processors = refl });
          carried = rw empty refl;
        };
  })
    where
      none_ended : (n a : ℕ) → flat_map (ended_on start [] t) (range_with_len a n) ≡ []
      none_ended zero a = refl
      none_ended (suc n) a = none_ended n (a + 1)

  -- ---- the close
  -- the stints of t on a processor after the close: those that ended before, and the one under way
  closed_on : (history : List Entry) (p : ℕ) → own t (stints_in p (closed_orders_of start history p)) ≡ ended_on start history t p
      ++ own t (option_to_list (under_way_on start history p))
  closed_on history p =
      let orders = orders_of start history p in
      let occupant = task_on (state_after start history) p in
      let more : stints_in p (closed_orders_of start history p) ≡ stints_in p orders ++ option_to_list (under_way_on start history p) =
      ap (stints_in p) (closed_orders_of-split start history p)
      ∙ stints_from-append p None orders (close_orders occupant)
      ∙ ap (λ (l : List Stint). stints_in p orders ++ l)
      (ended-close p (under_way_on start history p) occupant (task_of-under_way start idle history p)) in
      ap (own t) more ∙ filter-append (λ (stint : Stint). stint.task == t) (stints_in p orders)
      (option_to_list (under_way_on start history p))

  closed_on-elsewhere : (history : List Entry) (p : ℕ) → task_on (state_after start history) p ≢ Some t
      → own t (stints_in p (closed_orders_of start history p)) ≡ ended_on start history t p
  closed_on-elsewhere history p other =
      closed_on history p
      ∙ ap (λ (l : List Stint). ended_on start history t p ++ l)
      (own-other t (under_way_on start history p) (λ e. other (sym (task_of-under_way start idle history p) ∙ e)))
      ∙ append-nil (ended_on start history t p)

  -- after the close the stints of t are its takes, and carry its context
  stints-close : (history : List Entry) → IsState (state_after start history) → (state_after start history).processors ≡ start.processors
      → IsFollowed start history t → (stints : List Stint)
      → stints ≡ flat_map (λ p. own t (stints_in p (closed_orders_of start history p))) (range_with_len 0 start.processors)
      → AreTakes (stints_of_task t stints) (processors_of start history t) × (carried_context t stints ≡ context_of start history t)
  stints-close history ok same (inl resting) stints are =
      let none : stints ≡ ended start history t =
      are ∙ flat_range-same (ended_on start history t) (λ p. own t (stints_in p (closed_orders_of start history p))) 0 start.processors
      (λ q le. closed_on-elsewhere history q (resting.nowhere q)) in
      rw none (resting.settled.takes, resting.settled.carried)
  stints-close history ok same (inr on) stints are =
      let p = on.0 in
      let fits : p < start.processors = rw (← same) (occupied_number (state_after start history) p t ok on.1.there) in
      let here : own t (stints_in p (closed_orders_of start history p)) ≡ ended_on start history t p ++ on.1.stint ∷ [] =
      closed_on history p
      ∙ ap (λ (under_way : Option Stint). ended_on start history t p ++ own t (option_to_list under_way)) on.1.under_way
      ∙ ap (λ (l : List Stint). ended_on start history t p ++ l) (own-one t on.1.stint on.1.task) in
      let more : stints_of_task t stints ≡ stints_of_task t (ended start history t) ++ on.1.stint ∷ [] =
      ap (stints_of_task t) are
      ∙ stints_of_task-closed t start.processors p (ended_on start history t) (λ q. own t (stints_in q (closed_orders_of start history q)))
      on.1.stint fits on.1.task on.1.earlier
      (λ q other. closed_on-elsewhere history q (λ e. other (ok.once q p t e on.1.there))) here in
      (rw more on.1.takes, carried_context-more t (ended start history t) stints on.1.stint more ∙ on.1.carried)

-- the stints of a task after the close, from any state in which no task is linked
pub stints-history : (start : State) → IsState start → ((q : ℕ) → task_on start q ≡ None) → (history : List Entry) (t : ℕ)
    → IsLegalFrom start history
    → AreTakes (stints_of_task t (stints_of_history start history)) (processors_of start history t)
    × (carried_context t (stints_of_history start history) ≡ context_of start history t)
stints-history start ok idle history t legal =
    let same = stints_of_task-flat_map t (λ p. stints_in p (closed_orders_of start history p)) (range_with_len 0 start.processors) in
    let all = stints-close start idle t history (IsState-state_after start history ok legal) (same_tasks-history start history).processors
    (followed-history start idle t [] history ok refl legal (followed-start start idle t)) _ refl in
    (rw same all.0, ap (fold context_after_stint (fresh_context t)) same ∙ all.1)

-- ---- the laws
pub stints_give_context-from : StintsGiveContextFrom
stints_give_context-from start history t ok nobody legal = (stints-history start ok nobody.idle history t legal).1

pub stints_give_context : StintsGiveContext
stints_give_context set history t valid_set =
    stints_give_context-from (start_of set) history t (IsState-start set valid_set) (nobody_ready set)

pub stints_are_takes-from : StintsAreTakesFrom
stints_are_takes-from start history t ok nobody legal = (stints-history start ok nobody.idle history t legal).0

pub stints_are_takes : StintsAreTakes
stints_are_takes set history t valid_set = stints_are_takes-from (start_of set) history t (IsState-start set valid_set) (nobody_ready set)
