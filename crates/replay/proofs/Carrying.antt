-- The contexts that the workers carried are those that the history gives.
use Rattle.std.proofs.Common.{◌≡◌, ℕ, ◌+◌, List, [], ◌∷◌, ◌++◌, length, map, refl, ap, ◌∙◌}
use Rattle.std.specs.List.{flat_map, range_with_len}
use Rattle.task_set.specs.TaskSet.{IsTaskSet}
use Rattle.task_set.specs.Orders.{Stint, stints_in}
use Rattle.task_set.specs.Context.{carried_context}
use Rattle.task_set.specs.declared.context.Context.{Context}
use Rattle.strong_apa.specs.State.{start_of}
use Rattle.strong_apa.specs.History.{IsLegal}
use Rattle.strong_apa.specs.Dispatch.{closed_orders_of, context_of, contexts_of}
use Rattle.strong_apa.specs.declared.reply.Entry.{Entry}
use Rattle.history_laws.specs.StintLaw.{stints_of_history}
use Rattle.history_laws.proofs.CarriedThroughout.{stints_give_context}
use Rattle.context_slots.specs.Carried.{AllCarried}
use Rattle.context_slots.specs.Hands.{SlotsData, HandData, AreFreeFrom, all_ended}
use Rattle.replay.specs.Places.{AllFrom}
use Rattle.replay.specs.Replayed.{HasAllStints, HaveAllStints}

-- hands with all their stints are free
pub free_hands : (slots : SlotsData) (history : List Entry) (n : ℕ) (hands : List HandData) → AllFrom (HasAllStints slots history) n hands
    → AreFreeFrom slots.id n hands
free_hands slots history n [] all = tt
free_hands slots history n (hand ∷ rest) all = (all.0.of_slots, all.0.number, all.0.holds, free_hands slots history (n + 1) rest all.1)

-- the stints of all hands are those of the history
ended_from : (slots : SlotsData) (history : List Entry) (n : ℕ) (hands : List HandData) → AllFrom (HasAllStints slots history) n hands
    → all_ended hands ≡ flat_map (λ p. stints_in p (closed_orders_of (start_of slots.set) history p)) (range_with_len n (length hands))
ended_from slots history n [] all = refl
ended_from slots history n (hand ∷ rest) all = λ i. all.0.ended i ++ ended_from slots history (n + 1) rest all.1 i

pub stints_of_hands : (slots : SlotsData) (history : List Entry) (hands : List HandData) → HaveAllStints slots history hands
    → all_ended hands ≡ stints_of_history (start_of slots.set) history
stints_of_hands slots history hands have =
    ended_from slots history 0 hands have.each
    ∙ ap (λ (n : ℕ). flat_map (λ p. stints_in p (closed_orders_of (start_of slots.set) history p)) (range_with_len 0 n)) have.one_each

-- contexts that are carried through stints are those of a function that agrees
carried_by : (stints : List Stint) (context : ℕ → Context) → ((t : ℕ) → carried_context t stints ≡ context t)
    → (n : ℕ) (contexts : List Context) → AllCarried stints n contexts → contexts ≡ map context (range_with_len n (length contexts))
carried_by stints context agree n [] all = refl
carried_by stints context agree n (first ∷ rest) all = λ i. (all.0 ∙ agree n) i ∷ carried_by stints context agree (n + 1) rest all.1 i

pub contexts_carried : (slots : SlotsData) (history : List Entry) (hands : List HandData) (contexts : List Context) → IsTaskSet slots.set
    → IsLegal slots.set history → HaveAllStints slots history hands
    → length contexts ≡ length slots.set.tasks → AllCarried (all_ended hands) 0 contexts → contexts ≡ contexts_of slots.set history
contexts_carried slots history hands contexts valid legal have count carried =
    carried_by (all_ended hands) (context_of (start_of slots.set) history)
    (λ t. ap (carried_context t) (stints_of_hands slots history hands have) ∙ stints_give_context slots.set history t valid legal)
    0 contexts carried
    ∙ ap (λ (n : ℕ). map (context_of (start_of slots.set) history) (range_with_len 0 n)) count
