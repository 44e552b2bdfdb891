-- The smallest generated input, worked out by hand.
use Rattle.std.proofs.Common.{◌≡◌, [], ◌∷◌, refl}
use Rattle.task_set.specs.declared.event.Event.TheVariants.{Arrive, Depart}
use Rattle.trace_reader.specs.Generator.{generator_after, drawn}
use Rattle.trace_reader.specs.Generated.{task_priority, first_processor, last_processor, generated_event, is_ready_after}

first_state : generator_after 0 1 ≡ 1442695040888963407
unfolding generator_after
first_state = refl

first_priority : task_priority 0 0 ≡ 807
unfolding generator_after
first_priority = refl

the_one_processor : first_processor 0 1 0 ≡ 0
unfolding generator_after
the_one_processor = refl

and_no_more : last_processor 0 1 0 ≡ 0
unfolding generator_after
and_no_more = refl

-- the fourth draw says that it is no tick
first_kind : drawn 0 3 8 ≡ 4
unfolding generator_after
first_kind = refl

first_event : generated_event 0 1 [] ≡ Arrive 0
unfolding generator_after
first_event = refl

-- a task that arrived and departed is not ready
gone_again : is_ready_after 1 (Arrive 1 ∷ Arrive 2 ∷ Depart 1 ∷ []) ≡ is_ready_after 1 []
gone_again = refl
