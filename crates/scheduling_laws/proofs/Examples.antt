-- The definitions on one example, worked by hand. Two processors; a may run on both, b on 1 alone, and c, the least urgent, on both.
-- They arrive as c, a, b. So c takes processor 0 and a processor 1, and then a moves aside for b, and c waits.
use Rattle.std.proofs.Common.{◌≡◌, ℕ, zero, suc, ◌<◌, ◌≤◌, Bool, true, false, List, [], ◌∷◌, map, Some, None, refl, sym, ap, ◌∙◌, IsTrue}
use Rattle.std.proofs.Common.{arith, eqb-true, ◌&&◌, ◌==◌}
use Rattle.std.specs.Prelude.{All, length, nat_lt}
use Rattle.std.proofs.lemmas.Bool.{ltb-true, lt-ltb, false≢true, and_parts}
use Rattle.std.proofs.lemmas.List.Elements.{All-nil, All-cons}
use Rattle.std.proofs.lemmas.Option.{same_Some}
use Rattle.affinity_mask.specs.ProcSet.{has, all_below, intersection, passing_below}
use Rattle.affinity_mask.proofs.Sets.{has-all_below}
use Rattle.task_set.specs.TaskSet.{SetData, TaskData}
use Rattle.task_set.specs.declared.event.Event.{Event}
use Rattle.task_set.specs.declared.event.Event.TheVariants.{Arrive, Tick, Affinity, Offline}
use Rattle.task_set.specs.declared.order.Order.{Order}
use Rattle.task_set.specs.declared.order.Order.TheVariants.{Release, Take, Run, Stop}
use Rattle.strong_apa.specs.declared.reply.Reply.{Reply}
use Rattle.strong_apa.specs.declared.reply.Came.TheVariants as came
use Rattle.strong_apa.specs.declared.reply.Reply.TheVariants.{Placed, Displaced, Ticked, Remasked}
use Rattle.strong_apa.specs.declared.reply.Entry.{Entry}
use Rattle.strong_apa.specs.State.{State, IsWaiting, priority_of, effective_mask, start_of}
use Rattle.strong_apa.specs.Chain.{Reaches, IsReach}
use Rattle.strong_apa.specs.History.{linked_after, ready_after, state_at, effect_of}
use Rattle.strong_apa.specs.Dispatch.{closed_orders_of}
use Rattle.strong_apa.proofs.Paths.{Reaches-online}
use Rattle.trace_reader.specs.declared.posted.Posted.{Posted}
use Rattle.job_release.specs.Jobs.{job_at}
use Rattle.job_release.specs.JobInput.{JobInputData}
use Rattle.job_release.specs.Moments as moments
use Rattle.job_release.specs.declared.input.Job.{Job}
use Rattle.scheduling_laws.specs.Faces.{IsCertifiedByReach}
use Rattle.scheduling_laws.specs.FewestMoves.{moved_count}
use Rattle.scheduling_laws.specs.Going.{IsRun, times_taken, times_released, CanBeObeyed}
use Rattle.scheduling_laws.specs.Hall.{confined_count, IsCrowded}
use Rattle.scheduling_laws.specs.InReach.{IsWorkConserving, HasNoInversion}
use Rattle.scheduling_laws.specs.Isolation.{IsUrgent, IsSameTask, AgreeUpTo}
use Rattle.scheduling_laws.specs.Merges.{HaveStreams, HaveSameTasksLinked}
use Rattle.scheduling_laws.specs.Migrations.{migrations_of, events_of_others}
use Rattle.scheduling_laws.specs.MoreProcessors.{HasMoreRoom, HasMoreRoomUpTo}
use Rattle.scheduling_laws.specs.OneEnd.{is_of_task, is_of_processor, events_that, events_by, HaveSameEvents, HaveCallers}
use Rattle.scheduling_laws.specs.Response.{can_interfere, width_of, waiting_of, interference_of, interfering_demand}
use Rattle.scheduling_laws.specs.ShiftCounts.{shifts_of, most_shifts}
use Rattle.scheduling_laws.specs.Sustained.{IsNoLonger, AsksNoMore, AsksNoMoreUpTo}
use Rattle.scheduling_laws.specs.TopTwo.{IsOfTopTwo}
use Rattle.scheduling_laws.specs.Urgency.{urgent_of}
use Rattle.scheduling_laws.specs.UrgentWork.{IsChoice, urgent_work}
use Rattle.scheduling_laws.specs.Weights.{weight_of}
use Rattle.scheduling_laws.specs.WiderMasks.{HasWiderMask}

-- a mask is written as the number whose ones are its processors; names play no part
abbrev task : ℕ → ℕ → TaskData
task priority mask = record { name = []; priority = priority; mask = mask }

abbrev three_tasks : SetData
three_tasks = record { processors = 2; tasks = task 1 3 ∷ task 2 2 ∷ task 3 3 ∷ [] }

abbrev entry : Event → Reply → Entry
entry event reply = record { caller = 0; event = event; reply = reply }

abbrev moved_aside : List Entry
moved_aside =
    entry (Arrive 2) (Placed (0 ∷ []))
    ∷ entry (Arrive 0) (Placed (1 ∷ []))
    ∷ entry (Arrive 1) (Displaced (1 ∷ 0 ∷ []) 2 3)
    ∷ entry (Tick 5) Ticked
    ∷ []

-- ---- the changes of places. One running task is shifted, at the third entry: a goes from 1 to 0. b can run on 1 alone, so no placement
-- of the two moves fewer. It is the one migration of a, at the one event of another task while a is ready
abbrev a_aside : ℕ → ℕ
a_aside zero = 0
a_aside (suc t) = 1

moves : (map (λ (e : Entry). shifts_of e.reply) moved_aside ≡ 0 ∷ 0 ∷ 1 ∷ 0 ∷ [])
    × (map (most_shifts 2) (Arrive 0 ∷ Affinity 0 1 ∷ Tick 5 ∷ []) ≡ 1 ∷ 2 ∷ 0 ∷ [])
    × (moved_count (state_at three_tasks moved_aside 2) (state_at three_tasks moved_aside 3) a_aside ≡ 1)
    × (migrations_of (start_of three_tasks) moved_aside 0 ≡ 1)
    × (events_of_others (start_of three_tasks) moved_aside 0 ≡ 1)
unfolding passing_below
moves = (refl, refl, refl, refl, refl)

-- ---- a change of a mask may move a task in vain: b is on 0, a on 1, c waits for 1. Now b may run on 1 too, and leaves: a goes on 0, c on
-- 1. Then b comes back, and displaces c. Both are moved, and neither had to be
abbrev c_behind_a : State
c_behind_a = record {
  processors = 2;
  priorities = 1 ∷ 2 ∷ 3 ∷ [];
  masks = 3 ∷ 1 ∷ 2 ∷ [];
  online = 3;
  ready = true ∷ true ∷ true ∷ [];
  on = Some 1 ∷ Some 0 ∷ [];
}

abbrev mask_changes : Entry
mask_changes =
    entry (Affinity 1 3) (Remasked (Some record { entered = Some 2; chain = 0 ∷ 1 ∷ []; back = 3 }) (came.Displaced (1 ∷ []) 2 3))

abbrev b_stays : ℕ → ℕ
b_stays zero = 1
b_stays (suc t) = 0

in_vain : ((effect_of c_behind_a mask_changes).on ≡ Some 0 ∷ Some 1 ∷ [])
    × (moved_count c_behind_a (effect_of c_behind_a mask_changes) a_aside ≡ 2)
    × (moved_count c_behind_a (effect_of c_behind_a mask_changes) b_stays ≡ 0)
unfolding passing_below
in_vain = (refl, refl, refl)

-- ---- who is urgent up to priority 2, of all tasks. The tick of 5 units is work of a and b; of a alone, had nobody else been chosen. By
-- weights of 4, 2 and 1 the linked a and b weigh 6, and a alone 4
abbrev a_alone : ℕ → ℕ → Bool
a_alone n t = nat_lt 1 n && (t == 0)

abbrev weights_of : ℕ → ℕ
weights_of zero = 4
weights_of (suc zero) = 2
weights_of (suc (suc t)) = 1

work : (map (urgent_of (start_of three_tasks) (λ t. true) 2) (0 ∷ 1 ∷ 2 ∷ []) ≡ true ∷ true ∷ false ∷ [])
    × (urgent_work (start_of three_tasks) moved_aside (linked_after three_tasks moved_aside) 2 ≡ 10)
    × (urgent_work (start_of three_tasks) moved_aside a_alone 2 ≡ 5)
    × (weight_of (start_of three_tasks) weights_of (linked_after three_tasks moved_aside 3) ≡ 6)
    × (weight_of (start_of three_tasks) weights_of (a_alone 3) ≡ 4)
unfolding passing_below
work = (refl, refl, refl, refl, refl)

is_a : (n t : ℕ) → a_alone n t ≡ true → t ≡ 0
is_a n t is = eqb-true t 0 (and_parts (nat_lt 1 n) (t == 0) is).1

a_is_ready : (n : ℕ) → n < 4 → a_alone n 0 ≡ true → ready_after three_tasks moved_aside n 0 ≡ true
a_is_ready zero below is = absurd (false≢true is)
a_is_ready (suc zero) below is = absurd (false≢true is)
a_is_ready (suc (suc zero)) below is = refl
a_is_ready (suc (suc (suc zero))) below is = refl
a_is_ready (suc (suc (suc (suc n)))) below is = absurd (omega arith)

a_fits : (n : ℕ) → n < 4 → IsTrue (has (effective_mask (state_at three_tasks moved_aside n) 0) 1)
unfolding has intersection all_below
a_fits zero below = refl
a_fits (suc zero) below = refl
a_fits (suc (suc zero)) below = refl
a_fits (suc (suc (suc zero))) below = refl
a_fits (suc (suc (suc (suc n)))) below = absurd (omega arith)

is_choice : IsChoice (start_of three_tasks) moved_aside a_alone
is_choice n below = (
  (λ t is. let at_0 = is_a n t is in rw at_0 (a_is_ready n below (rw at_0 at is))),
  (
    (λ t. 1),
    record {
      allowed = λ t is. rw (is_a n t is) (a_fits n below);
      apart = λ t u is also e. is_a n t is ∙ sym (is_a n u also);
    },
  ),
)

-- ---- c can run on two processors, and waits for all 5 moments of the tick; a and b, which can interfere, get 10 units there. All three
-- are confined to processors 0 and 1, so that they crowd them; to processor 1 b alone is
waits : (map (can_interfere (start_of three_tasks) 2) (0 ∷ 1 ∷ 2 ∷ []) ≡ true ∷ true ∷ false ∷ [])
    × (width_of (start_of three_tasks) 2 ≡ 2)
    × (waiting_of (moments.state_of_moment (start_of three_tasks) moved_aside) 2 5 ≡ 5)
    × (interference_of (start_of three_tasks) (moments.state_of_moment (start_of three_tasks) moved_aside) 2 0 5 ≡ 10)
    × (confined_count (start_of three_tasks) (λ t. nat_lt t 3) 2 ≡ 1)
unfolding passing_below has intersection all_below
waits = (refl, refl, refl, refl, refl)

crowded : IsCrowded (start_of three_tasks) (λ t. nat_lt t 3) 3
unfolding passing_below has intersection all_below
crowded = omega arith

-- ---- the events of a, and those of the only caller
events : (events_that (is_of_task 0) moved_aside ≡ Arrive 0 ∷ []) × (events_by 0 moved_aside ≡ Arrive 2 ∷ Arrive 0 ∷ Arrive 1 ∷ Tick 5 ∷ [])
events = (refl, refl)

-- ---- c has its events on stream 1, and the others on stream 0
both_are : {A : Type 0} (P : A → Type 0) (x y : A) → P x → P y → All P (x ∷ y ∷ [])
both_are P x y one other = All-cons P x (y ∷ []) one (All-cons P y [] other (All-nil P))

abbrev posted : ℕ → Event → Posted
posted stream event = record { stream = stream; event = event }

abbrev stream_of : ℕ → ℕ
stream_of (suc (suc zero)) = 1
stream_of t = 0

two_streams : HaveStreams stream_of (λ p. 0) (posted 1 (Arrive 2) ∷ posted 0 (Arrive 0) ∷ [])
two_streams = record {
  tasks = λ t. both_are (λ (event : Posted). is_of_task t event.event ≡ true → event.stream ≡ stream_of t) _ _
      (λ is. ap stream_of (eqb-true 2 t is)) (λ is. ap stream_of (eqb-true 0 t is));
  processors = λ p. both_are (λ (event : Posted). is_of_processor p event.event ≡ true → event.stream ≡ 0) _ _
      (λ is. absurd (false≢true is)) (λ is. absurd (false≢true is));
}

-- ---- an arrival of c and processor 0 off line, in either order; the replies differ
abbrev arrival_first : List Entry
arrival_first = entry (Arrive 2) (Placed (0 ∷ [])) ∷ entry (Offline 0) Ticked ∷ []

abbrev processor_first : List Entry
processor_first = entry (Offline 0) Ticked ∷ entry (Arrive 2) (Placed (1 ∷ [])) ∷ []

same_events : HaveSameEvents arrival_first processor_first
same_events = record { of_task = λ t. refl; of_processor = λ p. refl }

-- with c a second time there is one event more of c
counted_twice : HaveSameEvents arrival_first (entry (Arrive 2) Ticked ∷ processor_first) → suc zero ≡ suc (suc zero)
counted_twice same = ap length (same.of_task 2)

one_more_event : HaveSameEvents arrival_first (entry (Arrive 2) Ticked ∷ processor_first) → ⊥
one_more_event same = omega (arith, counted_twice same)

one_caller : HaveCallers (λ t. 0) (λ p. 0) arrival_first
one_caller = record {
  tasks = λ t. both_are (λ (e : Entry). is_of_task t e.event ≡ true → e.caller ≡ 0) _ _ (λ is. refl) (λ is. refl);
  processors = λ p. both_are (λ (e : Entry). is_of_processor p e.event ≡ true → e.caller ≡ 0) _ _ (λ is. refl) (λ is. refl);
}

-- ---- obeying: processor 0 takes c and releases it, and then takes a, once processor 1 has released it
abbrev orders : ℕ → List Order
orders p = closed_orders_of (start_of three_tasks) moved_aside p

orders_are : map orders (0 ∷ 1 ∷ [])
    ≡ (Take 2 0 ∷ Release 2 ∷ Take 0 1 ∷ Run 5 ∷ Release 0 ∷ Stop ∷ []) ∷ (Take 0 0 ∷ Release 0 ∷ Take 1 0 ∷ Run 5 ∷ Release 1 ∷ Stop ∷ [])
    ∷ []
orders_are = refl

-- the latest step first
abbrev one_taken : List ℕ
one_taken = 1 ∷ 0 ∷ 0 ∷ []

is_run : IsRun 2 orders one_taken
is_run = (
  record { processor = omega arith; next = Take 0 0; is_next = refl; can = (refl, refl) },
  (
    record { processor = omega arith; next = Release 2; is_next = refl; can = tt },
    (record { processor = omega arith; next = Take 2 0; is_next = refl; can = (refl, refl) }, tt),
  ),
)

counted : (times_taken 2 orders one_taken 0 ≡ 1) × (times_released 2 orders one_taken 0 ≡ 0)
counted = (refl, refl)

too_early : CanBeObeyed (times_taken 2 orders one_taken) (times_released 2 orders one_taken) (Take 0 1) → ⊥
too_early can =
    let released : times_released 2 orders one_taken 0 ≡ 1 = can.1 in absurd (let e : 0 ≡ 1 = sym counted.1 ∙ released in omega arith)

in_time : CanBeObeyed (times_taken 2 orders (1 ∷ one_taken)) (times_released 2 orders (1 ∷ one_taken)) (Take 0 1)
in_time = (refl, refl)

-- ---- where a does not move aside, b waits, and reaches processor 0 by way of a, where c runs, which is less urgent
abbrev stayed : State
stayed = record (state_at three_tasks moved_aside 3) { on = Some 2 ∷ Some 0 ∷ [] }

b_waits : IsWaiting stayed 1
b_waits = record { ready = refl; not_linked = refl }

b_reaches_0 : Reaches stayed 1 0
unfolding has intersection all_below
b_reaches_0 = (1 ∷ 0 ∷ [], (refl, ((0, refl, refl), refl)))

b_reaches_1 : Reaches stayed 1 1
unfolding has intersection all_below
b_reaches_1 = (1 ∷ [], (refl, refl))

priority_inverted : HasNoInversion stayed → ⊥
priority_inverted none = let more_urgent = none 1 0 2 b_waits b_reaches_0 refl in omega arith

reach_of_b : IsReach stayed 1 3
unfolding all_below
reach_of_b q = (
  (λ h. reached q (ltb-true q 2 (sym (has-all_below 2 q) ∙ h))),
  Reaches-online stayed 1 q,
)
  where
    reached : (q : ℕ) → q < 2 → Reaches stayed 1 q
    reached zero lt = b_reaches_0
    reached (suc zero) lt = b_reaches_1
    reached (suc (suc q)) lt = absurd (omega arith)

reach_is_no_certificate : IsCertifiedByReach stayed → ⊥
unfolding has
reach_is_no_certificate certified =
    let held = (certified 1 3 b_waits reach_of_b).occupied 0 refl in
    let occupant : 2 ≡ held.0 = same_Some 2 held.0 held.1 in
    let more_urgent = held.2 in
    absurd (let priorities = ap (priority_of stayed) occupant in omega arith)

-- ---- and were c absent, processor 0 would idle, which b reaches
abbrev idled : State
idled = record stayed { on = None ∷ Some 0 ∷ [] }

work_lost : IsWorkConserving idled → ⊥
unfolding has intersection all_below
work_lost conserving = conserving 1 0 record { ready = refl; not_linked = refl } (1 ∷ 0 ∷ [], (refl, ((0, refl, refl), refl))) (refl, refl)

-- ---- an input with c, and one without it, agree up to priority 2; and b's jobs are shorter in the second
abbrev job : ℕ → ℕ → Job
job release cost = record { release = release; cost = cost; deadline = Some 9 }

abbrev two_jobs : ℕ → List Job
two_jobs cost = job 0 cost ∷ job 9 cost ∷ []

abbrev with_c : JobInputData
with_c = record { version = 2; set = three_tasks; horizon = 30; jobs = two_jobs 3 ∷ two_jobs 4 ∷ two_jobs 5 ∷ [] }

abbrev without_c : ℕ → JobInputData
without_c cost = record {
  version = 2;
  set = record { processors = 2; tasks = task 1 3 ∷ task 2 2 ∷ [] };
  horizon = 30;
  jobs = two_jobs 3 ∷ two_jobs cost ∷ [];
}

-- a and b are those up to priority 2
of_two : (P : ℕ → Type 0) → P 0 → P 1 → (t : ℕ) → t < 2 → P t
of_two P one other zero lt = one
of_two P one other (suc zero) lt = other
of_two P one other (suc (suc t)) lt = absurd (omega arith)

a_or_b : (t : ℕ) → IsUrgent with_c 2 t → t < 2
a_or_b zero h = omega arith
a_or_b (suc zero) h = omega arith
a_or_b (suc (suc zero)) h = absurd (let above = h.1 in omega arith)
a_or_b (suc (suc (suc t))) h = absurd (let beyond = h.0 in omega arith)

with_is_urgent : (cost t : ℕ) → IsUrgent (without_c cost) 2 t → IsUrgent with_c 2 t
with_is_urgent cost t h = of_two (IsUrgent with_c 2) (omega arith, omega arith) (omega arith, omega arith) t h.0

without_is_urgent : (cost t : ℕ) → IsUrgent with_c 2 t → IsUrgent (without_c cost) 2 t
without_is_urgent cost t h = of_two (IsUrgent (without_c cost) 2) (omega arith, omega arith) (omega arith, omega arith) t (a_or_b t h)

agree : AgreeUpTo 2 with_c (without_c 4)
agree = record {
  processors = refl;
  horizon = refl;
  urgent = λ t. (without_is_urgent 4 t, with_is_urgent 4 t);
  same = λ t urgent. of_two (IsSameTask with_c (without_c 4)) (record { priority = refl; mask = refl; jobs = refl })
      (record { priority = refl; mask = refl; jobs = refl }) t (a_or_b t urgent);
}

no_longer : (one other : ℕ) → other ≤ one → (k : ℕ) → k < 2 → IsNoLonger (job_at (two_jobs one) k) (job_at (two_jobs other) k)
no_longer one other le = of_two (λ k. IsNoLonger (job_at (two_jobs one) k) (job_at (two_jobs other) k))
    (record { release = refl; cost = le }) (record { release = refl; cost = le })

asks_no_more : AsksNoMoreUpTo 2 with_c (without_c 2)
asks_no_more = record {
  processors = refl;
  horizon = refl;
  urgent = with_is_urgent 2;
  each = λ t urgent. of_two (AsksNoMore with_c (without_c 2))
      (record { priority = refl; mask = refl; count = refl; each = no_longer 3 3 (omega arith) })
      (record { priority = refl; mask = refl; count = refl; each = no_longer 4 2 (omega arith) }) t urgent.0;
}

-- c asks for 5 units at 0 and at 9; a and b ask for 3 and 4 before 9, and so c is done by 8, as 7 < 2 * (8 + 1 - 5)
demanded : interfering_demand with_c 2 7 ≡ 7
unfolding passing_below intersection
demanded = refl

-- ---- a on 0 and b on 1, or each one further, where 0 is idle: the same tasks are linked, to other processors
abbrev placed_so : State
placed_so = record (state_at three_tasks moved_aside 3) { on = Some 0 ∷ Some 1 ∷ [] }

same_linked : HaveSameTasksLinked placed_so (record placed_so { on = None ∷ Some 0 ∷ Some 1 ∷ [] })
same_linked = record { ready = λ t. refl; linked = λ t. refl }

without_b : HaveSameTasksLinked placed_so (record placed_so { on = Some 0 ∷ None ∷ [] }) → ⊥
without_b same = absurd (false≢true (sym (same.linked 1)))

-- ---- an input of a alone. Of two processors the one input has the first alone, and of the mask 0-1 of a it has 0; or it has both, and
-- the mask of a has 0 alone
abbrev of_a : ℕ → ℕ → JobInputData
of_a processors mask =
    record { version = 2; set = record { processors = processors; tasks = task 1 mask ∷ [] }; horizon = 30; jobs = two_jobs 3 ∷ [] }

more_room : HasMoreRoomUpTo 2 (of_a 1 1) (of_a 2 3)
unfolding intersection all_below
more_room = record { processors = omega arith; horizon = refl; urgent = λ t urgent. urgent; each = λ t urgent. each t urgent.0 }
  where
    each : (t : ℕ) → t < 1 → HasMoreRoom (of_a 1 1) (of_a 2 3) t
    each zero lt = record { priority = refl; mask = refl; count = refl; each = no_longer 3 3 (omega arith) }
    each (suc t) lt = absurd (omega arith)

in_both : (p : ℕ) → IsTrue (has 1 p) → IsTrue (has 3 p)
unfolding all_below
in_both p there = has-all_below 2 p ∙ lt-ltb p 2 (let below = ltb-true p 1 (sym (has-all_below 1 p) ∙ there) in omega arith)

wider_mask : HasWiderMask 0 (of_a 2 1) (of_a 2 3)
wider_mask = record {
  processors = refl;
  horizon = refl;
  task = omega arith;
  urgent = λ u. ((λ h. h), (λ h. h));
  same = λ u urgent other. absurd (let lt = urgent.0 in omega arith);
  priority = refl;
  jobs = refl;
  wider = in_both;
}

-- ---- of three tasks a and b are the most urgent two
above_b : (u : ℕ) → u < 3 → priority_of (start_of three_tasks) u < 2 → u ≡ 0
above_b zero lt less = refl
above_b (suc zero) lt less = absurd (omega arith)
above_b (suc (suc zero)) lt less = absurd (omega arith)
above_b (suc (suc (suc u))) lt less = absurd (omega arith)

b_is_second : IsOfTopTwo (start_of three_tasks) 1
b_is_second u v lu lv up vp = above_b u lu up ∙ sym (above_b v lv vp)

c_is_third : IsOfTopTwo (start_of three_tasks) 2 → ⊥
c_is_third top = absurd (let same : 0 ≡ 1 = top 0 1 (omega arith) (omega arith) (omega arith) (omega arith) in omega arith)
