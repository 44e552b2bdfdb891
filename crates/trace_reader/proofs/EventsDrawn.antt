-- Each event is the generated one, and all are of the set.
use Rattle.std.proofs.Common.{◌≡◌, ℕ, zero, suc, drop, ◌+◌, ◌<◌, ◌≤◌, Bool, true, false, nat_eq, if◌then◌else◌, List, [], ◌∷◌, ◌++◌, length}
use Rattle.std.proofs.Common.{get_or, take, All, Some, refl, ap, ◌∙◌, arith, ⊎_elim}
use Rattle.std.proofs.lemmas.Bool.{cases_lt}
use Rattle.std.proofs.lemmas.List.{length-append, length-map, map-append, get_or-map, take-append-le}
use Rattle.std.proofs.lemmas.List.Elements.{All-append}
use Rattle.std.proofs.lemmas.Option.{get_or_from_slice_get}
use Rattle.std.proofs.Math.Seq.{take-append_seam}
use Rattle.task_set.specs.TaskSet.{SetData}
use Rattle.task_set.specs.declared.event.Event.{Event}
use Rattle.task_set.specs.declared.event.Event.TheVariants.{Arrive, Depart, Tick}
use Rattle.task_set.specs.Event.{IsOfVersion}
use Rattle.trace_reader.specs.Input.{IsEventOf, IsPostedOf, AreOfVersion}
use Rattle.trace_reader.specs.declared.posted.Posted.{Posted}
use Rattle.trace_reader.specs.Generated.{is_ready_after, event_of_task, generated_event, draws_before, events_of, AreGeneratedEvents}
use Rattle.trace_reader.specs.Generator.{generator_after, drawn}
use Rattle.trace_reader.specs.Drawing.{AreDrawnEvents, IsReadyTable, DrawsEvent}
use Rattle.trace_reader.proofs.Draws.{drawn_below}
use Rattle.trace_reader.proofs.Places.{slice_get_left, slice_get_seam}

-- ---- one event more
-- the draws before the event after one more
pub draws_after : (tasks : ℕ) (earlier : List Event) (next : Event) → draws_before tasks (earlier ++ next ∷ []) ≡ draws_before tasks earlier
    + 2
draws_after tasks earlier next = omega (arith, length-append earlier (next ∷ []))

pub generated_more : (number tasks : ℕ) (events : List Event) (next : Event) → AreGeneratedEvents number tasks events
    → next ≡ generated_event number tasks events → AreGeneratedEvents number tasks (events ++ next ∷ [])
generated_more number tasks events next each same = λ j within. ⊎_elim
    (λ (before : j < length events).
    rw (slice_get_left events (next ∷ []) j before, take-append-le j events (next ∷ []) (omega arith)) (each j before))
    (λ (last : length events ≤ j).
    let here : j ≡ length events = omega (arith, length-append events (next ∷ [])) in
    rw (here, slice_get_seam events next, take-append_seam events (next ∷ [])) (ap Some same))
    (cases_lt j (length events))

-- ---- so many events
-- these are drawn, with the table and the state after them
pub record HasDrawn (number tasks count state : ℕ) (posted : List Posted) (ready : List Bool) : Type 0 where
  pub drawn_events : AreDrawnEvents number tasks count posted
  pub table : IsReadyTable tasks (events_of posted) ready
  pub at : state ≡ generator_after number (draws_before tasks (events_of posted))

events_of_more : (posted : List Posted) (next : Event) → events_of (posted ++ record { stream = 0; event = next } ∷ []) ≡ events_of posted
    ++ next ∷ []
events_of_more posted next = map-append (λ (one : Posted). one.event) posted (record { stream = 0; event = next } ∷ [])

all_of_one : (next : Event) → All (λ (one : Posted). one.stream ≡ 0) (record { stream = 0; event = next } ∷ [])
all_of_one next zero d within = refl
all_of_one next (suc k) d within = absurd (omega arith)

-- a table that was lent is the one that is given back
pub given_back : (new old : List Bool) (n : ℕ) → length new ≡ length old → n ≡ length old → take n (new ++ drop (length new) old) ≡ new
given_back new old n lent size =
    let all : n ≡ length new = omega (arith, lent, size) in
    ap (λ k. take k (new ++ drop (length new) old)) all ∙ take-append_seam new (drop (length new) old)

pub one_more_drawn : (number tasks count state : ℕ) (posted : List Posted) (ready after : List Bool) (new : ℕ) (next : Event)
    → HasDrawn number tasks count state posted ready → DrawsEvent number tasks new (events_of posted) next after
    → HasDrawn number tasks (count + 1) new (posted ++ record { stream = 0; event = next } ∷ []) after
one_more_drawn number tasks count state posted ready after new next so_far draws = record {
  drawn_events = record {
    number_of_events = omega (arith, so_far.drawn_events.number_of_events, length-append posted (record { stream = 0; event = next } ∷ []));
    each_event =
        rw (events_of_more posted next) (generated_more number tasks (events_of posted) next so_far.drawn_events.each_event draws.event);
    one_stream = All-append (λ (one : Posted). one.stream ≡ 0) posted (record { stream = 0; event = next } ∷ [])
        so_far.drawn_events.one_stream (all_of_one next);
  };
  table = rw (events_of_more posted next) draws.table;
  at = rw (events_of_more posted next) draws.state;
}

-- ---- of the set
event_of_task_is_of : (set : SetData) (t : ℕ) (ready : Bool) → t < length set.tasks → IsEventOf set (if ready then Depart t else Arrive t)
event_of_task_is_of set t true below = (below, tt)
event_of_task_is_of set t false below = (below, tt)

event_is_of : (set : SetData) (number tasks draws : ℕ) (earlier : List Event) (tick : Bool) → length set.tasks ≡ tasks → 0 < tasks
    → IsEventOf set (if tick then Tick (1 + drawn number (draws + 1) 100) else event_of_task (drawn number (draws + 1) tasks) earlier)
event_is_of set number tasks draws earlier true size some =
    (tt, (omega arith, omega (arith, drawn_below number (draws + 1) 100 (omega arith))))
event_is_of set number tasks draws earlier false size some =
    event_of_task_is_of set _ (is_ready_after (drawn number (draws + 1) tasks) earlier)
    (omega (arith, size, drawn_below number (draws + 1) tasks some))

-- each generated event is one of a set with as many tasks
pub drawn_are_posted : (set : SetData) (number tasks count : ℕ) (posted : List Posted) → length set.tasks ≡ tasks → 0 < tasks
    → AreDrawnEvents number tasks count posted → All (IsPostedOf set) posted
drawn_are_posted set number tasks count posted size some drawn_events = λ k d within.
    let there : get_or (events_of posted) k d.event ≡ (get_or posted k d).event = get_or-map (λ (one : Posted). one.event)
    posted k d d.event within in
    let fits : k < length (events_of posted) = rw (length-map posted (λ (one : Posted). one.event)) within in
    let generated = get_or_from_slice_get (events_of posted) k _ d.event (drawn_events.each_event k fits) in
    let before = take k (events_of posted) in
    let of_set = event_is_of set number tasks (draws_before tasks before) before (nat_eq (drawn number (draws_before tasks before) 8) 0)
    size some in
    record {
      stream = omega (arith, drawn_events.one_stream k d within);
      event = rw (← there, generated) of_set;
    }

-- ---- of each version
event_of_task_of_version : (version t : ℕ) (ready : Bool) → IsOfVersion version (if ready then Depart t else Arrive t)
event_of_task_of_version version t true = tt
event_of_task_of_version version t false = tt

event_of_version : (version number tasks draws : ℕ) (earlier : List Event) (tick : Bool)
    → IsOfVersion version (if tick then Tick (1 + drawn number (draws + 1) 100) else event_of_task (drawn number (draws + 1) tasks) earlier)
event_of_version version number tasks draws earlier true = tt
event_of_version version number tasks draws earlier false =
    event_of_task_of_version version _ (is_ready_after (drawn number (draws + 1) tasks) earlier)

-- every version has each generated event
pub drawn_are_of_version : (version number tasks count : ℕ) (posted : List Posted) → AreDrawnEvents number tasks count posted
    → AreOfVersion version posted
drawn_are_of_version version number tasks count posted drawn_events = λ k d within.
    let there : get_or (events_of posted) k d.event ≡ (get_or posted k d).event = get_or-map (λ (one : Posted). one.event)
    posted k d d.event within in
    let fits : k < length (events_of posted) = rw (length-map posted (λ (one : Posted). one.event)) within in
    let generated = get_or_from_slice_get (events_of posted) k _ d.event (drawn_events.each_event k fits) in
    let before = take k (events_of posted) in
    let of_version = event_of_version version number tasks (draws_before tasks before) before
    (nat_eq (drawn number (draws_before tasks before) 8) 0) in
    rw (← there, generated) of_version
