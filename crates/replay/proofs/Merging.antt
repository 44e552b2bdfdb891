-- The history of a closed board is a merge of the events whose streams its passes posted.
use Rattle.std.proofs.Common.{◌≡◌, ◌≢◌, ℕ, ◌+◌, ◌<◌, ◌≤◌, ◌==◌, Bool, true, false, cond, List, [], ◌∷◌, length, map, filter, sym, refl, ap}
use Rattle.std.proofs.Common.{◌∙◌, subst, ⊎_elim, arith, ne_eqb, eqb-true, All, Contains}
use Rattle.std.proofs.lemmas.List.Elements.{All-head, All-tail, All-weaker, Contains-append_right}
use mathlib.Core.Logic.{dite}
use native.Mathlib.Decide.{dec_le}
use Rattle.task_set.specs.declared.event.Event.{Event}
use Rattle.strong_apa.specs.declared.reply.Entry.{Entry}
use Rattle.trace_reader.specs.declared.posted.Posted.{Posted}
use Rattle.sched_core.specs.CoreData.{CoreData}
use Rattle.event_history.specs.Boards.{BoardData, PassData, AreAllPasses}
use Rattle.event_history.specs.Closing.{AllTell, IsCoreOf}
use Rattle.event_history.specs.Merging.{AreEventsAt, AllPosted, HoldsEvents}
use Rattle.event_history.proofs.Merging.{closed_board_holds_events}
use Rattle.replay.specs.Merge.{events_of_stream, streams_of, IsMerge}
use Rattle.replay.specs.Places.{AllFrom}
use Rattle.replay.specs.Streams.{IsForBoard, IsPassAt, IsStreamedAt, SomeSawClose}
use Rattle.replay.proofs.Places.{AllFrom-weaker}
use Rattle.replay.proofs.Posts.{passes_from}

-- where a pass saw the close, the core is closed
pub saw_closed : (history : List Entry) (closed : Bool) (passes : List PassData) → AllTell history closed passes → SomeSawClose passes
    → closed ≡ true
saw_closed history closed [] told saw = absurd saw
saw_closed history closed (pass ∷ rest) told saw = ⊎_elim (λ (is : pass.saw_close ≡ true). (told.0.close is).1)
    (λ (later : SomeSawClose rest). saw_closed history closed rest told.1 later) saw

-- a stream that has an event is one of the streams
abbrev own_events : Bool → Posted → ℕ → List Posted → List Event
own_events own posted stream rest = map (λ (p : Posted). p.event)
    (cond own (posted ∷ filter (λ (p : Posted). p.stream == stream) rest) (filter (λ (p : Posted). p.stream == stream) rest))

stream_there : (stream : ℕ) (events : List Posted) → 0 < length (events_of_stream stream events) → Contains (streams_of events) stream
stream_there stream [] some = absurd (omega (arith, some))
stream_there stream (posted ∷ rest) some = by (posted.stream == stream) refl some (stream_there stream rest)
  where
    by : (own : Bool) → (posted.stream == stream) ≡ own → 0 < length (own_events own posted stream rest)
        → (0 < length (events_of_stream stream rest) → Contains (streams_of rest) stream) → Contains (streams_of (posted ∷ rest)) stream
    by true is some later = (0, omega arith, eqb-true posted.stream stream is)
    by false is some later = Contains-append_right (posted.stream ∷ []) (streams_of rest) stream (later some)

-- a stream that no event is on has none
no_stream : (n stream : ℕ) (events : List Posted) → All (λ (p : Posted). p.stream < n) events → n ≤ stream
    → events_of_stream stream events ≡ []
no_stream n stream [] below high = refl
no_stream n stream (posted ∷ rest) below high =
    let here = All-head (λ (p : Posted). p.stream < n) posted rest below in
    let other : posted.stream ≢ stream = λ same. absurd (omega (arith, here, same)) in
    ap (λ (own : Bool). own_events own posted stream rest) (ne_eqb posted.stream stream other)
    ∙ no_stream n stream rest (All-tail (λ (p : Posted). p.stream < n) posted rest below) high

contains_some : (events : List Event) (event : Event) → Contains events event → 0 < length events
contains_some events event there = omega (arith, there.1)

-- a history that holds the events of each stream is a merge of the events
merge_of : (n : ℕ) (events : List Posted) (history : List Entry) → All (λ (p : Posted). p.stream < n) events
    → HoldsEvents n (λ stream. events_of_stream stream events) history → IsMerge events history
merge_of n events history below holds = record {
  each_stream = λ stream. dite (dec_le n stream) (λ high. holds.nobody_else stream high ∙ sym (no_stream n stream events below high))
      (λ low. holds.each_caller stream (omega (arith, low)));
  callers = All-weaker (λ (entry : Entry). (entry.caller < n) × Contains (events_of_stream entry.caller events) entry.event)
      (λ (entry : Entry). Contains (streams_of events) entry.caller)
      (λ entry at. stream_there entry.caller events (contains_some (events_of_stream entry.caller events) entry.event at.1))
      history holds.each_entry;
}

-- passes that posted their streams posted the events of their callers
all_posted : (board : BoardData) (events : List Posted) (n : ℕ) (passes : List PassData) → AllFrom (IsStreamedAt board events true) n passes
    → AllPosted (λ stream. events_of_stream stream events) passes
all_posted board events n [] streamed = tt
all_posted board events n (pass ∷ rest) streamed = (
  subst (λ (k : ℕ). AreEventsAt pass.seen pass.mine (events_of_stream k events)) (sym streamed.0.own.caller) (streamed.0.posted refl),
  all_posted board events (n + 1) rest streamed.1,
)

pub all_passes : (board : BoardData) (events : List Posted) (whole : Bool) (passes : List PassData) → length passes ≡ board.callers
    → AllFrom (IsStreamedAt board events whole) 0 passes → AreAllPasses board passes
all_passes board events whole passes count streamed = (
  count,
  passes_from board 0 passes (AllFrom-weaker (IsStreamedAt board events whole) (IsPassAt board) (λ n pass at. at.own) 0 passes streamed),
)

pub merged : (board : BoardData) (events : List Posted) (passes : List PassData) (core : CoreData) → All (IsForBoard board) events
    → length passes ≡ board.callers → AllFrom (IsStreamedAt board events true) 0 passes → IsCoreOf board passes core
    → IsMerge events core.history
merged board events passes core known count streamed of_board =
    merge_of board.callers events core.history
    (All-weaker (IsForBoard board) (λ (p : Posted). p.stream < board.callers) (λ p one. one.stream) events known)
    (closed_board_holds_events board passes core (λ stream. events_of_stream stream events)
    (all_passes board events true passes count streamed) of_board (all_posted board events 0 passes streamed))
