-- Merges: a history is a merge of events on streams where it holds each of them, each once, each
-- stream's in its order, and no other.
use Rattle.std.specs.Prelude.{◌≡◌, ℕ, ◌==◌, List, map, filter, All, Contains}
use Rattle.task_set.specs.declared.event.Event.{Event}
use Rattle.strong_apa.specs.declared.reply.Entry.{Entry}
use Rattle.trace_reader.specs.declared.posted.Posted.{Posted}
use Rattle.event_history.specs.Merging.{events_of_caller}

-- the event that an entry is of, on its stream
abbrev pub posted_of : Entry → Posted
posted_of entry = record { stream = entry.caller; event = entry.event }

-- the events of a stream, in their order
abbrev pub events_of_stream : ℕ → List Posted → List Event
events_of_stream stream events = map (λ (posted : Posted). posted.event)
    (filter (λ (posted : Posted). posted.stream == stream) events)

-- the streams that have an event
abbrev pub streams_of : List Posted → List ℕ
streams_of events = map (λ (posted : Posted). posted.stream) events

-- all the events are of one stream
abbrev pub IsOnOneStream : List Posted → Type 0
IsOnOneStream events = (stream : ℕ) × All (λ (posted : Posted). posted.stream ≡ stream) events

-- the history holds each stream's events in their order, and each of its entries is of a stream
pub record IsMerge (events : List Posted) (history : List Entry) : Type 0 where
  pub each_stream : (stream : ℕ) → events_of_caller stream history ≡ events_of_stream stream events
  pub callers : All (λ (entry : Entry). Contains (streams_of events) entry.caller) history
