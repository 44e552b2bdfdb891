-- A schedule as a trace that the viewers of Chrome's format open, a JSON array: the names of the
-- process and of the threads, a thread for each processor, and then one complete event for each
-- stay that has a length, on the thread of its processor, in units of time. A name of a task has
-- letters, digits, `_`, `.` and `-` alone, so it stands in a JSON string as it is.
use Rattle.std.specs.Prelude.{◌≡◌, ℕ, ◌+◌, ◌-◌, ◌<◌, List, [], ◌++◌, length, codes}
use Rattle.std.specs.List.{flat_map, range_with_len}
use Rattle.affinity_mask.specs.Number.{canonical_number}
use Rattle.task_set.specs.TaskSet.{SetData}
use Rattle.text_fields.specs.EventText.{name_of}
use Rattle.strong_apa.specs.declared.reply.Entry.{Entry}
use Rattle.schedule_picture.specs.declared.span.Seen.{Seen}
use Rattle.schedule_picture.specs.declared.span.Seen.TheVariants.{Task, OffLine, Processor, Waiting}
use Rattle.schedule_picture.specs.declared.span.Span.{Span}
use Rattle.schedule_picture.specs.Group.{extent_of, text_of_part}
use Rattle.schedule_picture.specs.Picture.{clock_of}
use Rattle.schedule_picture.specs.Spans.{AreSpans, lane_at}

-- the array begins with the name of the process, so that each event can begin with a comma
abbrev pub chrome_head : List ℕ
chrome_head =
    codes "[\n{\"name\":\"process_name\",\"ph\":\"M\",\"pid\":1,\"args\":{\"name\":\"processors\"}}"

abbrev pub chrome_end : List ℕ
chrome_end = codes "\n]\n"

-- processes and threads are numbered from 1
abbrev pub thread_of : ℕ → ℕ
thread_of p = p + 1

-- the thread of the processor p has the name `cpu P`
unfoldable pub thread_text : ℕ → List ℕ
thread_text p =
    codes ",\n{\"name\":\"thread_name\",\"ph\":\"M\",\"pid\":1,\"tid\":"
    ++ canonical_number (thread_of p) ++ codes ",\"args\":{\"name\":\"cpu "
    ++ canonical_number p ++ codes "\"}}"

-- the event of a stay of a task of this name on the processor p, from one moment to another
unfoldable pub stay_event_text : List ℕ → ℕ → ℕ → ℕ → List ℕ
stay_event_text name p begin end =
    codes ",\n{\"name\":\"" ++ name ++ codes "\",\"ph\":\"X\",\"pid\":1,\"tid\":"
    ++ canonical_number (thread_of p) ++ codes ",\"ts\":" ++ canonical_number begin
    ++ codes ",\"dur\":" ++ canonical_number (end - begin) ++ codes "}"

-- that of what is seen of a processor, where it has a length
abbrev pub event_of_seen : SetData → ℕ → Seen → ℕ → ℕ → List ℕ
event_of_seen set p (Task t) begin end = stay_event_text (name_of set t) p begin end
event_of_seen set p OffLine begin end = []
event_of_seen set p (Processor q) begin end = []
event_of_seen set p Waiting begin end = []

unfoldable pub event_of_span : List ℕ → SetData → ℕ → Span → List ℕ
event_of_span moments set p span =
    text_of_part (event_of_seen set p span.what) (extent_of moments span)

-- those of a processor, in order
abbrev pub lane_events : List ℕ → SetData → (ℕ → List Span) → ℕ → List ℕ
lane_events moments set lanes p = flat_map (event_of_span moments set p) (lanes p)

-- the whole text: the threads, and then the events, each by the processors
abbrev pub chrome_of : List ℕ → SetData → (ℕ → List Span) → List ℕ
chrome_of moments set lanes =
    chrome_head ++ flat_map thread_text (range_with_len 0 set.processors)
    ++ flat_map (lane_events moments set lanes) (range_with_len 0 set.processors) ++ chrome_end

-- the text has a name for each processor, and the stays of a history, each that has a length, once,
-- by a clock that is at `start` when the history begins, and nothing else
pub record IsChrome (start : ℕ) (set : SetData) (entries : List Entry)
    (text : List ℕ) : Type 0 where
  pub lanes : ℕ → List Span
  pub of_lanes : (p : ℕ) → p < set.processors
      → AreSpans (lane_at set entries p) (length entries) (lanes p)
  pub is_text : text ≡ chrome_of (clock_of start entries) set lanes
