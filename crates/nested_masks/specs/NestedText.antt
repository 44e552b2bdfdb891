-- The text of a run by counts: a header, how many entries there are, a line for each event with how
-- many tasks are linked after it and the reply, and the end.
use Rattle.std.specs.Prelude.{◌≡◌, ℕ, ◌<◌, All, List, [], ◌∷◌, ◌++◌, codes, length, map, Option}
use Rattle.std.specs.Prelude.{None, Some, IfSome}
use Rattle.std.specs.List.{flat_map}
use Rattle.affinity_mask.specs.Number.{canonical_number}
use Rattle.affinity_mask.specs.ListText.{canonical_list}
use Rattle.affinity_mask.specs.ProcSet.{passing_below}
use Rattle.task_set.specs.TaskSet.{SetData}
use Rattle.task_set.specs.declared.event.Event.{Event}
use Rattle.text_fields.specs.LineText.{line}
use Rattle.text_fields.specs.EventText.{name_of}
use Rattle.trace_reader.specs.declared.posted.Posted.{Posted}
use Rattle.nested_masks.specs.NestedData.{NestedData, linked_of, nested_start, IsBestByCounts}
use Rattle.nested_masks.specs.NestedData.{IsTheOnlyBest}
use Rattle.nested_masks.specs.Answers.{NodeCertifies}
use Rattle.nested_masks.specs.LaminarStep.{LaminarStep}
use Rattle.nested_masks.specs.declared.reply.NestedReply.{NestedReply}
use Rattle.nested_masks.specs.declared.reply.NestedReply.TheVariants.{Entered, Displaced, Waits}
use Rattle.nested_masks.specs.declared.reply.NestedReply.TheVariants.{Freed, Left, Ticked}
use Rattle.nested_masks.specs.declared.reply.NestedReply.TheVariants.{AlreadyReady, NotReady}

-- an event, the reply to it, and what is known after it
pub record NestedEntry : Type 0 where
  pub event : Event
  pub reply : NestedReply
  pub after : NestedData

-- each entry is the step from what was known before it, and the last one leads to `new`
abbrev pub RunsTo : NestedData → List NestedEntry → NestedData → Type 0
RunsTo n [] new = new ≡ n
RunsTo n (entry ∷ rest) new =
    LaminarStep n entry.event entry.reply entry.after × RunsTo entry.after rest new

-- the events, in the order of their lines
abbrev pub events_of : List Posted → List Event
events_of events = map (λ (posted : Posted). posted.event) events

-- after an entry the linked tasks are the best placeable set of the ready ones, and the node of a
-- task that came to wait certifies it in every placement
pub record IsJustified (entry : NestedEntry) : Type 0 where
  pub best : IsBestByCounts entry.after
  pub only : IsTheOnlyBest entry.after
  pub certified : NodeCertifies entry.after entry.event entry.reply

-- the entries of these events, from the first moment on
pub record AreNestedEntries (set : SetData) (events : List Event) (entries : List NestedEntry)
    (new : NestedData) : Type 0 where
  pub steps : RunsTo (nested_start set) entries new
  pub each_event : map (λ (entry : NestedEntry). entry.event) entries ≡ events
  pub justified : All IsJustified entries

-- how many tasks are linked
abbrev pub linked_count : NestedData → ℕ
linked_count n = length (passing_below (linked_of n) (length n.priorities))

-- the name of a task; '-' for nobody
abbrev pub entered_text : SetData → Option ℕ → List ℕ
entered_text set None = codes "-"
entered_text set (Some t) = name_of set t

-- a reply
unfoldable pub reply_text : SetData → NestedReply → List ℕ
reply_text set Entered = codes "placed"
reply_text set (Displaced out node) =
    codes "displaced " ++ name_of set out ++ codes " node " ++ canonical_list node
reply_text set (Waits node) = codes "waits node " ++ canonical_list node
reply_text set (Freed entered) = codes "freed " ++ entered_text set entered
reply_text set Left = codes "left"
reply_text set Ticked = codes "ticked"
reply_text set AlreadyReady = codes "already"
reply_text set NotReady = codes "absent"

-- the line of an entry
unfoldable pub entry_line : SetData → NestedEntry → List ℕ
entry_line set entry =
    line (canonical_number (linked_count entry.after) ++ codes " " ++ reply_text set entry.reply)

-- the lines before the first entry
abbrev pub head_text : ℕ → List ℕ
head_text count = line (codes "nested 1") ++ line (codes "entries " ++ canonical_number count)

-- the whole text
abbrev pub nested_text : SetData → List NestedEntry → List ℕ
nested_text set entries =
    head_text (length entries) ++ flat_map (entry_line set) entries ++ line (codes "end")

-- the text is that of the run of these events
pub record IsNestedText (set : SetData) (events : List Posted) (text : List ℕ) : Type 0 where
  pub entries : List NestedEntry
  pub last : NestedData
  pub run : AreNestedEntries set (events_of events) entries last
  pub written : text ≡ nested_text set entries

-- an event was applied, and its line was written
pub record IsWritten (set : SetData) (event : Event) (old : NestedData) (before : List ℕ)
    (new : NestedData) (after : List ℕ) : Type 0 where
  pub reply : NestedReply
  pub step : LaminarStep old event reply new
  pub justified : IsJustified (record { event = event; reply = reply; after = new })
  pub same : length new.priorities ≡ length old.priorities
  pub line_written : after ≡ before
      ++ entry_line set (record { event = event; reply = reply; after = new })

-- so many events were applied, and their lines were written after the head
pub record IsWrittenSoFar (set : SetData) (events : List Event) (head : List ℕ)
    (nested : NestedData) (text : List ℕ) : Type 0 where
  pub entries : List NestedEntry
  pub run : AreNestedEntries set events entries nested
  pub same : length nested.priorities ≡ length set.tasks
  pub written : text ≡ head ++ flat_map (entry_line set) entries

-- the tasks that a reply names are of the set
pub record NamesTasks (count : ℕ) (reply : NestedReply) : Type 0 where
  pub displaced : (out node : ℕ) → reply ≡ Displaced out node → out < count
  pub freed : (entered : Option ℕ) → reply ≡ Freed entered → IfSome entered (λ t. t < count)
