-- What a line of a trace says. A line is of the scheduler where some field is a stamp with a colon,
-- and the next one is the word of an event; the first such place counts. The fields after the word
-- say the event. Of the name of a thread, which may have blanks and arrows in it, nothing is read.
-- Whether `sched_waking` is the word of a wakeup is said of the whole text.
use Rattle.std.specs.Prelude.{ℕ, ◌-◌, Bool, ◌&&◌, ◌||◌, ◌==◌, List, [], ◌∷◌, codes, length, take}
use Rattle.std.specs.Prelude.{drop, get_or, min, Option, None, Some, fold, if◌then◌else◌}
use Rattle.std.specs.Prelude.{nat_eq, nat_lt}
use Rattle.std.specs.Str.{bytes_eq}
use Rattle.std.specs.Option.{option_or}
use Rattle.std.specs.Char.{is_ascii_alphabetic}
use Rattle.std.specs.List.{starts_with}
use Rattle.affinity_mask.specs.Number.{number_value}
use Rattle.kernel_trace.specs.Stamp.{is_number, is_stamp, nanoseconds}
use Rattle.kernel_trace.specs.declared.change.Change.{Change}
use Rattle.kernel_trace.specs.declared.change.Change.TheVariants.{Wakeup, Switch}
use Rattle.kernel_trace.specs.declared.change.Thread.{Thread}
use Rattle.kernel_trace.specs.declared.event.EventWord.{EventWord}
use Rattle.kernel_trace.specs.declared.event.EventWord.TheVariants as named

-- ---- fields with a key
-- the field begins with these bytes
abbrev pub begins : List ℕ → List ℕ → Bool
begins key field = starts_with nat_eq field key

-- what stands after a key
abbrev pub after_key : List ℕ → List ℕ → List ℕ
after_key key field = drop (length key) field

-- the field is this key and digits
unfoldable pub is_keyed : List ℕ → List ℕ → Bool
is_keyed key field = begins key field && is_number (after_key key field)

-- what stands after a minus, where there is one
abbrev pub unsigned : List ℕ → List ℕ
unsigned text = if begins (codes "-") text then after_key (codes "-") text else text

-- the field is this key and a priority: digits, or a minus and digits
unfoldable pub is_priority : List ℕ → List ℕ → Bool
is_priority key field = begins key field && is_number (unsigned (after_key key field))

-- the priority after a key is one of real time: below 100, or below zero, as that of SCHED_DEADLINE
unfoldable pub is_real_time : List ℕ → List ℕ → Bool
is_real_time key field =
    begins (codes "-") (after_key key field) || nat_lt (number_value (after_key key field)) 100

-- the thread id that the digits after a key say; 4,194,305 is nobody's, and stands for all that are
-- greater
unfoldable pub id_after : List ℕ → List ℕ → ℕ
id_after key field = min (number_value (after_key key field)) 4194305

-- ---- the last fields of an event
-- the last four fields, of which those that are missing are empty
pub record LastFields : Type 0 where
  pub fourth : List ℕ
  pub third : List ℕ
  pub second : List ℕ
  pub last : List ℕ

-- one field more
abbrev pub fields_after : LastFields → List ℕ → LastFields
fields_after f field = record { fourth = f.third; third = f.second; second = f.last; last = field }

-- the four fields of the thread that leaves: its id, its priority, its state, and the arrow
unfoldable pub is_leaving : LastFields → Bool
is_leaving f =
    bytes_eq f.last (codes "==>") && begins (codes "prev_state=") f.second
    && is_priority (codes "prev_prio=") f.third
    && is_keyed (codes "prev_pid=") f.fourth

-- a thread that leaves, and its state as it stands
pub record Leaving : Type 0 where
  pub thread : Thread
  pub state : List ℕ

-- the thread that leaves, where four fields are those of one
abbrev pub leaving_of : LastFields → Option Leaving
leaving_of f =
    if is_leaving f
    then Some (record {
      thread = record {
        id = id_after (codes "prev_pid=") f.fourth;
        is_real_time = is_real_time (codes "prev_prio=") f.third;
      };
      state = after_key (codes "prev_state=") f.second;
    })
    else None

-- the last fields, and the first thread that leaves
pub record EventFields : Type 0 where
  pub ends : LastFields
  pub leaving : Option Leaving

-- the same with one field more
abbrev pub event_fields_after : EventFields → List ℕ → EventFields
event_fields_after e field =
    let f = fields_after e.ends field in
    record { ends = f; leaving = option_or e.leaving (leaving_of f) }

-- no field yet
abbrev pub no_fields : EventFields
no_fields =
    record { ends = record { fourth = []; third = []; second = []; last = [] }; leaving = None }

-- what the fields of an event are
abbrev pub event_fields : List (List ℕ) → EventFields
event_fields fields = fold event_fields_after no_fields fields

-- ---- the forms of events
-- a state begins with a letter
abbrev pub has_letter : List ℕ → Bool
has_letter state = is_ascii_alphabetic (get_or state 0 0)

-- a state begins with `R`: the thread is ready still
abbrev pub is_running : List ℕ → Bool
is_running state = get_or state 0 0 == 82

-- the last two fields are those of the thread that comes
unfoldable pub is_coming : LastFields → Bool
is_coming f = is_keyed (codes "next_pid=") f.second && is_priority (codes "next_prio=") f.last

-- the thread that comes
abbrev pub coming_of : LastFields → Thread
coming_of f = record {
  id = id_after (codes "next_pid=") f.second;
  is_real_time = is_real_time (codes "next_prio=") f.last;
}

-- a switch from one thread to another one
abbrev pub switch_of : LastFields → Option Leaving → Option Change
switch_of ends None = None
switch_of ends (Some left) =
    if has_letter left.state && is_coming ends
    then Some (Switch left.thread (is_running left.state) (coming_of ends))
    else None

-- a wakeup of the thread of these fields
abbrev pub wakeup_of : List ℕ → List ℕ → List ℕ → Option Change
wakeup_of pid prio target =
    if is_keyed (codes "target_cpu=") target && is_priority (codes "prio=") prio
    && is_keyed (codes "pid=") pid
    then Some (Wakeup (id_after (codes "pid=") pid))
    else None

-- a wakeup by its last fields, of which `success` may be missing
abbrev pub wakeup_by : LastFields → Option Change
wakeup_by f =
    if is_keyed (codes "success=") f.second then wakeup_of f.fourth f.third f.last
    else wakeup_of f.third f.second f.last

-- the change that the fields after a word say, where they have its form
abbrev pub change_of : EventWord → List (List ℕ) → Option Change
change_of named.Switch fields =
    if begins (codes "prev_comm=") (get_or fields 0 [])
    then (let e = event_fields fields in switch_of e.ends e.leaving)
    else None
change_of named.Wakeup fields =
    if begins (codes "comm=") (get_or fields 0 []) then wakeup_by (event_fields fields).ends
    else None

-- ---- the place of an event
-- the field is the word of a wakeup; whether `sched_waking:` is one is given
abbrev pub is_wakeup_word : Bool → List ℕ → Bool
is_wakeup_word waking field =
    bytes_eq field (codes "sched_wakeup:") || bytes_eq field (codes "sched_wakeup_new:")
    || (waking && bytes_eq field (codes "sched_waking:"))

-- the word of an event, without `sched:`
abbrev pub plain_word : Bool → List ℕ → Option EventWord
plain_word waking field =
    if bytes_eq field (codes "sched_switch:") then Some named.Switch
    else (if is_wakeup_word waking field then Some named.Wakeup else None)

-- what stands after `sched:`, where a field begins so
abbrev pub bare_word : List ℕ → List ℕ
bare_word field = if begins (codes "sched:") field then after_key (codes "sched:") field else field

-- the word of an event, with or without `sched:` before it
unfoldable pub word_of : Bool → List ℕ → Option EventWord
word_of waking field = plain_word waking (bare_word field)

-- what stands before the last byte of a field
abbrev pub before_last : List ℕ → List ℕ
before_last field = take (length field - 1) field

-- a stamp with a colon after it
unfoldable pub is_stamped : List ℕ → Bool
is_stamped field = (get_or field (length field - 1) 0 == 58) && is_stamp (before_last field)

-- an event: when, its word, and the fields after it
pub record TraceEvent : Type 0 where
  pub time : ℕ
  pub word : EventWord
  pub fields : List (List ℕ)

-- the event of a field and a word after it
abbrev pub event_at : List ℕ → Option EventWord → List (List ℕ) → Option TraceEvent
event_at field None rest = None
event_at field (Some word) rest =
    if is_stamped field then Some
    (record { time = nanoseconds (before_last field); word = word; fields = rest }) else None

-- the event at the first place of a field and those after it
abbrev pub first_event : Bool → List ℕ → List (List ℕ) → Option TraceEvent
first_event waking field [] = None
first_event waking field (next ∷ rest) =
    option_or (event_at field (word_of waking next) rest) (first_event waking next rest)

-- the event of the fields of a line
abbrev pub event_in : Bool → List (List ℕ) → Option TraceEvent
event_in waking [] = None
event_in waking (first ∷ rest) = first_event waking first rest

-- ---- what a line says
-- a line says nothing of the scheduler, or that events were lost, or an event without its form, or
-- a change at a time in nanoseconds
pub data Said : Type 0 where
  Nothing : Said
  LostEvents : Said
  Malformed : Said
  Happened : ℕ → Change → Said

-- the last two fields are `events` and `lost]`
abbrev pub ends_in_lost : List (List ℕ) → Bool
ends_in_lost fields =
    bytes_eq (event_fields fields).ends.second (codes "events")
    && bytes_eq (event_fields fields).ends.last (codes "lost]")

-- the first field and those after it tell of lost events
unfoldable pub tells_of_loss : List ℕ → List (List ℕ) → Bool
tells_of_loss first rest =
    if begins (codes "CPU:") first
    then bytes_eq (event_fields rest).ends.last (codes "EVENTS]")
    || bytes_eq (event_fields rest).ends.last (codes "DROPPED]")
    else (is_keyed (codes "[") first && ends_in_lost rest)

-- what an event says
abbrev pub said_at : ℕ → Option Change → Said
said_at time None = Malformed
said_at time (Some change) = Happened time change

abbrev pub said_by_event : Option TraceEvent → Said
said_by_event None = Nothing
said_by_event (Some event) = said_at event.time (change_of event.word event.fields)

-- what the fields of a line say
abbrev pub said_by : Bool → List (List ℕ) → Said
said_by waking [] = Nothing
said_by waking (first ∷ rest) =
    if tells_of_loss first rest then LostEvents else said_by_event (first_event waking first rest)
