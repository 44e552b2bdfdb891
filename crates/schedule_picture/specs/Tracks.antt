-- The tracks of all processors and tasks. Private: contracts of this crate's own functions.
use Rattle.std.specs.Prelude.{◌≡◌, ◌≢◌, ℕ, ◌<◌, ◌≤◌, ◌⊎◌, List, length, get_or, replicate, Option}
use Rattle.std.specs.Prelude.{Some, None}
use Rattle.task_set.specs.declared.event.Event.{Event}
use Rattle.task_set.specs.declared.event.Event.TheVariants.{Arrive, Depart, Tick, Affinity, Offline}
use Rattle.task_set.specs.declared.event.Event.TheVariants.{Online}
use Rattle.strong_apa.specs.declared.reply.Reply.{Reply}
use Rattle.strong_apa.specs.declared.reply.Reply.TheVariants.{Off}
use Rattle.strong_apa.specs.State.{State, task_on, is_ready}
use Rattle.schedule_picture.specs.declared.span.Seen.{Seen}
use Rattle.schedule_picture.specs.declared.tracks.Tracks.{Tracks}
use Rattle.schedule_picture.specs.Spans.{lane_of, absence_of, row_of}
use Rattle.schedule_picture.specs.Track.{TrackData, fresh_track, spans_until, seen_task, Sees}

-- each track of a list, once this is seen of it after entry n
pub record EachSees (n : ℕ) (sight : ℕ → Option Seen) (old new : List TrackData) : Type 0 where
  pub count : length new ≡ length old
  pub each : (x : ℕ) (d : TrackData) → x < length old
      → Sees n (sight x) (get_or old x d) (get_or new x d)

-- one track of a list, once this is seen of it after entry n; the others stay
pub record OneSees (n : ℕ) (x : ℕ) (seen : Option Seen) (old new : List TrackData) : Type 0 where
  pub count : length new ≡ length old
  pub there : (d : TrackData) → Sees n seen (get_or old x d) (get_or new x d)
  pub others : (y : ℕ) (d : TrackData) → y ≢ x → get_or new y d ≡ get_or old y d

-- the tracks of the processors and of the tasks, once these links are seen after entry n
pub record AllSee (n : ℕ) (s : State) (old new : Tracks) : Type 0 where
  pub lanes : EachSees n (lane_of s) old.lanes.items new.lanes.items
  pub absences : EachSees n (absence_of s) old.absences.items new.absences.items
  pub rows : EachSees n (row_of s) old.rows.items new.rows.items

-- there is a track for each processor and each task
pub record AreTracksOf (processors tasks : ℕ) (tracks : Tracks) : Type 0 where
  pub lanes : length tracks.lanes.items ≡ processors
  pub absences : length tracks.absences.items ≡ processors
  pub rows : length tracks.rows.items ≡ tasks

-- nothing was seen yet
pub record AreFresh (processors tasks : ℕ) (tracks : Tracks) : Type 0 where
  pub lanes : tracks.lanes.items ≡ replicate processors fresh_track
  pub absences : tracks.absences.items ≡ replicate processors fresh_track
  pub rows : tracks.rows.items ≡ replicate tasks fresh_track

-- one track of a list ends its last span before this entry; the others stay
pub record OneEnds (until : ℕ) (x : ℕ) (old new : List TrackData) : Type 0 where
  pub count : length new ≡ length old
  pub there : (d : TrackData) → (get_or new x d).spans ≡ spans_until (get_or old x d) until
  pub others : (y : ℕ) (d : TrackData) → y ≢ x → get_or new y d ≡ get_or old y d

-- each track of a list ends its last span before this entry
pub record EachEnds (until : ℕ) (old new : List TrackData) : Type 0 where
  pub count : length new ≡ length old
  pub each : (x : ℕ) (d : TrackData) → x < length old
      → (get_or new x d).spans ≡ spans_until (get_or old x d) until

-- all tracks do
pub record AllEnd (until : ℕ) (old new : Tracks) : Type 0 where
  pub lanes : EachEnds until old.lanes.items new.lanes.items
  pub absences : EachEnds until old.absences.items new.absences.items
  pub rows : EachEnds until old.rows.items new.rows.items

-- ---- what an entry can change of a task
-- the task that was on a processor that went off line, if there was one
abbrev pub moved_task : Reply → Option ℕ
moved_task (Off (Some moved)) = Some moved.task
moved_task reply = None

-- the task that comes or goes by an entry, if there is one: that of the event, or the one that has
-- to leave its processor
abbrev pub mover_of : Event → Reply → Option ℕ
mover_of (Arrive t) reply = Some t
mover_of (Depart t) reply = Some t
mover_of (Tick units) reply = None
mover_of (Affinity t mask) reply = Some t
mover_of (Offline p) reply = moved_task reply
mover_of (Online p) reply = None

-- the task that was seen last on a processor
abbrev pub last_on : List TrackData → ℕ → Option ℕ
last_on lanes p = seen_task (get_or lanes p fresh_track).current

-- these tracks show a state from which no task comes or goes, but this one
pub record ShowBefore (mover : Option ℕ) (s : State) (lanes rows : List TrackData) : Type 0 where
  pub before : State
  pub lanes_show : (p : ℕ) → p < s.processors → last_on lanes p ≡ task_on before p
  pub rows_show : (t : ℕ) → t < length rows → (get_or rows t fresh_track).current ≡ row_of before t
  pub no_more : (p : ℕ) → s.processors ≤ p → task_on before p ≡ None
  pub ready : (t : ℕ) → mover ≢ Some t → is_ready s t ≡ is_ready before t

-- each track of a task, once it is seen after entry n, or nothing has changed of the task and the
-- track stays
pub record EachSeesOrStays (n : ℕ) (s : State) (Unchanged : ℕ → Type 0)
    (old new : List TrackData) : Type 0 where
  pub count : length new ≡ length old
  pub each : (t : ℕ) (d : TrackData) → t < length old
      → (Unchanged t × (get_or new t d ≡ get_or old t d))
      ⊎ Sees n (row_of s t) (get_or old t d) (get_or new t d)
