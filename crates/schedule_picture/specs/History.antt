-- The spans of a history: of each processor who was linked to it and when it was off line, of each
-- task where it was linked and when it waited. They are found by tracks that follow it.
use Rattle.std.specs.Prelude.{◌≡◌, ◌≢◌, ℕ, ◌+◌, ◌-◌, ◌<◌, ◌≤◌, List, length, get_or, slice_get}
use Rattle.std.specs.Prelude.{Option, Some, All, AllPairs, Contains, IfOk}
use Rattle.task_set.specs.TaskSet.{SetData}
use Rattle.strong_apa.specs.declared.reply.Entry.{Entry}
use Rattle.strong_apa.specs.State.{State, IsState}
use Rattle.strong_apa.specs.History.{state_at}
use Rattle.schedule_picture.specs.Spans.{IsStretch, IsBefore, AreSpans}
use Rattle.schedule_picture.specs.Spans.{lane_at, absence_at, row_at}
use Rattle.schedule_picture.specs.Track.{TrackData, fresh_track}
use Rattle.schedule_picture.specs.declared.span.Seen.{Seen}
use Rattle.schedule_picture.specs.declared.span.Span.{Span}
use Rattle.schedule_picture.specs.declared.tracks.Tracks.{Tracks}
use Rattle.schedule_picture.specs.declared.tracker.Tracker.{Tracker}

-- the tracks have all spans of a history, and nothing else
pub record HaveSpans (set : SetData) (entries : List Entry) (tracks : Tracks) : Type 0 where
  pub lane_count : length tracks.lanes.items ≡ set.processors
  pub absence_count : length tracks.absences.items ≡ set.processors
  pub row_count : length tracks.rows.items ≡ length set.tasks
  pub lanes : (p : ℕ) → p < set.processors
      → AreSpans (lane_at set entries p) (length entries)
      (get_or tracks.lanes.items p fresh_track).spans
  pub absences : (p : ℕ) → p < set.processors
      → AreSpans (absence_at set entries p) (length entries)
      (get_or tracks.absences.items p fresh_track).spans
  pub rows : (t : ℕ) → t < length set.tasks
      → AreSpans (row_at set entries t) (length entries)
      (get_or tracks.rows.items t fresh_track).spans

-- ---- entry by entry
-- this is entry n, counted from 0, of a history that is not too long, and these are the links
-- after it
pub record AreLinksAfter (set : SetData) (entries : List Entry) (n : ℕ) (entry : Entry)
    (links : State) : Type 0 where
  pub few : length entries ≤ 20000
  pub there : slice_get entries n ≡ Some entry
  pub before : IsState (state_at set entries n)
  pub after : links ≡ state_at set entries (n + 1)

-- a span that has ended, before this entry
pub record IsEndedSpan (seen : ℕ → Option Seen) (until : ℕ) (span : Span) : Type 0 where
  pub stretch : IsStretch seen span
  pub within : span.until ≤ until
  pub ends : seen span.until ≢ Some span.what

-- a track has followed n entries: it has the spans that have ended, and what is seen now since
-- `since`
pub record TrackFollows (seen : ℕ → Option Seen) (n : ℕ) (track : TrackData) : Type 0 where
  pub current : track.current ≡ seen n
  pub since : track.since ≤ n
  pub unchanged : (i : ℕ) → track.since ≤ i → i ≤ n → seen i ≡ track.current
  pub begun : (what : Seen) → track.current ≡ Some what
      → (1 ≤ track.since) × (seen (track.since - 1) ≢ Some what)
  pub each : All (IsEndedSpan seen track.since) track.spans
  pub in_order : AllPairs IsBefore track.spans
  pub all : (span : Span) → IsStretch seen span → span.until ≤ n → seen span.until ≢ Some span.what
      → Contains track.spans span

-- each track of a list has
pub record EachTrackFollows (seen : ℕ → ℕ → Option Seen) (count n : ℕ)
    (tracks : List TrackData) : Type 0 where
  pub all : length tracks ≡ count
  pub each : (x : ℕ) → x < count → TrackFollows (seen x) n (get_or tracks x fresh_track)

-- the tracks of all processors and tasks have
pub record AllTracksFollow (set : SetData) (entries : List Entry) (n : ℕ)
    (tracks : Tracks) : Type 0 where
  pub lanes : EachTrackFollows (lane_at set entries) set.processors n tracks.lanes.items
  pub absences : EachTrackFollows (absence_at set entries) set.processors n tracks.absences.items
  pub rows : EachTrackFollows (row_at set entries) (length set.tasks) n tracks.rows.items

-- a tracker has seen n entries; it has their tracks, unless memory ran out
pub record HasTracked (set : SetData) (entries : List Entry) (n : ℕ)
    (tracker : Tracker) : Type 0 where
  pub counted : tracker.next ≡ n + 1
  pub tracks : IfOk tracker.tracks (AllTracksFollow set entries n)
