-- A track, which follows a history entry by entry. Private: contracts of this crate's own
-- functions. It has the spans that have ended, and what is seen now and since which entry.
use Rattle.std.specs.Prelude.{◌≡◌, ◌≢◌, ℕ, ◌⊎◌, List, ◌++◌, ◌∷◌, [], Option, Some, None}
use Rattle.schedule_picture.specs.declared.span.Seen.{Seen}
use Rattle.schedule_picture.specs.declared.span.Seen.TheVariants.{Task, OffLine, Processor, Waiting}
use Rattle.schedule_picture.specs.declared.span.Span.{Span}

pub record TrackData : Type 0 where
  pub current : Option Seen
  pub since : ℕ
  pub spans : List Span

-- before the first entry nothing is seen
abbrev pub fresh_track : TrackData
fresh_track = record { current = None; since = 0; spans = [] }

-- the span that ends before this entry, if something was seen
abbrev pub open_span : Option Seen → ℕ → ℕ → List Span
open_span None since until = []
open_span (Some what) since until = (record { what = what; from = since; until = until }) ∷ []

-- the spans, and the one that ends before this entry
abbrev pub spans_until : TrackData → ℕ → List Span
spans_until track until = track.spans ++ open_span track.current track.since until

-- the track once this is seen after entry n: it goes on, or something else begins
abbrev pub Sees : ℕ → Option Seen → TrackData → TrackData → Type 0
Sees n seen old new =
    ((seen ≡ old.current) × (new ≡ old))
    ⊎ ((seen ≢ old.current) × (new
    ≡ record { current = seen; since = n; spans = spans_until old n }))

-- the task that is seen on a processor, if there is one
abbrev pub seen_task : Option Seen → Option ℕ
seen_task (Some (Task t)) = Some t
seen_task (Some (Processor p)) = None
seen_task (Some OffLine) = None
seen_task (Some Waiting) = None
seen_task None = None
