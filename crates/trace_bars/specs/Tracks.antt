-- A track of a thread goes on from moment to moment. Private: contracts of this crate's own
-- functions.
use Rattle.std.specs.Prelude.{◌≡◌, ◌≢◌, ℕ, ◌<◌, ◌≤◌, ◌⊎◌, nat_lt, List, [], ◌∷◌, ◌++◌, length, set}
use Rattle.std.specs.Prelude.{get_or, Option, None, Some, if◌then◌else◌}
use Rattle.std.specs.List.{All}
use Rattle.trace_bars.specs.Bars.{BeginsBar, IsBar, IsDrawn}
use Rattle.trace_bars.specs.declared.mark.Bar.{Bar}
use Rattle.trace_bars.specs.declared.mark.Mark.{Mark}
use Rattle.trace_bars.specs.declared.track.Track.{Track}

-- the bar that ends now, if a mark was seen for some moments
abbrev pub bar_until : ℕ → Option Mark → ℕ → ℕ → Option Bar
bar_until t None since now = None
bar_until t (Some mark) since now = if nat_lt since now
    then Some (record { thread = t; mark = mark; from = since; to = now }) else None

abbrev pub ended : ℕ → Track → ℕ → Option Bar
ended t track now = bar_until t track.mark track.since now

-- a bar, if there is one, as a list
abbrev pub listed : Option Bar → List Bar
listed None = []
listed (Some bar) = bar ∷ []

-- nothing is seen, since the first moment
abbrev pub no_track : Track
no_track = record { mark = None; since = 0 }

-- this is seen from now on of the thread: it goes on, or a bar ends and another mark, or none,
-- begins
abbrev pub Turns : ℕ → ℕ → Option Mark → List Track → List Bar → List Track → List Bar → Type 0
Turns t now mark tracks bars new more =
    ((mark ≡ (get_or tracks t no_track).mark) × (new ≡ tracks) × (more ≡ bars))
    ⊎ ((mark ≢ (get_or tracks t no_track).mark)
    × (new ≡ set tracks t (record { mark = mark; since = now }))
    × (more ≡ bars ++ listed (ended t (get_or tracks t no_track) now)))

-- a track of the moments from the first one up to now: its mark is shown since then, and each mark
-- before has its bar
pub record IsTrackAt (Shown : ℕ → ℕ → Option Mark → Type 0) (first now t : ℕ) (bars : List Bar)
    (track : Track) : Type 0 where
  pub from : first ≤ track.since
  pub to : track.since ≤ now
  pub moved : (track.since ≡ first) ⊎ (track.since < now)
  pub current : (x : ℕ) → track.since ≤ x → x < now → Shown t x track.mark
  pub begins : (mark : Mark) → track.mark ≡ Some mark → BeginsBar Shown first t track.since mark
  pub earlier : (x : ℕ) → first ≤ x → x < track.since → IsDrawn Shown bars t x

-- the tracks of all threads, and the bars that have ended
pub record IsLayerAt (Shown : ℕ → ℕ → Option Mark → Type 0) (first last now : ℕ)
    (tracks : List Track) (bars : List Bar) : Type 0 where
  pub each : All (IsBar Shown first last) bars
  pub tracked : (t : ℕ) → t < length tracks
      → IsTrackAt Shown first now t bars (get_or tracks t no_track)
