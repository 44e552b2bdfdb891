-- The tracks of all processors and tasks follow the entries of a history.
use Rattle.std.proofs.Common.{◌≡◌, ℕ, ◌+◌, ◌<◌, List, [], ◌∷◌, ◌++◌, length, take, replicate, get_or, Option, Some, None, refl}
use Rattle.std.proofs.Common.{sym, ap, ◌∙◌, subst, arith}
use Rattle.std.specs.Prelude.{slice_get, option_map, Result, Ok, Err, IfOk}
use Rattle.std.proofs.lemmas.Bool.{lt-ltb}
use Rattle.std.proofs.lemmas.List.{take_more, length-map, length-replicate, get_or-replicate, get_or_past}
use Rattle.std.proofs.lemmas.Option.{slice_get_within, get_or_from_slice_get}
use Rattle.affinity_mask.proofs.Sets.{has-all_below}
use Rattle.task_set.specs.TaskSet.{SetData, TaskData}
use Rattle.strong_apa.specs.declared.reply.Entry.{Entry}
use Rattle.strong_apa.specs.State.{State, start_of, task_count, task_on, is_ready}
use Rattle.strong_apa.specs.History.{state_at, state_after, effect_of}
use Rattle.strong_apa.proofs.Start.{none_on, none_ready}
use Rattle.strong_apa.proofs.Histories.{state_after-push}
use Rattle.strong_apa.proofs.SameTasks.{same_tasks-history}
use Rattle.schedule_picture.specs.declared.span.Seen.{Seen}
use Rattle.schedule_picture.specs.declared.span.Seen.TheVariants.{Task}
use Rattle.schedule_picture.specs.declared.tracks.Tracks.{Tracks}
use Rattle.schedule_picture.specs.Spans.{AreSpans, lane_of, absence_of, row_of, lane_at, absence_at, row_at}
use Rattle.schedule_picture.specs.Track.{TrackData, fresh_track, seen_task}
use Rattle.schedule_picture.specs.Tracks.{EachSees, EachEnds, AllSee, AllEnd, AreFresh, AreTracksOf, ShowBefore, mover_of}
use Rattle.schedule_picture.specs.History.{AreLinksAfter, TrackFollows, EachTrackFollows, AllTracksFollow, HaveSpans}
use Rattle.schedule_picture.proofs.Following.{follows_none, follows_more, follows_all}
use Rattle.schedule_picture.proofs.Glances.{ready_but}

each_none : (seen : ℕ → ℕ → Option Seen) (count : ℕ) (tracks : List TrackData) → tracks ≡ replicate count fresh_track
    → ((x : ℕ) → x < count → seen x 0 ≡ None) → EachTrackFollows seen count 0 tracks
each_none seen count tracks fresh none = record {
  all = ap length fresh ∙ length-replicate count fresh_track;
  each = λ x lt.
      subst (TrackFollows (seen x) 0) (sym (ap (λ (ts : List TrackData). get_or ts x fresh_track) fresh
      ∙ get_or-replicate count x fresh_track fresh_track lt))
      (follows_none (seen x) (none x lt));
}

each_more : (seen : ℕ → ℕ → Option Seen) (count n : ℕ) (old new : List TrackData) → EachTrackFollows seen count n old
    → EachSees (n + 1) (λ x. seen x (n + 1)) old new → EachTrackFollows seen count (n + 1) new
each_more seen count n old new follows sees = record {
  all = sees.count ∙ follows.all;
  each = λ x lt.
      follows_more (seen x) n (get_or old x fresh_track) (follows.each x lt) (get_or new x fresh_track)
      (sees.each x fresh_track (rw follows.all lt));
}

each_all : (seen : ℕ → ℕ → Option Seen) (count n : ℕ) (old new : List TrackData) → EachTrackFollows seen count n old
    → EachEnds (n + 1) old new
    → (x : ℕ) → x < count → AreSpans (seen x) n (get_or new x fresh_track).spans
each_all seen count n old new follows ends x lt =
    subst (AreSpans (seen x) n) (sym (ends.each x fresh_track (rw follows.all lt)))
    (follows_all (seen x) n (get_or old x fresh_track) (follows.each x lt))

pub followed_none : (set : SetData) (entries : List Entry) (tracks : Tracks) → AreFresh set.processors (length set.tasks) tracks
    → AllTracksFollow set entries 0 tracks
followed_none set entries tracks fresh = record {
  lanes = each_none (lane_at set entries) set.processors tracks.lanes.items fresh.lanes (λ p lt. rw (none_on set.processors p) refl);
  absences = each_none (absence_at set entries) set.processors tracks.absences.items fresh.absences
      (λ p lt. rw (has-all_below set.processors p, lt-ltb p set.processors lt) refl);
  rows = each_none (row_at set entries) (length set.tasks) tracks.rows.items fresh.rows (λ t lt. rw (none_ready (length set.tasks) t) refl);
}

-- where memory is out before any entry, nothing is promised
pub fresh_follow : {E : Type 0} (set : SetData) (entries : List Entry) (tracks : Result Tracks E)
    → IfOk tracks (AreFresh set.processors (length set.tasks)) → IfOk tracks (AllTracksFollow set entries 0)
fresh_follow set entries (Ok tracks) fresh = followed_none set entries tracks fresh
fresh_follow set entries (Err refused) fresh = tt

-- where it is not, there are the tracks
pub tracks_there : {E : Type 0} (set : SetData) (entries : List Entry) (n : ℕ) (tracks : Result Tracks E) (there : Tracks)
    → tracks ≡ Ok there
    → IfOk tracks (AllTracksFollow set entries n) → AllTracksFollow set entries n there
tracks_there {E} set entries n tracks there is = subst (λ (result : Result Tracks E). IfOk result (AllTracksFollow set entries n)) is

-- ---- the next entry
state_at-more : (set : SetData) (entries : List Entry) (n : ℕ) (entry : Entry) → slice_get entries n ≡ Some entry
    → state_at set entries (n + 1) ≡ effect_of (state_at set entries n) entry
state_at-more set entries n entry there =
    ap (state_after (start_of set)) (take_more entries n entry (slice_get_within entries n entry there)
    ∙ ap (λ (e : Entry). take n entries ++ e ∷ []) (get_or_from_slice_get entries n entry entry there))
    ∙ state_after-push (start_of set) (take n entries) entry

-- one entry more
pub followed_more : (set : SetData) (entries : List Entry) (n m : ℕ) (links : State) (tracks next : Tracks)
    → links ≡ state_at set entries (n + 1) → m ≡ n + 1 → AllTracksFollow set entries n tracks → AllSee m links tracks next
    → AllTracksFollow set entries (n + 1) next
followed_more set entries n m links tracks next now count followed seen =
    let sees : AllSee (n + 1) links tracks next = subst (λ (k : ℕ). AllSee k links tracks next) count seen in
    record {
      lanes = each_more (lane_at set entries) set.processors n tracks.lanes.items next.lanes.items followed.lanes
          (subst (λ (s : State). EachSees (n + 1) (lane_of s) tracks.lanes.items next.lanes.items) now sees.lanes);
      absences = each_more (absence_at set entries) set.processors n tracks.absences.items next.absences.items followed.absences
          (subst (λ (s : State). EachSees (n + 1) (absence_of s) tracks.absences.items next.absences.items) now sees.absences);
      rows = each_more (row_at set entries) (length set.tasks) n tracks.rows.items next.rows.items followed.rows
          (subst (λ (s : State). EachSees (n + 1) (row_of s) tracks.rows.items next.rows.items) now sees.rows);
    }

-- each state of a history has the processors and tasks of the set
same_counts : (set : SetData) (entries : List Entry) (n : ℕ) (links : State) → links ≡ state_at set entries n
    → (links.processors ≡ set.processors) × (task_count links ≡ length set.tasks)
same_counts set entries n links there =
    let same = same_tasks-history (start_of set) (take n entries) in (
      ap (λ (s : State). s.processors) there ∙ same.processors,
      ap task_count there ∙ ap length same.priorities ∙ length-map set.tasks (λ (task : TaskData). task.priority),
    )

-- the links after it have as many processors and tasks as there are tracks
pub see_known : (set : SetData) (entries : List Entry) (n : ℕ) (links : State) (tracks : Tracks) → links ≡ state_at set entries (n + 1)
    → AllTracksFollow set entries n tracks → AreTracksOf links.processors (task_count links) tracks
see_known set entries n links tracks now followed =
    let counts = same_counts set entries (n + 1) links now in
    record {
      lanes = followed.lanes.all ∙ sym counts.0;
      absences = followed.absences.all ∙ sym counts.0;
      rows = followed.rows.all ∙ sym counts.1;
    }

-- what is seen of a processor says who is on it
seen_there : (occupant : Option ℕ) → seen_task (option_map Task occupant) ≡ occupant
seen_there None = refl
seen_there (Some t) = refl

-- the tracks show the links before it
pub shown_before : (set : SetData) (entries : List Entry) (n : ℕ) (entry : Entry) (links : State) (tracks : Tracks) (mover : Option ℕ)
    → AreLinksAfter set entries n entry links → AllTracksFollow set entries n tracks → mover ≡ mover_of entry.event entry.reply
    → ShowBefore mover links tracks.lanes.items tracks.rows.items
shown_before set entries n entry links tracks mover known followed is =
    let before : State = state_at set entries n in
    let after = same_counts set entries (n + 1) links known.after in
    let at_n = same_counts set entries n before refl in
    let effect : links ≡ effect_of before entry = known.after ∙ state_at-more set entries n entry known.there in
    record {
      before = before;
      lanes_show = λ p lt. ap seen_task (followed.lanes.each p (rw after.0 at lt)).current ∙ seen_there (task_on before p);
      rows_show = λ t lt. (followed.rows.each t (rw followed.rows.all at lt)).current;
      no_more = λ p le. get_or_past before.on p None
          (let count = known.before.on_count in let a = after.0 in let b = at_n.0 in omega arith);
      ready = λ t other. ap (λ (s : State). is_ready s t) effect ∙ ready_but before entry.event entry.reply t (λ e. other (is ∙ e));
    }

-- ---- the end
pub followed_all : (set : SetData) (entries : List Entry) (m : ℕ) (tracks ended : Tracks) → m ≡ length entries + 1
    → AllTracksFollow set entries (length entries) tracks → AllEnd m tracks ended → HaveSpans set entries ended
followed_all set entries m tracks ended whole followed all_end =
    let ends : AllEnd (length entries + 1) tracks ended = subst (λ (k : ℕ). AllEnd k tracks ended) whole all_end in
    record {
      lane_count = ends.lanes.count ∙ followed.lanes.all;
      absence_count = ends.absences.count ∙ followed.absences.all;
      row_count = ends.rows.count ∙ followed.rows.all;
      lanes = each_all (lane_at set entries) set.processors (length entries) tracks.lanes.items ended.lanes.items followed.lanes ends.lanes;
      absences = each_all (absence_at set entries) set.processors (length entries) tracks.absences.items ended.absences.items
          followed.absences ends.absences;
      rows = each_all (row_at set entries) (length set.tasks) (length entries) tracks.rows.items ended.rows.items followed.rows ends.rows;
    }
