-- What an observer saw, by the history of which it saw the pictures.
use Rattle.std.proofs.Common.{◌≡◌, ℕ, ◌<◌, ◌≤◌, Bool, true, false, ◌&&◌, nat_lt, List, take, map, All, None, refl, sym, ap, ◌∙◌, inl, inr}
use Rattle.std.proofs.Common.{arith}
use Rattle.std.specs.Prelude.{is_some}
use Rattle.std.proofs.lemmas.Bool.{cases_lt, lt-ltb}
use Rattle.std.proofs.lemmas.List.{take_all, get_or_past}
use Rattle.std.proofs.lemmas.List.Elements.{All-map}
use Rattle.task_set.specs.TaskSet.{SetData, IsTaskSet}
use Rattle.strong_apa.specs.declared.reply.Entry.{Entry}
use Rattle.strong_apa.specs.State.{State, IsState, task_on}
use Rattle.strong_apa.specs.History.{IsLegal, state_at}
use Rattle.strong_apa.proofs.Histories.{IsState-state_at}
use Rattle.schedule_board.specs.declared.picture.Picture.{Picture}
use Rattle.schedule_board.specs.Pictures.{IsPictureOf, task_at}
use Rattle.replay.specs.declared.sighting.Sighting.{Sighting}
use Rattle.replay.specs.Sightings.{IsSightingOf}
use Rattle.command_line.specs.Shown.{snapshot_of, reading_of}
use Rattle.command_line.specs.Watch.{IsOccupiedSet, IsSnapshotOf, IsReadingOf}
use Rattle.command_line.proofs.Snapshots.{has-set_below}

-- no task is linked to a processor that no system has
nobody_past : (s : State) → IsState s → (p : ℕ) → 64 ≤ p → task_on s p ≡ None
nobody_past s ok p past = get_or_past s.on p None (let count = ok.on_count in let most = ok.processors in omega (arith, count, most, past))

inside : (below there : Bool) → below ≡ true → (below && there) ≡ there
inside below there is_below = grind arith

outside : (below there : Bool) → below ≡ false → (below && there) ≡ false
outside below there is_past = grind arith

not_below : (p : ℕ) → 64 ≤ p → nat_lt p 64 ≡ false
not_below p past = grind arith

-- the processors that a picture shows as occupied are those of the state
occupied_set : (s : State) → IsState s → (picture : Picture) → ((p : ℕ) → p < 64 → task_at picture p ≡ task_on s p)
    → IsOccupiedSet s (snapshot_of picture).occupied
occupied_set s ok picture links p =
    has-set_below (λ (q : ℕ). is_some (task_at picture q)) 64 p
    ∙ elim (cases_lt p 64) [
      | inl below ↦ inside (nat_lt p 64) (is_some (task_at picture p)) (lt-ltb p 64 below) ∙ ap is_some (links p below)
      | inr past ↦ outside (nat_lt p 64) (is_some (task_at picture p)) (not_below p past) ∙ sym (ap is_some (nobody_past s ok p past))
    ]

module _ (set : SetData) (history : List Entry) (valid : IsTaskSet set) (legal : IsLegal set history) where
  snapshot_seen : (picture : Picture) → IsPictureOf set.processors (take picture.count history) picture
      → IsSnapshotOf set history (snapshot_of picture)
  snapshot_seen picture drawn = occupied_set (state_at set history picture.count) (IsState-state_at set history picture.count valid legal)
      picture (drawn.links set refl)

  -- what was seen is what is read
  pub reading_seen : (seen : Sighting) → IsSightingOf set history seen → IsReadingOf set history (reading_of seen)
  reading_seen seen says =
      let whole = says.told.count in
      let all : take seen.told.count history ≡ history = take_all seen.told.count history (omega (arith, whole)) in
      record {
        first = snapshot_seen seen.first says.first;
        last = snapshot_seen seen.last says.last;
        told = snapshot_seen seen.told (rw all says.told);
        first_to_last = says.first_to_last;
        last_to_told = says.last_to_told;
        whole = whole;
      }

  pub readings_seen : (sightings : List Sighting) → All (IsSightingOf set history) sightings
      → All (IsReadingOf set history) (map reading_of sightings)
  readings_seen sightings says = All-map (IsReadingOf set history) reading_of sightings (λ k d within. reading_seen _ (says k d within))
