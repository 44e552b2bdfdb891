-- A text with the two groups of all spans of a history is a picture of it.
use Rattle.std.proofs.Common.{◌≡◌, ℕ, ◌+◌, ◌≤◌, List, length, ap, ◌∙◌, subst}
use Rattle.std.specs.Prelude.{slice_index}
use Rattle.task_set.specs.TaskSet.{SetData}
use Rattle.strong_apa.specs.declared.reply.Entry.{Entry}
use Rattle.schedule_picture.specs.declared.axis.Axis.{Axis}
use Rattle.schedule_picture.specs.declared.window.Window.{Window}
use Rattle.schedule_picture.specs.declared.tracks.Tracks.{Tracks}
use Rattle.schedule_picture.specs.History.{HaveSpans}
use Rattle.schedule_picture.specs.Listing.{IsListing}
use Rattle.schedule_picture.proofs.Listed.{listing_tasks}
use Rattle.schedule_picture.specs.Elements.{IsWellFormedElement}
use Rattle.schedule_picture.specs.Picture.{IsPicture, HasGroupsOf, clock_moments, end_of, cut_window, spans_in}

pub picture_of : (axis : Axis) (set : SetData) (entries : List Entry) (window part : Window) (tracks : Tracks) (listed text places : List ℕ)
    (end count : ℕ)
    → HaveSpans set entries tracks → length listed ≤ 64 → IsListing places part set (spans_in tracks.rows.items) listed
    → places ≡ clock_moments axis entries → count ≡ length entries → end ≡ slice_index places (count + 1) → part ≡ cut_window window end
    → HasGroupsOf places set part tracks listed text → IsWellFormedElement text → IsPicture axis set entries window text
picture_of axis set entries window part tracks listed text places end count have few listing same_places same_count same_end cut groups
    well_formed =
    let same : end ≡ end_of axis entries = same_end ∙ ap (λ (n : ℕ). slice_index places (n + 1)) same_count
    ∙ ap (λ (ps : List ℕ). slice_index ps (length entries + 1)) same_places in
    let same_part : part ≡ cut_window window (end_of axis entries) = cut ∙ ap (cut_window window) same in
    record {
      well_formed = well_formed;
      lanes = spans_in tracks.lanes.items;
      absences = spans_in tracks.absences.items;
      rows = spans_in tracks.rows.items;
      spans = record { of_lanes = have.lanes; of_absences = have.absences; of_rows = have.rows };
      listed = listed;
      are_tasks = listing_tasks places part set (spans_in tracks.rows.items) listed listing;
      few = few;
      listing = subst (λ (ps : List ℕ). IsListing ps (cut_window window (end_of axis entries)) set (spans_in tracks.rows.items) listed)
          same_places
          (subst (λ (w : Window). IsListing places w set (spans_in tracks.rows.items) listed) same_part listing);
      groups = subst (λ (ps : List ℕ). HasGroupsOf ps set (cut_window window (end_of axis entries)) tracks listed text) same_places
          (subst (λ (w : Window). HasGroupsOf places set w tracks listed text) same_part groups);
    }
