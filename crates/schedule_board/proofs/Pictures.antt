-- A picture follows the entries.
use Rattle.std.proofs.Common.{◌≡◌, ℕ, ◌+◌, List, [], ◌∷◌, ◌++◌, refl, sym, ap, ◌∙◌, length-append}
use Rattle.task_set.specs.TaskSet.{SetData}
use Rattle.strong_apa.specs.declared.reply.Entry.{Entry}
use Rattle.strong_apa.specs.State.{State, start_of, task_on}
use Rattle.strong_apa.specs.History.{effect_of, state_after}
use Rattle.strong_apa.proofs.Histories.{state_after-push}
use Rattle.strong_apa.proofs.SameTasks.{same_tasks-effect, same_tasks-history}
use Rattle.schedule_board.specs.declared.picture.Picture.{Picture}
use Rattle.schedule_board.specs.Links.{ShowsLinks}
use Rattle.schedule_board.specs.Pictures.{IsPictureOf}

-- what a picture of a history shows are the links after it
pub shows_history : (m : ℕ) (entries : List Entry) (picture : Picture) (set : SetData) → set.processors ≡ m → IsPictureOf m entries picture
    → ShowsLinks (state_after (start_of set) entries) picture.occupants
shows_history m entries picture set e h = record {
  processors = h.processors ∙ sym e ∙ sym (same_tasks-history (start_of set) entries).processors;
  places = h.places;
  each = h.links set e;
}

-- and after the next entry those after this one too
pub follows : (m : ℕ) (entries : List Entry) (entry : Entry) (old new : Picture) → new.count ≡ old.count + 1
    → ((s : State) → ShowsLinks s old.occupants → ShowsLinks (effect_of s entry) new.occupants) → IsPictureOf m entries old
    → IsPictureOf m (entries ++ entry ∷ []) new
follows m entries entry old new count steps h =
    let any : SetData = record { processors = m; tasks = [] } in
    let before : State = state_after (start_of any) entries in
    let after = steps before (shows_history m entries old any refl h) in record {
      processors = after.processors ∙ (same_tasks-effect before entry).processors ∙ (same_tasks-history (start_of any) entries).processors;
      places = after.places;
      count = count ∙ ap (λ (n : ℕ). n + 1) h.count ∙ sym (length-append entries (entry ∷ []));
      links = λ set e p below.
          let s = state_after (start_of set) entries in
          (steps s (shows_history m entries old set e h)).each p below
          ∙ ap (λ (t : State). task_on t p) (sym (state_after-push (start_of set) entries entry));
    }
