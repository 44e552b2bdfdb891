-- The text of a run, event by event.
use Rattle.std.proofs.Common.{◌≡◌, ℕ, ◌+◌, ◌<◌, ◌≤◌, List, [], ◌∷◌, ◌++◌, length, take, get_or, codes, refl, sym, ap, ◌∙◌, arith}
use Rattle.std.proofs.Common.{append-nil}
use Rattle.std.proofs.lemmas.List.{take_more, take_all, map-append, length-map, flat_map_more}
use Rattle.std.proofs.lemmas.List.Elements.{All-push}
use Rattle.task_set.specs.TaskSet.{SetData}
use Rattle.task_set.specs.Event.{IsOfVersion}
use Rattle.task_set.specs.declared.event.Event.{Event}
use Rattle.task_set.specs.declared.event.Event.TheVariants.{Arrive, Depart, Tick, Affinity, Offline, Online}
use Rattle.text_fields.specs.EventText.{IsAboutSet}
use Rattle.text_fields.specs.LineText.{line}
use Rattle.trace_reader.specs.declared.posted.Posted.{Posted}
use Rattle.nested_masks.specs.Answers.{IsEventByCounts}
use Rattle.nested_masks.specs.NestedData.{NestedData, nested_start}
use Rattle.nested_masks.specs.LaminarStep.{LaminarStep}
use Rattle.nested_masks.specs.NestedText.{NestedEntry, RunsTo, IsJustified, IsWritten, IsWrittenSoFar, IsNestedText, events_of, entry_line}
use Rattle.nested_masks.specs.NestedText.{head_text}

-- one entry more
runs_push : (n : NestedData) (entries : List NestedEntry) (middle : NestedData) (entry : NestedEntry) → RunsTo n entries middle
    → LaminarStep middle entry.event entry.reply entry.after → RunsTo n (entries ++ entry ∷ []) entry.after
runs_push n [] middle entry runs step = (rw (← runs) step, refl)
runs_push n (first ∷ rest) middle entry runs step = (runs.0, runs_push first.after rest middle entry runs.1 step)

pub written_start : (set : SetData) (head : List ℕ) → IsWrittenSoFar set [] head (nested_start set) head
written_start set head = record {
  entries = [];
  run = record { steps = refl; each_event = refl; justified = λ k d lt. absurd (omega arith) };
  same = length-map _ _;
  written = sym (append-nil head);
}

pub written_more : (set : SetData) (events : List Event) (event : Event) (head : List ℕ) (old : NestedData) (before : List ℕ)
    (new : NestedData) (after : List ℕ) → IsWrittenSoFar set events head old before → IsWritten set event old before new after
    → IsWrittenSoFar set (events ++ event ∷ []) head new after
written_more set events event head old before new after so_far written =
    let entry : NestedEntry = record { event = event; reply = written.reply; after = new } in
    record {
      entries = so_far.entries ++ entry ∷ [];
      run = record {
        steps = runs_push (nested_start set) so_far.entries old entry so_far.run.steps written.step;
        each_event = map-append (λ (e : NestedEntry). e.event) so_far.entries (entry ∷ [])
            ∙ ap (λ (es : List Event). es ++ event ∷ []) so_far.run.each_event;
        justified = All-push IsJustified so_far.entries entry so_far.run.justified written.justified;
      };
      same = written.same ∙ so_far.same;
      written = written.line_written ∙ ap (λ (bytes : List ℕ). bytes ++ entry_line set entry) so_far.written
          ∙ flat_map_more (entry_line set) head so_far.entries entry;
    }

-- the events of one more line
pub events_more : (events : List Posted) (k : ℕ) (posted : Posted) → k < length events → posted ≡ get_or events k posted
    → events_of (take (k + 1) events) ≡ events_of (take k events) ++ posted.event ∷ []
events_more events k posted lt is =
    ap events_of (take_more events k posted lt) ∙ map-append (λ (p : Posted). p.event) (take k events) (get_or events k posted ∷ [])
    ∙ ap (λ (p : Posted). events_of (take k events) ++ p.event ∷ []) (sym is)

-- all lines were written, and the end
pub text_written : (set : SetData) (events : List Posted) (k : ℕ) (nested : NestedData) (before after : List ℕ) → length events ≤ k
    → IsWrittenSoFar set (events_of (take k events)) (head_text (length events)) nested before → after ≡ before ++ line (codes "end")
    → IsNestedText set events after
text_written set events k nested before after all so_far ended =
    let whole : take k events ≡ events = take_all k events all in
    let count : length so_far.entries ≡ length events = sym (length-map so_far.entries (λ (e : NestedEntry). e.event))
    ∙ ap length so_far.run.each_event ∙ length-map (take k events) (λ (p : Posted). p.event) ∙ ap length whole in
    record {
      entries = so_far.entries;
      last = nested;
      run = rw whole at so_far.run;
      written = ended ∙ ap (λ (bytes : List ℕ). bytes ++ line (codes "end")) so_far.written ∙ rw count refl;
    }

-- the events of the first version are those of a scheduler by counts
pub event_by_counts : (set : SetData) (version count : ℕ) (event : Event) → version ≡ 1 → count ≡ length set.tasks
    → IsOfVersion version event → IsAboutSet set event → IsEventByCounts count event
event_by_counts set version count (Arrive t) first same of_version about = rw same about
event_by_counts set version count (Depart t) first same of_version about = rw same about
event_by_counts set version count (Tick units) first same of_version about = tt
event_by_counts set version count (Affinity t mask) first same of_version about = absurd (omega arith)
event_by_counts set version count (Offline p) first same of_version about = absurd (omega arith)
event_by_counts set version count (Online p) first same of_version about = absurd (omega arith)
