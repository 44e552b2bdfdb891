use Rattle.std.proofs.Common.{◌≡◌, ◌∙◌, ◌++◌, map, refl}
use Rattle.std.proofs.lemmas.List.{length-map}
use Rattle.std.proofs.lemmas.Result.{IfOk-weaker}
use Rattle.schedule_text.specs.ScheduleText.{schedule_text}
use Rattle.command_line.specs.Shown.{reading_of}
use Rattle.command_line.specs.Watch.{IsTextOfWatch}
use Rattle.command_line.specs.WatchText.{observers_text}
use Rattle.command_line.proofs.Readings.{readings_seen}
use Rattle.command_line.proofs.watch.text_of.Goals as goal

pub text_of_watch-requires-clause-merge : goal.text_of_watch-requires-clause-merge
text_of_watch-requires-clause-merge g c =
    let replayed = rw (c.set.ensures.value, c.events.ensures.value) at c.in_ok-made.ensures.core in
    rw c.history.ensures.value replayed.merge

pub text_of_watch-requires-clause-legal : goal.text_of_watch-requires-clause-legal
text_of_watch-requires-clause-legal g c =
    let replayed = rw (c.set.ensures.value, c.events.ensures.value) at c.in_ok-made.ensures.core in
    rw c.history.ensures.value replayed.over.legal

pub text_of_watch-requires-clause-contexts : goal.text_of_watch-requires-clause-contexts
text_of_watch-requires-clause-contexts g c =
    rw (c.deref.ensures.value, c.history.ensures.value) (rw c.set.ensures.value at c.in_ok-made.ensures.contexts)

pub returns-clause-text : goal.returns-clause-text
returns-clause-text g c =
    let input = c.args.input.now in
    let made = c.in_ok-made.made in
    let replayed = rw (c.set.ensures.value, c.events.ensures.value) at c.in_ok-made.ensures.core in
    let readings = map reading_of made.sightings.items in
    let schedule = schedule_text input.version input.set made.core.history made.contexts.items in
    IfOk-weaker c.text_of_watch.result (λ text. text.items ≡ schedule ++ observers_text readings)
    (λ text. IsTextOfWatch c.args.observers input.version input.set input.events text.items)
    (λ text says. record {
      schedule = schedule;
      replayed = record {
        history = made.core.history;
        printed = made.contexts.items;
        merge = replayed.merge;
        legal = replayed.over.legal;
        contexts = rw c.set.ensures.value at c.in_ok-made.ensures.contexts;
        text = refl;
      };
      readings = readings;
      each_observer = length-map made.sightings.items reading_of ∙ c.in_ok-made.ensures.each_observer;
      each_reading = readings_seen input.set made.core.history c.set.ensures.valid.valid replayed.over.legal made.sightings.items
          (rw c.set.ensures.value at c.in_ok-made.ensures.sightings);
      text = says;
    })
    (rw (c.deref.ensures.value, c.deref-2.ensures.value, c.history.ensures.value) at c.text_of_watch.ensures.text)
