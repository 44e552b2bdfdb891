use Rattle.std.proofs.Common.{◌≡◌}
use Rattle.std.proofs.lemmas.Result.{IfOk-weaker}
use Rattle.schedule_text.specs.ScheduleText.{schedule_text}
use Rattle.command_line.specs.Run.{IsTextOfReplay}
use Rattle.command_line.proofs.replayed.text_of.Goals as goal

pub text_of_replay-requires-clause-merge : goal.text_of_replay-requires-clause-merge
text_of_replay-requires-clause-merge g c =
    let replayed = rw (c.set.ensures.value, c.events.ensures.value) at c.in_ok-made.ensures.core in
    rw c.history.ensures.value replayed.merge

pub text_of_replay-requires-clause-legal : goal.text_of_replay-requires-clause-legal
text_of_replay-requires-clause-legal g c =
    let replayed = rw (c.set.ensures.value, c.events.ensures.value) at c.in_ok-made.ensures.core in
    rw c.history.ensures.value replayed.over.legal

pub text_of_replay-requires-clause-contexts : goal.text_of_replay-requires-clause-contexts
text_of_replay-requires-clause-contexts g c =
    rw (c.deref.ensures.value, c.history.ensures.value) (rw c.set.ensures.value at c.in_ok-made.ensures.contexts)

pub returns-clause-text : goal.returns-clause-text
returns-clause-text g c =
    let input = c.args.input.now in
    let made = c.in_ok-made.made in
    let replayed = rw (c.set.ensures.value, c.events.ensures.value) at c.in_ok-made.ensures.core in
    IfOk-weaker c.text_of_replay.result (λ text. text.items ≡ schedule_text input.version input.set made.core.history made.contexts.items)
    (λ text. IsTextOfReplay input.version input.set input.events text.items)
    (λ text says. record {
      history = made.core.history;
      printed = made.contexts.items;
      merge = replayed.merge;
      legal = replayed.over.legal;
      contexts = rw c.set.ensures.value at c.in_ok-made.ensures.contexts;
      text = says;
    })
    (rw (c.deref.ensures.value, c.history.ensures.value) at c.text_of_replay.ensures.text)
