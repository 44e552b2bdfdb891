use Rattle.std.proofs.Common.{◌≡◌}
use Rattle.replay.proofs.ContextLists.{contexts_count}
use Rattle.std.proofs.lemmas.Result.{IfOk-weaker}
use Rattle.commands.specs.Summary.{summary_text}
use Rattle.command_line.specs.Large.{IsLargeOf}
use Rattle.command_line.proofs.LargeTexts.{is_large_of}
use Rattle.command_line.proofs.large.summary_over.Goals as goal

pub write_summary-requires-clause-each : goal.write_summary-requires-clause-each
write_summary-requires-clause-each g c =
    let valid = c.set.ensures.valid in
    let contexts = rw c.set.ensures.value at c.in_ok-made.ensures.contexts in
    rw (c.deref.ensures.value, contexts_count c.args.input.now.set c.in_ok-made.made.core.history _ _ contexts) valid.valid.count

pub returns : goal.returns
returns g c =
    let sizes = c.args.sizes in
    let input = c.args.input.now in
    let history = c.in_ok-made.made.core.history in
    let contexts = c.in_ok-made.made.contexts.items in
    let replayed = rw (c.set.ensures.value, c.events.ensures.value) at c.in_ok-made.ensures.core in
    IfOk-weaker c.write_summary.result (λ text. text.items ≡ summary_text sizes history contexts) (λ text. IsLargeOf sizes text.items)
    (λ text says. is_large_of sizes input.set input.events history contexts text.items c.set.ensures.valid.valid c.requires replayed.merge
    replayed.over.legal
    (rw c.set.ensures.value at c.in_ok-made.ensures.contexts) says)
    (rw (c.history.ensures.value, c.deref.ensures.value) at c.write_summary.ensures)
