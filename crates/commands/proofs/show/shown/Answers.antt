use Rattle.std.proofs.Common.{◌≡◌, ◌+◌, ◌≤◌, ℕ, length, sym, ap, ◌∙◌, subst, arith}
use Rattle.trace_bars.specs.Parts.{AreBarsOf, trace_of}
use Rattle.trace_passages.specs.Passages.{span_of}
use Rattle.commands.specs.Show.{part_of}
use Rattle.commands.proofs.PassageSpans.{same_span}
use Rattle.commands.proofs.show.shown.Goals as goal

pub bars_of-requires-clause-within : goal.bars_of-requires-clause-within
bars_of-requires-clause-within c =
    let span : c.span.result ≡ span_of c.passages.result.now =
    c.span.ensures ∙ same_span c.args.trace.now.passages ∙ ap span_of (sym c.passages.ensures) in
    subst (λ (n : ℕ). c.part_of-part.result.to ≤ n) span c.part_of-part.ensures.within

pub returns : goal.returns
returns c =
    let trace = c.args.trace.now in
    let bars = c.in_ok-bars.bars in
    let tasks : c.len.result ≡ length trace.set.tasks = rw c.set.ensures at c.len.ensures.value in
    let unlisted = c.unlisted.ensures.value in
    let threads : c.len.result + c.unlisted.result ≡ length trace.set.tasks + length trace.unlisted = omega (arith, tasks, unlisted) in
    let are = subst (λ (n : ℕ). AreBarsOf (trace_of c.set-2.result.now n c.passages.result.now) c.part_of-part.result bars) threads
    c.in_ok-bars.ensures in
    let part : c.part_of-part.result ≡ part_of c.args.window (span_of trace.passages) =
    c.part_of-part.ensures.value ∙ ap (part_of c.args.window) (c.span.ensures ∙ same_span trace.passages) in
    record {
      bars = bars;
      valid = rw c.set.ensures at c.len.ensures.valid;
      are = rw (c.set-2.ensures, c.passages.ensures, part) at are;
      picture = rw (c.set-3.ensures, c.clock.ensures, part) at c.in_ok-text.ensures;
    }
