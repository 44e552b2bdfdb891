use Rattle.std.proofs.Common.{◌≡◌, ℕ, ◌<◌, List, length, sym, ap, ◌∙◌, subst, arith}
use Rattle.std.proofs.lemmas.List.{length-map}
use Rattle.task_set.specs.TaskSet.{TaskData, priorities}
use Rattle.trace_passages.specs.Passages.{span_of}
use Rattle.trace_losses.specs.Book.{IsBook}
use Rattle.trace_losses.specs.Losses.{AreLossesOf}
use Rattle.trace_losses.specs.Passages.{AreMoments}
use Rattle.trace_losses.specs.Watch.{AreWatches}
use Rattle.trace_losses.specs.declared.seen.Seen.{Seen}
use Rattle.trace_losses.specs.declared.tally.Tally.{Tally}
use Rattle.trace_losses.specs.declared.watch.StretchWatch.{StretchWatch}
use Rattle.trace_losses.proofs.OneMoments.{one_moments}
use Rattle.trace_losses.proofs.ReadyTasks.{ready_within}
use Rattle.trace_losses.proofs.loss.losses_of.Goals as goal

pub losses_by-requires-clause-kept : goal.losses_by-requires-clause-kept
losses_by-requires-clause-kept c =
    let kept = c.in_ok-counts.ensures.of.kept in
    rw c.deref-2.ensures.value (λ t tally is. (kept t tally is).0)

pub returns-clause-losses : goal.returns-clause-losses
returns-clause-losses c =
    let passages = c.args.passages.now in
    let threads = c.args.threads in
    let tasks = c.args.set.now.tasks in
    let counted = c.in_ok-counts.ensures in
    let watched = c.in_ok-watches.ensures.watches in
    let count = length-map tasks (λ (task : TaskData). task.priority) in
    let same : watched.moments ≡ counted.moments =
    one_moments c.args.set.now threads passages
    (λ n t ready. (let within = ready_within (length tasks) threads passages c.requires n t ready in omega (arith, within, count)))
    (span_of passages) watched.moments counted.moments watched.are counted.are in
    let wide : length c.deref-4.result.now ≡ length tasks = ap length (c.deref-4.ensures.value ∙ c.in_ok-priorities.ensures) ∙ count in
    let watches =
    subst (λ (n : ℕ). AreWatches n counted.moments c.deref-3.result.now) (sym wide)
    (subst (AreWatches (length tasks) counted.moments) (sym c.deref-3.ensures.value)
    (subst (λ (moments : List (List Seen)). AreWatches (length tasks) moments c.in_ok-watches.watches.items) same watched.of)) in
    let lost = c.in_ok-losses.ensures counted.moments (subst (IsBook counted.moments) (sym c.deref-2.ensures.value) counted.of.book)
    watches in
    record {
      moments = counted.moments;
      span = c.span_of-span.ensures;
      are = subst (λ (n : ℕ). AreMoments c.args.set.now threads passages n counted.moments) (sym c.span_of-span.ensures) counted.are;
      losses = subst (λ (list : List ℕ). AreLossesOf list counted.moments c.in_ok-losses.losses.items)
          (c.deref-4.ensures.value ∙ c.in_ok-priorities.ensures) lost;
      count = (let wide = counted.of.beside_width in omega (arith, wide));
      counted = counted.of.beside;
    }
