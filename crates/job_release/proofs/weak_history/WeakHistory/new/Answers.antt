use Rattle.std.proofs.Common.{[], sym, ap, ◌∙◌}
use Rattle.std.proofs.lemmas.Grind.{merely}
use Rattle.strong_apa.specs.State.{State}
use Rattle.job_release.specs.WeakRuns.{begun_before}
use Rattle.job_release.proofs.Entered.{none_yet, begun_start, stored_are, only_states}
use Rattle.job_release.proofs.weak_history.WeakHistory.new.Goals as goal

pub invariant_of-result : goal.invariant_of-result
invariant_of-result c = (
  (
    [],
    merely (none_yet c.args.set.now c.in_ok-weak.weak c.new-events.result.items c.in_ok-weak.ensures c.new-events.ensures.items
        (rw c.links.ensures.value at c.processors-valid.ensures.valid) c.links.ensures.stable),
  ),
  tt,
)

pub invariant_of-result-2 : goal.invariant_of-result-2
invariant_of-result-2 c =
    let are = stored_are c.in_ok-weak.weak c.new-events.result.items c.result-1.given.0 []
    (none_yet c.args.set.now c.in_ok-weak.weak c.new-events.result.items c.in_ok-weak.ensures c.new-events.ensures.items
    (rw c.links.ensures.value at c.processors-valid.ensures.valid) c.links.ensures.stable) in
    record { runs = are.0; now = are.1 }

pub returns : goal.returns
returns c =
    let only = only_states c.in_ok-weak.weak c.new-events.result.items c.result-1.given.0 []
    (none_yet c.args.set.now c.in_ok-weak.weak c.new-events.result.items c.in_ok-weak.ensures c.new-events.ensures.items
    (rw c.links.ensures.value at c.processors-valid.ensures.valid) c.links.ensures.stable) in
    let start = ap (λ (s : State). begun_before s) c.in_ok-weak.ensures ∙ begun_start c.args.set.now in
    λ i. record { start = start i; events = c.new-events.ensures.items i; states = (sym only) i }
