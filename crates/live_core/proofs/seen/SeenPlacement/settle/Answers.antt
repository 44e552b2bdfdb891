use Rattle.std.proofs.Common.{◌≡◌, ℕ, List, Option, Some, sym, subst}
use Rattle.std.specs.Prelude.{◌↔◌}
use Rattle.strong_apa.specs.State.{task_on}
use Rattle.live_core.specs.Seen.{RunsOn}
use Rattle.live_core.proofs.seen.SeenPlacement.settle.Goals as goal

pub returns-then-not-self-clause-runs : goal.returns-then-not-self-clause-runs
returns-then-not-self-clause-runs c = λ anew.
    subst (λ (seen : List (Option ℕ)). (q t : ℕ) → (task_on c.settle_anew.new.self.table q ≡ Some t) ↔ RunsOn c.args.links.now seen t q)
    (sym c.settle_anew.ensures.seen) c.settle_anew.ensures.runs
