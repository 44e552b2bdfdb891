use Rattle.std.proofs.Common.{◌∷◌, map, subst}
use Rattle.trace_passages.specs.Turns.{turned}
use Rattle.trace_losses.specs.Runs.{IsArmed, nobody_runs}
use Rattle.trace_passages.specs.declared.turn.Turn.{Turn}
use Rattle.trace_losses.proofs.runners.Runners.after.Goals as goal

pub returns-clause-held : goal.returns-clause-held
returns-clause-held c = λ earlier held.
    subst (λ (turn : Turn). IsArmed nobody_runs (turn ∷ map turned earlier) c.before-2.new.self.processors.items) c.turned.ensures
    (c.before-2.ensures.armed nobody_runs (map turned earlier) held)
