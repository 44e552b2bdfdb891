use Rattle.std.proofs.Common.{◌∷◌, ℕ, List, Some, None, set, refl, ap, sym, subst, ◌∙◌, Option}
use Rattle.trace_losses.specs.Runs.{IsArmed, put_at}
use Rattle.trace_losses.specs.Walk.{StepsBack}
use Rattle.trace_passages.specs.declared.turn.Turn.{Turn}
use Rattle.trace_passages.specs.declared.turn.Turn.TheVariants.{Switch, Woken}
use Rattle.trace_losses.proofs.Restored.{apart_back}
use Rattle.trace_losses.proofs.Running.{switch_armed}
use Rattle.trace_losses.proofs.runners.Runners.before.Goals as goal

pub returns-in-Switch-clause-armed : goal.returns-in-Switch-clause-armed
returns-in-Switch-clause-armed c = λ base after armed.
    subst (λ (turn : Turn). IsArmed base (turn ∷ after) c.put-in-Switch.new.self.processors.items) (sym c.in-Switch.is)
    (switch_armed base after c.args.self.now.processors.items c.stop_all.new.processors.items c.put-in-Switch.new.self.processors.items
    c.in-Switch.processor c.in-Switch.from c.in-Switch.to c.stop_all.ensures
    (c.put-in-Switch.ensures.put
    ∙ ap (λ (on : List (Option ℕ)). put_at on c.in-Switch.from (Some c.in-Switch.processor)) c.put.ensures.put)
    armed)

pub returns-in-Switch-clause-back : goal.returns-in-Switch-clause-back
returns-in-Switch-clause-back c =
    subst (λ (turn : Turn). StepsBack turn c.args.self.now.processors.items c.put-in-Switch.new.self.processors.items) (sym c.in-Switch.is) (
      c.stop_all.new.processors.items,
      c.stop_all.ensures,
      c.put-in-Switch.ensures.put
          ∙ ap (λ (on : List (Option ℕ)). put_at on c.in-Switch.from (Some c.in-Switch.processor)) c.put.ensures.put,
    )

pub returns-in-Switch-clause-apart : goal.returns-in-Switch-clause-apart
returns-in-Switch-clause-apart c =
    apart_back (Switch c.in-Switch.processor c.in-Switch.from c.in-Switch.to) c.args.self.now.processors.items
    c.put-in-Switch.new.self.processors.items (
      c.stop_all.new.processors.items,
      c.stop_all.ensures,
      c.put-in-Switch.ensures.put
          ∙ ap (λ (on : List (Option ℕ)). put_at on c.in-Switch.from (Some c.in-Switch.processor)) c.put.ensures.put,
    )

pub returns-in-Woken-clause-apart : goal.returns-in-Woken-clause-apart
returns-in-Woken-clause-apart c =
    apart_back (Woken c.in-Woken.task) c.args.self.now.processors.items (set c.args.self.now.processors.items c.in-Woken.task None) refl
