use Rattle.std.proofs.Common.{Vec, Global, ◌≡◌, ◌+◌, ◌<◌, ◌++◌, drop, ℕ, List, Option, Some, sym, ap, ◌∙◌, subst, arith}
use Rattle.live_core.specs.Lost.{state_held}
use Rattle.trace_losses.specs.ChainAt.{steps_of}
use Rattle.trace_losses.specs.declared.chains.ChainStep.{ChainStep}
use Rattle.trace_losses.proofs.ChainsAt.{step_more, no_step_more, steps_end}
use Rattle.trace_losses.proofs.chains.steps_along.Goals as goal
use Rattle.trace_losses.proofs.chains.steps_along.Goals.{in-Some+in_ok-push, in_default}

abbrev Steps : Type 0
Steps = Vec ChainStep Global

pub loop-p-preserved : goal.loop-p-preserved
loop-p-preserved c =
    let items = c.processors-p-items.result.now in
    let i = c.loop-p.p-index in
    let before = c.loop-p.invariant in
    record {
      items = before.items;
      all = before.all;
      along = λ on held.
          (let table = state_held c.args.core.now.links on in
          let whole = steps_of table (Some c.args.task) c.args.chain.now in
          elim c.match-guest.branch [
            | in-Some+in_ok-push w ↦
                step_more table items whole c.loop-p.steps.items c.match-guest.steps.items c.loop-p.guest c.match-guest.guest w.in-Some.task
                i
                c.loop-p-test.true w.in-Some.is (ap (λ (v : Steps). v.items) w.steps-is ∙ w.in_ok-push.ensures.items)
                (w.guest-is ∙ w.holder-guest.ensures on held) (before.along on held)
            | in_default w ↦
                subst (λ (g : Option ℕ). c.match-guest.steps.items ++ steps_of table g (drop (i + 1) items) ≡ whole) (sym w.guest-is)
                (subst (λ (v : Steps). v.items ++ steps_of table c.loop-p.guest (drop (i + 1) items) ≡ whole) (sym w.steps-is)
                (no_step_more table items whole c.loop-p.steps.items c.loop-p.guest i w.in_default.is (before.along on held)))
          ]);
    }

pub returns : goal.returns
returns c = λ on held.
    steps_end (state_held c.args.core.now.links on) c.processors-p-items.result.now
    (steps_of (state_held c.args.core.now.links on) (Some c.args.task) c.args.chain.now) c.loop-p.steps.items c.loop-p.guest
    c.loop-p.p-index c.loop-p-test.false (c.loop-p.invariant.along on held)
