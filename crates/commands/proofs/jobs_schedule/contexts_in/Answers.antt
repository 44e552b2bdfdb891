use Rattle.std.proofs.Common.{◌∷◌, ◌++◌, [], List, sym, ap, ◌∙◌, arith}
use Rattle.std.proofs.lemmas.List.{take_all}
use Rattle.task_set.specs.declared.context.Context.{Context}
use Rattle.commands.proofs.RunSchedules.{contexts_more}
use Rattle.commands.proofs.jobs_schedule.contexts_in.Goals as goal

pub loop-t-preserved : goal.loop-t-preserved
loop-t-preserved c =
    let context = c.context.result.now in
    record {
      end = c.loop-t.invariant.end;
      listed = c.in_ok-push.ensures.items
          ∙ ap (λ (contexts : List Context). contexts ++ context ∷ []) c.loop-t.invariant.listed
          ∙ sym (contexts_more c.args.checker.now.contexts c.loop-t.t context c.context.ensures.value);
    }

pub returns : goal.returns
returns c =
    let kept = c.loop-t.invariant in
    let end = kept.end in
    let from = c.loop-t-test.false in
    kept.listed ∙ take_all c.loop-t.t c.args.checker.now.contexts (omega arith)
