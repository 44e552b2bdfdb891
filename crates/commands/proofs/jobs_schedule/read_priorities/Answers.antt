use Rattle.std.proofs.Common.{◌<◌, length, arith}
use Rattle.commands.proofs.RunSchedules.{priorities_more}
use Rattle.commands.proofs.jobs_schedule.read_priorities.Goals as goal

pub loop-t-preserved : goal.loop-t-preserved
loop-t-preserved c =
    let kept = c.loop-t.invariant in
    let within : c.loop-t.t < length c.args.set.now.tasks = (let end = kept.end in let below = c.loop-t-test.true in omega arith) in
    record {
      end = kept.end;
      fit = priorities_more c.args.set.now c.loop-t.t c.priority-fits.result within c.priority-fits.ensures
          (omega (arith, c.priority-fits.type_inv)) kept.fit;
    }

pub returns : goal.returns
returns c k task within =
    let kept = c.loop-t.invariant in
    let end = kept.end in
    let from = c.loop-t-test.false in
    kept.fit k task (omega arith)
