use Rattle.std.proofs.Common.{◌+◌, ℕ, List, length, sym, ap, ◌∙◌, subst, arith}
use Rattle.task_set.specs.TaskSet.{SetData}
use Rattle.job_release.specs.Driving.{AreFresh, IsFresh}
use Rattle.job_release.specs.declared.row.JobRow.{JobRow}
use Rattle.job_release.proofs.Fresh.{fresh_more, fresh_none}
use Rattle.job_release.proofs.driver.fresh_rows.Goals as goal

pub loop-t-init : goal.loop-t-init
loop-t-init c = record {
  end = c.len-t-end.ensures.value ∙ ap (λ (set : SetData). length set.tasks) c.set.ensures.value ∙ sym c.set.ensures.valid.one_each;
  fresh = fresh_none c.args.input.now.jobs c.new-rows.result.items c.new-rows.ensures.items;
}

pub loop-t-preserved : goal.loop-t-preserved
loop-t-preserved c =
    let fresh : IsFresh _ c.in_ok-row.row = rw c.jobs.ensures.value at c.in_ok-row.ensures in
    record {
      end = c.loop-t.invariant.end;
      fresh = (let P : List JobRow → Type 0 = λ rows. AreFresh c.args.input.now.jobs (c.loop-t.t + 1) rows in
          subst P (sym c.in_ok-push.ensures.items)
          (fresh_more c.args.input.now.jobs c.loop-t.t c.loop-t.rows.items c.in_ok-row.row c.loop-t.invariant.fresh fresh));
    }

pub returns : goal.returns
returns c =
    let end = c.loop-t.invariant.end in
    let from = c.loop-t-test.false in
    let auto = c.loop-t.auto.t-end in
    let P : ℕ → Type 0 = λ n. AreFresh c.args.input.now.jobs n c.loop-t.rows.items in
    subst P (omega arith) c.loop-t.invariant.fresh
