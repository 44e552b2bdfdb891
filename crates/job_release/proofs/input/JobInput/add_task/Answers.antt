use Rattle.std.proofs.Common.{◌≡◌, ◌∷◌, ◌++◌, [], rules}
use Rattle.task_set.specs.Refusal.{new_task}
use Rattle.job_release.specs.JobInput.{input_view, lists_of}
use Rattle.job_release.proofs.Stored.{rows_pushed, stored_with_jobs}
use Rattle.job_release.proofs.input.JobInput.add_task.Goals as goal

pub invariant_of-self-in_default : goal.invariant_of-self-in_default
invariant_of-self-in_default c =
    let a = c.self.inside in
    let adds = c.in_default.ensures.added in
    let pushed : c.push.new.self.items ≡ a.jobs.items ++ c.args.jobs ∷ [] = search rules in
    stored_with_jobs (input_view a) (new_task c.args.name.now c.args.priority c.args.mask) c.args.jobs.items c.add.new.self
    (lists_of c.push.new.self.items)
    c.self.invariant adds.allowed (rw (← c.self.view_is) at c.requires.jobs) (rw (← c.self.view_is) at c.requires.few) adds.last
    (rows_pushed a.jobs.items c.push.new.self.items c.args.jobs pushed)
