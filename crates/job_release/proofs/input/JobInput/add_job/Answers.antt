use Rattle.std.proofs.Common.{◌<◌, length, ap, arith}
use Rattle.std.proofs.lemmas.List.{length-map}
use Rattle.job_release.specs.JobInput.{JobInputData, input_view, with_job}
use Rattle.job_release.proofs.Stored.{Row, row_pushed, row_kept, stored_with_job}
use Rattle.job_release.proofs.input.JobInput.add_job.Goals as goal

pub invariant_of-self : goal.invariant_of-self
invariant_of-self c =
    let a = c.self.inside in
    let number = rw (← c.self.view_is) at c.requires.task in
    let here : c.args.t < length a.jobs.items = omega (
      arith,
      number,
      c.self.invariant.one_each,
      length-map a.jobs.items (λ (row : Row). row.items),
    ) in
    let same = row_kept a.jobs.items c.args.t c.index_mut.result.now c.push.new.self here c.index_mut.ensures.value
    c.in_err-push.ensures.items in
    rw same c.self.invariant

pub invariant_of-self-2 : goal.invariant_of-self-2
invariant_of-self-2 c =
    let a = c.self.inside in
    let number = rw (← c.self.view_is) at c.requires.task in
    let here : c.args.t < length a.jobs.items = omega (
      arith,
      number,
      c.self.invariant.one_each,
      length-map a.jobs.items (λ (row : Row). row.items),
    ) in
    let lists = row_pushed a.jobs.items c.args.t c.index_mut.result.now c.push.new.self c.args.job here c.index_mut.ensures.value
    c.in_ok-push.ensures.items in
    stored_with_job (input_view a) c.args.t c.args.job _ c.self.invariant number (rw (← c.self.view_is) at c.requires.job)
    (rw (← c.self.view_is) at c.requires.order) (rw (← c.self.view_is) at c.requires.room) lists

pub returns : goal.returns
returns c =
    let a = c.self.inside in
    let number = rw (← c.self.view_is) at c.requires.task in
    let here : c.args.t < length a.jobs.items = omega (
      arith,
      number,
      c.self.invariant.one_each,
      length-map a.jobs.items (λ (row : Row). row.items),
    ) in
    let lists = row_pushed a.jobs.items c.args.t c.index_mut.result.now c.push.new.self c.args.job here c.index_mut.ensures.value
    c.in_ok-push.ensures.items in
    rw lists (ap (λ (input : JobInputData). with_job input c.args.t c.args.job) c.self.view_is)
