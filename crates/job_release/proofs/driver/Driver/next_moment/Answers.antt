use Rattle.std.proofs.Common.{◌≡◌, ◌<◌, length, inl, inr, arith}
use Rattle.job_release.specs.Driving.{last_of_tick}
use Rattle.job_release.proofs.NextMoments.{not_after_earlier, due_earlier, some_row}
use Rattle.job_release.proofs.driver.Driver.next_moment.Goals as goal

pub loop-t-preserved : goal.loop-t-preserved
loop-t-preserved g c =
    let kept = c.loop-t.invariant in
    let one = c.not_after-next.ensures in
    let d = c.args.self.now in
    let links = (g.S.JobScheduler.seen d.scheduler).now in
    let fits : c.loop-t.t < length d.rows.items = (let end = kept.end in let below = c.loop-t-test.true in omega arith) in
    let row = some_row d.rows.items c.loop-t.t fits in
    record {
      end = kept.end;
      later = (one row).later;
      within = (let earlier = (one row).within in let before = kept.within in omega (arith, earlier, before));
      not_after = not_after_earlier links d.moment c.loop-t.next c.not_after-next.result d.rows.items c.loop-t.t kept.not_after one;
      due = due_earlier links d.moment c.loop-t.next c.not_after-next.result (last_of_tick d.horizon d.moment) d.rows.items
          c.loop-t.t kept.due one;
    }

pub returns : goal.returns
returns g c =
    let kept = c.loop-t.invariant in
    let end = kept.end in
    let from = c.loop-t-test.false in
    let auto = c.loop-t.auto.t-end in
    let within = kept.within in
    let all : c.loop-t.t ≡ length c.args.self.now.rows.items = omega arith in
    record {
      later = kept.later;
      within = omega arith;
      units = omega arith;
      not_after = λ t row inside. kept.not_after t row (omega arith);
      due = elim kept.due [
        | inl last ↦ inl last
        | inr some ↦ inr (some.0, (let below = some.1 in omega arith), some.2)
      ];
    }
