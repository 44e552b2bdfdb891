use Rattle.std.proofs.Common.{◌≡◌, ◌⊎◌, ℕ, ◌<◌, ◌≤◌, length}
use Rattle.job_release.specs.Driving.{IsNotAfter, IsDueAt, last_of_tick, job_row_at}
use Rattle.job_release.specs.declared.row.JobRow.{JobRow}
use Rattle.job_release.proofs.driver.Driver.next_moment.Given as goal

abbrev pub invariant-loop-t : goal.invariant-loop-t
invariant-loop-t g l =
    let links = (g.S.JobScheduler.seen l.self.scheduler).now in
    record {
      end : l.t-end ≡ length l.self.rows.items;
      later : l.self.moment < l.next;
      within : l.next ≤ last_of_tick l.self.horizon l.self.moment;
      not_after : (u : ℕ) (d : JobRow) → u < l.t → IsNotAfter links l.self.moment l.next u (job_row_at l.self.rows.items u d);
      due : (l.next ≡ last_of_tick l.self.horizon l.self.moment)
          ⊎ ((u : ℕ) × (u < l.t) × ((d : JobRow) → IsDueAt links l.self.moment l.next u (job_row_at l.self.rows.items u d)));
    }
