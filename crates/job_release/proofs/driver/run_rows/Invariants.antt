use Rattle.std.proofs.Common.{◌≡◌, ℕ, ◌<◌, ◌≤◌, length, get_or}
use Rattle.strong_apa.specs.State.{is_linked, task_count}
use Rattle.job_release.specs.Driving.{JobRowRuns}
use Rattle.job_release.specs.Moves.{place_of}
use Rattle.job_release.specs.declared.row.JobRow.{JobRow}
use Rattle.job_release.proofs.driver.run_rows.Given as goal

abbrev pub invariant-loop-t : goal.invariant-loop-t
invariant-loop-t l = record {
  end : l.t-end ≡ task_count l.links;
  count : length l.rows ≡ length l.fn.rows;
  moved : (k : ℕ) (d : JobRow) → k < l.t → JobRowRuns (is_linked l.links k) (place_of l.links k) l.units (get_or l.fn.rows k d)
      (get_or l.rows k d);
  left : (k : ℕ) (d : JobRow) → l.t ≤ k → get_or l.rows k d ≡ get_or l.fn.rows k d;
}
