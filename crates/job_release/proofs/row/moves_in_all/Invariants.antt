use Rattle.std.proofs.Common.{◌≡◌, take, sum_by}
use Rattle.job_release.specs.Driving.{moves_in}
use Rattle.job_release.proofs.row.moves_in_all.Given as goal

abbrev pub invariant-loop-row : goal.invariant-loop-row
invariant-loop-row l = l.moves ≡ sum_by moves_in (take l.row-index l.rows)
