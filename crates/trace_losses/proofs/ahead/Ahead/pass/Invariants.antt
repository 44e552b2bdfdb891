use Rattle.std.proofs.Common.{◌≡◌}
use Rattle.trace_losses.specs.Ahead.{AreLonger}
use Rattle.trace_losses.proofs.ahead.Ahead.pass.Given as goal

abbrev pub invariant-loop-t : goal.invariant-loop-t
invariant-loop-t l = record {
  units : AreLonger l.initial.self.units.items l.self.units.items l.processors l.units l.t;
  jobs : l.self.jobs ≡ l.initial.self.jobs;
}
