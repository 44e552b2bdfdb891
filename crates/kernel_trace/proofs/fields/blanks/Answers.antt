use Rattle.kernel_trace.proofs.Positions.{position_some, position_none}
use Rattle.std.proofs.Common.{arith}
use Rattle.kernel_trace.proofs.fields.blanks.Goals as goal

pub returns-in-Some-clause-value : goal.returns-in-Some-clause-value
returns-in-Some-clause-value c = (position_some _ c.args.bytes.now c.in-Some.place c.in-Some.ensures).0

pub returns-in-Some-clause-bound : goal.returns-in-Some-clause-bound
returns-in-Some-clause-bound c = let lt = (position_some _ c.args.bytes.now c.in-Some.place c.in-Some.ensures).1 in omega arith

pub returns-in-None-clause-value : goal.returns-in-None-clause-value
returns-in-None-clause-value c = position_none _ c.args.bytes.now c.in-None.ensures
