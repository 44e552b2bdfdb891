use Rattle.std.proofs.Common.{refl, inl, inr}
use Rattle.trace_reader.proofs.stage.Stage.after_header.Goals as goal

pub returns-in-Some-clause-read : goal.returns-in-Some-clause-read
returns-in-Some-clause-read c = rw c.go_on.ensures (inl (_, c.in-Some.ensures, refl))

pub returns-in-None-clause-refused : goal.returns-in-None-clause-refused
returns-in-None-clause-refused c = inr (inr (c.in-None.ensures, refl))
