use Rattle.trace_reader.proofs.stage.Stage.after_processors.Goals as goal

pub returns-in-Ok-clause-read : goal.returns-in-Ok-clause-read
returns-in-Ok-clause-read c = rw c.go_on.ensures c.in-Ok.ensures.read
