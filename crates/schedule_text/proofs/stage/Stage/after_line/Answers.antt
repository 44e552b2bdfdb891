use Rattle.schedule_text.proofs.stage.Stage.after_line.Goals as goal

pub returns-in-Listed-clause-refused : goal.returns-in-Listed-clause-refused
returns-in-Listed-clause-refused c = rw c.in-Listed.is c.after_line.ensures.refused
