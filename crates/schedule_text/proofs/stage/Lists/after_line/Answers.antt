use Rattle.schedule_text.proofs.stage.Lists.after_line.Goals as goal

pub returns-in-Tasks-clause-read : goal.returns-in-Tasks-clause-read
returns-in-Tasks-clause-read c = rw c.in-Tasks.is c.task_line.ensures.read

pub returns-in-Tasks-clause-refused : goal.returns-in-Tasks-clause-refused
returns-in-Tasks-clause-refused c = rw c.in-Tasks.is c.task_line.ensures.refused

pub returns-in-Entries-clause-read : goal.returns-in-Entries-clause-read
returns-in-Entries-clause-read c = rw c.in-Entries.is c.entry_line.ensures.read

pub returns-in-Entries-clause-refused : goal.returns-in-Entries-clause-refused
returns-in-Entries-clause-refused c = rw c.in-Entries.is c.entry_line.ensures.refused

pub returns-in-Contexts-clause-read : goal.returns-in-Contexts-clause-read
returns-in-Contexts-clause-read c = rw c.in-Contexts.is c.context_line.ensures.read

pub returns-in-Contexts-clause-refused : goal.returns-in-Contexts-clause-refused
returns-in-Contexts-clause-refused c = rw c.in-Contexts.is c.context_line.ensures.refused
