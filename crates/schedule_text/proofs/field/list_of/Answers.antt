use Rattle.std.proofs.Common.{refl}
use Rattle.schedule_text.proofs.Fields.{list_canonical, list_otherwise}
use Rattle.schedule_text.proofs.field.list_of.Goals as goal

pub returns-in-Some-clause-read : goal.returns-in-Some-clause-read
returns-in-Some-clause-read c = list_canonical c.args.field.now c.in-Some.set c.in-Some.ensures

pub returns-in-None-clause-refused : goal.returns-in-None-clause-refused
returns-in-None-clause-refused c = (refl, list_otherwise c.args.field.now c.in-None.ensures)
