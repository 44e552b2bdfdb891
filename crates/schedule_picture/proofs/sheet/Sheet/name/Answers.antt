use Rattle.schedule_picture.proofs.Shown.{named_plain}
use Rattle.schedule_picture.proofs.sheet.Sheet.name.Goals as goal

pub returns-then-t-len-clause-plain : goal.returns-then-t-len-clause-plain
returns-then-t-len-clause-plain c = named_plain c.args.self.now.set.now c.args.t c.name.result.now c.len.ensures.valid c.name.ensures
