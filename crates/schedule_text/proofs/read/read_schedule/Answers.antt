use Rattle.schedule_text.proofs.Texts.{answers_text, answers_schedule, answers_fault}
use Rattle.schedule_text.proofs.read.read_schedule.Goals as goal

pub returns-clause-schedule : goal.returns-clause-schedule
returns-clause-schedule c = answers_text c.args.bytes.now c.read_lines.result c.read_lines.ensures

pub returns-clause-accepts : goal.returns-clause-accepts
returns-clause-accepts c = answers_schedule c.args.bytes.now c.read_lines.result c.read_lines.ensures

pub returns-clause-refuses : goal.returns-clause-refuses
returns-clause-refuses c = answers_fault c.args.bytes.now c.read_lines.result c.read_lines.ensures
