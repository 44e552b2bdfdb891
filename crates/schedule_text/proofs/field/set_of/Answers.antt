use Rattle.schedule_text.proofs.Fields.{set_empty}
use Rattle.schedule_text.proofs.field.set_of.Goals as goal

pub returns-then-is_word-clause-read : goal.returns-then-is_word-clause-read
returns-then-is_word-clause-read c =
    set_empty c.args.field.now c.empty.result c.empty.ensures (c.is_word.ensures.0 c.if-is_word.true)
