use Rattle.std.proofs.Common.{arith}
use Rattle.schedule_text.proofs.EventFields.{two_refused, affinity_refused}
use Rattle.schedule_text.proofs.entry.read_event.Goals as goal

pub returns-in-len2-clause-refused : goal.returns-in-len2-clause-refused
returns-in-len2-clause-refused c =
    two_refused c.args.version c.args.set.now c.args.fields.now _ c.valued_event.result c.in-len2.len_at_least
    c.in-len2.len_below c.valued_event.ensures.refused

pub returns-then-is_word_of-clause-refused : goal.returns-then-is_word_of-clause-refused
returns-then-is_word_of-clause-refused c =
    affinity_refused c.args.version c.args.set.now c.args.fields.now _ c.affinity_of.result c.in-len3.len_at_least
    c.in-len3.len_below (omega arith) (c.is_word_of.ensures.0 c.if-is_word_of.true) c.affinity_of.ensures.refused
