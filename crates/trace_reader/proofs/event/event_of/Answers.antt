use Rattle.std.proofs.Common.{refl, inl}
use Rattle.trace_reader.proofs.Refused.{no_word_no_pair}
use Rattle.trace_reader.proofs.event.event_of.Goals as goal

pub returns-in-None-clause-refused : goal.returns-in-None-clause-refused
returns-in-None-clause-refused c =
    inl (refl, no_word_no_pair c.args.version c.args.set.now.processors c.args.word.now c.args.value.now c.in-None.ensures)
