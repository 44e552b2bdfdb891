use Rattle.std.proofs.Common.{inl, inr}
use Rattle.trace_reader.proofs.Machine.{input_machine}
use Rattle.trace_reader.proofs.Texts.{same_data, read_is_text, text_is_read, fault_is_refused, refused_is_fault}
use Rattle.trace_reader.proofs.read.read_input.Goals as goal

pub read_lines-requires-clause-lawful : goal.read_lines-requires-clause-lawful
read_lines-requires-clause-lawful c = input_machine

pub returns-in-Ok-clause-input : goal.returns-in-Ok-clause-input
returns-in-Ok-clause-input c = read_is_text c.args.bytes.now c.in-Ok.input c.in-Ok.ensures.read

pub returns-in-Ok-clause-accepts : goal.returns-in-Ok-clause-accepts
returns-in-Ok-clause-accepts c = λ version set events text.
    same_data c.in-Ok.input.version version c.in-Ok.input.set set c.in-Ok.input.events events
    (c.in-Ok.ensures.accepts _ (text_is_read c.args.bytes.now version set events text))

pub returns-in-Ok-clause-refuses : goal.returns-in-Ok-clause-refuses
returns-in-Ok-clause-refuses c = λ line kind refused.
    c.in-Ok.ensures.refuses line kind (refused_is_fault c.args.bytes.now line kind refused)

pub returns-in-Err-clause-refused : goal.returns-in-Err-clause-refused
returns-in-Err-clause-refused c = elim c.in-Err.ensures.refused [
  | inl memory ↦ inl memory
  | inr fault ↦ inr (fault_is_refused c.args.bytes.now c.in-Err.field-0.line c.in-Err.field-0.kind fault)
]

pub returns-in-Err-clause-accepts : goal.returns-in-Err-clause-accepts
returns-in-Err-clause-accepts c = λ version set events text.
    c.in-Err.ensures.accepts _ (text_is_read c.args.bytes.now version set events text)

pub returns-in-Err-clause-refuses : goal.returns-in-Err-clause-refuses
returns-in-Err-clause-refuses c = λ line kind refused.
    c.in-Err.ensures.refuses line kind (refused_is_fault c.args.bytes.now line kind refused)
