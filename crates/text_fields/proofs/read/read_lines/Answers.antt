use Rattle.std.proofs.Common.{◌≡◌}
use Rattle.text_fields.specs.Lines.{lines_of}
use Rattle.text_fields.specs.declared.kind.LineKind.TheVariants.{OutOfMemory}
use Rattle.text_fields.proofs.TextLaws.{answers_value, answers_fault}
use Rattle.text_fields.proofs.LineRule.{lines_machine}
use Rattle.text_fields.proofs.read.read_lines.Goals as goal

pub returns-clause-accepts : goal.returns-clause-accepts
returns-clause-accepts g c =
    answers_value (lines_machine g.M.LineMachine.LONGEST_LINE g.M.LineMachine.HAS_COMMENTS g.M.LineMachine.kind_of c.requires.lawful)
    lines_of
    (λ kind. kind ≡ g.M.LineMachine.kind_of OutOfMemory) (λ fault. fault.line) (λ fault. fault.kind)
    c.args.bytes.now c.run.result c.run.ensures.read c.run.ensures.refused

pub returns-clause-refuses : goal.returns-clause-refuses
returns-clause-refuses g c =
    answers_fault (lines_machine g.M.LineMachine.LONGEST_LINE g.M.LineMachine.HAS_COMMENTS g.M.LineMachine.kind_of c.requires.lawful)
    lines_of
    (λ kind. kind ≡ g.M.LineMachine.kind_of OutOfMemory) (λ fault. fault.line) (λ fault. fault.kind)
    c.args.bytes.now c.run.result c.run.ensures.read c.run.ensures.refused
