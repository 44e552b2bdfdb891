use Rattle.text_fields.specs.Lines.{lines_of}
use Rattle.text_fields.proofs.TextLaws as lawful
use Rattle.text_fields.proofs.LineRule.{lines_machine}
use Rattle.text_fields.proofs.laws.before_is_fine.Goals as goal

pub returns : goal.returns
returns g c =
    lawful.before_is_fine (lines_machine g.M.LineMachine.LONGEST_LINE g.M.LineMachine.HAS_COMMENTS g.M.LineMachine.kind_of c.requires)
    lines_of
