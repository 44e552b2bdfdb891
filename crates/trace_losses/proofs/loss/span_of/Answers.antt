use Rattle.std.proofs.Common.{◌-◌, length, sym, ◌∙◌, arith}
use Rattle.std.proofs.lemmas.Bool.{eqb-false}
use Rattle.trace_losses.proofs.Passed.{moment_there}
use Rattle.trace_losses.proofs.loss.span_of.Goals as goal

pub returns-else-is_empty : goal.returns-else-is_empty
returns-else-is_empty c =
    let passages = c.args.passages.now in
    let some = eqb-false (length passages) 0 (sym c.is_empty.ensures ∙ c.if-is_empty.false) in
    sym (moment_there passages (length passages - 1) (omega (arith, some)))
