use Rattle.std.proofs.Common.{sym, ◌∙◌}
use Rattle.std.proofs.lemmas.Result.{err_from_is_err_and}
use Rattle.commands.proofs.NestedAnswers.{answers_read, answers_version, answers_text, answers_nested_fault}
use Rattle.commands.proofs.nested.nested_text.Goals as goal

pub returns-in_err-input : goal.returns-in_err-input
returns-in_err-input c =
    let p = err_from_is_err_and c.from_residual.result c.from_residual.ensures.1 in
    rw (p.1, p.2) (answers_read c.args.bytes.now c.in_err-input.field-0.0 c.in_err-input.ensures.accepts c.in_err-input.ensures.refused
    c.in_err-input.ensures.refuses)

pub returns-then-version-ne-FIRST_VERSION : goal.returns-then-version-ne-FIRST_VERSION
returns-then-version-ne-FIRST_VERSION c =
    answers_version c.args.bytes.now c.in_ok-input.input.version c.in_ok-input.input.set c.in_ok-input.input.events
    c.version.ensures.valid.version c.in_ok-input.ensures.input c.in_ok-input.ensures.accepts c.in_ok-input.ensures.refuses
    (λ first. c.if-version-ne-FIRST_VERSION.true (c.version.ensures.value ∙ first))

pub returns-in-Ok : goal.returns-in-Ok
returns-in-Ok c =
    answers_text c.args.bytes.now c.in_ok-input.input.version c.in_ok-input.input.set c.in_ok-input.input.events
    c.version.ensures.valid.version c.in_ok-input.ensures.input c.in_ok-input.ensures.accepts c.in_ok-input.ensures.refuses
    (sym c.version.ensures.value ∙ c.if-version-ne-FIRST_VERSION.false) c.in-Ok.text c.in-Ok.ensures.laminar c.in-Ok.ensures.text

pub returns : goal.returns
returns c =
    rw c.status_of.ensures
    (answers_nested_fault c.args.bytes.now c.in_ok-input.input.version c.in_ok-input.input.set c.in_ok-input.input.events
    c.version.ensures.valid.version c.in_ok-input.ensures.input c.in_ok-input.ensures.accepts c.in_ok-input.ensures.refuses
    (sym c.version.ensures.value ∙ c.if-version-ne-FIRST_VERSION.false) c.in-Err.fault c.in-Err.ensures.refused)
