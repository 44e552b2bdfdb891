use Rattle.std.proofs.Common.{refl}
use Rattle.std.proofs.lemmas.Result.{err_from_is_err_and}
use Rattle.nested_masks.proofs.Started.{refuses_crossing, accepts_laminar, laminar_crosses_none}
use Rattle.nested_masks.proofs.nested.Nested.new.Goals as goal

pub returns-in_err-counts-clause-refuses : goal.returns-in_err-counts-clause-refuses
returns-in_err-counts-clause-refuses c = λ one other found.
    let p = err_from_is_err_and c.from_residual.result c.from_residual.ensures.1 in
    refuses_crossing c.args.set.now one other c.in_err-counts.field-0.0 c.from_residual.result (rw (p.1, p.2) refl)
    found c.in_err-counts.ensures.refused

pub returns-in_err-counts-clause-accepts : goal.returns-in_err-counts-clause-accepts
returns-in_err-counts-clause-accepts c = λ laminar.
    let p = err_from_is_err_and c.from_residual.result c.from_residual.ensures.1 in
    rw (p.1, p.2) (accepts_laminar c.args.set.now c.in_err-counts.field-0.0 laminar c.in_err-counts.ensures.refused)

pub returns-clause-refuses : goal.returns-clause-refuses
returns-clause-refuses c = λ one other found. absurd (laminar_crosses_none _ one other c.in_ok-counts.ensures.laminar found)
