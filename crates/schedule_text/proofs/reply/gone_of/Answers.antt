use Rattle.std.proofs.lemmas.Result.{err_from_is_err_and}
use Rattle.schedule_text.specs.Fields.{IsChainField, IsSetField}
use Rattle.schedule_text.proofs.Parts.{part_fault}
use Rattle.schedule_text.proofs.Arrivals.{gone_parts, gone_fault}
use Rattle.schedule_text.proofs.reply.gone_of.Goals as goal

pub returns-in_err-entered-clause-refused : goal.returns-in_err-entered-clause-refused
returns-in_err-entered-clause-refused c =
    let p = err_from_is_err_and c.from_residual-in_err-entered.result c.from_residual-in_err-entered.ensures.1 in
    rw (p.1, p.2) (gone_fault c.args.set.now c.args.chain.now c.args.name.now c.args.processors.now
    c.in_ok-chain.chain c.in_ok-back.back c.in_err-entered.field-0.0 c.in_ok-chain.ensures.read
    c.in_ok-back.ensures.read c.in_err-entered.ensures.refused)

pub returns-in_err-chain-clause-refused : goal.returns-in_err-chain-clause-refused
returns-in_err-chain-clause-refused c =
    let p = err_from_is_err_and c.from_residual.result c.from_residual.ensures.1 in
    rw (p.1, p.2) (part_fault (IsChainField c.args.chain.now) c.in_err-chain.field-0.0
    (λ some. let parts = gone_parts c.args.chain.now c.args.name.now c.args.processors.now some in
    (parts.links, parts.is_chain)) c.in_err-chain.ensures.refused)

pub returns-in_err-back-clause-refused : goal.returns-in_err-back-clause-refused
returns-in_err-back-clause-refused c =
    let p = err_from_is_err_and c.from_residual-in_err-back.result c.from_residual-in_err-back.ensures.1 in
    rw (p.1, p.2) (part_fault (IsSetField c.args.processors.now) c.in_err-back.field-0.0
    (λ some. let parts = gone_parts c.args.chain.now c.args.name.now c.args.processors.now some in
    (parts.X, parts.is_set)) c.in_err-back.ensures.refused)
