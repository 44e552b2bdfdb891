use Rattle.std.proofs.lemmas.Result.{err_from_is_err_and}
use Rattle.schedule_text.specs.Fields.{IsChainField}
use Rattle.schedule_text.proofs.Parts.{part_fault}
use Rattle.schedule_text.proofs.Arrivals.{displaced_parts, displaced_read, displaced_fault}
use Rattle.schedule_text.proofs.reply.displaced.Goals as goal

pub returns-clause-read : goal.returns-clause-read
returns-clause-read c =
    displaced_read c.args.set.now c.args.chain.now c.args.name.now c.args.processors.now c.in_ok-chain.chain
    c.in_ok-out.out c.in_ok-reach.reach c.in_ok-chain.ensures.read c.in_ok-out.ensures.read
    c.in_ok-reach.ensures.read

pub returns-in_err-out-clause-refused : goal.returns-in_err-out-clause-refused
returns-in_err-out-clause-refused c =
    let p = err_from_is_err_and c.from_residual-in_err-out.result c.from_residual-in_err-out.ensures.1 in
    rw (p.1, p.2) (displaced_fault c.args.set.now c.args.chain.now c.args.name.now c.args.processors.now
    c.in_ok-chain.chain c.in_ok-reach.reach c.in_err-out.field-0.0 c.in_ok-chain.ensures.read
    c.in_ok-reach.ensures.read c.in_err-out.ensures.refused)

pub returns-in_err-chain-clause-refused : goal.returns-in_err-chain-clause-refused
returns-in_err-chain-clause-refused c =
    let p = err_from_is_err_and c.from_residual.result c.from_residual.ensures.1 in
    rw (p.1, p.2) (part_fault (IsChainField c.args.chain.now) c.in_err-chain.field-0.0
    (λ some. let parts = displaced_parts c.args.chain.now c.args.name.now c.args.processors.now some in
    (parts.links, parts.is_chain)) c.in_err-chain.ensures.refused)
