use Rattle.std.proofs.lemmas.Result.{err_from_is_err_and}
use Rattle.schedule_text.proofs.Arrivals.{placed_none}
use Rattle.schedule_text.proofs.reply.valued_came.Goals as goal

pub returns-in_err-chain-clause-refused : goal.returns-in_err-chain-clause-refused
returns-in_err-chain-clause-refused c =
    let p = err_from_is_err_and c.from_residual-in_err-chain.result c.from_residual-in_err-chain.ensures.1 in
    rw (p.1, p.2) (
      c.in_err-chain.ensures.refused.0,
      placed_none c.args.word.now c.args.value.now
          (c.is_word-2.ensures.0 c.if-is_word-2.true) c.in_err-chain.ensures.refused.1,
    )
