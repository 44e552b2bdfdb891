use Rattle.std.proofs.Common.{sym, ◌∙◌, arith}
use Rattle.schedule_board.proofs.Links.{shifted_in, shifted_out, found, chain_over}
use Rattle.schedule_board.proofs.occupants.Occupants.after_shift.Goals as goal

pub returns-then-p-self : goal.returns-then-p-self
returns-then-p-self c = λ s shows. sym (shifted_out s c.args.t c.args.chain.now c.args.p (let m = shows.processors in omega arith))

pub returns-then-q-p : goal.returns-then-q-p
returns-then-q-p c = λ s shows.
    let here = found s c.loop-q.guest c.args.chain.now c.loop-q.q-index c.args.p (omega arith) (omega arith) in
    sym here ∙ c.loop-q.invariant s shows ∙ sym (shifted_in s c.args.t c.args.chain.now c.args.p (let m = shows.processors in omega arith))

pub returns : goal.returns
returns c = λ s shows.
    let over = chain_over s c.loop-q.guest c.args.chain.now c.loop-q.q-index c.args.p (omega arith) in
    shows.each c.args.p (omega arith) ∙ sym over ∙ c.loop-q.invariant s shows
    ∙ sym (shifted_in s c.args.t c.args.chain.now c.args.p (let m = shows.processors in omega arith))
