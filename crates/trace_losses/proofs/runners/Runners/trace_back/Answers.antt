use Rattle.std.proofs.Common.{◌≡◌, ℕ, length, vec_len, List, Option, sym, ap, ◌∙◌, subst, arith}
use Rattle.trace_losses.specs.Runs.{restored_by, restored}
use Rattle.trace_passages.specs.Turns.{AreThreads}
use Rattle.trace_passages.specs.declared.turn.Turn.{Turn}
use Rattle.trace_losses.proofs.Restored.{restored_back}
use Rattle.trace_losses.proofs.runners.Runners.trace_back.Goals as goal

pub returns-in-Some-clause-restored : goal.returns-in-Some-clause-restored
returns-in-Some-clause-restored c = λ apart.
    (let old = c.args.self.now.processors.items in
    let new = c.before-in-Some.new.self.processors.items in
    let count : vec_len c.args.self.now.processors ≡ length old = omega arith in
    let threads : AreThreads (length old) c.in-Some.turn =
    subst (λ (n : ℕ). AreThreads n c.in-Some.turn) count (c.requires.threads c.in-Some.turn c.in-Some.is) in
    ap (λ (turn : Option Turn). restored_by turn c.former-former.result new) c.in-Some.is
    ∙ restored_back c.in-Some.turn old new c.former-former.result c.before-in-Some.ensures.back c.former-former.ensures.former apart
    threads)
