use Rattle.std.proofs.Common.{◌∙◌, ◌++◌, List, length, drop, ap, arith}
use Rattle.strong_apa.specs.declared.reply.Entry.{Entry}
use Rattle.event_history.proofs.Prefixes.{prefix_length}
use Rattle.event_history.proofs.Waiting.{grown_more, saw_more, turn_more}
use Rattle.event_history.proofs.board.Board.history_from.Goals as goal

pub try_history_from-requires-clause-from : goal.try_history_from-requires-clause-from
try_history_from-requires-clause-from g c =
    let longer = prefix_length c.args.pass.now.seen c.loop.pass.seen c.loop.invariant.0.seen in
    omega (arith, longer, c.requires.from)

pub loop-preserved : goal.loop-preserved
loop-preserved g c =
    let copied = rw c.if-branch.false at c.in_ok-try_history_from.ensures.copied in (
      grown_more _ _ _ c.loop.invariant.0 c.try_history_from.ensures.grown,
      c.try_history_from.ensures.mine ∙ c.loop.invariant.1,
      c.try_history_from.ensures.eyes ∙ c.loop.invariant.2,
      copied ∙ c.loop.invariant.3,
    )

pub returns-in_err-try_history_from-clause-grown : goal.returns-in_err-try_history_from-clause-grown
returns-in_err-try_history_from-clause-grown g c = grown_more _ _ _ c.loop.invariant.0 c.try_history_from.ensures.grown

pub returns-in_err-try_history_from-clause-seen : goal.returns-in_err-try_history_from-clause-seen
returns-in_err-try_history_from-clause-seen g c = saw_more _ _ _ _ c.loop.invariant.1 c.in_err-try_history_from.ensures.copied.0.saw

pub returns-in_err-try_history_from-clause-few : goal.returns-in_err-try_history_from-clause-few
returns-in_err-try_history_from-clause-few g c = c.in_err-try_history_from.ensures.copied.0.few

pub returns-in_err-try_history_from-clause-turn : goal.returns-in_err-try_history_from-clause-turn
returns-in_err-try_history_from-clause-turn g c = turn_more c.args.pass.now c.loop.pass c.try_history_from.new.pass
    (length c.try_history_from.new.pass.seen) c.loop.invariant.0 c.in_err-try_history_from.ensures.copied.0.looks

pub returns-in_err-try_history_from-clause-eyes : goal.returns-in_err-try_history_from-clause-eyes
returns-in_err-try_history_from-clause-eyes g c = c.try_history_from.ensures.eyes ∙ c.loop.invariant.2

pub returns-then-branch-clause-grown : goal.returns-then-branch-clause-grown
returns-then-branch-clause-grown g c = grown_more _ _ _ c.loop.invariant.0 c.try_history_from.ensures.grown

pub returns-then-branch-clause-seen : goal.returns-then-branch-clause-seen
returns-then-branch-clause-seen g c =
    let copied = rw c.if-branch.true at c.in_ok-try_history_from.ensures.copied in
    saw_more _ _ _ _ c.loop.invariant.1 copied.0.saw

pub returns-then-branch-clause-few : goal.returns-then-branch-clause-few
returns-then-branch-clause-few g c =
    let copied = rw c.if-branch.true at c.in_ok-try_history_from.ensures.copied in
    copied.0.few

pub returns-then-branch-clause-turn : goal.returns-then-branch-clause-turn
returns-then-branch-clause-turn g c =
    let copied = rw c.if-branch.true at c.in_ok-try_history_from.ensures.copied in
    turn_more c.args.pass.now c.loop.pass c.try_history_from.new.pass (length c.try_history_from.new.pass.seen)
    c.loop.invariant.0 copied.0.looks

pub returns-then-branch-clause-eyes : goal.returns-then-branch-clause-eyes
returns-then-branch-clause-eyes g c = c.try_history_from.ensures.eyes ∙ c.loop.invariant.2

pub returns-then-branch-clause-copied : goal.returns-then-branch-clause-copied
returns-then-branch-clause-copied g c =
    let copied = rw c.if-branch.true at c.in_ok-try_history_from.ensures.copied in
    copied.1 ∙ ap (λ (l : List Entry). l ++ drop c.args.from c.try_history_from.new.pass.seen) c.loop.invariant.3
