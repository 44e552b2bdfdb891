use Rattle.std.proofs.Common.{◌≡◌, ℕ, ◌+◌, ◌-◌, ◌<◌, ◌≤◌, length, vec_len, sym, subst, arith}
use Rattle.trace_passages.specs.Passages.{moment_at}
use Rattle.trace_losses.specs.Walk.{IsWalkAt}
use Rattle.trace_losses.proofs.ChainsAt.{cut_there, not_last}
use Rattle.trace_losses.proofs.Passed.{moment_there}
use Rattle.trace_losses.proofs.Walks.{first_within, second_within, turn_within, stopped_within, walk_on}
use Rattle.trace_losses.proofs.chains.walk_to.Goals as goal

pub step-requires-clause-first : goal.step-requires-clause-first
step-requires-clause-first c =
    let before = c.loop-i.invariant in
    let more = not_last c.args.passages.now c.loop-i.i c.args.moment before.some before.below c.loop-i-test.true c.requires.within in
    first_within c.args.set.now c.args.passages.now c.args.threads c.loop-i.i c.loop-i.walk.core c.loop-i.walk.runners.processors.items
    c.args.walk.now.runners.processors.items c.args.formers.now c.requires.passages c.requires.trail before.at before.some more

pub step-requires-clause-second : goal.step-requires-clause-second
step-requires-clause-second c =
    let before = c.loop-i.invariant in
    let more = not_last c.args.passages.now c.loop-i.i c.args.moment before.some before.below c.loop-i-test.true c.requires.within in
    second_within c.args.set.now c.args.passages.now c.args.threads c.loop-i.i c.loop-i.walk.core c.loop-i.walk.runners.processors.items
    c.args.walk.now.runners.processors.items c.args.formers.now c.requires.passages c.requires.trail before.at before.some more

pub step-requires-clause-threads : goal.step-requires-clause-threads
step-requires-clause-threads c =
    let before = c.loop-i.invariant in
    let more = not_last c.args.passages.now c.loop-i.i c.args.moment before.some before.below c.loop-i-test.true c.requires.within in
    let count = before.at.count in
    turn_within c.args.set.now c.args.passages.now c.args.threads c.loop-i.i c.loop-i.walk.core c.loop-i.walk.runners.processors.items
    c.args.walk.now.runners.processors.items c.args.formers.now c.requires.passages c.requires.trail before.at before.some more
    (vec_len c.loop-i.walk.runners.processors) (omega (arith, count))

pub step-requires-clause-within : goal.step-requires-clause-within
step-requires-clause-within c =
    let before = c.loop-i.invariant in
    let more = not_last c.args.passages.now c.loop-i.i c.args.moment before.some before.below c.loop-i-test.true c.requires.within in
    let count = before.at.count in
    stopped_within c.args.set.now c.args.passages.now c.args.threads c.loop-i.i c.loop-i.walk.core c.loop-i.walk.runners.processors.items
    c.args.walk.now.runners.processors.items c.args.formers.now c.requires.passages c.requires.trail before.at before.some more
    (vec_len c.loop-i.walk.runners.processors) (omega (arith, count))

pub loop-i-preserved : goal.loop-i-preserved
loop-i-preserved c =
    let before = c.loop-i.invariant in
    let passages = c.args.passages.now in
    let i = c.loop-i.i in
    let more = not_last passages i c.args.moment before.some before.below c.loop-i-test.true c.requires.within in
    let new = c.step.new.self.runners.processors.items in
    let moved = c.step.ensures.threads in
    let width = c.step.ensures.all in
    let seen = before.seen in
    let there = moment_there passages (i - 1) (omega (arith, more)) in
    let come = c.loop-i-test.true in
    let place : i ≡ i + 1 - 1 = omega arith in
    let last : i - 1 ≡ i + 1 - 2 = omega arith in
    record {
      some = omega arith;
      below = omega (arith, more);
      come = λ some. subst (λ (n : ℕ). moment_at passages n ≤ c.args.moment) last (omega (arith, there, come));
      at = subst (λ (n : ℕ). IsWalkAt c.args.set.now passages c.args.threads n c.step.new.self.core new) place
          (walk_on c.args.set.now passages c.args.threads i c.loop-i.walk.core c.loop-i.walk.runners.processors.items
          c.args.walk.now.runners.processors.items c.args.formers.now c.requires.passages c.requires.trail before.at before.some more
          c.step.new.self.core new c.step.ensures.used (c.step.ensures.placed c.args.set.now) c.step.ensures.restored
          (omega (arith, moved)));
      seen = omega (arith, width, seen);
    }

pub returns : goal.returns
returns c =
    let at = c.loop-i.invariant in (
      c.loop-i.i - 1,
      cut_there (length c.args.set.now.tasks) c.args.threads c.args.passages.now c.requires.passages c.loop-i.i c.args.moment at.some
          at.below at.come c.loop-i-test.false,
      at.at,
    )
