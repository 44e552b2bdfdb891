use Rattle.std.proofs.Common.{arith, ◌≡◌, ℕ, ◌+◌, [], ◌∷◌, length, length-append, ap, ◌∙◌, subst}
use Rattle.replay.specs.Seats.{HasStoppedAt}
use Rattle.replay.proofs.Crews.{crew_ends_with_thread, crew_ends_with_left, crew_not_alone}
use Rattle.replay.proofs.workers.end_last.Goals as goal

pub join-requires-clause-thread : goal.join-requires-clause-thread
join-requires-clause-thread g c =
    let last = crew_ends_with_thread _ _ 0 c.args.workers.now.items c.pop.new.self.items c.in-Some.worker c.in-Some-worker.thread
    c.args.left.now.items c.in-Some.ensures.items c.in-Some-worker.is c.requires.crew in
    (last.1.0, last.1.1)

pub unreachable-requires : goal.unreachable-requires
unreachable-requires g c =
    crew_not_alone _ _ 0 c.args.workers.now.items c.pop.new.self.items c.in-Some.worker c.args.left.now.items c.in-Some.ensures.items
    c.in-None.is (omega (arith, c.args.left.now.ok.0, c.in-None-pop.ensures.cases)) c.requires.crew

pub returns-in-Some-worker-clause-crew : goal.returns-in-Some-worker-clause-crew
returns-in-Some-worker-clause-crew g c =
    (crew_ends_with_thread _ _ 0 c.args.workers.now.items c.pop.new.self.items c.in-Some.worker c.in-Some-worker.thread
    c.args.left.now.items c.in-Some.ensures.items c.in-Some-worker.is c.requires.crew).0

pub returns-in-Some-worker-clause-last : goal.returns-in-Some-worker-clause-last
returns-in-Some-worker-clause-last g c =
    let rest = c.pop.new.self.items in
    let last = crew_ends_with_thread _ _ 0 c.args.workers.now.items rest c.in-Some.worker c.in-Some-worker.thread c.args.left.now.items
    c.in-Some.ensures.items c.in-Some-worker.is c.requires.crew in
    let place : 0 + length rest ≡ length rest = omega arith in (
      omega (arith, ap length c.in-Some.ensures.items, length-append rest (c.in-Some.worker ∷ [])),
      subst (λ (n : ℕ). HasStoppedAt c.args.shared.now.queues.now c.args.shared.now.slots.now n c.join.result) (last.1.2 ∙ place)
          c.join.ensures,
    )

pub returns-in-Some-pop-clause-crew : goal.returns-in-Some-pop-clause-crew
returns-in-Some-pop-clause-crew g c =
    (crew_ends_with_left _ _ 0 c.args.workers.now.items c.pop.new.self.items c.in-Some.worker c.args.left.now.items
    c.pop-in-None.new.self.items c.in-Some-pop.processor c.in-Some.ensures.items c.in-None.is c.in-Some-pop.ensures.items
    c.requires.crew).0

pub returns-in-Some-pop-clause-last : goal.returns-in-Some-pop-clause-last
returns-in-Some-pop-clause-last g c =
    let rest = c.pop.new.self.items in
    let last = crew_ends_with_left _ _ 0 c.args.workers.now.items rest c.in-Some.worker c.args.left.now.items c.pop-in-None.new.self.items
    c.in-Some-pop.processor c.in-Some.ensures.items c.in-None.is c.in-Some-pop.ensures.items c.requires.crew in
    let place : 0 + length rest ≡ length rest = omega arith in (
      omega (arith, ap length c.in-Some.ensures.items, length-append rest (c.in-Some.worker ∷ [])),
      subst (λ (n : ℕ). HasStoppedAt c.args.shared.now.queues.now c.args.shared.now.slots.now n c.in-Some-pop.processor) place last.1,
    )
