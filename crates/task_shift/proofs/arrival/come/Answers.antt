use Rattle.std.proofs.Common.{sym, ◌∙◌}
use Rattle.std.proofs.lemmas.Bool.{true≢false}
use Rattle.strong_apa.specs.Chain.{IsLeastSuch, EndsOnTask}
use Rattle.strong_apa.proofs.Ends.{least_chain_to_idle, least_chain_to_task}
use Rattle.strong_apa.proofs.Linked.{linked_number, occupied_number, is_linked-from_on}
use Rattle.strong_apa.proofs.Readiness.{absent_not_linked}
use Rattle.task_shift.proofs.Arrivals.{chain_found, chain_to_least_urgent, some_place, occupied_reach, more_urgent_reach, nobody_reached}
use Rattle.task_shift.proofs.arrival.come.Goals as goal
use Rattle.task_shift.proofs.arrival.come.Goals.{After-unwrap-chain}
use Rattle.task_shift.proofs.arrival.come.Goals.{in_default-least_urgent_on-via-in-Some-least_urgent_on+else-is_more_urgent}
use Rattle.task_shift.proofs.arrival.come.Goals.{in_default-least_urgent_on-via-in_default-least_urgent_on}

pub enter-requires-clause-simple : goal.enter-requires-clause-simple
enter-requires-clause-simple c =
    (least_chain_to_idle c.args.links.now c.args.t c.chain_to_idle.ensures.valid).simple c.in-Some.chain c.in-Some.ensures.least

pub enter-requires-clause-not_linked : goal.enter-requires-clause-not_linked
enter-requires-clause-not_linked c =
    absent_not_linked c.args.links.now c.chain_to_idle.ensures.valid c.args.t c.requires.number c.requires.absent

pub enter-requires-in-Some-least_urgent_on-clause-not_linked : goal.enter-requires-in-Some-least_urgent_on-clause-not_linked
enter-requires-in-Some-least_urgent_on-clause-not_linked c =
    absent_not_linked c.args.links.now c.chain_to_idle.ensures.valid c.args.t c.requires.number c.requires.absent

pub is_more_urgent-requires-clause-second : goal.is_more_urgent-requires-clause-second
is_more_urgent-requires-clause-second c = linked_number c.args.links.now _ c.in-Some-least_urgent_on.out c.chain_to_idle.ensures.valid
    c.in-Some-least_urgent_on.ensures.test.there.2

-- the chain found is the least one to the task that is displaced
least : (c : After-unwrap-chain) → IsLeastSuch (EndsOnTask c.args.links.now c.args.t c.in-Some-least_urgent_on.out) c.unwrap-chain.result
least c =
    rw c.unwrap-chain.ensures at (c.chain_to.ensures.occupant c.in-Some-least_urgent_on.out (rw c.unwrap-p.ensures at c.of.ensures.place))

pub enter-requires-in-Some-least_urgent_on-clause-simple : goal.enter-requires-in-Some-least_urgent_on-clause-simple
enter-requires-in-Some-least_urgent_on-clause-simple c =
    (least_chain_to_task c.args.links.now c.args.t c.in-Some-least_urgent_on.out c.chain_to_idle.ensures.valid).simple c.unwrap-chain.result
    (least (goal.at.enter-requires-in-Some-least_urgent_on-clause-simple c).After-unwrap-chain)

pub returns-in-Some-least_urgent_on-clause-comes : goal.returns-in-Some-least_urgent_on-clause-comes
returns-in-Some-least_urgent_on-clause-comes c = record {
  reached = c.reach-reach.ensures;
  occupied = occupied_reach c.args.links.now c.chain_to_idle.ensures.valid c.args.t c.reach-reach.result c.reach-reach.ensures
      c.in_default.ensures.least;
  out_there = c.in-Some-least_urgent_on.ensures.test;
  out_less_urgent = c.is_more_urgent.ensures.0 c.if-is_more_urgent.true;
  least = least (goal.at.returns-in-Some-least_urgent_on-clause-comes c).After-unwrap-chain;
  shifted = c.enter-in-Some-least_urgent_on.ensures.shifted;
}

pub returns-in_default-least_urgent_on-clause-comes : goal.returns-in_default-least_urgent_on-clause-comes
returns-in_default-least_urgent_on-clause-comes c =
    let s = c.args.links.now in
    let ok = c.chain_to_idle.ensures.valid in
    let reach = c.reach-reach.result in
    let occupied = occupied_reach s ok c.args.t reach c.reach-reach.ensures c.in_default.ensures.least in
    record {
      reached = c.reach-reach.ensures;
      more_urgent = elim c.in_default-least_urgent_on.branch [
        | in_default-least_urgent_on-via-in-Some-least_urgent_on+else-is_more_urgent w
            ↦ more_urgent_reach s ok c.args.t reach c.reach-reach.ensures c.requires.number c.requires.absent occupied
            w.in-Some-least_urgent_on.out w.in-Some-least_urgent_on.ensures.test
            (λ less. true≢false (sym (w.is_more_urgent.ensures.1 less) ∙ w.if-is_more_urgent.false))
        | in_default-least_urgent_on-via-in_default-least_urgent_on w
            ↦ nobody_reached s ok c.args.t reach c.reach-reach.ensures occupied w.in_default-least_urgent_on.ensures.test
      ];
      waits = c.make_ready.ensures.ready;
    }

pub of-requires : goal.of-requires
of-requires c = linked_number c.args.links.now _ c.in-Some-least_urgent_on.out c.chain_to_idle.ensures.valid
    c.in-Some-least_urgent_on.ensures.test.there.2

pub unwrap-p-requires : goal.unwrap-p-requires
unwrap-p-requires c =
    let on = is_linked-from_on c.args.links.now _ c.in-Some-least_urgent_on.out c.in-Some-least_urgent_on.ensures.test.there.2 in
    some_place c.of.result (λ none. true≢false (sym on ∙ c.of.ensures.none.0 none))

pub chain_to-requires-clause-processor : goal.chain_to-requires-clause-processor
chain_to-requires-clause-processor c = occupied_number c.args.links.now c.unwrap-p.result c.in-Some-least_urgent_on.out
    c.chain_to_idle.ensures.valid (rw c.unwrap-p.ensures at c.of.ensures.place)

pub unwrap-chain-requires : goal.unwrap-chain-requires
unwrap-chain-requires c =
    let s = c.args.links.now in
    let out = c.in-Some-least_urgent_on.out in
    let path = chain_to_least_urgent s c.chain_to_idle.ensures.valid c.args.t c.reach-reach.result c.reach-reach.ensures out
    c.in-Some-least_urgent_on.ensures.test in
    chain_found (EndsOnTask s c.args.t out) c.chain_to.result path.0 path.1
    (c.chain_to.ensures.occupant out (rw c.unwrap-p.ensures at c.of.ensures.place))

pub enter-requires-clause-chain : goal.enter-requires-clause-chain
enter-requires-clause-chain c = let found = c.in-Some.ensures.least.itself in (found.0, found.1)

pub enter-requires-in-Some-least_urgent_on-clause-chain : goal.enter-requires-in-Some-least_urgent_on-clause-chain
enter-requires-in-Some-least_urgent_on-clause-chain c =
    let found = (least (goal.at.enter-requires-in-Some-least_urgent_on-clause-chain c).After-unwrap-chain).itself in (found.0, found.1)

pub returns-in-Some-clause-comes : goal.returns-in-Some-clause-comes
returns-in-Some-clause-comes c = record { least = c.in-Some.ensures.least; shifted = c.enter.ensures.shifted }
