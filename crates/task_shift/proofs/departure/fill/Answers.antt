use Rattle.std.proofs.Common.{refl}
use Rattle.strong_apa.specs.Chain.{IsLeastSuch, EntersBy}
use Rattle.strong_apa.proofs.Ends.{least_back_chain}
use Rattle.strong_apa.proofs.Paths.{IsChainOf-reverse}
use Rattle.strong_apa.proofs.Simple.{IsSimple-reverse}
use Rattle.strong_apa.proofs.Unique.{ready_number}
use Rattle.task_shift.proofs.Departures.{back_chain_found}
use Rattle.task_shift.proofs.departure.fill.Goals as goal
use Rattle.task_shift.proofs.departure.fill.Goals.{After-unwrap-chain}

pub unwrap-chain-requires : goal.unwrap-chain-requires
unwrap-chain-requires c =
    back_chain_found c.args.links.now c.args.p c.back_set-back.result c.in-Some.w c.back_set-back.ensures c.in-Some.ensures.test
    c.back_chain.result c.back_chain.ensures

-- the chain found is the least one by which the task comes in
least : (c : After-unwrap-chain) → IsLeastSuch (EntersBy c.args.links.now c.args.p c.in-Some.w) c.unwrap-chain.result
least c = rw c.unwrap-chain.ensures at c.back_chain.ensures

pub shift-requires-clause-chain : goal.shift-requires-clause-chain
shift-requires-clause-chain c =
    let found = (least (goal.at.shift-requires-clause-chain c).After-unwrap-chain).itself in (
      c.args.p,
      rw c.reversed.ensures (IsChainOf-reverse c.args.links.now c.args.p c.in-Some.w c.unwrap-chain.result found.0 found.1
          found.2),
    )

pub shift-requires-clause-simple : goal.shift-requires-clause-simple
shift-requires-clause-simple c =
    let at = goal.at.shift-requires-clause-simple c in
    let short = least_back_chain c.args.links.now c.args.p c.in-Some.w c.in-Some.ensures.valid c.requires in
    rw c.reversed.ensures (IsSimple-reverse c.unwrap-chain.result (short.simple c.unwrap-chain.result (least at.After-unwrap-chain)))

pub returns-in_default-clause-fills : goal.returns-in_default-clause-fills
returns-in_default-clause-fills c = record {
  reached = c.back_set-back.ensures;
  enters = (c.in_default.ensures.test, c.one_processor.ensures, refl);
}

pub returns-clause-fills : goal.returns-clause-fills
returns-clause-fills c = record {
  reached = c.back_set-back.ensures;
  enters =
      (c.in-Some.ensures.test, least (goal.at.returns-clause-fills c).After-unwrap-chain, rw c.reversed.ensures at c.shift.ensures.links);
}

pub back_chain-requires-clause-task : goal.back_chain-requires-clause-task
back_chain-requires-clause-task c = ready_number c.args.links.now c.in-Some.ensures.valid c.in-Some.w c.in-Some.ensures.test.waits.ready

pub shift-requires-clause-number : goal.shift-requires-clause-number
shift-requires-clause-number c = ready_number c.args.links.now c.in-Some.ensures.valid c.in-Some.w c.in-Some.ensures.test.waits.ready

pub shift-requires-clause-waits : goal.shift-requires-clause-waits
shift-requires-clause-waits c = c.in-Some.ensures.test.waits

pub returns-clause-valid : goal.returns-clause-valid
returns-clause-valid c = c.shift.ensures.valid
