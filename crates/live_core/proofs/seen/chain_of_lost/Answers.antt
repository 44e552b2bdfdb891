use Rattle.live_core.proofs.SeenTables.{lost_number, lost_has_some}
use Rattle.strong_apa.proofs.Ends.{least_chain_to_idle}
use Rattle.live_core.proofs.seen.chain_of_lost.Goals as goal

pub chain_to_idle-requires : goal.chain_to_idle-requires
chain_to_idle-requires c =
    lost_number c.args.links.now c.args.table.now c.args.seen.now c.args.t c.processors-valid.ensures.valid c.requires.table c.requires.lost

pub reach-reach-requires : goal.reach-reach-requires
reach-reach-requires c =
    lost_number c.args.links.now c.args.table.now c.args.seen.now c.args.t c.processors-valid.ensures.valid c.requires.table c.requires.lost

pub unreachable-requires : goal.unreachable-requires
unreachable-requires c = lost_has_some c.args.links.now c.args.table.now c.args.seen.now c.args.t c.processors-valid.ensures.valid
    c.requires.table c.requires.lost c.reach-reach.result c.reach-reach.ensures c.in-None.ensures.least

pub returns-clause-simple : goal.returns-clause-simple
returns-clause-simple c =
    (least_chain_to_idle c.args.table.now c.args.t c.in-Some.ensures.valid).simple c.in-Some.chain c.in-Some.ensures.least
