use Rattle.std.proofs.Common.{rules}
use Rattle.event_history.proofs.Keeps.{records_lem, legal_over}
use Rattle.event_history.proofs.turn.record_entry.Goals as goal

pub store-requires : goal.store-requires
store-requires c = (
  search rules,
  search rules,
  records_lem _ _ _ _ _ c.args.state.now.seat.me _ c.args.held c.requires.turn.0
      c.count-count.ensures.valid c.exchange-none.ensures.3 (search rules),
)

pub returns-clause-legal : goal.returns-clause-legal
returns-clause-legal c = legal_over _ c.args.held.core c.count-count.ensures.valid c.requires.turn.0.start
