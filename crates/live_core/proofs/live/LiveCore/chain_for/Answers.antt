use Rattle.live_core.proofs.Finding.{holders_known}
use Rattle.live_core.proofs.live.LiveCore.chain_for.Goals as goal

pub is_lost-requires-clause-known : goal.is_lost-requires-clause-known
is_lost-requires-clause-known c =
    (c.lost-first.ensures.on, holders_known c.args.self.now c.lost-first.new.self c.lost-first.result c.lost-first.ensures)
