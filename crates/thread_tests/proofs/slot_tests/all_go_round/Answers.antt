use Rattle.std.proofs.Common.{rules}
use Rattle.std.specs.Prelude.{All}
use Rattle.thread_tests.proofs.Trials.{IsFreeOf, free_all, all_back}
use Rattle.thread_tests.proofs.slot_tests.all_go_round.Goals as goal

pub each_goes_round-requires-clause-hands : goal.each_goes_round-requires-clause-hands
each_goes_round-requires-clause-hands g c = let h : All (IsFreeOf c.args.slots.now.id) c.args.hands.items = free_all c.args.slots.now.id 0
    c.args.hands.items c.requires.hands.1 in search rules

pub returns : goal.returns
returns g c = all_back c.each_goes_round.result (λ back. back.items) c.args.slots.now c.args.hands.items c.requires.hands
    c.each_goes_round.ensures.length c.each_goes_round.ensures.each
