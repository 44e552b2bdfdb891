use Rattle.thread_tests.proofs.Trials.{all_new}
use Rattle.thread_tests.proofs.slot_tests.new_slots.Goals as goal

pub returns-clause-hands : goal.returns-clause-hands
returns-clause-hands c = all_new c.new.result (λ hands. hands.items) c.new.ensures.hands
