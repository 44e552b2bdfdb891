use Rattle.std.proofs.Common.{rules, ◌≡◌, false, [], ◌∷◌, ◌++◌}
use Rattle.task_set.specs.Orders.{MayCome}
use Rattle.thread_tests.proofs.Feeds.{may_follow, fed}
use Rattle.thread_tests.proofs.ends.End.send.Goals as goal

pub send-requires-clause-obeyable : goal.send-requires-clause-obeyable
send-requires-clause-obeyable g c =
    let fits = c.self.invariant in
    let going : c.self.inside.stopped ≡ false = search rules in
    let may : MayCome c.self.inside.held c.args.order = search rules in
    may_follow c.self.inside.sender.sent c.self.inside.held c.args.order fits.2 fits.3 (fits.4 going) may

pub invariant_of-self : goal.invariant_of-self
invariant_of-self g c =
    let fits = c.self.invariant in
    let going : c.self.inside.stopped ≡ false = search rules in
    let may : MayCome c.self.inside.held c.args.order = search rules in
    let eye : c.send.new.eye.received_word ≡ c.send.new.self.queue.received_word = search rules in
    let two : c.send.new.self.queue.tasks ≡ 2 = search rules in
    let grown : c.send.new.self.sent ≡ c.self.inside.sender.sent ++ c.args.order ∷ [] = search rules in
    let after = fed 2 c.send.new.self.queue.tasks c.self.inside.sender.sent c.send.new.self.sent c.args.order c.self.inside.held
    c.holder_after-self-inside.result c.is_stop-self-inside.result two grown
    (may_follow c.self.inside.sender.sent c.self.inside.held c.args.order fits.2 fits.3 (fits.4 going) may) fits.3 (fits.4 going)
    c.holder_after-self-inside.ensures c.is_stop-self-inside.ensures in
    (eye, after.0, after.1, after.2, after.3)
