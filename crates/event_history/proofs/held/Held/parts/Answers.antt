use Rattle.std.proofs.Common.{subst}
use Rattle.event_history.specs.Holdings.{HeldData, SentBegins}
use Rattle.event_history.proofs.held.Held.parts.Goals as goal

pub returns-clause-begins : goal.returns-clause-begins
returns-clause-begins c = subst (λ (h : HeldData). SentBegins h.core h.senders) c.self.view_is c.self.invariant.begins
