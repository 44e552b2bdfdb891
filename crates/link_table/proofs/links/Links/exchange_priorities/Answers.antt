use Rattle.std.proofs.Common.{◌<◌, sym, subst}
use Rattle.strong_apa.specs.State.{State, task_count}
use Rattle.link_table.specs.LinksView.{links_view}
use Rattle.link_table.proofs.Priorities.{after, after_count, IsState-state_with_exchange, AreAwaited-priorities}
use Rattle.link_table.proofs.links.Links.exchange_priorities.Goals as goal

pub invariant_of-self : goal.invariant_of-self
invariant_of-self c =
    let s = links_view c.self.inside in
    let t = c.args.t in
    let u = c.args.u in
    let number = subst (λ (s : State). t < task_count s) (sym c.self.view_is) c.requires.number in
    let other = subst (λ (s : State). u < task_count s) (sym c.self.view_is) c.requires.other in
    rw (c.set_priority-2.ensures, c.set_priority.ensures, c.priority-priority.ensures, c.priority-other.ensures) record {
      state = IsState-state_with_exchange s t number u other c.self.invariant.state;
      waiting = AreAwaited-priorities s (after s t number u other) (after_count s t number u other)
          c.self.inside.waiting.masks c.self.invariant.waiting;
    }
