use Rattle.std.proofs.Common.{◌<◌, sym, subst, length-set}
use Rattle.strong_apa.specs.State.{State, task_count}
use Rattle.link_table.specs.LinksView.{links_view}
use Rattle.link_table.specs.Priorities.{IsFreeFor}
use Rattle.link_table.proofs.Priorities.{IsState-state_with_priority, AreAwaited-priorities}
use Rattle.link_table.proofs.links.Links.set_priority.Goals as goal

pub invariant_of-self : goal.invariant_of-self
invariant_of-self c =
    let s = links_view c.self.inside in
    let t = c.args.t in
    let priority = c.args.priority in
    let number = subst (λ (s : State). t < task_count s) (sym c.self.view_is) c.requires.number in
    let free = subst (λ (s : State). IsFreeFor s t priority) (sym c.self.view_is) c.requires.free in
    rw c.set_priority.ensures record {
      state = IsState-state_with_priority s t number priority free c.self.invariant.state;
      waiting = AreAwaited-priorities s _ (length-set s.priorities t priority) c.self.inside.waiting.masks c.self.invariant.waiting;
    }
