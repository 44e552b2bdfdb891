use Rattle.std.proofs.Common.{◌≡◌, ◌<◌, false, sym, subst}
use Rattle.strong_apa.specs.State.{State, task_count, is_ready}
use Rattle.link_table.specs.LinksView.{links_view}
use Rattle.link_table.proofs.Awaiting.{AreAwaited-ready}
use Rattle.strong_apa.proofs.Readiness.{IsState-state_with_ready, IsWaiting-state_with_ready}
use Rattle.link_table.proofs.links.Links.make_ready.Goals as goal

pub invariant_of-self : goal.invariant_of-self
invariant_of-self c =
    let a = c.self.inside in
    let number = subst (λ (s : State). c.args.t < task_count s) (sym c.self.view_is) c.requires.number in
    let absent = subst (λ (s : State). is_ready s c.args.t ≡ false) (sym c.self.view_is) c.requires.absent in
    rw (c.write.ensures, c.mask-mask.ensures) record {
      state = IsState-state_with_ready (links_view a) c.self.invariant.state c.args.t number;
      waiting = AreAwaited-ready (links_view a) c.self.invariant.state a.waiting.masks c.self.invariant.waiting c.args.t number
          (IsWaiting-state_with_ready (links_view a) c.self.invariant.state c.args.t number absent);
    }

pub returns-clause-waits : goal.returns-clause-waits
returns-clause-waits c =
    rw c.write.ensures (IsWaiting-state_with_ready (links_view c.self.inside) c.self.invariant.state c.args.t
    (subst (λ (s : State). c.args.t < task_count s) (sym c.self.view_is) c.requires.number)
    (subst (λ (s : State). is_ready s c.args.t ≡ false) (sym c.self.view_is) c.requires.absent))
