use Rattle.std.proofs.Common.{◌<◌, sym, subst}
use Rattle.strong_apa.specs.State.{State, IsWaiting, task_count}
use Rattle.link_table.specs.LinksView.{links_view}
use Rattle.link_table.proofs.Awaiting.{AreAwaited-absent}
use Rattle.strong_apa.proofs.Leaving.{IsState-state_with_absent}
use Rattle.link_table.proofs.links.Links.make_absent.Goals as goal

pub invariant_of-self : goal.invariant_of-self
invariant_of-self c =
    let a = c.self.inside in
    let number = subst (λ (s : State). c.args.t < task_count s) (sym c.self.view_is) c.requires.number in
    let waits = subst (λ (s : State). IsWaiting s c.args.t) (sym c.self.view_is) c.requires.waits in
    rw (c.write.ensures, c.empty.ensures) record {
      state = IsState-state_with_absent (links_view a) c.self.invariant.state c.args.t waits;
      waiting = AreAwaited-absent (links_view a) c.self.invariant.state a.waiting.masks c.self.invariant.waiting c.args.t number;
    }
