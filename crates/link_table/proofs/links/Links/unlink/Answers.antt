use Rattle.std.proofs.Common.{◌≡◌, Some, sym, ◌∙◌, arith}
use Rattle.strong_apa.specs.State.{task_on}
use Rattle.link_table.specs.LinksView.{links_view}
use Rattle.link_table.proofs.Awaiting.{AreAwaited-idle}
use Rattle.strong_apa.proofs.Idling.{IsState-state_with_idle, IsWaiting-state_with_idle}
use Rattle.strong_apa.proofs.Linked.{linked_number}
use Rattle.link_table.proofs.links.Links.unlink.Goals as goal

pub invariant_of-self : goal.invariant_of-self
invariant_of-self c =
    let a = c.self.inside in
    let t = c.in-Some.t in
    let on : task_on (links_view a) c.args.p ≡ Some t = sym c.replace.ensures.out ∙ c.in-Some.is in
    let number = linked_number (links_view a) c.args.p t c.self.invariant.state on in
    rw (c.write.ensures, c.mask.ensures, c.replace.ensures.replaced) record {
      state = IsState-state_with_idle (links_view a) c.self.invariant.state c.args.p;
      waiting = AreAwaited-idle (links_view a) c.self.invariant.state a.waiting.masks c.self.invariant.waiting t number c.args.p on;
    }

pub returns-clause-waits : goal.returns-clause-waits
returns-clause-waits c =
    rw (c.write.ensures, c.replace.ensures.replaced)
    (IsWaiting-state_with_idle (links_view c.self.inside) c.self.invariant.state c.args.p c.in-Some.t
    (sym c.replace.ensures.out ∙ c.in-Some.is))

pub mask-requires : goal.mask-requires
mask-requires c =
    let a = c.self.inside in
    let number = linked_number (links_view a) c.args.p c.in-Some.t c.self.invariant.state (sym c.replace.ensures.out ∙ c.in-Some.is) in
    rw c.replace.ensures.replaced (omega (arith, number, c.self.invariant.state.masks_count))

pub write-requires : goal.write-requires
write-requires c =
    linked_number (links_view c.self.inside) c.args.p c.in-Some.t c.self.invariant.state (sym c.replace.ensures.out ∙ c.in-Some.is)
