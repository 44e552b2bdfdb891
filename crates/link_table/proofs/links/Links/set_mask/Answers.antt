use Rattle.std.proofs.Common.{◌≡◌, ◌<◌, false, refl, sym, ◌∙◌, subst}
use Rattle.std.proofs.lemmas.Bool.{lt-ltb}
use Rattle.affinity_mask.proofs.Sets.{has-all_below}
use Rattle.task_set.specs.TaskSet.{IsMask}
use Rattle.strong_apa.specs.State.{State, task_count, is_ready}
use Rattle.strong_apa.proofs.Changes.{occupant_is_other, IsState-state_with_mask}
use Rattle.link_table.specs.LinksView.{links_view}
use Rattle.link_table.proofs.Awaiting.{AreAwaited-masked}
use Rattle.link_table.proofs.links.Links.set_mask.Goals as goal

pub set_mask-requires-clause-nowhere : goal.set_mask-requires-clause-nowhere
set_mask-requires-clause-nowhere c =
    let s = links_view c.self.inside in
    let absent = subst (λ (s : State). is_ready s c.args.t ≡ false) (sym c.self.view_is) c.requires.absent in
    λ p on. occupant_is_other s c.args.t c.args.mask c.self.invariant.state absent p c.args.t on refl

pub set_mask-requires-clause-mask : goal.set_mask-requires-clause-mask
set_mask-requires-clause-mask c =
    let s = links_view c.self.inside in
    let lawful = subst (λ (s : State). IsMask s.processors c.args.mask) (sym c.self.view_is) c.requires.mask in
    rw c.self.invariant.state.on_count (λ p h. has-all_below s.processors p ∙ lt-ltb p s.processors (lawful.below p h))

pub invariant_of-self : goal.invariant_of-self
invariant_of-self c =
    let s = links_view c.self.inside in
    let t = c.args.t in
    let ok = c.self.invariant.state in
    let number = subst (λ (s : State). t < task_count s) (sym c.self.view_is) c.requires.number in
    let absent = subst (λ (s : State). is_ready s t ≡ false) (sym c.self.view_is) c.requires.absent in
    let lawful = subst (λ (s : State). IsMask s.processors c.args.mask) (sym c.self.view_is) c.requires.mask in
    rw c.set_mask.ensures record {
      state = IsState-state_with_mask s t c.args.mask ok number lawful absent;
      waiting = AreAwaited-masked s ok c.self.inside.waiting.masks c.self.invariant.waiting t number absent c.args.mask;
    }
