use Rattle.std.proofs.Common.{◌≡◌, ◌<◌, Some, true, refl, sym, ap, ◌∙◌, subst}
use Rattle.strong_apa.specs.State.{State, IsState, task_count, task_on, is_linked, state_with_idle, state_with_absent, state_after_leaving}
use Rattle.link_table.specs.LinksView.{AreAwaited, links_view}
use Rattle.link_table.proofs.Awaiting.{AreAwaited-leaving}
use Rattle.strong_apa.proofs.Leaving.{left_state, IsState-state_after_leaving}
use Rattle.strong_apa.proofs.Linked.{occupied_number}
use Rattle.link_table.proofs.links.Links.leave.Goals as goal

pub invariant_of-self : goal.invariant_of-self
invariant_of-self c =
    let a = c.self.inside in
    let s = links_view a in
    let p = c.unwrap-p.result in
    let t = c.args.t in
    let ok = c.self.invariant.state in
    let on : task_on s p ≡ Some t = subst (λ (s : State). task_on s p ≡ Some t) (sym c.self.view_is)
    (rw c.unwrap-p.ensures at c.of.ensures.place) in
    let number = subst (λ (s : State). t < task_count s) (sym c.self.view_is) c.requires.number in
    let linked = subst (λ (s : State). is_linked s t ≡ true) (sym c.self.view_is) c.requires.linked in
    let e = left_state s (state_with_idle s p) (state_with_absent (state_with_idle s p) t) ok t p on refl refl in
    rw c.replace.ensures.replaced record {
      state = subst IsState (sym e) (IsState-state_after_leaving s ok t);
      waiting = subst (λ (s : State). AreAwaited s a.waiting.masks) (sym e)
          (AreAwaited-leaving s ok a.waiting.masks c.self.invariant.waiting t number linked);
    }

pub replace-requires-clause-processor : goal.replace-requires-clause-processor
replace-requires-clause-processor c =
    let s = links_view c.self.inside in
    let p = c.unwrap-p.result in
    let on : task_on s p ≡ Some c.args.t = subst (λ (s : State). task_on s p ≡ Some c.args.t) (sym c.self.view_is)
    (rw c.unwrap-p.ensures at c.of.ensures.place) in
    rw c.self.invariant.state.on_count (occupied_number s p c.args.t c.self.invariant.state on)

pub returns-clause-left : goal.returns-clause-left
returns-clause-left c =
    let s = links_view c.self.inside in
    let p = c.unwrap-p.result in
    let t = c.args.t in
    let on : task_on s p ≡ Some t = subst (λ (s : State). task_on s p ≡ Some t) (sym c.self.view_is)
    (rw c.unwrap-p.ensures at c.of.ensures.place) in
    rw c.replace.ensures.replaced (left_state s (state_with_idle s p) (state_with_absent (state_with_idle s p) t)
    c.self.invariant.state t p on refl refl ∙ ap (λ (s : State). state_after_leaving s t) c.self.view_is)

pub returns-clause-valid : goal.returns-clause-valid
returns-clause-valid c = (invariant_of-self c).state
