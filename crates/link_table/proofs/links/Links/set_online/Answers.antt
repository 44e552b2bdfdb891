use Rattle.std.proofs.Common.{◌≡◌, ℕ, ◌<◌, Bool, true, false, None, sym, subst, if◌then◌else◌}
use Rattle.affinity_mask.specs.ProcSet.{with_member, without_member}
use Rattle.strong_apa.specs.State.{State, IsState, task_on}
use Rattle.strong_apa.proofs.Changes.{IsState-state_with_online, IsState-state_with_offline}
use Rattle.link_table.specs.LinksView.{links_view}
use Rattle.link_table.proofs.Awaiting.{AreAwaited-online}
use Rattle.link_table.proofs.links.Links.set_online.Goals as goal

IsState-marked : (s : State) → IsState s → (p : ℕ) (on : Bool) → p < s.processors → task_on s p ≡ None
    → IsState (record s { online = if on then with_member s.online p else without_member s.online p })
IsState-marked s ok p true number nobody = IsState-state_with_online s p ok number
IsState-marked s ok p false number nobody = IsState-state_with_offline s p ok nobody

pub invariant_of-self : goal.invariant_of-self
invariant_of-self c =
    let s = links_view c.self.inside in
    let number = subst (λ (s : State). c.args.p < s.processors) (sym c.self.view_is) c.requires.processor in
    let nobody = subst (λ (s : State). task_on s c.args.p ≡ None) (sym c.self.view_is) c.requires.nobody in
    rw c.set_online.ensures record {
      state = IsState-marked s c.self.invariant.state c.args.p c.args.on number nobody;
      waiting = AreAwaited-online s c.self.inside.waiting.masks _ c.self.invariant.waiting;
    }

pub returns-clause-valid : goal.returns-clause-valid
returns-clause-valid c = (invariant_of-self c).state
