use Rattle.std.proofs.Common.{◌≡◌, ℕ, ◌&&◌, refl, subst}
use Rattle.std.specs.Prelude.{MatchOption}
use Rattle.affinity_mask.specs.ProcSet.{has}
use Rattle.strong_apa.specs.State.{State}
use Rattle.link_table.specs.LinksView.{links_view}
use Rattle.strong_apa.specs.Step.{IsNobodyInto, IsMostUrgentInto}
use Rattle.link_table.proofs.Awaiting.{most_urgent_from_first}
use Rattle.link_table.proofs.links.Links.most_urgent_in.Goals as goal

pub returns-clause-test : goal.returns-clause-test
returns-clause-test c =
    let s = c.self.inside in
    let on_line : (p : ℕ) → has c.both.result p ≡ (has c.args.set p && has s.places.online p) = subst (λ (X : ℕ). (p : ℕ)
    → has c.both.result p ≡ (has c.args.set p && has X p)) c.online.ensures c.both.ensures.contents in
    subst (λ (s : State). MatchOption c.first_for.result (IsNobodyInto s c.args.set) (IsMostUrgentInto s c.args.set)) c.self.view_is
    (most_urgent_from_first (links_view s) c.self.invariant.state s.waiting refl c.self.invariant.waiting c.args.set c.both.result on_line
    c.first_for.result c.first_for.ensures)
