use Rattle.std.proofs.Common.{ℕ, ◌↔◌, IsTrue, subst}
use Rattle.affinity_mask.specs.ProcSet.{has}
use Rattle.strong_apa.specs.State.{State}
use Rattle.strong_apa.specs.Chain.{CanShift}
use Rattle.link_table.specs.LinksView.{links_view}
use Rattle.link_table.proofs.Feeding.{fed_from_test, nobody_feeds}
use Rattle.link_table.proofs.links.Links.feeders.Goals as goal

pub returns-then-q-self-clause-contents : goal.returns-then-q-self-clause-contents
returns-then-q-self-clause-contents c =
    subst (λ (s : State). (p : ℕ) → IsTrue (has c.feeders.result p) ↔ CanShift s p c.args.q) c.self.view_is
    (fed_from_test (links_view c.self.inside) c.feeders.result c.args.q c.feeders.ensures)

pub returns-else-q-self-clause-contents : goal.returns-else-q-self-clause-contents
returns-else-q-self-clause-contents c =
    subst (λ (s : State). (p : ℕ) → IsTrue (has c.empty.result p) ↔ CanShift s p c.args.q) c.self.view_is
    (nobody_feeds (links_view c.self.inside) c.self.invariant.state c.empty.result c.args.q c.empty.ensures c.if-q-self.false)
