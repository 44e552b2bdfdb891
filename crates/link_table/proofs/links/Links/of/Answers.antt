use Rattle.std.proofs.Common.{◌≡◌, ◌↔◌, false, subst}
use Rattle.std.specs.Prelude.{IsNone}
use Rattle.strong_apa.specs.State.{State, is_linked}
use Rattle.link_table.specs.LinksView.{links_view}
use Rattle.strong_apa.proofs.Linked.{none_from_place}
use Rattle.link_table.proofs.links.Links.of.Goals as goal

pub returns-clause-none : goal.returns-clause-none
returns-clause-none c =
    subst (λ (s : State). IsNone c.of.result ↔ (is_linked s c.args.t ≡ false)) c.self.view_is
    (none_from_place (links_view c.self.inside) c.args.t c.of.result c.of.ensures.place c.of.ensures.none)
