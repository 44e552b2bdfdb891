use Rattle.std.proofs.Common.{subst}
use Rattle.live_core.specs.Seen.{SeenData, IsNobodyLost, IsMostUrgentLost}
use Rattle.std.specs.Prelude.{MatchOption}
use Rattle.live_core.proofs.Counting.{lost_few, ends_within}
use Rattle.live_core.proofs.Losing.{apart_answer, just_linked_answer}
use Rattle.live_core.proofs.seen.SeenPlacement.lost.Goals as goal

pub returns : goal.returns
returns c =
    let s = c.args.links.now in
    let found = c.most_urgent_lost.result in
    let first = subst (λ (d : SeenData). MatchOption found (IsNobodyLost s d.table) (IsMostUrgentLost s d.table))
    c.self.view_is c.most_urgent_lost.ensures in
    let apart = apart_answer s c.args.self.now.table c.args.self.now.seen c.requires found first in
    let ok = c.processors-valid.ensures.valid in
    record {
      first = first;
      apart = apart;
      soon = ends_within s.processors s ok c.args.self.now (lost_few s c.args.self.now.table ok);
      just_linked = just_linked_answer s c.args.self.now.seen ok found apart;
    }
