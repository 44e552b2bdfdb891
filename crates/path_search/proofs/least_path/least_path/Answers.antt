use Rattle.std.proofs.Common.{ℕ, List, sym, subst}
use Rattle.affinity_mask.proofs.Meetings.{no_member}
use Rattle.strong_apa.specs.Chain.{IsLeastSuch}
use Rattle.path_search.specs.Paths.{Steps, LeadsInto}
use Rattle.path_search.proofs.LeastPaths.{least_one}
use Rattle.path_search.proofs.least_path.least_path.Goals as goal

pub returns-then-is_empty : goal.returns-then-is_empty
returns-then-is_empty c = λ chain h. no_member c.args.target h.0 (c.is_empty.ensures.0 c.if-is_empty.true) h.2

pub returns-in-Some : goal.returns-in-Some
returns-in-Some c =
    let Step = Steps c.args.links.now c.args.direction in
    subst (λ (path : List ℕ). IsLeastSuch (LeadsInto Step c.args.start c.args.target) path) (sym c.chain_of_one.ensures)
    (least_one Step c.args.start c.args.target c.both.result c.both.ensures.contents c.in-Some.p c.in-Some.ensures.least)
