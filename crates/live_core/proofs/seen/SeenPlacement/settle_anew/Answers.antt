use Rattle.std.proofs.Common.{subst, List, Option, ℕ}
use Rattle.live_core.specs.Seen.{SeenData, IsTable, IsFresh}
use Rattle.live_core.proofs.Losing.{holds_just_where_runs}
use Rattle.live_core.proofs.seen.SeenPlacement.settle_anew.Goals as goal

pub returns-clause-runs : goal.returns-clause-runs
returns-clause-runs c =
    let s = c.args.links.now in
    let table = subst (λ (d : SeenData). IsTable s d.seen c.fill.new.table) c.self.view_is
    (subst (λ (seen : List (Option ℕ)). IsTable s seen c.fill.new.table) c.deref.ensures.value c.fill.ensures.table) in
    let fresh = subst (λ (d : SeenData). IsFresh s d.seen c.fill.new.table) c.self.view_is
    (subst (λ (seen : List (Option ℕ)). IsFresh s seen c.fill.new.table) c.deref.ensures.value c.fill.ensures.fresh) in
    holds_just_where_runs s c.fill.new.table c.args.self.now.seen c.processors-valid.ensures.valid table fresh
