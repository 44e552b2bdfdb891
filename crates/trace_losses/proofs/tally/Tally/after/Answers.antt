use Rattle.std.proofs.Common.{◌++◌, replicate, subst, sym}
use Rattle.trace_losses.specs.Moments.{IsTally}
use Rattle.trace_losses.specs.declared.tally.Tally.{Tally}
use Rattle.trace_losses.proofs.Tallies.{tally_more, tally_is}
use Rattle.trace_losses.proofs.tally.Tally.after.Goals as goal

pub returns-clause-tally : goal.returns-clause-tally
returns-clause-tally c = λ moments is.
    subst (λ (tally : Tally). IsTally (moments ++ replicate c.args.units c.args.seen) tally)
    (tally_is c.args.self c.args.units c.args.seen c.is_served.result c.is_lost-is_lost.result c.more.result c.more-2.result c.more-3.result
    c.more_or_none-current.result c.ended_after.result c.longer.result c.is_served.ensures c.is_lost-is_lost.ensures c.more.ensures
    c.more-2.ensures c.more-3.ensures
    c.more_or_none-current.ensures c.ended_after.ensures c.longer.ensures)
    (tally_more moments c.args.self c.args.units c.args.seen c.requires.some is)

pub returns-clause-step : goal.returns-clause-step
returns-clause-step c =
    sym (tally_is c.args.self c.args.units c.args.seen c.is_served.result c.is_lost-is_lost.result c.more.result c.more-2.result
    c.more-3.result
    c.more_or_none-current.result c.ended_after.result c.longer.result c.is_served.ensures c.is_lost-is_lost.ensures c.more.ensures
    c.more-2.ensures c.more-3.ensures
    c.more_or_none-current.ensures c.ended_after.ensures c.longer.ensures)
