use Rattle.std.proofs.Common.{inr}
use Rattle.weak_apa.proofs.Leaving.{stable_left}
use Rattle.weak_apa.proofs.departure.withdraw.Goals as goal

pub fill-requires-clause-stable : goal.fill-requires-clause-stable
fill-requires-clause-stable c =
    rw c.leave-p.ensures.left (stable_left c.args.links.now c.is_waiting.ensures.valid c.args.t c.requires.number c.requires.stable
    c.leave-p.result c.leave-p.ensures.place)

pub returns-else-is_waiting-clause-leaves : goal.returns-else-is_waiting-clause-leaves
returns-else-is_waiting-clause-leaves c = inr record {
  place = c.leave-p.result;
  on = c.leave-p.ensures.place;
  fills = rw c.leave-p.ensures.left at c.fill.ensures.fills;
}
