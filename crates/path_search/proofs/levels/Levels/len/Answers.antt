use Rattle.std.proofs.Common.{◌≤◌, length, length-take-le, arith}
use Rattle.path_search.proofs.levels.Levels.len.Goals as goal

pub returns-clause-value : goal.returns-clause-value
returns-clause-value c =
    let sets = c.self.invariant.0 in
    let count = c.self.invariant.1 in
    let fits : c.self.inside.count ≤ length c.self.inside.sets = omega arith in
    cc (length-take-le c.self.inside.count c.self.inside.sets fits)
