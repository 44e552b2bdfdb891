use Rattle.weak_apa.proofs.Looking.{most_urgent_at}
use Rattle.weak_apa.proofs.Placing.{stable_filled}
use Rattle.weak_apa.proofs.departure.fill.Goals as goal

pub returns-in-Some-clause-stable : goal.returns-in-Some-clause-stable
returns-in-Some-clause-stable c =
    let most = most_urgent_at c.args.links.now c.args.p c.in-Some.w c.one.result c.one.ensures c.in-Some.ensures.test in
    rw c.go_on.ensures.goes (stable_filled c.args.links.now c.processors-valid.ensures.valid c.in-Some.w c.args.p most.waits most.enters
    c.requires.stable most c.requires.nobody)
