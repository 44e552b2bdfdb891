use Rattle.std.proofs.Common.{sym, ◌∙◌, arith}
use Rattle.strong_apa.proofs.Linked.{linked_number}
use Rattle.reach_certificate.proofs.Following.{runs_more, runs_whole}
use Rattle.reach_certificate.proofs.contexts.run_linked.Goals as goal

pub run_occupant-requires-clause-known : goal.run_occupant-requires-clause-known
run_occupant-requires-clause-known c = λ t on.
    let number = linked_number c.args.links.now c.loop-p.p t c.on.ensures.valid (sym c.on.ensures.value ∙ on) in
    let kept = c.loop-p.invariant.count in
    omega (arith, number, kept, c.requires)

pub loop-p-preserved : goal.loop-p-preserved
loop-p-preserved c =
    runs_more c.args.links.now c.args.units c.loop-p.p c.args.contexts.now c.loop-p.contexts c.run_occupant.new.contexts c.loop-p.invariant
    (rw (← c.on.ensures.value) c.run_occupant.ensures)

pub returns : goal.returns
returns c = runs_whole c.args.links.now c.loop-p.p c.args.units (let v = c.processors-p-end.ensures.value in omega arith)
    c.args.contexts.now c.loop-p.contexts c.loop-p.invariant
