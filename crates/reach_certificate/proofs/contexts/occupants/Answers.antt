use Rattle.std.proofs.Common.{None, sym, ◌∙◌, arith}
use Rattle.std.proofs.lemmas.List.{take_all, take_more}
use Rattle.reach_certificate.proofs.contexts.occupants.Goals as goal

pub loop-p-preserved : goal.loop-p-preserved
loop-p-preserved c =
    let count = c.on.ensures.valid.on_count in
    c.in_ok-push.ensures.items ∙ rw (c.loop-p.invariant, c.on.ensures.value)
    (sym (take_more c.args.links.now.on c.loop-p.p None (omega arith)))

pub returns : goal.returns
returns c =
    let count = c.processors-p-end.ensures.valid.on_count in
    let end = c.processors-p-end.ensures.value in
    c.loop-p.invariant ∙ take_all c.loop-p.p c.args.links.now.on (omega arith)
