use Rattle.std.proofs.Common.{rules, ◌==◌}
use Rattle.std.proofs.lemmas.Iterator.Splits.{YieldsList-from_slice_split}
use Rattle.std.proofs.lemmas.Iterator.Consumers.{YieldsList-turn, YieldsList-end}
use Rattle.schedule_text.proofs.Chains.{list_more, list_none, list_full, list_read}
use Rattle.schedule_text.proofs.field.processors_of.Goals as goal

pub returns-in_err-p : goal.returns-in_err-p
returns-in_err-p c =
    let cut = YieldsList-from_slice_split _ (λ byte. byte == 62) c.args.field.now (search rules) (search rules)
    (search rules) (λ x b q k. search rules) in
    let here = YieldsList-turn cut c.loop-link.yielded _ c.loop-link.yielded_by _ _ c.in-Some.link c.in-Some.is c.next.ensures.steps in
    rw c.from_residual.ensures (list_none _ _ _ here.0 here.1 c.in_err-p.ensures)

pub returns-then-len-eq-MAX_CHAIN : goal.returns-then-len-eq-MAX_CHAIN
returns-then-len-eq-MAX_CHAIN c =
    let cut = YieldsList-from_slice_split _ (λ byte. byte == 62) c.args.field.now (search rules) (search rules)
    (search rules) (λ x b q k. search rules) in
    let here = YieldsList-turn cut c.loop-link.yielded _ c.loop-link.yielded_by _ _ c.in-Some.link c.in-Some.is c.next.ensures.steps in
    list_full _ c.loop-link.yielded c.loop-link.chain c.loop-link.invariant (search rules) here.0

pub loop-link-preserved : goal.loop-link-preserved
loop-link-preserved c =
    rw c.push.ensures (list_more c.loop-link.yielded c.in-Some.link c.loop-link.chain c.in_ok-p.p
    c.loop-link.invariant (search rules) c.in_ok-p.ensures)

pub returns : goal.returns
returns c =
    let cut = YieldsList-from_slice_split _ (λ byte. byte == 62) c.args.field.now (search rules) (search rules)
    (search rules) (λ x b q k. search rules) in
    let all = YieldsList-end cut c.loop-link.yielded _ c.loop-link.yielded_by _ _ c.in-None.is c.next.ensures.steps in
    list_read _ c.loop-link.yielded c.loop-link.chain c.loop-link.invariant all.0
