use Rattle.std.proofs.Common.{◌<◌, length, get_or, ap, arith}
use Rattle.std.proofs.lemmas.List.{get_or_default}
use Rattle.std.proofs.lemmas.List.Elements.{All-get_or}
use Rattle.link_table.specs.declared.ranked.Ranked.{Ranked}
use Rattle.link_table.proofs.Urgent.{ranks_more}
use Rattle.link_table.proofs.waiting_tasks.write_ranks.Goals as goal

pub loop-r-preserved : goal.loop-r-preserved
loop-r-preserved c =
    let order = c.args.order.now in
    let r = c.loop-r.r in
    let fits = c.loop-r-test.true in
    let e : Ranked = get_or order r (record { priority = 0; task = 0 }) in
    let room : e.task < length c.args.ranks.now = All-get_or (λ (entry : Ranked). entry.task < length c.args.ranks.now) order r
    (record { priority = 0; task = 0 }) fits c.requires.numbers in
    ranks_more order c.requires.apart c.loop-r.ranks r e.task fits
    (λ d. ap (λ (x : Ranked). x.task) (get_or_default order r (record { priority = 0; task = 0 }) d fits))
    (omega (arith, room, c.loop-r.auto.ranks)) c.loop-r.invariant
