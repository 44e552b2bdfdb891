use Rattle.std.proofs.Common.{refl}
use Rattle.sched_core.specs.CoreRows.{RowsChange}
use Rattle.strong_apa.specs.Reply.{chain_of, filling_chain, coming_chain}
use Rattle.sched_core.proofs.RowsChanged.{can_follow-first, can_follow-later, rows_change-then}
use Rattle.sched_core.proofs.order_rows.follow_reply.Goals as goal

pub follow_chain-requires : goal.follow_chain-requires
follow_chain-requires c =
    let reply = c.args.reply.now in
    rw c.filling_chain.ensures.value (can_follow-first c.args.links.now (filling_chain reply) (coming_chain reply)
    c.args.rows.now.items c.args.takes.now.items c.requires)

pub follow_chain-requires-2 : goal.follow_chain-requires-2
follow_chain-requires-2 c =
    let reply = c.args.reply.now in
    let links = c.args.links.now in
    let old = c.args.rows.now.items in
    let takes = c.args.takes.now.items in
    let now = c.follow_chain.new.rows.items in
    let counted = c.follow_chain.new.takes.items in
    let changed : RowsChange (filling_chain reply) links old takes now counted = rw c.filling_chain.ensures.value at
    c.follow_chain.ensures in
    rw c.coming_chain.ensures.value (can_follow-later links (chain_of reply) (filling_chain reply) old now takes counted c.requires changed
    (coming_chain reply) refl)

pub returns : goal.returns
returns c =
    let reply = c.args.reply.now in
    let links = c.args.links.now in
    let old = c.args.rows.now.items in
    let takes = c.args.takes.now.items in
    let now = c.follow_chain.new.rows.items in
    let counted = c.follow_chain.new.takes.items in
    let new = c.follow_chain-2.new.rows.items in
    let after = c.follow_chain-2.new.takes.items in
    let first : RowsChange (filling_chain reply) links old takes now counted = rw c.filling_chain.ensures.value at c.follow_chain.ensures in
    let later : RowsChange (coming_chain reply) links now counted new after = rw c.coming_chain.ensures.value at c.follow_chain-2.ensures in
    rows_change-then links (chain_of reply) (filling_chain reply) old now takes counted c.requires first (coming_chain reply)
    new after later
