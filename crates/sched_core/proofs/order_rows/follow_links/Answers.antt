use Rattle.std.proofs.Common.{◌≡◌, [], ◌∷◌, ℕ, ap}
use Rattle.task_set.specs.declared.event.Event.{Event}
use Rattle.task_set.specs.declared.event.Event.TheVariants.{Tick}
use Rattle.strong_apa.specs.Reply.{chain_of}
use Rattle.strong_apa.specs.Touched.{touched}
use Rattle.sched_core.specs.CoreRows.{RowsChange}
use Rattle.sched_core.proofs.RowsChanged.{can_follow-later, rows_change-then}
use Rattle.sched_core.proofs.RowsFollowed.{all_hold, numbers_stay, touched_by_chains, rows_follow-change, numbers_follow}
use Rattle.sched_core.proofs.order_rows.follow_links.Goals as goal

pub returns-in-Tick-clause-takes : goal.returns-in-Tick-clause-takes
returns-in-Tick-clause-takes c =
    let old = c.args.rows.now.items in
    let links = c.args.links.now in
    let reply = c.args.reply.now in
    let none : touched c.args.event.now reply ≡ [] = rw c.in-Tick.is (c.requires.tick c.in-Tick.units c.in-Tick.is) in
    numbers_stay old c.run_rows.new.rows.items links c.in-Tick.units
    (all_hold (touched c.args.event.now reply) old links none c.requires.outside) c.run_rows.ensures c.args.takes.now.items
    c.requires.can.one_each

pub follow_reply-requires : goal.follow_reply-requires
follow_reply-requires c =
    let reply = c.args.reply.now in
    let p = c.in-Offline.p in
    let is : touched c.args.event.now reply ≡ p ∷ chain_of reply = ap (λ (event : Event). touched event reply) c.in-Offline.is in
    can_follow-later c.args.links.now (touched c.args.event.now reply) (p ∷ []) c.args.rows.now.items c.follow_chain.new.rows.items
    c.args.takes.now.items c.follow_chain.new.takes.items c.requires.can c.follow_chain.ensures (chain_of reply) is

pub returns-in-Offline : goal.returns-in-Offline
returns-in-Offline c =
    let reply = c.args.reply.now in
    let event = c.args.event.now in
    let p = c.in-Offline.p in
    let links = c.args.links.now in
    let old = c.args.rows.now.items in
    let takes = c.args.takes.now.items in
    let now = c.follow_chain.new.rows.items in
    let counted = c.follow_chain.new.takes.items in
    let new = c.follow_reply.new.rows.items in
    let after = c.follow_reply.new.takes.items in
    let is : touched event reply ≡ p ∷ chain_of reply = ap (λ (event : Event). touched event reply) c.in-Offline.is in
    let changed : RowsChange (touched event reply) links old takes new after = rw is
    (rows_change-then links (touched event reply) (p ∷ []) old now takes counted c.requires.can c.follow_chain.ensures (chain_of reply)
    new after c.follow_reply.ensures) in
    let no_tick : (units : ℕ) → event ≡ Tick units → ⊥ = λ units e. (let offline = c.in-Offline.is in cc) in
    record {
      rows = rows_follow-change (touched event reply) links old takes new after c.requires.outside changed event no_tick;
      takes = numbers_follow (touched event reply) links old takes new after c.requires.outside changed c.requires.can.one_each;
    }

pub returns-in_default : goal.returns-in_default
returns-in_default c =
    let reply = c.args.reply.now in
    let event = c.args.event.now in
    let links = c.args.links.now in
    let old = c.args.rows.now.items in
    let takes = c.args.takes.now.items in
    let new = c.follow_reply-in_default.new.rows.items in
    let after = c.follow_reply-in_default.new.takes.items in
    let changed : RowsChange (touched event reply) links old takes new after = rw (touched_by_chains event reply c.in_default.not-Offline)
    c.follow_reply-in_default.ensures in
    record {
      rows = rows_follow-change (touched event reply) links old takes new after c.requires.outside changed event c.in_default.not-Tick;
      takes = numbers_follow (touched event reply) links old takes new after c.requires.outside changed c.requires.can.one_each;
    }
