use Rattle.std.proofs.Common.{◌≡◌, ◌∙◌, ℕ, List, ◌++◌, None, true, if◌then◌else◌, sym, ap, subst, append-nil}
use mathlib.Core.List.{IsPrefix}
use Rattle.task_set.specs.declared.order.Order.{Order}
use Rattle.task_set.specs.Orders.{IsObeyable, has_stop}
use Rattle.task_set.proofs.Obeyable.{nothing_after_stop}
use Rattle.strong_apa.specs.State.{start_of}
use Rattle.strong_apa.specs.Dispatch.{orders_of, closed_orders_of}
use Rattle.sched_core.specs.CoreData.{core_orders}
use Rattle.history_laws.proofs.OrderLists.{orders_obeyable}
use Rattle.replay.proofs.ends.settle_one.Goals as goal

pub returns : goal.returns
returns c =
    let set = c.args.slots.now.set in
    let history = c.args.core.now.history in
    let p : ℕ = c.args.number in
    let sent : List Order = c.args.sender.sent in
    let over = c.requires.core in
    let closed : core_orders c.args.core.now p ≡ closed_orders_of (start_of set) history p = λ i. if over.closed i
    then closed_orders_of (over.start i) history p else orders_of (over.start i) history p in
    let all = c.settle.ensures.whole c.requires.stopped in
    let begins = subst (IsPrefix sent) closed c.requires.sent in
    let stops = subst (λ (l : List Order). has_stop l ≡ true) all c.requires.stopped in
    let none_left = nothing_after_stop None sent begins.0
    (subst IsObeyable (sym begins.1) (orders_obeyable set history p over.legal).after_close) stops in
    all ∙ sym (append-nil sent) ∙ ap (λ (l : List Order). sent ++ l) (sym none_left) ∙ begins.1
