-- What was sent in a turn, as the pass sees it after the turn.
use Rattle.std.proofs.Common.{◌≡◌, ℕ, if◌then◌else◌, List, length, sym, ap, ◌∙◌, subst}
use Rattle.atomic_table.specs.Seated.{TableId}
use Rattle.task_set.specs.TaskSet.{SetData}
use Rattle.strong_apa.specs.State.{start_of}
use Rattle.strong_apa.specs.Dispatch.{orders_of, closed_orders_of}
use Rattle.order_queues.specs.Ends.{EyeData}
use Rattle.sched_core.specs.CoreData.{CoreData, core_orders}
use Rattle.event_history.specs.declared.view.PassView.{PassView}
use Rattle.event_history.specs.Flushing.{EyesFlushed, Flushed}
use Rattle.event_history.specs.Ordering.{orders_seen}
use Rattle.event_history.specs.PassStates.{pass_data_of}
use Rattle.event_history.specs.Turn.{after_leave}

pub flushed_lem : (set : SetData) (core left : CoreData) (id : TableId) (u v w : PassView) (had old kept new : List EyeData) (answer : ℕ)
    → core.start ≡ start_of set → left ≡ core → w ≡ after_leave v left → had ≡ old → new ≡ kept
    → EyesFlushed (λ p. length (core_orders core p)) had kept answer → Flushed set (pass_data_of id old u) (pass_data_of id new w) answer
flushed_lem set core left id u v w had old kept new answer start same is before after h =
    let close : core.closed ≡ w.saw_close = sym (ap (λ (x : PassView). x.saw_close) is ∙ ap (λ (c : CoreData). c.closed) same) in
    let seen : core.history ≡ w.seen = sym (ap (λ (x : PassView). x.seen) is ∙ ap (λ (c : CoreData). c.history) same) in
    let orders : (λ (p : ℕ). length (core_orders core p)) ≡ (λ (p : ℕ). length (orders_seen set (pass_data_of id new w) p)) = λ i p. length
    (if close i then closed_orders_of (start i) (seen i) p else orders_of (start i) (seen i) p) in
    subst (λ (f : ℕ → ℕ). EyesFlushed f old new answer) orders
    (subst (λ (e : List EyeData). EyesFlushed (λ p. length (core_orders core p)) e new answer) before
    (subst (λ (e : List EyeData). EyesFlushed (λ p. length (core_orders core p)) had e answer) (sym after) h))
