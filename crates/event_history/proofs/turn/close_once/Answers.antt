use Rattle.std.proofs.Common.{◌≡◌, ◌∙◌, true, ap}
use Rattle.sched_core.specs.CoreData.{CoreData}
use Rattle.event_history.specs.Holdings.{HeldData, queues_of}
use Rattle.event_history.specs.Turn.{TurnSeat, setting_of}
use Rattle.event_history.proofs.Leaving.{busy_grown, busy_was, may_leave, left_grown, left_mine, left_saw, left_looks}
use Rattle.event_history.proofs.turn.close_once.Goals as goal

pub returns-in-Err-clause-grown : goal.returns-in-Err-clause-grown
returns-in-Err-clause-grown g c = busy_grown c.args.turn.now.table_id c.args.state.now.eyes c.begin.new.state.eyes
    c.args.state.now.seat.me.0 c.begin.new.state.seat.me c.in-Err.found c.in-Err.ensures.busy

pub returns-in-Err-clause-busy : goal.returns-in-Err-clause-busy
returns-in-Err-clause-busy g c = busy_was c.args.turn.now.table_id c.args.state.now.eyes c.begin.new.state.eyes c.args.state.now.seat.me.0
    c.begin.new.state.seat.me c.in-Err.found c.in-Err.ensures.busy

pub leave-requires-clause-turn : goal.leave-requires-clause-turn
leave-requires-clause-turn g c =
    let core : c.close_now.new.self.core ≡ record c.in-Ok.held.core { closed = true } = ap (λ (h : HeldData). h.core) c.close_now.ensures in (
      may_leave g.J.Over.setting (setting_of c.args.turn.now.key) c.args.state.now.seat.me.0 c.begin.new.state.seat.me c.in-Ok.held
          c.close_now.new.self c.requires.setting c.in-Ok.ensures.turn (ap (λ (x : CoreData). x.history) core)
          (λ _. ap (λ (x : CoreData). x.closed) core)
          (ap (λ (x : CoreData). x.start) core) (ap (λ (h : HeldData). queues_of h.senders) c.close_now.ensures),
      c.begin.ensures.same.2,
    )

pub returns-clause-grown : goal.returns-clause-grown
returns-clause-grown g c =
    let core : c.close_now.new.self.core ≡ record c.in-Ok.held.core { closed = true } = ap (λ (h : HeldData). h.core) c.close_now.ensures in
    left_grown g.J.Over.setting c.args.turn.now.table_id c.args.state.now.eyes c.leave.new.state.eyes c.args.state.now.seat.me.0
    c.begin.new.state.seat.me c.leave.new.state.seat.me c.in-Ok.held c.close_now.new.self.core c.in-Ok.ensures.turn
    (ap (λ (x : CoreData). x.history) core) (λ _. ap (λ (x : CoreData). x.closed) core) c.leave.ensures.view

pub returns-clause-mine : goal.returns-clause-mine
returns-clause-mine g c =
    left_mine g.J.Over.setting c.args.turn.now.table_id c.args.state.now.eyes c.leave.new.state.eyes c.args.state.now.seat.me.0
    c.begin.new.state.seat.me c.leave.new.state.seat.me c.in-Ok.held c.close_now.new.self.core c.in-Ok.ensures.turn c.leave.ensures.view

pub returns-clause-closed : goal.returns-clause-closed
returns-clause-closed g c =
    let core : c.close_now.new.self.core ≡ record c.in-Ok.held.core { closed = true } = ap (λ (h : HeldData). h.core) c.close_now.ensures in (
      left_saw g.J.Over.setting c.args.turn.now.table_id c.args.state.now.eyes c.leave.new.state.eyes c.args.state.now.seat.me.0
          c.begin.new.state.seat.me c.leave.new.state.seat.me c.in-Ok.held c.close_now.new.self.core c.args.turn.now.key.set.value
          c.in-Ok.ensures.turn (ap (λ (x : CoreData). x.history) core) c.leave.ensures.view c.leave.ensures.legal,
      ap (λ (m : TurnSeat). m.0.saw_close) c.leave.ensures.view ∙ ap (λ (x : CoreData). x.closed) core,
    )

pub returns-clause-turn : goal.returns-clause-turn
returns-clause-turn g c =
    left_looks g.J.Over.setting c.args.turn.now.table_id c.args.state.now.eyes c.leave.new.state.eyes c.args.state.now.seat.me.0
    c.begin.new.state.seat.me c.leave.new.state.seat.me c.in-Ok.held c.close_now.new.self.core c.in-Ok.ensures.turn
    (ap (λ (h : HeldData). h.core.history) c.close_now.ensures) c.leave.ensures.view
