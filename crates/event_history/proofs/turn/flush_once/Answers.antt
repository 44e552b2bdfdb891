use Rattle.std.proofs.Common.{rules, ap, ◌∙◌}
use Rattle.strong_apa.specs.State.{start_of}
use Rattle.sched_core.specs.CoreData.{CoreData}
use Rattle.event_history.specs.Turn.{TurnSeat, Setting, setting_of}
use Rattle.event_history.proofs.Flushes.{flushed_lem}
use Rattle.event_history.proofs.Leaving.{busy_grown, busy_was, may_leave, left_grown, left_mine, left_saw, left_looks}
use Rattle.event_history.proofs.Owes.{may_send}
use Rattle.event_history.proofs.turn.flush_once.Goals as goal

pub flush-owed-requires-clause-orders : goal.flush-owed-requires-clause-orders
flush-owed-requires-clause-orders g c =
    let start = c.in-Ok.ensures.turn.start ∙ ap (λ (s : Setting). start_of s.set) c.requires.setting in
    may_send c.args.turn.now.key.set.value c.in-Ok.held.core c.args.queues.now c.requires.board.0 c.requires.board.1
    c.count-count.ensures.valid start

pub returns-in-Err-clause-grown : goal.returns-in-Err-clause-grown
returns-in-Err-clause-grown g c = busy_grown c.args.turn.now.table_id c.args.state.now.eyes c.begin.new.state.eyes
    c.args.state.now.seat.me.0 c.begin.new.state.seat.me c.in-Err.found c.in-Err.ensures.busy

pub returns-in-Err-clause-busy : goal.returns-in-Err-clause-busy
returns-in-Err-clause-busy g c = (
  c.begin.ensures.same.1,
  busy_was c.args.turn.now.table_id c.args.state.now.eyes c.begin.new.state.eyes
      c.args.state.now.seat.me.0 c.begin.new.state.seat.me c.in-Err.found c.in-Err.ensures.busy,
)

pub leave-requires-clause-turn : goal.leave-requires-clause-turn
leave-requires-clause-turn g c =
    let core = c.flush-owed.ensures.core in (
      may_leave g.J.Over.setting (setting_of c.args.turn.now.key) c.args.state.now.seat.me.0 c.begin.new.state.seat.me c.in-Ok.held
          c.flush-owed.new.self c.requires.setting c.in-Ok.ensures.turn (ap (λ (x : CoreData). x.history) core)
          (λ closed. ap (λ (x : CoreData). x.closed) core ∙ closed)
          (ap (λ (x : CoreData). x.start) core) c.flush-owed.ensures.queues,
      search rules,
    )

pub returns-clause-grown : goal.returns-clause-grown
returns-clause-grown g c =
    let core = c.flush-owed.ensures.core in
    left_grown g.J.Over.setting c.args.turn.now.table_id c.args.state.now.eyes c.leave.new.state.eyes c.args.state.now.seat.me.0
    c.begin.new.state.seat.me c.leave.new.state.seat.me c.in-Ok.held c.flush-owed.new.self.core c.in-Ok.ensures.turn
    (ap (λ (x : CoreData). x.history) core) (λ closed. ap (λ (x : CoreData). x.closed) core ∙ closed) c.leave.ensures.view

pub returns-clause-mine : goal.returns-clause-mine
returns-clause-mine g c =
    left_mine g.J.Over.setting c.args.turn.now.table_id c.args.state.now.eyes c.leave.new.state.eyes c.args.state.now.seat.me.0
    c.begin.new.state.seat.me c.leave.new.state.seat.me c.in-Ok.held c.flush-owed.new.self.core c.in-Ok.ensures.turn
    c.leave.ensures.view

pub returns-clause-turn : goal.returns-clause-turn
returns-clause-turn g c =
    left_looks g.J.Over.setting c.args.turn.now.table_id c.args.state.now.eyes c.leave.new.state.eyes c.args.state.now.seat.me.0
    c.begin.new.state.seat.me c.leave.new.state.seat.me c.in-Ok.held c.flush-owed.new.self.core c.in-Ok.ensures.turn
    (ap (λ (x : CoreData). x.history) c.flush-owed.ensures.core) c.leave.ensures.view

pub returns-clause-flushed : goal.returns-clause-flushed
returns-clause-flushed g c =
    let start = c.in-Ok.ensures.turn.start ∙ ap (λ (s : Setting). start_of s.set) c.requires.setting in (
      left_saw g.J.Over.setting c.args.turn.now.table_id c.args.state.now.eyes c.leave.new.state.eyes c.args.state.now.seat.me.0
          c.begin.new.state.seat.me c.leave.new.state.seat.me c.in-Ok.held c.flush-owed.new.self.core c.args.turn.now.key.set.value
          c.in-Ok.ensures.turn (ap (λ (x : CoreData). x.history) c.flush-owed.ensures.core) c.leave.ensures.view c.leave.ensures.legal,
      flushed_lem c.args.turn.now.key.set.value c.in-Ok.held.core c.flush-owed.new.self.core c.args.turn.now.table_id
          c.args.state.now.seat.me.0 c.begin.new.state.seat.me.0 c.leave.new.state.seat.me.0
          c.begin.new.state.eyes c.args.state.now.eyes c.flush-owed.new.eyes c.leave.new.state.eyes c.flush-owed.result start
          c.flush-owed.ensures.core (ap (λ (m : TurnSeat). m.0) c.leave.ensures.view) c.in-Ok.ensures.same.1 c.leave.ensures.same.1
          c.flush-owed.ensures.flushed.flushed,
    )
