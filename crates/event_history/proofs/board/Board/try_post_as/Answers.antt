use Rattle.std.proofs.Common.{rules, arith, ◌∙◌, ap, sym, length, length-append, subst}
use Rattle.strong_apa.specs.declared.reply.Entry.{Entry}
use Rattle.event_history.specs.Boards.{BoardData, PassData, Grown}
use Rattle.event_history.specs.Holdings.{queues_of}
use Rattle.event_history.specs.Posting.{WasBusy}
use Rattle.event_history.specs.Turn.{setting_of}
use Rattle.event_history.specs.PassParts.{pass_data}
use Rattle.event_history.proofs.Leaving.{may_leave, may_record}
use Rattle.event_history.proofs.Prefixes.{prefix_snoc}
use Rattle.event_history.proofs.board.Board.try_post_as.Goals as goal
use Rattle.event_history.proofs.board.Board.try_post_as.Goals.{in-Ok-enter, in-Err-enter}

pub returns-in-Err-clause-grown : goal.returns-in-Err-clause-grown
returns-in-Err-clause-grown g c =
    subst (λ (p : PassData). Grown p (pass_data record { state = c.begin.new.state })) c.pass.view_is (search rules)

pub returns-in-Err-clause-busy : goal.returns-in-Err-clause-busy
returns-in-Err-clause-busy g c =
    let busy = c.in-Err.ensures.busy in
    subst (λ (p : PassData). WasBusy p (pass_data record { state = c.begin.new.state }) c.in-Err.found) c.pass.view_is
    record { seen = busy.seen; mine = busy.mine; close = busy.close; looks = busy.looks }

pub record_entry-requires-clause-turn : goal.record_entry-requires-clause-turn
record_entry-requires-clause-turn g c =
    let taken = c.in-Ok-enter.ensures.entered in
    let setting = c.requires.setting ∙ ap (λ (b : BoardData). record { set = b.set; queues = b.queues }) (sym c.self.view_is) in (
      may_record g.J.Over.setting (setting_of c.self.inside.table.shared.key) c.pass.inside.state.seat.me.0 c.begin.new.state.seat.me
          c.in-Ok.held c.enter.new.self c.begin.new.state.caller c.args.event taken.receipt setting c.in-Ok.ensures.turn taken.holds
          c.enter.ensures.senders
          c.begin.ensures.same.2.caller,
      c.begin.ensures.same.2,
    )

pub leave-requires-clause-turn : goal.leave-requires-clause-turn
leave-requires-clause-turn g c =
    let made = c.in-Err-enter.ensures.refused.0 in
    let setting = c.requires.setting ∙ ap (λ (b : BoardData). record { set = b.set; queues = b.queues }) (sym c.self.view_is) in (
      may_leave g.J.Over.setting (setting_of c.self.inside.table.shared.key) c.pass.inside.state.seat.me.0 c.begin.new.state.seat.me
          c.in-Ok.held c.enter.new.self setting c.in-Ok.ensures.turn made.history (λ closed. made.closed ∙ closed)
          made.start (ap queues_of c.enter.ensures.senders),
      c.begin.ensures.same.2,
    )

pub returns-clause-grown : goal.returns-clause-grown
returns-clause-grown g c =
    let turn = c.in-Ok.ensures.turn in
    subst (λ (p : PassData). Grown p (pass_data c.match-enter.pass-inside)) c.pass.view_is
    (elim c.match-enter.branch [
      | in-Ok-enter w ↦
          let view = w.record_entry.ensures.view in
          let history = w.in-Ok-enter.ensures.entered.holds.history in
          rw w.pass-inside-is record {
            board = search rules;
            caller = rw view turn.caller;
            seen = rw (view, history) (prefix_snoc _ _ _ turn.begins);
            known = rw view (omega (arith, turn.knows, turn.known, ap length history, length-append {A = Entry}));
            close = rw view (λ saw. turn.close ∙ saw);
            looks = rw view (_, turn.looks);
          }
      | in-Err-enter w ↦ rw w.pass-inside-is (search rules)
    ])
