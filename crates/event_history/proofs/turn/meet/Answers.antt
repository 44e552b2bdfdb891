use Rattle.std.proofs.Common.{List, sym, subst}
use Rattle.order_queues.specs.Ends.{EyeData}
use Rattle.event_history.specs.Meeting.{Told, Met}
use Rattle.event_history.specs.PassStates.{pass_data_of}
use Rattle.event_history.specs.Turn.{TurnSeat}
use Rattle.event_history.proofs.Meets.{met_lem}
use Rattle.event_history.proofs.turn.meet.Goals as goal

pub returns-clause-met : goal.returns-clause-met
returns-clause-met c =
    let id = c.args.turn.now.table_id in
    let one = pass_data_of id c.args.one.now.eyes c.args.one.now.seat.me.0 in
    let other = pass_data_of id c.args.other.now.eyes c.args.other.now.seat.me.0 in
    let one1 = pass_data_of id c.tell-2.new.to.eyes c.tell-2.new.to.seat.me.0 in
    let other1 = pass_data_of id c.tell.new.to.eyes c.tell.new.to.seat.me.0 in
    let view = c.tell.ensures.from.3 in
    let eyes = c.tell.ensures.from.1 in
    let second = subst (λ (m : TurnSeat). Told other1 (pass_data_of id c.args.one.now.eyes m.0) one1) view
    (subst (λ (e : List EyeData). Told other1 (pass_data_of id e c.tell.new.from.seat.me.0) one1) eyes c.tell-2.ensures.told) in
    let met = met_lem one other one1 other1 c.tell.ensures.told second in
    subst (λ (m : TurnSeat). Met one other one1 (pass_data_of id c.tell-2.new.from.eyes m.0)) (sym c.tell-2.ensures.from.3)
    (subst (λ (e : List EyeData). Met one other one1 (pass_data_of id e c.tell.new.to.seat.me.0)) (sym c.tell-2.ensures.from.1) met)
