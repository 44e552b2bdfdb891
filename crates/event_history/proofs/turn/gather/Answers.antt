use Rattle.std.proofs.Common.{rules, ◌∙◌, ap, sym, subst}
use Rattle.event_history.specs.Boards.{PassData}
use Rattle.event_history.specs.Gathering.{IsIn, AllOf, IsGathering}
use Rattle.event_history.specs.Turn.{TurnSeat, taken_in}
use Rattle.event_history.proofs.Gathers.{of_snoc, in_other, in_more, gathered_more}
use Rattle.event_history.proofs.Joins.{takes_in_lem}
use Rattle.event_history.proofs.turn.gather.Goals as goal

pub join_seat-requires : goal.join_seat-requires
join_seat-requires c =
    let i = c.loop-pass.invariant in
    let free = c.pass.invariant.free in
    let rest = of_snoc _ _ c.in-Some.pass (subst (AllOf c.args.turn.now.table_id) c.in-Some.ensures.items i.rest) in (
      i.at_table ∙ c.requires.table.0,
      ap (λ (p : PassData). p.board) c.pass.view_is ∙ rest.1,
      free.slots,
      search rules,
      takes_in_lem _ _ _ _ c.loop-pass.first.seat.me.0 c.pass.inside.state.seat.me.0 free.pass free.held,
    )

pub loop-pass-preserved : goal.loop-pass-preserved
loop-pass-preserved c =
    let i = c.loop-pass.invariant in
    let v = c.loop-pass.first.seat.me.0 in
    let w = c.pass.inside.state.seat.me.0 in
    let now = c.join_seat.ensures.2 in
    let view = ap (λ (m : TurnSeat). m.0) now in
    let rest = of_snoc _ _ c.in-Some.pass (subst (AllOf c.args.turn.now.table_id) c.in-Some.ensures.items i.rest) in
    record {
      at_table = c.join_seat.ensures.0 ∙ i.at_table;
      gathers = subst IsGathering (sym now) record { pass = i.gathers.pass; held = i.gathers.held; slots = i.gathers.slots };
      rest = rest.0;
      kept = λ pass is. subst (IsIn pass) (sym view) (in_more pass v w (i.kept pass is));
      gathered = gathered_more c.args.passes.items c.loop-pass.passes.items c.pop.new.self.items c.in-Some.pass v w
          c.join_seat.new.seat.me.0 i.gathered c.in-Some.ensures.items view
          (subst (λ (p : PassData). IsIn p (taken_in v w)) c.pass.view_is
          (in_other c.pass.inside.state.seat.table_id c.pass.inside.state.eyes v w));
    }
