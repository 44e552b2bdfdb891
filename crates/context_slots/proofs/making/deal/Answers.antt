use Rattle.std.proofs.Common.{rules, arith, sym, subst}
use Rattle.atomic_table.specs.Table.{Splits}
use Rattle.context_slots.specs.HandOver.{HandOverRule}
use Rattle.context_slots.specs.HandSteps.{SeatState, dealing, dealt, next_hand}
use Rattle.context_slots.proofs.Keeps.{splits_lem}
use Rattle.context_slots.proofs.making.deal.Goals as goal

pub split_seat-seat-requires : goal.split_seat-seat-requires
split_seat-seat-requires c =
    let is = c.requires.first in
    let n = c.args.table.now.shared.key.set.value.processors in (
      search rules,
      search rules,
      subst (λ (m : SeatState). Splits (HandOverRule n) c.args.first.now.seat.id m.0 (dealt m.0) (next_hand m.0)) (sym is)
          (splits_lem n c.args.first.now.seat.id (dealing n c.args.number) (omega (arith, c.requires.number.1))),
    )
