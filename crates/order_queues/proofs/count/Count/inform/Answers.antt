use Rattle.std.proofs.Common.{rules, arith, refl, ap}
use Rattle.order_queues.specs.Count.{Seated}
use Rattle.order_queues.proofs.CountSteps.{split_keeps, join_keeps, writer_if}
use Rattle.order_queues.proofs.count.Count.inform.Goals as goal

pub split_seat-note-requires : goal.split_seat-note-requires
split_seat-note-requires c = (search rules, search rules, split_keeps _ _ _ refl refl (omega arith))

pub join_seat-requires : goal.join_seat-requires
join_seat-requires c = (
  search rules,
  search rules,
  search rules,
  search rules,
  join_keeps _ _ _ _ (ap (λ (x : Seated). writer_if x.0.writes) c.args.reader.now.role)
      (ap (λ (x : Seated). writer_if x.0.writes) c.split_seat-note.ensures.4),
)
