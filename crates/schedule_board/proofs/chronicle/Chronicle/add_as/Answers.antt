use Rattle.std.proofs.Common.{sym, ap, rules}
use Rattle.task_set.specs.declared.event.Event.TheVariants.{Tick}
use Rattle.strong_apa.specs.declared.reply.Reply.TheVariants.{Ticked}
use Rattle.schedule_board.proofs.Entering.{adds_moves}
use Rattle.schedule_board.proofs.chronicle.Chronicle.add_as.Goals as goal

pub compare_exchange-found-requires : goal.compare_exchange-found-requires
compare_exchange-found-requires g c =
    let self = c.args.self.now in
    let h = self.head_is in
    let again = c.again-reached.ensures in
    let offer = c.plain-offer.ensures in
    let pen = c.no_pen-pen.ensures in (
      search rules,
      search rules,
      search rules,
      search rules,
      rw (ap (λ w. w.key) h, pen.1, offer.3, ap (λ s. s.log) again, ← c.requires.picked)
          (adds_moves self.reached.log c.args.more.now (record { caller = 0; event = Tick 0; reply = Ticked }) self.count
          (sym self.counted)),
    )
