use Rattle.std.proofs.Common.{rules, arith, ap, sym, refl, ◌∙◌, ◌∷◌, Some}
use Rattle.atomic_table.specs.Table.{rest}
use Rattle.context_slots.specs.HandSteps.{SeatState}
use Rattle.context_slots.proofs.Keeps.{takes_lem, won, settled}
use Rattle.context_slots.proofs.turn_words.TurnWords.take.Goals as goal

pub compare_exchange-found-requires : goal.compare_exchange-found-requires
compare_exchange-found-requires c = (search rules, search rules, takes_lem _ _ _ _ _ _ c.requires.hand.1 c.requires.hand.2 (omega arith))

pub exchange-requires : goal.exchange-requires
exchange-requires c =
    let w = won _ _ _ _ c.if-found-home.false c.compare_exchange-found.ensures.2 in
    let e = ap (λ (m : SeatState). m.1) w.2 in (search rules, (Some w.0, e ∙ ap (λ l. (c.args.task, Some w.0) ∷ rest l) (sym e)))

pub returns-clause-turn : goal.returns-clause-turn
returns-clause-turn c =
    let w = won _ _ _ _ c.if-found-home.false c.compare_exchange-found.ensures.2 in
    let done = settled c.args.hand.now.seat.me.0 c.args.task c.args.number _ _ w.0 _ _ _ _ _ w.1 (omega arith)
    c.if-found-home.false w.2 c.exchange.ensures.2 c.exchange.ensures.3 c.unwrap-context.ensures c.took.ensures
    c.args.hand.now.numbered in
    (refl, refl, done.0, done.1, done.2)
