use Rattle.std.proofs.Common.{rules, arith, ◌≡◌, ◌∙◌, ◌∷◌, ◌%◌, sym, ap, Some, ℕ}
use Rattle.atomic_table.specs.Table.{rest}
use Rattle.event_history.specs.Turn.{TurnSeat}
use Rattle.event_history.proofs.Keeps.{loads_lem, takes_of_lem}
use Rattle.event_history.proofs.Turns.{loaded_free, won, begun}
use Rattle.event_history.proofs.turn.begin.Goals as goal

pub load-found-requires : goal.load-found-requires
load-found-requires g c = (search rules, search rules, loads_lem _ _ _ _ _)

pub compare_exchange-won-requires : goal.compare_exchange-won-requires
compare_exchange-won-requires g c =
    let odd = c.if-found-eq1.false in
    let n : ℕ = c.load-found.result in
    let even : n % 2 ≡ 0 = omega arith in
    let free = loaded_free c.args.state.now.seat.me n c.load-found.new.seat.me c.requires.free.0 c.load-found.ensures.2.0 in
    (search rules, search rules, takes_of_lem _ _ _ _ _ _ _ c.requires.setting free even)

pub exchange-requires : goal.exchange-requires
exchange-requires g c =
    let w = won g.J.Over.setting c.compare_exchange-won.result c.load-found.result c.load-found.new.seat.me
    c.compare_exchange-won.new.seat.me c.if-won-found.false c.compare_exchange-won.ensures.2 in
    let e = ap (λ (m : TurnSeat). m.1) w.1 in (search rules, (Some w.0, e ∙ ap (λ l. (0, Some w.0) ∷ rest l) (sym e)))

pub returns-clause-turn : goal.returns-clause-turn
returns-clause-turn g c =
    let w = won g.J.Over.setting c.compare_exchange-won.result c.load-found.result c.load-found.new.seat.me
    c.compare_exchange-won.new.seat.me c.if-won-found.false c.compare_exchange-won.ensures.2 in
    begun g.J.Over.setting c.args.state.now.seat.me c.load-found.new.seat.me c.compare_exchange-won.new.seat.me c.exchange.new.seat.me
    c.load-found.result _ _ c.requires.free.0 c.load-found.ensures.2 w c.exchange.ensures.2 c.exchange.ensures.3 c.unwrap.ensures
