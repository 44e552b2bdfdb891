use Rattle.std.proofs.Common.{◌≡◌, ◌-◌, ◌∙◌, ◌++◌, Bool, true, List, length, take, drop, arith, length-drop, Result, Ok, Err, MatchResult}
use Rattle.std.proofs.Common.{MatchBool, refl, sym, ap, subst, rules}
use Rattle.std.specs.Result.{IsOkAnd}
use Rattle.std.proofs.lemmas.List.{take_all}
use Rattle.std.proofs.lemmas.Result.{MatchResult-weaker}
use Rattle.strong_apa.specs.declared.reply.Entry.{Entry}
use Rattle.event_history.proofs.Leaving.{busy_grown, may_leave, left_grown, left_mine, left_had}
use Rattle.event_history.specs.Turn.{TurnSeat, setting_of}
use Rattle.event_history.proofs.board.history.history_once.Goals as goal

pub returns-in-Err-clause-same : goal.returns-in-Err-clause-same
returns-in-Err-clause-same g c = (c.begin.ensures.same.0, c.begin.ensures.same.1, c.begin.ensures.same.2, c.in-Err.ensures.busy.free)

pub returns-in-Err-clause-grown : goal.returns-in-Err-clause-grown
returns-in-Err-clause-grown g c = busy_grown c.args.turn.now.table_id c.args.state.now.eyes c.begin.new.state.eyes
    c.args.state.now.seat.me.0 c.begin.new.state.seat.me _ c.in-Err.ensures.busy

pub leave-requires-clause-turn : goal.leave-requires-clause-turn
leave-requires-clause-turn g c = (
  may_leave g.J.Over.setting (setting_of c.args.turn.now.key) c.args.state.now.seat.me.0 c.begin.new.state.seat.me c.in-Ok.held c.in-Ok.held
      c.requires.setting c.in-Ok.ensures.turn refl (λ closed. closed) refl refl,
  c.begin.ensures.same.2,
)

pub returns-clause-grown : goal.returns-clause-grown
returns-clause-grown g c =
    left_grown g.J.Over.setting c.args.turn.now.table_id c.args.state.now.eyes c.leave.new.state.eyes c.args.state.now.seat.me.0
    c.begin.new.state.seat.me c.leave.new.state.seat.me c.in-Ok.held c.in-Ok.held.core c.in-Ok.ensures.turn refl (λ closed. closed)
    c.leave.ensures.view

pub returns-clause-mine : goal.returns-clause-mine
returns-clause-mine g c =
    left_mine g.J.Over.setting c.args.turn.now.table_id c.args.state.now.eyes c.leave.new.state.eyes c.args.state.now.seat.me.0
    c.begin.new.state.seat.me c.leave.new.state.seat.me c.in-Ok.held c.in-Ok.held.core c.in-Ok.ensures.turn c.leave.ensures.view

-- the answer says that the entries were copied
said : {E : Type 0} (A B C : Type 0) (post : Unit {0} → Bool → Type 0) (r : Result (Unit {0}) E) (m : Result Bool E)
    → ((x : Unit {0}) (took : Bool) → post x took → took ≡ true)
    → MatchResult r (λ x. IsOkAnd m (post x)) (λ e. m ≡ Err e) → MatchResult r (λ _. A) (λ _. B)
    → MatchResult m (λ took. MatchBool took A C) (λ _. B)
said A B C post (Ok x) (Ok took) so told is = subst (λ b. MatchBool b A C) (sym (so x took told)) is
said A B C post (Ok x) (Err e) so told is = absurd told
said A B C post (Err e) m so told is = subst (λ x. MatchResult x (λ took. MatchBool took A C) (λ _. B)) (sym told) is

pub returns-clause-copied : goal.returns-clause-copied
returns-clause-copied g c =
    let had = left_had g.J.Over.setting c.args.turn.now.table_id c.args.state.now.eyes c.leave.new.state.eyes c.args.state.now.seat.me.0
    c.begin.new.state.seat.me c.leave.new.state.seat.me c.in-Ok.held c.in-Ok.held.core c.args.turn.now.key.set.value
    c.in-Ok.ensures.turn refl c.leave.ensures.view c.leave.ensures.legal c.history.ensures.valid.fits in
    let seen : c.history.result.now ≡ c.leave.new.state.seat.me.0.seen = c.history.ensures.value
    ∙ sym (ap (λ (m : TurnSeat). m.0.seen) c.leave.ensures.view) in
    let history : List Entry = c.history.result.now in
    let rest : take (length history - c.args.from) (drop c.args.from history) ≡ drop c.args.from c.leave.new.state.seat.me.0.seen =
    take_all _ (drop c.args.from history) (omega (arith, length-drop c.args.from history)) ∙ ap (drop c.args.from) seen in
    said _ _ _ _ c.copy_entries-copied.result c.map.result (λ x took post. search rules) c.map.ensures.cases
    (MatchResult-weaker c.copy_entries-copied.result c.copy_entries-copied.ensures
    (λ _ copied. (had, copied ∙ ap (λ (l : List Entry). c.args.into.now.items ++ l) rest)) (λ _ same. (had, same)))
