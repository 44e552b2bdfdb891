use Rattle.std.proofs.Common.{ℕ, List, Option, Some, reverse, ap, ◌∙◌, subst}
use Rattle.strong_apa.specs.Reply.{filling_chain, coming_chain}
use Rattle.live_core.specs.MoveData.{AreMovesTwice, entered_by, guest_who_stays}
use Rattle.live_core.proofs.Netting.{stays_out}
use Rattle.live_core.proofs.moves.MoveList.remask.Goals as goal

pub pass_on_twice-requires-clause-can : goal.pass_on_twice-requires-clause-can
pass_on_twice-requires-clause-can c = (
  c.requires.can.0,
  rw (
    c.guest_who_stays-first.ensures,
    c.entered_by-entered.ensures,
    c.processors-one.ensures.value ∙ c.reversed_filling-filling.ensures,
    c.coming_chain-two.ensures.value,
  )
      (stays_out _ _ _ _ _ _ c.requires.can.1),
)

pub returns-clause-occupants : goal.returns-clause-occupants
returns-clause-occupants c = λ after twice.
    c.pass_on_twice.ensures.occupants after
    (rw (
      c.guest_who_stays-first.ensures,
      c.entered_by-entered.ensures,
      c.processors-one.ensures.value ∙ c.reversed_filling-filling.ensures,
      c.coming_chain-two.ensures.value,
    )
    (stays_out _ _ _ _ _ _ twice))

pub returns-clause-exact : goal.returns-clause-exact
returns-clause-exact c =
    let on = c.args.self.now.occupants in
    let reply = c.args.reply.now in
    let moves = c.pass_on_twice.new.self.moves in
    let second = Some c.args.task in
    let one = c.processors-one.ensures.value ∙ c.reversed_filling-filling.ensures in
    let two = c.coming_chain-two.ensures.value in
    let first =
    c.guest_who_stays-first.ensures
    ∙ ap (λ (g : Option ℕ). guest_who_stays g c.processors-one.result.now c.coming_chain-two.result.now) c.entered_by-entered.ensures
    ∙ ap (λ (l : List ℕ). guest_who_stays (entered_by reply) l c.coming_chain-two.result.now) one
    ∙ ap (λ (l : List ℕ). guest_who_stays (entered_by reply) (reverse (filling_chain reply)) l) two in
    subst (λ (g : Option ℕ). AreMovesTwice on g (reverse (filling_chain reply)) second (coming_chain reply) moves) first
    (subst (λ (l : List ℕ). AreMovesTwice on c.guest_who_stays-first.result l second (coming_chain reply) moves) one
    (subst (λ (l : List ℕ). AreMovesTwice on c.guest_who_stays-first.result c.processors-one.result.now second l moves)
    two c.pass_on_twice.ensures.exact))
