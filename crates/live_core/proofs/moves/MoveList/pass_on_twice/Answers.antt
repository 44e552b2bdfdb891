use Rattle.std.proofs.Common.{List, Option, ℕ, Some, ◌++◌, length, ap, refl, subst, ◌∙◌, arith}
use Rattle.live_core.specs.MoveData.{passing_moves, IsOnce}
use Rattle.live_core.specs.declared.moves.Move.{Move}
use Rattle.live_core.proofs.Replaying.{Replays-once, DoesMore-then, DoesMore-count}
use Rattle.live_core.proofs.StepPasses.{Passes-same}
use Rattle.live_core.proofs.moves.MoveList.pass_on_twice.Goals as goal

pub pass_on-requires-clause-can : goal.pass_on-requires-clause-can
pass_on-requires-clause-can c = (c.requires.can.1.0, c.requires.can.1.1)

pub pass_on-requires-2-clause-can : goal.pass_on-requires-2-clause-can
pass_on-requires-2-clause-can c = (
  c.requires.can.0,
  Passes-same _ _ _ _ _ _ _ (c.pass_on.ensures.occupants c.requires.can.1.0 c.requires.can.1.1)
      refl refl c.requires.can.1.2,
)

pub pass_on-requires-2-clause-room : goal.pass_on-requires-2-clause-room
pass_on-requires-2-clause-room c =
    let none = ap length c.requires.none in
    let count = DoesMore-count 65 c.args.self.now c.pass_on.new.self c.pass_on.ensures.more in
    omega arith

pub returns-clause-more : goal.returns-clause-more
returns-clause-more c =
    DoesMore-then 65 65 130 c.args.self.now c.pass_on.new.self c.pass_on-2.new.self c.pass_on.ensures.more c.pass_on-2.ensures.more
    (omega arith)

pub returns-clause-occupants : goal.returns-clause-occupants
returns-clause-occupants c = λ after twice.
    c.pass_on-2.ensures.occupants after (Passes-same _ _ _ _ _ _ _ (c.pass_on.ensures.occupants twice.0 twice.1) refl refl twice.2)

pub returns-clause-exact : goal.returns-clause-exact
returns-clause-exact c = λ between passes.
    let on = c.args.self.now.occupants in
    let one = passing_moves on c.args.first c.args.one.now in
    let same = c.pass_on.ensures.occupants between passes in (
      c.pass_on-2.ensures.added
          ∙ ap (λ (moves : List Move). moves ++ passing_moves c.pass_on.new.self.occupants (Some c.args.second) c.args.two.now)
          (c.pass_on.ensures.added ∙ ap (λ (moves : List Move). moves ++ one) c.requires.none)
          ∙ ap (λ (o : List (Option ℕ)). one ++ passing_moves o (Some c.args.second) c.args.two.now) same,
      λ once. subst IsOnce same (Replays-once on c.pass_on.ensures.more.more c.pass_on.new.self.occupants c.pass_on.ensures.more.replays
          once),
    )
