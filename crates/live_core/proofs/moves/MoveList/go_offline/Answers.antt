use Rattle.std.proofs.Common.{ℕ, List, [], ◌∷◌, None, Some, Option, refl, sym, subst, arith}
use Rattle.strong_apa.specs.declared.reply.Moved.{Moved}
use Rattle.live_core.specs.MoveData.{OfflinePassesOn, AreOfflineMoves, AreMovesTwice}
use Rattle.live_core.proofs.Replaying.{DoesMore-nothing, DoesMore-fewer}
use Rattle.live_core.proofs.StepPasses.{Passes-same}
use Rattle.live_core.proofs.moves.MoveList.go_offline.Goals as goal

pub pass_on_twice-requires-clause-can : goal.pass_on_twice-requires-clause-can
pass_on_twice-requires-clause-can c =
    let twice = subst (λ (m : Option Moved). OfflinePassesOn c.args.self.now.occupants c.args.p m c.requires.can.0) (sym c.in-Some.ensures)
    c.requires.can.1 in
    (c.requires.can.0, (twice.0, twice.1, Passes-same _ _ _ _ _ _ _ refl refl c.chain-two.ensures.value twice.2))

pub returns-in-Some-clause-occupants : goal.returns-in-Some-clause-occupants
returns-in-Some-clause-occupants c = λ after passes.
    let twice = subst (λ (m : Option Moved). OfflinePassesOn c.args.self.now.occupants c.args.p m after) (sym c.in-Some.ensures) passes in
    c.pass_on_twice.ensures.occupants after (twice.0, twice.1, Passes-same _ _ _ _ _ _ _ refl refl c.chain-two.ensures.value twice.2)

pub returns-in_default-clause-more : goal.returns-in_default-clause-more
returns-in_default-clause-more c = DoesMore-fewer 0 130 c.args.self.now c.args.self.now (omega arith) (DoesMore-nothing c.args.self.now)

pub returns-in_default-clause-occupants : goal.returns-in_default-clause-occupants
returns-in_default-clause-occupants c = λ after passes.
    subst (λ (m : Option Moved). OfflinePassesOn c.args.self.now.occupants c.args.p m after) (sym c.in_default.ensures) passes

pub returns-in-Some-clause-exact : goal.returns-in-Some-clause-exact
returns-in-Some-clause-exact c =
    subst (λ (m : Option Moved). AreOfflineMoves c.args.self.now.occupants c.args.p m c.pass_on_twice.new.self.moves) c.in-Some.ensures
    (subst (λ (two : List ℕ). AreMovesTwice c.args.self.now.occupants None (c.args.p ∷ []) (Some c.in-Some.moved.now.task)
    two c.pass_on_twice.new.self.moves) c.chain-two.ensures.value c.pass_on_twice.ensures.exact)
