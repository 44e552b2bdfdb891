use Rattle.std.proofs.Common.{◌≡◌, ℕ, ◌<◌, List, [], ◌∷◌, length, reverse, refl, ap, ◌∙◌, arith}
use Rattle.live_core.proofs.StepPasses.{Passes-same}
use Rattle.live_core.proofs.moves.MoveList.fill.Goals as goal

-- a list of at most one processor is the same from its end
turned : (chain : List ℕ) → length chain < 2 → chain ≡ reverse chain
turned [] short = refl
turned (p ∷ []) short = refl
turned (p ∷ q ∷ rest) short = absurd (omega arith)

pub pass_on-requires-clause-can : goal.pass_on-requires-clause-can
pass_on-requires-clause-can c =
    let same = turned c.filling_chain-filling.result.now c.if-filling-lt2.true ∙ ap reverse c.filling_chain-filling.ensures.value in
    (c.requires.can.0, Passes-same _ _ _ _ _ _ _ refl c.entered_by-entered.ensures same c.requires.can.1)

pub returns-then-filling-lt2-clause-occupants : goal.returns-then-filling-lt2-clause-occupants
returns-then-filling-lt2-clause-occupants c = λ after passes.
    let same = turned c.filling_chain-filling.result.now c.if-filling-lt2.true ∙ ap reverse c.filling_chain-filling.ensures.value in
    c.pass_on.ensures.occupants after (Passes-same _ _ _ _ _ _ _ refl c.entered_by-entered.ensures same passes)
