use Rattle.std.proofs.Common.{arith}
use Rattle.std.proofs.lemmas.Bool.{ltb-true}
use Rattle.strong_apa.proofs.Masks.{effective_mask_below}
use Rattle.live_core.proofs.seen.may_run_on.Goals as goal

pub returns-else-q-processors : goal.returns-else-q-processors
returns-else-q-processors c =
    let late = c.if-q-processors.false in
    let n = c.processors.ensures.value in (
      (λ h. absurd (let lt = ltb-true c.args.q c.processors.result h in omega arith)),
      (λ h. absurd (let lt = effective_mask_below c.args.links.now c.processors.ensures.valid c.args.t c.args.q h in omega arith)),
    )
