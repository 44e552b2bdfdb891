use Rattle.std.proofs.Common.{sym, ◌∙◌}
use Rattle.strong_apa.proofs.KeptByChanges.{nobody_off}
use Rattle.weak_apa.proofs.Leaving.{stable_online}
use Rattle.weak_apa.proofs.weak.online.Goals as goal

pub set_online-requires-clause-nobody : goal.set_online-requires-clause-nobody
set_online-requires-clause-nobody c =
    nobody_off c.args.links.now c.is_online.ensures.valid c.args.p (sym c.is_online.ensures.value ∙ c.if-is_online.false)

pub fill-requires-clause-nobody : goal.fill-requires-clause-nobody
fill-requires-clause-nobody c = rw c.set_online.ensures.online
    (nobody_off c.args.links.now c.is_online.ensures.valid c.args.p (sym c.is_online.ensures.value ∙ c.if-is_online.false))

pub fill-requires-clause-stable : goal.fill-requires-clause-stable
fill-requires-clause-stable c = rw c.set_online.ensures.online (stable_online c.args.links.now c.args.p c.requires.stable)
