use Rattle.std.proofs.Common.{sym, ap, ◌∙◌}
use Rattle.strong_apa.specs.State.{State, state_with_offline}
use Rattle.strong_apa.proofs.KeptByChanges.{nobody_off}
use Rattle.reach_certificate.proofs.Online.{off_again}
use Rattle.reach_certificate.proofs.change.follow_online.Goals as goal

pub set_online-requires-clause-nobody : goal.set_online-requires-clause-nobody
set_online-requires-clause-nobody c =
    nobody_off c.args.links.now c.is_online.ensures.valid c.args.p (sym c.is_online.ensures.value ∙ c.if-is_online.false)

pub set_online-requires-in-Some-clause-nobody : goal.set_online-requires-in-Some-clause-nobody
set_online-requires-in-Some-clause-nobody c = rw c.set_online.ensures.online
    (nobody_off c.args.links.now c.is_online.ensures.valid c.args.p (sym c.is_online.ensures.value ∙ c.if-is_online.false))

pub returns-in-Some-clause-refused : goal.returns-in-Some-clause-refused
returns-in-Some-clause-refused c =
    c.set_online-in-Some.ensures.online
    ∙ ap (λ (s : State). state_with_offline s c.args.p) c.set_online.ensures.online
    ∙ off_again c.args.links.now c.args.p (sym c.is_online.ensures.value ∙ c.if-is_online.false)
