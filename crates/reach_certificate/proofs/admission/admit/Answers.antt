use Rattle.std.proofs.Common.{◌≡◌, ℕ, false, true, reverse, sym, ap, ◌∙◌, subst}
use Rattle.affinity_mask.specs.ProcSet.{empty}
use Rattle.strong_apa.specs.State.{State, IsState, IsWaiting, state_with_ready}
use Rattle.strong_apa.specs.Chain.{state_after_shift}
use Rattle.reach_certificate.specs.Admission.{Admitted}
use Rattle.reach_certificate.specs.Search.{IsWay, IsFull}
use Rattle.reach_certificate.proofs.Admissions.{Admitted-full, Admitted-way}
use Rattle.reach_certificate.proofs.admission.admit.Goals as goal

pub returns-in-Way-clause-admitted : goal.returns-in-Way-clause-admitted
returns-in-Way-clause-admitted c =
    let e = c.make_ready.ensures.ready in
    let chain = reverse c.in-Way.back in
    let shifted : c.shift.new.self ≡ state_after_shift (state_with_ready c.args.links.now c.args.t) c.args.t chain =
    c.shift.ensures.links ∙ ap (state_after_shift c.make_ready.new.self c.args.t) c.reversed.ensures
    ∙ ap (λ (s : State). state_after_shift s c.args.t chain) e in
    subst (Admitted c.args.links.now c.args.t true) (sym shifted)
    (Admitted-way c.args.links.now c.args.t c.requires.number c.requires.absent (subst IsState e c.make_ready.ensures.valid)
    (subst (λ (s : State). IsWaiting s c.args.t) e c.make_ready.ensures.waits) c.requires.least_urgent c.requires.certificates
    chain (subst (λ (s : State). IsWay s c.args.t empty chain) e
    (subst (λ (X : ℕ). IsWay c.make_ready.new.self c.args.t X chain) c.empty.ensures c.in-Way.ensures)))

pub returns-in-Full-clause-admitted : goal.returns-in-Full-clause-admitted
returns-in-Full-clause-admitted c =
    let e = c.make_ready.ensures.ready in
    subst (Admitted c.args.links.now c.args.t false) (sym e)
    (Admitted-full c.args.links.now c.args.t c.requires.number c.requires.absent (subst IsState e c.make_ready.ensures.valid)
    (subst (λ (s : State). IsWaiting s c.args.t) e c.make_ready.ensures.waits) c.requires.least_urgent c.requires.certificates
    c.in-Full.field-0 (subst (λ (s : State). IsFull s c.args.t empty c.in-Full.field-0) e
    (subst (λ (X : ℕ). IsFull c.make_ready.new.self c.args.t X c.in-Full.field-0) c.empty.ensures c.in-Full.ensures)))
