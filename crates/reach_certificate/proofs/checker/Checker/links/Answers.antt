use Rattle.std.proofs.Common.{subst}
use Rattle.reach_certificate.specs.Checker.{CheckerData}
use Rattle.strong_apa.specs.CertificateLaws.{LinkedIsBest}
use Rattle.strong_apa.proofs.Best.{linked_is_best}
use Rattle.reach_certificate.proofs.checker.Checker.links.Goals as goal

pub returns-clause-best : goal.returns-clause-best
returns-clause-best c = subst (λ (checker : CheckerData). LinkedIsBest checker.links) c.self.view_is
    (linked_is_best c.self.inside.links c.self.invariant.checker.state c.self.invariant.checker.certificates)
